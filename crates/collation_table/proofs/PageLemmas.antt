-- Lemmas on pages: an empty page more, a page filled up, and a place written.
use Rattle.std.proofs.Common.{◌≡◌, ℕ, zero, suc, ◌/◌, ◌%◌, ◌<◌, ◌≤◌, List, [], ◌∷◌, ◌++◌, length, take, Option, Some, Vec, slice_get, get_or, set, replicate, refl, sym, ap, ◌∙◌, arith}
use Rattle.std.proofs.lemmas.List.{get_or-set_same, get_or-set_other}
use Rattle.collation_table.specs.declared.pages.PageEntry.{PageEntry}
use Rattle.collation_table.specs.Trie.{in_page, page_entry, no_page_entry}

replicated : (n i : ℕ) → get_or (replicate n no_page_entry) i no_page_entry ≡ no_page_entry
replicated zero i = refl
replicated (suc n) zero = refl
replicated (suc n) (suc i) = replicated n i

pub filled : (page : List PageEntry) (n i : ℕ) → get_or (page ++ replicate n no_page_entry) i no_page_entry ≡ get_or page i no_page_entry
filled [] n i = replicated n i
filled (e ∷ page) n zero = refl
filled (e ∷ page) n (suc i) = filled page n i

-- a page is replaced by one that has the same for each place
in_page-set : {A : Type 0} (pages : List (Vec PageEntry A)) (n : ℕ) (v w : Vec PageEntry A) → slice_get pages n ≡ Some w → (i : ℕ) → get_or v.items i no_page_entry ≡ get_or w.items i no_page_entry
    → (k : ℕ) → in_page (slice_get (set pages n v) k) i ≡ in_page (slice_get pages k) i
in_page-set [] n v w has i same k = cc
in_page-set (p ∷ pages) zero v w has i same zero = same ∙ ap (λ (o : Option (Vec PageEntry _)). in_page o i) (sym has)
in_page-set (p ∷ pages) zero v w has i same (suc k) = refl
in_page-set (p ∷ pages) (suc n) v w has i same zero = refl
in_page-set (p ∷ pages) (suc n) v w has i same (suc k) = in_page-set pages n v w has i same k

-- ---- the page at a number

pub get_or_get : {X : Type 0} (xs : List X) (n : ℕ) (d w : X) → n < length xs → get_or xs n d ≡ w → slice_get xs n ≡ Some w
get_or_get [] n d w lt is = absurd (omega arith)
get_or_get (x ∷ xs) zero d w lt is = ap Some is
get_or_get (x ∷ xs) (suc n) d w lt is = get_or_get xs n d w (omega arith) is

pub get_set : {X : Type 0} (xs : List X) (n : ℕ) (v : X) → n < length xs → slice_get (set xs n v) n ≡ Some v
get_set [] n v lt = absurd (omega arith)
get_set (x ∷ xs) zero v lt = refl
get_set (x ∷ xs) (suc n) v lt = get_set xs n v (omega arith)

pub some_same : {X : Type 0} (o : Option X) (v w : X) → o ≡ Some v → o ≡ Some w → v ≡ w
some_same o v w p q = cc

take_page : (n : ℕ) (xs : List PageEntry) → length xs ≤ n → take n xs ≡ xs
take_page zero [] le = refl
take_page zero (x ∷ xs) le = absurd (omega arith)
take_page (suc n) [] le = refl
take_page (suc n) (x ∷ xs) le = ap (λ l. x ∷ l) (take_page n xs (omega arith))

pub page_entry-filled : {A : Type 0} (pages : List (Vec PageEntry A)) (n m size : ℕ) (v w : Vec PageEntry A) → slice_get pages n ≡ Some w → length w.items ≤ size
    → v.items ≡ take size w.items ++ replicate m no_page_entry → (cp : ℕ) → page_entry (set pages n v) cp ≡ page_entry pages cp
page_entry-filled pages n m size v w has le is cp =
    in_page-set pages n v w has (cp % 256) (ap (λ l. get_or l (cp % 256) no_page_entry) (is ∙ ap (λ l. l ++ replicate m no_page_entry) (take_page size w.items le)) ∙ filled w.items m (cp % 256)) (cp / 256)

-- ---- a place written

in_page-written : {A : Type 0} (pages : List (Vec PageEntry A)) (n i : ℕ) (v w : Vec PageEntry A) (e : PageEntry) → slice_get pages n ≡ Some w → v.items ≡ set w.items i e
    → (k j : ℕ) → ((k ≡ n) → (j ≡ i) → ⊥) → in_page (slice_get (set pages n v) k) j ≡ in_page (slice_get pages k) j
in_page-written [] n i v w e has is k j other = cc
in_page-written {A} (p ∷ pages) zero i v w e has is zero j other =
    let same : p ≡ w = some_same (Some p) p w refl has in
    ap (λ l. get_or l j no_page_entry) is ∙ get_or-set_other w.items i j e no_page_entry (λ q. other refl q) ∙ ap (λ (x : Vec PageEntry A). get_or x.items j no_page_entry) (sym same)
in_page-written (p ∷ pages) zero i v w e has is (suc k) j other = refl
in_page-written (p ∷ pages) (suc n) i v w e has is zero j other = refl
in_page-written (p ∷ pages) (suc n) i v w e has is (suc k) j other = in_page-written pages n i v w e has is k j (λ q. other (ap suc q))

pub page_entry-others : {A : Type 0} (pages : List (Vec PageEntry A)) (cp : ℕ) (v w : Vec PageEntry A) (e : PageEntry) → slice_get pages (cp / 256) ≡ Some w → v.items ≡ set w.items (cp % 256) e
    → (q : ℕ) → ((q ≡ cp) → ⊥) → page_entry (set pages (cp / 256) v) q ≡ page_entry pages q
page_entry-others pages cp v w e has is q other = in_page-written pages (cp / 256) (cp % 256) v w e has is (q / 256) (q % 256) (λ k j. other (omega arith))

pub page_entry-here : {A : Type 0} (pages : List (Vec PageEntry A)) (cp : ℕ) (v w : Vec PageEntry A) (e : PageEntry) → cp / 256 < length pages → cp % 256 < length w.items → v.items ≡ set w.items (cp % 256) e
    → page_entry (set pages (cp / 256) v) cp ≡ e
page_entry-here pages cp v w e lt within is =
    ap (λ o. in_page o (cp % 256)) (get_set pages (cp / 256) v lt) ∙ ap (λ l. get_or l (cp % 256) no_page_entry) is ∙ get_or-set_same w.items (cp % 256) e no_page_entry within
