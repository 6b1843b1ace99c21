-- Lemmas on the steps of a trie: what one more node and one more place change, and what the labels of nodes say.
use Rattle.std.proofs.Common.{◌≡◌, ℕ, zero, suc, ◌+◌, ◌-◌, ◌<◌, ◌≤◌, Bool, true, false, cond, get_or, set, List, [], ◌∷◌, ◌++◌, length, take, drop, Option, Some, None, is_some, refl, sym, ap, subst, ◌∙◌, arith, ◌⊎◌, inl, inr, length-drop, append_assoc, Vec}
use Rattle.std.proofs.lemmas.Bool.{cases_lt}
use Rattle.std.proofs.lemmas.List.{take_more}
use Rattle.collation_table.specs.Table.{TableMap, is_mapped, longest_prefix, longest_prefix_within}
use Rattle.collation_table.specs.declared.pages.Entry.{Entry}
use Rattle.collation_table.specs.Spelling.{◌>>=◌}
use Rattle.collation_table.specs.declared.pages.PageEntry.{PageEntry}
use Rattle.std.specs.BTreeMap.{BTreeMap, get}
use Rattle.std.specs.Map.{lookup}
use Rattle.std.specs.declared.cmp.Ordering.{Ordering}
use Rattle.std.specs.declared.cmp.Ordering.TheVariants.{Less, Equal, Greater}
use Rattle.std.specs.Ordering.{is_eq, nat_cmp}
use Rattle.std.proofs.lemmas.Map.Lookups.{exact_pairs, exact_unsigned}
use Rattle.std.proofs.lemmas.List.{get_or-set_same, get_or-set_other}
use Rattle.collation_table.specs.declared.first_steps.FirstStep.{FirstStep}
use Rattle.collation_table.specs.Trie.{no_entry, no_page_entry, page_entry, step_at, step_cmp, or_no_entry, seek, place_from, Leads, IsTrieOf, IsSet, IsFirst, AreFirst, first_of, no_first_step}

-- ---- cases

pub same_or_not : (s c t d : ℕ) → ((s ≡ t) × (c ≡ d)) ⊎ ((s ≡ t) → (c ≡ d) → ⊥)
same_or_not s c t d = by (cases_lt s t) (cases_lt t s) (cases_lt c d) (cases_lt d c)
  where
    by : (s < t) ⊎ (t ≤ s) → (t < s) ⊎ (s ≤ t) → (c < d) ⊎ (d ≤ c) → (d < c) ⊎ (c ≤ d) → ((s ≡ t) × (c ≡ d)) ⊎ ((s ≡ t) → (c ≡ d) → ⊥)
    by (inl l) _ _ _ = inr (λ e f. omega arith)
    by (inr l) (inl m) _ _ = inr (λ e f. omega arith)
    by (inr l) (inr m) (inl a) _ = inr (λ e f. omega arith)
    by (inr l) (inr m) (inr a) (inl b) = inr (λ e f. omega arith)
    by (inr l) (inr m) (inr a) (inr b) = inl (omega arith, omega arith)

is_or_not : (s t : ℕ) → (s ≡ t) ⊎ ((s ≡ t) → ⊥)
is_or_not s t = by (cases_lt s t) (cases_lt t s)
  where
    by : (s < t) ⊎ (t ≤ s) → (t < s) ⊎ (s ≤ t) → (s ≡ t) ⊎ ((s ≡ t) → ⊥)
    by (inl l) _ = inr (λ e. omega arith)
    by (inr l) (inl m) = inr (λ e. omega arith)
    by (inr l) (inr m) = inl (omega arith)

bind-same : {A B : Type 0} (o : Option A) (f g : A → Option B) → ((n : A) → f n ≡ g n) → (o >>= f) ≡ (o >>= g)
bind-same None f g same = refl
bind-same (Some n) f g same = same n

bind-none : {A B : Type 0} (o : Option A) (f : A → Option B) → ((n : A) → o ≡ Some n → f n ≡ None) → (o >>= f) ≡ None
bind-none None f same = refl
bind-none (Some n) f same = same n refl

seek-no_entry : (E : ℕ → ℕ → Entry) (cs : List ℕ) → seek E no_entry cs ≡ None
seek-no_entry E [] = refl
seek-no_entry E (c ∷ cs) = refl

-- ---- one more node

pub seek-add : (E F : ℕ → ℕ → Entry) (s c : ℕ) (e : Entry) (count : ℕ) → IsSet E F s c e → e.place ≡ (E s c).place → e.node ≡ Some count → (E s c).node ≡ None
    → s < count → ((d : ℕ) → E count d ≡ no_entry) → (cs : List ℕ) (t d : ℕ) → seek F (F t d) cs ≡ seek E (E t d) cs
seek-add E F s c e count set place node none lt fresh [] t d = by (same_or_not t d s c)
  where
    by : ((t ≡ s) × (d ≡ c)) ⊎ ((t ≡ s) → (d ≡ c) → ⊥) → (F t d).place ≡ (E t d).place
    by (inl same) = rw (same.0, same.1) (ap (λ x. x.place) set.hit ∙ place)
    by (inr other) = ap (λ (x : Entry). x.place) (set.miss t d other)
seek-add E F s c e count set place node none lt fresh (x ∷ cs) t d = by (same_or_not t d s c) (λ n. seek-add E F s c e count set place node none lt fresh cs n x)
  where
    fresh_there : seek F (F count x) cs ≡ None
    fresh_there = ap (λ y. seek F y cs) (set.miss count x (λ q r. omega arith) ∙ fresh x) ∙ seek-no_entry F cs

    by : ((t ≡ s) × (d ≡ c)) ⊎ ((t ≡ s) → (d ≡ c) → ⊥) → ((n : ℕ) → seek F (F n x) cs ≡ seek E (E n x) cs) → ((F t d).node >>= λ n. seek F (F n x) cs) ≡ ((E t d).node >>= λ n. seek E (E n x) cs)
    by (inl same) rest =
        let left : ((F s c).node >>= λ n. seek F (F n x) cs) ≡ None = ap (λ (o : Option ℕ). o >>= λ n. seek F (F n x) cs) (ap (λ (y : Entry). y.node) set.hit ∙ node) ∙ fresh_there in
        let right : ((E s c).node >>= λ n. seek E (E n x) cs) ≡ None = ap (λ (o : Option ℕ). o >>= λ n. seek E (E n x) cs) none in
        rw (same.0, same.1) (left ∙ sym right)
    by (inr other) rest =
        ap (λ (y : Entry). y.node >>= λ n. seek F (F n x) cs) (set.miss t d other)
        ∙ bind-same (E t d).node (λ n. seek F (F n x) cs) (λ n. seek E (E n x) cs) rest

pub place_from-add : (E F : ℕ → ℕ → Entry) (s c : ℕ) (e : Entry) (count : ℕ) → IsSet E F s c e → e.place ≡ (E s c).place → e.node ≡ Some count → (E s c).node ≡ None
    → s < count → ((d : ℕ) → E count d ≡ no_entry) → (t : ℕ) (string : List ℕ) → place_from F t string ≡ place_from E t string
place_from-add E F s c e count set place node none lt fresh t [] = refl
place_from-add E F s c e count set place node none lt fresh t (d ∷ cs) = seek-add E F s c e count set place node none lt fresh cs t d

some_is : {A : Type 0} (x y : A) → Some x ≡ Some y → x ≡ y
some_is x y h = cc

-- the label of the new node
label_with : (ℕ → List ℕ) → ℕ → List ℕ → ℕ → List ℕ
label_with label count new n = elim (is_or_not n count) [ inl _ ↦ new | inr _ ↦ label n ]

label_at : (label : ℕ → List ℕ) (count : ℕ) (new : List ℕ) (n : ℕ) → n ≡ count → label_with label count new n ≡ new
unfolding label_with
label_at label count new n is = by (is_or_not n count)
  where
    by : (o : (n ≡ count) ⊎ ((n ≡ count) → ⊥)) → elim o as (λ _. List ℕ) [ inl _ ↦ new | inr _ ↦ label n ] ≡ new
    by (inl _) = refl
    by (inr other) = absurd (other is)

label_off : (label : ℕ → List ℕ) (count : ℕ) (new : List ℕ) (n : ℕ) → n < count → label_with label count new n ≡ label n
unfolding label_with
label_off label count new n lt = by (is_or_not n count)
  where
    by : (o : (n ≡ count) ⊎ ((n ≡ count) → ⊥)) → elim o as (λ _. List ℕ) [ inl _ ↦ new | inr _ ↦ label n ] ≡ label n
    by (inl same) = absurd (omega (arith, same))
    by (inr _) = refl

node_of_fresh : (e : Entry) (n : ℕ) → e ≡ no_entry → e.node ≡ Some n → ⊥
node_of_fresh e n is some = let none : None ≡ Some n = sym (ap (λ (x : Entry). x.node) is) ∙ some in cc

pub IsTrieOf-add : (E F : ℕ → ℕ → Entry) (s c : ℕ) (e : Entry) (count : ℕ) → IsSet E F s c e → e.node ≡ Some count → s < count → IsTrieOf E count → IsTrieOf F (count + 1)
IsTrieOf-add E F s c e count set node lt trie = record {
  label = label_with trie.label count (trie.label s ++ c ∷ []);
  root = label_off trie.label count _ 0 trie.some_root ∙ trie.root;
  some_root = omega arith;
  labels = λ t d n has. labels t d n has (same_or_not t d s c);
  below = λ t d n has. below t d n has (same_or_not t d s c);
  fresh = λ t d ge. set.miss t d (λ p q. omega arith) ∙ trie.fresh t d (omega arith);
}
  where
    old : (t d n : ℕ) → ((t ≡ s) → (d ≡ c) → ⊥) → (F t d).node ≡ Some n → (E t d).node ≡ Some n
    old t d n other has = sym (ap (λ (x : Entry). x.node) (set.miss t d other)) ∙ has

    new : (t d n : ℕ) → t ≡ s → d ≡ c → (F t d).node ≡ Some n → n ≡ count
    new t d n p q has =
        let there : (F t d).node ≡ Some count = rw (p, q) (ap (λ (x : Entry). x.node) set.hit ∙ node) in
        some_is n count (sym has ∙ there)

    used : (t d n : ℕ) → (E t d).node ≡ Some n → t < count
    used t d n has = elim (cases_lt t count) [ inl l ↦ l | inr ge ↦ absurd (node_of_fresh (E t d) n (trie.fresh t d ge) has) ]

    labels : (t d n : ℕ) → (F t d).node ≡ Some n → ((t ≡ s) × (d ≡ c)) ⊎ ((t ≡ s) → (d ≡ c) → ⊥)
        → label_with trie.label count (trie.label s ++ c ∷ []) n ≡ label_with trie.label count (trie.label s ++ c ∷ []) t ++ d ∷ []
    labels t d n has (inl same) =
        let at_t : label_with trie.label count (trie.label s ++ c ∷ []) t ≡ trie.label s = label_off trie.label count _ t (omega (arith, same.0)) ∙ ap trie.label same.0 in
        label_at trie.label count _ n (new t d n same.0 same.1 has) ∙ (λ i. sym at_t i ++ sym same.1 i ∷ [])
    labels t d n has (inr other) =
        let was = old t d n other has in
        label_off trie.label count _ n (trie.below t d n was).1 ∙ trie.labels t d n was ∙ ap (λ l. l ++ d ∷ []) (sym (label_off trie.label count (trie.label s ++ c ∷ []) t (used t d n was)))

    below : (t d n : ℕ) → (F t d).node ≡ Some n → ((t ≡ s) × (d ≡ c)) ⊎ ((t ≡ s) → (d ≡ c) → ⊥) → (0 < n) × (n < count + 1)
    below t d n has (inl same) =
        let is = new t d n same.0 same.1 has in
        (omega (arith, is), omega (arith, is))
    below t d n has (inr other) =
        let was = trie.below t d n (old t d n other has) in
        (was.0, omega (arith, was.1))

-- ---- ways

pub Leads-end : (E : ℕ → ℕ → Entry) (s : ℕ) (p : List ℕ) (t c n : ℕ) → Leads E s p t → (E t c).node ≡ Some n → Leads E s (p ++ c ∷ []) n
Leads-end E s [] t c n leads has = (n, ap (λ q. (E q c).node) leads ∙ has, refl)
Leads-end E s (d ∷ p) t c n leads has = (leads.0, leads.1, Leads-end E leads.0 p t c n leads.2 has)

-- ways stay where no node is lost
pub Leads-kept : (E F : ℕ → ℕ → Entry) → ((t d n : ℕ) → (E t d).node ≡ Some n → (F t d).node ≡ Some n) → (s : ℕ) (p : List ℕ) (t : ℕ) → Leads E s p t → Leads F s p t
Leads-kept E F kept s [] t leads = leads
Leads-kept E F kept s (d ∷ p) t leads = (leads.0, kept s d leads.0 leads.1, Leads-kept E F kept leads.0 p t leads.2)

pub add_keeps : (E F : ℕ → ℕ → Entry) (s c : ℕ) (e : Entry) → IsSet E F s c e → (E s c).node ≡ None → (t d n : ℕ) → (E t d).node ≡ Some n → (F t d).node ≡ Some n
add_keeps E F s c e set none t d n has = by (same_or_not t d s c)
  where
    by : ((t ≡ s) × (d ≡ c)) ⊎ ((t ≡ s) → (d ≡ c) → ⊥) → (F t d).node ≡ Some n
    by (inl same) =
        let clash : None ≡ Some n = sym none ∙ (λ i. (E (sym same.0 i) (sym same.1 i)).node) ∙ has in
        cc
    by (inr other) = ap (λ (x : Entry). x.node) (set.miss t d other) ∙ has

label_of_end : (E : ℕ → ℕ → Entry) (count : ℕ) (trie : IsTrieOf E count) (s : ℕ) (p : List ℕ) (t : ℕ) → Leads E s p t → trie.label t ≡ trie.label s ++ p
label_of_end E count trie s [] t leads = ap trie.label (sym leads) ∙ sym (nil (trie.label s))
  where
    nil : (l : List ℕ) → l ++ [] ≡ l
    nil [] = refl
    nil (x ∷ xs) = ap (λ l. x ∷ l) (nil xs)
label_of_end E count trie s (d ∷ p) t leads =
    label_of_end E count trie leads.0 p t leads.2 ∙ ap (λ l. l ++ p) (trie.labels s d leads.0 leads.1) ∙ append_assoc (trie.label s) (d ∷ []) p

seek_node : (E : ℕ → ℕ → Entry) (e : Entry) (n : ℕ) (p : List ℕ) (d : ℕ) (q : List ℕ) → e.node ≡ Some n → seek E e (p ++ d ∷ q) ≡ place_from E n (p ++ d ∷ q)
seek_node E e n [] d q has = ap (λ (o : Option ℕ). o >>= λ m. seek E (E m d) q) has
seek_node E e n (x ∷ p) d q has = ap (λ (o : Option ℕ). o >>= λ m. seek E (E m x) (p ++ d ∷ q)) has

pub place_from-way : (E : ℕ → ℕ → Entry) (s : ℕ) (p : List ℕ) (t d : ℕ) (q : List ℕ) → Leads E s p t → place_from E s (p ++ d ∷ q) ≡ place_from E t (d ∷ q)
place_from-way E s [] t d q leads = ap (λ n. seek E (E n d) q) leads
place_from-way E s (x ∷ p) t d q leads = seek_node E (E s x) leads.0 p d q leads.1 ∙ place_from-way E leads.0 p t d q leads.2

-- ---- one more place

pub put_node : (E F : ℕ → ℕ → Entry) (s c : ℕ) (e : Entry) → IsSet E F s c e → e.node ≡ (E s c).node → (t d : ℕ) → (F t d).node ≡ (E t d).node
put_node E F s c e set node t d = by (same_or_not t d s c)
  where
    by : ((t ≡ s) × (d ≡ c)) ⊎ ((t ≡ s) → (d ≡ c) → ⊥) → (F t d).node ≡ (E t d).node
    by (inl same) = rw (same.0, same.1) (ap (λ (x : Entry). x.node) set.hit ∙ node)
    by (inr other) = ap (λ (x : Entry). x.node) (set.miss t d other)

seek-put : (E F : ℕ → ℕ → Entry) (s c : ℕ) (e : Entry) (count : ℕ) → IsSet E F s c e → e.node ≡ (E s c).node → (trie : IsTrieOf E count)
    → (cs : List ℕ) (t d : ℕ) → ((trie.label t ++ d ∷ cs ≡ trie.label s ++ c ∷ []) → ⊥) → seek F (F t d) cs ≡ seek E (E t d) cs
seek-put E F s c e count set node trie [] t d differs = by (same_or_not t d s c)
  where
    by : ((t ≡ s) × (d ≡ c)) ⊎ ((t ≡ s) → (d ≡ c) → ⊥) → (F t d).place ≡ (E t d).place
    by (inl same) = absurd (differs (λ i. trie.label (same.0 i) ++ same.1 i ∷ []))
    by (inr other) = ap (λ (x : Entry). x.place) (set.miss t d other)
seek-put E F s c e count set node trie (x ∷ cs) t d differs =
    ap (λ (o : Option ℕ). o >>= λ n. seek F (F n x) cs) (put_node E F s c e set node t d) ∙ by (E t d).node refl (λ n. seek-put E F s c e count set node trie cs n x)
  where
    by : (o : Option ℕ) → (E t d).node ≡ o → ((n : ℕ) → ((trie.label n ++ x ∷ cs ≡ trie.label s ++ c ∷ []) → ⊥) → seek F (F n x) cs ≡ seek E (E n x) cs) → (o >>= λ n. seek F (F n x) cs) ≡ (o >>= λ n. seek E (E n x) cs)
    by None is rest = refl
    by (Some n) is rest =
        rest n (λ h. differs (sym (append_assoc (trie.label t) (d ∷ []) (x ∷ cs)) ∙ ap (λ l. l ++ x ∷ cs) (sym (trie.labels t d n is)) ∙ h))

pub IsTrieOf-put : (E F : ℕ → ℕ → Entry) (s c : ℕ) (e : Entry) (count : ℕ) → IsSet E F s c e → e.node ≡ (E s c).node → s < count → IsTrieOf E count → IsTrieOf F count
IsTrieOf-put E F s c e count set node lt trie = record {
  label = trie.label;
  root = trie.root;
  some_root = trie.some_root;
  labels = λ t d n has. trie.labels t d n (sym (put_node E F s c e set node t d) ∙ has);
  below = λ t d n has. trie.below t d n (sym (put_node E F s c e set node t d) ∙ has);
  fresh = λ t d ge. set.miss t d (λ p q. omega arith) ∙ trie.fresh t d ge;
}

-- other mapped strings keep their places
pub place_from-put_other : (E F : ℕ → ℕ → Entry) (s c : ℕ) (e : Entry) (count : ℕ) → IsSet E F s c e → e.node ≡ (E s c).node → IsTrieOf E count
    → (prefix : List ℕ) → Leads E 0 prefix s → (string : List ℕ) → ((string ≡ prefix ++ c ∷ []) → ⊥) → place_from F 0 string ≡ place_from E 0 string
place_from-put_other E F s c e count set node trie prefix leads [] differs = refl
place_from-put_other E F s c e count set node trie prefix leads (d ∷ cs) differs =
    seek-put E F s c e count set node trie cs 0 d (λ h. differs (
    sym (ap (λ l. l ++ d ∷ cs) trie.root) ∙ h ∙ ap (λ l. l ++ c ∷ []) (label_of_end E count trie 0 prefix s leads ∙ ap (λ l. l ++ prefix) trie.root)))

-- and the mapped string has its own
pub place_from-put_here : (E F : ℕ → ℕ → Entry) (s c : ℕ) (e : Entry) → IsSet E F s c e → e.node ≡ (E s c).node
    → (prefix : List ℕ) → Leads E 0 prefix s → place_from F 0 (prefix ++ c ∷ []) ≡ e.place
place_from-put_here E F s c e set node prefix leads =
    place_from-way F 0 prefix s c [] (Leads-kept E F (λ t d n has. put_node E F s c e set node t d ∙ has) 0 prefix s leads) ∙ ap (λ (x : Entry). x.place) set.hit

-- ---- code points that lead nowhere

-- no mapped string has a code point after its first place with which no step is taken
pub no_string_with : (E : ℕ → ℕ → Entry) (count : ℕ) → IsTrieOf E count → (c : ℕ) → ((s : ℕ) → 0 < s → E s c ≡ no_entry) → (prefix : List ℕ) (s d : ℕ) (cs : List ℕ) → seek E (E s d) (prefix ++ c ∷ cs) ≡ None
no_string_with E count trie c none [] s d cs =
    bind-none (E s d).node (λ n. seek E (E n c) cs) (λ n has. ap (λ e. seek E e cs) (none n (trie.below s d n has).0) ∙ seek-no_entry E cs)
no_string_with E count trie c none (x ∷ prefix) s d cs =
    bind-none (E s d).node (λ n. seek E (E n x) (prefix ++ c ∷ cs)) (λ n has. no_string_with E count trie c none prefix n x cs)

-- ---- the walk over a list of code points

pub seek_ends : (E : ℕ → ℕ → Entry) (e : Entry) (cs : List ℕ) → 0 < length cs → e.node ≡ None → seek E e cs ≡ None
seek_ends E e [] lt none = absurd (omega arith)
seek_ends E e (c ∷ cs) lt none = ap (λ (o : Option ℕ). o >>= λ n. seek E (E n c) cs) none

pub seek_nowhere : (E : ℕ → ℕ → Entry) (cs : List ℕ) → seek E no_entry cs ≡ None
seek_nowhere E [] = refl
seek_nowhere E (c ∷ cs) = refl

take_two : (n k m : ℕ) (points : List ℕ) → m ≡ n + k → take m points ≡ take n points ++ take k (drop n points)
take_two zero k m points is =
    let same : m ≡ k = omega arith in
    ap (λ i. take i points) same
take_two (suc n) k zero points is = absurd (omega arith)
take_two (suc n) k (suc m) [] is = sym (take_none k)
  where
    take_none : (k : ℕ) → take {A = ℕ} k [] ≡ []
    take_none zero = refl
    take_none (suc k) = refl
take_two (suc n) k (suc m) (x ∷ points) is = ap (λ l. x ∷ l) (take_two n k m points (omega arith))

length_drop_take : (n k : ℕ) (points : List ℕ) → n < length points → 0 < k → 0 < length (take k (drop n points))
length_drop_take n zero [] lt some = absurd (omega arith)
length_drop_take n (suc k) [] lt some = absurd (omega arith)
length_drop_take n zero (x ∷ points) lt some = absurd (omega arith)
length_drop_take zero (suc k) (x ∷ points) lt some = omega arith
length_drop_take (suc n) (suc k) (x ∷ points) lt some = length_drop_take n (suc k) points (omega arith) some

-- after an entry without a node no longer prefix is mapped
no_more : (E : ℕ → ℕ → Entry) (T : TableMap) (points : List ℕ) (n : ℕ) (e : Entry) → ((string : List ℕ) → is_mapped T string ≡ is_some (place_from E 0 string)) → ((q : List ℕ) → place_from E 0 (take n points ++ q) ≡ seek E e q)
    → e.node ≡ None → (m : ℕ) → n ≤ m → m ≤ length points → longest_prefix_within T points m ≡ longest_prefix_within T points n
no_more E T points n e answers at none zero ge le =
    let same : 0 ≡ n = omega arith in
    ap (longest_prefix_within T points) same
no_more E T points n e answers at none (suc m) ge le = by (cases_lt m n) (no_more E T points n e answers at none m)
  where
    by : (m < n) ⊎ (n ≤ m) → (n ≤ m → m ≤ length points → longest_prefix_within T points m ≡ longest_prefix_within T points n) → longest_prefix_within T points (suc m) ≡ longest_prefix_within T points n
    by (inl lt) rest =
        let same : suc m ≡ n = omega arith in
        ap (longest_prefix_within T points) same
    by (inr more) rest =
        let k : ℕ = suc m - n in
        let no_place : place_from E 0 (take (suc m) points) ≡ None =
        ap (place_from E 0) (take_two n k (suc m) points (omega arith)) ∙ at (take k (drop n points)) ∙ seek_ends E e (take k (drop n points)) (length_drop_take n k points (omega arith) (omega arith)) none in
        ap (λ b. cond b (suc m) (longest_prefix_within T points m)) (answers (take (suc m) points) ∙ ap is_some no_place) ∙ rest more (omega arith)

pub longest-ends : (E : ℕ → ℕ → Entry) (T : TableMap) (points : List ℕ) (n : ℕ) (e : Entry) (longest : ℕ) → ((string : List ℕ) → is_mapped T string ≡ is_some (place_from E 0 string)) → ((q : List ℕ) → place_from E 0 (take n points ++ q) ≡ seek E e q)
    → e.node ≡ None → n ≤ length points → longest_prefix_within T points n ≡ longest → longest ≡ longest_prefix T points
longest-ends E T points n e longest answers at none le is = sym is ∙ sym (no_more E T points n e answers at none (length points) le (omega arith))

pub append_nil : (l : List ℕ) → l ++ [] ≡ l
append_nil [] = refl
append_nil (x ∷ xs) = ap (λ l. x ∷ l) (append_nil xs)

-- one code point more, which leads on
pub entry-more : (E : ℕ → ℕ → Entry) (points : List ℕ) (n : ℕ) (e f : Entry) (node c : ℕ) → ((q : List ℕ) → place_from E 0 (take n points ++ q) ≡ seek E e q) → n < length points → get_or points n 0 ≡ c
    → e.node ≡ Some node → f ≡ E node c → (q : List ℕ) → place_from E 0 (take (n + 1) points ++ q) ≡ seek E f q
entry-more E points n e f node c at lt is has leads q =
    ap (λ l. place_from E 0 (l ++ q)) (take_more points n 0 lt) ∙ ap (place_from E 0) (append_assoc (take n points) (get_or points n 0 ∷ []) q) ∙ at (get_or points n 0 ∷ q)
    ∙ ap (λ (o : Option ℕ). o >>= λ m. seek E (E m (get_or points n 0)) q) has ∙ (λ i. seek E (E node (is i)) q) ∙ ap (λ x. seek E x q) (sym leads)

longest_step : (T : TableMap) (points : List ℕ) (n m : ℕ) (b : Bool) → m ≡ suc n → is_mapped T (take m points) ≡ b → longest_prefix_within T points m ≡ cond b m (longest_prefix_within T points n)
longest_step T points n zero b is string = absurd (omega arith)
longest_step T points n (suc m) b is string =
    let same : m ≡ n = omega arith in
    ap (λ x. cond x (suc m) (longest_prefix_within T points m)) string ∙ ap (λ k. cond b (suc m) (longest_prefix_within T points k)) same

string_here : (E : ℕ → ℕ → Entry) (T : TableMap) (points : List ℕ) (m : ℕ) (f : Entry) → ((string : List ℕ) → is_mapped T string ≡ is_some (place_from E 0 string)) → ((q : List ℕ) → place_from E 0 (take m points ++ q) ≡ seek E f q)
    → is_mapped T (take m points) ≡ is_some f.place
string_here E T points m f answers at = answers (take m points) ∙ ap (λ l. is_some (place_from E 0 l)) (sym (append_nil (take m points))) ∙ ap is_some (at [])

pub longest-found : (E : ℕ → ℕ → Entry) (T : TableMap) (points : List ℕ) (n : ℕ) (f : Entry) → ((string : List ℕ) → is_mapped T string ≡ is_some (place_from E 0 string)) → ((q : List ℕ) → place_from E 0 (take (n + 1) points ++ q) ≡ seek E f q)
    → is_some f.place ≡ true → longest_prefix_within T points (n + 1) ≡ n + 1
longest-found E T points n f answers at some = longest_step T points n (n + 1) true (omega arith) (string_here E T points (n + 1) f answers at ∙ some)

pub longest-kept : (E : ℕ → ℕ → Entry) (T : TableMap) (points : List ℕ) (n : ℕ) (f : Entry) (longest : ℕ) → ((string : List ℕ) → is_mapped T string ≡ is_some (place_from E 0 string)) → ((q : List ℕ) → place_from E 0 (take (n + 1) points ++ q) ≡ seek E f q)
    → is_some f.place ≡ false → longest_prefix_within T points n ≡ longest → longest_prefix_within T points (n + 1) ≡ longest
longest-kept E T points n f longest answers at none is = longest_step T points n (n + 1) false (omega arith) (string_here E T points (n + 1) f answers at ∙ none) ∙ is

pub get_or-following : (points : List ℕ) (n m : ℕ) → m ≡ n + 1 → get_or points m 0 ≡ get_or (drop 1 points) n 0
get_or-following [] n m is = refl
get_or-following (x ∷ points) n zero is = absurd (omega arith)
get_or-following (x ∷ points) n (suc m) is =
    let same : m ≡ n = omega arith in
    ap (λ k. get_or points k 0) same

-- the rest of a list after its first, as a slice pattern takes it
pub rest_is : (points : List ℕ) → take (length points - 1) (drop 1 points) ≡ drop 1 points
rest_is points = take_whole (drop 1 points) (length points - 1) (omega (arith, length-drop 1 points))
  where
    take_whole : (xs : List ℕ) (m : ℕ) → length xs ≤ m → take m xs ≡ xs
    take_whole [] zero le = refl
    take_whole [] (suc m) le = refl
    take_whole (x ∷ xs) zero le = absurd (omega arith)
    take_whole (x ∷ xs) (suc m) le = ap (λ l. x ∷ l) (take_whole xs m (omega arith))

-- a list is what stands before its last code point, and that one
pub split_last : (string : List ℕ) (n : ℕ) → n + 1 ≡ length string → string ≡ take n string ++ get_or string n 0 ∷ []
split_last string n is = sym (take_all' string (n + 1) (omega arith)) ∙ take_more string n 0 (omega arith)
  where
    take_all' : (xs : List ℕ) (m : ℕ) → length xs ≤ m → take m xs ≡ xs
    take_all' [] zero le = refl
    take_all' [] (suc m) le = refl
    take_all' (x ∷ xs) zero le = absurd (omega arith)
    take_all' (x ∷ xs) (suc m) le = ap (λ l. x ∷ l) (take_all' xs m (omega arith))

-- ---- steps of a trie with pages and an ordered map

pub step_at-deep : {A : Type 0} (pages : List (Vec PageEntry A)) (steps : BTreeMap (ℕ × ℕ) Entry) (n cp : ℕ) → ((n ≡ 0) → ⊥) → step_at pages steps n cp ≡ or_no_entry (get step_cmp steps (n, cp))
step_at-deep pages steps zero cp deep = absurd (deep refl)
step_at-deep pages steps (suc n) cp deep = refl

pub step_at-root : {A : Type 0} (pages : List (Vec PageEntry A)) (steps : BTreeMap (ℕ × ℕ) Entry) (n cp : ℕ) → n ≡ 0 → step_at pages steps n cp ≡ (page_entry pages cp).entry
step_at-root pages steps zero cp root = refl
step_at-root pages steps (suc n) cp root = absurd (omega arith)

-- where no code point leads anywhere
pub nowhere : {A : Type 0} (pages : List (Vec PageEntry A)) (steps : BTreeMap (ℕ × ℕ) Entry) → ((cp : ℕ) → page_entry pages cp ≡ no_page_entry) → steps.entries ≡ [] → (n cp : ℕ) → step_at pages steps n cp ≡ no_entry
nowhere pages steps none empty zero cp = ap (λ (e : PageEntry). e.entry) (none cp)
nowhere pages steps none empty (suc n) cp = ap (λ es. or_no_entry (lookup (λ k. is_eq (step_cmp (suc n, cp) k)) es)) empty

pub nowhere_trie : (E : ℕ → ℕ → Entry) → ((n cp : ℕ) → E n cp ≡ no_entry) → IsTrieOf E 1
nowhere_trie E none = record {
  label = λ n. [];
  root = refl;
  some_root = omega arith;
  labels = λ s cp n has. absurd (node_of_fresh (E s cp) n (none s cp) has);
  below = λ s cp n has. absurd (node_of_fresh (E s cp) n (none s cp) has);
  fresh = λ s cp le. none s cp;
}

pub nowhere_place : (E : ℕ → ℕ → Entry) → ((n cp : ℕ) → E n cp ≡ no_entry) → (string : List ℕ) → place_from E 0 string ≡ None
nowhere_place E none [] = refl
nowhere_place E none (cp ∷ cps) = ap (λ e. seek E e cps) (none 0 cp) ∙ seek-no_entry E cps

is_eq_equal : (o : Ordering) → is_eq o ≡ true → o ≡ Equal
is_eq_equal Less h = cc
is_eq_equal Equal h = refl
is_eq_equal Greater h = cc

other_step : (n cp m d : ℕ) → ((m ≡ n) → (d ≡ cp) → ⊥) → is_eq (step_cmp (n, cp) (m, d)) ≡ false
other_step n cp m d other = by (is_eq (step_cmp (n, cp) (m, d))) refl
  where
    by : (b : Bool) → is_eq (step_cmp (n, cp) (m, d)) ≡ b → b ≡ false
    by false h = refl
    by true h =
        let same : (n, cp) ≡ (m, d) = exact_pairs nat_cmp nat_cmp exact_unsigned exact_unsigned (n, cp) (m, d) (is_eq_equal (step_cmp (n, cp) (m, d)) h) in
        absurd (other (sym (ap (λ (p : ℕ × ℕ). p.0) same)) (sym (ap (λ (p : ℕ × ℕ). p.1) same)))

-- a step from the root is set
pub set_at_root : {A : Type 0} (pages new : List (Vec PageEntry A)) (steps : BTreeMap (ℕ × ℕ) Entry) (n cp : ℕ) (e : PageEntry) → n ≡ 0 → page_entry new cp ≡ e
    → ((q : ℕ) → ((q ≡ cp) → ⊥) → page_entry new q ≡ page_entry pages q) → IsSet (step_at pages steps) (step_at new steps) n cp e.entry
set_at_root pages new steps n cp e root here others = record {
  hit = step_at-root new steps n cp root ∙ ap (λ (x : PageEntry). x.entry) here;
  miss = miss;
}
  where
    miss : (t d : ℕ) → ((t ≡ n) → (d ≡ cp) → ⊥) → step_at new steps t d ≡ step_at pages steps t d
    miss zero d other = ap (λ (x : PageEntry). x.entry) (others d (λ q. other (sym root) q))
    miss (suc t) d other = refl

-- a step from another node is set, and the code point is marked
pub set_after : {A : Type 0} (pages new : List (Vec PageEntry A)) (steps more : BTreeMap (ℕ × ℕ) Entry) (n cp : ℕ) (e : Entry) → ((n ≡ 0) → ⊥) → (page_entry new cp).entry ≡ (page_entry pages cp).entry
    → ((q : ℕ) → ((q ≡ cp) → ⊥) → page_entry new q ≡ page_entry pages q) → get step_cmp more (n, cp) ≡ Some e
    → ((q : ℕ × ℕ) → is_eq (step_cmp (n, cp) q) ≡ false → get step_cmp more q ≡ get step_cmp steps q) → IsSet (step_at pages steps) (step_at new more) n cp e
set_after pages new steps more n cp e deep here others has rest = record {
  hit = step_at-deep new more n cp deep ∙ ap or_no_entry has;
  miss = miss;
}
  where
    miss : (t d : ℕ) → ((t ≡ n) → (d ≡ cp) → ⊥) → step_at new more t d ≡ step_at pages steps t d
    miss zero d other = by (is_or_not d cp)
      where
        by : (d ≡ cp) ⊎ ((d ≡ cp) → ⊥) → (page_entry new d).entry ≡ (page_entry pages d).entry
        by (inl same) = rw same here
        by (inr not) = ap (λ (x : PageEntry). x.entry) (others d not)
    miss (suc t) d other = ap or_no_entry (rest (suc t, d) (other_step n cp (suc t) d other))

-- what is marked stays so
pub marked_at_root : {A : Type 0} (pages new : List (Vec PageEntry A)) (steps : BTreeMap (ℕ × ℕ) Entry) (cp : ℕ) → (page_entry new cp).continues ≡ (page_entry pages cp).continues
    → ((q : ℕ) → ((q ≡ cp) → ⊥) → page_entry new q ≡ page_entry pages q)
    → ((s d : ℕ) → 0 < s → (page_entry pages d).continues ≡ false → step_at pages steps s d ≡ no_entry)
    → (s d : ℕ) → 0 < s → (page_entry new d).continues ≡ false → step_at new steps s d ≡ no_entry
marked_at_root pages new steps cp here others marked zero d lt off = absurd (omega arith)
marked_at_root pages new steps cp here others marked (suc s) d lt off = marked (suc s) d lt (by (is_or_not d cp))
  where
    by : (d ≡ cp) ⊎ ((d ≡ cp) → ⊥) → (page_entry pages d).continues ≡ false
    by (inl same) = (λ i. (page_entry pages (same i)).continues) ∙ sym here ∙ (λ i. (page_entry new (sym same i)).continues) ∙ off
    by (inr not) = sym (ap (λ (x : PageEntry). x.continues) (others d not)) ∙ off

pub marked_after : {A : Type 0} (pages new : List (Vec PageEntry A)) (steps more : BTreeMap (ℕ × ℕ) Entry) (n cp : ℕ) → (page_entry new cp).continues ≡ true
    → ((q : ℕ) → ((q ≡ cp) → ⊥) → page_entry new q ≡ page_entry pages q)
    → ((q : ℕ × ℕ) → is_eq (step_cmp (n, cp) q) ≡ false → get step_cmp more q ≡ get step_cmp steps q)
    → ((s d : ℕ) → 0 < s → (page_entry pages d).continues ≡ false → step_at pages steps s d ≡ no_entry)
    → (s d : ℕ) → 0 < s → (page_entry new d).continues ≡ false → step_at new more s d ≡ no_entry
marked_after pages new steps more n cp here others rest marked zero d lt off = absurd (omega arith)
marked_after pages new steps more n cp here others rest marked (suc s) d lt off = by (is_or_not d cp)
  where
    by : (d ≡ cp) ⊎ ((d ≡ cp) → ⊥) → or_no_entry (get step_cmp more (suc s, d)) ≡ no_entry
    by (inl same) =
        let clash : true ≡ false = sym here ∙ (λ i. (page_entry new (sym same i)).continues) ∙ off in
        cc
    by (inr not) =
        ap or_no_entry (rest (suc s, d) (other_step n cp (suc s) d (λ p q. not q))) ∙ marked (suc s) d lt (sym (ap (λ (x : PageEntry). x.continues) (others d not)) ∙ off)

-- ---- first steps

first-kept : (E F : ℕ → ℕ → Entry) (n : ℕ) (first : FirstStep) → ((d : ℕ) → F n d ≡ E n d) → IsFirst E n first → IsFirst F n first
first-kept E F n first same is = record {
  here = same first.cp ∙ is.here;
  others = λ no d other. same d ∙ is.others no d other;
}

-- a step from the root changes none of the others
pub AreFirst-root : (E F : ℕ → ℕ → Entry) (s c : ℕ) (e : Entry) (firsts : List FirstStep) → IsSet E F s c e → s ≡ 0 → AreFirst E firsts → AreFirst F firsts
AreFirst-root E F s c e firsts set root are = λ n deep. first-kept E F n (first_of firsts n) (λ d. set.miss n d (λ p q. omega arith)) (are n deep)

-- the first step from one node follows the step that is set there
pub AreFirst-set : (E F : ℕ → ℕ → Entry) (s c : ℕ) (e : Entry) (firsts room : List FirstStep) (first : FirstStep) → IsSet E F s c e → s < length room
    → ((n : ℕ) → first_of room n ≡ first_of firsts n) → (IsFirst E s (first_of room s) → IsFirst F s first) → AreFirst E firsts → AreFirst F (set room s first)
AreFirst-set E F s c e firsts room first is lt same follows are n deep = by (is_or_not n s)
  where
    was : IsFirst E n (first_of room n)
    was = subst (λ (x : FirstStep). IsFirst E n x) (sym (same n)) (are n deep)

    by : (n ≡ s) ⊎ ((n ≡ s) → ⊥) → IsFirst F n (first_of (set room s first) n)
    by (inl here) =
        let there : IsFirst F s (first_of (set room s first) s) = subst (λ (x : FirstStep). IsFirst F s x) (sym (get_or-set_same room s first no_first_step lt)) (follows (subst (λ m. IsFirst E m (first_of room m)) here was)) in
        subst (λ m. IsFirst F m (first_of (set room s first) m)) (sym here) there
    by (inr other) =
        subst (λ (x : FirstStep). IsFirst F n x) (sym (get_or-set_other room s n first no_first_step other)) (first-kept E F n (first_of room n) (λ d. is.miss n d (λ p q. other p)) was)

-- where no code point leads anywhere, no first step is set
pub AreFirst-none : (E : ℕ → ℕ → Entry) (firsts : List FirstStep) → ((n cp : ℕ) → E n cp ≡ no_entry) → ((n : ℕ) → first_of firsts n ≡ no_first_step) → AreFirst E firsts
AreFirst-none E firsts none empty n deep =
    subst (λ (x : FirstStep). IsFirst E n x) (sym (empty n)) (record { here = none n 0; others = λ no cp other. none n cp })
