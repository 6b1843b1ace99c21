-- What an ordered map whose keys are lists of code points finds after one more was inserted.
use Rattle.std.proofs.Common.{◌≡◌, ℕ, Bool, true, false, cond, List, [], ◌∷◌, Option, Some, None, refl, sym, ap, ◌∙◌, bytes_eq, Vec}
use Rattle.std.specs.Cmp.Lexicographic.{slice_cmp, bytes_decides}
use Rattle.std.specs.declared.cmp.Ordering.{Ordering}
use Rattle.std.specs.declared.cmp.Ordering.TheVariants.{Less, Equal, Greater}
use Rattle.std.specs.Ordering.{nat_cmp, is_eq, match_ordering}
use Rattle.std.specs.Map.{lookup}
use Rattle.std.specs.BTreeMap.{insert_entry}
use Rattle.std.proofs.lemmas.Map.Text.{is_eq-slice_cmp}

abbrev pub string_cmp : {A : Type 0} → Vec ℕ A → Vec ℕ A → Ordering
string_cmp x y = slice_cmp nat_cmp x.items y.items

abbrev pub has_string : {A : Type 0} → List ℕ → Vec ℕ A → Bool
has_string string key = is_eq (slice_cmp nat_cmp string key.items)

pub lookup-insert_entry : {A X : Type 0} (string : List ℕ) (key : Vec ℕ A) (value : X) (es : List (Vec ℕ A × X))
    → lookup (has_string string) (insert_entry string_cmp es key value) ≡ cond (bytes_eq string key.items) (Some value) (lookup (has_string string) es)
lookup-insert_entry string key value [] = ap (λ b. cond b (Some value) None) (is_eq-slice_cmp string key.items)
lookup-insert_entry {A} {X} string key value (e ∷ es) = by (slice_cmp nat_cmp key.items e.0.items) (is_eq-slice_cmp key.items e.0.items) (lookup-insert_entry string key value es)
  where
    here : (b : Bool) → has_string string key ≡ b → lookup (has_string string) ((key, value) ∷ e ∷ es) ≡ cond b (Some value) (lookup (has_string string) (e ∷ es))
    here b is = ap (λ b. cond b (Some value) (lookup (has_string string) (e ∷ es))) is

    apart : bytes_eq key.items e.0.items ≡ false → (b c : Bool) → bytes_eq string key.items ≡ b → bytes_eq string e.0.items ≡ c → (rest : Option X) → cond c (Some e.1) (cond b (Some value) rest) ≡ cond b (Some value) (cond c (Some e.1) rest)
    apart off true true k l rest =
        let clash : true ≡ false = sym ((bytes_decides key.items e.0.items).1 (sym ((bytes_decides string key.items).0 k) ∙ (bytes_decides string e.0.items).0 l)) ∙ off in
        cc
    apart off true false k l rest = refl
    apart off false c k l rest = refl

    by : (o : Ordering) → is_eq o ≡ bytes_eq key.items e.0.items → lookup (has_string string) (insert_entry string_cmp es key value) ≡ cond (bytes_eq string key.items) (Some value) (lookup (has_string string) es)
        → lookup (has_string string) (match_ordering o ((key, value) ∷ e ∷ es) ((e.0, value) ∷ es) (e ∷ insert_entry string_cmp es key value)) ≡ cond (bytes_eq string key.items) (Some value) (lookup (has_string string) (e ∷ es))
    by Less is rest = here (bytes_eq string key.items) (is_eq-slice_cmp string key.items)
    by Equal is rest =
        let one : key.items ≡ e.0.items = (bytes_decides key.items e.0.items).0 (sym is) in
        let test : has_string string e.0 ≡ bytes_eq string key.items = is_eq-slice_cmp string e.0.items ∙ ap (bytes_eq string) (sym one) in
        swap (has_string string e.0) (bytes_eq string key.items) test (lookup (has_string string) es)
      where
        swap : (a b : Bool) → a ≡ b → (rest : Option X) → cond a (Some value) rest ≡ cond b (Some value) (cond a (Some e.1) rest)
        swap true true h rest = refl
        swap false false h rest = refl
        swap true false h rest = cc
        swap false true h rest = cc
    by Greater is rest =
        ap (λ r. cond (has_string string e.0) (Some e.1) r) rest
        ∙ ap (λ c. cond c (Some e.1) (cond (bytes_eq string key.items) (Some value) (lookup (has_string string) es))) (is_eq-slice_cmp string e.0.items)
        ∙ apart (sym is) (bytes_eq string key.items) (bytes_eq string e.0.items) refl refl (lookup (has_string string) es)
        ∙ ap (λ c. cond (bytes_eq string key.items) (Some value) (cond c (Some e.1) (lookup (has_string string) es))) (sym (is_eq-slice_cmp string e.0.items))

-- the inserted string is found
pub found-here : {A X : Type 0} (string : List ℕ) (key : Vec ℕ A) (value : X) (es : List (Vec ℕ A × X)) → key.items ≡ string → lookup (has_string string) (insert_entry string_cmp es key value) ≡ Some value
found-here string key value es is =
    lookup-insert_entry string key value es ∙ ap (λ b. cond b (Some value) (lookup (has_string string) es)) ((bytes_decides string key.items).1 (sym is))

-- any other one as before
pub found-others : {A X : Type 0} (string : List ℕ) (key : Vec ℕ A) (value : X) (es : List (Vec ℕ A × X)) (q : List ℕ) → key.items ≡ string → ((q ≡ string) → ⊥)
    → lookup (has_string q) (insert_entry string_cmp es key value) ≡ lookup (has_string q) es
found-others string key value es q is other =
    lookup-insert_entry q key value es ∙ ap (λ b. cond b (Some value) (lookup (has_string q) es)) (differs (bytes_eq q key.items) refl)
  where
    differs : (b : Bool) → bytes_eq q key.items ≡ b → b ≡ false
    differs true same = absurd (other ((bytes_decides q key.items).0 same ∙ is))
    differs false same = refl
