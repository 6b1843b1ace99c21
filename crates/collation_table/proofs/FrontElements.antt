-- An element at the front of bytes, read at fixed places, is the first of the parts that end with `]`.
use Rattle.std.proofs.Common.{◌≡◌, ℕ, suc, ◌+◌, ◌*◌, ◌<◌, ◌≤◌, Bool, true, false, ◌&&◌, cond, codes, ltb, leb, eqb, List, [], ◌∷◌, ◌++◌, length, take, drop, Option, Some, None, option_map, refl, sym, ap, ◌∙◌, subst, arith, append_assoc, length-append}
use Rattle.std.specs.List.{list_all, prefix_len, position_or_len, onto_first, All}
use Rattle.std.proofs.lemmas.Bool.{eqb-true, eq-eqb, ne_eqb, ltb-true, lt-ltb, le-leb, and_parts, false≢true}
use Rattle.std.proofs.lemmas.Option.{none-some, some_pair_parts}
use Rattle.std.proofs.lemmas.List.Sums.{position_or_len_is, split_at_first, passes_at_first}
use Rattle.std.proofs.lemmas.List.Elements.{All-nil, All-cons, All-append}
use Rattle.std.proofs.Math.ListN.{get_or-append}
use Rattle.std.proofs.Math.Seq.{get_or-append_seam, take-append_seam, drop-append-add}
use Rattle.collation_table.specs.declared.elements.Element.{Element}
use Rattle.collation_table.specs.Spelling.{◌>>=◌, only_if, is_blank, begins_with_blank, trim_start, after, split_once, hex_digit, hex_after, weight_of, mark_of, weights_of, element_of, bracketed_of, elements_of_parts, elements_of}
use Rattle.collation_table.specs.Reading.{has_element_signs, element_at_front}
use Rattle.collation_table.proofs.Cuts.{parts, some_part}
use Rattle.collation_table.proofs.LineForms.{trim_start-blank, trim_start-other}
use Rattle.collation_table.proofs.Parsed.{joined, elements_more, elements_stop, elements_trail}

-- Steps that gave something

bound : {A B : Type 0} (found : Option A) (more : A → Option B) (y : B) → (found >>= more) ≡ Some y → (x : A) × (found ≡ Some x) × (more x ≡ Some y)
bound None more y e = absurd (none-some y e)
bound (Some x) more y e = (x, refl, e)

-- Cutting at a byte that does not stand before

abbrev halves : List ℕ → ℕ → List ℕ × List ℕ
halves bytes i = (take i bytes, drop (i + 1) bytes)

abbrev Lacks : ℕ → List ℕ → Type 0
Lacks c bytes = All (λ b. eqb b c ≡ false) bytes

split_once-append : (c : ℕ) (prefix following : List ℕ) → Lacks c prefix → split_once c (prefix ++ c ∷ following) ≡ Some (prefix, following)
split_once-append c prefix following lacks =
    let all = prefix ++ c ∷ following in
    let long : length all ≡ length prefix + suc (length following) = length-append prefix (c ∷ following) in
    let place : position_or_len (λ b. eqb b c) all ≡ length prefix =
    position_or_len_is (λ b. eqb b c) all (length prefix) 0 (omega arith)
    (λ k below. ap (λ b. eqb b c) (get_or-append prefix (c ∷ following) 0 k below) ∙ lacks k 0 below)
    (λ within. ap (λ b. eqb b c) (get_or-append_seam prefix c following 0) ∙ eq-eqb c c refl) in
    let within : ltb (position_or_len (λ b. eqb b c) all) (length all) ≡ true = lt-ltb _ _ (omega arith) in
    ap (λ t. option_map (halves all) (cond t (Some (position_or_len (λ b. eqb b c) all)) None)) within
    ∙ ap (λ i. Some (halves all i)) place
    ∙ ap (λ p. Some (p, drop (length prefix + 1) all)) (take-append_seam prefix (c ∷ following))
    ∙ ap (λ f. Some (prefix, f)) (drop-append-add prefix (c ∷ following) 1)

split_by : (t : Bool) (c : ℕ) (bytes prefix following : List ℕ) → ltb (position_or_len (λ b. eqb b c) bytes) (length bytes) ≡ t → option_map (halves bytes) (cond t (Some (position_or_len (λ b. eqb b c) bytes)) None) ≡ Some (prefix, following) → bytes ≡ prefix ++ c ∷ following
split_by false c bytes prefix following h e = absurd (none-some (prefix, following) e)
split_by true c bytes prefix following h e =
    let i = position_or_len (λ b. eqb b c) bytes in
    let two = some_pair_parts (take i bytes) prefix (drop (i + 1) bytes) following e in
    let within = ltb-true i (length bytes) h in
    split_at_first (λ b. eqb b c) bytes 0 within
    ∙ ap (λ b. take i bytes ++ b ∷ drop (i + 1) bytes) (eqb-true _ c (passes_at_first (λ b. eqb b c) bytes 0 within))
    ∙ ap (λ p. p ++ c ∷ drop (i + 1) bytes) two.0
    ∙ ap (λ f. prefix ++ c ∷ f) two.1

split_once-is : (c : ℕ) (bytes prefix following : List ℕ) → split_once c bytes ≡ Some (prefix, following) → bytes ≡ prefix ++ c ∷ following
split_once-is c bytes prefix following e = split_by (ltb (position_or_len (λ b. eqb b c) bytes) (length bytes)) c bytes prefix following refl e

-- Digits

-- a byte that is no digit stands in no number
hex_after-lacks : (c : ℕ) (bytes : List ℕ) (n number : ℕ) → hex_digit c ≡ None → hex_after n bytes ≡ Some number → Lacks c bytes
hex_after-lacks c [] n number none e = All-nil (λ b. eqb b c ≡ false)
hex_after-lacks c (b ∷ bytes) n number none e =
    let digit = bound (hex_digit b) (λ d. hex_after (n * 16 + d) bytes) number e in
    All-cons (λ b. eqb b c ≡ false) b bytes (ne_eqb b c (λ same. none-some digit.0 (sym none ∙ ap hex_digit (sym same) ∙ digit.1)))
    (hex_after-lacks c bytes (n * 16 + digit.0) number none digit.2)

weight_by : (t : Bool) (bytes : List ℕ) (weight : ℕ) → eqb (length bytes) 4 ≡ t → cond t (hex_after 0 bytes) None ≡ Some weight → (length bytes ≡ 4) × (hex_after 0 bytes ≡ Some weight)
weight_by true bytes weight h e = (eqb-true (length bytes) 4 h, e)
weight_by false bytes weight h e = absurd (none-some weight e)

weight_of-some : (bytes : List ℕ) (weight : ℕ) → weight_of bytes ≡ Some weight → (length bytes ≡ 4) × (hex_after 0 bytes ≡ Some weight)
weight_of-some bytes weight e = weight_by (eqb (length bytes) 4) bytes weight refl e

weight_of-lacks : (c : ℕ) (bytes : List ℕ) (weight : ℕ) → hex_digit c ≡ None → weight_of bytes ≡ Some weight → Lacks c bytes
weight_of-lacks c bytes weight none e = hex_after-lacks c bytes 0 weight none (weight_of-some bytes weight e).1

-- Weights

-- three weights with their signs
record Weights (is_variable : Bool) (bytes : List ℕ) (element : Element) : Type 0 where
  x : List ℕ
  y : List ℕ
  z : List ℕ
  w1 : ℕ
  w2 : ℕ
  w3 : ℕ
  first : weight_of x ≡ Some w1
  second : weight_of y ≡ Some w2
  third : weight_of z ≡ Some w3
  bytes_are : bytes ≡ x ++ 46 ∷ (y ++ 46 ∷ z)
  element_is : record { is_variable = is_variable; w1 = w1; w2 = w2; w3 = w3 } ≡ element

Weights-from_some : (is_variable : Bool) (bytes : List ℕ) (element : Element) → weights_of is_variable bytes ≡ Some element → Weights is_variable bytes element
unfolding weights_of
Weights-from_some is_variable bytes element e =
    let a = bound (split_once 46 bytes) _ element e in
    let b = bound (split_once 46 a.0.1) _ element a.2 in
    let c = bound (weight_of a.0.0) _ element b.2 in
    let d = bound (weight_of b.0.0) _ element c.2 in
    let f = bound (weight_of b.0.1) _ element d.2 in
    record {
      x = a.0.0;
      y = b.0.0;
      z = b.0.1;
      w1 = c.0;
      w2 = d.0;
      w3 = f.0;
      first = c.1;
      second = d.1;
      third = f.1;
      bytes_are = split_once-is 46 bytes a.0.0 a.0.1 a.1 ∙ ap (λ rest. a.0.0 ++ 46 ∷ rest) (split_once-is 46 a.0.1 b.0.0 b.0.1 b.1);
      element_is = cc f.2;
    }

weights_of-some : (is_variable : Bool) (x y z : List ℕ) (w1 w2 w3 : ℕ) → weight_of x ≡ Some w1 → weight_of y ≡ Some w2 → weight_of z ≡ Some w3 → weights_of is_variable (x ++ 46 ∷ (y ++ 46 ∷ z)) ≡ Some (record { is_variable = is_variable; w1 = w1; w2 = w2; w3 = w3 })
unfolding weights_of
weights_of-some is_variable x y z w1 w2 w3 first second third =
    rw (split_once-append 46 x (y ++ 46 ∷ z) (weight_of-lacks 46 x w1 refl first), split_once-append 46 y z (weight_of-lacks 46 y w2 refl second), first, second, third) refl

-- The bytes at fixed places

cond-some : {A : Type 0} (t : Bool) (found : Option A) (y : A) → cond t found None ≡ Some y → (t ≡ true) × (found ≡ Some y)
cond-some true found y e = (refl, e)
cond-some false found y e = absurd (none-some y e)

record Four (bytes : List ℕ) : Type 0 where
  a : ℕ
  b : ℕ
  c : ℕ
  d : ℕ
  is : bytes ≡ a ∷ b ∷ c ∷ d ∷ []

four_of : (bytes : List ℕ) → length bytes ≡ 4 → Four bytes
four_of [] h = absurd (omega arith)
four_of (a ∷ []) h = absurd (omega arith)
four_of (a ∷ b ∷ []) h = absurd (omega arith)
four_of (a ∷ b ∷ c ∷ []) h = absurd (omega arith)
four_of (a ∷ b ∷ c ∷ d ∷ []) h = record { a = a; b = b; c = c; d = d; is = refl }
four_of (a ∷ b ∷ c ∷ d ∷ e ∷ bytes) h = absurd (omega arith)

front_computes : (m a0 a1 a2 a3 b0 b1 b2 b3 c0 c1 c2 c3 : ℕ) (f : List ℕ) (v : Bool) (w1 w2 w3 : ℕ) → mark_of m ≡ Some v → weight_of (a0 ∷ a1 ∷ a2 ∷ a3 ∷ []) ≡ Some w1 → weight_of (b0 ∷ b1 ∷ b2 ∷ b3 ∷ []) ≡ Some w2 → weight_of (c0 ∷ c1 ∷ c2 ∷ c3 ∷ []) ≡ Some w3 → element_at_front (91 ∷ m ∷ a0 ∷ a1 ∷ a2 ∷ a3 ∷ 46 ∷ b0 ∷ b1 ∷ b2 ∷ b3 ∷ 46 ∷ c0 ∷ c1 ∷ c2 ∷ c3 ∷ 93 ∷ f) ≡ Some (record { is_variable = v; w1 = w1; w2 = w2; w3 = w3 })
unfolding element_at_front
front_computes m a0 a1 a2 a3 b0 b1 b2 b3 c0 c1 c2 c3 f v w1 w2 w3 mark first second third =
    let long : leb 17 (length (91 ∷ m ∷ a0 ∷ a1 ∷ a2 ∷ a3 ∷ 46 ∷ b0 ∷ b1 ∷ b2 ∷ b3 ∷ 46 ∷ c0 ∷ c1 ∷ c2 ∷ c3 ∷ 93 ∷ f)) ≡ true = le-leb _ _ (omega arith) in
    rw (long, mark, first, second, third) refl

front_from : (m : ℕ) (x y z f : List ℕ) (v : Bool) (w1 w2 w3 : ℕ) → mark_of m ≡ Some v → weight_of x ≡ Some w1 → weight_of y ≡ Some w2 → weight_of z ≡ Some w3 → element_at_front (91 ∷ m ∷ (x ++ 46 ∷ (y ++ 46 ∷ (z ++ 93 ∷ f)))) ≡ Some (record { is_variable = v; w1 = w1; w2 = w2; w3 = w3 })
front_from m x y z f v w1 w2 w3 mark first second third =
    let xs = four_of x (weight_of-some x w1 first).0 in
    let ys = four_of y (weight_of-some y w2 second).0 in
    let zs = four_of z (weight_of-some z w3 third).0 in
    ap (λ x. element_at_front (91 ∷ m ∷ (x ++ 46 ∷ (y ++ 46 ∷ (z ++ 93 ∷ f))))) xs.is
    ∙ ap (λ y. element_at_front (91 ∷ m ∷ ((xs.a ∷ xs.b ∷ xs.c ∷ xs.d ∷ []) ++ 46 ∷ (y ++ 46 ∷ (z ++ 93 ∷ f))))) ys.is
    ∙ ap (λ z. element_at_front (91 ∷ m ∷ ((xs.a ∷ xs.b ∷ xs.c ∷ xs.d ∷ []) ++ 46 ∷ ((ys.a ∷ ys.b ∷ ys.c ∷ ys.d ∷ []) ++ 46 ∷ (z ++ 93 ∷ f))))) zs.is
    ∙ front_computes m xs.a xs.b xs.c xs.d ys.a ys.b ys.c ys.d zs.a zs.b zs.c zs.d f v w1 w2 w3 mark (sym (ap weight_of xs.is) ∙ first) (sym (ap weight_of ys.is) ∙ second) (sym (ap weight_of zs.is) ∙ third)

-- From a part to the bytes at its places

inside_by : (t : Bool) (b : ℕ) (bytes : List ℕ) (element : Element) → eqb 91 b ≡ t → (cond (t && true) (Some bytes) None >>= λ inside. element_of inside) ≡ Some element → (b ≡ 91) × (element_of bytes ≡ Some element)
inside_by true b bytes element h e = (sym (eqb-true 91 b h), e)
inside_by false b bytes element h e = absurd (none-some element e)

bracketed_of-some : (b : ℕ) (bytes : List ℕ) (element : Element) → is_blank b ≡ false → bracketed_of (b ∷ bytes) ≡ Some element → (b ≡ 91) × (element_of bytes ≡ Some element)
unfolding bracketed_of
bracketed_of-some b bytes element blank e =
    inside_by (eqb 91 b) b bytes element refl (ap (λ t. after (codes "[") (drop (cond t (1 + prefix_len is_blank bytes) 0) (b ∷ bytes)) >>= λ inside. element_of inside) (sym blank) ∙ e)

bracketed_of-nil : (element : Element) → bracketed_of [] ≡ Some element → ⊥
unfolding bracketed_of
bracketed_of-nil element e = none-some element e

front_by : (part following : List ℕ) (element : Element) → begins_with_blank (part ++ 93 ∷ following) ≡ false → bracketed_of part ≡ Some element → element_at_front (part ++ 93 ∷ following) ≡ Some element
front_by [] following element blank e = absurd (bracketed_of-nil element e)
front_by (b ∷ []) following element blank e = absurd (none-some element (bracketed_of-some b [] element blank e).1)
front_by (b ∷ m ∷ bytes) following element blank e =
    let inside = bracketed_of-some b (m ∷ bytes) element blank e in
    let mark = bound (mark_of m) (λ v. weights_of v bytes) element inside.1 in
    let w = Weights-from_some mark.0 bytes element mark.2 in
    let regrouped : bytes ++ 93 ∷ following ≡ w.x ++ 46 ∷ (w.y ++ 46 ∷ (w.z ++ 93 ∷ following)) =
    ap (λ bytes. bytes ++ 93 ∷ following) w.bytes_are
    ∙ append_assoc w.x (46 ∷ (w.y ++ 46 ∷ w.z)) (93 ∷ following)
    ∙ ap (λ rest. w.x ++ 46 ∷ rest) (append_assoc w.y (46 ∷ w.z) (93 ∷ following)) in
    ap (λ b. element_at_front (b ∷ m ∷ (bytes ++ 93 ∷ following))) inside.0
    ∙ ap (λ rest. element_at_front (91 ∷ m ∷ rest)) regrouped
    ∙ front_from m w.x w.y w.z following mark.0 w.w1 w.w2 w.w3 mark.1 w.first w.second w.third
    ∙ ap Some w.element_is

-- the element of the first part is the one at the front
pub element_at_front-from_part : (bytes part following : List ℕ) (element : Element) → split_once 93 bytes ≡ Some (part, following) → begins_with_blank bytes ≡ false → bracketed_of part ≡ Some element → element_at_front bytes ≡ Some element
element_at_front-from_part bytes part following element cut blank e =
    let is = split_once-is 93 bytes part following cut in
    ap element_at_front is ∙ front_by part following element (sym (ap begins_with_blank is) ∙ blank) e

-- From the bytes at their places to a part

-- a part that is an element, and what follows it
pub record BeginsWithElement (bytes following : List ℕ) (element : Element) : Type 0 where
  pub part : List ℕ
  pub cut : split_once 93 bytes ≡ Some (part, following)
  pub bracketed : bracketed_of part ≡ Some element

mark_of-lacks : (m : ℕ) (v : Bool) → mark_of m ≡ Some v → eqb m 93 ≡ false
mark_of-lacks m v e = ne_eqb m 93 (λ same. none-some v (ap mark_of (sym same) ∙ e))

part_computes : (m : ℕ) (bytes : List ℕ) (v : Bool) (element : Element) → mark_of m ≡ Some v → weights_of v bytes ≡ Some element → bracketed_of (91 ∷ m ∷ bytes) ≡ Some element
unfolding bracketed_of
part_computes m bytes v element mark e = ap (λ o. o >>= λ v. weights_of v bytes) mark ∙ e

part_from : (m : ℕ) (x y z f : List ℕ) (v : Bool) (w1 w2 w3 : ℕ) (element : Element) → mark_of m ≡ Some v → weight_of x ≡ Some w1 → weight_of y ≡ Some w2 → weight_of z ≡ Some w3 → record { is_variable = v; w1 = w1; w2 = w2; w3 = w3 } ≡ element → BeginsWithElement (91 ∷ m ∷ (x ++ 46 ∷ (y ++ 46 ∷ (z ++ 93 ∷ f)))) f element
part_from m x y z f v w1 w2 w3 element mark first second third is =
    let weights = x ++ 46 ∷ (y ++ 46 ∷ z) in
    let lacks : Lacks 93 (91 ∷ m ∷ weights) =
    All-cons (λ b. eqb b 93 ≡ false) 91 (m ∷ weights) refl
    (All-cons (λ b. eqb b 93 ≡ false) m weights (mark_of-lacks m v mark)
    (All-append (λ b. eqb b 93 ≡ false) x (46 ∷ (y ++ 46 ∷ z)) (weight_of-lacks 93 x w1 refl first)
    (All-cons (λ b. eqb b 93 ≡ false) 46 (y ++ 46 ∷ z) refl
    (All-append (λ b. eqb b 93 ≡ false) y (46 ∷ z) (weight_of-lacks 93 y w2 refl second)
    (All-cons (λ b. eqb b 93 ≡ false) 46 z refl (weight_of-lacks 93 z w3 refl third)))))) in
    let regrouped : weights ++ 93 ∷ f ≡ x ++ 46 ∷ (y ++ 46 ∷ (z ++ 93 ∷ f)) =
    append_assoc x (46 ∷ (y ++ 46 ∷ z)) (93 ∷ f) ∙ ap (λ rest. x ++ 46 ∷ rest) (append_assoc y (46 ∷ z) (93 ∷ f)) in
    record {
      part = 91 ∷ m ∷ weights;
      cut = ap (λ rest. split_once 93 (91 ∷ m ∷ rest)) (sym regrouped) ∙ split_once-append 93 (91 ∷ m ∷ weights) f lacks;
      bracketed = part_computes m weights v element mark (weights_of-some v x y z w1 w2 w3 first second third ∙ ap Some is);
    }

-- of what the bytes at their places say, with the signs told
found_by : (m a0 a1 a2 a3 b0 b1 b2 b3 c0 c1 c2 c3 : ℕ) (f : List ℕ) (element : Element) → (mark_of m >>= λ v. weight_of (a0 ∷ a1 ∷ a2 ∷ a3 ∷ []) >>= λ w1. weight_of (b0 ∷ b1 ∷ b2 ∷ b3 ∷ []) >>= λ w2. weight_of (c0 ∷ c1 ∷ c2 ∷ c3 ∷ []) >>= λ w3. Some (record { is_variable = v; w1 = w1; w2 = w2; w3 = w3 })) ≡ Some element → BeginsWithElement (91 ∷ m ∷ a0 ∷ a1 ∷ a2 ∷ a3 ∷ 46 ∷ b0 ∷ b1 ∷ b2 ∷ b3 ∷ 46 ∷ c0 ∷ c1 ∷ c2 ∷ c3 ∷ 93 ∷ f) f element
found_by m a0 a1 a2 a3 b0 b1 b2 b3 c0 c1 c2 c3 f element e =
    let mark = bound (mark_of m) _ element e in
    let first = bound (weight_of (a0 ∷ a1 ∷ a2 ∷ a3 ∷ [])) _ element mark.2 in
    let second = bound (weight_of (b0 ∷ b1 ∷ b2 ∷ b3 ∷ [])) _ element first.2 in
    let third = bound (weight_of (c0 ∷ c1 ∷ c2 ∷ c3 ∷ [])) _ element second.2 in
    let is : record { is_variable = mark.0; w1 = first.0; w2 = second.0; w3 = third.0 } ≡ element = cc third.2 in
    part_from m (a0 ∷ a1 ∷ a2 ∷ a3 ∷ []) (b0 ∷ b1 ∷ b2 ∷ b3 ∷ []) (c0 ∷ c1 ∷ c2 ∷ c3 ∷ []) f mark.0 first.0 second.0 third.0 element mark.1 first.1 second.1 third.1 is

found_at : (s m a0 a1 a2 a3 t b0 b1 b2 b3 u c0 c1 c2 c3 w : ℕ) (f : List ℕ) (element : Element) → element_at_front (s ∷ m ∷ a0 ∷ a1 ∷ a2 ∷ a3 ∷ t ∷ b0 ∷ b1 ∷ b2 ∷ b3 ∷ u ∷ c0 ∷ c1 ∷ c2 ∷ c3 ∷ w ∷ f) ≡ Some element → BeginsWithElement (s ∷ m ∷ a0 ∷ a1 ∷ a2 ∷ a3 ∷ t ∷ b0 ∷ b1 ∷ b2 ∷ b3 ∷ u ∷ c0 ∷ c1 ∷ c2 ∷ c3 ∷ w ∷ f) f element
unfolding element_at_front
found_at s m a0 a1 a2 a3 t b0 b1 b2 b3 u c0 c1 c2 c3 w f element e =
    let bytes = s ∷ m ∷ a0 ∷ a1 ∷ a2 ∷ a3 ∷ t ∷ b0 ∷ b1 ∷ b2 ∷ b3 ∷ u ∷ c0 ∷ c1 ∷ c2 ∷ c3 ∷ w ∷ f in
    let signs = cond-some (has_element_signs bytes) _ element e in
    let p1 = and_parts (leb 17 (length bytes)) _ signs.0 in
    let p2 = and_parts (eqb s 91) _ p1.1 in
    let p3 = and_parts (eqb t 46) _ p2.1 in
    let p4 = and_parts (eqb u 46) (eqb w 93) p3.1 in
    let found = found_by m a0 a1 a2 a3 b0 b1 b2 b3 c0 c1 c2 c3 f element signs.1 in
    subst (λ s. BeginsWithElement (s ∷ m ∷ a0 ∷ a1 ∷ a2 ∷ a3 ∷ t ∷ b0 ∷ b1 ∷ b2 ∷ b3 ∷ u ∷ c0 ∷ c1 ∷ c2 ∷ c3 ∷ w ∷ f) f element) (sym (eqb-true s 91 p2.0))
    (subst (λ t. BeginsWithElement (91 ∷ m ∷ a0 ∷ a1 ∷ a2 ∷ a3 ∷ t ∷ b0 ∷ b1 ∷ b2 ∷ b3 ∷ u ∷ c0 ∷ c1 ∷ c2 ∷ c3 ∷ w ∷ f) f element) (sym (eqb-true t 46 p3.0))
    (subst (λ u. BeginsWithElement (91 ∷ m ∷ a0 ∷ a1 ∷ a2 ∷ a3 ∷ 46 ∷ b0 ∷ b1 ∷ b2 ∷ b3 ∷ u ∷ c0 ∷ c1 ∷ c2 ∷ c3 ∷ w ∷ f) f element) (sym (eqb-true u 46 p4.0))
    (subst (λ w. BeginsWithElement (91 ∷ m ∷ a0 ∷ a1 ∷ a2 ∷ a3 ∷ 46 ∷ b0 ∷ b1 ∷ b2 ∷ b3 ∷ 46 ∷ c0 ∷ c1 ∷ c2 ∷ c3 ∷ w ∷ f) f element) (sym (eqb-true w 93 p4.1)) found)))

-- the element at the front is the first part
pub Found-from_front : (bytes : List ℕ) (element : Element) → 17 ≤ length bytes → element_at_front bytes ≡ Some element → BeginsWithElement bytes (drop 17 bytes) element
Found-from_front (s ∷ m ∷ a0 ∷ a1 ∷ a2 ∷ a3 ∷ t ∷ b0 ∷ b1 ∷ b2 ∷ b3 ∷ u ∷ c0 ∷ c1 ∷ c2 ∷ c3 ∷ w ∷ f) element long e = found_at s m a0 a1 a2 a3 t b0 b1 b2 b3 u c0 c1 c2 c3 w f element e
Found-from_front [] element long e = absurd (omega arith)
Found-from_front (s ∷ []) element long e = absurd (omega arith)
Found-from_front (s ∷ m ∷ []) element long e = absurd (omega arith)
Found-from_front (s ∷ m ∷ a0 ∷ []) element long e = absurd (omega arith)
Found-from_front (s ∷ m ∷ a0 ∷ a1 ∷ []) element long e = absurd (omega arith)
Found-from_front (s ∷ m ∷ a0 ∷ a1 ∷ a2 ∷ []) element long e = absurd (omega arith)
Found-from_front (s ∷ m ∷ a0 ∷ a1 ∷ a2 ∷ a3 ∷ []) element long e = absurd (omega arith)
Found-from_front (s ∷ m ∷ a0 ∷ a1 ∷ a2 ∷ a3 ∷ t ∷ []) element long e = absurd (omega arith)
Found-from_front (s ∷ m ∷ a0 ∷ a1 ∷ a2 ∷ a3 ∷ t ∷ b0 ∷ []) element long e = absurd (omega arith)
Found-from_front (s ∷ m ∷ a0 ∷ a1 ∷ a2 ∷ a3 ∷ t ∷ b0 ∷ b1 ∷ []) element long e = absurd (omega arith)
Found-from_front (s ∷ m ∷ a0 ∷ a1 ∷ a2 ∷ a3 ∷ t ∷ b0 ∷ b1 ∷ b2 ∷ []) element long e = absurd (omega arith)
Found-from_front (s ∷ m ∷ a0 ∷ a1 ∷ a2 ∷ a3 ∷ t ∷ b0 ∷ b1 ∷ b2 ∷ b3 ∷ []) element long e = absurd (omega arith)
Found-from_front (s ∷ m ∷ a0 ∷ a1 ∷ a2 ∷ a3 ∷ t ∷ b0 ∷ b1 ∷ b2 ∷ b3 ∷ u ∷ []) element long e = absurd (omega arith)
Found-from_front (s ∷ m ∷ a0 ∷ a1 ∷ a2 ∷ a3 ∷ t ∷ b0 ∷ b1 ∷ b2 ∷ b3 ∷ u ∷ c0 ∷ []) element long e = absurd (omega arith)
Found-from_front (s ∷ m ∷ a0 ∷ a1 ∷ a2 ∷ a3 ∷ t ∷ b0 ∷ b1 ∷ b2 ∷ b3 ∷ u ∷ c0 ∷ c1 ∷ []) element long e = absurd (omega arith)
Found-from_front (s ∷ m ∷ a0 ∷ a1 ∷ a2 ∷ a3 ∷ t ∷ b0 ∷ b1 ∷ b2 ∷ b3 ∷ u ∷ c0 ∷ c1 ∷ c2 ∷ []) element long e = absurd (omega arith)
Found-from_front (s ∷ m ∷ a0 ∷ a1 ∷ a2 ∷ a3 ∷ t ∷ b0 ∷ b1 ∷ b2 ∷ b3 ∷ u ∷ c0 ∷ c1 ∷ c2 ∷ c3 ∷ []) element long e = absurd (omega arith)

-- Blanks before a part

bracketed_of-blank : (b : ℕ) (bytes : List ℕ) → is_blank b ≡ true → bracketed_of (b ∷ bytes) ≡ bracketed_of bytes
unfolding bracketed_of
bracketed_of-blank b bytes e = ap (λ bytes. after (codes "[") bytes >>= λ inside. element_of inside) (trim_start-blank b bytes e)

elements_of_parts-blank : (b : ℕ) (first : List ℕ) (more : List (List ℕ)) → is_blank b ≡ true → elements_of_parts ((b ∷ first) ∷ more) ≡ elements_of_parts (first ∷ more)
elements_of_parts-blank b first [] e = ap (λ t. only_if (t && list_all is_blank first) []) e
elements_of_parts-blank b first (next ∷ more) e = ap (λ o. o >>= λ e. option_map (λ es. e ∷ es) (elements_of_parts (next ∷ more))) (bracketed_of-blank b first e)

blank_before : (b : ℕ) (bytes : List ℕ) → is_blank b ≡ true → elements_of_parts (parts 93 (b ∷ bytes)) ≡ elements_of_parts (parts 93 bytes)
blank_before b bytes e =
    let some = some_part 93 bytes in
    let apart : eqb b 93 ≡ false = ne_eqb b 93 (λ same. false≢true (ap is_blank (sym same) ∙ e)) in
    ap (λ t. elements_of_parts (cond t ([] ∷ parts 93 bytes) (onto_first b (parts 93 bytes)))) apart
    ∙ ap (λ ps. elements_of_parts (onto_first b ps)) some.2
    ∙ elements_of_parts-blank b some.0 some.1 e
    ∙ ap elements_of_parts (sym some.2)

trimmed_by : (t : Bool) (b : ℕ) (bytes : List ℕ) → is_blank b ≡ t → elements_of_parts (parts 93 (trim_start bytes)) ≡ elements_of_parts (parts 93 bytes) → elements_of_parts (parts 93 (trim_start (b ∷ bytes))) ≡ elements_of_parts (parts 93 (b ∷ bytes))
trimmed_by true b bytes e more = ap (λ bytes. elements_of_parts (parts 93 bytes)) (trim_start-blank b bytes e) ∙ more ∙ sym (blank_before b bytes e)
trimmed_by false b bytes e more = ap (λ bytes. elements_of_parts (parts 93 bytes)) (trim_start-other b bytes e)

-- blanks before the first part change no element
pub elements_of_parts-trimmed : (bytes : List ℕ) → elements_of_parts (parts 93 (trim_start bytes)) ≡ elements_of_parts (parts 93 bytes)
elements_of_parts-trimmed [] = refl
elements_of_parts-trimmed (b ∷ bytes) = trimmed_by (is_blank b) b bytes refl (elements_of_parts-trimmed bytes)

-- Where no element stands in front

not_blank : (bytes : List ℕ) → 0 < length bytes → begins_with_blank bytes ≡ false → list_all is_blank bytes ≡ false
not_blank [] some blank = absurd (omega arith)
not_blank (b ∷ bytes) some blank = ap (λ t. t && list_all is_blank bytes) blank

part_by : (found : Option Element) (bytes text part following : List ℕ) (xs : List Element) → bracketed_of part ≡ found → split_once 93 bytes ≡ Some (part, following) → begins_with_blank bytes ≡ false → element_at_front bytes ≡ None → joined xs (elements_of_parts (parts 93 bytes)) ≡ elements_of_parts (parts 93 text) → elements_of text ≡ None
part_by None bytes text part following xs bracketed cut blank none before = elements_stop xs text bytes part following cut bracketed before
part_by (Some element) bytes text part following xs bracketed cut blank none before =
    absurd (none-some element (sym none ∙ element_at_front-from_part bytes part following element cut blank bracketed))

none_by : (bytes text : List ℕ) (cut : Option (List ℕ × List ℕ)) (xs : List Element) → split_once 93 bytes ≡ cut → 0 < length bytes → begins_with_blank bytes ≡ false → element_at_front bytes ≡ None → joined xs (elements_of_parts (parts 93 bytes)) ≡ elements_of_parts (parts 93 text) → elements_of text ≡ None
none_by bytes text None xs e some blank none before = elements_trail xs text bytes e before (not_blank bytes some blank)
none_by bytes text (Some (part, following)) xs e some blank none before = part_by (bracketed_of part) bytes text part following xs refl e blank none before

-- the text spells no elements
pub elements_none : (xs : List Element) (text bytes : List ℕ) → 0 < length bytes → begins_with_blank bytes ≡ false → element_at_front bytes ≡ None → joined xs (elements_of_parts (parts 93 bytes)) ≡ elements_of_parts (parts 93 text) → elements_of text ≡ None
elements_none xs text bytes some blank none before = none_by bytes text (split_once 93 bytes) xs refl some blank none before

-- one more element was found, and the blanks behind it are passed over
pub elements_on : (xs : List Element) (x : Element) (all : Option (List Element)) (bytes : List ℕ) → 17 ≤ length bytes → element_at_front bytes ≡ Some x → joined xs (elements_of_parts (parts 93 bytes)) ≡ all → joined (xs ++ x ∷ []) (elements_of_parts (parts 93 (trim_start (drop 17 bytes)))) ≡ all
elements_on xs x all bytes long e before =
    let found = Found-from_front bytes x long e in
    ap (joined (xs ++ x ∷ [])) (elements_of_parts-trimmed (drop 17 bytes))
    ∙ elements_more xs x all bytes found.part (drop 17 bytes) found.cut found.bracketed before
