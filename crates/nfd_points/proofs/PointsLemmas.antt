-- Laws of the points of a list of code points: two parts, a shift of offsets, the code points and classes, ASCII.
use Rattle.std.proofs.Common.{◌≡◌, ℕ, ◌+◌, ◌<◌, ◌≤◌, Bool, true, false, not, ◌&&◌, List, [], ◌∷◌, ◌++◌, length, map, flat_map, encode_utf8, encode_utf8_all, All, refl, sym, ap, ap₂, ◌∙◌, arith, inl, inr, add-zero, zero-add, length-append, add_assoc}
use borrow.Table.Char.{scalar_below}
use Rattle.std.proofs.lemmas.Bool.{cases_Bool, and_parts}
use Rattle.std.specs.List.{list_all}
use Rattle.std.proofs.lemmas.List.{append_assoc, map-append}
use Rattle.std.proofs.lemmas.List.Elements.{All-nil, All-cons, All-head, All-tail, All-append}
use Rattle.std.proofs.lemmas.Str.{length-encode, len_utf8_bounds}
use Rattle.std.specs.Char.{len_utf8, IsScalar}
use Rattle.ucd_normal.specs.declared.forms.Form.TheVariants.{Nfd}
use Rattle.unicode_normalization.specs.Decompose.{decompose}
use Rattle.unicode_normalization.specs.Forms.{nfd, decomposed, normalize}
use Rattle.unicode_normalization.specs.Lookups.{canonical_combining_class}
use Rattle.unicode_normalization.specs.Order.{canonical_order, is_ordered, sink as sink_code, is_reorderable as is_reorderable_code}
use Rattle.unicode_normalization.proofs.DecomposeLemmas.{IsFull-decompose, decompose-final}
use Rattle.unicode_normalization.proofs.TableFacts.{is_final}
use Rattle.unicode_normalization.proofs.OrderLemmas.{sink-past as sink-past_code, sink-stays as sink-stays_code}
use Rattle.nfd_points.specs.declared.points.Point.{Point}
use Rattle.nfd_points.specs.Points.{IsPlain, decomposition, byte_len, points_at, points_of, points_from, shifted, is_reorderable, is_in_order, sink, ordered, points, begins_with_starter}
use Rattle.nfd_points.specs.Reordering.{code_points, IsSoundPoint}
use Rattle.nfd_points.proofs.DecompositionLemmas.{decomposition-decompose, decomposition-scalars, is_ordered-decomposition, ascii-plain}
use Rattle.nfd_points.proofs.OrderingLemmas.{ordered-nil, ordered-cons, ordered-parts, sink-past, sink-stays, All-ordered}

-- ---- bytes

pub byte_len-cons : (c : ℕ) (cs : List ℕ) → byte_len (c ∷ cs) ≡ len_utf8 c + byte_len cs
unfolding byte_len
byte_len-cons c cs = refl

pub byte_len-nil : byte_len [] ≡ 0
unfolding byte_len
byte_len-nil = refl

pub byte_len-append : (xs ys : List ℕ) → byte_len (xs ++ ys) ≡ byte_len xs + byte_len ys
unfolding byte_len
byte_len-append [] ys = omega arith
byte_len-append (x ∷ xs) ys = ap (λ n. len_utf8 x + n) (byte_len-append xs ys) ∙ omega arith

pub byte_len-encode : (cs : List ℕ) → byte_len cs ≡ length (encode_utf8_all cs)
unfolding byte_len
byte_len-encode [] = refl
byte_len-encode (c ∷ cs) =
    ap₂ (λ m n. m + n) (sym (length-encode c)) (byte_len-encode cs) ∙ sym (length-append (encode_utf8 c) (encode_utf8_all cs))

-- ---- parts

pub points_from-cons : (start c : ℕ) (cs : List ℕ) → points_from start (c ∷ cs) ≡ points_of start c ++ points_from (start + len_utf8 c) cs
unfolding points_from
points_from-cons start c cs = refl

pub points_from-nil : (start : ℕ) → points_from start [] ≡ []
unfolding points_from
points_from-nil start = refl

pub points_from-append : (start : ℕ) (xs ys : List ℕ) → points_from start (xs ++ ys) ≡ points_from start xs ++ points_from (start + byte_len xs) ys
unfolding points_from byte_len
points_from-append start [] ys = ap (λ n. points_from n ys) (omega arith)
points_from-append start (x ∷ xs) ys =
    ap (λ l. points_of start x ++ l) (points_from-append (start + len_utf8 x) xs ys)
    ∙ sym (append_assoc (points_of start x) (points_from (start + len_utf8 x) xs) _)
    ∙ ap (λ n. points_of start x ++ points_from (start + len_utf8 x) xs ++ points_from n ys) (add_assoc start (len_utf8 x) (byte_len xs))

pub points_at-nil : (start : ℕ) (is_first : Bool) → points_at start is_first [] ≡ []
unfolding points_at
points_at-nil start is_first = refl

-- ---- code points and classes

pub code_points-points_at : (start : ℕ) (is_first : Bool) (ds : List ℕ) → code_points (points_at start is_first ds) ≡ ds
unfolding points_at
code_points-points_at start is_first [] = refl
code_points-points_at start is_first (d ∷ ds) = ap (λ l. d ∷ l) (code_points-points_at start false ds)

is_in_order-points_at : (start : ℕ) (is_first : Bool) (ds : List ℕ) → is_in_order (points_at start is_first ds) ≡ is_ordered ds
unfolding points_at is_in_order is_reorderable is_ordered is_reorderable_code
is_in_order-points_at start is_first [] = refl
is_in_order-points_at start is_first (d ∷ []) = refl
is_in_order-points_at start is_first (d ∷ e ∷ ds) = ap (λ r. not (is_reorderable_code d e) && r) (is_in_order-points_at start false (e ∷ ds))

pub is_in_order-points_of : (start c : ℕ) → is_in_order (points_of start c) ≡ true
is_in_order-points_of start c = is_in_order-points_at start true (decomposition c) ∙ is_ordered-decomposition c

abbrev pub HasClass : Point → Type 0
HasClass p = p.ccc ≡ canonical_combining_class p.cp

pub HasClass-points_at : (start : ℕ) (is_first : Bool) (ds : List ℕ) → All HasClass (points_at start is_first ds)
unfolding points_at
HasClass-points_at start is_first [] = All-nil HasClass
HasClass-points_at start is_first (d ∷ ds) = All-cons HasClass _ _ refl (HasClass-points_at start false ds)

pub HasClass-points_from : (start : ℕ) (cs : List ℕ) → All HasClass (points_from start cs)
unfolding points_from
HasClass-points_from start [] = All-nil HasClass
HasClass-points_from start (c ∷ cs) =
    All-append HasClass _ _ (HasClass-points_at start true (decomposition c)) (HasClass-points_from (start + len_utf8 c) cs)

-- ---- the code points of the points are the NFD of the text

code_points-points_from : (start : ℕ) (cs : List ℕ) → code_points (points_from start cs) ≡ flat_map (decompose Nfd) cs
unfolding points_from
code_points-points_from start [] = refl
code_points-points_from start (c ∷ cs) =
    map-append (λ (p : Point). p.cp) (points_of start c) (points_from (start + len_utf8 c) cs)
    ∙ ap₂ (λ a b. a ++ b) (code_points-points_at start true (decomposition c) ∙ decomposition-decompose c) (code_points-points_from (start + len_utf8 c) cs)

pub code_points-points_parts : (start : ℕ) (cs : List ℕ) → code_points (points_from start cs) ≡ flat_map decomposition cs
unfolding points_from
code_points-points_parts start [] = refl
code_points-points_parts start (c ∷ cs) =
    map-append (λ (p : Point). p.cp) (points_of start c) (points_from (start + len_utf8 c) cs)
    ∙ ap₂ (λ a b. a ++ b) (code_points-points_at start true (decomposition c)) (code_points-points_parts (start + len_utf8 c) cs)

same_test : (p q : Point) → HasClass p → HasClass q → is_reorderable p q ≡ is_reorderable_code p.cp q.cp
unfolding is_reorderable is_reorderable_code
same_test p q of_p of_q = rw (of_p, of_q) refl

code_points-sink : (p : Point) (qs : List Point) → HasClass p → All HasClass qs → code_points (sink p qs) ≡ sink_code p.cp (code_points qs)
unfolding sink sink_code
code_points-sink p [] of_p rest = refl
code_points-sink p (q ∷ qs) of_p rest =
    let test = same_test p q of_p (All-head HasClass q qs rest) in
    elim (cases_Bool (is_reorderable p q)) [
      | inl past ↦
          ap code_points (sink-past p q qs past) ∙ ap (λ l. q.cp ∷ l) (code_points-sink p qs of_p (All-tail HasClass q qs rest))
          ∙ sym (sink-past_code p.cp q.cp (code_points qs) (sym test ∙ past))
      | inr stays ↦ ap code_points (sink-stays p q qs stays) ∙ sym (sink-stays_code p.cp q.cp (code_points qs) (sym test ∙ stays))
    ]

code_points-ordered : (ps : List Point) → All HasClass ps → code_points (ordered ps) ≡ canonical_order (code_points ps)
unfolding canonical_order
code_points-ordered [] h = ap code_points ordered-nil
code_points-ordered (p ∷ ps) h =
    ap code_points (ordered-cons p ps)
    ∙ code_points-sink p (ordered ps) (All-head HasClass p ps h) (All-ordered HasClass ps (All-tail HasClass p ps h))
    ∙ ap (sink_code p.cp) (code_points-ordered ps (All-tail HasClass p ps h))

pub code_points-points : (cs : List ℕ) → code_points (points cs) ≡ nfd cs
unfolding normalize decomposed
code_points-points cs = code_points-ordered (points_from 0 cs) (HasClass-points_from 0 cs) ∙ ap canonical_order (code_points-points_from 0 cs)

-- ---- offsets

points_at-shift : (by start : ℕ) (is_first : Bool) (ds : List ℕ) → points_at (by + start) is_first ds ≡ map (shifted by) (points_at start is_first ds)
unfolding points_at
points_at-shift by start is_first [] = refl
points_at-shift by start is_first (d ∷ ds) = ap (λ l. record { cp = d; ccc = canonical_combining_class d; offset = by + start; first = is_first } ∷ l) (points_at-shift by start false ds)

pub points_from-shift : (by start : ℕ) (cs : List ℕ) → points_from (by + start) cs ≡ map (shifted by) (points_from start cs)
unfolding points_from
points_from-shift by start [] = refl
points_from-shift by start (c ∷ cs) =
    ap₂ (λ a b. a ++ b) (points_at-shift by start true (decomposition c))
    (ap (λ n. points_from n cs) (add_assoc by start (len_utf8 c)) ∙ points_from-shift by (start + len_utf8 c) cs)
    ∙ sym (map-append (shifted by) (points_of start c) (points_from (start + len_utf8 c) cs))

sink-shift : (by : ℕ) (p : Point) (qs : List Point) → sink (shifted by p) (map (shifted by) qs) ≡ map (shifted by) (sink p qs)
unfolding sink is_reorderable
sink-shift by p [] = refl
sink-shift by p (q ∷ qs) =
    elim (cases_Bool (is_reorderable p q)) [
      | inl past ↦
          sink-past (shifted by p) (shifted by q) (map (shifted by) qs) past ∙ ap (λ l. shifted by q ∷ l) (sink-shift by p qs)
          ∙ sym (ap (map (shifted by)) (sink-past p q qs past))
      | inr stays ↦ sink-stays (shifted by p) (shifted by q) (map (shifted by) qs) stays ∙ sym (ap (map (shifted by)) (sink-stays p q qs stays))
    ]

pub ordered-shift : (by : ℕ) (ps : List Point) → ordered (map (shifted by) ps) ≡ map (shifted by) (ordered ps)
unfolding ordered
ordered-shift by [] = refl
ordered-shift by (p ∷ ps) = ap (sink (shifted by p)) (ordered-shift by ps) ∙ sink-shift by p (ordered ps)

below-points_at : (n start : ℕ) (is_first : Bool) (ds : List ℕ) → start < n → All (λ (p : Point). p.offset < n) (points_at start is_first ds)
unfolding points_at
below-points_at n start is_first [] h = All-nil (λ (p : Point). p.offset < n)
below-points_at n start is_first (d ∷ ds) h = All-cons (λ (p : Point). p.offset < n) _ _ h (below-points_at n start false ds h)

below-points_from : (n start : ℕ) (cs : List ℕ) → start + byte_len cs ≤ n → All (λ (p : Point). p.offset < n) (points_from start cs)
unfolding points_from
below-points_from n start [] h = All-nil (λ (p : Point). p.offset < n)
below-points_from n start (c ∷ cs) h =
    let some : 1 ≤ len_utf8 c = (len_utf8_bounds c).0 in
    let parts : byte_len (c ∷ cs) ≡ len_utf8 c + byte_len cs = byte_len-cons c cs in
    All-append (λ (p : Point). p.offset < n) _ _
    (below-points_at n start true (decomposition c) (omega (arith, h, some, parts)))
    (below-points_from n (start + len_utf8 c) cs (omega (arith, h, parts)))

pub below-points : (cs : List ℕ) → All (λ (p : Point). p.offset < byte_len cs) (points cs)
below-points cs = All-ordered (λ (p : Point). p.offset < byte_len cs) _ (below-points_from (byte_len cs) 0 cs (omega arith))

-- ---- decomposed points

abbrev IsItself : Point → Type 0
IsItself p = decomposition p.cp ≡ p.cp ∷ []

decomposed-points_at : (start : ℕ) (is_first : Bool) (ds : List ℕ) → list_all (is_final Nfd) ds ≡ true → All IsItself (points_at start is_first ds)
unfolding points_at
decomposed-points_at start is_first [] h = All-nil IsItself
decomposed-points_at start is_first (d ∷ ds) h =
    let parts = and_parts (is_final Nfd d) (list_all (is_final Nfd) ds) h in
    All-cons IsItself _ _ (decomposition-decompose d ∙ decompose-final Nfd d parts.0) (decomposed-points_at start false ds parts.1)

decomposed-points_from : (start : ℕ) (cs : List ℕ) → All IsItself (points_from start cs)
unfolding points_from
decomposed-points_from start [] = All-nil IsItself
decomposed-points_from start (c ∷ cs) =
    All-append IsItself _ _
    (decomposed-points_at start true (decomposition c) (ap (list_all (is_final Nfd)) (decomposition-decompose c) ∙ (IsFull-decompose Nfd c).final))
    (decomposed-points_from (start + len_utf8 c) cs)

pub decomposed-points : (cs : List ℕ) → All IsItself (points cs)
decomposed-points cs = All-ordered IsItself _ (decomposed-points_from 0 cs)

-- ---- starters that are their own decomposition

pub points_of-plain : (start c : ℕ) → IsPlain c → points_of start c ≡ record { cp = c; ccc = 0; offset = start; first = true } ∷ []
unfolding points_at
points_of-plain start c plain =
    ap (points_at start true) plain.itself
    ∙ ap (λ n. record { cp = c; ccc = n; offset = start; first = true } ∷ []) plain.starter

pub points_of-ascii : (start c : ℕ) → c < 128 → points_of start c ≡ record { cp = c; ccc = 0; offset = start; first = true } ∷ []
points_of-ascii start c h = points_of-plain start c (ascii-plain c h)

-- ---- sound points

IsSoundPoint-points_at : (start : ℕ) (is_first : Bool) (ds : List ℕ) → All IsScalar ds → All IsSoundPoint (points_at start is_first ds)
unfolding points_at
IsSoundPoint-points_at start is_first [] h = All-nil IsSoundPoint
IsSoundPoint-points_at start is_first (d ∷ ds) h =
    All-cons IsSoundPoint _ _ (record { scalar = All-head IsScalar d ds h; in_range = scalar_below d (All-head IsScalar d ds h); class = refl }) (IsSoundPoint-points_at start false ds (All-tail IsScalar d ds h))

IsSoundPoint-points_from : (start : ℕ) (cs : List ℕ) → All IsScalar cs → All IsSoundPoint (points_from start cs)
unfolding points_from
IsSoundPoint-points_from start [] h = All-nil IsSoundPoint
IsSoundPoint-points_from start (c ∷ cs) h =
    All-append IsSoundPoint _ _ (IsSoundPoint-points_at start true (decomposition c) (decomposition-scalars c (All-head IsScalar c cs h)))
    (IsSoundPoint-points_from (start + len_utf8 c) cs (All-tail IsScalar c cs h))

pub IsSoundPoint-points : (cs : List ℕ) → All IsScalar cs → All IsSoundPoint (points cs)
IsSoundPoint-points cs h = All-ordered IsSoundPoint _ (IsSoundPoint-points_from 0 cs h)

-- ---- two texts

begins-shifted : (by : ℕ) (ps : List Point) → begins_with_starter (map (shifted by) ps) ≡ begins_with_starter ps
begins-shifted by [] = refl
begins-shifted by (p ∷ ps) = refl

pub points-parts : (xs ys : List ℕ) → begins_with_starter (points_from 0 ys) ≡ true → points (xs ++ ys) ≡ points xs ++ map (shifted (byte_len xs)) (points ys)
points-parts xs ys h =
    let later : points_from (byte_len xs) ys ≡ map (shifted (byte_len xs)) (points_from 0 ys) =
    ap (λ n. points_from n ys) (sym (add-zero (byte_len xs))) ∙ points_from-shift (byte_len xs) 0 ys in
    ap ordered (points_from-append 0 xs ys ∙ ap (λ n. points_from 0 xs ++ points_from n ys) (zero-add (byte_len xs)))
    ∙ ordered-parts (points_from 0 xs) (points_from (byte_len xs) ys) (ap begins_with_starter later ∙ begins-shifted (byte_len xs) (points_from 0 ys) ∙ h)
    ∙ ap (λ l. points xs ++ ordered l) later
    ∙ ap (λ l. points xs ++ l) (ordered-shift (byte_len xs) (points_from 0 ys))
