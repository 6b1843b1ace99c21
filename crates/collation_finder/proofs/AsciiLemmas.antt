-- Characters of ASCII behind the letters of a piece: each is one byte and one point, and a reorderer in which none waits gives it.
use Rattle.std.specs.Char.{is_ascii, len_utf8}
use Rattle.std.specs.Str.{IsAscii}
use Rattle.std.specs.List.{All}
use Rattle.std.proofs.Common.{◌≡◌, ◌∙◌, ℕ, zero, suc, ◌+◌, ◌<◌, ◌≤◌, Option, None, Some, List, [], ◌∷◌, ◌++◌, length, take, get_or, slice_get, false, true, not, ◌==◌, eq-eqb, refl, sym, ap, subst, arith, append_assoc}
use Rattle.std.proofs.lemmas.List.{append-nil, length-take-le}
use Rattle.std.proofs.lemmas.Str.{encode_ascii, len_utf8_ascii, IsAscii-append}
use Rattle.std.proofs.Math.Seq.{take-suc}
use Rattle.utf8_cut.specs.Characters.{ascii_prefix_len}
use Rattle.utf8_cut.specs.Sequences.{SpellsCharacter}
use Rattle.unicode_normalization.specs.Order.{is_nonstarter}
use Rattle.unicode_normalization.specs.StreamSafe.{has_short_runs}
use Rattle.nfd_points.specs.declared.points.Point.{Point}
use Rattle.nfd_points.specs.Points.{ascii_point, begins_with_starter, byte_len, ordered, points, points_from}
use Rattle.nfd_points.specs.PointFaults.{point_fault, run_after}
use Rattle.nfd_points.specs.Reordering.{Waiting, HasReordered, IsHeld, IsSoundPoint, code_points, is_closed}
use Rattle.nfd_points.specs.Laws.{AsciiIsItself, AsciiIsSound, AsciiIsGiven, BytesOfParts, PointsOfParts}
use Rattle.nfd_points.proofs.AfreshLemmas.{afresh}
use Rattle.nfd_points.proofs.DecompositionLemmas.{ascii-plain}
use Rattle.nfd_points.proofs.PointsLemmas.{points_of-ascii}
use Rattle.nfd_points.proofs.PushLemmas.{plain-pushed}
use Rattle.nfd_points.proofs.ReorderingLemmas.{IsHeld-nil, is_closed-end, take-starter}
use Rattle.nfd_points.proofs.RunLemmas.{run_after-nil, run_after-starter, short-starter}
use Rattle.collation_finder.proofs.TakenAtOnceLemmas.{from_first, from_none, from_one}

pub ascii-len : (bs : List ℕ) → IsAscii bs → byte_len bs ≡ length bs
unfolding byte_len
ascii-len [] ascii = refl
ascii-len (b ∷ bs) ascii = let one = len_utf8_ascii b (ascii 0) in let rest = ascii-len bs (λ i. ascii (suc i)) in omega (arith, one, rest)

pub ascii-one : (b : ℕ) → b < 128 → IsAscii (b ∷ [])
ascii-one b less zero = less
ascii-one b less (suc i) = omega arith

-- where the first byte is ASCII, some is counted
pub ascii-some : (piece : List ℕ) (most : ℕ) → 0 < most → 0 < length piece → get_or piece 0 0 < 128 → 0 < ascii_prefix_len (take most piece)
ascii-some [] most room some low = absurd (omega (arith, some))
ascii-some (b ∷ bs) zero room some low = absurd (omega (arith, room))
ascii-some (b ∷ bs) (suc m) room some low = let first : is_ascii b ≡ true = grind arith in rw first (omega arith)

-- one byte more
pub ascii-more : (piece : List ℕ) (n : ℕ) → n < length piece → IsAscii (take n piece) → get_or piece n 0 < 128 → IsAscii (take (n + 1) piece)
ascii-more piece n less ascii last =
    let there : n + 1 ≡ suc n = omega arith in
    let b = get_or piece n 0 in
    subst IsAscii (sym (ap (λ k. take k piece) there ∙ take-suc piece n 0 less)) (IsAscii-append (take n piece) (b ∷ []) ascii (ascii-one b last))

one-len : (b : ℕ) → byte_len (b ∷ []) ≡ len_utf8 b
unfolding byte_len
one-len b = omega arith

-- the points of one byte more
pub points-push : AsciiIsItself → PointsOfParts → (start : ℕ) (bs : List ℕ) (n b : ℕ) → length bs ≡ n → IsAscii bs → b < 128 → points_from start (bs ++ b ∷ []) ≡ points_from start bs ++ ascii_point (start + n) b ∷ []
points-push itself parts start bs n b count ascii last =
    let bytes = ascii-len bs ascii in
    let len : byte_len bs ≡ n = omega (arith, bytes, count) in
    parts start bs (b ∷ []) ∙ ap (λ (t : List Point). points_from start bs ++ t) (ap (λ k. points_from (start + k) (b ∷ [])) len ∙ from_one (start + n) b ∙ itself (start + n) b last)

pub points-more : AsciiIsItself → PointsOfParts → (start : ℕ) (piece : List ℕ) (n : ℕ) → n < length piece → IsAscii (take n piece) → get_or piece n 0 < 128 →
    points_from start (take (n + 1) piece) ≡ points_from start (take n piece) ++ ascii_point (start + n) (get_or piece n 0) ∷ []
points-more itself parts start piece n less ascii last =
    let there : n + 1 ≡ suc n = omega arith in
    ap (λ k. points_from start (take k piece)) there ∙ ap (points_from start) (take-suc piece n 0 less)
    ∙ points-push itself parts start (take n piece) n (get_or piece n 0) (length-take-le n piece (omega (arith, less))) ascii last

-- one starter makes no run
pub short-one : AsciiIsSound → (start b : ℕ) → b < 128 → has_short_runs 0 (code_points (ascii_point start b ∷ [])) ≡ true
unfolding has_short_runs
short-one sound start b less =
    let starter : is_nonstarter b ≡ false = ap (λ (n : ℕ). not (n == 0)) (sym (sound start b less).class) in short-starter 0 b [] starter

-- the first one and the others together
given-joined : AsciiIsItself → BytesOfParts → (w : Waiting) (b : ℕ) (bs taken : List ℕ) (given : List Point) → b < 128 →
    HasReordered w ((taken ++ b ∷ []) ++ bs) ((given ++ ascii_point (byte_len taken) b ∷ []) ++ points_from (byte_len (taken ++ b ∷ [])) bs) →
    HasReordered w (taken ++ b ∷ bs) (given ++ points_from (byte_len taken) (b ∷ bs))
given-joined itself bytes w b bs taken given low h =
    let at = byte_len taken in
    let one : List Point = ascii_point at b ∷ [] in
    let behind : byte_len (taken ++ b ∷ []) ≡ at + len_utf8 b = bytes taken (b ∷ []) ∙ ap (λ k. at + k) (one-len b) in
    let all : (given ++ one) ++ points_from (byte_len (taken ++ b ∷ [])) bs ≡ given ++ points_from at (b ∷ bs) =
    append_assoc given one (points_from (byte_len (taken ++ b ∷ [])) bs)
    ∙ ap (λ (ps : List Point). given ++ ps) (ap (λ k. one ++ points_from k bs) behind ∙ sym (from_first at b bs ∙ ap (λ (ps : List Point). ps ++ points_from (at + len_utf8 b) bs) (itself at b low))) in
    subst (λ (cs : List ℕ). HasReordered w cs (given ++ points_from at (b ∷ bs))) (append_assoc taken (b ∷ []) bs)
    (subst (λ (ps : List Point). HasReordered w ((taken ++ b ∷ []) ++ bs) ps) all h)

-- all of them are given, and none waits then
pub given-ascii : AsciiIsGiven → AsciiIsItself → BytesOfParts → (w : Waiting) (bs taken : List ℕ) (given : List Point) → w.held ≡ [] → IsAscii bs → HasReordered w taken given →
    HasReordered w (taken ++ bs) (given ++ points_from (byte_len taken) bs)
given-ascii law itself bytes w [] taken given none ascii h =
    subst (λ (cs : List ℕ). HasReordered w cs (given ++ points_from (byte_len taken) [])) (sym (append-nil taken))
    (subst (λ (ps : List Point). HasReordered w taken ps) (sym (ap (λ (ps : List Point). given ++ ps) (from_none (byte_len taken)) ∙ append-nil given)) h)
given-ascii law itself bytes w (b ∷ bs) taken given none ascii h =
    given-joined itself bytes w b bs taken given (ascii 0)
    (given-ascii law itself bytes w bs (taken ++ b ∷ []) (given ++ ascii_point (byte_len taken) b ∷ []) none (λ i. ascii (suc i)) (law w taken given b h none (ascii 0)))

-- ---- behind a pause

-- the first one is given, whatever waited before
ascii-afresh : (w : Waiting) (taken : List ℕ) (c : ℕ) → w.held ≡ [] → c < 128 → point_fault taken ≡ None → HasReordered w (taken ++ c ∷ []) (points taken ++ ascii_point (byte_len taken) c ∷ [])
ascii-afresh w taken c none low good =
    let p : Point = ascii_point (byte_len taken) c in
    let starter : is_nonstarter c ≡ false = ap not (eq-eqb _ 0 (ascii-plain c low).starter) in
    let held : IsHeld w.held = subst IsHeld (sym none) IsHeld-nil in
    let run : length w.held ≡ run_after (length w.held) (c ∷ []) = ap length none ∙ sym (run_after-starter (length w.held) c [] starter ∙ run_after-nil 0) in
    let moved : (rest : List Point) → ordered (w.held ++ p ∷ rest) ≡ (p ∷ []) ++ ordered (w.held ++ rest) =
    λ rest. take-starter w.held p rest held.in_order refl ∙ ap (λ (l : List Point). (l ++ p ∷ []) ++ ordered rest) none ∙ ap (λ (l : List Point). (p ∷ []) ++ ordered (l ++ rest)) (sym none) in
    afresh w w (p ∷ []) (byte_len taken) c (plain-pushed w.held w.held [] (p ∷ []) (byte_len taken) c (ascii-plain c low) refl held moved (λ _. is_closed-end [] p refl) run)
    taken none refl (ap begins_with_starter (points_of-ascii (byte_len taken) c low)) good

-- and so are the others
pub given-afresh : AsciiIsGiven → AsciiIsItself → BytesOfParts → (w : Waiting) (b : ℕ) (bs taken : List ℕ) → w.held ≡ [] → IsAscii (b ∷ bs) → point_fault taken ≡ None →
    HasReordered w (taken ++ b ∷ bs) (points taken ++ points_from (byte_len taken) (b ∷ bs))
given-afresh law itself bytes w b bs taken none ascii good =
    given-joined itself bytes w b bs taken (points taken) (ascii 0)
    (given-ascii law itself bytes w bs (taken ++ b ∷ []) (points taken ++ ascii_point (byte_len taken) b ∷ []) none (λ i. ascii (suc i)) (ascii-afresh w taken b none (ascii 0) good))

none-some : (o : Option ℕ) (c : ℕ) → o ≡ None → o ≡ Some c → ⊥
none-some o c none some = cc

-- the first of some bytes, and the others
pub first-of : (n : ℕ) (bs : List ℕ) → 0 < n → n ≤ length bs → (others : List ℕ) × (take n bs ≡ get_or bs 0 0 ∷ others)
first-of zero bs some within = absurd (omega (arith, some))
first-of (suc n) [] some within = absurd (omega (arith, within))
first-of (suc n) (b ∷ bs) some within = (take n bs, refl)

-- some are taken where a first one is, and it is the first of all
pub first-taken : (bs : List ℕ) (n c : ℕ) → slice_get (take n bs) 0 ≡ Some c → (0 < n) × (c ≡ get_or bs 0 0)
first-taken bs zero c h = absurd (none-some (slice_get (take zero bs) 0) c refl h)
first-taken [] (suc n) c h = absurd (none-some (slice_get (take (suc n) []) 0) c refl h)
first-taken (b ∷ bs) (suc n) c h = (omega arith, cc)

first-is : (bs : List ℕ) (c : ℕ) → take 1 bs ≡ c ∷ [] → get_or bs 0 0 ≡ c
first-is [] c h = cc
first-is (b ∷ bs) c h = cc

-- a character of ASCII is its byte
pub ascii-front : (bs : List ℕ) (c : ℕ) → c < 128 → SpellsCharacter (take (len_utf8 c) bs) c → get_or bs 0 0 ≡ c
ascii-front bs c low spelled = first-is bs c (ap (λ k. take k bs) (sym (len_utf8_ascii c low)) ∙ spelled.1 ∙ encode_ascii c low)

-- bytes at the front of a piece
pub given-front : AsciiIsGiven → AsciiIsItself → BytesOfParts → (w : Waiting) (piece taken : List ℕ) (n : ℕ) → 0 < n → n ≤ length piece → w.held ≡ [] → IsAscii (take n piece) → point_fault taken ≡ None →
    HasReordered w (taken ++ take n piece) (points taken ++ points_from (byte_len taken) (take n piece))
given-front law itself bytes w piece taken n some within none ascii good =
    let front = first-of n piece some within in
    subst (λ (bs : List ℕ). HasReordered w (taken ++ bs) (points taken ++ points_from (byte_len taken) bs)) (sym front.1)
    (given-afresh law itself bytes w (get_or piece 0 0) front.0 taken none (subst IsAscii front.1 ascii) good)

-- ---- of one

pub closed-one : (start b : ℕ) → is_closed (ascii_point start b ∷ []) ≡ true
unfolding is_closed
closed-one start b = refl

pub closed-none : is_closed [] ≡ true
unfolding is_closed
closed-none = refl

pub short-none : has_short_runs 0 [] ≡ true
unfolding has_short_runs
short-none = refl

pub sound-one : AsciiIsSound → (start b : ℕ) → b < 128 → All IsSoundPoint (ascii_point start b ∷ [])
sound-one sound start b less zero d within = sound start b less
sound-one sound start b less (suc k) d within = absurd (omega (arith, within))
