-- A first point of a code point, where it is a starter, cuts a text as it cuts the text's points.
use Rattle.std.proofs.Common.{◌≡◌, ℕ, ◌+◌, Bool, true, false, not, List, [], ◌∷◌, ◌++◌, length, map, refl, sym, ap, ap₂, ◌∙◌, arith, length-append, eqb-true}
use Rattle.std.proofs.lemmas.Bool.{and_parts, not_from_true, true≢false}
use Rattle.std.specs.List.{list_all}
use Rattle.std.specs.Char.{len_utf8}
use Rattle.unicode_normalization.specs.Lookups.{canonical_combining_class}
use Rattle.nfd_points.specs.declared.points.Point.{Point}
use Rattle.nfd_points.specs.Points.{decomposition, byte_len, points_at, points_of, points_from, is_starter, ordered, points, shifted}
use Rattle.nfd_points.specs.Laws.{IsTextCut}
use Rattle.nfd_points.proofs.OrderingLemmas.{ordered-cons, sink-starter}
use Rattle.nfd_points.proofs.PointsLemmas.{byte_len-cons, byte_len-nil, points_from-cons, points_from-nil, points_from-shift, ordered-shift}
use Rattle.nfd_points.proofs.SplitLemmas.{starters-stay}

-- ---- a point that is no later point of a code point

record EndsWithinPrefix (prefix left later : List Point) (s : Point) (rest : List Point) : Type 0 where
  gap : List Point
  prefix_is : prefix ≡ left ++ gap
  later_is : later ≡ gap ++ s ∷ rest

abbrev is_later : Point → Bool
is_later p = not p.first

after_passed : (prefix left later : List Point) (s : Point) (rest : List Point) → list_all is_later left ≡ true → is_later s ≡ false → prefix ++ s ∷ rest ≡ left ++ later → EndsWithinPrefix prefix left later s rest
after_passed prefix [] later s rest h fails e = record { gap = prefix; prefix_is = refl; later_is = sym e }
after_passed [] (l ∷ left) later s rest h fails e =
    let parts = and_parts (is_later l) (list_all is_later left) h in
    let same : s ≡ l = cc in
    let clash : true ≡ false = sym parts.0 ∙ ap is_later (sym same) ∙ fails in
    absurd (true≢false clash)
after_passed (f ∷ prefix) (l ∷ left) later s rest h fails e =
    let parts = and_parts (is_later l) (list_all is_later left) h in
    let same : f ≡ l = cc in
    let tail : prefix ++ s ∷ rest ≡ left ++ later = cc in
    let more = after_passed prefix left later s rest parts.1 fails tail in
    record { gap = more.gap; prefix_is = ap₂ (λ x xs. x ∷ xs) same more.prefix_is; later_is = more.later_is }

no_first : (start : ℕ) (ds : List ℕ) → list_all is_later (points_at start false ds) ≡ true
unfolding points_at
no_first start [] = refl
no_first start (d ∷ ds) = no_first start ds

-- ---- a first point among the points of code points

record FirstAt (start : ℕ) (cs : List ℕ) (prefix : List Point) (s : Point) (later : List Point) : Type 0 where
  before : List ℕ
  c : ℕ
  following : List ℕ
  cs_are : cs ≡ before ++ c ∷ following
  prefix_is : prefix ≡ points_from start before
  later_is : s ∷ later ≡ points_from (start + byte_len before) (c ∷ following)
  offset_is : s.offset ≡ start + byte_len before

-- one code point more before it
one_more : (start : ℕ) (c : ℕ) (cs : List ℕ) (prefix before : List Point) (s : Point) (later : List Point) → prefix ≡ points_of start c ++ before → FirstAt (start + len_utf8 c) cs before s later → FirstAt start (c ∷ cs) prefix s later
one_more start c cs prefix before s later e more =
    let place : (start + len_utf8 c) + byte_len more.before ≡ start + byte_len (c ∷ more.before) = omega (arith, byte_len-cons c more.before) in
    record {
      before = c ∷ more.before;
      c = more.c;
      following = more.following;
      cs_are = ap (λ l. c ∷ l) more.cs_are;
      prefix_is = e ∙ ap (λ l. points_of start c ++ l) more.prefix_is ∙ sym (points_from-cons start c more.before);
      later_is = more.later_is ∙ ap (λ n. points_from n (more.c ∷ more.following)) place;
      offset_is = more.offset_is ∙ place;
    }

-- the points of one code point, with what follows
first_at : (start : ℕ) (c : ℕ) (cs ds : List ℕ) (prefix : List Point) (s : Point) (later : List Point) → decomposition c ≡ ds → s.first ≡ true → points_at start true ds ++ points_from (start + len_utf8 c) cs ≡ prefix ++ s ∷ later → ((before : List Point) → points_from (start + len_utf8 c) cs ≡ before ++ s ∷ later → FirstAt (start + len_utf8 c) cs before s later) → FirstAt start (c ∷ cs) prefix s later
unfolding points_at
first_at start c cs [] prefix s later is h e below =
    one_more start c cs prefix prefix s later (ap (λ ds. points_at start true ds ++ prefix) (sym is)) (below prefix e)
first_at start c cs (d ∷ ds) [] s later is h e below =
    let first : record { cp = d; ccc = canonical_combining_class d; offset = start; first = true } ≡ s = cc in
    let here : start ≡ start + byte_len [] = omega (arith, byte_len-nil) in
    record {
      before = [];
      c = c;
      following = cs;
      cs_are = refl;
      prefix_is = sym (points_from-nil start);
      later_is = sym e ∙ ap (λ l. points_at start true l ++ points_from (start + len_utf8 c) cs) (sym is) ∙ sym (points_from-cons start c cs) ∙ ap (λ n. points_from n (c ∷ cs)) here;
      offset_is = sym (ap (λ (p : Point). p.offset) first) ∙ here;
    }
first_at start c cs (d ∷ ds) (f ∷ prefix) s later is h e below =
    let first : record { cp = d; ccc = canonical_combining_class d; offset = start; first = true } ≡ f = cc in
    let rest : points_at start false ds ++ points_from (start + len_utf8 c) cs ≡ prefix ++ s ∷ later = cc in
    let b = after_passed prefix (points_at start false ds) (points_from (start + len_utf8 c) cs) s later (no_first start ds) (not_from_true _ h) (sym rest) in
    let prefix_is : f ∷ prefix ≡ points_at start true (d ∷ ds) ++ b.gap = ap₂ (λ x xs. x ∷ xs) (sym first) b.prefix_is in
    one_more start c cs (f ∷ prefix) b.gap s later (prefix_is ∙ ap (λ l. points_at start true l ++ b.gap) (sym is)) (below b.gap b.later_is)

first_point : (start : ℕ) (cs : List ℕ) (prefix : List Point) (s : Point) (later : List Point) → s.first ≡ true → points_from start cs ≡ prefix ++ s ∷ later → FirstAt start cs prefix s later
first_point start [] prefix s later h e =
    let counts : length (points_from start []) ≡ length (prefix ++ s ∷ later) = ap length e in
    let none : length (points_from start []) ≡ 0 = ap length (points_from-nil start) in
    absurd (omega (arith, length-append prefix (s ∷ later)))
first_point start (c ∷ cs) prefix s later h e =
    first_at start c cs (decomposition c) prefix s later refl h (sym (points_from-cons start c cs) ∙ e) (λ before rest. first_point (start + len_utf8 c) cs before s later h rest)

-- ---- both together

pub texts-cut : (cs : List ℕ) (prefix : List Point) (s : Point) (later : List Point) → is_starter s ≡ true → s.first ≡ true → points cs ≡ prefix ++ s ∷ later → IsTextCut cs prefix s later
texts-cut cs prefix s later starter first e =
    let zero_class = eqb-true s.ccc 0 starter in
    let u = starters-stay (points_from 0 cs) prefix s later starter e in
    let f = first_point 0 cs u.0 s u.1 first u.2 in
    let by = byte_len f.before in
    let zero : 0 + by ≡ by + 0 = omega arith in
    let same : map (shifted by) (points_from 0 (f.c ∷ f.following)) ≡ s ∷ u.1 =
    sym (points_from-shift by 0 (f.c ∷ f.following)) ∙ ap (λ n. points_from n (f.c ∷ f.following)) (sym zero) ∙ sym f.later_is in
    record {
      before = f.before;
      c = f.c;
      following = f.following;
      text = f.cs_are;
      points_before = ap ordered (sym f.prefix_is) ∙ u.3;
      points_after = sym (ordered-shift by (points_from 0 (f.c ∷ f.following))) ∙ ap ordered same ∙ ordered-cons s u.1 ∙ sink-starter s (ordered u.1) (omega arith) ∙ ap (λ l. s ∷ l) u.4;
      offset = f.offset_is ∙ (omega arith);
    }
