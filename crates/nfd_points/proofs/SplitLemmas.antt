-- A starter among ordered points stood there before, and cuts the points as they were.
use Rattle.std.proofs.Common.{◌≡◌, ◌<◌, ◌≤◌, true, false, List, [], ◌∷◌, ◌++◌, length, sym, ap, ap₂, ◌∙◌, arith, inl, inr, length-append, eqb-true}
use Rattle.std.proofs.lemmas.Bool.{cases_Bool, cases_lt}
use Rattle.nfd_points.specs.declared.points.Point.{Point}
use Rattle.nfd_points.specs.Points.{is_starter, is_reorderable, sink, ordered}
use Rattle.nfd_points.specs.Laws.{IsCut}
use Rattle.nfd_points.proofs.OrderingLemmas.{is_reorderable-true, sink-past, sink-stays, sink-nil, sink-starter, ordered-cons, ordered-nil}

-- the points qs, into which p sinks before the starter s
record Unsunk (p : Point) (qs prefix : List Point) (s : Point) (later : List Point) : Type 0 where
  before : List Point
  qs_are : qs ≡ before ++ s ∷ later
  prefix_is : sink p before ≡ prefix

-- a point that does not pass the first of a list does not pass the first of its prefix
stays_first : (p q : Point) (qs prefix : List Point) (s : Point) (later : List Point) → is_reorderable p q ≡ false → q ∷ qs ≡ prefix ++ s ∷ later → sink p prefix ≡ p ∷ prefix
stays_first p q qs [] s later stays e = sink-nil p
stays_first p q qs (f ∷ prefix) s later stays e =
    let same : q ≡ f = cc in sink-stays p f prefix (ap (is_reorderable p) (sym same) ∙ stays)

sink-split : (p : Point) (qs prefix : List Point) (s : Point) (later : List Point) → s.ccc ≤ 0 → 0 < p.ccc → sink p qs ≡ prefix ++ s ∷ later → Unsunk p qs prefix s later
sink-split p [] [] s later h mark e =
    let all : p ∷ [] ≡ s ∷ later = sym (sink-nil p) ∙ e in
    let same : p ≡ s = cc in
    absurd (omega (arith, ap (λ (q : Point). q.ccc) same))
sink-split p [] (f ∷ prefix) s later h mark e =
    let all : p ∷ [] ≡ f ∷ (prefix ++ s ∷ later) = sym (sink-nil p) ∙ e in
    let counts : length (p ∷ []) ≡ length (f ∷ (prefix ++ s ∷ later)) = ap length all in
    absurd (omega (arith, length-append prefix (s ∷ later)))
sink-split p (q ∷ qs) [] s later h mark e =
    elim (cases_Bool (is_reorderable p q)) [
      | inl past ↦
          let all : q ∷ sink p qs ≡ s ∷ later = sym (sink-past p q qs past) ∙ e in
          let same : q ≡ s = cc in
          let above = is_reorderable-true p q past in
          absurd (omega (arith, ap (λ (r : Point). r.ccc) same))
      | inr stays ↦
          let all : p ∷ (q ∷ qs) ≡ s ∷ later = sym (sink-stays p q qs stays) ∙ e in
          let same : p ≡ s = cc in
          absurd (omega (arith, ap (λ (r : Point). r.ccc) same))
    ]
sink-split p (q ∷ qs) (f ∷ prefix) s later h mark e =
    elim (cases_Bool (is_reorderable p q)) [
      | inl past ↦
          let all : q ∷ sink p qs ≡ f ∷ (prefix ++ s ∷ later) = sym (sink-past p q qs past) ∙ e in
          let first : q ≡ f = cc in
          let rest : sink p qs ≡ prefix ++ s ∷ later = cc in
          let more = sink-split p qs prefix s later h mark rest in
          record { before = q ∷ more.before; qs_are = ap (λ l. q ∷ l) more.qs_are; prefix_is = sink-past p q more.before past ∙ ap₂ (λ x xs. x ∷ xs) first more.prefix_is }
      | inr stays ↦
          let all : p ∷ (q ∷ qs) ≡ f ∷ (prefix ++ s ∷ later) = sym (sink-stays p q qs stays) ∙ e in
          let first : p ≡ f = cc in
          let rest : q ∷ qs ≡ prefix ++ s ∷ later = cc in
          record { before = prefix; qs_are = rest; prefix_is = stays_first p q qs prefix s later stays rest ∙ ap (λ x. x ∷ prefix) first }
    ]

-- a starter in front stays where it is
split_starter : (p : Point) (ps prefix : List Point) (s : Point) (later : List Point) → s.ccc ≤ 0 → p.ccc ≤ 0 → p ∷ ordered ps ≡ prefix ++ s ∷ later → ((before : List Point) → ordered ps ≡ before ++ s ∷ later → IsCut ps before s later) → IsCut (p ∷ ps) prefix s later
split_starter p ps [] s later h starter e below =
    let first : p ≡ s = cc in
    let rest : ordered ps ≡ later = cc in
    ([], ps, ap (λ x. x ∷ ps) first, ordered-nil, rest)
split_starter p ps (f ∷ prefix) s later h starter e below =
    let first : p ≡ f = cc in
    let rest : ordered ps ≡ prefix ++ s ∷ later = cc in
    let more = below prefix rest in (
      p ∷ more.0,
      more.1,
      ap (λ l. p ∷ l) more.2,
      ordered-cons p more.0 ∙ sink-starter p (ordered more.0) starter ∙ ap₂ (λ x xs. x ∷ xs) first more.3,
      more.4,
    )

split : (ps prefix : List Point) (s : Point) (later : List Point) → s.ccc ≤ 0 → ordered ps ≡ prefix ++ s ∷ later → IsCut ps prefix s later
split [] prefix s later h e =
    let counts : length (ordered []) ≡ length (prefix ++ s ∷ later) = ap length e in
    let none : length (ordered []) ≡ 0 = ap length ordered-nil in
    absurd (omega (arith, length-append prefix (s ∷ later)))
split (p ∷ ps) prefix s later h e =
    elim (cases_lt 0 p.ccc) [
      | inl mark ↦
          let sunk = sink-split p (ordered ps) prefix s later h mark (sym (ordered-cons p ps) ∙ e) in
          let more = split ps sunk.before s later h sunk.qs_are in
          (p ∷ more.0, more.1, ap (λ l. p ∷ l) more.2, ordered-cons p more.0 ∙ ap (sink p) more.3 ∙ sunk.prefix_is, more.4)
      | inr starter ↦ split_starter p ps prefix s later h starter (sym (sink-starter p (ordered ps) starter) ∙ sym (ordered-cons p ps) ∙ e) (λ before rest. split ps before s later h rest)
    ]

pub starters-stay : (ps before : List Point) (s : Point) (following : List Point) → is_starter s ≡ true → ordered ps ≡ before ++ s ∷ following → IsCut ps before s following
starters-stay ps before s following starter e = let zero = eqb-true s.ccc 0 starter in split ps before s following (omega arith) e
