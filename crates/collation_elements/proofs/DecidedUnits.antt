-- Units that are decided: what follows leaves them as they are, and units that were cut early are among them later.
use Rattle.std.proofs.Common.{◌≡◌, ◌∙◌, ℕ, zero, suc, ◌<◌, ◌≤◌, max, nat_lt, nat_le, Bool, true, false, ◌&&◌, ◌||◌, List, [], ◌∷◌, ◌++◌, length, drop, refl, sym, ap, ap₂, arith, inl, inr, length-append, length-drop}
use Rattle.std.proofs.lemmas.Bool.{false≢true, cases_Bool, cond-true, cond-false, and_parts, and_from, leb-true, le-leb, or_parts, or_left, or_right}
use Rattle.std.proofs.lemmas.List.{drop-append-le, map-append, length-map}
use Rattle.std.proofs.lemmas.List.Folds.{list_any-append}
use Rattle.std.specs.List.{list_any}
use Rattle.nfd_points.specs.declared.points.Point.{Point}
use Rattle.nfd_points.specs.Points.{is_starter}
use Rattle.collation_table.specs.Table.{TableMap, longest_prefix, longest_mapped}
use Rattle.collation_elements.specs.Units.{Cut, code_points, first_unit, prefix_length, units}
use Rattle.collation_elements.specs.Windows.{Held, is_decided, next_cut}
use Rattle.collation_elements.specs.Decided.{begins_decided, decided_within, left_within, decided_units, left_points}
use Rattle.collation_elements.proofs.Longest.{longest_prefix-append, prefix_length-le}
use Rattle.collation_elements.proofs.ContextUnits.{with_more, first_unit-length, first_unit-prefix, first_unit-shorter, units-cons}
use Rattle.collation_elements.proofs.Cutting.{next_cut-append, length-next_cut, units-next_cut}

-- ---- what decides

-- what a unit that is decided says
record Decides (table : TableMap) (ps : List Point) : Type 0 where
  pub some : 0 < length ps
  pub long : longest_mapped table ≤ length ps
  pub starter : list_any is_starter (drop (prefix_length table ps) ps) ≡ true

starter_some : (ps : List Point) → list_any is_starter ps ≡ true → 0 < length ps
starter_some [] h = absurd (false≢true h)
starter_some (p ∷ ps) h = omega arith

decides : (table : TableMap) (ps : List Point) → begins_decided table ps ≡ true → Decides table ps
decides table ps h =
    let parts = and_parts (nat_le (longest_mapped table) (length ps)) (list_any is_starter (drop (prefix_length table ps) ps)) h in
    let further = starter_some (drop (prefix_length table ps) ps) parts.1 in
    record {
      some = omega (arith, length-drop (prefix_length table ps) ps);
      long = leb-true (longest_mapped table) (length ps) parts.0;
      starter = parts.1;
    }

decided-from : (table : TableMap) (ps : List Point) → longest_mapped table ≤ length ps → list_any is_starter (drop (prefix_length table ps) ps) ≡ true → begins_decided table ps ≡ true
decided-from table ps long starter =
    and_from (nat_le (longest_mapped table) (length ps)) (list_any is_starter (drop (prefix_length table ps) ps)) (le-leb (longest_mapped table) (length ps) long) starter

rest-shorter : (table : TableMap) (ps : List Point) → begins_decided table ps ≡ true → length (next_cut table ps).rest < length ps
rest-shorter table ps h = length-next_cut table ps (decides table ps h).some

-- no unit is decided where no point is
none_decided : (table : TableMap) → begins_decided table [] ≡ false
none_decided table =
    elim (cases_Bool (begins_decided table [])) [
      | inl decided ↦ let some = (decides table [] decided).some in absurd (omega (arith, some))
      | inr undecided ↦ undecided
    ]

-- ---- the recursion

same-decided : (f g : List Point) (table : TableMap) (ps : List Point) → length ps ≤ length f → length ps ≤ length g → decided_within f table ps ≡ decided_within g table ps
same-decided [] [] table ps hf hg = refl
same-decided [] (y ∷ g) table [] hf hg = sym (cond-false _ _ _ (none_decided table))
same-decided [] (y ∷ g) table (p ∷ ps) hf hg = absurd (omega arith)
same-decided (x ∷ f) [] table [] hf hg = cond-false _ _ _ (none_decided table)
same-decided (x ∷ f) [] table (p ∷ ps) hf hg = absurd (omega arith)
same-decided (x ∷ f) (y ∷ g) table ps hf hg =
    elim (cases_Bool (begins_decided table ps)) [
      | inl decided ↦
          let less = rest-shorter table ps decided in
          cond-true _ _ _ decided
          ∙ ap (λ us. (next_cut table ps).unit ∷ us) (same-decided f g table (next_cut table ps).rest (omega arith) (omega arith))
          ∙ sym (cond-true _ _ _ decided)
      | inr undecided ↦ cond-false _ _ _ undecided ∙ sym (cond-false _ _ _ undecided)
    ]

same-left : (f g : List Point) (table : TableMap) (ps : List Point) → length ps ≤ length f → length ps ≤ length g → left_within f table ps ≡ left_within g table ps
same-left [] [] table ps hf hg = refl
same-left [] (y ∷ g) table [] hf hg = sym (cond-false _ _ _ (none_decided table))
same-left [] (y ∷ g) table (p ∷ ps) hf hg = absurd (omega arith)
same-left (x ∷ f) [] table [] hf hg = cond-false _ _ _ (none_decided table)
same-left (x ∷ f) [] table (p ∷ ps) hf hg = absurd (omega arith)
same-left (x ∷ f) (y ∷ g) table ps hf hg =
    elim (cases_Bool (begins_decided table ps)) [
      | inl decided ↦
          let less = rest-shorter table ps decided in
          cond-true _ _ _ decided
          ∙ same-left f g table (next_cut table ps).rest (omega arith) (omega arith)
          ∙ sym (cond-true _ _ _ decided)
      | inr undecided ↦ cond-false _ _ _ undecided ∙ sym (cond-false _ _ _ undecided)
    ]

units-cut : (table : TableMap) (ps : List Point) → begins_decided table ps ≡ true → decided_units table ps ≡ (next_cut table ps).unit ∷ decided_units table (next_cut table ps).rest
units-cut table [] decided = absurd (false≢true (sym (none_decided table) ∙ decided))
units-cut table (p ∷ ps) decided =
    let rest = (next_cut table (p ∷ ps)).rest in
    let less = rest-shorter table (p ∷ ps) decided in
    cond-true _ _ _ decided ∙ ap (λ us. (next_cut table (p ∷ ps)).unit ∷ us) (same-decided ps rest table rest (omega arith) (omega arith))

units-none : (table : TableMap) (ps : List Point) → begins_decided table ps ≡ false → decided_units table ps ≡ []
units-none table [] undecided = refl
units-none table (p ∷ ps) undecided = cond-false _ _ _ undecided

left-cut : (table : TableMap) (ps : List Point) → begins_decided table ps ≡ true → left_points table ps ≡ left_points table (next_cut table ps).rest
left-cut table [] decided = absurd (false≢true (sym (none_decided table) ∙ decided))
left-cut table (p ∷ ps) decided =
    let rest = (next_cut table (p ∷ ps)).rest in
    let less = rest-shorter table (p ∷ ps) decided in
    cond-true _ _ _ decided ∙ same-left ps rest table rest (omega arith) (omega arith)

left-all : (table : TableMap) (ps : List Point) → begins_decided table ps ≡ false → left_points table ps ≡ ps
left-all table [] undecided = refl
left-all table (p ∷ ps) undecided = cond-false _ _ _ undecided

-- ---- a window

decided_open : (ended holds long : Bool) → ended ≡ false → ((ended && holds) || long) ≡ long
decided_open false holds long e = refl
decided_open true holds long e = absurd (false≢true (sym e))

undecided_open : (before long : Bool) → (before || long) ≡ false → long ≡ false
undecided_open before long h = (or_parts before long h).1

pub window-cut : (table : TableMap) (held : Held) → held.has_ended ≡ false → is_decided table held ≡ true → left_points table held.points ≡ left_points table (next_cut table held.points).rest
window-cut table held goes_on decided =
    left-cut table held.points (sym (decided_open held.has_ended (nat_lt 0 (length held.points)) (begins_decided table held.points) goes_on) ∙ decided)

pub window-left : (table : TableMap) (held : Held) → is_decided table held ≡ false → left_points table held.points ≡ held.points
window-left table held undecided =
    left-all table held.points (undecided_open (held.has_ended && nat_lt 0 (length held.points)) (begins_decided table held.points) undecided)

-- ---- by the number of points

-- What holds of points where it holds of what their first unit leaves, if that is decided, holds of all.
by_units : (table : TableMap) (P : List Point → Type 0) → ((ps : List Point) → (begins_decided table ps ≡ true → P (next_cut table ps).rest) → P ps) → (n : ℕ) (ps : List Point) → length ps ≤ n → P ps
by_units table P step zero ps few = step ps (λ decided. let some = (decides table ps decided).some in absurd (omega (arith, some)))
by_units table P step (suc n) ps few = step ps (λ decided. let less = rest-shorter table ps decided in by_units table P step n (next_cut table ps).rest (omega arith))

-- ---- the units of the points

abbrev Begins : TableMap → List Point → Type 0
Begins table ps = units table ps ≡ decided_units table ps ++ units table (left_points table ps)

begins-step : (table : TableMap) (ps : List Point) → (begins_decided table ps ≡ true → Begins table (next_cut table ps).rest) → Begins table ps
begins-step table ps later =
    elim (cases_Bool (begins_decided table ps)) [
      | inl decided ↦
          units-next_cut table ps (decides table ps decided).some
          ∙ ap (λ us. (next_cut table ps).unit ∷ us) (later decided)
          ∙ sym (ap₂ (λ us qs. us ++ units table qs) (units-cut table ps decided) (left-cut table ps decided))
      | inr undecided ↦ sym (ap₂ (λ us qs. us ++ units table qs) (units-none table ps undecided) (left-all table ps undecided))
    ]

pub units-begin : (table : TableMap) (ps : List Point) → units table ps ≡ decided_units table ps ++ units table (left_points table ps)
units-begin table ps = by_units table (Begins table) (begins-step table) (length ps) ps (omega arith)

-- ---- what follows

list_any-before : (ps more : List Point) → list_any is_starter ps ≡ true → list_any is_starter (ps ++ more) ≡ true
list_any-before ps more h = list_any-append is_starter ps more ∙ or_left (list_any is_starter ps) (list_any is_starter more) h

list_any-after : (ps more : List Point) → list_any is_starter more ≡ true → list_any is_starter (ps ++ more) ≡ true
list_any-after ps more h = list_any-append is_starter ps more ∙ or_right (list_any is_starter ps) (list_any is_starter more) h

prefix_length-append : (table : TableMap) (ps more : List Point) → longest_mapped table ≤ length ps → prefix_length table (ps ++ more) ≡ prefix_length table ps
prefix_length-append table ps more long =
    ap (λ cps. max 1 (longest_prefix table cps)) (map-append (λ (p : Point). p.cp) ps more)
    ∙ ap (max 1) (longest_prefix-append table (code_points ps) (code_points more) (omega (arith, long, length-map ps (λ (p : Point). p.cp))))

decided-append : (table : TableMap) (ps more : List Point) → begins_decided table ps ≡ true → begins_decided table (ps ++ more) ≡ true
decided-append table ps more decided =
    let d = decides table ps decided in
    let n = prefix_length table ps in
    decided-from table (ps ++ more) (omega (arith, d.long, length-append ps more))
    (ap (λ k. list_any is_starter (drop k (ps ++ more))) (prefix_length-append table ps more d.long)
    ∙ ap (list_any is_starter) (drop-append-le n ps more (prefix_length-le table ps d.some))
    ∙ list_any-before (drop n ps) more d.starter)

abbrev Stays : TableMap → List Point → List Point → Type 0
Stays table more ps =
    (decided_units table (ps ++ more) ≡ decided_units table ps ++ decided_units table (left_points table ps ++ more))
    × (left_points table (ps ++ more) ≡ left_points table (left_points table ps ++ more))

stays-step : (table : TableMap) (more ps : List Point) → (begins_decided table ps ≡ true → Stays table more (next_cut table ps).rest) → Stays table more ps
stays-step table more ps later =
    elim (cases_Bool (begins_decided table ps)) [
      | inl decided ↦
          let d = decides table ps decided in
          let cut = next_cut-append table ps more d.long d.starter in
          let all = decided-append table ps more decided in
          let rest = later decided in (
            units-cut table (ps ++ more) all
                ∙ ap (λ (c : Cut). c.unit ∷ decided_units table c.rest) cut
                ∙ ap (λ us. (next_cut table ps).unit ∷ us) rest.0
                ∙ sym (ap₂ (λ us qs. us ++ decided_units table (qs ++ more)) (units-cut table ps decided) (left-cut table ps decided)),
            left-cut table (ps ++ more) all
                ∙ ap (λ (c : Cut). left_points table c.rest) cut
                ∙ rest.1
                ∙ sym (ap (λ qs. left_points table (qs ++ more)) (left-cut table ps decided)),
          )
      | inr undecided ↦ (
        sym (ap₂ (λ us qs. us ++ decided_units table (qs ++ more)) (units-none table ps undecided) (left-all table ps undecided)),
        sym (ap (λ qs. left_points table (qs ++ more)) (left-all table ps undecided)),
      )
    ]

pub decided-stay : (table : TableMap) (ps more : List Point) → Stays table more ps
decided-stay table ps more = by_units table (Stays table more) (stays-step table more) (length ps) ps (omega arith)

-- ---- units that were cut early

-- no unit reaches from the points across the starter
abbrev EndsAt : TableMap → List Point → Point → Type 0
EndsAt table early first = (more : List Point) → units table (early ++ first ∷ more) ≡ units table early ++ units table (first ∷ more)

-- so their first unit has the same mapped prefix whatever follows
fits : (table : TableMap) (p : Point) (ps : List Point) (first : Point) (more : List Point) → EndsAt table (p ∷ ps) first → prefix_length table (p ∷ (ps ++ first ∷ more)) ≤ length (p ∷ ps)
fits table p ps first more ends =
    let whole : Cut = first_unit table p (ps ++ first ∷ more) in
    let prefix : Cut = first_unit table p ps in
    let both : whole.unit ∷ units table whole.rest ≡ prefix.unit ∷ (units table prefix.rest ++ units table (first ∷ more)) =
    sym (units-cons table p (ps ++ first ∷ more)) ∙ ends more ∙ ap (λ us. us ++ units table (first ∷ more)) (units-cons table p ps) in
    let same : whole.unit ≡ prefix.unit = cc in
    let taken = (first_unit-length table p (ps ++ first ∷ more)).1 in
    let inside = (first_unit-length table p ps).0 in
    let lengths = ap length same in
    omega (arith, taken, inside, lengths)

cut-early : (table : TableMap) (p : Point) (ps : List Point) (first : Point) (more : List Point) → is_starter first ≡ true → EndsAt table (p ∷ ps) first → first_unit table p (ps ++ first ∷ more) ≡ with_more (first ∷ more) (first_unit table p ps)
cut-early table p ps first more starter ends = first_unit-prefix table p ps first more starter (fits table p ps first more ends)

ends-rest : (table : TableMap) (p : Point) (ps : List Point) (first : Point) → is_starter first ≡ true → EndsAt table (p ∷ ps) first → EndsAt table (first_unit table p ps).rest first
ends-rest table p ps first starter ends = λ more.
    let prefix : Cut = first_unit table p ps in
    let both : prefix.unit ∷ units table (prefix.rest ++ first ∷ more) ≡ prefix.unit ∷ (units table prefix.rest ++ units table (first ∷ more)) =
    sym (ap (λ (c : Cut). c.unit ∷ units table c.rest) (cut-early table p ps first more starter ends)) ∙ sym (units-cons table p (ps ++ first ∷ more)) ∙ ends more ∙ ap (λ us. us ++ units table (first ∷ more)) (units-cons table p ps) in
    cc

decided-early : (table : TableMap) (p : Point) (ps : List Point) (first : Point) (later : List Point) → is_starter first ≡ true → EndsAt table (p ∷ ps) first → longest_mapped table ≤ suc (length (first ∷ later)) → begins_decided table (p ∷ (ps ++ first ∷ later)) ≡ true
decided-early table p ps first later starter ends long =
    let n = prefix_length table (p ∷ (ps ++ first ∷ later)) in
    decided-from table (p ∷ (ps ++ first ∷ later)) (omega (arith, long, length-append ps (first ∷ later)))
    (ap (list_any is_starter) (drop-append-le n (p ∷ ps) (first ∷ later) (fits table p ps first later ends))
    ∙ list_any-after (drop n (p ∷ ps)) (first ∷ later) (or_left (is_starter first) (list_any is_starter later) starter))

early-within : (n : ℕ) (table : TableMap) (early : List Point) (first : Point) (later : List Point) → length early ≤ n → is_starter first ≡ true → EndsAt table early first → longest_mapped table ≤ suc (length (first ∷ later)) →
    left_points table (early ++ first ∷ later) ≡ left_points table (first ∷ later)
early-within n table [] first later few starter ends long = refl
early-within zero table (p ∷ ps) first later few starter ends long = absurd (omega arith)
early-within (suc n) table (p ∷ ps) first later few starter ends long =
    left-cut table (p ∷ (ps ++ first ∷ later)) (decided-early table p ps first later starter ends long)
    ∙ ap (λ (c : Cut). left_points table c.rest) (cut-early table p ps first later starter ends)
    ∙ early-within n table (first_unit table p ps).rest first later (omega (arith, first_unit-shorter table p ps)) starter (ends-rest table p ps first starter ends) long

pub early-made_good : (table : TableMap) (early : List Point) (first : Point) (later : List Point) → is_starter first ≡ true → EndsAt table early first → longest_mapped table ≤ suc (length (first ∷ later)) →
    left_points table (early ++ first ∷ later) ≡ left_points table (first ∷ later)
early-made_good table early first later starter ends long = early-within (length early) table early first later (omega arith) starter ends long
