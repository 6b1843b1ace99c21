-- A search that was paused, and characters that were taken at once after it.
use Rattle.std.specs.Char.{len_utf8}
use Rattle.std.specs.List.{Contains, list_all}
use Rattle.std.proofs.Common.{◌≡◌, ◌∙◌, ℕ, ◌+◌, Bool, true, false, not, ◌&&◌, List, [], ◌∷◌, ◌++◌, refl, sym, ap, subst, arith, append_assoc}
use Rattle.std.proofs.lemmas.List.{append-nil}
use Rattle.std.proofs.lemmas.List.Elements.{All-same, All-weaker, All-contains_itself, Contains-append_right}
use Rattle.nfd_points.specs.declared.points.Point.{Point}
use Rattle.nfd_points.specs.Points.{byte_len, points_of, points_from, points, is_starter, begins_with_starter, ordered}
use Rattle.nfd_points.specs.Reordering.{Waiting, is_non_starter}
use Rattle.collation_table.specs.Table.{TableMap}
use Rattle.collation_elements.specs.Units.{units}
use Rattle.collation_elements.specs.Items.{items}
use Rattle.collation_elements.specs.declared.keys.Item.{Item}
use Rattle.collation_elements.specs.Windows.{Held}
use Rattle.collation_pattern.specs.Compiled.{Compiled}
use Rattle.collation_walk.specs.declared.matching.Matcher.{Matcher}
use Rattle.collation_finder.specs.TakenAtOnce.{EndsBefore, CanBeTakenAtOnce, IsPausedBefore}
use Rattle.collation_finder.specs.Matching.{HasMatched}
use Rattle.collation_walk.specs.Walked.{HasWalked, HasWalkedOn}
use Rattle.collation_walk.specs.Walks.{WalksOver}
use Rattle.collation_letters.specs.Laws.{LetterLaws}
use Rattle.collation_letters.specs.Letters.{ordered_from}
use Rattle.collation_finder.proofs.TakenAtOnceLemmas.{UnitsSplitAt, begun, begun_ordered, begins_anywhere, from_first, from_none, len_none, ordered_none, units-more, splits-more, ends_first, ends_here, ends_there}

not_both : (b rest : Bool) → b ≡ true → (not b && rest) ≡ true → ⊥
not_both true rest starter h = cc
not_both false rest starter h = cc

first-same : (p x : Point) (ps tail : List Point) → p ∷ ps ≡ x ∷ tail → p ≡ x
first-same p x ps tail h = cc

cons-first : (p x : Point) (ps tail out : List Point) → p ∷ ps ≡ x ∷ tail → p ∷ out ≡ x ∷ out
cons-first p x ps tail out same = ap (λ (q : Point). q ∷ out) (first-same p x ps tail same)

-- ---- the text

begins-prefix : (ps qs : List Point) → begins_with_starter (ps ++ qs) ≡ true → begins_with_starter ps ≡ true
begins-prefix [] qs h = refl
begins-prefix (p ∷ ps) qs h = h

head-same : (x y : ℕ) (xs ys : List ℕ) → x ∷ xs ≡ y ∷ ys → x ≡ y
head-same x y xs ys h = cc

run_begins : LetterLaws → (table : TableMap) (start : ℕ) (cs : List ℕ) (next : ℕ) → CanBeTakenAtOnce table start cs next → begins_with_starter (points_from start cs) ≡ true
run_begins laws table start cs next h =
    begins-prefix (points_from start cs) (points_from (start + byte_len cs) (next ∷ [])) (ap begins_with_starter (sym (laws.parts start cs (next ∷ []))) ∙ h.begins)

run_begins_anywhere : LetterLaws → (start other : ℕ) (cs : List ℕ) → begins_with_starter (points_from start cs) ≡ true → begins_with_starter (points_from other cs) ≡ true
run_begins_anywhere laws start other [] h = ap begins_with_starter (from_none other)
run_begins_anywhere laws start other (c ∷ cs) h =
    let here = begun laws.short other c in
    let there = begun laws.short start c in
    let one : begins_with_starter (points_of start c) ≡ true = begins-prefix (points_of start c) (points_from (start + len_utf8 c) cs) (ap begins_with_starter (sym (from_first start c cs)) ∙ h) in
    ap begins_with_starter (from_first other c cs) ∙ ap (λ (t : List Point). begins_with_starter (t ++ points_from (other + len_utf8 c) cs)) here.is
    ∙ ap begins_with_starter (sym here.is) ∙ begins_anywhere start other c one

pub points-on : LetterLaws → (table : TableMap) (taken cs : List ℕ) (next : ℕ) → CanBeTakenAtOnce table (byte_len taken) cs next →
    points (taken ++ cs) ≡ points taken ++ ordered_from (byte_len taken) cs
points-on laws table taken cs next h =
    let same : 0 + byte_len taken ≡ byte_len taken = omega arith in
    ap ordered (laws.parts 0 taken cs ∙ ap (λ i. points_from 0 taken ++ points_from i cs) same)
    ∙ laws.at_starters (points_from 0 taken) (points_from (byte_len taken) cs) (run_begins laws table (byte_len taken) cs next h)

-- ---- its units

first-begins : LetterLaws → (start c : ℕ) (cs : List ℕ) → begins_with_starter (points_from start (c ∷ cs)) ≡ true → begins_with_starter (points_of start c) ≡ true
first-begins laws start c cs h = begins-prefix (points_of start c) (points_from (start + len_utf8 c) cs) (ap begins_with_starter (sym (from_first start c cs)) ∙ h)

units-on : LetterLaws → (table : TableMap) (ps : List Point) (start first : ℕ) (others cs : List ℕ) (next : ℕ) → cs ++ next ∷ [] ≡ first ∷ others → begins_with_starter (points_from start cs) ≡ true → EndsBefore table ps start first →
    units table (ps ++ ordered_from start cs) ≡ units table ps ++ units table (ordered_from start cs)
units-on laws table ps start first others [] next same starts ends =
    let nothing = ordered_none start in
    ap (λ (t : List Point). units table (ps ++ t)) nothing ∙ ap (units table) (append-nil ps) ∙ sym (append-nil (units table ps))
    ∙ ap (λ (t : List Point). units table ps ++ units table t) (sym nothing)
units-on laws table ps start first others (c ∷ cs) next same starts ends =
    let begins = first-begins laws start c cs starts in
    let b = begun_ordered laws start c cs (c ∷ cs) refl begins in
    let here : EndsBefore table ps start c = subst (EndsBefore table ps start) (sym (head-same c first (cs ++ next ∷ []) others same)) ends in
    units-more table ps (ordered_from start (c ∷ cs)) b.others b.first b.is (ends_first laws table ps start c cs (c ∷ cs) refl begins here)

ends-on : LetterLaws → (table : TableMap) (ps : List Point) (start first : ℕ) (others cs : List ℕ) (next : ℕ) → cs ++ next ∷ [] ≡ first ∷ others → EndsBefore table ps start first →
    CanBeTakenAtOnce table start cs next → EndsBefore table (ps ++ ordered_from start cs) (start + byte_len cs) next
ends-on laws table ps start first others [] next same ends h =
    let nothing = ordered_none start in
    let here : start ≡ start + byte_len [] = let none = len_none in omega (arith, none) in
    subst (λ i. EndsBefore table (ps ++ ordered_from start []) i next) here
    (subst (λ (t : List Point). EndsBefore table t start next) (sym (ap (λ (t : List Point). ps ++ t) nothing ∙ append-nil ps))
    (subst (EndsBefore table ps start) (sym (head-same next first [] others same)) ends))
ends-on laws table ps start first others (c ∷ cs) next same ends h =
    let begins = first-begins laws start c cs (run_begins laws table start (c ∷ cs) next h) in
    let b = begun_ordered laws start c cs (c ∷ cs) refl begins in
    let at = start + byte_len (c ∷ cs) in
    let after = begun laws.short at next in
    let here : EndsBefore table ps start c = subst (EndsBefore table ps start) (sym (head-same c first (cs ++ next ∷ []) others same)) ends in
    ends_there table (ps ++ ordered_from start (c ∷ cs)) at next after
    (splits-more table ps (ordered_from start (c ∷ cs)) b.others b.first after.first b.is (ends_first laws table ps start c cs (c ∷ cs) refl begins here)
    (ends_here table (ordered_from start (c ∷ cs)) at next after h.ends))

-- ---- both

pub paused-on : LetterLaws → (table : TableMap) (pattern : Compiled) (waiting : Waiting) (window : Held) (matcher matcher' : Matcher) (taken cs : List ℕ) (first next : ℕ)
    (others : List ℕ) (ranges found : List (ℕ × ℕ)) → cs ++ next ∷ [] ≡ first ∷ others → IsPausedBefore table pattern waiting window matcher taken ranges first →
    CanBeTakenAtOnce table (byte_len taken) cs next → HasWalkedOn table pattern matcher matcher' (units table (ordered_from (byte_len taken) cs)) found →
    IsPausedBefore table pattern waiting window matcher' (taken ++ cs) (ranges ++ found) next
paused-on laws table pattern waiting window matcher matcher' taken cs first next others ranges found same h run walked =
    let all = points-on laws table taken cs next run in
    let at = byte_len taken in
    let cut : units table (points (taken ++ cs)) ≡ units table (points taken) ++ units table (ordered_from at cs) =
    ap (units table) all ∙ units-on laws table (points taken) at first others cs next same (run_begins laws table at cs next run) h.ends in
    record {
      paused = record {
        walked = subst (λ us. HasWalked table pattern matcher' us (ranges ++ found)) (sym cut) (walked (units table (points taken)) ranges h.paused.walked);
        none_waits = h.paused.none_waits;
        none_left = h.paused.none_left;
        good = laws.anew taken cs (run_begins_anywhere laws at 0 cs (run_begins laws table at cs next run)) h.paused.good run.good;
      };
      ends = subst (λ i. EndsBefore table (points (taken ++ cs)) i next) (sym (laws.bytes taken cs))
          (subst (λ (ps : List Point). EndsBefore table ps (at + byte_len cs) next) (sym all) (ends-on laws table (points taken) at first others cs next same h.ends run));
    }

-- ---- the beginning

-- where all units of the points were cut, they were walked over
pub walked-all : (table : TableMap) (pattern : Compiled) (window : Held) (matcher : Matcher) (ps : List Point) (ranges : List (ℕ × ℕ)) →
    HasMatched table pattern window matcher ps ranges → window.points ≡ [] → HasWalked table pattern matcher (units table ps) ranges
walked-all table pattern window matcher ps ranges h none =
    let all = h.cut.continues [] (λ e. refl) in
    let after : units table (window.points ++ []) ≡ [] = ap (λ qs. units table (qs ++ [])) none in
    let cut : units table ps ≡ h.units = ap (units table) (sym (append-nil ps)) ∙ all ∙ ap (λ us. h.units ++ us) after ∙ append-nil h.units in
    subst (λ us. HasWalked table pattern matcher us ranges) (sym cut)
    h.went

pub walked-items : (table : TableMap) (pattern : Compiled) (matcher : Matcher) (us : List (List Point)) (ranges : List (ℕ × ℕ)) →
    HasWalked table pattern matcher us ranges → WalksOver pattern.keys (items table pattern.strength pattern.variable false us) ranges matcher.walk
walked-items table pattern matcher us ranges h =
    let listed : h.items ≡ items table pattern.strength pattern.variable false us =
    h.weighed.items ∙ ap (λ s. items table s matcher.weigher.variable false us) h.strength ∙ ap (λ v. items table pattern.strength v false us) h.variable in
    subst (λ (t : List Item). WalksOver pattern.keys t ranges matcher.walk) listed h.walked

-- ---- the end

-- the points of a character that begins with a starter, of which a reorderer gave some and kept the non-starters at the end
pub first_given : (out held tail : List Point) (x : Point) → out ++ held ≡ x ∷ tail → is_starter x ≡ true → list_all is_non_starter held ≡ true → (later : List Point) × (out ≡ x ∷ later)
first_given [] held tail x all starter others =
    let first : list_all is_non_starter (x ∷ tail) ≡ true = subst (λ (ps : List Point). list_all is_non_starter ps ≡ true) all others in
    absurd (not_both (is_starter x) (list_all is_non_starter tail) starter first)
first_given (p ∷ out) held tail x all starter others = (out, cons-first p x (out ++ held) tail out all)

pub matched-afresh : (table : TableMap) (pattern : Compiled) (window : Held) (matcher : Matcher) (ps out later : List Point) (x : Point) (ranges : List (ℕ × ℕ)) →
    out ≡ x ∷ later → UnitsSplitAt table ps x → HasWalked table pattern matcher (units table ps) ranges → window.points ≡ out → HasMatched table pattern window matcher (ps ++ out) ranges
matched-afresh table pattern window matcher ps out later x ranges begun splits h held = record {
  units = units table ps;
  cut = record {
    continues = λ more ended.
        let here = ap (λ (t : List Point). t ++ more) begun in
        ap (units table) (append_assoc ps out more) ∙ ap (λ (t : List Point). units table (ps ++ t)) here ∙ splits (later ++ more)
        ∙ ap (λ (t : List Point). units table ps ++ units table t) (sym here) ∙ ap (λ (t : List Point). units table ps ++ units table (t ++ more)) (sym held);
  };
  went = h;
  kept = All-same (Contains (ps ++ out)) _ _ held (All-weaker (Contains out) (Contains (ps ++ out)) (λ p there. Contains-append_right ps out p there) out (All-contains_itself out));
}
