-- A safe offset is a boundary.
use Rattle.std.specs.Str.{chars, IsUtf8}
use Rattle.std.proofs.Common.{◌≡◌, ℕ, ◌+◌, ◌<◌, true, List, ◌∷◌, ◌++◌, length, sym, ap, subst, inl, inr, arith, Contains}
use Rattle.nfd_points.specs.declared.points.Point.{Point}
use Rattle.nfd_points.specs.Points.{byte_len, points, is_starter}
use Rattle.nfd_points.specs.Laws.{TextsPart}
use Rattle.collation_table.specs.Table.{TableMap, ContinuesNoString}
use Rattle.collation_elements.specs.Boundaries.{boundaries, cluster_starts}
use Rattle.collation_elements.specs.Units.{units}
use Rattle.collation_matches.specs.GoodPrefix.{good_prefix, prefix_at}
use Rattle.collation_matches.specs.OffsetLaws.{AnswersFromBoundaries}
use Rattle.collation_matches.proofs.BridgeLists.{In}
use Rattle.collation_matches.proofs.LagLaw.{in-contains}
use Rattle.collation_matches.proofs.OffsetAnswers.{good-text}
use Rattle.collation_matches.proofs.OffsetBoundaries.{start-boundary}
use Rattle.collation_matches.proofs.OffsetFaults.{RestLaws}
use Rattle.collation_safe.specs.Laws.{AnswersFromSafeOffsets, SafeOffsetsAreBoundaries, SafeOffsetsMayBeGoneOnFrom}
use Rattle.collation_safe.specs.Safe.{is_safe_character}
use Rattle.collation_safe.proofs.SafeTexts.{safe-starts}
use Rattle.collation_safe.proofs.Standing.{CharacterStandsAt, stands-amid, stands-from, stands-in_text, stands-prefix, stands-within}

abbrev NoUnitReachesIn : Type 0
NoUnitReachesIn = (T : TableMap) (ps : List Point) (d : Point) (more : List Point) → is_starter d ≡ true → ContinuesNoString T d.cp → units T (ps ++ d ∷ more) ≡ units T ps ++ units T (d ∷ more)

module _ (part : TextsPart) (apart : NoUnitReachesIn) where
  stands-boundary : (table : TableMap) (text : List ℕ) (at c : ℕ) → IsUtf8 text → CharacterStandsAt text at c → is_safe_character table c ≡ true → Contains (boundaries table text) at
  stands-boundary table text at c utf8 s safe =
      let t = stands-in_text text at c utf8 s in
      let inside = stands-within text at c s in
      let here = safe-starts part apart table t.before c t.more safe in
      let there : In (cluster_starts table (points (chars text))) at = subst (In (cluster_starts table (points (chars text)))) t.offset (subst (λ (cs : List ℕ). In (cluster_starts table (points cs)) (byte_len t.before)) (sym t.text_is) here) in
      in-contains (boundaries table text) at (start-boundary table text at (omega (arith, inside)) there)

  pub safe-boundaries : SafeOffsetsAreBoundaries
  safe-boundaries table text at utf8 safe = stands-boundary table text at safe.character utf8 (stands-from text at safe.character safe.whole) safe.safe

  pub safe-places : RestLaws → SafeOffsetsMayBeGoneOnFrom
  safe-places laws table before bytes after at few safe upto =
      let text = before ++ (bytes ++ after) in
      let here = length before + at in
      let c = safe.character in
      let s = stands-amid before bytes after at c (stands-from bytes at c safe.whole) in
      let good = (good-text laws text few).good in
      let inside : here < length (good_prefix text) = elim upto [
        | inl none ↦ subst (λ (t : List ℕ). here < length t) (sym (ap (prefix_at text) none)) (stands-within text here c s)
        | inr less ↦ less
      ] in
      record {
        few = few;
        boundary = stands-boundary table (good_prefix text) here c good.text (stands-prefix text (good_prefix text) (good-text laws text few).end here c good.taken good.within good.text inside s) safe.safe;
        before_fault = upto;
      }

pub safe-answers : SafeOffsetsMayBeGoneOnFrom → AnswersFromBoundaries → AnswersFromSafeOffsets
safe-answers places answers s pattern before bytes after at all few safe upto =
    answers s pattern (before ++ (bytes ++ after)) (length before + at) all (places s.table before bytes after at few safe upto)
