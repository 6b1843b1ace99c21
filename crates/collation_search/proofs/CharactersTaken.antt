-- A search that takes whole characters: it represents them too, and where they stand.
use Rattle.std.specs.Str.{chars, IsUtf8}
use Rattle.std.proofs.Common.{◌≡◌, ◌∙◌, ℕ, ◌+◌, ◌≤◌, Bool, true, false, not, List, ◌++◌, length, Option, arith, refl, sym, ap, subst}
use Rattle.std.proofs.lemmas.List.{length-append}
use Rattle.utf8_cut.specs.Characters.{characters, characters_end, with_offsets, is_utf8_prefix}
use Rattle.utf8_cut.specs.State.{StandsFor}
use Rattle.utf8_cut.specs.Value.{CutState, between_characters}
use Rattle.nfd_points.specs.Points.{byte_len}
use Rattle.nfd_points.specs.PointFaults.{point_fault}
use Rattle.collation_table.specs.Table.{TableMap}
use Rattle.collation_pattern.specs.Compiled.{Compiled}
use Rattle.collation_matches.specs.declared.faults.TextFault.{TextFault}
use Rattle.collation_finder.specs.declared.finder.Finder.{Finder}
use Rattle.collation_finder.specs.Finding.{FinderStandsFor}
use Rattle.collation_matches.specs.GoodPrefix.{most_bytes, whole}
use Rattle.collation_search.specs.Early.{IsCutUpTo, Taken}
use Rattle.collation_matches.proofs.TextCheckLemmas.{next_codes, next_offset, open_from}

pub not_false : (b : Bool) → false ≡ not b → b ≡ true
not_false true h = refl
not_false false h = cc

-- what a search represents after bytes that are whole characters
pub taken-text : (table : TableMap) (pattern : Compiled) (old new : CutState) (finder later : Finder) (fault : Option TextFault) (place : ℕ) (u text cs : List ℕ) (n : ℕ) (handed ranges : List (ℕ × ℕ)) →
    Taken table pattern old finder fault place u handed → n ≡ length text → old.count + n ≤ most_bytes → new ≡ between_characters (old.count + n) →
    StandsFor new (u ++ text) (characters u ++ with_offsets old.count cs) →
    FinderStandsFor table pattern later (chars (whole u) ++ cs) (handed ++ ranges) → IsCutUpTo table place (chars (whole u) ++ cs) later.window.points → Taken table pattern new later fault place (u ++ text) (handed ++ ranges)
taken-text table pattern old new finder later fault place u text cs n handed ranges h long fits state stands found left =
    let codes = next_codes u text old.count cs (sym stands.characters_given) in
    let sum = length-append u text in
    let count = h.cut_stands.count in
    let short : length (u ++ text) ≤ most_bytes = omega (arith, sum, count, long, fits) in
    let sound : false ≡ new.is_bad = ap (λ cut. cut.is_bad) (sym state) in
    let formed : is_utf8_prefix (u ++ text) ≡ true = not_false (is_utf8_prefix (u ++ text)) (sound ∙ stands.bad) in
    record {
      cut_stands = subst (λ t. StandsFor new (u ++ text) t) stands.characters_given stands;
      found = subst (λ cs'. FinderStandsFor table pattern later cs' (handed ++ ranges)) (sym codes) found;
      open_bytes = open_from (u ++ text) short formed (ap point_fault codes ∙ found.reordered.good);
      no_fault = h.no_fault;
      some_key = h.some_key;
      left = subst (λ cs'. IsCutUpTo table place cs' later.window.points) (sym codes) left;
    }

-- where the characters begin
pub offset-whole : (table : TableMap) (pattern : Compiled) (cut : CutState) (finder : Finder) (fault : Option TextFault) (place : ℕ) (u : List ℕ) (handed : List (ℕ × ℕ)) →
    Taken table pattern cut finder fault place u handed → cut.start ≡ cut.count → IsUtf8 (whole u) → characters_end u ≤ length u → cut.count ≡ byte_len (chars (whole u))
offset-whole table pattern cut finder fault place u handed h between text within = sym between ∙ h.cut_stands.start ∙ next_offset u text within
