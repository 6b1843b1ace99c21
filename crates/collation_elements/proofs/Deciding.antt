-- What a window's code looks at to see whether a unit is decided.
use Rattle.std.proofs.Common.{◌≡◌, ℕ, ◌+◌, ◌<◌, ◌≤◌, nat_lt, nat_le, Bool, true, false, ◌||◌, ◌&&◌, List, [], ◌∷◌, length, take, drop, get_or, Option, Some, slice_get, refl, sym, ◌∙◌, ap, arith}
use Rattle.std.specs.List.{list_any}
use Rattle.std.specs.Option.{option_map_or}
use Rattle.std.proofs.lemmas.List.{at_drop_more}
use Rattle.std.proofs.lemmas.Bool.{false≢true, le-leb, lt-ltb}
use Rattle.std.proofs.lemmas.Option.{slice_get-get_or}
use Rattle.nfd_points.specs.declared.points.Point.{Point}
use Rattle.nfd_points.specs.Points.{is_starter}
use Rattle.collation_table.specs.Table.{TableMap, longest_prefix, longest_mapped}
use Rattle.collation_elements.specs.Units.{code_points, prefix_length}
use Rattle.collation_elements.specs.Windows.{Held, is_decided}
use Rattle.collation_elements.proofs.Longest.{longest_prefix-take}

-- a place that is no starter is passed
pub starter_from : (ps : List Point) (i : ℕ) → i < length ps → list_any is_starter (drop i ps) ≡ (option_map_or is_starter (slice_get ps i) false || list_any is_starter (drop (i + 1) ps))
starter_from [] i h = absurd (omega arith)
starter_from (p ∷ ps) i h =
    let there : slice_get (p ∷ ps) i ≡ Some (get_or (p ∷ ps) i p) = slice_get-get_or (p ∷ ps) i p h in
    at_drop_more (list_any is_starter) (p ∷ ps) i p h
    ∙ ap (λ (q : Option Point). option_map_or is_starter q false || list_any is_starter (drop (i + 1) (p ∷ ps))) (sym there)

-- as many of the first points as the longest mapped string has are asked for
pub longest_of_prefix : (T : TableMap) (ps : List Point) (prefix : List ℕ) → prefix ≡ take (longest_mapped T) (code_points ps) → longest_prefix T prefix ≡ longest_prefix T (code_points ps)
longest_of_prefix T ps prefix is = ap (longest_prefix T) is ∙ longest_prefix-take T (code_points ps) (longest_mapped T) (omega arith)

-- the end was announced, or a starter after the front decides
pub decided_by : (T : TableMap) (held : Held) (n : ℕ) → 0 < length held.points → (held.has_ended ≡ false → longest_mapped T ≤ length held.points) → n ≡ prefix_length T held.points → is_decided T held ≡ (held.has_ended || list_any is_starter (drop n held.points))
decided_by T held n some long is =
    by_end held.has_ended (nat_lt 0 (length held.points)) (nat_le (longest_mapped T) (length held.points)) (list_any is_starter (drop (prefix_length T held.points) held.points)) (lt-ltb 0 (length held.points) some) (λ e. le-leb (longest_mapped T) (length held.points) (long e))
    ∙ ap (λ k. held.has_ended || list_any is_starter (drop k held.points)) (sym is)
  where
    by_end : (ended some long starter : Bool) → some ≡ true → (ended ≡ false → long ≡ true) → ((ended && some) || (long && starter)) ≡ (ended || starter)
    by_end true true long starter a b = refl
    by_end true false long starter a b = absurd (false≢true a)
    by_end false some true starter a b = refl
    by_end false some false starter a b = absurd (false≢true (b refl))

pub or_first : (value ended starter : Bool) → value ≡ ended → ended ≡ true → value ≡ (ended || starter)
or_first value ended starter is reported = is ∙ reported ∙ ap (λ e. e || starter) (sym reported)

pub or_second : (value ended starter : Bool) → value ≡ starter → ended ≡ false → value ≡ (ended || starter)
or_second value ended starter is unreported = is ∙ ap (λ e. e || starter) (sym unreported)
