-- The bounds by which WF2 and WF4 are decided in one pass each: the heaviest weights, above which each secondary and tertiary
-- element has to be at its own level, and the span of the variable primary weights, both ends in it. And the elements without which
-- a row breaks none of the conditions on a row.
use Rattle.std.specs.Prelude.{ℕ, min, max, Bool, not, ◌&&◌, ◌||◌, nat_le, nat_lt, ◌==◌, Option, Some, None, if◌then◌else◌, fold}
use Rattle.collation_table.specs.declared.elements.Element.{Element}
use Rattle.collation_table.specs.Table.{TableMap}
use Rattle.collation_table.specs.WellFormed.{table_elements, is_primary, is_secondary, is_tertiary}

abbrev pub higher_second : ℕ → Element → ℕ
higher_second most e = if is_primary e then max most e.w2 else most

abbrev pub higher_third : ℕ → Element → ℕ
higher_third most e = if is_primary e || is_secondary e then max most e.w3 else most

-- the greatest second weight of the primary elements, those of implicit pairs included
abbrev pub second_bound : TableMap → ℕ
second_bound T = fold higher_second 0x20 (table_elements T)

-- the greatest third weight of the primary and secondary elements, those of implicit pairs included
abbrev pub third_bound : TableMap → ℕ
third_bound T = fold higher_third 2 (table_elements T)

abbrev pub span_with : Option (ℕ × ℕ) → ℕ → Option (ℕ × ℕ)
span_with None w = Some (w, w)
span_with (Some span) w = Some (min span.0 w, max span.1 w)

abbrev pub wider_span : Option (ℕ × ℕ) → Element → Option (ℕ × ℕ)
wider_span span e = if e.is_variable then span_with span e.w1 else span

-- the least and the greatest first weight of the variable elements
abbrev pub variable_span : TableMap → Option (ℕ × ℕ)
variable_span T = fold wider_span None (table_elements T)

abbrev pub is_too_light : ℕ → ℕ → Element → Bool
is_too_light second third e = (is_secondary e && nat_le e.w2 second) || (is_tertiary e && nat_le e.w3 third)

abbrev pub is_within_span : ℕ → ℕ → Element → Bool
is_within_span least greatest e = is_primary e && not e.is_variable && nat_le least e.w1 && nat_le e.w1 greatest

-- a first weight as high as a follower's, a weight that is not zero before one that is, or a variable element with the first weight
-- zero
abbrev pub is_unusual : Element → Bool
is_unusual e = nat_le 0x8000 e.w1 || (nat_lt 0 e.w1 && (e.w2 == 0)) || (nat_lt 0 e.w2 && (e.w3 == 0)) || (e.is_variable && (e.w1 == 0))
