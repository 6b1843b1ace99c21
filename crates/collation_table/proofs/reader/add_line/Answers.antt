use Rattle.std.proofs.Common.{◌≡◌, ◌∙◌, sym, ap, subst, Some, None, rules}
use Rattle.std.specs.Option.{IfSome, option_map}
use Rattle.collation_table.specs.declared.lines.Line.TheVariants.{Entry}
use Rattle.collation_table.specs.Faults.{entry_kind, line_kind}
use Rattle.collation_table.specs.Reading.{form, HasParts}
use Rattle.collation_table.proofs.RowLemmas.{IsRowSound-from_kind}
use Rattle.collation_table.proofs.reader.add_line.Goals as goal

pub insert-requires-clause-sound : goal.insert-requires-clause-sound
insert-requires-clause-sound g c =
    let line : c.args.line ≡ Some (Entry c.in-Some-Entry.string c.in-Some-Entry.row) = c.in-Some-Entry.is ∙ ap Some (rw c.in-Some-Entry.is at c.in-Some-Entry.field-0-is) in
    let right : entry_kind c.args.rows.now c.in-Some-Entry.string.now c.in-Some-Entry.row.now ≡ None = ap (λ l. line_kind c.earlier_ranges.result c.args.rows.now (option_map form l)) (sym line) ∙ sym c.line_fault.ensures.kind ∙ c.in-None.is in
    let parts = subst (λ l. IfSome l HasParts) line c.requires.parts in
    IsRowSound-from_kind c.args.rows.now c.in-Some-Entry.string.now c.in-Some-Entry.row.now parts.0 parts.1 right

pub returns-in-Some-clause-fault : goal.returns-in-Some-clause-fault
returns-in-Some-clause-fault g c = search rules depth 3
