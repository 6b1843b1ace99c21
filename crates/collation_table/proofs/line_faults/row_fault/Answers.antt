use Rattle.std.proofs.Common.{◌∙◌, ◌∷◌, [], sym}
use Rattle.collation_table.specs.Faults.{first_kind}
use Rattle.collation_table.specs.Kinds.{wf1_kind, wf3_kind, pair_rule_kind}
use Rattle.collation_table.proofs.ElementLemmas.{usual-row}
use Rattle.collation_table.proofs.line_faults.row_fault.Goals as goal

pub returns-then-not-any_unusual-clause-kind : goal.returns-then-not-any_unusual-clause-kind
returns-then-not-any_unusual-clause-kind c =
    let met = usual-row c.args.row.now (sym c.any_unusual.ensures ∙ c.if-not-any_unusual.true) in
    sym (λ i. first_kind ((met.0 i, wf1_kind) ∷ (met.1 i, wf3_kind) ∷ (met.2 i, pair_rule_kind) ∷ []))
