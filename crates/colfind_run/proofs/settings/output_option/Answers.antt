use Rattle.std.proofs.Common.{ap₂, codes, [], ◌∷◌, Option, Some, rules}
use Rattle.clap.specs.Words.{Rule}
use Rattle.clap.specs.declared.builder.value_parser.ValueParser.{ValueParser}
use Rattle.colfind_run.proofs.settings.output_option.Goals as goal

pub returns-clause-rule : goal.returns-clause-rule
returns-clause-rule c =
    let given = c.value_parser.ensures.given in (
      given.0,
      rw (c.default_value.ensures, c.value_parser.ensures.others, c.long.ensures)
          (ap₂ (λ (p : Option ValueParser) (r : Rule). record r { long = Some (codes "output"); parser = p; defaults = codes "ranges" ∷ [] }) given.1 c.new.ensures.rule),
      search rules depth 4,
    )
