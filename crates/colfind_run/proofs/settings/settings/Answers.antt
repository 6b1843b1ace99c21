use Rattle.std.proofs.Common.{◌∙◌, ap, sym, subst, map, List}
use Rattle.clap.specs.Words.{App, Row, fault_of, is_simple, is_simple_and_free, matches_of, takes}
use Rattle.colfind_run.specs.Command.{command}
use Rattle.colfind_run.specs.Settings.{IsReadFrom}
use Rattle.colfind_run.proofs.Commands.{is_simple-command, is_simple_and_free-command, not_true}
use Rattle.colfind_run.proofs.settings.settings.Goals as goal

pub returns-in-Ok-try_get_matches_from-clause-taken : goal.returns-in-Ok-try_get_matches_from-clause-taken
returns-in-Ok-try_get_matches_from-clause-taken c =
    let built = c.in-Ok.ensures in
    let parse = c.in-Ok-try_get_matches_from.ensures in
    let words = map (λ word. word.now) c.args.words.now in
    let rows_are = (parse.matches (ap is_simple built.8 ∙ is_simple-command built.0 built.1 built.2 built.3)).0 ∙ ap (λ (a : App). matches_of a words) built.8 in
    record {
      strengths = built.0;
      variables = built.1;
      outputs = built.2;
      selections = built.3;
      has_strengths = built.4;
      has_variables = built.5;
      has_outputs = built.6;
      has_selections = built.7;
      no_fault = ap (λ (a : App). fault_of a words) (sym built.8) ∙ parse.kinds (ap is_simple_and_free built.8 ∙ is_simple_and_free-command built.0 built.1 built.2 built.3);
      read = subst (λ (rows : List Row). IsReadFrom rows c.read_from.result) rows_are c.read_from.ensures;
    }

pub returns : goal.returns
returns c =
    let built = c.in-Ok.ensures in
    let words = map (λ word. word.now) c.args.words.now in
    record {
      taken = tt;
      usage = λ _. record {
        strengths = built.0;
        variables = built.1;
        outputs = built.2;
        selections = built.3;
        has_strengths = built.4;
        has_variables = built.5;
        has_outputs = built.6;
        has_selections = built.7;
        refused = not_true (takes (command built.0 built.1 built.2 built.3) words) (λ yes.
            c.in_default-kind.not-OutOfMemory (c.kind.ensures ∙ c.in-Err.ensures.passes (ap (λ (a : App). takes a words) built.8 ∙ yes)));
      };
    }
