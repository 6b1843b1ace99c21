use Rattle.std.proofs.Common.{rules}
use Rattle.colfind_c.specs.declared.outcome.Outcome.TheVariants.{WrongHandle}
use Rattle.colfind_c.specs.Exports.{untouched}
use Rattle.colfind_c.specs.Sessions.{AllInSession}
use Rattle.colfind_c.proofs.ExportLemmas.{asked_search, asked_none}
use Rattle.colfind_c.proofs.exports.colfind_all_in.Goals as goal

pub returns-in-None : goal.returns-in-None
returns-in-None c = record { all = (WrongHandle, c.status-in-None.ensures, asked_none (untouched c.args.out.now) (λ old given how new. AllInSession old c.args.text.now given.1 given.0 how new) _ _ c.in-None.ensures.taken c.take.ensures.emptied) }

pub returns-in-Some : goal.returns-in-Some
returns-in-Some c = record {
  all = (
    c.all_owned-outcome.result.0,
    c.status.ensures,
    asked_search (untouched c.args.out.now) (λ old given how new. AllInSession old c.args.text.now given.1 given.0 how new) _ _ _ _ (c.all_owned-outcome.result.1, c.all_owned-outcome.new.out) _ (search rules) (search rules) c.all_owned-outcome.ensures.all,
  );
}
