use Rattle.std.proofs.Common.{rules}
use Rattle.colfind_c.specs.declared.outcome.Outcome.TheVariants.{WrongHandle}
use Rattle.colfind_c.specs.Exports.{SavesInto, untouched}
use Rattle.colfind_c.proofs.ExportLemmas.{asked_search, asked_none}
use Rattle.colfind_c.proofs.exports.colfind_save.Goals as goal

pub returns-in-None : goal.returns-in-None
returns-in-None c = record { saved = (WrongHandle, c.status-in-None.ensures, asked_none (untouched c.args.out.now) (λ old given how new. SavesInto c.args.out.now given.1 given.0 old how new) _ _ c.in-None.ensures.taken c.take.ensures.emptied) }

pub returns-in-Some : goal.returns-in-Some
returns-in-Some c = record {
  saved = (
    c.save_owned-outcome.result.0,
    c.status.ensures,
    asked_search (untouched c.args.out.now) (λ old given how new. SavesInto c.args.out.now given.1 given.0 old how new) _ _ _ _ (c.save_owned-outcome.result.1, c.save_owned-outcome.new.out) _ (search rules) (search rules) c.save_owned-outcome.ensures.saved,
  );
}
