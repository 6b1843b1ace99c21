use Rattle.std.proofs.Common.{subst}
use Rattle.colfind_run.specs.declared.texts.Ending.{Ending}
use Rattle.colfind_run.specs.Finding.{HasSearchedUntil}
use Rattle.colfind_run.proofs.run.close.Goals as goal

pub returns-in-Unread-clause-found : goal.returns-in-Unread-clause-found
returns-in-Unread-clause-found g c = λ p bytes handed left compiled ends.
    let end = subst (λ (e : Ending). HasSearchedUntil c.args.search e bytes handed left) c.in-Unread.is ends in
    (end.1.open_bytes, c.stop.ensures.settled p bytes handed compiled end.1, end.0)
