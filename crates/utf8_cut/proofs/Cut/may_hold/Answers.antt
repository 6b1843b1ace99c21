use Rattle.utf8_cut.proofs.Cut.may_hold.Goals as goal

pub returns : goal.returns
returns c = cc
