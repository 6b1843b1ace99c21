use Rattle.colfind_c.proofs.exports.colfind_table.Goals as goal

pub returns : goal.returns
returns c = record { made = (c.make_table.result, c.status.ensures, c.make_table.ensures.made) }
