use Rattle.colfind_c.proofs.ExportLemmas.{save_failed}
use Rattle.colfind_c.proofs.exports.save_session.Goals as goal

pub returns-in_default-clause-saved : goal.returns-in_default-clause-saved
returns-in_default-clause-saved c = save_failed c.args.out.now c.args.session.now c.save.result c.save.new.words.items c.save.new.self c.save.ensures.saved c.in_default.not-Good
