use Rattle.std.proofs.Common.{rules}
use Rattle.colfind_c.proofs.MessageLemmas.{text_written}
use Rattle.colfind_c.proofs.message.write_text.Goals as goal

pub returns : goal.returns
returns c = text_written c.args.text.now c.args.out.now c.copy_from_slice.new.self c.min-count.result c.in-Some.room (search rules) (search rules) (search rules) (search rules) (search rules)
