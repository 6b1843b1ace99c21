use Rattle.std.proofs.Common.{rules}
use Rattle.std.specs.Prelude.{codes}
use Rattle.std.specs.Fmt.{decimal}
use Rattle.colfind_c.specs.Messages.{before_words, words}
use Rattle.colfind_c.proofs.MessageLemmas.{joined}
use Rattle.colfind_c.proofs.outcome.Status.message.Goals as goal

pub returns : goal.returns
returns c = joined (codes "fault ") (decimal c.args.self.kind) (codes " at ") (decimal c.args.self.at) (before_words c.args.self.kind) (words c.args.self.kind)
    c.push_number.new.message.bytes c.push_str-2.new.self.bytes c.push_number-2.new.message.bytes c.push_str-3.new.self.bytes c.push_str-4.new.self.bytes
    (search rules) (search rules) (search rules) (search rules) (search rules)
