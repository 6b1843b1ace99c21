use Rattle.std.proofs.Common.{sym}
use Rattle.collation_backward.proofs.Ranges.{up-to-more}
use Rattle.collation_backward.proofs.reading.fn.last_of_piece.feed_with.Goals as goal

pub returns-then-end-to : goal.returns-then-end-to
returns-then-end-to c = record { kept = λ items same. sym (up-to-more c.captures.to items (c.args.start, c.args.end) c.if-end-to.true) }
