use Rattle.std.proofs.Common.{rules, arith, ◌≡◌, ◌+◌, ◌-◌, take, drop, sym, ap, subst, length}
use Rattle.colfind_c.specs.Sessions.{FeedsPart}
use Rattle.std.proofs.lemmas.List.{take-append-drop, take_all, length-drop}
use Rattle.colfind_c.proofs.SessionLemmas.{begins, part_taken, part_failed, part_last}
use Rattle.colfind_c.proofs.owned.Session.feed.Goals as goal

pub loop-at-init : goal.loop-at-init
loop-at-init c = begins c.args.self.now c.args.piece.now (search rules)

pub loop-at-preserved : goal.loop-at-preserved
loop-at-preserved c = part_taken c.args.self.now c.loop-at.self c.args.piece.now c.loop-at.at c.loop-at.invariant 65536 (take ((c.loop-at.at + 65536) - c.loop-at.at) (drop c.loop-at.at c.args.piece.now)) (let whole : (c.loop-at.at + 65536) - c.loop-at.at ≡ 65536 = omega (arith) in ap (λ k. take k (drop c.loop-at.at c.args.piece.now)) whole) (omega (arith, c.loop-at-test.true)) c.feed_part.new.self
    (subst (λ h. FeedsPart c.loop-at.self (take ((c.loop-at.at + 65536) - c.loop-at.at) (drop c.loop-at.at c.args.piece.now)) c.loop-at.at h c.feed_part.new.self) c.in-Good.is c.feed_part.ensures.fed)

pub returns-in_default : goal.returns-in_default
returns-in_default c = record { fed = part_failed c.args.self.now c.loop-at.self c.args.piece.now c.loop-at.at c.loop-at.invariant (take ((c.loop-at.at + 65536) - c.loop-at.at) (drop c.loop-at.at c.args.piece.now)) _ (sym (take-append-drop ((c.loop-at.at + 65536) - c.loop-at.at) (drop c.loop-at.at c.args.piece.now))) c.feed_part.result c.feed_part.new.self c.feed_part.ensures.fed c.in_default.not-Good }

pub returns : goal.returns
returns c = record { fed = part_last c.args.self.now c.loop-at.self c.args.piece.now c.loop-at.at c.loop-at.invariant _ (sym (take_all (length c.args.piece.now - c.loop-at.at) (drop c.loop-at.at c.args.piece.now) (omega (arith, length-drop c.loop-at.at c.args.piece.now)))) c.feed_part-2.result c.feed_part-2.new.self c.feed_part-2.ensures.fed }
