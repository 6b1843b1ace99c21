use Rattle.std.proofs.Common.{◌≡◌, rules}
use Rattle.collation_letters.specs.declared.letter.Role.TheVariants.{Base}
use Rattle.collation_letters.proofs.LetterLemmas.{letter-plain, points-plain}
use Rattle.collation_letters.proofs.letter.Letter.settled.Goals as goal

pub returns-clause-letter : goal.returns-clause-letter
returns-clause-letter c = λ table pattern cs h.
    let base : c.args.self.role ≡ Base = search rules depth 4 in
    letter-plain table pattern cs c.args.self base (c.if-not-self.false, (c.if-self.false, c.if-self-2.false)) h

pub returns-clause-points : goal.returns-clause-points
returns-clause-points c = λ depth table pattern ps h.
    let base : c.args.self.role ≡ Base = search rules depth 4 in
    points-plain depth table pattern ps c.args.self base (c.if-not-self.false, (c.if-self.false, c.if-self-2.false)) h
