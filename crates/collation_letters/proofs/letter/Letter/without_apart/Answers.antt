use Rattle.collation_letters.proofs.LetterLemmas.{letter-without_apart}
use Rattle.collation_letters.proofs.letter.Letter.without_apart.Goals as goal

pub returns-clause-letter : goal.returns-clause-letter
returns-clause-letter c = λ table pattern cs h. letter-without_apart table pattern cs c.args.self h
