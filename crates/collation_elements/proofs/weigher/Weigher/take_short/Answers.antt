use Rattle.collation_elements.proofs.ShortItemLaws.{stands_short}
use Rattle.collation_elements.proofs.weigher.Weigher.take_short.Goals as goal

pub returns-clause-stands : goal.returns-clause-stands
returns-clause-stands c =
    stands_short c.args.self.now c.take_one_key.new.self c.args.unit.now c.take_one_key.result c.take_one_key.ensures.after c.take_one_key.ensures.items
