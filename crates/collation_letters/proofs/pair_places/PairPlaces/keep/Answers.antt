use Rattle.std.proofs.lemmas.List.Elements.{All-set}
use Rattle.collation_letters.specs.Store.{IsPairKept}
use Rattle.collation_letters.proofs.pair_places.PairPlaces.keep.Goals as goal

pub returns-then-place-len : goal.returns-then-place-len
returns-then-place-len c = λ table pattern are is.
    All-set (IsPairKept table pattern) c.make_places.new.self.kept.items _ _ is (c.make_places.ensures table pattern are)
