use Rattle.std.proofs.Common.{◌<◌, sym, subst, arith}
use Rattle.std.proofs.lemmas.List.{length-set}
use Rattle.std.proofs.lemmas.Nat.{and_le_r}
use Rattle.std.proofs.lemmas.List.Elements.{All-set}
use Rattle.collation_letters.specs.Store.{IsKept}
use Rattle.collation_letters.proofs.places.Places.keep.Goals as goal

pub returns : goal.returns
returns c = λ table pattern are is. All-set (IsKept table pattern) c.args.self.now.kept.items _ _ is are

pub index_mut-requires : goal.index_mut-requires
index_mut-requires c = omega (arith, c.args.self.now.within, and_le_r c.args.c c.args.self.now.last)

pub invariant_of-self : goal.invariant_of-self
invariant_of-self c = record { within = subst (λ n. c.args.self.now.last < n) (sym (length-set c.args.self.now.kept.items _ _)) c.args.self.now.within }
