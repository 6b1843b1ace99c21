use Rattle.std.proofs.Common.{◌≤◌, ◌∙◌, sym, ap, subst}
use Rattle.nfd_points.specs.declared.limits.TheConstants.{MOST_DECOMPOSITION}
use Rattle.collation_elements.specs.Windows.{Held}
use Rattle.collation_letters.proofs.store.Letters.find.Goals as goal

pub returns-clause-right : goal.returns-clause-right
returns-clause-right g c =
    let table = g.W.Weights.table c.args.table.now in
    let counted = c.count.ensures.right table c.args.pattern.now c.requires in
    (c.keep.ensures table c.args.pattern.now counted.0 c.find_letter-letter.ensures.letter, counted.1)

pub find_letter-letter-requires-clause-empty : goal.find_letter-letter-requires-clause-empty
find_letter-letter-requires-clause-empty g c = c.count.new.self.empty

pub find_letter-letter-requires-clause-open : goal.find_letter-letter-requires-clause-open
find_letter-letter-requires-clause-open g c = c.count.new.self.«open»

pub find_letter-letter-requires-clause-room : goal.find_letter-letter-requires-clause-room
find_letter-letter-requires-clause-room g c = c.count.new.self.room

pub invariant_of-self : goal.invariant_of-self
invariant_of-self g c =
    let same = c.find_letter-letter.ensures.window in
    record {
      empty = ap (λ w. w.points) same ∙ c.count.new.self.empty;
      «open» = ap (λ w. w.has_ended) same ∙ c.count.new.self.«open»;
      room = subst (λ (w : Held). MOST_DECOMPOSITION ≤ w.capacity) (sym same) c.count.new.self.room;
      few = c.count.new.self.few;
    }

pub returns-clause-letter : goal.returns-clause-letter
returns-clause-letter g c = c.find_letter-letter.ensures.letter
