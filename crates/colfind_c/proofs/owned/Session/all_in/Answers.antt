use Rattle.std.proofs.Common.{length, refl, rules}
use Rattle.colfind_c.proofs.AllLemmas.{all_found, all_found_at, none_found}
use Rattle.colfind_c.proofs.owned.Session.all_in.Goals as goal

pub returns-in-Good-clause-all : goal.returns-in-Good-clause-all
returns-in-Good-clause-all c = all_found c.args.self.now c.begin_again.new.self c.search_text.new.self c.hand_over.new.self c.args.text.now (length c.args.out.now) c.hand_over.result.1 c.hand_over.new.out c.hand_over.result.0
    c.begin_again.ensures.same (search rules) c.hand_over.ensures.begun c.hand_over.ensures.same c.hand_over.ensures.len c.hand_over.ensures.count c.hand_over.ensures.some c.in-Good.ensures.searched c.hand_over.ensures.all

pub returns-in-Text-clause-all : goal.returns-in-Text-clause-all
returns-in-Text-clause-all c = all_found_at c.args.self.now c.begin_again.new.self c.search_text.new.self c.hand_over-in-Text.new.self c.args.text.now (length c.args.out.now) c.hand_over-in-Text.result.1 c.hand_over-in-Text.new.out c.hand_over-in-Text.result.0
    c.begin_again.ensures.same (search rules) c.hand_over-in-Text.ensures.begun c.hand_over-in-Text.ensures.same c.hand_over-in-Text.ensures.len c.hand_over-in-Text.ensures.count c.hand_over-in-Text.ensures.some c.in-Text.fault c.in-Text.ensures.searched c.hand_over-in-Text.ensures.all

pub returns-in_default : goal.returns-in_default
returns-in_default c = record {
  all = none_found c.args.self.now c.begin_again.new.self c.search_text.new.self c.args.text.now c.args.out.now c.search_text.result (search rules) c.begin_again.ensures.same c.search_text.ensures.searched
      c.in_default.not-Good c.in_default.not-Text c.in_default.not-NoMemory;
  len = refl;
}
