use Rattle.std.proofs.Common.{[], sym, subst, arith, rules}
use Rattle.std.proofs.lemmas.List.{nil_from_length}
use Rattle.std.specs.Str.{StartsWithNoChar}
use Rattle.utf8_cut.proofs.TableLemmas.{no_char_nil}
use Rattle.utf8_cut.proofs.CharacterLemmas.{first_whole, first_three, first_ill}
use Rattle.utf8_cut.proofs.character.sized_character.Goals as goal

pub returns-in-empty-clause-none : goal.returns-in-empty-clause-none
returns-in-empty-clause-none c = let none = c.in-empty.len_below in subst StartsWithNoChar (sym (nil_from_length c.args.bytes.now (omega arith))) no_char_nil

pub returns-in-WellFormed-clause-some : goal.returns-in-WellFormed-clause-some
returns-in-WellFormed-clause-some c = (first_whole [] c.args.bytes.now _ c.in-len1-up.len_at_least c.in-WellFormed.ensures).1

pub returns-in-IllFormed-clause-none : goal.returns-in-IllFormed-clause-none
returns-in-IllFormed-clause-none c = first_ill [] c.args.bytes.now c.in-len1-up.len_at_least c.in-IllFormed.ensures

pub returns-in-len1-up-clause-some : goal.returns-in-len1-up-clause-some
returns-in-len1-up-clause-some c = (first_whole [] c.args.bytes.now _ c.in-len1-up.len_at_least c.of_ascii.ensures).1

pub returns-in-len1-up-clause-len : goal.returns-in-len1-up-clause-len
returns-in-len1-up-clause-len c = (first_whole [] c.args.bytes.now _ c.in-len1-up.len_at_least c.of_ascii.ensures).0

pub returns-in-WellFormed-clause-len : goal.returns-in-WellFormed-clause-len
returns-in-WellFormed-clause-len c = (first_whole [] c.args.bytes.now _ c.in-len1-up.len_at_least c.in-WellFormed.ensures).0

pub returns-in-len3-up-clause-some : goal.returns-in-len3-up-clause-some
returns-in-len3-up-clause-some c = (first_three c.args.bytes.now _ c.in-len3-up.len_at_least c.char_of_three.ensures).1

pub returns-in-len3-up-clause-len : goal.returns-in-len3-up-clause-len
returns-in-len3-up-clause-len c = (first_three c.args.bytes.now _ c.in-len3-up.len_at_least c.char_of_three.ensures).0

pub returns-in-Incomplete-clause-some : goal.returns-in-Incomplete-clause-some
returns-in-Incomplete-clause-some c = search rules depth 3

pub returns-in-Incomplete-clause-len : goal.returns-in-Incomplete-clause-len
returns-in-Incomplete-clause-len c = search rules depth 3
