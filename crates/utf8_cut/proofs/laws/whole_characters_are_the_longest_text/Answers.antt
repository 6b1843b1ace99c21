use Rattle.std.proofs.lemmas.Str.{utf8_valid_len_le}
use Rattle.utf8_cut.proofs.CharactersLemmas.{split_of, longest}
use Rattle.utf8_cut.proofs.laws.whole_characters_are_the_longest_text.Goals as goal

pub returns-clause-text : goal.returns-clause-text
returns-clause-text c bytes = (split_of bytes).text

pub returns-clause-longest : goal.returns-clause-longest
returns-clause-longest c bytes n l u = longest bytes n l u

pub returns-clause-within : goal.returns-clause-within
returns-clause-within c bytes = utf8_valid_len_le bytes
