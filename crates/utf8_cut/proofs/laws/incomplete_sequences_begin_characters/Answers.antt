use Rattle.utf8_cut.proofs.TableLemmas.{incomplete_begins, begins_incomplete}
use Rattle.utf8_cut.proofs.laws.incomplete_sequences_begin_characters.Goals as goal

pub returns : goal.returns
returns c bytes = (incomplete_begins bytes, begins_incomplete bytes)
