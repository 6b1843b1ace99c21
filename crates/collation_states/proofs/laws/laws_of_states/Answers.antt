-- The laws.
use Rattle.collation_states.proofs.StateLaws.{states_are_accepted, states_are_read_back, states_are_records}
use Rattle.collation_states.proofs.WordLaws.{words_are_those_of_their_state}
use Rattle.collation_states.proofs.laws.laws_of_states.Goals as goal

pub returns : goal.returns
returns c = record { accepted = states_are_accepted; back = states_are_read_back; words = words_are_those_of_their_state; records = states_are_records }
