-- The worked lists of words, by computing both sides.
use Rattle.std.proofs.Common.{refl}
use Rattle.unicode_normalization.specs.StreamSafe.{has_short_runs}
use Rattle.unicode_normalization.proofs.Computing.{unicode_normalization}
use Rattle.nfd_points.specs.Points.{is_in_order}
use Rattle.nfd_points.specs.Reordering.{is_closed}
use Rattle.collation_states.specs.WorkedStates.{AcceptedStates, ChangedStates, ChainStates}

pub accepted_lem : AcceptedStates
unfolding unicode_normalization has_short_runs is_in_order is_closed
accepted_lem = record { begin = refl; a = refl; aa = refl; aaa = refl; in_character = refl; accent_waits = refl; fault = refl }

pub changed_lem : ChangedStates
unfolding unicode_normalization has_short_runs is_in_order is_closed
changed_lem = record { short = refl; form = refl; pattern_len = refl; strength = refl; too_long = refl; longest = refl; kind = refl; window_len = refl; non_starter = refl; surrogate = refl; other_letter = refl; decomposed_accent = refl; decomposed_accent_waits = refl; offset = refl; zero_word = refl }

pub chain_lem : ChainStates
unfolding unicode_normalization has_short_runs is_in_order is_closed
chain_lem = record { aaaa = refl; under_all = refl; first_form = refl; of_all_ranges = refl; without_the_sixth_record = refl; late_end = refl; not_zero = refl; fault = refl; end_at_a_fault = refl }
