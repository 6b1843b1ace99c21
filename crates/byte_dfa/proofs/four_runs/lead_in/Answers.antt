use Rattle.std.proofs.Common.{arith}
use Rattle.byte_dfa.proofs.four_runs.lead_in.Goals as goal

pub move_all-requires-clause-spots : goal.move_all-requires-clause-spots
move_all-requires-clause-spots c =
    let room = c.in_ok-room.ensures in
    let much = c.if-room-lt-FEWEST_IN_RUNS.false in (
      c.requires.cursor.spot,
      (
        record { within = omega (arith, room, much, c.near-second.ensures); has_row = c.requires.home },
        (
          record { within = omega (arith, room, much, c.near-third.ensures); has_row = c.requires.home },
          record { within = omega (arith, room, much, c.near-fourth.ensures); has_row = c.requires.home },
        ),
      ),
    )
