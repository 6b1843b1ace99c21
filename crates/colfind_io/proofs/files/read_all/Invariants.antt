use Rattle.std.proofs.Common.{◌≡◌, ◌-◌, ◌^◌, vec_len}
use Rattle.colfind_io.specs.Devices.{after_piece}
use Rattle.colfind_io.proofs.files.read_all.Given as goal

-- the bytes read so far stood before those that are left
abbrev pub invariant-loop-bytes : goal.invariant-loop-bytes
invariant-loop-bytes g l =
    (g.R.Source.failures l.reader ≡ g.R.Source.failures l.fn.reader)
    × (g.R.Source.left l.fn.reader ≡ after_piece l.bytes.items (g.R.Source.left l.reader))

-- how many more bytes a list can hold
abbrev pub decreases-loop-bytes : goal.decreases-loop-bytes
decreases-loop-bytes g l = 2 ^ 64 - vec_len l.bytes
