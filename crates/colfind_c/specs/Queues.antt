-- What a queue of ranges holds.
use Rattle.std.specs.Prelude.{◌≡◌, ℕ, ◌+◌, ◌≤◌, List, ◌++◌, false, drop, length, map, vec_len, vec_capacity}
use Rattle.colfind_c.specs.declared.queue.Range.{Range}
use Rattle.colfind_c.specs.declared.queue.Queue.{Queue}

abbrev pub pairs : List Range → List (ℕ × ℕ)
pairs = map (λ r. (r.start, r.end))

-- the ranges that were put in and not taken
abbrev pub waiting : Queue → List (ℕ × ℕ)
waiting q = pairs (drop q.taken q.ranges.items)

-- these ranges wait, unless one was lost
pub record Waits (q : Queue) (ranges : List (ℕ × ℕ)) : Type 0 where
  pub kept : q.lost ≡ false → waiting q ≡ ranges

-- none was lost, and so many more find room
pub record HasRoomFor (q : Queue) (count : ℕ) : Type 0 where
  pub kept : q.lost ≡ false
  pub room : vec_len q.ranges + count ≤ vec_capacity q.ranges

-- These ranges were put at the end, and none of them is lost where there was room for all.
pub record Gets (old : Queue) (ranges : List (ℕ × ℕ)) (new : Queue) : Type 0 where
  pub waits : (before : List (ℕ × ℕ)) → Waits old before → Waits new (before ++ ranges)
  pub room : (count : ℕ) → HasRoomFor old (length ranges + count) → HasRoomFor new count
