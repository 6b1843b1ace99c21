-- What was written of a list of bytes, over many calls.
use Rattle.std.specs.Prelude.{◌≡◌, ℕ, List, ◌++◌, Option}
use Rattle.colfind_io.specs.Devices.{with_piece}

-- a prefix of the bytes was written, and no more
pub record WritesPrefix (before after : Option (List ℕ)) (bytes : List ℕ) : Type 0 where
  pub prefix : List ℕ
  pub rest : List ℕ
  pub whole : bytes ≡ prefix ++ rest
  pub written : after ≡ with_piece prefix before
