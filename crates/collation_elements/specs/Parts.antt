-- Parts of a text of bytes.
use Rattle.std.specs.Prelude.{ℕ, ◌-◌, List, take, drop}

-- the part of a text from one byte offset to another
abbrev pub part_between : List ℕ → ℕ → ℕ → List ℕ
part_between text start end = take (end - start) (drop start text)
