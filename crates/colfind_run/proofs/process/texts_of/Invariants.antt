use Rattle.std.proofs.Common.{◌≡◌, map, take, string_bytes}
use Rattle.colfind_run.proofs.process.texts_of.Given as goal

-- the texts so far are those of the words so far
abbrev pub invariant-loop-word : goal.invariant-loop-word
invariant-loop-word l = map (λ text. text.now) l.words.items ≡ map (λ word. string_bytes word) (take l.word-index l.given.items)
