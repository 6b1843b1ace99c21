-- How many bytes characters have.
use Rattle.std.specs.Char.{encode_utf8}
use Rattle.std.specs.Prelude.{encode_utf8_all}
use Rattle.std.proofs.Common.{◌≡◌, ℕ, List, [], ◌∷◌, length, arith, refl}
use Rattle.std.proofs.lemmas.List.{length-append}
use Rattle.std.proofs.lemmas.Str.{length-encode}
use Rattle.nfd_points.specs.Points.{byte_len}

pub byte_len_encoded : (cs : List ℕ) → byte_len cs ≡ length (encode_utf8_all cs)
unfolding byte_len
byte_len_encoded [] = refl
byte_len_encoded (c ∷ cs) = let rest = byte_len_encoded cs in let here = length-encode c in let sum = length-append (encode_utf8 c) (encode_utf8_all cs) in omega arith
