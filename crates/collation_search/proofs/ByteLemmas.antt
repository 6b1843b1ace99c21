-- A byte that gives a character: what is known then, and where the character is at fault.
use Rattle.std.specs.Str.{chars, IsUtf8}
use Rattle.std.proofs.Common.{◌≡◌, ◌∙◌, ◌<◌, ◌≤◌, ℕ, List, [], ◌∷◌, ◌++◌, length, Some, sym, subst}
use Rattle.utf8_cut.specs.Characters.{characters, characters_end}
use Rattle.utf8_cut.specs.State.{StandsFor, IsPrefix}
use Rattle.utf8_cut.specs.Value.{CutState}
use Rattle.nfd_points.specs.Points.{byte_len}
use Rattle.nfd_points.specs.PointFaults.{point_fault}
use Rattle.collation_matches.specs.GoodPrefix.{most_bytes, seen, whole}
use Rattle.collation_matches.proofs.TextCheckLemmas.{next_code, next_offset, CharactersGoOn, code_at_fault}

-- after the bytes u, the byte b gave the character c, which stands at an offset; the cutter is the one after it
pub record CharacterCame (u : List ℕ) (b c at : ℕ) (cut : CutState) : Type 0 where
  pub short : length u < most_bytes
  pub codes : chars (whole (u ++ b ∷ [])) ≡ chars (whole u) ++ c ∷ []
  pub offset : at ≡ byte_len (chars (whole u))
  pub begins : CharactersGoOn (u ++ b ∷ [])
  pub stands : StandsFor cut (u ++ b ∷ []) (characters (u ++ b ∷ []))

pub came : (u : List ℕ) (b c at : ℕ) (old new : CutState) → StandsFor old u (characters u) → StandsFor new (u ++ b ∷ []) (characters u ++ (c, at) ∷ []) →
    length u < most_bytes → at ≡ old.start → IsUtf8 (whole u) → characters_end u ≤ length u →
    ((more : List ℕ) → StandsFor new (u ++ b ∷ []) (characters (u ++ b ∷ [])) → IsPrefix (characters (u ++ b ∷ [])) (characters ((u ++ b ∷ []) ++ more))) →
    CharacterCame u b c at new
came u b c at old new h stands short start text within begins =
    let now = subst (λ t. StandsFor new (u ++ b ∷ []) t) stands.characters_given stands in
    record {
      short = short;
      codes = next_code u b c at (sym stands.characters_given);
      offset = start ∙ h.start ∙ next_offset u text within;
      begins = λ more. begins more now;
      stands = now;
    }

pub character-at_fault : (u : List ℕ) (b c at : ℕ) (cut : CutState) (more : List ℕ) (kind : ℕ) → CharacterCame u b c at cut →
    ((rest : List ℕ) → point_fault (chars (whole u) ++ c ∷ rest) ≡ Some (byte_len (chars (whole u)), kind)) →
    point_fault (chars (whole (seen (u ++ b ∷ more)))) ≡ Some (byte_len (chars (whole u)), kind)
character-at_fault u b c at cut more kind known stops =
    code_at_fault u b c more (byte_len (chars (whole u)), kind) known.short known.codes known.begins stops
