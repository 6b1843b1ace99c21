-- A byte that gives a character: what is known then.
use Rattle.std.specs.Str.{chars, IsUtf8}
use Rattle.std.proofs.Common.{◌≡◌, ◌∙◌, ◌≤◌, ℕ, List, [], ◌∷◌, ◌++◌, length, sym, subst}
use Rattle.utf8_cut.specs.Characters.{characters, characters_end}
use Rattle.utf8_cut.specs.State.{StandsFor, IsPrefix}
use Rattle.utf8_cut.specs.Value.{CutState}
use Rattle.nfd_points.specs.Points.{byte_len}
use Rattle.collation_matches.specs.GoodPrefix.{whole}
use Rattle.collation_matches.proofs.TextCheckLemmas.{next_code, next_offset, CharactersGoOn}

-- after the bytes u, the byte b gave the character c, which stands at an offset; the cutter is the one after it
pub record NextCharacter (u : List ℕ) (b c at : ℕ) (cut : CutState) : Type 0 where
  pub codes : chars (whole (u ++ b ∷ [])) ≡ chars (whole u) ++ c ∷ []
  pub offset : at ≡ byte_len (chars (whole u))
  pub begins : CharactersGoOn (u ++ b ∷ [])
  pub stands : StandsFor cut (u ++ b ∷ []) (characters (u ++ b ∷ []))

pub next_character : (u : List ℕ) (b c at : ℕ) (old new : CutState) → StandsFor old u (characters u) → StandsFor new (u ++ b ∷ []) (characters u ++ (c, at) ∷ []) →
    at ≡ old.start → IsUtf8 (whole u) → characters_end u ≤ length u →
    ((more : List ℕ) → StandsFor new (u ++ b ∷ []) (characters (u ++ b ∷ [])) → IsPrefix (characters (u ++ b ∷ [])) (characters ((u ++ b ∷ []) ++ more))) →
    NextCharacter u b c at new
next_character u b c at old new h stands start text within begins =
    let now = subst (λ t. StandsFor new (u ++ b ∷ []) t) stands.characters_given stands in
    record {
      codes = next_code u b c at (sym stands.characters_given);
      offset = start ∙ h.start ∙ next_offset u text within;
      begins = λ more. begins more now;
      stands = now;
    }
