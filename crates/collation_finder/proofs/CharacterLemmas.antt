-- Characters that are taken at once: units that were walked over.
use Rattle.std.proofs.Common.{◌≡◌, ◌∙◌, ℕ, List, [], ◌++◌, sym, ap, subst, append_assoc}
use Rattle.std.proofs.lemmas.List.{append-nil}
use Rattle.nfd_points.specs.declared.points.Point.{Point}
use Rattle.collation_table.specs.Table.{TableMap}
use Rattle.collation_pattern.specs.Compiled.{Compiled}
use Rattle.collation_walk.specs.declared.matching.Matcher.{Matcher}
use Rattle.collation_walk.specs.Walked.{HasWalked, HasWalkedOn}
pub use Rattle.utf8_cut.proofs.TextLemmas.{text-more, chars-more, one_char, one_taken, some-bytes, spells-after, one_part, part-more, text-part}
pub use Rattle.collation_letters.proofs.CharacterLemmas.{apart-at, chars-len, points_are_shifted, points-shifted}

-- ---- units that were walked over

pub on-none : (table : TableMap) (pattern : Compiled) (matcher : Matcher) (us : List (List Point)) → us ≡ [] → HasWalkedOn table pattern matcher matcher us []
on-none table pattern matcher us none = λ before ranges h.
    subst (λ (t : List (ℕ × ℕ)). HasWalked table pattern matcher (before ++ us) t) (sym (append-nil ranges))
    (subst (λ (t : List (List Point)). HasWalked table pattern matcher t ranges) (sym (ap (λ (t : List (List Point)). before ++ t) none ∙ append-nil before)) h)

pub on-more : (table : TableMap) (pattern : Compiled) (m m' m'' : Matcher) (us vs all : List (List Point)) (found others : List (ℕ × ℕ)) → all ≡ us ++ vs →
    HasWalkedOn table pattern m m' us found → HasWalkedOn table pattern m' m'' vs others → HasWalkedOn table pattern m m'' all (found ++ others)
on-more table pattern m m' m'' us vs all found others same first second = λ before ranges h.
    subst (λ (t : List (ℕ × ℕ)). HasWalked table pattern m'' (before ++ all) t) (append_assoc ranges found others)
    (subst (λ (t : List (List Point)). HasWalked table pattern m'' t ((ranges ++ found) ++ others)) (append_assoc before us vs ∙ ap (λ (t : List (List Point)). before ++ t) (sym same))
    (second (before ++ us) (ranges ++ found) (first before ranges h)))
