-- Points that are plain letters by themselves, one after another: their units are their own.
use Rattle.std.proofs.Common.{◌≡◌, ◌∙◌, ℕ, ◌-◌, true, false, List, [], ◌∷◌, ◌++◌, length, take, drop, sym, ap, subst, append_assoc}
use Rattle.std.proofs.lemmas.List.{take-append-drop, take_rest}
use Rattle.std.specs.List.{Contains}
use Rattle.std.proofs.lemmas.List.Elements.{All-same, All-contains, All-drop, All-weaker, Contains-append_left}
use Rattle.nfd_points.specs.declared.points.Point.{Point}
use Rattle.nfd_points.specs.Points.{decomposition, points_at, points_of}
use Rattle.nfd_points.specs.Laws.{PointsAreDecomposed, PointsAreShifted, WaitingAreOthers}
use Rattle.nfd_points.specs.Reordering.{IsSoundPoint}
use Rattle.collation_table.specs.Table.{TableMap}
use Rattle.collation_elements.specs.Units.{units}
use Rattle.collation_elements.specs.Windows.{Held}
use Rattle.collation_pattern.specs.Compiled.{Compiled}
use Rattle.collation_letters.specs.declared.letter.Letter.{Letter}
use Rattle.collation_letters.specs.declared.letter.Role.TheVariants.{Plain}
use Rattle.collation_letters.specs.Letters.{IsLetter, ordered_from}
use Rattle.collation_walk.specs.declared.matching.Matcher.{Matcher}
use Rattle.collation_walk.specs.Walked.{HasWalkedOn}
use Rattle.collation_finder.specs.declared.finder.Finder.{Finder}
use Rattle.collation_finder.specs.Finding.{FinderStandsFor}
use Rattle.collation_finder.specs.TakenAtOnce.{AreClosedHere, AreDecomposed, IsDecomposed}
use Rattle.collation_finder.specs.Matching.{HasMatched}
use Rattle.collation_letters.proofs.ApartLemmas.{ordered_one}
use Rattle.collation_letters.proofs.CharacterLemmas.{ordered_is_shifted}

-- the points of one character, where it stands
pub point-from : (p : Point) → p.ccc ≡ 0 → p.first ≡ true → IsSoundPoint p → decomposition p.cp ≡ p.cp ∷ [] → points_of p.offset p.cp ≡ p ∷ []
unfolding points_at
point-from p ccc first sound one =
    ap (points_at p.offset true) one ∙ ap (λ n. record { cp = p.cp; ccc = n; offset = p.offset; first = true } ∷ []) (sym sound.class)
    ∙ ap (λ b. record { cp = p.cp; ccc = p.ccc; offset = p.offset; first = b } ∷ []) (sym first)

-- in order too
pub alone_from : (p : Point) → p.ccc ≡ 0 → p.first ≡ true → IsSoundPoint p → decomposition p.cp ≡ p.cp ∷ [] → ordered_from p.offset (p.cp ∷ []) ≡ p ∷ []
alone_from p ccc first sound one = ordered_one p.offset p.cp ∙ point-from p ccc first sound one

-- each point of the window is its own decomposition, as those of a text are
pub decomposed : (others : WaitingAreOthers) (each : PointsAreDecomposed) (table : TableMap) (pattern : Compiled) (old : Finder) (taken : List ℕ) (handed : List (ℕ × ℕ)) →
    FinderStandsFor table pattern old taken handed → AreDecomposed old.window.points
decomposed others each table pattern old taken handed h =
    let all = subst AreDecomposed (others old.reorder taken h.points h.reordered) (each taken) in
    All-weaker (Contains h.points) IsDecomposed (λ p there. All-contains IsDecomposed (h.points ++ old.reorder.held) p all (Contains-append_left h.points old.reorder.held p there)) old.window.points h.matched.kept

pub closed-one_point : PointsAreShifted → (table : TableMap) (pattern : Compiled) (p : Point) (l : Letter) → ordered_from p.offset (p.cp ∷ []) ≡ p ∷ [] → l.role ≡ Plain →
    IsLetter table pattern (p.cp ∷ []) l → AreClosedHere table (p ∷ [])
closed-one_point shifted table pattern p l alone plain letter = λ more.
    let here = sym (ordered_is_shifted shifted p.offset (p.cp ∷ [])) ∙ alone in
    ap (λ (ps : List Point). units table (ps ++ more)) (sym here) ∙ letter.closed (letter.plain plain).0 p.offset more ∙ ap (λ (ps : List Point). units table ps ++ units table more) here

-- further points
pub closed-on : (table : TableMap) (ps : List Point) (p : Point) → AreClosedHere table ps → AreClosedHere table (p ∷ []) → AreClosedHere table (ps ++ p ∷ [])
closed-on table ps p before one = λ more.
    ap (units table) (append_assoc ps (p ∷ []) more) ∙ before (p ∷ more) ∙ ap (λ us. units table ps ++ us) (one more)
    ∙ sym (append_assoc (units table ps) (units table (p ∷ [])) (units table more)) ∙ ap (λ us. us ++ units table more) (sym (before (p ∷ [])))

-- ---- a window without them

pub matched-cut : (table : TableMap) (pattern : Compiled) (old new : Held) (m m' : Matcher) (n : ℕ) (points : List Point) (ranges found : List (ℕ × ℕ)) → old.has_ended ≡ false →
    new.points ≡ drop n old.points → AreClosedHere table (take n old.points) → HasWalkedOn table pattern m m' (units table (take n old.points)) found →
    HasMatched table pattern old m points ranges → HasMatched table pattern new m' points (ranges ++ found)
matched-cut table pattern old new m m' n points ranges found is_open left closed walked h =
    let first = take n old.points in
    record {
      units = h.units ++ units table first;
      cut = record {
        continues = λ more ended.
            h.cut.continues more (λ e. cc)
            ∙ ap (λ (ps : List Point). h.units ++ units table (ps ++ more)) (sym (take-append-drop n old.points))
            ∙ ap (λ (ps : List Point). h.units ++ units table ps) (append_assoc first (drop n old.points) more)
            ∙ ap (λ us. h.units ++ us) (closed (drop n old.points ++ more))
            ∙ sym (append_assoc h.units (units table first) (units table (drop n old.points ++ more)))
            ∙ ap (λ (ps : List Point). (h.units ++ units table first) ++ units table (ps ++ more)) (sym left);
      };
      went = walked h.units ranges h.went;
      kept = All-same (Contains points) _ _ left (All-drop (Contains points) n old.points h.kept);
    }

-- the points that are left, put back into the emptied window
pub left-of : (held copied before now : List Point) (n : ℕ) → copied ≡ held → before ≡ [] → now ≡ before ++ take (length copied - n) (drop n copied) → now ≡ drop n held
left-of held copied before now n same none is =
    is ∙ ap (λ (ps : List Point). ps ++ take (length copied - n) (drop n copied)) none ∙ take_rest copied n ∙ ap (λ (ps : List Point). drop n ps) same
