use Rattle.std.proofs.Common.{◌≡◌, ◌∙◌, List, [], ◌∷◌, ◌++◌, length, All, sym, ap, subst}
use Rattle.std.proofs.lemmas.Bool.{eqb-true}
use Rattle.std.proofs.lemmas.List.{append-nil, nil_from_length}
use Rattle.std.proofs.lemmas.List.Elements.{All-append}
use Rattle.nfd_points.specs.declared.points.Point.{Point}
use Rattle.nfd_points.specs.Reordering.{IsSoundPoint}
use Rattle.collation_letters.proofs.PairLemmas.{bytes-none, bytes-one}
use Rattle.collation_letters.proofs.pairs.points_with_mark.Goals.{After-unwrap}
use Rattle.collation_letters.proofs.pairs.points_with_mark.Goals as goal

items : (c : After-unwrap) → c.try_extend_from_slice.new.self.items ≡ c.push.new.out.items ++ c.finish.new.out.items
items c = (rw c.unwrap.ensures at c.try_extend_from_slice.ensures.ok) ∙ ap (λ (l : List Point). c.push.new.out.items ++ l) c.as_slice-2.ensures.value

-- with what came out at the mark, which is nothing, and what waited, these are all
pub returns-clause-points : goal.returns-clause-points
returns-clause-points c =
    let first = c.push.new.out.items in
    let rest = c.finish.new.out.items in
    let none : c.push-2.new.out.items ≡ [] = nil_from_length c.push-2.new.out.items (eqb-true (length c.push-2.new.out.items) 0 (sym c.if-not-is_empty.ensures)) in
    let one = c.in-Ok.ensures.carries [] [] c.new-reorder.ensures.starts bytes-none in
    let both = c.in-Ok-push.ensures.carries (c.args.first ∷ []) first one (c.len_utf8.ensures.value ∙ bytes-one c.args.first) in
    items (goal.at.returns-clause-points c).After-unwrap
    ∙ ap (λ (l : List Point). l ++ rest) (sym (append-nil first) ∙ ap (λ (l : List Point). first ++ l) (sym none))
    ∙ sym (c.finish.ensures.rest (c.args.first ∷ c.args.mark ∷ []) (first ++ c.push-2.new.out.items) both)

pub returns-clause-sound : goal.returns-clause-sound
returns-clause-sound c =
    subst (All IsSoundPoint) (sym (items (goal.at.returns-clause-sound c).After-unwrap)) (All-append IsSoundPoint c.push.new.out.items c.finish.new.out.items c.push.ensures.sound c.finish.ensures.sound)
