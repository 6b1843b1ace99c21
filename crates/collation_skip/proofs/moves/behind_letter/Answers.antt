use Rattle.std.proofs.Common.{◌∙◌, ◌<◌, length, true, false, List, [], ◌∷◌, sym, ap, subst, arith}
use Rattle.collation_elements.specs.declared.keys.Key.{Key}
use Rattle.std.proofs.Math.Logic.{∥∥₁_map}
use Rattle.collation_skip.specs.Reached.{IsHeld}
use Rattle.collation_skip.proofs.ReachedLemmas.{MayBeLeft, reached-next}
use Rattle.collation_skip.proofs.moves.behind_letter.Goals as goal

pub returns : goal.returns
returns g c =
    let table = g.W.Weights.table c.args.table.now in
    let pattern = c.args.pattern.now in
    let s = c.args.state.now in
    let t = c.behind.result in
    let laws = c.laws_of_characters.ensures in
    let leaves = c.len_to_leave-before.ensures in
    let clean : 0 < t.before → MayBeLeft s t = λ some.
    let yes : 0 < c.len_to_leave-before.result = omega (arith, some, c.behind.ensures.before) in
    record {
      len = c.behind.ensures.before ∙ leaves.len yes;
      begins = leaves.begins yes;
      flag = elim [ true ↦ leaves.flag_after yes | false ↦ leaves.flag yes ];
      some = leaves.some yes;
      none = c.behind.ensures.depth ∙ leaves.none yes;
    } in
    let depth = sym c.behind.ensures.depth in
    let letter = subst (λ n. IsHeld table pattern n (c.args.c ∷ []) t.letter) depth (c.behind.ensures.letter table (c.args.c ∷ []) c.requires.letter) in
    let below : t.depth < length pattern.keys = omega (arith, c.behind.ensures.depth, c.if-depth-most.false, c.min-most.ensures, ap (λ (l : List Key). length l) c.keys.ensures) in
    record {
      moves = λ byte spelled at bytes h. ∥∥₁_map h (λ r.
          reached-next laws laws.shifted table pattern s t at bytes byte c.args.c spelled c.requires.known.0 c.requires.known.1 c.requires.next
          (λ before keys symbols so_far. c.depth_after-depth.ensures before keys symbols so_far ∙ depth) below letter c.behind.ensures.len c.behind.ensures.marks
          (λ known. sym (c.behind.ensures.character known)) c.behind.ensures.begun clean r);
    }
