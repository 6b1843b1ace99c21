use Rattle.std.specs.Char.{len_utf8}
use Rattle.std.specs.Str.{chars}
use Rattle.std.proofs.Common.{◌≡◌, ◌∙◌, ◌+◌, ℕ, List, [], ◌∷◌, ◌++◌, length, take, drop, None, sym, ap, subst, arith}
use Rattle.std.proofs.lemmas.List.{take_rest, length-drop}
use Rattle.utf8_cut.specs.Sequences.{SpellsCharacter}
use Rattle.collation_letters.specs.Clusters.{IsCluster}
use Rattle.collation_letters.specs.Letters.{ordered_from}
use Rattle.collation_letters.proofs.ClusterLemmas.{letter-of}
use Rattle.collation_finder.proofs.CharacterLemmas.{one_taken, text-more, chars-more}
use Rattle.collation_finder.proofs.reading.read_again.Goals as goal

pub marks-init : goal.marks-init
marks-init g c =
    let table = g.W.Weights.table c.args.query.now.table.now in
    let pattern = c.args.query.now.pattern.now in
    let first = c.in_ok-first.first in
    let len = c.in_ok-first.len in
    let some = c.in_ok-first.ensures.some in
    let one = one_taken c.args.so_far.now len first c.in_ok-first.ensures.len some.1 in
    record {
      within = omega (arith, some.0, c.in_ok-first.ensures.len);
      text = one.0;
      cluster = subst (λ (cs : List ℕ). IsCluster table pattern (ordered_from 0 cs) c.new-cluster.result) (sym one.1)
          (c.new-cluster.ensures.cluster None table pattern (ordered_from 0 (first ∷ [])) (letter-of table pattern (first ∷ []) c.letter.result c.letter.ensures.letter));
      right = c.letter.ensures.right;
    }

-- one mark more
pub marks-preserved : goal.marks-preserved
marks-preserved g c =
    let table = g.W.Weights.table c.args.query.now.table.now in
    let pattern = c.args.query.now.pattern.now in
    let text = c.args.so_far.now in
    let at = c.marks.at in
    let i = c.marks.invariant in
    let mark = c.in_ok-c.c in
    let n = c.in_ok-c.len in
    let rest = take_rest text at in
    let some = c.in_ok-c.ensures.some in
    let long = ap length rest ∙ length-drop at text in
    let spelled = subst (λ (bs : List ℕ). SpellsCharacter (take (len_utf8 mark) bs) mark) rest some.1 in
    let one = one_taken (drop at text) n mark c.in_ok-c.ensures.len spelled in
    let codes : chars (take (at + n) text) ≡ chars (take at text) ++ mark ∷ [] =
    chars-more text at n i.text ∙ ap (λ (t : List ℕ). chars (take at text) ++ t) one.1 in
    record {
      within = omega (arith, some.0, long, c.in_ok-c.ensures.len, i.within);
      text = text-more text at n i.text one.0;
      cluster = subst (λ (cs : List ℕ). IsCluster table pattern (ordered_from 0 cs) c.in_ok-cluster.cluster) (sym codes)
          (c.in_ok-cluster.ensures.cluster None pattern (chars (take at text)) i.cluster c.letter-mark.ensures.letter);
      right = c.letter-mark.ensures.right;
    }
