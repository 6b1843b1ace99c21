use Rattle.std.specs.Char.{len_utf8}
use Rattle.std.specs.Str.{chars}
use Rattle.std.proofs.Common.{◌≡◌, ℕ, ◌+◌, ◌-◌, ◌<◌, List, ◌++◌, length, take, ap, subst, arith}
use Rattle.std.proofs.lemmas.List.{take_rest}
use Rattle.utf8_cut.specs.Sequences.{SpellsCharacter}
use Rattle.collation_matches.specs.GoodPrefix.{whole}
use Rattle.collation_search.specs.Early.{starters_from}
use Rattle.collation_search.proofs.TextSeams.{SeamLaws, seam_laws, starters-fewer, starters-more}
use Rattle.collation_search.proofs.feed.reach.Goals as goal

-- one place back
back : (u bytes : List ℕ) (at : ℕ) → 0 < at → starters_from (length u + (at - 1) + 1) (chars (whole bytes)) ≡ starters_from (length u + at) (chars (whole bytes))
back u bytes at some = let same : length u + (at - 1) + 1 ≡ length u + at = omega (arith, some) in ap (λ n. starters_from n (chars (whole bytes))) same

pub loop-at-init : goal.loop-at-init
loop-at-init g c = record {
  within = omega arith;
  right = c.requires;
  enough = λ u good. omega arith;
}

pub loop-at-preserved-then-starter_comes_first : goal.loop-at-preserved-then-starter_comes_first
loop-at-preserved-then-starter_comes_first g c =
    let piece = c.args.piece.now in
    let at = c.loop-at.at in
    let i = c.loop-at.invariant in
    let laws : SeamLaws = seam_laws c.whole_characters_are_the_longest_text.ensures.text c.incomplete_sequences_begin_characters.ensures c.text_may_stand_before.ensures.characters in
    let some = c.starter_comes_first.ensures.starter c.if-starter_comes_first.true in
    let spelled = subst (λ (bs : List ℕ). SpellsCharacter (take (len_utf8 some.0) bs) some.0) (take_rest piece (at - 1)) some.2 in
    record {
      within = omega (arith, i.within);
      right = c.starter_comes_first.ensures.right;
      enough = λ u good.
          let before = i.enough u good in
          let more = starters-more laws u piece (at - 1) some.0 (omega (arith, i.within)) spelled some.3 good in
          let same = back u (u ++ piece) at (omega (arith, c.loop-at-test.true)) in
          omega (arith, before, more, same, c.if-left-gt0.true);
    }

pub loop-at-preserved : goal.loop-at-preserved
loop-at-preserved g c =
    let piece = c.args.piece.now in
    let at = c.loop-at.at in
    let i = c.loop-at.invariant in
    record {
      within = omega (arith, i.within);
      right = c.starter_comes_first.ensures.right;
      enough = λ u good.
          let before = i.enough u good in
          let more = starters-fewer (length u + (at - 1)) (chars (whole (u ++ piece))) in
          let same = back u (u ++ piece) at (omega (arith, c.loop-at-test.true)) in
          omega (arith, before, more, same);
    }
