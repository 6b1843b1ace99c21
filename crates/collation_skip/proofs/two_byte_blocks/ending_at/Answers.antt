use Rattle.std.specs.Char.{len_utf8}
use Rattle.std.proofs.Common.{rules, ℕ, List, [], ◌∷◌, ◌+◌, take, None, subst}
use Rattle.std.proofs.lemmas.List.{take_rest}
use Rattle.utf8_cut.specs.Sequences.{SpellsCharacter}
use Rattle.collation_letters.proofs.ClusterLemmas.{letter-of}
use Rattle.collation_skip.proofs.two_byte_blocks.ending_at.Goals as goal

pub returns-clause-ending : goal.returns-clause-ending
returns-clause-ending g c =
    let piece = c.args.piece.now in
    let character = c.in_ok-character.character in
    let next = c.in_ok-next.next in
    record {
      last = character;
      own = c.letter-letter.result;
      begins = search rules;
      inside = search rules;
      whole = search rules;
      within = search rules;
      end = search rules;
      character = subst (λ (bs : List ℕ). SpellsCharacter (take (len_utf8 character) bs) character) (take_rest piece c.args.start) c.in_ok-character.ensures.some.1;
      letter = c.letter-letter.ensures.letter;
      clean = c.leaves_none.ensures c.if-not-leaves_none.false;
      room = search rules;
      next = subst (λ (bs : List ℕ). SpellsCharacter (take (len_utf8 next) bs) next) (take_rest piece (c.args.start + c.in_ok-character.character_len)) c.in_ok-next.ensures.some.1;
      following = c.letter-following.ensures.letter;
      apart = λ at. c.is_next.ensures.apart c.if-not-is_next.false None (g.W.Weights.table c.args.table.now) c.args.pattern.now at (character ∷ []) next
          (letter-of (g.W.Weights.table c.args.table.now) c.args.pattern.now (character ∷ []) c.letter-letter.result c.letter-letter.ensures.letter) c.letter-following.ensures.letter;
    }
