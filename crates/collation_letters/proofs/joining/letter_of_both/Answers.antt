use Rattle.std.proofs.Common.{◌≡◌, ◌⊎◌, ◌≤◌, inl, inr, refl, arith}
use Rattle.collation_letters.proofs.joining.letter_of_both.Goals as goal

pub returns : goal.returns
returns c =
    let stays : c.args.mark.class ≡ 0 ⊎ c.args.base.class ≤ c.args.mark.class = elim c.if-mark-base.either [
      | inl mark ↦ inr mark.1
      | inr starter ↦ inl starter
    ] in
    record {
      joins = c.in_ok-role.ensures.joins;
      other = c.in_ok-role.ensures.other;
      stays = stays;
      closed = refl;
      apart = refl;
      class = refl;
      points = refl;
      most = omega (arith, c.if-base-ge-MOST_POINTS.false);
    }
