use Rattle.std.specs.Char.{encode_utf8}
use Rattle.std.specs.Str.{chars, IsUtf8}
use Rattle.std.proofs.Common.{◌≡◌, ◌∙◌, ℕ, ◌+◌, ◌<◌, true, List, [], ◌∷◌, ◌++◌, length, take, sym, ap, subst, arith, eqb-true}
use Rattle.std.proofs.lemmas.List.{append-nil, take_all}
use Rattle.std.proofs.lemmas.List.Elements.{All-same, All-nil, All-push}
use Rattle.std.proofs.lemmas.Option.{get_or_from_slice_get}
use Rattle.std.proofs.lemmas.Str.{chars-nil, chars-append, chars_from_encodes, IsUtf8-append, IsUtf8-encode, IsUtf8-nil}
use Rattle.nfd_points.specs.declared.points.Point.{Point}
use Rattle.nfd_points.specs.Points.{byte_len, points_from, points_of, is_starter}
use Rattle.nfd_points.specs.Reordering.{IsSoundPoint}
use Rattle.nfd_points.proofs.PointsLemmas.{points_from-append}
use Rattle.collation_table.proofs.OverlayLemmas.{take-at}
use Rattle.collation_finder.specs.TakenAtOnce.{IsDecomposed}
use Rattle.collation_finder.proofs.CharacterLemmas.{chars-len}
use Rattle.collation_finder.proofs.PointLetters.{point-from}
use Rattle.collation_finder.proofs.TakenAtOnceLemmas.{from_none, from_one}
use Rattle.collation_finder.proofs.finder.Finder.held_text.Goals as goal

pub loop-i-init : goal.loop-i-init
loop-i-init c =
    let none = sym c.requires.empty in
    let start = c.point-start.result.offset in
    record {
      text = subst IsUtf8 none IsUtf8-nil;
      starters = All-nil (λ p. is_starter p ≡ true);
      points = λ each. sym (from_none start) ∙ ap (points_from start) (sym chars-nil ∙ ap chars none);
    }

pub loop-i-preserved : goal.loop-i-preserved
loop-i-preserved c =
    let i = c.loop-i.invariant in
    let n = c.loop-i.i in
    let points = c.args.self.now.window.points in
    let items = c.loop-i.text.items in
    let start = c.point-start.result.offset in
    let p : Point = c.point-point.result in
    let known = c.is_starter_at.ensures in
    let yes = c.if-not-is_starter_at.false in
    let pushed = c.push_code_point.ensures.pushed c.if-not-push_code_point.false in
    let further : take (n + 1) points ≡ take n points ++ p ∷ [] = take-at points n p c.point-point.ensures in
    let less : n < length points = let test = c.loop-i-test.true in let all = c.len-len.ensures.len in omega (arith, test, all) in
    let here = get_or_from_slice_get points n p p c.point-point.ensures in
    let sound : IsSoundPoint p = subst IsSoundPoint here (c.args.self.now.sound n p less) in
    let own = IsUtf8-encode p.cp sound.scalar in
    let codes : chars (encode_utf8 p.cp) ≡ p.cp ∷ [] = sym (chars_from_encodes (p.cp ∷ []) (encode_utf8 p.cp) own (append-nil (encode_utf8 p.cp))) in
    let len : byte_len (chars items) ≡ length items =
    let whole : take (length items) items ≡ items = take_all (length items) items (omega arith) in
    ap (λ (bs : List ℕ). byte_len (chars bs)) (sym whole) ∙ chars-len items (length items) (omega arith) (subst IsUtf8 (sym whole) i.text) in
    let place = known.offset yes in
    let count = c.len.ensures.value in
    let at : start + byte_len (chars items) ≡ p.offset = omega (arith, len, place, count) in
    record {
      text = subst IsUtf8 (sym pushed) (IsUtf8-append items (encode_utf8 p.cp) i.text own);
      starters = All-same (λ q. is_starter q ≡ true) _ _ further (All-push (λ q. is_starter q ≡ true) (take n points) p i.starters (known.starter yes));
      points = λ each.
          let one = point-from p (eqb-true p.ccc 0 (known.starter yes)) (known.first yes) sound (subst IsDecomposed here (each n p less)) in
          further ∙ ap (λ (ps : List Point). ps ++ p ∷ []) (i.points each)
          ∙ ap (λ (ps : List Point). points_from start (chars items) ++ ps) (sym (from_one (start + byte_len (chars items)) p.cp ∙ ap (λ k. points_of k p.cp) at ∙ one))
          ∙ sym (points_from-append start (chars items) (p.cp ∷ []))
          ∙ ap (points_from start) (ap (λ (cs : List ℕ). chars items ++ cs) (sym codes) ∙ sym (chars-append items (encode_utf8 p.cp) i.text) ∙ ap chars (sym pushed));
    }
