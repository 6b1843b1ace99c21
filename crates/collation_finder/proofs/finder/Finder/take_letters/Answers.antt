use Rattle.std.specs.Str.{chars, IsUtf8}
use Rattle.std.specs.List.{FoldsTo}
use Rattle.std.proofs.Common.{◌≡◌, ◌∙◌, ℕ, ◌+◌, ◌-◌, List, ◌++◌, inl, length, take, drop, sym, ap, subst, arith, append_assoc}
use Rattle.std.proofs.lemmas.List.{length-drop, take_rest}
use Rattle.nfd_points.specs.Points.{byte_len}
use Rattle.collation_finder.specs.Finding.{FinderStandsFor}
use Rattle.collation_finder.specs.Early.{IsCutUpTo}
use Rattle.collation_finder.proofs.CharacterLemmas.{text-more, chars-more, chars-len}
use Rattle.collation_walk.proofs.Folds.{folds-append}
use Rattle.collation_finder.proofs.finder.Finder.take_letters.Given as given
use Rattle.collation_finder.proofs.finder.Finder.take_letters.Goals.{After-hand_out}
use Rattle.collation_finder.proofs.finder.Finder.take_letters.Goals as goal

pub take_ascii-more-requires-clause-ready : goal.take_ascii-more-requires-clause-ready
take_ascii-more-requires-clause-ready g c =
    let on = c.take_to_reach-len.ensures.taken.2.goes_on in
    record {
      open_text = on.open_text;
      made = record {
        longest = on.setup.longest ∙ c.requires.ready.made.longest;
        pattern_len = on.setup.pattern_len ∙ c.requires.ready.made.pattern_len;
      };
    }

-- the characters of both parts, and where the second one stands
codes : (g : given.Over) (c : After-hand_out g) (taken : List ℕ) → let piece = c.args.front.piece.now in let n = c.take_to_reach-len.result in let m = c.take_ascii-more.result in
    (taken ++ chars (take n piece)) ++ chars (take m (take (length piece - n) (drop n piece))) ≡ taken ++ chars (take (n + m) piece)
codes g c taken =
    let piece = c.args.front.piece.now in
    let n = c.take_to_reach-len.result in
    let m = c.take_ascii-more.result in
    let cs = chars (take n piece) in
    let ds = chars (take m (take (length piece - n) (drop n piece))) in
    let more : ds ≡ chars (take m (drop n piece)) = ap (λ (bs : List ℕ). chars (take m bs)) (take_rest piece n) in
    append_assoc taken cs ds ∙ ap (λ (t : List ℕ). taken ++ t) (ap (λ (t : List ℕ). cs ++ t) more ∙ sym (chars-more piece n m c.take_to_reach-len.ensures.taken.2.text))

place_behind : (g : given.Over) (c : After-hand_out g) (taken : List ℕ) → c.args.front.offset ≡ byte_len taken →
    c.args.front.offset + c.take_to_reach-len.result ≡ byte_len (taken ++ chars (take c.take_to_reach-len.result c.args.front.piece.now))
place_behind g c taken at =
    let piece = c.args.front.piece.now in
    let n = c.take_to_reach-len.result in
    let run = c.take_to_reach-len.ensures.taken.2 in
    let len = chars-len piece n run.within run.text in
    omega (arith, at, len, c.laws_of_points.ensures.bytes_of_parts taken (chars (take n piece)))

pub returns-clause-taken : goal.returns-clause-taken
returns-clause-taken g c =
    let here = (goal.at.returns-clause-taken g c).After-hand_out in
    let table = g.W.Weights.table c.args.query.now.table.now in
    let pattern = c.args.query.now.pattern.now in
    let piece = c.args.front.piece.now in
    let n = c.take_to_reach-len.result in
    let m = c.take_ascii-more.result in
    let run = c.take_to_reach-len.ensures.taken in
    let first = run.2 in
    let ascii = c.take_ascii-more.ensures in
    let last = c.take_ascii-more.new.found.items in
    let now = c.take_ascii-more.new.self in
    let cs = chars (take n piece) in
    let ds = chars (take m (take (length piece - n) (drop n piece))) in
    let long = length-drop n piece in
    let few = first.within in
    let calls = subst (λ (t : List (ℕ × ℕ)). FoldsTo (λ f range t'. goal.F-step g f range.0 range.1 tt t') c.take_to_reach-len.new.sink t c.hand_out.new.sink) c.as_slice.ensures.value c.hand_out.ensures.called in (
      run.0 ++ last,
      folds-append (λ f range t. goal.F-step g f range.0 range.1 tt t) c.args.sink.now run.0 last c.take_to_reach-len.new.sink c.hand_out.new.sink run.1 calls,
      record {
        stands = λ taken handed h at.
            let there = ascii.taken.stands (taken ++ cs) (handed ++ run.0) (inl (first.stands taken handed h at)) (place_behind g here taken at) in
            subst (λ t. FinderStandsFor table pattern now t (handed ++ (run.0 ++ last))) (codes g here taken)
            (subst (λ (t : List (ℕ × ℕ)). FinderStandsFor table pattern now ((taken ++ cs) ++ ds) t) (append_assoc handed run.0 last) there);
        left = λ place taken handed h at.
            let reach = h.0 in
            let cut = first.left place taken handed (omega (arith, reach, c.min.ensures), h.1) at in
            subst (λ t. IsCutUpTo table place t now.window.points) (codes g here taken)
            (ascii.taken.left place (taken ++ cs) (handed ++ run.0) (inl (record { stands = first.stands taken handed h.1.stands at; cut = cut })) (place_behind g here taken at));
        within = omega (arith, few, long, ascii.within, ap length (take_rest piece n));
        text = text-more piece n m first.text (subst (λ (bs : List ℕ). IsUtf8 (take m bs)) (take_rest piece n) ascii.text);
        goes_on = record {
          open_text = ascii.goes_on.open_text;
          setup = record {
            longest = ascii.goes_on.setup.longest ∙ first.goes_on.setup.longest;
            pattern_len = ascii.goes_on.setup.pattern_len ∙ first.goes_on.setup.pattern_len;
            select = ascii.goes_on.setup.select ∙ first.goes_on.setup.select;
          };
        };
      },
    )

pub returns-then-len-front-clause-taken : goal.returns-then-len-front-clause-taken
returns-then-len-front-clause-taken g c =
    let run = c.take_to_reach-len.ensures.taken in
    let first = run.2 in (
      run.0,
      run.1,
      record {
        stands = first.stands;
        left = λ place taken handed h at. let reach = h.0 in first.left place taken handed (omega (arith, reach, c.min.ensures), h.1) at;
        within = first.within;
        text = first.text;
        goes_on = first.goes_on;
      },
    )
