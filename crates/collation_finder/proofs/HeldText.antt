-- Characters that a window holds, looked at as if they had not been taken: the search then stands paused before them.
use Rattle.std.specs.Char.{len_utf8}
use Rattle.std.specs.Str.{chars, IsUtf8}
use Rattle.std.specs.List.{All}
use Rattle.std.proofs.Common.{◌≡◌, ◌∙◌, ℕ, suc, ◌+◌, ◌-◌, ◌≤◌, true, false, None, inl, inr, List, [], ◌∷◌, ◌++◌, length, flat_map, take, drop, refl, sym, ap, subst, arith, append_assoc, eqb-true}
use Rattle.std.proofs.lemmas.Bool.{and_from, and_parts, cases_Bool}
use Rattle.std.proofs.lemmas.Grind.{flat_map-append}
use Rattle.std.proofs.lemmas.List.{append-nil, drop_at, length-append, take_all, take_at}
use Rattle.std.proofs.lemmas.Str.{IsCharBoundary-from_take, IsUtf8-drop, chars-append}
use Rattle.std.proofs.Math.Seq.{drop-append-add, take-append-add}
use Rattle.unicode_normalization.specs.Order.{is_nonstarter}
use Rattle.unicode_normalization.specs.StreamSafe.{has_short_runs}
use Rattle.utf8_cut.specs.Sequences.{SpellsCharacter}
use Rattle.nfd_points.specs.declared.points.Point.{Point}
use Rattle.nfd_points.specs.Points.{byte_len, decomposition, points, points_of, points_from, begins_with_starter, is_starter, ordered}
use Rattle.nfd_points.specs.PointFaults.{point_fault, run_after}
use Rattle.nfd_points.specs.Laws.{PointsAreDecomposed, WaitingAreOthers}
use Rattle.nfd_points.proofs.OrderingLemmas.{ordered-cons, sink-starter}
use Rattle.nfd_points.proofs.RunLemmas.{short-append, short-longer, short-nil, short-room, short-starter}
use Rattle.nfd_points.proofs.ShortRunLemmas.{good-short, short-good}
use Rattle.collation_table.specs.Table.{TableMap}
use Rattle.collation_elements.specs.Units.{units}
use Rattle.collation_elements.specs.Weighing.{is_after_variable}
use Rattle.collation_elements.specs.Windows.{Held}
use Rattle.collation_letters.specs.Apart.{EndsBefore, IsNext}
use Rattle.collation_letters.specs.Laws.{LetterLaws}
use Rattle.collation_letters.specs.Letters.{ordered_from}
use Rattle.collation_pattern.specs.Compiled.{Compiled}
use Rattle.collation_skip.specs.Passed.{PassesTo}
use Rattle.collation_skip.specs.declared.passed.Passed.{Passed}
use Rattle.collation_walk.specs.declared.matching.Matcher.{Matcher}
use Rattle.collation_walk.specs.Walked.{HasWalked, HasWalkedOn}
use Rattle.collation_walk.specs.Walks.{passed_to}
use Rattle.collation_finder.specs.declared.finder.Finder.{Finder}
use Rattle.collation_finder.specs.TakenAtOnce.{IsPausedBefore}
use Rattle.collation_finder.specs.Finding.{FinderStandsFor}
use Rattle.collation_finder.specs.ShortPiece.{HoldsText, PassesShort}
use Rattle.collation_finder.proofs.CharacterLemmas.{chars-len}
use Rattle.collation_finder.proofs.PointLetters.{decomposed}

abbrev AreStarters : List Point → Type 0
AreStarters = All (λ p. is_starter p ≡ true)

-- ---- canonical order

-- before starters no later point goes
ordered-behind : (ps qs : List Point) → AreStarters ps → ordered (ps ++ qs) ≡ ps ++ ordered qs
ordered-behind [] qs starters = refl
ordered-behind (p ∷ ps) qs starters =
    let zero = eqb-true p.ccc 0 (starters 0 p (omega arith)) in
    ordered-cons p (ps ++ qs) ∙ sink-starter p (ordered (ps ++ qs)) (omega (arith, zero))
    ∙ ap (λ (t : List Point). p ∷ t) (ordered-behind ps qs (λ k d less. starters (suc k) d (omega (arith, less))))

-- ---- faults

-- what has no long run behind some non-starters has none behind fewer
short-fewer : (few run : ℕ) (ds : List ℕ) → few ≤ run → has_short_runs run ds ≡ true → has_short_runs few ds ≡ true
short-fewer few run [] le h = short-nil few
short-fewer few run (d ∷ ds) le h =
    elim (cases_Bool (is_nonstarter d)) [
      | inl mark ↦
          let room = short-room run d ds mark h in
          let less = room.0 in
          short-longer few d ds mark (omega (arith, le, less)) ∙ short-fewer (few + 1) (run + 1) ds (omega (arith, le)) room.1
      | inr starter ↦ short-starter few d ds starter ∙ sym (short-starter run d ds starter) ∙ h
    ]

-- characters that are without a fault behind others are so behind a text at whose end no non-starter stands
good-behind : (taken before ds : List ℕ) → point_fault taken ≡ None → run_after 0 (flat_map decomposition taken) ≡ 0 → point_fault (before ++ ds) ≡ None → point_fault (taken ++ ds) ≡ None
good-behind taken before ds good none both =
    let own = flat_map decomposition ds in
    let few : 0 ≤ run_after 0 (flat_map decomposition before) = omega arith in
    let whole = sym (short-append 0 (flat_map decomposition before) own) ∙ ap (has_short_runs 0) (sym (flat_map-append decomposition before ds)) ∙ short-good 0 0 (before ++ ds) both in
    let later : has_short_runs (run_after 0 (flat_map decomposition before)) own ≡ true = (and_parts _ _ whole).1 in
    let anew = short-fewer 0 (run_after 0 (flat_map decomposition before)) own few later in
    good-short (taken ++ ds)
    (ap (has_short_runs 0) (flat_map-append decomposition taken ds) ∙ short-append 0 (flat_map decomposition taken) own
    ∙ and_from _ _ (short-good 0 0 taken good) (ap (λ n. has_short_runs n own) none ∙ anew))

-- ---- the search stands paused before them

-- of a finder, that it holds what these characters have
record AreHeld (finder : Finder) (end start : ℕ) (cs : List ℕ) : Type 0 where
  points : finder.window.points ≡ points_from start cs
  starters : AreStarters finder.window.points
  place : start + byte_len cs ≡ end
  none_waits : finder.reorder.held ≡ []
  is_open : finder.window.has_ended ≡ false

-- with further characters
held-more : LetterLaws → (finder : Finder) (end start : ℕ) (cs ds : List ℕ) → AreHeld finder end start cs → ordered_from start (cs ++ ds) ≡ finder.window.points ++ ordered_from end ds
held-more laws finder end start cs ds h =
    ap ordered (laws.parts start cs ds ∙ ap (λ (ps : List Point). ps ++ points_from (start + byte_len cs) ds) (sym h.points))
    ∙ ordered-behind finder.window.points (points_from (start + byte_len cs) ds) h.starters ∙ ap (λ k. finder.window.points ++ ordered_from k ds) h.place

paused-held : LetterLaws → (table : TableMap) (pattern : Compiled) (finder : Finder) (taken : List ℕ) (handed : List (ℕ × ℕ)) (start : ℕ) (cs ds : List ℕ) (window : Held) (now : Matcher) (next : ℕ) →
    window.points ≡ [] → FinderStandsFor table pattern finder taken handed → AreHeld finder (byte_len taken) start cs → IsNext table start (cs ++ ds) next →
    HasWalkedOn table pattern finder.matcher now (units table (ordered_from start (cs ++ ds))) [] → IsPausedBefore table pattern finder.reorder window now (taken ++ ds) handed next
paused-held laws table pattern finder taken handed start cs ds window now next none h held following walked =
    let us = h.matched.units in
    let kept = finder.window.points in
    let own = ordered_from (byte_len taken) ds in
    let theirs = ordered_from start (cs ++ ds) in
    let both : theirs ≡ kept ++ own = held-more laws finder (byte_len taken) start cs ds held in
    let all : points (taken ++ ds) ≡ h.points ++ own =
    h.reordered.continues ds ∙ ap (λ (ps : List Point). h.points ++ ordered (ps ++ points_from (byte_len taken) ds)) held.none_waits in
    let cut : (more : List Point) → units table (points (taken ++ ds) ++ more) ≡ us ++ units table (theirs ++ more) =
    λ more. ap (λ (ps : List Point). units table (ps ++ more)) all ∙ ap (units table) (append_assoc h.points own more) ∙ h.matched.cut.continues (own ++ more) (λ e. let clash = sym held.is_open ∙ e in cc)
    ∙ ap (λ (ps : List Point). us ++ units table ps) (sym (append_assoc kept own more) ∙ ap (λ (ps : List Point). ps ++ more) (sym both)) in
    let alone : units table (points (taken ++ ds)) ≡ us ++ units table theirs =
    ap (units table) (sym (append-nil (points (taken ++ ds)))) ∙ cut [] ∙ ap (λ (ps : List Point). us ++ units table ps) (append-nil theirs) in
    let len : start + byte_len (cs ++ ds) ≡ byte_len (taken ++ ds) =
    let place = held.place in let first = laws.bytes cs ds in let second = laws.bytes taken ds in omega (arith, place, first, second) in
    record {
      paused = record {
        walked = subst (λ vs. HasWalked table pattern now vs handed) (sym alone)
            (subst (λ (t : List (ℕ × ℕ)). HasWalked table pattern now (us ++ units table theirs) t) (append-nil handed) (walked us handed h.matched.went));
        none_waits = held.none_waits;
        none_left = none;
        good = good-behind taken cs ds h.reordered.good (h.reordered.run ∙ ap length held.none_waits) following.good;
      };
      ends = λ x is more.
          cut (x ∷ more)
          ∙ ap (λ vs. us ++ vs) (subst (λ k. EndsBefore table theirs k next) len following.ends x is more)
          ∙ sym (append_assoc us (units table theirs) (units table (x ∷ more))) ∙ ap (λ vs. vs ++ units table (x ∷ more)) (sym alone);
    }

-- ---- and behind what is passed by

-- what is behind text in a text is text, and its characters are the others
text-behind : (xs ys : List ℕ) → IsUtf8 xs → IsUtf8 (xs ++ ys) → IsUtf8 ys × (chars (xs ++ ys) ≡ chars xs ++ chars ys)
text-behind xs ys own text =
    let front : take (length xs) (xs ++ ys) ≡ xs = take_at xs ys (length xs) refl in
    let count = length-append xs ys in
    let seam = IsCharBoundary-from_take (xs ++ ys) (length xs) text (omega (arith, count)) (subst IsUtf8 (sym front) own) in
    (subst IsUtf8 (drop_at xs ys (length xs) refl) (IsUtf8-drop (xs ++ ys) (length xs) text seam), chars-append xs ys own)

module _ (laws : LetterLaws) (others : WaitingAreOthers) (each : PointsAreDecomposed) (table : TableMap) (pattern : Compiled) (finder : Finder) (piece text bytes : List ℕ) (offset reach limit held start : ℕ) (s : Passed)
    (holds : HoldsText finder offset bytes) (is_open : finder.window.has_ended ≡ false) (count : length bytes ≡ held) (joined : text ≡ bytes ++ piece) (begin : start ≡ offset - held) (far : limit ≤ reach + held) (forth : held ≤ s.end)
    (state : finder.matcher.walk.state ≡ 0) (flag : is_after_variable finder.matcher.weigher ≡ false) (passes : PassesTo table pattern text limit s) (following : IsNext table start (chars (take s.end text)) s.next)
    (walked : (matcher : Matcher) → is_after_variable matcher.weigher ≡ false → matcher.walk.state ≡ 0 → HasWalkedOn table pattern matcher (record matcher { walk = passed_to matcher.walk (start + s.start) }) (units table (ordered_from start (chars (take s.end text)))) []) where
  abbrev own : List ℕ
  own = take (s.end - held) piece

  upto : take s.end text ≡ bytes ++ own
  upto =
      let end : s.end ≡ length bytes + (s.end - held) = omega (arith, forth, count) in
      ap (take s.end) joined ∙ ap (λ k. take k (bytes ++ piece)) end ∙ take-append-add bytes piece (s.end - held)

  behind : drop s.end text ≡ drop (s.end - held) piece
  behind =
      let end : s.end ≡ length bytes + (s.end - held) = omega (arith, forth, count) in
      ap (drop s.end) joined ∙ ap (λ k. drop k (bytes ++ piece)) end ∙ drop-append-add bytes piece (s.end - held)

  parts : IsUtf8 own × (chars (bytes ++ own) ≡ chars bytes ++ chars own)
  parts = text-behind bytes own holds.text (subst IsUtf8 upto passes.text)

  codes : chars (take s.end text) ≡ chars bytes ++ chars own
  codes = ap chars upto ∙ parts.1

  front-len : byte_len (chars bytes) ≡ held
  front-len =
      let whole : take (length bytes) bytes ≡ bytes = take_all (length bytes) bytes (omega arith) in
      ap (λ (bs : List ℕ). byte_len (chars bs)) (sym whole) ∙ chars-len bytes (length bytes) (omega arith) (subst IsUtf8 (sym whole) holds.text) ∙ count

  paused-behind : (taken : List ℕ) (handed : List (ℕ × ℕ)) (window : Held) → window.points ≡ [] → FinderStandsFor table pattern finder taken handed → offset ≡ byte_len taken →
      IsPausedBefore table pattern finder.reorder window (record finder.matcher { walk = passed_to finder.matcher.walk (start + s.start) }) (taken ++ chars own) handed s.next
  paused-behind taken handed window none h place =
      let few = holds.few in
      let start-is : offset - length bytes ≡ start = omega (arith, begin, count) in
      paused-held laws table pattern finder taken handed start (chars bytes) (chars own) window (record finder.matcher { walk = passed_to finder.matcher.walk (start + s.start) }) s.next none h
      (record {
        points = holds.points (decomposed others each table pattern finder taken handed h) ∙ ap (λ k. points_from k (chars bytes)) start-is;
        starters = holds.starters;
        place = omega (arith, place, few, count, begin, front-len);
        none_waits = holds.none_waits;
        is_open = is_open;
      })
      (subst (λ (cs : List ℕ). IsNext table start cs s.next) codes following)
      (subst (λ (cs : List ℕ). HasWalkedOn table pattern finder.matcher (record finder.matcher { walk = passed_to finder.matcher.walk (start + s.start) }) (units table (ordered_from start cs)) []) codes (walked finder.matcher flag state))

  pub passes-short : PassesShort table pattern finder piece offset reach (start + s.start) (s.end - held) s.next
  passes-short =
      let long = ap length joined in
      let sum = length-append bytes piece in
      let within = passes.within in
      let near = passes.reach in
      let len = chars-len text s.end (omega (arith, within)) passes.text in
      let few = holds.few in
      let at : start + byte_len (chars (take s.end text)) ≡ offset + (s.end - held) = omega (arith, len, forth, begin, count, few) in
      record {
        near = omega (arith, near, far, forth);
        within = omega (arith, long, sum, within, count, forth);
        spelled = subst (λ (bs : List ℕ). SpellsCharacter (take (len_utf8 s.next) bs) s.next) behind passes.next;
        text = parts.0;
        begins = subst (λ k. begins_with_starter (points_of k s.next) ≡ true) at following.begins;
        none_waits = holds.none_waits;
        paused = paused-behind;
      }
