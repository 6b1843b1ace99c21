-- Text of characters of one and of two bytes that passes, character by character.
use Rattle.std.specs.Char.{len_utf8}
use Rattle.std.specs.Str.{chars, IsUtf8}
use Rattle.std.proofs.Common.{◌≡◌, ◌∙◌, ◌⊎◌, ℕ, zero, suc, ◌+◌, ◌-◌, ◌/◌, ◌≤◌, ◌<◌, true, false, List, [], ◌∷◌, ◌++◌, length, map, replicate, take, drop, get_or, Contains, inl, inr, refl, sym, ap, subst, arith}
use Rattle.std.proofs.lemmas.Bool.{cases_lt, cond-false, ne_eqb}
use Rattle.std.proofs.lemmas.List.{get_or_append_left, get_or-append-add, get_or-replicate}
use Rattle.std.proofs.lemmas.List.Elements.{Contains-append_cases}
use Rattle.std.proofs.lemmas.Option.{none-some, same_Some}
use Rattle.std.proofs.lemmas.Str.{IsUtf8-nil, chars-nil, length-encode, len_utf8_ascii}
use Rattle.std.specs.Str.Lossy.{second_byte_min, second_byte_max}
use Rattle.utf8_cut.specs.Sequences.{SpellsCharacter}
use Rattle.utf8_cut.proofs.TableLemmas.{spells_two, is_in as is_in_range_of}
use Rattle.nfd_points.specs.declared.points.Point.{Point}
use Rattle.nfd_points.specs.Points.{byte_len, points_of, points_from, shifted, is_starter, begins_with_starter}
use Rattle.nfd_points.specs.Laws.{PointsAreShifted}
use Rattle.collation_table.specs.Table.{TableMap, ContinuesNoString}
use Rattle.collation_elements.specs.declared.keys.Key.{Key}
use Rattle.collation_elements.specs.declared.keys.Item.{Item}
use Rattle.collation_elements.specs.declared.keys.Item.TheVariants.{ClusterStart}
use Rattle.collation_elements.specs.ItemParts.{item_keys}
use Rattle.collation_elements.specs.Units.{units}
use Rattle.collation_elements.specs.Weighing.{after_units}
use Rattle.collation_pattern.specs.Border.{border}
use Rattle.collation_pattern.specs.Compiled.{Compiled}
use Rattle.collation_letters.specs.Apart.{IsNext}
use Rattle.collation_letters.specs.Letters.{ordered_from, AreApart}
use Rattle.collation_letters.proofs.ApartLemmas.{begins_anywhere, from_one, next-more, next_of_one}
use Rattle.collation_letters.proofs.CharacterLemmas.{points_are_shifted}
use Rattle.collation_skip.specs.declared.passed.Passed.{Passed}
use Rattle.collation_skip.specs.declared.two_byte_sets.TwoByteClasses.{TwoByteClasses}
use Rattle.byte_blocks.specs.declared.sets.TheConstants.{LEADS, TRAILS}
use Rattle.collation_skip.specs.Blocks.{IsClassifiedBy, items_at, most}
use Rattle.collation_skip.specs.Passed.{IsPassed, IsQuiet}
use Rattle.collation_skip.specs.Reached.{items_from}
use Rattle.byte_blocks.specs.TwoBytes.{Pass}
use Rattle.byte_blocks.specs.Sets.{is_in, leads, trails}
use Rattle.collation_skip.specs.TwoBytes.{IsEnding, AreRightOf, AreSetsRight, character_of}
use Rattle.collation_skip.proofs.AsciiLemmas.{RunLaws, contained, items-next, keys-append, possible, quiet-more}
use Rattle.collation_skip.proofs.BlockLemmas.{spells-ascii}
use Rattle.collation_skip.proofs.BorderSteps.{Borders, none-waits}
use Rattle.collation_skip.proofs.ForeignLemmas.{AreQuiet, chars-on, no-keys, passed-on, quiet-begin, text-on}
use Rattle.collation_skip.proofs.ReachedLemmas.{begins-more}
use Rattle.collation_skip.proofs.TextLemmas.{same-character}

-- ---- ranges

-- what holds below a number and at it holds below the next one
pub each-more : (P : ℕ → Type 0) (n : ℕ) → ((c : ℕ) → c < n → P c) → P n → (c : ℕ) → c < n + 1 → P c
each-more P n before here c less = elim (cases_lt c n) [
  | inl lower ↦ before c lower
  | inr not_lower ↦ (let same : n ≡ c = omega (arith, less, not_lower) in subst P same here)
]

-- ---- leading and trailing bytes

leads-low : (b : ℕ) → b < 192 → leads b ≡ 0
leads-low b less =
    let h : b / 16 < 12 = omega (arith, less) in
    get_or_append_left (replicate 12 0) (replicate 4 255) 0 (b / 16) h ∙ get_or-replicate 12 (b / 16) 0 0 h

leads-high : (b : ℕ) → 192 ≤ b → b < 256 → leads b ≡ 255
leads-high b high less =
    let k = b / 16 - 12 in
    let same : b / 16 ≡ 12 + k = omega (arith, high) in
    ap (λ j. get_or LEADS j 0) same ∙ get_or-append-add (replicate 12 0) (replicate 4 255) k 0 ∙ get_or-replicate 4 k 255 0 (omega (arith, less))

trails-low : (b : ℕ) → b < 128 → trails b ≡ 0
trails-low b less =
    let h : b / 16 < 8 = omega (arith, less) in
    get_or_append_left (replicate 8 0) (replicate 4 255 ++ replicate 4 0) 0 (b / 16) h ∙ get_or-replicate 8 (b / 16) 0 0 h

trails-mid : (b : ℕ) → 128 ≤ b → b < 192 → trails b ≡ 255
trails-mid b low less =
    let k = b / 16 - 8 in
    let same : b / 16 ≡ 8 + k = omega (arith, low) in
    let short : k < 4 = omega (arith, less) in
    let there : get_or TRAILS (b / 16) 0 ≡ get_or (replicate 4 255 ++ replicate 4 0) k 0 = ap (λ j. get_or TRAILS j 0) same ∙ get_or-append-add (replicate 8 0) (replicate 4 255 ++ replicate 4 0) k 0 in
    there ∙ get_or_append_left (replicate 4 255) (replicate 4 0) 0 k short ∙ get_or-replicate 4 k 255 0 short

trails-high : (b : ℕ) → 192 ≤ b → b < 256 → trails b ≡ 0
trails-high b high less =
    let k = b / 16 - 12 in
    let same : b / 16 ≡ 12 + k = omega (arith, high) in
    ap (λ j. get_or TRAILS j 0) same ∙ get_or-append-add (replicate 8 0 ++ replicate 4 255) (replicate 4 0) k 0 ∙ get_or-replicate 4 k 0 0 (omega (arith, less))

-- behind the first byte of a character of two bytes any trailing byte may stand
least-second : (x : ℕ) → x < 224 → second_byte_min x ≡ 128
least-second x less = cond-false _ _ _ (ne_eqb x 0xE0 (λ same. omega (arith, same, less))) ∙ cond-false _ _ _ (ne_eqb x 0xF0 (λ same. omega (arith, same, less)))

most-second : (x : ℕ) → x < 224 → second_byte_max x ≡ 191
most-second x less = cond-false _ _ _ (ne_eqb x 0xED (λ same. omega (arith, same, less))) ∙ cond-false _ _ _ (ne_eqb x 0xF4 (λ same. omega (arith, same, less)))

-- the character that begins two bytes is the one of this number
pub number-of : (lead trail c : ℕ) → 194 ≤ lead → lead < 224 → 128 ≤ trail → trail < 192 → SpellsCharacter (take (len_utf8 c) (lead ∷ trail ∷ [])) c → SpellsCharacter (lead ∷ trail ∷ []) (character_of lead trail) × (c ≡ character_of lead trail)
number-of lead trail c low less tlow tless spelled =
    let bytes = lead ∷ trail ∷ [] in
    let d = character_of lead trail in
    let two = spells_two lead trail low less (is_in_range_of (second_byte_min lead) (second_byte_max lead) trail (let least = least-second lead less in omega (arith, least, tlow)) (let most = most-second lead less in omega (arith, most, tless))) in
    let long : len_utf8 d ≡ 2 = sym (length-encode d) ∙ sym (ap (λ (l : List ℕ). length l) two.1) in
    (two, same-character bytes d c (two.0, ap (λ n. take n bytes) long ∙ two.1) spelled)

-- ---- characters into which no unit reaches

apart-begins : (table : TableMap) (ps : List Point) → AreApart table ps → begins_with_starter ps ≡ true
apart-begins table [] h = refl
apart-begins table (p ∷ ps) h = (h p refl).0

apart-there : PointsAreShifted → (table : TableMap) (c at : ℕ) → AreApart table (points_from 0 (c ∷ [])) → AreApart table (points_of at c)
apart-there law table c at h =
    subst (AreApart table) (sym (points_are_shifted law at (c ∷ [])) ∙ from_one at c) (on (points_from 0 (c ∷ [])) h)
  where
    on : (ps : List Point) → AreApart table ps → AreApart table (map (shifted at) ps)
    on [] held = λ x is. absurd (none-some x is)
    on (p ∷ ps) held = λ x is. subst (λ (q : Point). (is_starter q ≡ true) × ContinuesNoString table q.cp) (same_Some (shifted at p) x is) (held p refl)

-- ---- characters that are gone over

-- Behind some characters, before one that follows: no match ended among them, and not too many of the pattern's keys have matched, nor
-- more than the place says where something holds of the last one.
pub record HasGone (table : TableMap) (pattern : Compiled) (place start : ℕ) (cs : List ℕ) (next : ℕ) (Other : Type 0) : Type 0 where
  pub quiet : AreQuiet table pattern start cs next
  pub state : border pattern.keys (item_keys (items_from table pattern start cs)) ≤ most pattern.keys place
  pub low : Other → border pattern.keys (item_keys (items_from table pattern start cs)) ≤ place

gone-none : (table : TableMap) (pattern : Compiled) (place start next : ℕ) (Other : Type 0) → place < length pattern.keys → AreApart table (points_from 0 (next ∷ [])) → HasGone table pattern place start [] next Other
gone-none table pattern place start next Other within apart =
    let zero = no-keys table pattern start in
    record {
      quiet = quiet-begin table pattern start next (omega (arith, within)) (apart-begins table (points_from 0 (next ∷ [])) apart);
      state = omega (arith, zero);
      low = λ _. omega (arith, zero);
    }

-- one character more
gone-more : RunLaws → (table : TableMap) (pattern : Compiled) (place start : ℕ) (cs : List ℕ) (c next : ℕ) (Before Passable Other NotLater : Type 0) → place < length pattern.keys → HasGone table pattern place start cs c Before →
    IsClassifiedBy table pattern place c Passable Other NotLater ⊥ Passable → Passable → (Before ⊎ NotLater) → AreApart table (points_from 0 (next ∷ [])) → HasGone table pattern place start (cs ++ c ∷ []) next Other
gone-more laws table pattern place start cs c next Before Passable Other NotLater within h right going which apart =
    let at = start + byte_len cs in
    let us = units table (ordered_from start cs) in
    let flag = after_units table pattern.variable false us in
    let may = possible table pattern.variable us in
    let I = items_from table pattern start cs in
    let J = items_at table pattern flag at c in
    let K = item_keys I in
    let all = (items-next laws table pattern start cs c h.quiet.is_next.begins h.quiet.is_next.ends).0 in
    let keys : item_keys (items_from table pattern start (cs ++ c ∷ [])) ≡ K ++ item_keys J = ap item_keys all ∙ keys-append I J in
    let bound : most pattern.keys place < length pattern.keys = omega (arith, within) in
    let begins = begins_anywhere 0 (at + len_utf8 c) next (ap begins_with_starter (sym (from_one 0 next)) ∙ apart-begins table (points_from 0 (next ∷ [])) apart) in
    let one : IsNext table at (c ∷ []) next = next_of_one laws.points table at c next begins
    (λ x is more. let first = apart-there laws.points.shifted table next (at + len_utf8 c) apart x is in laws.before table (points_of at c) x more first.0 first.1) in
    let state = subst (λ (ks : List Key). border pattern.keys ks ≤ most pattern.keys place) (sym keys) (elim which as (λ _. border pattern.keys (K ++ item_keys J) ≤ most pattern.keys place) [
      | inl before ↦ right.any going flag may at K (h.low before)
      | inr none ↦ right.behind going none flag may at K h.state
    ]) in
    record {
      quiet = record {
        begins = begins-more laws.points table start cs c [] h.quiet.begins h.quiet.is_next;
        is_next = next-more laws.points table start c next cs [] (c ∷ []) refl h.quiet.is_next one;
        quiet = subst (IsQuiet pattern.keys) (sym all) (quiet-more pattern.keys at I J h.quiet.quiet h.quiet.below (right.whole going flag may at));
        below = omega (arith, state, bound);
        later = λ q has. elim (Contains-append_cases I J (ClusterStart q) (subst (λ (l : List Item). Contains l (ClusterStart q)) all has)) [
          | inl first ↦ h.quiet.later q first
          | inr second ↦
              let r = contained J (ClusterStart q) second in let same = (right.whole going flag may at r.before r.more q r.is).1 in omega (arith, same)
        ];
      };
      state = state;
      low = λ other. subst (λ (ks : List Key). border pattern.keys ks ≤ place) (sym keys) (elim which as (λ _. border pattern.keys (K ++ item_keys J) ≤ place) [
        | inl before ↦ right.other going other flag may at K (h.low before)
        | inr none ↦ right.back going other none flag may at K h.state
      ]);
    }

-- ---- the characters of bytes that pass

going-at : (classes : TwoByteClasses) (bytes : List ℕ) (n i : ℕ) → Pass classes.sets bytes n → i < n → is_in classes.sets.halt (get_or bytes i 0) ≡ 0
going-at classes bytes n zero p less = p.going less
going-at classes bytes n (suc i) p less = (p.each i less).going

two-bytes : (bytes : List ℕ) (i : ℕ) → suc i < length bytes → take 2 (drop i bytes) ≡ get_or bytes i 0 ∷ get_or bytes (suc i) 0 ∷ []
two-bytes [] i less = absurd (omega (arith, less))
two-bytes (b ∷ []) zero less = absurd (omega (arith, less))
two-bytes (b ∷ c ∷ bytes) zero less = refl
two-bytes (b ∷ bytes) (suc i) less = two-bytes bytes i (omega (arith, less))

-- the two bytes of a character
spells-two : (bytes : List ℕ) (i c : ℕ) → suc i < length bytes → SpellsCharacter (get_or bytes i 0 ∷ get_or bytes (suc i) 0 ∷ []) c → (len_utf8 c ≡ 2) × SpellsCharacter (take (len_utf8 c) (drop i bytes)) c
spells-two bytes i c less spelled =
    let long : len_utf8 c ≡ 2 = sym (length-encode c) ∙ sym (ap (λ (l : List ℕ). length l) spelled.1) in
    (long, (spelled.0, ap (λ n. take n (drop i bytes)) long ∙ two-bytes bytes i less ∙ spelled.1))

-- where the last of these characters has no key at the place, or there is none
abbrev pub NotAtKey : TwoByteClasses → List ℕ → ℕ → Type 0
NotAtKey classes bytes i = (is_in classes.sets.key (get_or (0 ∷ bytes) i 0) ≡ 0) ⊎ (i ≡ 0)

-- the first i bytes are characters that are gone over, wherever they stand, before one into which no unit reaches
pub record HasCome (table : TableMap) (pattern : Compiled) (classes : TwoByteClasses) (bytes : List ℕ) (i next : ℕ) : Type 0 where
  pub text : IsUtf8 (take i bytes)
  pub gone : (start : ℕ) → HasGone table pattern classes.place start (chars (take i bytes)) next (NotAtKey classes bytes i)

-- what is known of the two bytes before a place at which a character begins: the last byte of one, or its two
come-one : RunLaws → (table : TableMap) (pattern : Compiled) (classes : TwoByteClasses) → AreSetsRight table pattern classes → (bytes : List ℕ) (n i next : ℕ) → Pass classes.sets bytes n → suc i < n → get_or bytes i 0 < 128 → AreApart table (points_from 0 (next ∷ [])) →
    HasCome table pattern classes bytes i (get_or bytes i 0) → HasCome table pattern classes bytes (suc i) next
come-one laws table pattern classes rights bytes n i next p less ascii apart h =
    let long = p.within in
    let c = get_or bytes i 0 in
    let going = going-at classes bytes n i p (omega (arith, less)) in
    let one : len_utf8 c ≡ 1 = len_utf8_ascii c ascii in
    let more : i + 1 ≡ suc i = omega arith in
    let spelled = spells-ascii bytes i (omega (arith, less, long)) ascii in
    record {
      text = subst (λ k. IsUtf8 (take k bytes)) more (text-on bytes i 1 c (sym one) h.text spelled);
      gone = λ start.
          let on = gone-more laws table pattern classes.place start (chars (take i bytes)) c next (NotAtKey classes bytes i) (is_in classes.sets.halt c ≡ 0) (is_in classes.sets.key c ≡ 0) (is_in classes.sets.later c ≡ 0) rights.place (h.gone start) (rights.one c ascii going) going
          (which i less) apart in
          let same : chars (take i bytes) ++ c ∷ [] ≡ chars (take (suc i) bytes) = sym (ap (λ k. chars (take k bytes)) (sym more) ∙ chars-on bytes i 1 c (sym one) h.text spelled) in
          let there = subst (λ (cs : List ℕ). HasGone table pattern classes.place start cs next (is_in classes.sets.key c ≡ 0)) same on in
          record { quiet = there.quiet; state = there.state; low = λ other. elim other [ inl none ↦ there.low none | inr none_before ↦ absurd (omega (arith, none_before)) ] };
    }
  where
    which : (j : ℕ) → suc j < n → NotAtKey classes bytes j ⊎ (is_in classes.sets.later (get_or bytes j 0) ≡ 0)
    which zero less = inl (inr refl)
    which (suc j) less = elim (p.each j (omega (arith, less))).keys [
      | inl none ↦ inr none
      | inr waiting ↦ inl (inl waiting.0)
    ]

come-two : RunLaws → (table : TableMap) (pattern : Compiled) (classes : TwoByteClasses) → AreSetsRight table pattern classes → (bytes : List ℕ) (n i next : ℕ) → Pass classes.sets bytes n → suc i < n →
    (r : AreRightOf table pattern classes (get_or bytes i 0) (get_or bytes (suc i) 0)) → leads (get_or bytes i 0) ≡ 255 → AreApart table (points_from 0 (next ∷ [])) →
    HasCome table pattern classes bytes i (character_of (get_or bytes i 0) (get_or bytes (suc i) 0)) → HasCome table pattern classes bytes (suc (suc i)) next
come-two laws table pattern classes rights bytes n i next p less r lead apart h =
    let long = p.within in
    let last = get_or bytes (suc i) 0 in
    let c = character_of (get_or bytes i 0) last in
    let goes = p.each i less in
    let both = spells-two bytes i c (omega (arith, less, long)) r.spelled in
    let more : i + 2 ≡ suc (suc i) = omega arith in
    let which : NotAtKey classes bytes i ⊎ (is_in classes.sets.later last ≡ 0) = elim goes.keys [
      | inl none ↦ inr none
      | inr waiting ↦ elim waiting.1 [
        | inl no_lead ↦ absurd (omega (arith, no_lead, lead))
        | inr far ↦ inl (inl far)
      ]
    ] in
    record {
      text = subst (λ k. IsUtf8 (take k bytes)) more (text-on bytes i 2 c (sym both.0) h.text both.1);
      gone = λ start.
          let on = gone-more laws table pattern classes.place start (chars (take i bytes)) c next (NotAtKey classes bytes i) (is_in classes.sets.halt last ≡ 0) (is_in classes.sets.key last ≡ 0) (is_in classes.sets.later last ≡ 0) rights.place (h.gone start) r.right goes.going
          which apart in
          let same : chars (take i bytes) ++ c ∷ [] ≡ chars (take (suc (suc i)) bytes) = sym (ap (λ k. chars (take k bytes)) (sym more) ∙ chars-on bytes i 2 c (sym both.0) h.text both.1) in
          let there = subst (λ (cs : List ℕ). HasGone table pattern classes.place start cs next (is_in classes.sets.key last ≡ 0)) same on in
          record { quiet = there.quiet; state = there.state; low = λ other. elim other [ inl none ↦ there.low none | inr none_before ↦ absurd (omega (arith, none_before)) ] };
    }

-- the two bytes from a place on that passes
two-right : (table : TableMap) (pattern : Compiled) (classes : TwoByteClasses) → AreSetsRight table pattern classes → (bytes : List ℕ) (n i : ℕ) → Pass classes.sets bytes n → ((j : ℕ) → get_or bytes j 0 < 256) → suc i < n → 192 ≤ get_or bytes i 0 →
    AreRightOf table pattern classes (get_or bytes i 0) (get_or bytes (suc i) 0)
two-right table pattern classes rights bytes n i p fits less high =
    let lead = get_or bytes i 0 in
    let trail = get_or bytes (suc i) 0 in
    let goes = p.each i less in
    let is : trails trail ≡ 255 = goes.form ∙ leads-high lead high (fits i) in
    let low : 128 ≤ trail = elim (cases_lt trail 128) [
      | inl ascii ↦ absurd (let none = trails-low trail ascii in omega (arith, none, is))
      | inr not_ascii ↦ omega (arith, not_ascii)
    ] in
    let mid : trail < 192 = elim (cases_lt trail 192) [
      | inl lower ↦ lower
      | inr higher ↦ absurd (let none = trails-high trail (omega (arith, higher)) (fits (suc i)) in omega (arith, none, is))
    ] in
    rights.two lead trail high (fits i) low mid (going-at classes bytes n i p (omega (arith, less))) goes.going

-- before a byte that begins a character stands one of ASCII or a trailing one
before-one : (classes : TwoByteClasses) (bytes : List ℕ) (n i : ℕ) → Pass classes.sets bytes n → ((j : ℕ) → get_or bytes j 0 < 256) → suc i < n → trails (get_or bytes (suc i) 0) ≡ 0 →
    (get_or bytes i 0 < 128) ⊎ (trails (get_or bytes i 0) ≡ 255)
before-one classes bytes n i p fits less begins = elim (cases_lt (get_or bytes i 0) 128) [
  | inl ascii ↦ inl ascii
  | inr not_ascii ↦ elim (cases_lt (get_or bytes i 0) 192) [
    | inl trail ↦ inr (trails-mid (get_or bytes i 0) (omega (arith, not_ascii)) trail)
    | inr lead ↦
        absurd (let form = (p.each i less).form in let is = leads-high (get_or bytes i 0) (omega (arith, lead)) (fits i) in omega (arith, form, is, begins))
  ]
]

run-to : RunLaws → (table : TableMap) (pattern : Compiled) (classes : TwoByteClasses) → AreSetsRight table pattern classes → (bytes : List ℕ) (n : ℕ) → Pass classes.sets bytes n → ((j : ℕ) → get_or bytes j 0 < 256) → (i next : ℕ) → i < n → trails (get_or bytes i 0) ≡ 0 →
    AreApart table (points_from 0 (next ∷ [])) → HasCome table pattern classes bytes i next
run-to laws table pattern classes rights bytes n p fits zero next less begins apart = record {
  text = IsUtf8-nil;
  gone = λ start. subst (λ (cs : List ℕ). HasGone table pattern classes.place start cs next (NotAtKey classes bytes 0)) (sym chars-nil) (gone-none table pattern classes.place start next (NotAtKey classes bytes 0) rights.place apart);
}
run-to laws table pattern classes rights bytes n p fits (suc zero) next less begins apart =
    elim (before-one classes bytes n zero p fits less begins) [
      | inl ascii ↦
          let going = going-at classes bytes n zero p (omega (arith, less)) in
          come-one laws table pattern classes rights bytes n zero next p less ascii apart
          (run-to laws table pattern classes rights bytes n p fits zero (get_or bytes zero 0) (omega (arith, less)) (trails-low (get_or bytes zero 0) ascii) ((rights.one (get_or bytes zero 0) ascii going).apart going))
      | inr is ↦ absurd (let none = p.begins (omega (arith, less)) in omega (arith, none, is))
    ]
run-to laws table pattern classes rights bytes n p fits (suc (suc j)) next less begins apart =
    elim (before-one classes bytes n (suc j) p fits less begins) [
      | inl ascii ↦
          let going = going-at classes bytes n (suc j) p (omega (arith, less)) in
          come-one laws table pattern classes rights bytes n (suc j) next p less ascii apart
          (run-to laws table pattern classes rights bytes n p fits (suc j) (get_or bytes (suc j) 0) (omega (arith, less)) (trails-low (get_or bytes (suc j) 0) ascii) ((rights.one (get_or bytes (suc j) 0) ascii going).apart going))
      | inr is ↦
          let here : suc j < n = omega (arith, less) in
          let lead : leads (get_or bytes j 0) ≡ 255 = sym ((p.each j here).form) ∙ is in
          let high : 192 ≤ get_or bytes j 0 = elim (cases_lt (get_or bytes j 0) 192) [
            | inl lower ↦ absurd (let none = leads-low (get_or bytes j 0) lower in omega (arith, none, lead))
            | inr higher ↦ omega (arith, higher)
          ] in
          let r = two-right table pattern classes rights bytes n j p fits here high in
          come-two laws table pattern classes rights bytes n j next p here r lead apart
          (run-to laws table pattern classes rights bytes n p fits j (character_of (get_or bytes j 0) (get_or bytes (suc j) 0)) (omega (arith, less)) (trails-high (get_or bytes j 0) high (fits j)) (r.right.apart (p.each j here).going))
    ]

-- ---- what was passed

-- up to behind a character behind which no key waits
pub ending-of : RunLaws → Borders → (table : TableMap) (pattern : Compiled) (classes : TwoByteClasses) → AreSetsRight table pattern classes → (bytes : List ℕ) (n : ℕ) → Pass classes.sets bytes n → ((j : ℕ) → get_or bytes j 0 < 256) → (it : Passed) →
    IsEnding table pattern classes.place bytes n it → IsUtf8 (take it.end bytes) × ((at : ℕ) → IsPassed table pattern at (at + it.start) (chars (take it.end bytes)) it.next)
ending-of laws borders table pattern classes rights bytes n p fits it is =
    let start = it.start in
    let c = is.last in
    let begins = is.begins in
    let less = is.inside in
    let spelled = is.character in
    let long = p.within in
    let b = get_or bytes start 0 in
    let into : AreApart table (points_from 0 (c ∷ [])) = elim (cases_lt b 128) [
      | inl ascii ↦
          let going = going-at classes bytes n start p less in
          let same : b ≡ c = same-character (drop start bytes) c b spelled (spells-ascii bytes start (omega (arith, less, long)) ascii) in
          subst (λ d. AreApart table (points_from 0 (d ∷ []))) same ((rights.one b ascii going).apart going)
      | inr not_ascii ↦
          let more = is.whole (omega (arith, not_ascii)) in
          let high : 192 ≤ b = elim (cases_lt b 192) [
            | inl lower ↦ absurd (let mid = trails-mid b (omega (arith, not_ascii)) lower in omega (arith, mid, begins))
            | inr higher ↦ omega (arith, higher)
          ] in
          let r = two-right table pattern classes rights bytes n start p fits more high in
          let d = character_of b (get_or bytes (suc start) 0) in
          let same : d ≡ c = same-character (drop start bytes) c d spelled (spells-two bytes start d (omega (arith, more, long)) r.spelled).1 in
          subst (λ d. AreApart table (points_from 0 (d ∷ []))) same (r.right.apart (p.each start more).going)
    ] in
    let come = run-to laws table pattern classes rights bytes n p fits start c less begins into in
    let within = is.within in (
      subst (λ k. IsUtf8 (take k bytes)) (sym is.end) (text-on bytes start (len_utf8 c) c refl come.text spelled),
      λ at. subst (λ k. IsPassed table pattern at (at + start) (chars (take k bytes)) it.next) (sym is.end)
          (passed-on laws.points table pattern bytes start (len_utf8 c) c it.next at is.own (omega (arith, within, is.end, long)) refl come.text spelled (come.gone at).quiet is.letter is.clean.0 is.clean.1
          (λ keys symbols.
          let none = none-waits borders pattern.keys keys is.own.symbols.third (most pattern.keys classes.place) is.clean.1 is.clean.2 symbols (item_keys (items_from table pattern at (chars (take start bytes)))) (come.gone at).state in
          omega (arith, none))
          (is.apart (at + start))),
    )
