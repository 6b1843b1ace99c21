-- What was passed of a text of ASCII, up to behind a character behind which no key waits.
use Rattle.std.specs.Char.{IsScalar, len_utf8}
use Rattle.std.specs.Str.{IsAscii}
use Rattle.std.proofs.Common.{◌≡◌, ◌∙◌, ℕ, zero, suc, ◌+◌, ◌≤◌, ◌<◌, nat_lt, true, false, List, [], ◌∷◌, ◌++◌, length, take, drop, get_or, inl, inr, refl, sym, ap, subst, arith}
use Rattle.std.proofs.lemmas.Bool.{cases_lt, cond-true, lt-ltb}
use Rattle.std.proofs.lemmas.Str.{encode_ascii, len_utf8_ascii}
use Rattle.utf8_cut.specs.Sequences.{SpellsCharacter}
use Rattle.std.proofs.lemmas.List.{get_or-take, get_or_past, length-take-le}
use Rattle.std.proofs.Math.Seq.{take-suc}
use Rattle.nfd_points.specs.declared.points.Point.{Point}
use Rattle.nfd_points.specs.Points.{byte_len, points_from, begins_with_starter}
use Rattle.nfd_points.specs.Laws.{AsciiIsItself}
use Rattle.collation_table.specs.Table.{TableMap}
use Rattle.collation_elements.specs.declared.keys.Item.{Item}
use Rattle.collation_elements.specs.declared.keys.Item.TheVariants.{ClusterStart}
use Rattle.collation_elements.specs.Units.{units}
use Rattle.collation_elements.specs.Weighing.{after_units}
use Rattle.collation_pattern.specs.Compiled.{Compiled}
use Rattle.collation_letters.specs.Apart.{IsNext}
use Rattle.collation_letters.specs.declared.letter.Letter.{Letter}
use Rattle.collation_letters.specs.Letters.{begins_cluster, is_mark, flag_after, keys_alone, ordered_from, IsLetter}
use Rattle.collation_letters.specs.Symbols.{SymbolsAreListed}
use Rattle.collation_letters.proofs.ApartLemmas.{from_first, next-more, next_of_one}
use Rattle.collation_letters.proofs.CharacterLemmas.{ordered_is_shifted}
use Rattle.collation_letters.proofs.LetterApart.{plain-known}
use Rattle.collation_skip.specs.declared.classes.Classes.{Classes}
use Rattle.byte_blocks.specs.Ascii.{Passes}
use Rattle.collation_skip.specs.Blocks.{AreClassesRight, LeavesNone, most}
use Rattle.collation_skip.specs.Passed.{IsPassed}
use Rattle.collation_elements.specs.ItemParts.{item_keys}
use Rattle.collation_pattern.specs.Border.{border}
use Rattle.collation_skip.proofs.BorderSteps.{Borders, none-waits, some-keys}
use Rattle.collation_skip.proofs.ClassLemmas.{begun_items, letter-items, letter-symbols}
use Rattle.collation_skip.proofs.AsciiLemmas.{RunLaws, possible, ascii-at, begins-ascii, ends-one, bytes-len, run_items, run-to, run-items-more, quiet-more, front-one}

-- ---- bytes of ASCII

pub ascii-take : (bytes : List ℕ) (n : ℕ) → n ≤ length bytes → ((i : ℕ) → i < n → get_or bytes i 0 < 128) → IsAscii (take n bytes)
ascii-take bytes n within ascii i = elim (cases_lt i n) [
  | inl less ↦ subst (λ b. b < 128) (sym (get_or-take n bytes i 0 less)) (ascii i less)
  | inr past ↦ (let long = length-take-le n bytes within in let e = get_or_past (take n bytes) i 0 (omega (arith, long, past)) in omega (arith, e))
]

-- the byte at a place by itself
one-byte : (bytes : List ℕ) (i : ℕ) → i < length bytes → take 1 (drop i bytes) ≡ get_or bytes i 0 ∷ []
one-byte [] i less = absurd (omega (arith, less))
one-byte (b ∷ bytes) zero less = refl
one-byte (b ∷ bytes) (suc i) less = one-byte bytes i (omega (arith, less))

ascii_scalar : (c : ℕ) → c < 128 → IsScalar c
ascii_scalar c less = cond-true (nat_lt c 0xD800) true _ (lt-ltb c 0xD800 (omega (arith, less)))

pub spells-ascii : (bytes : List ℕ) (i : ℕ) → i < length bytes → get_or bytes i 0 < 128 → SpellsCharacter (take (len_utf8 (get_or bytes i 0)) (drop i bytes)) (get_or bytes i 0)
spells-ascii bytes i less ascii =
    let c = get_or bytes i 0 in (ascii_scalar c ascii, ap (λ n. take n (drop i bytes)) (len_utf8_ascii c ascii) ∙ one-byte bytes i less ∙ sym (encode_ascii c ascii))

begins-first : AsciiIsItself → (start : ℕ) (bytes : List ℕ) (n : ℕ) → 0 < length bytes → get_or bytes 0 0 < 128 → begins_with_starter (points_from start (take (suc n) bytes)) ≡ true
begins-first law start [] n some less = absurd (omega (arith, some))
begins-first law start (b ∷ bytes) n some less =
    ap begins_with_starter (from_first start b (take n bytes) ∙ ap (λ (ps : List Point). ps ++ points_from (start + len_utf8 b) (take n bytes)) (law start b less))

-- ---- what was passed

-- up to a character before another of ASCII, which need not pass
pub passed-of : RunLaws → SymbolsAreListed → Borders → (table : TableMap) (pattern : Compiled) (classes : Classes) → AreClassesRight table pattern classes → (bytes : List ℕ) (total i : ℕ) → Passes classes.sets bytes total → i < total → suc i < length bytes →
    get_or bytes (suc i) 0 < 128 → (l : Letter) → IsLetter table pattern (get_or bytes i 0 ∷ []) l → LeavesNone (most pattern.keys classes.place) l → (start : ℕ) → IsPassed table pattern start (start + i) (take (suc i) bytes) (get_or bytes (suc i) 0)
passed-of laws listed borders table pattern classes rights bytes total i p here followed ascii l h clean start =
    let within : i < length bytes = omega (arith, followed) in
    let c = get_or bytes i 0 in
    let d = get_or bytes (suc i) 0 in
    let cs = take i bytes in
    let run = run-to laws table pattern classes rights start bytes total i p here in
    let at = start + byte_len cs in
    let us = units table (ordered_from start cs) in
    let flag = after_units table pattern.variable false us in
    let may = possible table pattern.variable us in
    let both = run-items-more laws table pattern start bytes i within run.is_next in
    let I = run_items table pattern start bytes i in
    let known = plain-known l.role clean.0 in
    let said = h.plain clean.0 in
    let keys = keys_alone table pattern (ordered_from 0 (c ∷ [])) flag in
    let counted = bytes-len bytes i (omega (arith, within)) (λ j lower. ascii-at classes bytes total j p (omega (arith, lower, here))) in
    let same : at ≡ start + i = omega (arith, counted) in
    let items = letter-items laws.points.shifted table pattern c l flag at known may h ∙ ap (λ b. begun_items b at keys) (ap begins_cluster clean.0) ∙ ap (λ q. begun_items true q keys) same in
    let one : IsNext table at (c ∷ []) d = next_of_one laws.points table at c d (begins-ascii laws.points.ascii (at + len_utf8 c) d ascii) (ends-one laws table at (at + len_utf8 c) c d ascii (inl (h.closed said.0))) in
    let place = rights.place in
    let state = run.state in
    let symbols = letter-symbols listed table pattern c l flag known (ap is_mark clean.0) said.1.0 said.1.1 may h in
    let none : border pattern.keys (item_keys I ++ keys) ≤ 0 = none-waits borders pattern.keys keys l.symbols.third (most pattern.keys classes.place) clean.1 clean.2 symbols (item_keys I) state in
    record {
      begins = begins-first laws.points.ascii start bytes i (omega (arith, within)) (p.ascii (omega (arith, here)));
      is_next = subst (λ (t : List ℕ). IsNext table start t d) (sym (take-suc bytes i 0 within)) (next-more laws.points table start c d cs [] (c ∷ []) refl run.is_next one);
      before = I;
      keys = keys;
      items = both.0 ∙ ap (λ (is : List Item). I ++ is) items;
      flag =
          both.1 ∙ ap (λ (ps : List Point). after_units table pattern.variable flag (units table ps)) (ordered_is_shifted laws.points.shifted at (c ∷ []))
          ∙ ((h.known known).items flag may).flag_is at ∙ ap (λ r. flag_after r flag) clean.0;
      quiet = quiet-more pattern.keys (start + i) I (ClusterStart (start + i) ∷ []) run.quiet (omega (arith, state, place)) (front-one (start + i));
      later = run.later;
      after_start = omega arith;
      some = some-keys pattern.keys keys l.symbols.third clean.1 symbols;
      none_waits = omega (arith, none);
    }
