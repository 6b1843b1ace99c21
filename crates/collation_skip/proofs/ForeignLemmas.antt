-- Characters behind which no key waits, passed by one after another.
use Rattle.std.specs.Char.{len_utf8}
use Rattle.std.specs.Str.{chars, IsUtf8}
use Rattle.std.proofs.Common.{◌≡◌, ◌∙◌, ℕ, zero, suc, ◌+◌, ◌<◌, ◌≤◌, true, false, List, [], ◌∷◌, ◌++◌, length, None, take, drop, map, filter, Contains, refl, sym, ap, ap₂, subst, arith, append_assoc}
use Rattle.std.proofs.lemmas.List.{append-nil, length-take-le}
use Rattle.std.proofs.lemmas.Str.{chars-nil, encodes-chars}
use Rattle.utf8_cut.specs.Sequences.{SpellsCharacter}
use Rattle.utf8_cut.proofs.TextLemmas.{text-more, chars-more, one_char}
use Rattle.nfd_points.specs.Points.{byte_len, points_from, begins_with_starter}
use Rattle.nfd_points.proofs.ByteLenLemmas.{byte_len_encoded}
use Rattle.collation_table.specs.Table.{TableMap}
use Rattle.collation_elements.specs.declared.keys.Key.{Key}
use Rattle.collation_elements.specs.declared.keys.Item.{Item}
use Rattle.collation_elements.specs.declared.keys.Item.TheVariants.{ClusterStart, Element}
use Rattle.collation_elements.specs.Items.{items as items_of}
use Rattle.collation_elements.specs.ItemParts.{item_keys}
use Rattle.collation_elements.specs.Units.{units}
use Rattle.collation_elements.specs.Weighing.{after_units}
use Rattle.collation_pattern.specs.Border.{border}
use Rattle.collation_pattern.specs.Compiled.{Compiled}
use Rattle.collation_letters.specs.Apart.{IsNext}
use Rattle.collation_letters.specs.declared.letter.Letter.{Letter}
use Rattle.collation_letters.specs.Letters.{ordered_from, IsClean, begins_cluster, is_mark, flag_after, IsLetter}
use Rattle.collation_letters.specs.declared.letter.Role.TheVariants.{Plain}
use Rattle.collation_letters.specs.Symbols.{AreLastSymbols, is_symbol, some_symbol, NothingWaitsBehindForeignKeys, OneSymbolIsOfTheLastKey}
use Rattle.collation_letters.specs.Laws.{LetterLaws}
use Rattle.collation_letters.proofs.ApartLemmas.{begins_before, from_none, ordered_none, next-more, next-none}
use Rattle.collation_letters.proofs.ClusterLemmas.{letter-of}
use Rattle.collation_letters.proofs.LetterApart.{plain-known}
use Rattle.collation_skip.specs.Passed.{IsPassed, IsQuiet}
use Rattle.collation_skip.specs.Reached.{items_from}
use Rattle.collation_skip.proofs.BorderSteps.{some-keys}
use Rattle.collation_skip.proofs.ItemLemmas.{letter_items, keys-append, keys-letter, quiet-more, later-more}
use Rattle.collation_skip.proofs.ReachedLemmas.{begins-more, items-more, no-item, none-ends}

pub record ForeignLaws : Type 0 where
  pub points : LetterLaws
  pub one : OneSymbolIsOfTheLastKey
  pub foreign : NothingWaitsBehindForeignKeys

-- What is known of some characters before one that follows: no match ends among them, and the whole pattern does not end their keys.
pub record AreQuiet (table : TableMap) (pattern : Compiled) (start : ℕ) (cs : List ℕ) (c : ℕ) : Type 0 where
  pub begins : begins_with_starter (points_from start cs) ≡ true
  pub is_next : IsNext table start cs c
  pub quiet : IsQuiet pattern.keys (items_from table pattern start cs)
  pub below : border pattern.keys (item_keys (items_from table pattern start cs)) < length pattern.keys
  pub later : (at : ℕ) → Contains (items_from table pattern start cs) (ClusterStart at) → start ≤ at

-- no characters
pub no-keys : (table : TableMap) (pattern : Compiled) (start : ℕ) → border pattern.keys (item_keys (items_from table pattern start [])) ≡ 0
no-keys table pattern start =
    ap (λ ps. border pattern.keys (item_keys (items_of table pattern.strength pattern.variable false (units table ps)))) (ordered_none start) ∙ none-ends pattern.keys

pub quiet-begin : (table : TableMap) (pattern : Compiled) (start c : ℕ) → 0 < length pattern.keys → begins_with_starter (points_from 0 (c ∷ [])) ≡ true → AreQuiet table pattern start [] c
quiet-begin table pattern start c some starter =
    let none : points_from start [] ≡ [] = from_none start in
    let nothing : items_from table pattern start [] ≡ [] = ap (λ ps. items_of table pattern.strength pattern.variable false (units table ps)) (ordered_none start) in
    let zero = no-keys table pattern start in
    record {
      begins = ap begins_with_starter none;
      is_next = next-none table start c starter;
      quiet = λ first after at e. absurd (no-item first after (ClusterStart at) (sym nothing ∙ e));
      below = omega (arith, zero, some);
      later = λ at held. let contained = subst (λ (l : List Item). Contains l (ClusterStart at)) nothing held in let less = contained.1 in absurd (omega (arith, less));
    }

quiet-none : (table : TableMap) (pattern : Compiled) (start c : ℕ) (l : Letter) → 0 < length pattern.keys → IsLetter table pattern (c ∷ []) l → IsClean l → AreQuiet table pattern start [] c
quiet-none table pattern start c l some h clean = quiet-begin table pattern start c some (begins_before (points_from 0 (c ∷ [])) ((h.known (plain-known l.role clean.0)).starter (ap is_mark clean.0)))

-- where some were passed by
pub quiet-passed : (table : TableMap) (pattern : Compiled) (start last : ℕ) (cs : List ℕ) (c : ℕ) → 0 < length pattern.keys → IsPassed table pattern start last cs c → AreQuiet table pattern start cs c
quiet-passed table pattern start last cs c some p =
    let opened = p.before ++ ClusterStart last ∷ [] in
    let all : p.before ++ ClusterStart last ∷ map (λ key. Element key) p.keys ≡ opened ++ letter_items false 0 p.keys = sym (append_assoc p.before (ClusterStart last ∷ []) (map (λ key. Element key) p.keys)) in
    let earlier : item_keys opened ≡ item_keys p.before = keys-append p.before (ClusterStart last ∷ []) ∙ append-nil (item_keys p.before) in
    let open_below : border pattern.keys (item_keys opened) < length pattern.keys = subst (λ (ks : List Key). border pattern.keys ks < length pattern.keys) (sym earlier) (p.quiet p.before [] last refl) in
    let keys : item_keys (items_from table pattern start cs) ≡ item_keys p.before ++ p.keys =
    ap item_keys (p.items ∙ all) ∙ keys-append opened (letter_items false 0 p.keys) ∙ ap₂ (λ (x y : List Key). x ++ y) earlier (keys-letter false 0 p.keys) in
    let zero : border pattern.keys (item_keys (items_from table pattern start cs)) ≡ 0 = ap (border pattern.keys) keys ∙ p.none_waits in
    record {
      begins = p.begins;
      is_next = p.is_next;
      quiet = subst (IsQuiet pattern.keys) (sym (p.items ∙ all)) (quiet-more pattern.keys opened false 0 p.keys p.quiet open_below);
      below = omega (arith, zero, some);
      later = subst (λ (l : List Item). (at : ℕ) → Contains l (ClusterStart at) → start ≤ at) (sym p.items) (later-more p.before true last p.keys start p.later p.after_start);
    }

-- the symbols of a plain letter
symbols-of : (first second third : ℕ) → first ≡ 255 → second ≡ 255 → filter is_symbol (first ∷ second ∷ third ∷ []) ≡ some_symbol third
symbols-of first second third a b = ap₂ (λ (x y : ℕ). filter is_symbol (x ∷ y ∷ third ∷ [])) a b

-- behind these characters and keys with this symbol no key waits
abbrev pub NoneWaitsBehind : TableMap → Compiled → ℕ → List ℕ → ℕ → Type 0
NoneWaitsBehind table pattern start cs symbol =
    (keys : List Key) → AreLastSymbols pattern.keys keys (some_symbol symbol) → border pattern.keys (item_keys (items_from table pattern start cs) ++ keys) ≡ 0

-- one character more
pub passed-one : LetterLaws → (table : TableMap) (pattern : Compiled) (start : ℕ) (cs : List ℕ) (c next : ℕ) (l : Letter) → AreQuiet table pattern start cs c → IsLetter table pattern (c ∷ []) l → l.role ≡ Plain →
    l.symbols.third < 255 → NoneWaitsBehind table pattern start cs l.symbols.third → IsNext table (start + byte_len cs) (c ∷ []) next → IsPassed table pattern start (start + byte_len cs) (cs ++ c ∷ []) next
passed-one laws table pattern start cs c next l q h role small none apart =
    let at = start + byte_len cs in
    let known = plain-known l.role role in
    let plain = h.plain role in
    let items = items-more laws laws.shifted None table pattern start cs c [] l q.is_next known (ap is_mark role) (letter-of table pattern (c ∷ []) l h) in
    let I = items_from table pattern start cs in
    let symbols = subst (AreLastSymbols pattern.keys items.keys) (symbols-of l.symbols.first l.symbols.second l.symbols.third plain.1.0 plain.1.1) items.symbols in
    record {
      begins = begins-more laws table start cs c [] q.begins q.is_next;
      is_next = next-more laws table start c next cs [] (c ∷ []) refl q.is_next apart;
      before = I;
      keys = items.keys;
      items = items.items ∙ ap (λ r. I ++ letter_items (begins_cluster r) at items.keys) role;
      flag = items.flag ∙ ap (λ r. flag_after r (after_units table pattern.variable false (units table (ordered_from start cs)))) role;
      quiet = quiet-more pattern.keys I true at [] q.quiet q.below;
      later = q.later;
      after_start = omega arith;
      some = some-keys pattern.keys items.keys l.symbols.third small symbols;
      none_waits = none items.keys symbols;
    }

-- ---- the characters of a piece

bytes-of : (piece : List ℕ) (end : ℕ) → end ≤ length piece → IsUtf8 (take end piece) → byte_len (chars (take end piece)) ≡ end
bytes-of piece end within text =
    byte_len_encoded (chars (take end piece)) ∙ ap (λ (l : List ℕ). length l) (encodes-chars (take end piece) text) ∙ length-take-le end piece within

-- what is known of no bytes, or of those that were passed by
pub quiet-so_far : (table : TableMap) (pattern : Compiled) (piece : List ℕ) (end last c at : ℕ) (l : Letter) → 0 < length pattern.keys → IsLetter table pattern (c ∷ []) l → IsClean l →
    (0 < end → IsPassed table pattern at last (chars (take end piece)) c) → AreQuiet table pattern at (chars (take end piece)) c
quiet-so_far table pattern piece zero last c at l some h clean passed = subst (λ (cs : List ℕ). AreQuiet table pattern at cs c) (sym chars-nil) (quiet-none table pattern at c l some h clean)
quiet-so_far table pattern piece (suc end) last c at l some h clean passed = quiet-passed table pattern at last (chars (take (suc end) piece)) c some (passed (omega arith))

pub chars-on : (piece : List ℕ) (end len c : ℕ) → len ≡ len_utf8 c → IsUtf8 (take end piece) → SpellsCharacter (take (len_utf8 c) (drop end piece)) c → chars (take (end + len) piece) ≡ chars (take end piece) ++ c ∷ []
chars-on piece end len c same text spelled =
    chars-more piece end len text ∙ ap (λ (l : List ℕ). chars (take end piece) ++ l) (ap (λ n. chars (take n (drop end piece))) same ∙ (one_char (take (len_utf8 c) (drop end piece)) c spelled).1)

-- one character more of a piece, wherever this stands
pub passed-on : LetterLaws → (table : TableMap) (pattern : Compiled) (piece : List ℕ) (end len c next at : ℕ) (l : Letter) → end + len ≤ length piece → len ≡ len_utf8 c → IsUtf8 (take end piece) →
    SpellsCharacter (take (len_utf8 c) (drop end piece)) c → AreQuiet table pattern at (chars (take end piece)) c → IsLetter table pattern (c ∷ []) l → l.role ≡ Plain → l.symbols.third < 255 →
    NoneWaitsBehind table pattern at (chars (take end piece)) l.symbols.third → IsNext table (at + end) (c ∷ []) next → IsPassed table pattern at (at + end) (chars (take (end + len) piece)) next
passed-on laws table pattern piece end len c next at l within same text spelled quiet h role small none apart =
    let cs = chars (take end piece) in
    let bytes = bytes-of piece end (omega (arith, within)) text in
    let more : chars (take (end + len) piece) ≡ cs ++ c ∷ [] = chars-on piece end len c same text spelled in
    subst (λ (codes : List ℕ). IsPassed table pattern at (at + end) codes next) (sym more)
    (subst (λ n. IsPassed table pattern at (at + n) (cs ++ c ∷ []) next) bytes
    (passed-one laws table pattern at cs c next l quiet h role small none (subst (λ n. IsNext table (at + n) (c ∷ []) next) (sym bytes) apart)))

pub text-on : (piece : List ℕ) (end len c : ℕ) → len ≡ len_utf8 c → IsUtf8 (take end piece) → SpellsCharacter (take (len_utf8 c) (drop end piece)) c → IsUtf8 (take (end + len) piece)
text-on piece end len c same text spelled =
    text-more piece end len text (subst (λ n. IsUtf8 (take n (drop end piece))) (sym same) (one_char (take (len_utf8 c) (drop end piece)) c spelled).0)
