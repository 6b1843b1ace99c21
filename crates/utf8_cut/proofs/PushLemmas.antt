-- What a push makes of what a cutter represents, and what any further bytes do.
use Rattle.std.proofs.Common.{◌≡◌, ℕ, ◌+◌, ◌-◌, ◌<◌, Bool, true, false, List, [], ◌∷◌, ◌++◌, length, take, refl, sym, ap, ◌∙◌, subst, arith, append_assoc, append-nil, length-append, length-drop, ne_eqb}
use Rattle.std.specs.Prelude.{None, Some, IsTrue, not, cond}
use Rattle.std.proofs.lemmas.Bool.{not-true}
use Rattle.std.proofs.lemmas.Str.{IsUtf8-append, IsUtf8-encode, IsUtf8-nil, chars-nil, length-encode, encode_ascii, utf8_valid_len_le}
use Rattle.std.proofs.lemmas.List.{nil_from_length}
use Rattle.std.specs.Char.{len_utf8}
use Rattle.std.specs.Str.{IsUtf8, StartsWithNoChar, chars}
use Rattle.utf8_cut.specs.declared.Cutting.{Cutting}
use Rattle.utf8_cut.specs.declared.Cutting.TheVariants.{More, Char, Bad}
use Rattle.utf8_cut.specs.Characters.{is_incomplete_or_empty, is_utf8_prefix, ill_formed_at, characters_end, after_characters, with_offsets, characters_from, characters, first_fault}
use Rattle.utf8_cut.specs.Sequences.{IsIllFormed}
use Rattle.utf8_cut.specs.State.{StandsFor, IsPushed, IfChar, state_after, character_given, bad_given}
use Rattle.utf8_cut.specs.Value.{CutState, between_characters, IsSoundCut, IsSoundWhen}
use Rattle.utf8_cut.proofs.TableLemmas.{held_no_char, incomplete_is_held, ill_stays, ill_some}
use Rattle.utf8_cut.proofs.CharactersLemmas.{HasWholeCharacters, Split-end, Split-after, Split-characters, split_of, split_whole, characters_from-append, characters_from-encode, fault_after}
use Rattle.std.specs.Option.{option_map}
use lib.Utf8.{encode, low_scalar}

not_not : (b : Bool) → not (not b) ≡ b
not_not true = refl
not_not false = refl

module _ (old : CutState) (taken : List ℕ) (given : List (ℕ × ℕ)) (stands : StandsFor old taken given) where
  abbrev whole : List ℕ
  whole = take (characters_end taken) taken

  abbrev rest : List ℕ
  rest = after_characters taken

  -- where the text and the rest of the bytes with some more are known
  longer : (bytes more : List ℕ) → bytes ≡ taken ++ more → StartsWithNoChar (rest ++ more) → HasWholeCharacters bytes whole (rest ++ more)
  longer bytes more e n =
      let s = split_of taken in
      record { parts = e ∙ ap (λ l. l ++ more) s.parts ∙ append_assoc _ _ more; text = s.text; no_char = n }

  held_is : old.is_bad ≡ false → old.held ≡ rest
  held_is e = stands.held ∙ ap (λ b. cond b [] rest) e

  rest_ill : old.is_bad ≡ true → IsIllFormed rest
  rest_ill e =
      let closed : not (is_utf8_prefix taken) ≡ true = sym stands.bad ∙ e in
      ((split_of taken).no_char, not-true _ closed)

  -- where no character comes, with b whether the sequence is ill-formed
  stays : (byte : ℕ) (b : Bool) (held : List ℕ) → StartsWithNoChar (rest ++ byte ∷ []) → is_incomplete_or_empty (rest ++ byte ∷ []) ≡ not b → held ≡ cond b [] (rest ++ byte ∷ [])
      → StandsFor (record { held = held; start = old.start; count = old.count + 1; is_bad = b }) (taken ++ byte ∷ []) given
  stays byte b held n t h =
      let now = taken ++ byte ∷ [] in
      let s = longer now (byte ∷ []) refl n in
      let count = stands.count in
      record {
        characters_given = stands.characters_given ∙ sym (Split-characters _ _ _ s 0);
        count = omega (arith, length-append taken (byte ∷ []));
        start = stands.start ∙ Split-end _ _ _ (split_of taken) ∙ sym (Split-end _ _ _ s);
        held = h ∙ ap (λ l. cond b [] l) (sym (Split-after _ _ _ s));
        bad = sym (ap not (ap (λ l. is_incomplete_or_empty l) (Split-after _ _ _ s) ∙ t) ∙ not_not b);
      }

  more_stands : (byte : ℕ) → IsPushed old byte More → StandsFor (state_after old byte More) (taken ++ byte ∷ []) given
  more_stands byte p =
      let held : old.held ++ byte ∷ [] ≡ rest ++ byte ∷ [] = ap (λ l. l ++ byte ∷ []) (held_is p.0) in
      let cut : IsTrue (is_incomplete_or_empty (rest ++ byte ∷ [])) = ap (λ l. is_incomplete_or_empty l) (sym held) ∙ incomplete_is_held (old.held ++ byte ∷ []) p.1 in
      stays byte false _ (held_no_char _ cut) cut held

  joined_ill : (byte : ℕ) → (b : Bool) → old.is_bad ≡ b → (old.is_bad ≡ false → IsIllFormed (old.held ++ byte ∷ [])) → IsIllFormed (rest ++ byte ∷ [])
  joined_ill byte true e h = ill_stays rest (byte ∷ []) (rest_ill e)
  joined_ill byte false e h = subst (λ l. IsIllFormed (l ++ byte ∷ [])) (held_is e) (h e)

  bad_stands : (byte at : ℕ) → IsPushed old byte (Bad at) → StandsFor (state_after old byte (Bad at)) (taken ++ byte ∷ []) given
  bad_stands byte at p =
      let ill = joined_ill byte old.is_bad refl p.1 in
      stays byte true [] ill.0 ill.1 refl

  char_stands : (byte c at : ℕ) → IsPushed old byte (Char c at) → StandsFor (state_after old byte (Char c at)) (taken ++ byte ∷ []) (given ++ (c, at) ∷ [])
  char_stands byte c at p =
      let now = taken ++ byte ∷ [] in
      let t = split_of taken in
      let spelt : rest ++ byte ∷ [] ≡ encode c = ap (λ l. l ++ byte ∷ []) (sym (held_is p.0)) ∙ p.2.1 in
      let parts : now ≡ whole ++ encode c = ap (λ l. l ++ byte ∷ []) t.parts ∙ append_assoc _ _ (byte ∷ []) ∙ ap (λ l. whole ++ l) spelt in
      let text : IsUtf8 now = subst IsUtf8 (sym parts) (IsUtf8-append _ _ t.text (IsUtf8-encode c p.2.0)) in
      let s = split_whole now text in
      let starts = stands.start in
      let same = p.1 in
      let at_end : 0 + length whole ≡ at = omega (arith, Split-end _ _ _ t) in
      let count = stands.count in
      let long : old.count + 1 ≡ length now = omega (arith, length-append taken (byte ∷ [])) in
      let all : characters now ≡ given ++ (c, at) ∷ [] =
      ap (λ l. characters_from 0 l) parts
      ∙ characters_from-append 0 whole (encode c) t.text
      ∙ (λ i. sym stands.characters_given i ++ characters_from (at_end i) (encode c))
      ∙ ap (λ l. given ++ l) (characters_from-encode at c p.2.0) in
      record {
        characters_given = sym all;
        count = long;
        start = long ∙ sym (Split-end _ _ _ s);
        held = sym (Split-after _ _ _ s);
        bad = ap (λ l. not (is_incomplete_or_empty l)) (sym (Split-after _ _ _ s));
      }

-- a push carries on what the cutter represents
pub pushed_stands : (old : CutState) (byte : ℕ) (out : Cutting) → IsPushed old byte out → (taken : List ℕ) (given : List (ℕ × ℕ)) → StandsFor old taken given
    → StandsFor (state_after old byte out) (taken ++ byte ∷ []) (given ++ character_given out)
pushed_stands old byte More p taken given s = subst (λ g. StandsFor (state_after old byte More) (taken ++ byte ∷ []) g) (sym (append-nil given)) (more_stands old taken given s byte p)
pushed_stands old byte (Char c at) p taken given s = char_stands old taken given s byte c at p
pushed_stands old byte (Bad at) p taken given s =
    subst (λ g. StandsFor (state_after old byte (Bad at)) (taken ++ byte ∷ []) g) (sym (append-nil given)) (bad_stands old taken given s byte at p)

by_open : (b : Bool) (n m : ℕ) → n ≡ m → cond (not b) None (Some n) ≡ cond b (Some m) None
by_open true n m e = ap (λ k. Some k) e
by_open false n m e = refl

-- what a value that represents some bytes says of their fault
pub ill_formed_by : (cut : CutState) (taken : List ℕ) (given : List (ℕ × ℕ)) → StandsFor cut taken given → ill_formed_at taken ≡ cond cut.is_bad (Some cut.start) None
ill_formed_by cut taken given s =
    let opened : is_utf8_prefix taken ≡ not cut.is_bad = sym (not_not (is_utf8_prefix taken)) ∙ ap not (sym s.bad) in
    ap (λ b. cond b None (Some (characters_end taken))) opened ∙ by_open cut.is_bad _ _ (sym s.start)

pushed_fault : (old : CutState) (byte : ℕ) (out : Cutting) → IsPushed old byte out → let new = state_after old byte out in bad_given out ≡ cond new.is_bad (Some new.start) None
pushed_fault old byte More p = refl
pushed_fault old byte (Char c at) p = refl
pushed_fault old byte (Bad at) p = ap (λ n. Some n) p.0

-- and a push reports it
pub pushed_bad : (old : CutState) (byte : ℕ) (out : Cutting) → IsPushed old byte out → (taken : List ℕ) (given : List (ℕ × ℕ)) → StandsFor old taken given
    → bad_given out ≡ ill_formed_at (taken ++ byte ∷ [])
pushed_bad old byte out p taken given s =
    pushed_fault old byte out p ∙ sym (ill_formed_by (state_after old byte out) (taken ++ byte ∷ []) _ (pushed_stands old byte out p taken given s))

-- ---- any further bytes

module _ (cut : CutState) (taken : List ℕ) (given : List (ℕ × ℕ)) (more : List ℕ) (stands : StandsFor cut taken given) where
  continued_rest : (b : Bool) → cut.is_bad ≡ b → characters_from cut.start (after_characters taken ++ more) ≡ cond b [] (characters_from cut.start (cut.held ++ more))
  continued_rest true e =
      let ill = ill_stays _ more (rest_ill cut taken given stands e) in
      let none : HasWholeCharacters (after_characters taken ++ more) [] (after_characters taken ++ more) = record { parts = refl; text = IsUtf8-nil; no_char = ill.0 } in
      Split-characters _ _ _ none cut.start ∙ ap (λ cs. with_offsets cut.start cs) chars-nil
  continued_rest false e = ap (λ l. characters_from cut.start (l ++ more)) (sym (held_is cut taken given stands e))

  -- what was given begins the characters of the whole, and what is held says the others
  pub continued : characters (taken ++ more) ≡ given ++ cond cut.is_bad [] (characters_from cut.start (cut.held ++ more))
  continued =
      let t = split_of taken in
      let start : 0 + length (whole cut taken given stands) ≡ cut.start = omega (arith, Split-end _ _ _ t, stands.start) in
      ap (λ l. characters_from 0 l) (ap (λ l. l ++ more) t.parts ∙ append_assoc _ _ more)
      ∙ characters_from-append 0 _ _ t.text
      ∙ (λ i. sym stands.characters_given i ++ characters_from (start i) (after_characters taken ++ more))
      ∙ ap (λ l. given ++ l) (continued_rest cut.is_bad refl)

-- ---- single clauses

-- a new cutter
pub new_stands : StandsFor (record { held = []; start = 0; count = 0; is_bad = false }) [] []
new_stands =
    let s = split_whole [] IsUtf8-nil in
    record {
      characters_given = sym (Split-characters _ _ _ s 0 ∙ ap (λ cs. with_offsets 0 cs) chars-nil);
      count = refl;
      start = sym (Split-end _ _ _ s);
      held = sym (Split-after _ _ _ s);
      bad = sym (ap (λ l. not (is_incomplete_or_empty l)) (Split-after _ _ _ s));
    }

sound_open : (cut : CutState) → IsSoundCut cut → cut.is_bad ≡ false → IsTrue (is_incomplete_or_empty cut.held) × (cut.start + length cut.held ≡ cut.count)
sound_open cut s e = subst (λ b. IsSoundWhen b cut) e s

-- a character ends where the bytes do
pub pushed_end : (old : CutState) (byte : ℕ) (out : Cutting) → IsSoundCut old → IsPushed old byte out → IfChar out (λ c at. at + len_utf8 c ≡ (state_after old byte out).count)
pushed_end old byte More s p = tt
pushed_end old byte (Char c at) s p =
    let counted = (sound_open old s p.0).1 in
    let start = p.1 in
    omega (arith, ap length p.2.1, length-append old.held (byte ∷ []), length-encode c)
pushed_end old byte (Bad at) s p = tt

open_when : (b : Bool) (cut : CutState) → IsSoundWhen b cut → cut.start ≡ cut.count → b ≡ false
open_when true cut s e = let less = s.1 in absurd (omega arith)
open_when false cut s e = refl

module _ (old : CutState) (byte : ℕ) (sound : IsSoundCut old) (between : old.start ≡ old.count) (ascii : byte < 128) where
  ascii_open : old.is_bad ≡ false
  ascii_open = open_when old.is_bad old sound between

  ascii_empty : old.held ≡ []
  ascii_empty = let counted = (sound_open old sound ascii_open).1 in nil_from_length old.held (omega arith)

  ascii_pushed : IsPushed old byte (Char byte old.start)
  ascii_pushed = (ascii_open, refl, (low_scalar byte (omega arith), ap (λ l. l ++ byte ∷ []) ascii_empty ∙ sym (encode_ascii byte ascii)))

  -- an ASCII byte between characters
  pub ascii_stands : (taken : List ℕ) (given : List (ℕ × ℕ)) → StandsFor old taken given
      → StandsFor (record { held = old.held; start = old.count + 1; count = old.count + 1; is_bad = old.is_bad }) (taken ++ byte ∷ []) (given ++ (byte, old.start) ∷ [])
  ascii_stands taken given s =
      subst (λ h. StandsFor (record { held = h; start = old.count + 1; count = old.count + 1; is_bad = old.is_bad }) (taken ++ byte ∷ []) (given ++ (byte, old.start) ∷ [])) (sym ascii_empty)
      (subst (λ b. StandsFor (record { held = []; start = old.count + 1; count = old.count + 1; is_bad = b }) (taken ++ byte ∷ []) (given ++ (byte, old.start) ∷ [])) (sym ascii_open)
      (pushed_stands old byte (Char byte old.start) ascii_pushed taken given s))

  pub ascii_bad : (taken : List ℕ) (given : List (ℕ × ℕ)) → StandsFor old taken given → None ≡ ill_formed_at (taken ++ byte ∷ [])
  ascii_bad taken given s = pushed_bad old byte (Char byte old.start) ascii_pushed taken given s

-- ---- the fault of the bytes with any further ones

module _ (cut : CutState) (taken : List ℕ) (given : List (ℕ × ℕ)) (more : List ℕ) (stands : StandsFor cut taken given) where
  bad_more : cut.is_bad ≡ true → HasWholeCharacters (taken ++ more) (whole cut taken given stands) (after_characters taken ++ more) × IsIllFormed (after_characters taken ++ more)
  bad_more e = let ill = ill_stays _ more (rest_ill cut taken given stands e) in (longer cut taken given stands (taken ++ more) more refl ill.0, ill)

  pub stays_bad : cut.is_bad ≡ true → ill_formed_at (taken ++ more) ≡ Some cut.start
  stays_bad e =
      let p = bad_more e in
      let closed : is_utf8_prefix (taken ++ more) ≡ false = ap (λ l. is_incomplete_or_empty l) (Split-after _ _ _ p.0) ∙ p.1.1 in
      ap (λ b. cond b None (Some (characters_end (taken ++ more)))) closed
      ∙ ap (λ n. Some n) (Split-end _ _ _ p.0 ∙ sym (Split-end _ _ _ (split_of taken)) ∙ sym stands.start)

  pub continued_fault : (b : Bool) → cut.is_bad ≡ b → first_fault (taken ++ more) ≡ cond b (Some cut.start) (option_map (λ at. cut.start + at) (first_fault (cut.held ++ more)))
  continued_fault true e =
      let p = bad_more e in
      let some = ill_some _ p.1 in
      let at = Split-end _ _ _ p.0 in
      let short : characters_end (taken ++ more) ≡ length (taken ++ more) → ⊥ =
      λ same. omega (arith, ap length p.0.parts, length-append (whole cut taken given stands) (after_characters taken ++ more)) in
      rw (ne_eqb _ _ short) (ap (λ n. Some n) (at ∙ sym (Split-end _ _ _ (split_of taken)) ∙ sym stands.start))
  continued_fault false e =
      let t = split_of taken in
      let start : length (whole cut taken given stands) ≡ cut.start = omega (arith, Split-end _ _ _ t, stands.start) in
      ap (λ l. first_fault l) (ap (λ l. l ++ more) t.parts ∙ append_assoc _ _ more)
      ∙ fault_after _ (after_characters taken ++ more) t.text
      ∙ (λ i. option_map (λ at. start i + at) (first_fault (sym (held_is cut taken given stands e) i ++ more)))

-- ---- whole characters, between characters

pub text_taken : (text : List ℕ) → IsUtf8 text → (at : ℕ) (taken : List ℕ) (given : List (ℕ × ℕ)) → StandsFor (between_characters at) taken given
    → StandsFor (between_characters (at + length text)) (taken ++ text) (given ++ with_offsets at (chars text))
text_taken text u at taken given s =
    let t = split_of taken in
    let before : IsUtf8 taken = subst IsUtf8 (sym (t.parts ∙ ap (λ l. take (characters_end taken) taken ++ l) (sym s.held) ∙ append-nil _)) t.text in
    let all = split_whole (taken ++ text) (IsUtf8-append taken text before u) in
    let long : at + length text ≡ length (taken ++ text) = omega (arith, s.count, length-append taken text) in
    record {
      characters_given = sym (continued (between_characters at) taken given text s ∙ ap (λ l. given ++ l) (Split-characters _ _ _ (split_whole text u) at));
      count = long;
      start = long ∙ sym (Split-end _ _ _ all);
      held = sym (Split-after _ _ _ all);
      bad = ap (λ l. not (is_incomplete_or_empty l)) (sym (Split-after _ _ _ all));
    }

-- a cutter whose start is its count holds nothing and has met nothing
pub between_is : (cut : CutState) → IsSoundCut cut → cut.start ≡ cut.count → cut ≡ between_characters cut.count
between_is cut s e =
    let open_text = open_when cut.is_bad cut s e in
    let counted = (sound_open cut s open_text).1 in
    let empty = nil_from_length cut.held (omega arith) in
    λ i. record { held = empty i; start = e i; count = cut.count; is_bad = open_text i }

-- ---- a value that was read out, and one made of what was read

pub restored_stands : (cut : CutState) (taken : List ℕ) (given : List (ℕ × ℕ)) → StandsFor cut taken given → cut.is_bad ≡ false → (held : List ℕ) (count : ℕ) → cut.held ≡ held → cut.count ≡ count
    → StandsFor (record { held = held; start = count - length held; count = count; is_bad = false }) taken given
restored_stands cut taken given s none held count same counted =
    let rest = held_is cut taken given s none in
    let start : cut.start ≡ count - length held =
    omega (arith, s.start, s.count, counted, ap length same, ap length rest, length-drop (characters_end taken) taken, utf8_valid_len_le taken) in
    subst (λ c. StandsFor c taken given) (λ i. record { held = same i; start = start i; count = counted i; is_bad = none i }) s
