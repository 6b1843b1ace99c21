-- What a state says of the bytes behind it, with one byte more.
use Rattle.std.specs.Char.{len_utf8}
use Rattle.std.specs.Str.{chars, IsUtf8}
use Rattle.std.proofs.Common.{◌≡◌, ◌≢◌, ◌∙◌, ℕ, ◌+◌, ◌<◌, ◌≤◌, Bool, true, false, List, [], ◌∷◌, ◌++◌, length, min, map, Contains, Option, Some, None, IfSome, refl, sym, ap, ap₂, subst, arith, append_assoc}
use Rattle.std.proofs.lemmas.List.{append-nil}
use Rattle.std.proofs.lemmas.Str.{IsUtf8-append, chars-append, len_utf8_bounds}
use Rattle.utf8_cut.specs.Sequences.{SpellsCharacter}
use Rattle.utf8_cut.proofs.TextLemmas.{one_char}
use Rattle.nfd_points.specs.declared.points.Point.{Point}
use Rattle.nfd_points.specs.Points.{byte_len, points_of, points_from, shifted, begins_with_starter}
use Rattle.nfd_points.specs.Laws.{PointsAreShifted}
use Rattle.collation_table.specs.Table.{TableMap}
use Rattle.collation_elements.specs.declared.keys.Key.{Key}
use Rattle.collation_elements.specs.declared.keys.Item.{Item}
use Rattle.collation_elements.specs.declared.keys.Item.TheVariants.{ClusterStart}
use Rattle.collation_elements.specs.declared.settings.Strength.{Strength}
use Rattle.collation_elements.specs.declared.settings.Variable.{Variable}
use Rattle.collation_elements.specs.Items.{items as items_of}
use Rattle.collation_elements.specs.ItemParts.{item_keys}
use Rattle.collation_elements.specs.Units.{units}
use Rattle.collation_elements.specs.Weighing.{after_units}
use Rattle.collation_pattern.specs.Border.{border, border_up_to}
use Rattle.collation_pattern.specs.Compiled.{Compiled}
use Rattle.collation_letters.specs.Apart.{IsNext}
use Rattle.collation_letters.specs.Clusters.{IsClusterAt}
use Rattle.collation_letters.specs.declared.letter.Letter.{Letter}
use Rattle.collation_letters.specs.declared.letter.Role.TheVariants.{Steps}
use Rattle.collation_letters.specs.Letters.{begins_cluster, is_mark, flag_after, keys_alone, ordered_from, IsPossible, IsLetterAt}
use Rattle.collation_letters.specs.Symbols.{AreSymbolsAt, listed}
use Rattle.collation_letters.specs.Laws.{LetterLaws}
use Rattle.collation_letters.proofs.ApartLemmas.{begins-append, begun_from, from_none, from_one, ordered_none, next-more, units-next, next-none}
use Rattle.collation_letters.proofs.CharacterLemmas.{ordered_is_shifted}
use Rattle.collation_letters.proofs.JoiningLemmas.{items-append, after-append, possible-after}
use Rattle.collation_letters.proofs.LetterApart.{starter-counted}
use Rattle.collation_letters.proofs.SymbolLemmas.{listed-some}
use Rattle.collation_skip.specs.declared.begun.Begun.{Begun}
use Rattle.collation_skip.specs.declared.begun.Begun.TheVariants.{Whole}
use Rattle.collation_skip.specs.declared.state.Marks.{Marks}
use Rattle.collation_skip.specs.declared.state.State.{State}
use Rattle.collation_skip.specs.BegunBytes.{begun_bytes}
use Rattle.collation_skip.specs.Passed.{IsQuiet}
use Rattle.collation_skip.specs.Reached.{items_from, AreMarksRight, IsHeld, IsReached}
use Rattle.collation_skip.proofs.ItemLemmas.{letter_items, keys-append, keys-letter, quiet-more, later-more}
use Rattle.collation_skip.proofs.SpentLemmas.{keys-some}

-- ---- the items of a letter more

pub record MoreItems (depth : Option ℕ) (table : TableMap) (pattern : Compiled) (at : ℕ) (before last : List ℕ) (l : Letter) : Type 0 where
  pub keys : List Key
  pub items : items_from table pattern at (before ++ last) ≡ items_from table pattern at before ++ letter_items (begins_cluster l.role) (at + byte_len before) keys
  pub flag : after_units table pattern.variable false (units table (ordered_from at (before ++ last))) ≡ flag_after l.role (after_units table pattern.variable false (units table (ordered_from at before)))
  pub symbols : AreSymbolsAt depth pattern.keys keys (listed l.symbols)

pub items-more : LetterLaws → PointsAreShifted → (depth : Option ℕ) (table : TableMap) (pattern : Compiled) (at : ℕ) (before : List ℕ) (first : ℕ) (others : List ℕ) (l : Letter) → IsNext table at before first → l.role ≢ Steps →
    is_mark l.role ≡ false → IsLetterAt depth table pattern (ordered_from 0 (first ∷ others)) l → MoreItems depth table pattern at before (first ∷ others) l
items-more laws shift depth table pattern at before first others l next known starter h =
    let S : Strength = pattern.strength in
    let V : Variable = pattern.variable in
    let last = first ∷ others in
    let start = at + byte_len before in
    let us = units table (ordered_from at before) in
    let vs = units table (ordered_from start last) in
    let flag = after_units table V false us in
    let may : IsPossible V flag = possible-after table V false flag us (λ plain. refl) refl in
    let cut : units table (ordered_from at (before ++ last)) ≡ us ++ vs = units-next laws table at first before others last refl next.begins next.ends in
    let here : vs ≡ units table (map (shifted start) (ordered_from 0 last)) = ap (units table) (ordered_is_shifted shift start last) in
    let k = h.known known in
    let has = k.items flag may in
    let keys = keys_alone table pattern (ordered_from 0 last) flag in
    record {
      keys = keys;
      items = ap (items_of table S V false) cut ∙ items-append table S V false us vs
          ∙ ap (λ (l : List Item). items_of table S V false us ++ l) (ap (items_of table S V flag) here ∙ has.items start);
      flag = ap (after_units table V false) cut ∙ after-append table V false us vs ∙ ap (after_units table V flag) here ∙ has.flag_is start;
      symbols = subst (λ ss. AreSymbolsAt depth pattern.keys keys ss) (starter-counted l.role flag (listed l.symbols) starter) has.symbols_are;
    }

-- ---- one byte more

-- of a character that is not whole
pub reached-begun : (table : TableMap) (pattern : Compiled) (s : State) (begun : Begun) (at : ℕ) (bytes : List ℕ) (byte : ℕ) → begun_bytes begun ≡ begun_bytes s.begun ++ byte ∷ [] →
    IsReached table pattern s at bytes → IsReached table pattern (record s { begun = begun; before = 0 }) at (bytes ++ byte ∷ [])
reached-begun table pattern s begun at bytes byte is r =
    record {
      text = r.text;
      before = r.before;
      first = r.first;
      others = r.others;
      all = ap (λ (l : List ℕ). l ++ byte ∷ []) r.all ∙ append_assoc r.text (begun_bytes s.begun) (byte ∷ []) ∙ ap (λ (l : List ℕ). r.text ++ l) (sym is);
      is_text = r.is_text;
      characters = r.characters;
      begins = r.begins;
      is_next = r.is_next;
      letter = r.letter;
      marks = r.marks;
      depth = r.depth;
      below = r.below;
      quiet = r.quiet;
      later = r.later;
      one = r.one;
      character = r.character;
      behind = λ some. absurd (omega (arith, some));
    }

record Further (text more bytes : List ℕ) (c : ℕ) (codes : List ℕ) : Type 0 where
  all : bytes ≡ (text ++ more) ++ []
  is_text : IsUtf8 (text ++ more)
  characters : chars (text ++ more) ≡ codes ++ c ∷ []

further : (table : TableMap) (pattern : Compiled) (s : State) (at : ℕ) (bytes : List ℕ) (byte c : ℕ) → SpellsCharacter (begun_bytes s.begun ++ byte ∷ []) c → (r : IsReached table pattern s at bytes) →
    Further r.text (begun_bytes s.begun ++ byte ∷ []) (bytes ++ byte ∷ []) c (r.before ++ r.first ∷ r.others)
further table pattern s at bytes byte c spelled r =
    let more = begun_bytes s.begun ++ byte ∷ [] in
    let one = one_char more c spelled in
    record {
      all = ap (λ (l : List ℕ). l ++ byte ∷ []) r.all ∙ append_assoc r.text (begun_bytes s.begun) (byte ∷ []) ∙ sym (append-nil (r.text ++ more));
      is_text = IsUtf8-append r.text more r.is_text one.0;
      characters = chars-append r.text more r.is_text ∙ ap₂ (λ (x y : List ℕ). x ++ y) r.characters one.1;
    }

-- no marks are kept
none-kept : (table : TableMap) (pattern : Compiled) (cs : List ℕ) (s : State) → s.marks ≡ None → AreMarksRight table pattern cs s
none-kept table pattern cs s none =
    subst (λ (o : Option Marks). IfSome o (λ m. IsClusterAt (Some s.depth) table pattern (ordered_from 0 cs) (record { letter = s.letter; base = m.base; before = m.before; last = m.last }))) (sym none) tt

-- a character with which the last letter goes on
pub reached-longer : (table : TableMap) (pattern : Compiled) (s : State) (l : Letter) (m : Option Marks) (at : ℕ) (bytes : List ℕ) (byte c : ℕ) → SpellsCharacter (begun_bytes s.begun ++ byte ∷ []) c →
    (r : IsReached table pattern s at bytes) → IsHeld table pattern s.depth (r.first ∷ (r.others ++ c ∷ [])) l →
    IfSome m (λ k. IsClusterAt (Some s.depth) table pattern (ordered_from 0 (r.first ∷ (r.others ++ c ∷ []))) (record { letter = l; base = k.base; before = k.before; last = k.last })) →
    IsReached table pattern (record { depth = s.depth; letter = l; marks = m; character = 0; len = 0; before = 0; begun = Whole }) at (bytes ++ byte ∷ [])
reached-longer table pattern s l m at bytes byte c spelled r h marks =
    let f = further table pattern s at bytes byte c spelled r in
    record {
      text = r.text ++ (begun_bytes s.begun ++ byte ∷ []);
      before = r.before;
      first = r.first;
      others = r.others ++ c ∷ [];
      all = f.all;
      is_text = f.is_text;
      characters = f.characters ∙ append_assoc r.before (r.first ∷ r.others) (c ∷ []);
      begins = r.begins;
      is_next = r.is_next;
      letter = h;
      marks = marks;
      depth = r.depth;
      below = r.below;
      quiet = r.quiet;
      later = r.later;
      one = λ some. absurd (omega (arith, some));
      character = λ some. absurd (omega (arith, some));
      behind = λ some. absurd (omega (arith, some));
    }

-- ---- a letter more

-- the last letter is one behind which no key waits
pub record MayBeLeft (s t : State) : Type 0 where
  pub len : t.before ≡ s.len
  pub begins : begins_cluster s.letter.role ≡ true
  pub flag : (after : Bool) → flag_after s.letter.role after ≡ false
  pub some : s.letter.symbols.third < 255
  pub none : t.depth ≡ 0

pub begins-more : LetterLaws → (table : TableMap) (at : ℕ) (before : List ℕ) (first : ℕ) (others : List ℕ) → begins_with_starter (points_from at before) ≡ true → IsNext table at before first →
    begins_with_starter (points_from at (before ++ first ∷ others)) ≡ true
begins-more laws table at [] first others h next =
    let here : at ≡ at + byte_len [] = let none = laws.bytes [] [] in omega (arith, none) in
    ap begins_with_starter (laws.parts at (first ∷ []) others) ∙ begins-append (points_from at (first ∷ [])) (points_from (at + byte_len (first ∷ [])) others) (begun_from laws at first [] (first ∷ []) refl)
    (ap begins_with_starter (from_one at first) ∙ subst (λ i. begins_with_starter (points_of i first) ≡ true) (sym here) next.begins)
begins-more laws table at (b ∷ before) first others h next =
    ap begins_with_starter (laws.parts at (b ∷ before) (first ∷ others))
    ∙ begins-append (points_from at (b ∷ before)) (points_from (at + byte_len (b ∷ before)) (first ∷ others)) (begun_from laws at b before (b ∷ before) refl) h

pub reached-next : LetterLaws → PointsAreShifted → (table : TableMap) (pattern : Compiled) (s t : State) (at : ℕ) (bytes : List ℕ) (byte c : ℕ) → SpellsCharacter (begun_bytes s.begun ++ byte ∷ []) c →
    s.letter.role ≢ Steps → is_mark s.letter.role ≡ false →
    ((start : ℕ) (cs : List ℕ) → IsHeld table pattern s.depth cs s.letter → IsNext table start cs c) →
    ((before keys : List Key) → AreSymbolsAt (Some s.depth) pattern.keys keys (listed s.letter.symbols) → border pattern.keys before ≡ s.depth → border pattern.keys (before ++ keys) ≡ t.depth) →
    t.depth < length pattern.keys → IsHeld table pattern t.depth (c ∷ []) t.letter → t.len ≡ len_utf8 c → t.marks ≡ None → (t.character ≢ 0 → c ≡ t.character) → t.begun ≡ Whole →
    (0 < t.before → MayBeLeft s t) → IsReached table pattern s at bytes → IsReached table pattern t at (bytes ++ byte ∷ [])
reached-next laws shift table pattern s t at bytes byte c spelled known starter apart deeper below h len unmarked character begun clean r =
    let own = s.letter in
    let f = further table pattern s at bytes byte c spelled r in
    let last = r.first ∷ r.others in
    let start = at + byte_len r.before in
    let items = items_from table pattern at r.before in
    let more = items-more laws shift (Some s.depth) table pattern at r.before r.first r.others own r.is_next known starter r.letter in
    let mine = letter_items (begins_cluster own.role) start more.keys in
    let keys : item_keys (items_from table pattern at (r.before ++ last)) ≡ item_keys items ++ more.keys =
    ap item_keys more.items ∙ keys-append items mine ∙ ap (λ (l : List Key). item_keys items ++ l) (keys-letter (begins_cluster own.role) start more.keys) in
    let next = next-more laws table at r.first c r.before r.others last refl r.is_next (apart start last r.letter) in
    let begins = begins-more laws table at r.before r.first r.others r.begins r.is_next in
    let long = (len_utf8_bounds c).0 in
    record {
      text = r.text ++ (begun_bytes s.begun ++ byte ∷ []);
      before = r.before ++ last;
      first = c;
      others = [];
      all = f.all ∙ ap (λ o. (r.text ++ (begun_bytes s.begun ++ byte ∷ [])) ++ begun_bytes o) (sym begun);
      is_text = f.is_text;
      characters = f.characters;
      begins = begins;
      is_next = next;
      letter = h;
      marks = none-kept table pattern (c ∷ []) t unmarked;
      depth = ap (border pattern.keys) keys ∙ deeper (item_keys items) more.keys more.symbols r.depth;
      below = below;
      quiet = subst (IsQuiet pattern.keys) (sym more.items) (quiet-more pattern.keys items (begins_cluster own.role) start more.keys r.quiet (subst (λ n. n < length pattern.keys) (sym r.depth) r.below));
      later = subst (λ (l : List Item). (start : ℕ) → Contains l (ClusterStart start) → at ≤ start) (sym more.items)
          (later-more items (begins_cluster own.role) start more.keys at r.later (omega arith));
      one = λ some. (refl, sym len);
      character = λ some. character;
      behind = λ some. let is = clean some in (
        omega (arith, len, long),
        (
          ap begun_bytes begun,
          let lone = r.one (omega (arith, some, is.len)) in
              record {
                earlier = r.before;
                character = r.first;
                are = ap (λ (l : List ℕ). r.before ++ r.first ∷ l) lone.0;
                len_is = lone.1 ∙ sym is.len;
                passed = record {
                  begins = begins;
                  is_next = next;
                  before = items;
                  keys = more.keys;
                  items = more.items ∙ ap (λ b. items ++ letter_items b start more.keys) is.begins;
                  flag = more.flag ∙ is.flag (after_units table pattern.variable false (units table (ordered_from at r.before)));
                  quiet = quiet-more pattern.keys items true start [] r.quiet (subst (λ n. n < length pattern.keys) (sym r.depth) r.below);
                  later = r.later;
                  after_start = omega arith;
                  some = keys-some (Some s.depth) pattern.keys more.keys (listed own.symbols) (listed-some own.symbols is.some) more.symbols;
                  none_waits = deeper (item_keys items) more.keys more.symbols r.depth ∙ is.none;
                };
              },
        ),
      );
    }

-- ---- the first character

pub none-ends : (pattern : List Key) → border pattern [] ≡ 0
none-ends keys = let none : min (length keys) (length {A = Key} []) ≡ 0 = omega arith in ap (border_up_to keys []) none

pub no-item : (first after : List Item) (i : Item) → [] ≡ first ++ i ∷ after → ⊥
no-item [] after i e = cc
no-item (f ∷ first) after i e = cc

pub reached-first : (table : TableMap) (pattern : Compiled) (s : State) (at : ℕ) (bytes : List ℕ) (c : ℕ) → SpellsCharacter bytes c → begins_with_starter (points_from 0 (c ∷ [])) ≡ true →
    0 < length pattern.keys → IsHeld table pattern s.depth (c ∷ []) s.letter → s.depth ≡ 0 → s.len ≡ len_utf8 c → s.marks ≡ None → (s.character ≢ 0 → c ≡ s.character) → s.begun ≡ Whole → s.before ≡ 0 →
    IsReached table pattern s at bytes
reached-first table pattern s at bytes c spelled starter some h depth len unmarked character begun before =
    let one = one_char bytes c spelled in
    let none : points_from at [] ≡ [] = from_none at in
    let nothing : items_from table pattern at [] ≡ [] = ap (λ (ps : List Point). items_of table pattern.strength pattern.variable false (units table ps)) (ordered_none at) in
    record {
      text = bytes;
      before = [];
      first = c;
      others = [];
      all = sym (append-nil bytes) ∙ ap (λ o. bytes ++ begun_bytes o) (sym begun);
      is_text = one.0;
      characters = one.1;
      begins = ap begins_with_starter none;
      is_next = next-none table at c starter;
      letter = h;
      marks = none-kept table pattern (c ∷ []) s unmarked;
      depth = ap (λ (l : List Item). border pattern.keys (item_keys l)) nothing ∙ none-ends pattern.keys ∙ sym depth;
      below = omega (arith, depth, some);
      quiet = λ first after start e. absurd (no-item first after (ClusterStart start) (sym nothing ∙ e));
      later = λ start held. let contained = subst (λ (l : List Item). Contains l (ClusterStart start)) nothing held in let less = contained.1 in absurd (omega (arith, less));
      one = λ yes. (refl, sym len);
      character = λ yes. character;
      behind = λ yes. absurd (omega (arith, yes, before));
    }
