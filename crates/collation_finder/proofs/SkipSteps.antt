-- A walk that goes over text that is passed: no match ends in it, and behind its last character no key waits.
use Rattle.circular_buffer.specs.Buffer.{keep_last}
use Rattle.std.proofs.Common.{◌≡◌, ◌∙◌, ℕ, suc, not, ◌+◌, ◌-◌, ◌<◌, ◌≤◌, inl, inr, Bool, true, false, List, [], ◌∷◌, ◌++◌, length, map, take, drop, Contains, refl, sym, ap, ap₂, subst, arith, append_assoc}
use Rattle.std.proofs.lemmas.List.{append-nil}
use Rattle.std.specs.Char.{len_utf8}
use Rattle.std.specs.Str.{chars, IsUtf8}
use Rattle.std.proofs.lemmas.Bool.{cases_lt}
use Rattle.utf8_cut.specs.Sequences.{SpellsCharacter}
use Rattle.nfd_points.specs.Points.{byte_len}
use Rattle.collation_table.specs.Table.{TableMap}
use Rattle.collation_elements.specs.declared.keys.Key.{Key}
use Rattle.collation_elements.specs.declared.keys.Item.{Item}
use Rattle.collation_elements.specs.declared.keys.Item.TheVariants.{ClusterStart, Element}
use Rattle.collation_elements.specs.declared.settings.Strength.{Strength}
use Rattle.collation_elements.specs.declared.settings.Variable.{Variable}
use Rattle.collation_elements.specs.Items.{items as items_of}
use Rattle.collation_elements.specs.ItemParts.{item_keys}
use Rattle.collation_elements.specs.Units.{units}
use Rattle.collation_elements.specs.declared.weigher.Weigher.{Weigher}
use Rattle.collation_elements.specs.Weighing.{weigher, after_units, WeigherStandsFor}
use Rattle.collation_pattern.specs.Border.{border, BordersGoOn}
use Rattle.collation_pattern.specs.Compiled.{Compiled}
use Rattle.collation_skip.specs.Passed.{IsPassed, IsQuiet}
use Rattle.collation_walk.specs.declared.walk.KeyPlace.{KeyPlace}
use Rattle.collation_walk.specs.declared.walk.Walk.{Walk}
use Rattle.collation_walk.specs.declared.matching.Matcher.{Matcher}
use Rattle.collation_walk.specs.Walked.{HasWalkedOn}
use Rattle.collation_walk.specs.Walks.{WalksOver, passed_to, place_of}
use Rattle.collation_matches.specs.ByClusters.{placed}
use Rattle.collation_matches.specs.Selecting.{selected, remembered}
use Rattle.collation_finder.proofs.TakenAtOnceLemmas.{ordered_none}
use Rattle.collation_letters.specs.Letters.{ordered_from}
use Rattle.collation_finder.proofs.CharacterLemmas.{chars-len, chars-more, one_char}
use Rattle.collation_letters.proofs.WeigherLaw.{WeighersGoOn}
use Rattle.collation_walk.proofs.LetterSteps.{none_kept, walks-begin_none, walks-none}
use Rattle.collation_walk.proofs.WalkSteps.{border_none, found_before, walks-key}

-- ---- borders

-- some keys, of which one is the last
record LastKey (keys : List Key) : Type 0 where
  before : List Key
  key : Key
  are : keys ≡ before ++ key ∷ []

last-of : (keys : List Key) → 0 < length keys → LastKey keys
last-of [] some = absurd (omega (arith, some))
last-of (k ∷ []) some = record { before = []; key = k; are = refl }
last-of (k ∷ (l ∷ keys)) some =
    let rest = last-of (l ∷ keys) (omega arith) in
    record { before = k ∷ rest.before; key = rest.key; are = ap (λ (ks : List Key). k ∷ ks) rest.are }

-- what the border is with more keys follows from the border before them
borders-on : BordersGoOn → (pattern ks ls more : List Key) → border pattern ks ≡ border pattern ls → border pattern (ks ++ more) ≡ border pattern (ls ++ more)
borders-on law pattern ks ls [] same = ap (border pattern) (append-nil ks) ∙ same ∙ sym (ap (border pattern) (append-nil ls))
borders-on law pattern ks ls (k ∷ more) same =
    sym (ap (border pattern) (append_assoc ks (k ∷ []) more)) ∙ borders-on law pattern (ks ++ k ∷ []) (ls ++ k ∷ []) more (law pattern ks ls k same) ∙ ap (border pattern) (append_assoc ls (k ∷ []) more)

-- ---- a walk

-- the clusters of these items start at this offset or later
abbrev pub StartFrom : ℕ → List Item → Type 0
StartFrom start items = (at : ℕ) → Contains items (ClusterStart at) → start ≤ at

-- a walk over some items, of which these are the last keys, where some had been handed out before
pub record GoesOver (pattern : List Key) (items : List Item) (ranges : List (ℕ × ℕ)) (keys : List Key) (w : Walk) : Type 0 where
  pub walk : Walk
  pub walks : WalksOver pattern items ranges walk
  pub state : walk.state ≡ border pattern keys
  pub select : walk.select ≡ w.select
  pub last_end : walk.last_end ≡ w.last_end

later-start : (start : ℕ) (item : Item) (items : List Item) → StartFrom start (item ∷ items) → StartFrom start items
later-start start item items h = λ at is. h at (suc is.0, omega (arith, is.1), is.2)

-- behind these keys the whole pattern has matched at no start of a cluster
abbrev pub QuietBehind : List Key → List Key → List Item → Type 0
QuietBehind pattern so_far items =
    (before after : List Item) (start : ℕ) → items ≡ before ++ ClusterStart start ∷ after → border pattern (so_far ++ item_keys before) < length pattern

pub goes-over : BordersGoOn → (pattern : List Key) (more items : List Item) (ranges : List (ℕ × ℕ)) (so_far : List Key) (start : ℕ) (w : Walk) → 1 ≤ start → StartFrom start more →
    w.state ≡ border pattern so_far → QuietBehind pattern so_far more → WalksOver pattern items ranges w → GoesOver pattern (items ++ more) ranges (so_far ++ item_keys more) w
goes-over law pattern [] items ranges so_far start w some from at quiet h =
    record {
      walk = w;
      walks = subst (λ (is : List Item). WalksOver pattern is ranges w) (sym (append-nil items)) h;
      state = at ∙ ap (border pattern) (sym (append-nil so_far));
      select = refl;
      last_end = refl;
    }
goes-over law pattern (ClusterStart s ∷ more) items ranges so_far start w some from at quiet h =
    let v : Walk = record w { start = s; has_keys = false } in
    let later : start ≤ s = from s (0, omega arith, refl) in
    let begun : WalksOver pattern (items ++ ClusterStart s ∷ []) (ranges ++ []) v =
    walks-begin_none pattern items ranges s w (λ none. absurd (omega (arith, none, later, some))) (λ whole. absurd (omega (arith, whole, at, quiet [] more s refl, ap (border pattern) (append-nil so_far)))) h in
    let rest = goes-over law pattern more (items ++ ClusterStart s ∷ []) ranges so_far start v some (later-start start (ClusterStart s) more from) at
    (λ before after st e. quiet (ClusterStart s ∷ before) after st (ap (λ (t : List Item). ClusterStart s ∷ t) e))
    (subst (λ (rs : List (ℕ × ℕ)). WalksOver pattern (items ++ ClusterStart s ∷ []) rs v) (append-nil ranges) begun) in
    record {
      walk = rest.walk;
      walks = subst (λ (is : List Item). WalksOver pattern is ranges rest.walk) (append_assoc items (ClusterStart s ∷ []) more) rest.walks;
      state = rest.state;
      select = rest.select;
      last_end = rest.last_end;
    }
goes-over law pattern (Element k ∷ more) items ranges so_far start w some from at quiet h =
    let longer = so_far ++ k ∷ [] in
    let place : KeyPlace = record { start = w.start; is_first = not w.has_keys } in
    let v : Walk = record w {
      state = border pattern longer;
      has_keys = true;
      places = record w.places { items = keep_last w.places.capacity (w.places.items ++ place ∷ []) };
    } in
    let keyed : WalksOver pattern (items ++ Element k ∷ []) (ranges ++ []) v =
    walks-key pattern items ranges k w v h refl refl (λ ks same. law pattern so_far ks k (sym at ∙ sym same)) refl refl refl refl in
    let rest = goes-over law pattern more (items ++ Element k ∷ []) ranges longer start v some (later-start start (Element k) more from) refl
    (λ before after st e. subst (λ (ks : List Key). border pattern ks < length pattern) (sym (append_assoc so_far (k ∷ []) (item_keys before))) (quiet (Element k ∷ before) after st (ap (λ (t : List Item). Element k ∷ t) e)))
    (subst (λ (rs : List (ℕ × ℕ)). WalksOver pattern (items ++ Element k ∷ []) rs v) (append-nil ranges) keyed) in
    record {
      walk = rest.walk;
      walks = subst (λ (is : List Item). WalksOver pattern is ranges rest.walk) (append_assoc items (Element k ∷ []) more) rest.walks;
      state = rest.state ∙ ap (border pattern) (append_assoc so_far (k ∷ []) (item_keys more));
      select = rest.select;
      last_end = rest.last_end;
    }

-- where no key waits, the places of the last keys may be any
any-places : (pattern : List Key) (items : List Item) (ranges : List (ℕ × ℕ)) (u w : Walk) → WalksOver pattern items ranges u → u.state ≡ 0 → w.state ≡ 0 → w.start ≡ u.start → w.has_keys ≡ u.has_keys →
    u.select ≡ w.select → u.last_end ≡ w.last_end → w.places.capacity ≡ length pattern → length w.places.items ≤ length pattern → WalksOver pattern items ranges w
any-places pattern items ranges u w h none now at some select last_end capacity few =
    let ks = map place_of (placed (h.before ++ h.current ∷ [])) in
    record {
      before = h.before;
      current = h.current;
      clusters = h.clusters;
      start = at ∙ h.start;
      has_keys = some ∙ h.has_keys;
      state = now ∙ sym none ∙ h.state;
      capacity = capacity;
      few = few;
      places = none_kept w.state w.places.items now ∙ sym (none_kept w.state ks now);
      handed_out = h.handed_out ∙ ap (λ t. selected t (found_before h)) select;
      last_end = sym last_end ∙ h.last_end ∙ ap (λ t. remembered t ranges) select;
    }

pub walks-passed : BordersGoOn → (pattern keys : List Key) (more items : List Item) (ranges : List (ℕ × ℕ)) (start last : ℕ) (w : Walk) → w.state ≡ 0 → 1 ≤ start → start ≤ last → StartFrom start more →
    IsQuiet pattern (more ++ ClusterStart last ∷ []) → 0 < length keys → border pattern (item_keys more ++ keys) ≡ 0 → WalksOver pattern items ranges w →
    WalksOver pattern (items ++ (more ++ ClusterStart last ∷ map (λ key. Element key) keys)) ranges (passed_to w last)
walks-passed law pattern keys more items ranges start last w none some after from quiet some_keys none_waits h =
    let end : List Item = ClusterStart last ∷ [] in
    let over = goes-over law pattern more items ranges [] start w some from (none ∙ sym (border_none pattern))
    (λ before after st e. quiet before (after ++ end) st (ap (λ (t : List Item). t ++ end) e ∙ append_assoc before (ClusterStart st ∷ after) end)) h in
    let v = over.walk in
    let b : Walk = record v { start = last; has_keys = false } in
    let begun : WalksOver pattern ((items ++ more) ++ ClusterStart last ∷ []) (ranges ++ []) b =
    walks-begin_none pattern (items ++ more) ranges last v (λ zero. absurd (omega (arith, zero, after, some))) (λ whole. absurd (omega (arith, whole, over.state, quiet more [] last refl))) over.walks in
    let one = last-of keys some_keys in
    let waits : (ks : List Key) → border pattern ks ≡ v.state → 0 ≡ border pattern ((ks ++ one.before) ++ one.key ∷ []) = λ ks at.
    sym (ap (border pattern) (append_assoc ks one.before (one.key ∷ []) ∙ ap (λ (l : List Key). ks ++ l) (sym one.are)) ∙ borders-on law pattern ks (item_keys more) keys (at ∙ over.state) ∙ none_waits) in
    let u : Walk = record b { state = 0; has_keys = true } in
    let ended : WalksOver pattern (((items ++ more) ++ ClusterStart last ∷ []) ++ map (λ key. Element key) keys) ranges u =
    walks-none pattern ((items ++ more) ++ ClusterStart last ∷ []) ranges keys one.before one.key b u one.are waits
    (subst (λ (rs : List (ℕ × ℕ)). WalksOver pattern ((items ++ more) ++ ClusterStart last ∷ []) rs b) (append-nil ranges) begun) refl refl refl refl refl refl in
    let all : ((items ++ more) ++ ClusterStart last ∷ []) ++ map (λ key. Element key) keys ≡ items ++ (more ++ ClusterStart last ∷ map (λ key. Element key) keys) =
    append_assoc (items ++ more) (ClusterStart last ∷ []) (map (λ key. Element key) keys) ∙ append_assoc items more (ClusterStart last ∷ map (λ key. Element key) keys) in
    any-places pattern (items ++ (more ++ ClusterStart last ∷ map (λ key. Element key) keys)) ranges u (passed_to w last)
    (subst (λ (is : List Item). WalksOver pattern is ranges u) all ended) refl refl refl refl over.select over.last_end h.capacity h.few

-- where no key waits and the last element that was variable or primary was not variable: behind the text that is passed the same
pub goes-on : BordersGoOn → WeighersGoOn → (table : TableMap) (pattern : Compiled) (m : Matcher) (start last : ℕ) (cs : List ℕ) (next : ℕ) → m.weigher.after_variable ≡ false → m.walk.state ≡ 0 → 1 ≤ start →
    IsPassed table pattern start last cs next → HasWalkedOn table pattern m (record m { walk = passed_to m.walk last }) (units table (ordered_from start cs)) []
goes-on borders law table pattern m start last cs next plain none some p = λ before ranges on.
    let w = m.weigher in
    let us = units table (ordered_from start cs) in
    let given : List Item = p.before ++ ClusterStart last ∷ map (λ key. Element key) p.keys in
    let gives : items_of table w.strength w.variable w.after_variable us ≡ given =
    ap (λ (b : Bool). items_of table w.strength w.variable b us) plain ∙ ap₂ (λ (s : Strength) (v : Variable). items_of table s v false us) on.strength on.variable ∙ p.items in
    let leaves : after_units table w.variable w.after_variable us ≡ false =
    ap (λ (b : Bool). after_units table w.variable b us) plain ∙ ap (λ (v : Variable). after_units table v false us) on.variable ∙ p.flag in
    let same : weigher w.strength w.variable false ≡ w = ap (λ (b : Bool). weigher w.strength w.variable b) (sym plain) in
    record {
      items = on.items ++ given;
      weighed = subst (λ (v : Weigher). WeigherStandsFor table v (before ++ us) (on.items ++ given)) same (law table w before us on.items given false gives leaves on.weighed);
      walked = subst (λ (rs : List (ℕ × ℕ)). WalksOver pattern.keys (on.items ++ given) rs (passed_to m.walk last)) (sym (append-nil ranges))
          (walks-passed borders pattern.keys p.keys p.before on.items ranges start last m.walk none some p.after_start p.later p.quiet p.some p.none_waits on.walked);
      strength = on.strength;
      variable = on.variable;
    }

-- ---- the characters that are passed

none-first : (ps qs : List Item) (x : Item) → ◌≡◌ {A = List Item} [] (ps ++ x ∷ qs) → ⊥
none-first [] qs x e = cc
none-first (p ∷ ps) qs x e = cc

-- there are some
pub some-passed : (table : TableMap) (pattern : Compiled) (start last next : ℕ) (cs : List ℕ) → IsPassed table pattern start last cs next → (c : ℕ) × (others : List ℕ) × (cs ≡ c ∷ others)
some-passed table pattern start last next [] p =
    let none : units table (ordered_from start []) ≡ [] = ap (units table) (ordered_none start) in
    absurd (none-first p.before (map (λ key. Element key) p.keys) (ClusterStart last)
    (sym (ap (items_of table pattern.strength pattern.variable false) none) ∙ p.items))
some-passed table pattern start last next (c ∷ others) p = (c, others, refl)

one_len : (c : ℕ) → byte_len (c ∷ []) ≡ len_utf8 c
unfolding byte_len
one_len c = omega arith

-- text at the front of a piece that begins with a character
pub begins-whole : (piece : List ℕ) (n c d : ℕ) (others : List ℕ) → n ≤ length piece → IsUtf8 (take n piece) → chars (take n piece) ≡ d ∷ others → len_utf8 c ≤ length piece → SpellsCharacter (take (len_utf8 c) piece) c →
    (len_utf8 c ≤ n) × ((others : List ℕ) × (chars (take n piece) ≡ c ∷ others))
begins-whole piece n c d others within text is long spelled = elim (cases_lt n (len_utf8 c)) [
  | inl less ↦
      let one = one_char (take (len_utf8 c) piece) c spelled in
      let up : n + (len_utf8 c - n) ≡ len_utf8 c = omega (arith, less) in
      let rest = chars (take (len_utf8 c - n) (drop n piece)) in
      let all : (d ∷ others) ++ rest ≡ c ∷ [] =
      ap (λ (t : List ℕ). t ++ rest) (sym is) ∙ sym (chars-more piece n (len_utf8 c - n) text) ∙ ap (λ k. chars (take k piece)) up ∙ one.1 in
      let bytes : byte_len (d ∷ others) ≡ n = ap byte_len (sym is) ∙ chars-len piece n within text in
      let same = only d c others rest all in
      absurd (omega (arith, less, bytes, ap byte_len same, one_len c))
  | inr more ↦
      let one = one_char (take (len_utf8 c) piece) c spelled in
      let up : len_utf8 c + (n - len_utf8 c) ≡ n = omega (arith, more) in (
        more,
        (
          chars (take (n - len_utf8 c) (drop (len_utf8 c) piece)),
          ap (λ k. chars (take k piece)) (sym up) ∙ chars-more piece (len_utf8 c) (n - len_utf8 c) one.0
              ∙ ap (λ (t : List ℕ). t ++ chars (take (n - len_utf8 c) (drop (len_utf8 c) piece))) one.1,
        ),
      )
]
  where
    only : (d c : ℕ) (others rest : List ℕ) → (d ∷ others) ++ rest ≡ c ∷ [] → d ∷ others ≡ c ∷ []
    only d c [] rest e = let same : d ≡ c = cc in ap (λ k. k ∷ []) same
    only d c (o ∷ others) rest e = cc
