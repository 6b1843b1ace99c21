-- How a walk goes on by the symbols of keys.
use Rattle.std.proofs.Common.{◌≡◌, ◌∙◌, ◌≢◌, ℕ, zero, suc, ◌-◌, ◌<◌, Bool, true, false, List, [], ◌∷◌, ◌++◌, length, map, drop, refl, sym, ap, ap₂, subst, arith, append_assoc, length-append}
use Rattle.std.proofs.Math.Seq.{drop-length}
use Rattle.std.proofs.lemmas.Bool.{cond-true, lt-ltb, ne_eqb}
use Rattle.std.proofs.lemmas.List.{append-nil, map-append}
use Rattle.circular_buffer.specs.Buffer.{keep_last}
use Rattle.collation_elements.specs.declared.keys.Key.{Key}
use Rattle.collation_elements.specs.declared.keys.Item.{Item}
use Rattle.collation_elements.specs.declared.keys.Item.TheVariants.{ClusterStart, Element}
use Rattle.collation_elements.specs.Clusters.{Cluster, clusters_from}
use Rattle.collation_pattern.specs.Border.{border}
use Rattle.collation_letters.specs.declared.symbols.Symbols.{Symbols}
use Rattle.collation_letters.specs.Symbols.{IsSymbol, AreLastSymbols, IsLastSymbol, NothingWaitsBehindForeignKeys, SymbolsAreListed, SymbolsComeInTurn, is_symbol, listed, some_symbol}
use Rattle.collation_matches.specs.ByClusters.{PlacedKey, text_begin, placed, placed_at}
use Rattle.collation_matches.specs.Selecting.{selected, remembered}
use Rattle.collation_walk.specs.declared.walk.Walk.{Walk}
use Rattle.collation_walk.specs.Walks.{place_of, WalksOver}
use Rattle.collation_matches.proofs.SelectingLemmas.{selected_after-nil}
use Rattle.collation_walk.proofs.WalkSteps.{found_before, placed-last, walks-end_short, walks-select, walks-start}

abbrev key_of : PlacedKey → Key
key_of k = k.key

pub none_kept : {A : Type 0} (n : ℕ) (xs : List A) → n ≡ 0 → keep_last n xs ≡ []
none_kept n xs none =
    let all : length xs - n ≡ length xs = omega (arith, none) in ap (λ i. drop i xs) all ∙ drop-length xs

-- ---- keys of the current cluster

clusters-keys : (c : Cluster) (ks : List Key) (rest : List Item) → clusters_from c (map (λ key. Element key) ks ++ rest) ≡ clusters_from (record { start = c.start; keys = c.keys ++ ks }) rest
clusters-keys c [] rest = ap (λ (ks : List Key). clusters_from (record { start = c.start; keys = ks }) rest) (sym (append-nil c.keys))
clusters-keys c (k ∷ ks) rest =
    clusters-keys (record { start = c.start; keys = c.keys ++ k ∷ [] }) ks rest
    ∙ ap (λ (ls : List Key). clusters_from (record { start = c.start; keys = ls }) rest) (append_assoc c.keys (k ∷ []) ks)

placed_at-keys : (start : ℕ) (first : Bool) (ks : List Key) → map key_of (placed_at start first ks) ≡ ks
placed_at-keys start first [] = refl
placed_at-keys start first (k ∷ ks) = ap (λ (ls : List Key). k ∷ ls) (placed_at-keys start false ks)

-- ---- keys after which nothing waits

pub walks-none : (pattern : List Key) (items : List Item) (ranges : List (ℕ × ℕ)) (keys left_out : List Key) (key : Key) (w v : Walk) → keys ≡ left_out ++ key ∷ [] →
    ((ks : List Key) → border pattern ks ≡ w.state → 0 ≡ border pattern ((ks ++ left_out) ++ key ∷ [])) → WalksOver pattern items ranges w → v.start ≡ w.start → v.has_keys ≡ true → v.state ≡ 0 → v.places ≡ w.places → v.select ≡ w.select → v.last_end ≡ w.last_end →
    WalksOver pattern (items ++ map (λ k. Element k) keys) ranges v
walks-none pattern items ranges keys left_out key w v are waits h at some none places select last_end =
    let longer : Cluster = record { start = h.current.start; keys = h.current.keys ++ keys } in
    let ks = placed (h.before ++ longer ∷ []) in
    let before = map key_of (placed h.before) in
    let all : map key_of ks ≡ (before ++ (h.current.keys ++ left_out)) ++ key ∷ [] =
    ap (map key_of) (placed-last h.before longer) ∙ map-append key_of (placed h.before) (placed_at h.current.start true longer.keys)
    ∙ ap (λ (l : List Key). before ++ l) (placed_at-keys h.current.start true longer.keys ∙ ap (λ (l : List Key). h.current.keys ++ l) are ∙ sym (append_assoc h.current.keys left_out (key ∷ [])))
    ∙ sym (append_assoc before (h.current.keys ++ left_out) (key ∷ [])) in
    let so_far : map key_of (placed (h.before ++ h.current ∷ [])) ≡ before ++ h.current.keys =
    ap (map key_of) (placed-last h.before h.current) ∙ map-append key_of (placed h.before) (placed_at h.current.start true h.current.keys)
    ∙ ap (λ (l : List Key). before ++ l) (placed_at-keys h.current.start true h.current.keys) in
    let state : v.state ≡ border pattern (map key_of ks) =
    none ∙ waits (before ++ h.current.keys) (sym (h.state ∙ ap (border pattern) so_far))
    ∙ ap (λ (l : List Key). border pattern (l ++ key ∷ [])) (append_assoc before h.current.keys left_out) ∙ ap (border pattern) (sym all) in
    let many = ap (λ (l : List Key). length l) are ∙ length-append left_out (key ∷ []) in
    record {
      before = h.before;
      current = longer;
      clusters = λ rest.
          ap (clusters_from text_begin) (append_assoc items (map (λ k. Element k) keys) rest) ∙ h.clusters (map (λ k. Element k) keys ++ rest)
          ∙ ap (λ (cs : List Cluster). h.before ++ cs) (clusters-keys h.current keys rest);
      start = at ∙ h.start;
      has_keys = some ∙ sym (lt-ltb 0 (length longer.keys) (omega (arith, many, length-append h.current.keys keys)));
      state = state;
      capacity = ap (λ b. b.capacity) places ∙ h.capacity;
      few = omega (arith, ap (λ b. length b.items) places, h.few);
      places = none_kept v.state v.places.items none ∙ sym (none_kept v.state (map place_of ks) none);
      handed_out = h.handed_out ∙ sym (ap (λ t. selected t (found_before h)) select);
      last_end = last_end ∙ h.last_end ∙ sym (ap (λ t. remembered t ranges) select);
    }

-- ---- the symbols of a letter

pub one-symbol : (n : ℕ) → n < 255 → some_symbol n ≡ n ∷ []
one-symbol n less = cond-true (is_symbol n) (n ∷ []) [] (lt-ltb n 255 less)

pub no-symbol : (n : ℕ) → n ≡ 255 → some_symbol n ≡ []
no-symbol n none = ap some_symbol none

-- those of a plain letter
pub plain-listed : SymbolsAreListed → (s : Symbols) → s.first ≡ 255 → s.second ≡ 255 → listed s ≡ some_symbol s.third
plain-listed law s one two = law s ∙ ap₂ (λ (x y : List ℕ). x ++ (y ++ some_symbol s.third)) (no-symbol s.first one) (no-symbol s.second two)

pub one-key : (pattern keys : List Key) (n : ℕ) → n ≢ 0 → (last : IsLastSymbol pattern keys n) → keys ≡ last.key ∷ []
one-key pattern keys n known last = last.keys_are ∙ ap (λ (l : List Key). l ++ last.key ∷ []) (last.cut known)

-- a key that the pattern does not have, or one after which nothing has matched
pub nothing-waits : NothingWaitsBehindForeignKeys → (pattern keys : List Key) (symbol state : ℕ) → (last : IsLastSymbol pattern keys symbol) →
    ((ks : List Key) (key : Key) → IsSymbol pattern key symbol → border pattern ks ≡ state → 0 ≡ border pattern (ks ++ key ∷ [])) →
    (ks : List Key) → border pattern ks ≡ state → 0 ≡ border pattern ((ks ++ last.left_out) ++ last.key ∷ [])
nothing-waits law pattern keys zero state last moves = λ ks at. law pattern (ks ++ last.left_out) last.key last.symbol_is
nothing-waits law pattern keys (suc n) state last moves = λ ks at.
    let none : last.left_out ≡ [] = last.cut (λ e. absurd (omega (arith, e))) in
    moves ks last.key last.symbol_is at ∙ ap (λ (l : List Key). border pattern (l ++ last.key ∷ [])) (sym (ap (λ (l : List Key). ks ++ l) none ∙ append-nil ks))

-- what one of its three places does
abbrev pub TakesSymbol : List Key → ℕ → Walk → Walk → Type 0
TakesSymbol pattern symbol w v =
    (items : List Item) (ranges : List (ℕ × ℕ)) (keys : List Key) → AreLastSymbols pattern keys (some_symbol symbol) → WalksOver pattern items ranges w →
    WalksOver pattern (items ++ map (λ key. Element key) keys) ranges v

three_lists : {A : Type 0} (xs ys bs cs : List A) → ((xs ++ ys) ++ bs) ++ cs ≡ xs ++ (ys ++ (bs ++ cs))
three_lists xs ys bs cs = append_assoc (xs ++ ys) bs cs ∙ append_assoc xs ys (bs ++ cs)

pub walks-symbols : SymbolsAreListed → SymbolsComeInTurn → (pattern : List Key) (s : Symbols) (w a b v : Walk) → TakesSymbol pattern s.first w a → TakesSymbol pattern s.second a b → TakesSymbol pattern s.third b v →
    (items : List Item) (ranges : List (ℕ × ℕ)) (keys : List Key) → AreLastSymbols pattern keys (listed s) → WalksOver pattern items ranges w → WalksOver pattern (items ++ map (λ key. Element key) keys) ranges v
walks-symbols are turn pattern s w a b v first second third items ranges keys h walks =
    let F : List Key → List Item = λ ks. map (λ key. Element key) ks in
    let one = turn pattern keys s.first (some_symbol s.second ++ some_symbol s.third) (subst (λ l. AreLastSymbols pattern keys l) (are s) h) in
    let two = turn pattern one.later s.second (some_symbol s.third) one.later_are in
    let all : F keys ≡ F one.first ++ (F two.first ++ F two.later) =
    ap F (one.keys_are ∙ ap (λ (l : List Key). one.first ++ l) two.keys_are) ∙ map-append (λ key. Element key) one.first (two.first ++ two.later)
    ∙ ap (λ (l : List Item). F one.first ++ l) (map-append (λ key. Element key) two.first two.later) in
    subst (λ (is : List Item). WalksOver pattern is ranges v) (three_lists items (F one.first) (F two.first) (F two.later) ∙ ap (λ (l : List Item). items ++ l) (sym all))
    (third ((items ++ F one.first) ++ F two.first) ranges two.later two.later_are
    (second (items ++ F one.first) ranges two.first two.first_are (first items ranges one.first one.first_are walks)))

-- ---- a cluster at whose start no range ends

pub walks-begin_none : (pattern : List Key) (items : List Item) (ranges : List (ℕ × ℕ)) (start : ℕ) (w : Walk) → (start ≡ 0 → ⊥) → (w.state ≡ length pattern → ⊥) → WalksOver pattern items ranges w →
    WalksOver pattern (items ++ ClusterStart start ∷ []) (ranges ++ []) (record w { start = start; has_keys = false })
walks-begin_none pattern items ranges start w later short h =
    let v : Walk = record w { start = start; has_keys = false } in
    walks-start pattern items ranges [] start w v h (ne_eqb start 0 later) refl refl refl refl refl
    (h.last_end ∙ ap (remembered w.select) (sym (append-nil ranges)))
    (ap (λ (rs : List (ℕ × ℕ)). ranges ++ rs) (sym (selected_after-nil w.select w.last_end)) ∙ walks-select pattern items ranges [] w start h (walks-end_short pattern items ranges w start short h))
