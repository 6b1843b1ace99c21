-- What a walk over some items of a text represents: the ranges that end with the clusters that have ended, and where the last keys
-- stand.
use Rattle.std.specs.Prelude.{◌≡◌, ℕ, ◌≤◌, true, List, [], ◌∷◌, ◌++◌, length, map, if◌then◌else◌}
use Rattle.circular_buffer.specs.Buffer.{keep_last}
use Rattle.collation_elements.specs.declared.keys.Key.{Key}
use Rattle.collation_elements.specs.declared.keys.Item.{Item}
use Rattle.collation_elements.specs.declared.keys.Item.TheVariants.{ClusterStart, Element}
use Rattle.collation_elements.specs.Clusters.{Cluster, clusters_from}
use Rattle.collation_pattern.specs.Border.{border}
use Rattle.collation_pattern.specs.Compiled.{Compiled}
use Rattle.collation_letters.specs.declared.letter.Role.{Role}
use Rattle.collation_letters.specs.Letters.{begins_cluster}
use Rattle.collation_matches.specs.ByClusters.{PlacedKey}
use Rattle.collation_walk.specs.declared.walk.KeyPlace.{KeyPlace}
use Rattle.collation_walk.specs.declared.walk.Walk.{Walk}
use Rattle.collation_matches.specs.Selecting.{selected, remembered}
use Rattle.collation_matches.specs.ByClusters.{text_begin, has_keys, found, placed}

-- where a key stands, without the key
abbrev pub place_of : PlacedKey → KeyPlace
place_of k = record { start = k.start; is_first = k.is_first }

-- the items of a letter: the start of a cluster at an offset, if one begins there, and its keys
abbrev pub letter_items : Role → ℕ → List Key → List Item
letter_items role start keys = (if begins_cluster role then ClusterStart start ∷ [] else []) ++ map (λ key. Element key) keys

-- a walk that has passed text by: it stands in a cluster with a key, which starts at this offset, and no key waits
abbrev pub passed_to : Walk → ℕ → Walk
passed_to walk start = record walk { state = 0; start = start; has_keys = true }

-- what a walk keeps while it goes on: no more keys wait than the pattern has, and the kind of ranges and the room for places are as before
pub record KeepsWalk (pattern : Compiled) (old new : Walk) : Type 0 where
  pub state : new.state ≤ length pattern.keys
  pub select : new.select ≡ old.select
  pub room : new.places.capacity ≡ old.places.capacity

-- A walk over these items by this pattern, which has handed out these ranges: with any items that follow, the clusters are
-- those `before`, which have ended, and those from the current one on. The ranges are those that end with one of the former, or
-- the chain of them. Of the last keys it has where they stand, of as many as the state says at least.
pub record WalksOver (pattern : List Key) (items : List Item) (ranges : List (ℕ × ℕ)) (walk : Walk) : Type 0 where
  pub before : List Cluster
  pub current : Cluster
  pub clusters : (rest : List Item) → clusters_from text_begin (items ++ rest) ≡ before ++ clusters_from current rest
  pub start : walk.start ≡ current.start
  pub has_keys : walk.has_keys ≡ Rattle.collation_matches.specs.ByClusters.has_keys current
  pub state : walk.state ≡ border pattern (map (λ k. k.key) (placed (before ++ current ∷ [])))
  pub capacity : walk.places.capacity ≡ length pattern
  pub few : length walk.places.items ≤ length pattern
  pub places : keep_last walk.state walk.places.items ≡ keep_last walk.state (map place_of (placed (before ++ current ∷ [])))
  pub handed_out : ranges ≡ selected walk.select (found pattern before current.start)
  pub last_end : walk.last_end ≡ remembered walk.select ranges

-- Further items went through a walk, and further ranges came out.
abbrev pub WalksOn : Compiled → Walk → Walk → List Item → List (ℕ × ℕ) → Type 0
WalksOn pattern old new further found =
    (items : List Item) (ranges : List (ℕ × ℕ)) → WalksOver pattern.keys items ranges old → WalksOver pattern.keys (items ++ further) (ranges ++ found) new

-- The same, where the ranges were put behind those that a list held before.
abbrev pub WalksInto : Compiled → Walk → Walk → List Item → List (ℕ × ℕ) → List (ℕ × ℕ) → Type 0
WalksInto pattern old new further before found =
    (items : List Item) (ranges : List (ℕ × ℕ)) → WalksOver pattern.keys items (ranges ++ before) old → WalksOver pattern.keys (items ++ further) (ranges ++ found) new
