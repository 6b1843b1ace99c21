-- How the paged index of a table finds a mapped string: the first code point by pages, each further one by a step from a node
-- of a trie. Node 0 is the root.
use Rattle.std.specs.Prelude.{◌≡◌, ℕ, zero, suc, ◌/◌, ◌%◌, ◌<◌, ◌≤◌, Bool, false, List, [], ◌∷◌, ◌++◌, Option, Some, None, Vec, slice_get, get_or, length}
use Rattle.std.specs.declared.cmp.Ordering.{Ordering}
use Rattle.std.specs.Ordering.{nat_cmp, ordering_then}
use Rattle.std.specs.BTreeMap.{BTreeMap, get}
use Rattle.collation_table.specs.declared.pages.Place.{Place}
use Rattle.collation_table.specs.declared.pages.Entry.{Entry}
use Rattle.collation_table.specs.declared.pages.PageEntry.{PageEntry}
use Rattle.collation_table.specs.declared.first_steps.FirstStep.{FirstStep}
use Rattle.collation_table.specs.declared.trie.Trie.{Trie}
use Rattle.collation_table.specs.Spelling.{◌>>=◌}

abbrev pub no_entry : Entry
no_entry = record { place = None; node = None }

abbrev pub no_page_entry : PageEntry
no_page_entry = record { entry = no_entry; continues = false }

abbrev pub in_page : {A : Type 0} → Option (Vec PageEntry A) → ℕ → PageEntry
in_page None i = no_page_entry
in_page (Some page) i = get_or page.items i no_page_entry

-- what the pages have for a code point
abbrev pub page_entry : {A : Type 0} → List (Vec PageEntry A) → ℕ → PageEntry
page_entry pages cp = in_page (slice_get pages (cp / 256)) (cp % 256)

abbrev pub step_cmp : ℕ × ℕ → ℕ × ℕ → Ordering
step_cmp x y = ordering_then (nat_cmp x.0 y.0) (nat_cmp x.1 y.1)

abbrev pub or_no_entry : Option Entry → Entry
or_no_entry None = no_entry
or_no_entry (Some e) = e

-- where the code point leads after a node
abbrev pub step_at : {A : Type 0} → List (Vec PageEntry A) → BTreeMap (ℕ × ℕ) Entry → ℕ → ℕ → Entry
step_at pages steps zero cp = (page_entry pages cp).entry
step_at pages steps (suc n) cp = or_no_entry (get step_cmp steps (suc n, cp))

abbrev pub at : Trie → ℕ → ℕ → Entry
at t = step_at t.pages.pages.items t.steps

abbrev pub continues : Trie → ℕ → Bool
continues t cp = (page_entry t.pages.pages.items cp).continues

-- ---- mapped strings, by any steps E

-- the place of the mapped string that ends after e with these code points
abbrev pub seek : (ℕ → ℕ → Entry) → Entry → List ℕ → Option Place
seek E e [] = e.place
seek E e (cp ∷ cps) = e.node >>= λ n. seek E (E n cp) cps

-- the place of the mapped string with these code points after a node
abbrev pub place_from : (ℕ → ℕ → Entry) → ℕ → List ℕ → Option Place
place_from E n [] = None
place_from E n (cp ∷ cps) = seek E (E n cp) cps

abbrev pub place_of : Trie → List ℕ → Option Place
place_of t string = place_from (at t) 0 string

-- these code points lead from the node s to the node t
abbrev pub Leads : (ℕ → ℕ → Entry) → ℕ → List ℕ → ℕ → Type 0
Leads E s [] t = s ≡ t
Leads E s (cp ∷ cps) t = (n : ℕ) × ((E s cp).node ≡ Some n) × Leads E n cps t

-- Nodes up to `count` are in use. Each has the code points that lead to it as its label, so no two ways lead to one node.
pub record IsTrieOf (E : ℕ → ℕ → Entry) (count : ℕ) : Type 0 where
  pub label : ℕ → List ℕ
  pub root : label 0 ≡ []
  pub some_root : 0 < count
  pub labels : (s cp n : ℕ) → (E s cp).node ≡ Some n → label n ≡ label s ++ cp ∷ []
  pub below : (s cp n : ℕ) → (E s cp).node ≡ Some n → (0 < n) × (n < count)
  pub fresh : (s cp : ℕ) → count ≤ s → E s cp ≡ no_entry

-- the code points with which a step after a node is taken are marked
abbrev pub IsMarked : Trie → Type 0
IsMarked t = (s cp : ℕ) → 0 < s → continues t cp ≡ false → at t s cp ≡ no_entry

-- what is known of the steps E from a node by the one that was set first
pub record IsFirst (E : ℕ → ℕ → Entry) (node : ℕ) (first : FirstStep) : Type 0 where
  pub here : E node first.cp ≡ first.entry
  pub others : first.others ≡ false → (cp : ℕ) → ((cp ≡ first.cp) → ⊥) → E node cp ≡ no_entry

abbrev pub no_first_step : FirstStep
no_first_step = record { entry = no_entry; cp = 0; others = false }

abbrev pub first_of : List FirstStep → ℕ → FirstStep
first_of firsts node = get_or firsts node no_first_step

-- the first steps agree with the steps E from all nodes but the root
abbrev pub AreFirst : (ℕ → ℕ → Entry) → List FirstStep → Type 0
AreFirst E firsts = (node : ℕ) → 0 < node → IsFirst E node (first_of firsts node)

abbrev pub HasFirst : Trie → Type 0
HasFirst t = AreFirst (at t) t.firsts.steps.items

pub record IsTrie (t : Trie) : Type 0 where
  pub steps : IsTrieOf (at t) t.nodes
  pub marked : IsMarked t
  pub firsts : HasFirst t

-- F has e at the step with c after s, and all else as E
pub record IsSet (E F : ℕ → ℕ → Entry) (s c : ℕ) (e : Entry) : Type 0 where
  pub hit : F s c ≡ e
  pub miss : (t d : ℕ) → ((t ≡ s) → (d ≡ c) → ⊥) → F t d ≡ E t d

-- there is a page for the code point, with a place for it
pub record HasRoom {A : Type 0} (pages : List (Vec PageEntry A)) (cp : ℕ) : Type 0 where
  pub page : cp / 256 < length pages
  pub place : (w : Vec PageEntry A) → slice_get pages (cp / 256) ≡ Some w → cp % 256 < length w.items
