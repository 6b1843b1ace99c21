-- The last range of a chain that was handed out ends at or before the start of the current cluster.
use Rattle.std.proofs.Common.{ℕ, zero, suc, ◌≤◌, nat_le, List, [], ◌∷◌, length, refl, sym, subst, arith, inl, inr}
use Rattle.std.proofs.lemmas.Bool.{cases_Bool, cond-true, cond-false}
use Rattle.collation_elements.specs.declared.keys.Key.{Key}
use Rattle.collation_elements.specs.declared.keys.Item.{Item}
use Rattle.collation_elements.specs.Clusters.{Cluster, starts}
use Rattle.collation_matches.specs.declared.select.Select.{Select}
use Rattle.collation_matches.specs.declared.select.Select.TheVariants.{All, Chain}
use Rattle.collation_walk.specs.declared.walk.Walk.{Walk}
use Rattle.collation_matches.specs.ByClusters.{found}
use Rattle.collation_matches.specs.Selecting.{chain_after, selected, end_after, remembered}
use Rattle.collation_walk.specs.Walks.{WalksOver}
use Rattle.collation_matches.proofs.BridgeClusters.{bound}
use Rattle.collation_matches.proofs.BridgeFound.{in_found}
use Rattle.collation_matches.proofs.BridgeLists.{In}

-- each of these clusters starts at `most` or before
abbrev pub StartBy : ℕ → List Cluster → Type 0
StartBy most cs = (start : ℕ) → In (starts cs) start → start ≤ most

-- each of these ranges ends at `most` or before
abbrev pub EndBy : ℕ → List (ℕ × ℕ) → Type 0
EndBy most ranges = (range : ℕ × ℕ) → In ranges range → range.1 ≤ most

bound-by : (end : ℕ) (cs : List Cluster) (i : ℕ) → StartBy end cs → bound end cs i ≤ end
bound-by end [] zero h = omega arith
bound-by end [] (suc i) h = omega arith
bound-by end (c ∷ cs) zero h = h c.start (inl refl)
bound-by end (c ∷ cs) (suc i) h = bound-by end cs i (λ start there. h start (inr there))

found-end_by : (pattern : List Key) (cs : List Cluster) (end : ℕ) → StartBy end cs → EndBy end (found pattern cs end)
found-end_by pattern cs end h range there =
    let spans = in_found pattern end cs (length cs) range (omega arith) there in
    let s = spans.0 in
    subst (λ (r : ℕ × ℕ). r.1 ≤ end) s.is (bound-by end cs (suc s.upto) h)

-- ---- a selection

in_chain : (end : ℕ) (ranges : List (ℕ × ℕ)) (range : ℕ × ℕ) → In (chain_after end ranges) range → In ranges range
in_chain end [] range h = absurd h
in_chain end (first ∷ ranges) range h =
    let taken = first ∷ chain_after first.1 ranges in
    let passed = chain_after end ranges in
    elim (cases_Bool (nat_le end first.0)) [
      | inl begins_after ↦
          elim (subst (λ (l : List (ℕ × ℕ)). In l range) (cond-true (nat_le end first.0) taken passed begins_after) h) [
            | inl e ↦ inl e
            | inr later ↦ inr (in_chain first.1 ranges range later)
          ]
      | inr overlaps ↦ inr (in_chain end ranges range (subst (λ (l : List (ℕ × ℕ)). In l range) (cond-false (nat_le end first.0) taken passed overlaps) h))
    ]

selected-end_by : (select : Select) (most : ℕ) (ranges : List (ℕ × ℕ)) → EndBy most ranges → EndBy most (selected select ranges)
selected-end_by All most ranges h = h
selected-end_by Chain most ranges h = λ range there. h range (in_chain 0 ranges range there)

end_after-by : (most end : ℕ) (ranges : List (ℕ × ℕ)) → end ≤ most → EndBy most ranges → end_after end ranges ≤ most
end_after-by most end [] below h = below
end_after-by most end (first ∷ ranges) below h = end_after-by most first.1 ranges (h first (inl refl)) (λ range there. h range (inr there))

remembered-by : (select : Select) (most : ℕ) (ranges : List (ℕ × ℕ)) → EndBy most ranges → remembered select ranges ≤ most
remembered-by All most ranges h = omega arith
remembered-by Chain most ranges h = end_after-by most 0 ranges (omega arith) h

-- ---- a walk

pub walks-last_end : (pattern : List Key) (items : List Item) (ranges : List (ℕ × ℕ)) (w : Walk) → (h : WalksOver pattern items ranges w) → StartBy h.current.start h.before → w.last_end ≤ w.start
walks-last_end pattern items ranges w h starts_by =
    let all = found pattern h.before h.current.start in
    let ends = selected-end_by w.select h.current.start all (found-end_by pattern h.before h.current.start starts_by) in
    let by = remembered-by w.select h.current.start ranges (subst (EndBy h.current.start) (sym h.handed_out) ends) in
    omega (arith, by, h.last_end, h.start)
