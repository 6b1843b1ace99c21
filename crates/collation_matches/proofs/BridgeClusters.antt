-- Clusters by their places: the boundary at a place, the keys before it, whether the cluster there has keys.
use Rattle.std.proofs.Common.{◌≡◌, ℕ, zero, suc, ◌<◌, ◌≤◌, Bool, true, false, List, [], ◌∷◌, ◌++◌, length, take, drop, refl, ap, ◌∙◌, arith, inl, inr, length-append, ltb-true}
use Rattle.std.proofs.lemmas.Bool.{ltb-false}
use Rattle.std.proofs.lemmas.List.{append-nil}
use Rattle.collation_elements.specs.declared.keys.Key.{Key}
use Rattle.collation_elements.specs.Clusters.{Cluster, starts, start_or, joined}
use Rattle.collation_matches.specs.ByClusters.{has_keys, last_has_keys}
use Rattle.collation_matches.proofs.BridgeLists.{In, Rising}
use Rattle.collation_matches.proofs.BridgeRanges.{Below}

-- the boundary at a place
abbrev pub bound : ℕ → List Cluster → ℕ → ℕ
bound end cs i = start_or end (drop i cs)

-- the keys before it
abbrev pub prefix : List Cluster → ℕ → List Key
prefix cs i = joined (take i cs)

-- the cluster at a place has keys
abbrev pub keyed : List Cluster → ℕ → Bool
keyed [] i = false
keyed (c ∷ cs) zero = has_keys c
keyed (c ∷ cs) (suc i) = keyed cs i

pub last_keyed : (cs : List Cluster) (j : ℕ) → j < length cs → last_has_keys (take (suc j) cs) ≡ keyed cs j
last_keyed [] j h = absurd (omega arith)
last_keyed (c ∷ cs) zero h = refl
last_keyed (c ∷ []) (suc j) h = absurd (omega arith)
last_keyed (c ∷ d ∷ cs) (suc j) h = let k : j < length (d ∷ cs) = omega arith in last_keyed (d ∷ cs) j k

pub in_bounds : (end : ℕ) (cs : List Cluster) (b : ℕ) → In (starts cs ++ end ∷ []) b → (i : ℕ) × (i ≤ length cs) × (bound end cs i ≡ b)
in_bounds end [] b (inl e) = (0, omega arith, e)
in_bounds end [] b (inr h) = absurd h
in_bounds end (c ∷ cs) b (inl e) = (0, omega arith, e)
in_bounds end (c ∷ cs) b (inr h) = let r = in_bounds end cs b h in (suc r.0, omega (arith, r.1), r.2)

pub bound_in : (end : ℕ) (cs : List Cluster) (i : ℕ) → In (starts cs ++ end ∷ []) (bound end cs i)
bound_in end [] zero = inl refl
bound_in end [] (suc i) = inl refl
bound_in end (c ∷ cs) zero = inl refl
bound_in end (c ∷ cs) (suc i) = inr (bound_in end cs i)

pub bound_rises : (end : ℕ) (cs : List Cluster) (i j : ℕ) → Rising Below (starts cs ++ end ∷ []) → i < j → j ≤ length cs → bound end cs i < bound end cs j
bound_rises end [] i j r a b = absurd (omega arith)
bound_rises end (c ∷ cs) i zero r a b = absurd (omega arith)
bound_rises end (c ∷ cs) zero (suc j) r a b = r.0 (bound end cs j) (bound_in end cs j)
bound_rises end (c ∷ cs) (suc i) (suc j) r a b = bound_rises end cs i j r.1 (omega arith) (omega arith)

pub prefix_grows : (cs : List Cluster) (i j : ℕ) → i ≤ j → length (prefix cs i) ≤ length (prefix cs j)
prefix_grows cs zero j h = omega arith
prefix_grows [] (suc i) j h = omega arith
prefix_grows (c ∷ cs) (suc i) zero h = absurd (omega arith)
prefix_grows (c ∷ cs) (suc i) (suc j) h =
    let rest = prefix_grows cs i j (omega arith) in
    omega (arith, rest, length-append c.keys (prefix cs i), length-append c.keys (prefix cs j))

pub prefix_keyed : (cs : List Cluster) (i : ℕ) → keyed cs i ≡ true → length (prefix cs i) < length (prefix cs (suc i))
prefix_keyed [] i h = cc
prefix_keyed (c ∷ cs) zero h = let some = ltb-true 0 (length c.keys) h in omega (arith, some, length-append c.keys [])
prefix_keyed (c ∷ cs) (suc i) h =
    let rest = prefix_keyed cs i h in
    omega (arith, rest, length-append c.keys (prefix cs i), length-append c.keys (prefix cs (suc i)))

none_when_empty : (ks : List Key) → length ks ≤ 0 → ks ≡ []
none_when_empty [] h = refl
none_when_empty (k ∷ ks) h = absurd (omega arith)

pub prefix_unkeyed : (cs : List Cluster) (i : ℕ) → keyed cs i ≡ false → prefix cs (suc i) ≡ prefix cs i
prefix_unkeyed [] zero h = refl
prefix_unkeyed [] (suc i) h = refl
prefix_unkeyed (c ∷ cs) zero h = append-nil c.keys ∙ none_when_empty c.keys (ltb-false 0 (length c.keys) h)
prefix_unkeyed (c ∷ cs) (suc i) h = ap (λ ks. c.keys ++ ks) (prefix_unkeyed cs i h)
