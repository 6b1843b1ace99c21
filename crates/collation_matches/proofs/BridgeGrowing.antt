-- One cluster more leaves the ranges found as they are and appends its own, of which there is at most one.
use Rattle.std.proofs.Common.{◌≡◌, ℕ, zero, suc, ◌+◌, ◌-◌, ◌≤◌, List, [], ◌∷◌, ◌++◌, length, take, drop, refl, sym, ap, ◌∙◌, arith, length-append, append_assoc}
use Rattle.std.proofs.lemmas.List.{append-nil}
use Rattle.collation_elements.specs.declared.keys.Key.{Key}
use Rattle.collation_elements.specs.Clusters.{Cluster, start_or}
use Rattle.collation_matches.specs.ByClusters.{ended, found_within, found, found_before_last}
use Rattle.collation_matches.specs.ByClustersLaws.{one_cluster_more, last_cluster_left_out, found_ranges_stay}

pub take_prefix : {A : Type 0} (n : ℕ) (xs ys : List A) → n ≤ length xs → take n (xs ++ ys) ≡ take n xs
take_prefix zero xs ys h = refl
take_prefix (suc n) [] ys h = absurd (omega arith)
take_prefix (suc n) (x ∷ xs) ys h = ap (λ zs. x ∷ zs) (take_prefix n xs ys (omega arith))

pub take_all : {A : Type 0} (xs : List A) → take (length xs) xs ≡ xs
take_all [] = refl
take_all (x ∷ xs) = ap (λ zs. x ∷ zs) (take_all xs)

pub drop_all : {A : Type 0} (xs : List A) → drop (length xs) xs ≡ []
drop_all [] = refl
drop_all (x ∷ xs) = drop_all xs

bound_prefix : (end : ℕ) (cs : List Cluster) (c : Cluster) (ds : List Cluster) (n : ℕ) → n ≤ length cs → start_or end (drop n (cs ++ c ∷ ds)) ≡ start_or c.start (drop n cs)
bound_prefix end [] c ds zero h = refl
bound_prefix end [] c ds (suc n) h = absurd (omega arith)
bound_prefix end (x ∷ xs) c ds zero h = refl
bound_prefix end (x ∷ xs) c ds (suc n) h = bound_prefix end xs c ds n (omega arith)

-- the ranges that end with the first n clusters are those of any clusters that follow
pub found_within-prefix : (pattern : List Key) (cs : List Cluster) (c : Cluster) (ds : List Cluster) (end n : ℕ) → n ≤ length cs →
    found_within pattern (cs ++ c ∷ ds) end n ≡ found_within pattern cs c.start n
found_within-prefix pattern cs c ds end zero h = refl
found_within-prefix pattern cs c ds end (suc n) h =
    let before = found_within-prefix pattern cs c ds end n (omega arith) in
    let clusters = take_prefix (suc n) cs (c ∷ ds) h in
    let ends = bound_prefix end cs c ds (suc n) h in
    cc

pub found-prefix : (pattern : List Key) (cs : List Cluster) (c : Cluster) (ds : List Cluster) (end : ℕ) →
    found_within pattern (cs ++ c ∷ ds) end (length cs) ≡ found pattern cs c.start
found-prefix pattern cs c ds end = found_within-prefix pattern cs c ds end (length cs) (omega arith)

found_within-all : (pattern : List Key) (cs : List Cluster) (end n : ℕ) → length cs ≡ suc n →
    found pattern cs end ≡ found_within pattern cs end n ++ ended pattern cs end
found_within-all pattern cs end n h =
    let whole : take (suc n) cs ≡ cs = ap (λ k. take k cs) (sym h) ∙ take_all cs in
    let rest : drop (suc n) cs ≡ [] = ap (λ k. drop k cs) (sym h) ∙ drop_all cs in
    ap (λ k. found_within pattern cs end k) h
    ∙ ap (λ (ds : List Cluster). found_within pattern cs end n ++ ended pattern ds (start_or end (drop (suc n) cs))) whole
    ∙ ap (λ (ds : List Cluster). found_within pattern cs end n ++ ended pattern cs (start_or end ds)) rest

pub found-more : one_cluster_more
found-more pattern cs c end =
    found_within-all pattern (cs ++ c ∷ []) end (length cs) (omega (arith, length-append cs (c ∷ [])))
    ∙ ap (λ (rs : List (ℕ × ℕ)). rs ++ ended pattern (cs ++ c ∷ []) end) (found-prefix pattern cs c [] end)

pub before_last-prefix : last_cluster_left_out
before_last-prefix pattern cs c end =
    let n : length (cs ++ c ∷ []) - 1 ≡ length cs = omega (arith, length-append cs (c ∷ [])) in
    ap (found_within pattern (cs ++ c ∷ []) end) n ∙ found-prefix pattern cs c [] end

found_within-begins : (pattern : List Key) (cs : List Cluster) (end n k : ℕ) →
    (rest : List (ℕ × ℕ)) × (found_within pattern cs end (n + k) ≡ found_within pattern cs end n ++ rest)
found_within-begins pattern cs end n zero =
    let e : n + 0 ≡ n = omega arith in
    ([], ap (found_within pattern cs end) e ∙ sym (append-nil (found_within pattern cs end n)))
found_within-begins pattern cs end n (suc k) =
    let r = found_within-begins pattern cs end n k in
    let e : n + suc k ≡ suc (n + k) = omega arith in
    let last = ended pattern (take (suc (n + k)) cs) (start_or end (drop (suc (n + k)) cs)) in (
      r.0 ++ last,
      ap (found_within pattern cs end) e ∙ ap (λ (rs : List (ℕ × ℕ)). rs ++ last) r.1 ∙ append_assoc (found_within pattern cs end n) r.0 last,
    )

-- the ranges found by the clusters before others begin those found by all
pub found-begins : found_ranges_stay
found-begins pattern cs c ds end =
    let n : length (cs ++ c ∷ ds) ≡ length cs + suc (length ds) = omega (arith, length-append cs (c ∷ ds)) in
    let r = found_within-begins pattern (cs ++ c ∷ ds) end (length cs) (suc (length ds)) in
    (r.0, ap (found_within pattern (cs ++ c ∷ ds) end) n ∙ r.1 ∙ ap (λ (rs : List (ℕ × ℕ)). rs ++ r.0) (found-prefix pattern cs c ds end))

-- and those found by all but the last one
pub before_last-begins : (pattern : List Key) (cs : List Cluster) (c : Cluster) (following : List Cluster) (end : ℕ) →
    (rest : List (ℕ × ℕ)) × (found_before_last pattern (cs ++ c ∷ following) end ≡ found pattern cs c.start ++ rest)
before_last-begins pattern cs c ds end =
    let n : length (cs ++ c ∷ ds) - 1 ≡ length cs + length ds = omega (arith, length-append cs (c ∷ ds)) in
    let r = found_within-begins pattern (cs ++ c ∷ ds) end (length cs) (length ds) in
    (r.0, ap (found_within pattern (cs ++ c ∷ ds) end) n ∙ r.1 ∙ ap (λ (rs : List (ℕ × ℕ)). rs ++ r.0) (found-prefix pattern cs c ds end))
