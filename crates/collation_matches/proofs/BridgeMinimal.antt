-- The minimal ones of all ranges between boundaries with the pattern's keys are those found cluster by cluster.
use Rattle.std.proofs.Common.{◌≡◌, ℕ, zero, suc, ◌<◌, ◌≤◌, Bool, true, List, [], ◌∷◌, ◌++◌, length, filter, refl, sym, ap, ◌∙◌, subst, arith, inl, inr, length-append}
use Rattle.std.specs.Bool.{Decides}
use Rattle.std.proofs.lemmas.Bool.{cases_Bool, cases_lt}
use Rattle.collation_elements.specs.declared.keys.Key.{Key}
use Rattle.collation_elements.specs.Clusters.{Cluster, starts}
use Rattle.collation_matches.specs.Matches.{ranges_among, is_within, minimal}
use Rattle.collation_matches.specs.ByClusters.{found}
use Rattle.collation_matches.proofs.BridgeLists.{In, Rising, in_filter, filter_in, rising_filter, same_members}
use Rattle.collation_matches.proofs.BridgeRanges.{Below, Before, Before-asym, in_ranges, ranges_in, rising_ranges, is_within-true, is_within_from, in_minimal, minimal_in, rising_minimal}
use Rattle.collation_matches.proofs.BridgeClusters.{bound, prefix, keyed, in_bounds, bound_in, bound_rises, prefix_grows, prefix_keyed, prefix_unkeyed}
use Rattle.collation_matches.proofs.BridgeFound.{Spans, in_found, found_in, rising_found, later_place}

-- the test says of a range between two boundaries whether the keys there are the pattern's
abbrev pub Tests : (ℕ × ℕ → Bool) → List Key → List Cluster → ℕ → Type 0
Tests test pattern cs end =
    (i j : ℕ) → i ≤ j → j ≤ length cs → Decides (test (bound end cs i, bound end cs j)) (prefix cs j ≡ prefix cs i ++ pattern)

-- a range between boundaries by its places
pub record Placed (pattern : List Key) (cs : List Cluster) (end : ℕ) (r : ℕ × ℕ) : Type 0 where
  pub first : ℕ
  pub last : ℕ
  pub in_order : first ≤ last
  pub within : last ≤ length cs
  pub fits : prefix cs last ≡ prefix cs first ++ pattern
  pub is : (bound end cs first, bound end cs last) ≡ r

module _ (test : ℕ × ℕ → Bool) (pattern : List Key) (cs : List Cluster) (end : ℕ) (some : 0 < length pattern)
    (up : Rising Below (starts cs ++ end ∷ [])) (tested : Tests test pattern cs end) where
  abbrev bounds : List ℕ
  bounds = starts cs ++ end ∷ []

  abbrev all : List (ℕ × ℕ)
  all = filter test (ranges_among bounds)

  -- boundaries in order stand at places in order
  places_in_order : (i j : ℕ) → i ≤ length cs → bound end cs i ≤ bound end cs j → i ≤ j
  places_in_order i j h e =
      elim (cases_lt j i) [
        | inl less ↦ let rises = bound_rises end cs j i up less h in absurd (omega arith)
        | inr more ↦ more
      ]

  bounds_in_order : (i j : ℕ) → i ≤ j → j ≤ length cs → bound end cs i ≤ bound end cs j
  bounds_in_order i j h w =
      elim (cases_lt i j) [
        | inl less ↦ let rises = bound_rises end cs i j up less w in omega arith
        | inr more ↦ let same : i ≡ j = omega arith in let e = ap (bound end cs) same in omega arith
      ]

  in_all : (r : ℕ × ℕ) → In all r → Placed pattern cs end r
  in_all r h =
      let k = in_filter test (ranges_among bounds) r h in
      let m = in_ranges bounds r k.0 in
      let s = in_bounds end cs r.0 m.0 in
      let e = in_bounds end cs r.1 m.1 in
      let order = places_in_order s.0 e.0 s.1 (omega (arith, s.2, e.2, m.2)) in
      let is : (bound end cs s.0, bound end cs e.0) ≡ r = λ i. (s.2 i, e.2 i) in
      record {
        first = s.0;
        last = e.0;
        in_order = order;
        within = e.1;
        fits = (tested s.0 e.0 order e.1).0 (ap test is ∙ k.1);
        is = is;
      }

  all_in : (i j : ℕ) → i ≤ j → j ≤ length cs → prefix cs j ≡ prefix cs i ++ pattern → In all (bound end cs i, bound end cs j)
  all_in i j h w e =
      filter_in test (ranges_among bounds) (bound end cs i, bound end cs j)
      (ranges_in bounds (bound end cs i) (bound end cs j) (bound_in end cs i) (bound_in end cs j) (bounds_in_order i j h w))
      ((tested i j h w).1 e)

  apart : (i j : ℕ) → i < j → length (prefix cs j) ≤ length (prefix cs i) → keyed cs i ≡ true → ⊥
  apart i j h e k =
      let more = prefix_keyed cs i k in
      let grows = prefix_grows cs (suc i) j h in
      omega arith

  longer : (i j : ℕ) → prefix cs j ≡ prefix cs i ++ pattern → i < j
  longer i j e =
      let lengths = ap (λ (ks : List Key). length ks) e in
      later_place cs i j (omega (arith, some, lengths, length-append (prefix cs i) pattern))

  first_keyed : (r : ℕ × ℕ) → ((s : ℕ × ℕ) → In all s → is_within r s ≡ true → ⊥) → (p : Placed pattern cs end r) → keyed cs p.first ≡ true
  first_keyed r none p =
      elim (cases_Bool (keyed cs p.first)) [
        | inl yes' ↦ yes'
        | inr no' ↦
            let less = longer p.first p.last p.fits in
            let inner = all_in (suc p.first) p.last less p.within (p.fits ∙ ap (λ ks. ks ++ pattern) (sym (prefix_unkeyed cs p.first no'))) in
            let rises = bound_rises end cs p.first (suc p.first) up (omega arith) (omega (arith, less, p.within)) in
            let e0 : bound end cs p.first ≡ r.0 = ap (λ (q : ℕ × ℕ). q.0) p.is in
            let e1 : bound end cs p.last ≡ r.1 = ap (λ (q : ℕ × ℕ). q.1) p.is in
            absurd (none (bound end cs (suc p.first), bound end cs p.last) inner
            (is_within_from r (bound end cs (suc p.first), bound end cs p.last) (omega (arith, rises, e0)) (omega (arith, e1))
            (λ same. let e : bound end cs (suc p.first) ≡ r.0 = same.0 in omega (arith, rises, e0, e))))
      ]

  last_has : (r : ℕ × ℕ) → ((s : ℕ × ℕ) → In all s → is_within r s ≡ true → ⊥) → (p : Placed pattern cs end r) (j : ℕ) → p.last ≡ suc j → keyed cs j ≡ true
  last_has r none p j is =
      elim (cases_Bool (keyed cs j)) [
        | inl yes' ↦ yes'
        | inr no' ↦
            let less = longer p.first p.last p.fits in
            let inner = all_in p.first j (omega (arith, less, is)) (omega (arith, p.within, is)) (sym (prefix_unkeyed cs j no') ∙ ap (prefix cs) (sym is) ∙ p.fits) in
            let rises = bound_rises end cs j (suc j) up (omega arith) (omega (arith, is, p.within)) in
            let e0 : bound end cs p.first ≡ r.0 = ap (λ (q : ℕ × ℕ). q.0) p.is in
            let e1 : bound end cs (suc j) ≡ r.1 = ap (bound end cs) (sym is) ∙ ap (λ (q : ℕ × ℕ). q.1) p.is in
            absurd (none (bound end cs p.first, bound end cs j) inner
            (is_within_from r (bound end cs p.first, bound end cs j) (omega (arith, e0)) (omega (arith, rises, e1))
            (λ same. let e : bound end cs j ≡ r.1 = same.1 in omega (arith, rises, e1, e))))
      ]

  to_found_at : (r : ℕ × ℕ) → ((s : ℕ × ℕ) → In all s → is_within r s ≡ true → ⊥) → (p : Placed pattern cs end r) (j : ℕ) → p.last ≡ suc j → In (found pattern cs end) r
  to_found_at r none p j is =
      let less = longer p.first p.last p.fits in
      let here = found_in pattern end cs (length cs) p.first j (omega arith) (omega (arith, less, is)) (omega (arith, p.within, is))
      (first_keyed r none p) (last_has r none p j is) (ap (prefix cs) (sym is) ∙ p.fits) in
      subst (In (found pattern cs end)) (ap (λ e. (bound end cs p.first, bound end cs e)) (sym is) ∙ p.is) here

  predecessor : (i j : ℕ) → i < j → (k : ℕ) × (j ≡ suc k)
  predecessor i zero h = absurd (omega arith)
  predecessor i (suc j) h = (j, refl)

  to_found : (r : ℕ × ℕ) → In (minimal all) r → In (found pattern cs end) r
  to_found r h =
      let m = in_minimal all r h in
      let p = in_all r m.0 in
      let k = predecessor p.first p.last (longer p.first p.last p.fits) in
      to_found_at r m.1 p k.0 k.1

  -- a range with the pattern's keys within one from a cluster with keys to a cluster with keys is that one
  only_itself : (r q : ℕ × ℕ) → (s : Spans pattern cs end r) → (p : Placed pattern cs end q) → is_within r q ≡ true → ⊥
  only_itself r q s p w =
      let inside = is_within-true r q w in
      let s0 : bound end cs s.from ≡ r.0 = ap (λ (x : ℕ × ℕ). x.0) s.is in
      let s1 : bound end cs (suc s.upto) ≡ r.1 = ap (λ (x : ℕ × ℕ). x.1) s.is in
      let p0 : bound end cs p.first ≡ q.0 = ap (λ (x : ℕ × ℕ). x.0) p.is in
      let p1 : bound end cs p.last ≡ q.1 = ap (λ (x : ℕ × ℕ). x.1) p.is in
      let begins = places_in_order s.from p.first (omega (arith, s.in_order, s.within)) (omega (arith, s0, p0, inside.0)) in
      let ends = places_in_order p.last (suc s.upto) p.within (omega (arith, s1, p1, inside.1)) in
      let es = ap (λ (ks : List Key). length ks) s.fits in
      let ep = ap (λ (ks : List Key). length ks) p.fits in
      let ls = length-append (prefix cs s.from) pattern in
      let lp = length-append (prefix cs p.first) pattern in
      let grows = prefix_grows cs p.last (suc s.upto) ends in
      elim (cases_lt s.from p.first) [
        | inl less ↦ apart s.from p.first less (omega (arith, es, ep, ls, lp, grows)) s.from_keyed
        | inr more ↦
            let same_first : p.first ≡ s.from = omega (arith, begins, more) in
            let lengths = ap (λ i. length (prefix cs i)) same_first in
            elim (cases_lt p.last (suc s.upto)) [
              | inl less ↦
                  let more_keys = prefix_keyed cs s.upto s.upto_keyed in
                  let fewer = prefix_grows cs p.last s.upto (omega (arith, less)) in
                  absurd (omega (arith, es, ep, ls, lp, lengths, more_keys, fewer))
              | inr further ↦
                  let same_last : p.last ≡ suc s.upto = omega (arith, ends, further) in
                  inside.2 (sym p0 ∙ ap (bound end cs) same_first ∙ s0, sym p1 ∙ ap (bound end cs) same_last ∙ s1)
            ]
      ]

  from_found : (r : ℕ × ℕ) → In (found pattern cs end) r → In (minimal all) r
  from_found r h =
      let s = (in_found pattern end cs (length cs) r (omega arith) h).0 in
      minimal_in all r
      (subst (In all) s.is (all_in s.from (suc s.upto) (omega (arith, s.in_order)) s.within s.fits))
      (λ q hq w. only_itself r q s (in_all q hq) w)

  pub minimal-found : minimal all ≡ found pattern cs end
  minimal-found =
      same_members Before Before-asym (minimal all) (found pattern cs end)
      (rising_minimal all (rising_filter Before test (ranges_among bounds) (rising_ranges bounds up)))
      (rising_found pattern end cs (length cs) (omega arith) up)
      to_found from_found
