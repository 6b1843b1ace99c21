-- A point with whose code point no mapped string of two or more begins: it is a unit by itself.
use Rattle.std.proofs.Common.{◌≡◌, ℕ, zero, suc, ◌≤◌, Bool, true, false, cond, not, ◌&&◌, List, [], ◌∷◌, ◌++◌, length, take, drop, Some, slice_get, refl, sym, ◌∙◌, ap, subst, arith, append_assoc}
use Rattle.std.specs.List.{list_any}
use Rattle.std.proofs.lemmas.List.{append-nil}
use Rattle.std.proofs.lemmas.Bool.{false≢true}
use Rattle.std.proofs.lemmas.Option.{none-some, same_Some}
use Rattle.nfd_points.specs.declared.points.Point.{Point}
use Rattle.nfd_points.specs.Points.{is_starter}
use Rattle.collation_table.specs.Table.{TableMap, BeginsNoLongerString, is_mapped, longest_prefix_within}
use Rattle.collation_elements.specs.Units.{code_points, Cut, blocks, joins, extended, prefix_length, units}
use Rattle.collation_elements.specs.Windows.{next_cut}
use Rattle.collation_elements.proofs.Cutting.{next_cut-of, units-next_cut}

-- ---- how long the front is

one-cond : (b : Bool) → cond b 1 0 ≤ 1
one-cond true = omega arith
one-cond false = omega arith

shorter-cond : (b : Bool) (longer shorter : ℕ) → b ≡ false → shorter ≤ 1 → cond b longer shorter ≤ 1
shorter-cond true longer shorter never few = absurd (false≢true (sym never))
shorter-cond false longer shorter never few = few

longest_prefix_within-alone : (T : TableMap) (cp : ℕ) (cs : List ℕ) (n : ℕ) → n ≤ length (cp ∷ cs) → BeginsNoLongerString T cp → longest_prefix_within T (cp ∷ cs) n ≤ 1
longest_prefix_within-alone T cp cs zero within none = omega arith
longest_prefix_within-alone T cp cs (suc zero) within none = one-cond (is_mapped T (cp ∷ []))
longest_prefix_within-alone T cp [] (suc (suc n)) within none = absurd (omega arith)
longest_prefix_within-alone T cp (c ∷ cs) (suc (suc n)) within none =
    shorter-cond (is_mapped T (cp ∷ c ∷ take n cs)) (suc (suc n)) (longest_prefix_within T (cp ∷ c ∷ cs) (suc n)) (none c (take n cs))
    (longest_prefix_within-alone T cp (c ∷ cs) (suc n) (omega arith) none)

prefix_length-begun : (T : TableMap) (p : Point) (ps : List Point) → BeginsNoLongerString T p.cp → prefix_length T (p ∷ ps) ≡ 1
prefix_length-begun T p ps none =
    let few : longest_prefix_within T (p.cp ∷ code_points ps) (length (p.cp ∷ code_points ps)) ≤ 1 = longest_prefix_within-alone T p.cp (code_points ps) (length (p.cp ∷ code_points ps)) (omega arith) none in
    omega arith

pub prefix_length-alone : (T : TableMap) (ps : List Point) (first : Point) → slice_get ps 0 ≡ Some first → BeginsNoLongerString T first.cp → prefix_length T ps ≡ 1
prefix_length-alone T [] first at none = absurd (none-some first at)
prefix_length-alone T (p ∷ ps) first at none =
    prefix_length-begun T p ps (subst (λ (q : Point). BeginsNoLongerString T q.cp) (sym (same_Some p first at)) none)

-- ---- what joins it

alone-cond : (s j : Bool) (stop taken left : Cut) → j ≡ false → left ≡ stop → cond s stop (cond j taken left) ≡ stop
alone-cond true j stop taken left never same = refl
alone-cond false true stop taken left never same = absurd (false≢true (sym never))
alone-cond false false stop taken left never same = same

pub no_second : (a b : Bool) → b ≡ false → (a && b) ≡ false
no_second true b never = never
no_second false b never = refl

extended-alone : (T : TableMap) (p : Point) (between following : List Point) → BeginsNoLongerString T p.cp → extended T (p ∷ []) between following ≡ record { unit = p ∷ []; rest = between ++ following }
extended-alone T p between [] none = ap (λ (rest : List Point). record { unit = p ∷ []; rest = rest }) (sym (append-nil between))
extended-alone T p between (c ∷ following) none =
    let stop : Cut = record { unit = p ∷ []; rest = between ++ c ∷ following } in
    alone-cond (is_starter c) (joins T (p ∷ []) between c) stop (extended T (p ∷ c ∷ []) between following) (extended T (p ∷ []) (between ++ c ∷ []) following)
    (no_second (not (list_any (blocks c) between)) (is_mapped T (p.cp ∷ c.cp ∷ [])) (none c.cp []))
    (extended-alone T p (between ++ c ∷ []) following none ∙ ap (λ (rest : List Point). record { unit = p ∷ []; rest = rest }) (append_assoc between (c ∷ []) following))

pub next_cut-alone : (T : TableMap) (ps : List Point) (first : Point) → slice_get ps 0 ≡ Some first → BeginsNoLongerString T first.cp → next_cut T ps ≡ record { unit = first ∷ []; rest = drop 1 ps }
next_cut-alone T [] first at none = absurd (none-some first at)
next_cut-alone T (p ∷ ps) first at none =
    let same : p ≡ first = same_Some p first at in
    let none_here : BeginsNoLongerString T p.cp = subst (λ (q : Point). BeginsNoLongerString T q.cp) (sym same) none in
    next_cut-of T (p ∷ ps) (omega arith)
    ∙ ap (λ (k : ℕ). extended T (take k (p ∷ ps)) [] (drop k (p ∷ ps))) (prefix_length-begun T p ps none_here)
    ∙ extended-alone T p [] ps none_here
    ∙ ap (λ (q : Point). record { unit = q ∷ []; rest = ps }) same

pub units-alone : (T : TableMap) (p : Point) (rest : List Point) → BeginsNoLongerString T p.cp → units T (p ∷ rest) ≡ (p ∷ []) ∷ units T rest
units-alone T p rest none =
    units-next_cut T (p ∷ rest) (omega arith) ∙ ap (λ (cut : Cut). cut.unit ∷ units T cut.rest) (next_cut-alone T (p ∷ rest) p refl none)
