-- Two points whose code points are a mapped string with which no longer one begins: they are a unit.
use Rattle.std.proofs.Common.{◌≡◌, ℕ, zero, suc, ◌≤◌, true, not, List, [], ◌∷◌, ◌++◌, length, take, drop, inl, inr, sym, ◌∙◌, ap, arith, append_assoc}
use Rattle.std.specs.List.{list_any}
use Rattle.std.proofs.lemmas.Bool.{cases_Bool, cond-true, cond-false}
use Rattle.std.proofs.lemmas.List.{append-nil}
use Rattle.nfd_points.specs.declared.points.Point.{Point}
use Rattle.nfd_points.specs.Points.{is_starter}
use Rattle.collation_table.specs.Table.{TableMap, GoesOnInNoString, is_mapped, longest_prefix_within}
use Rattle.collation_elements.specs.Units.{code_points, Cut, blocks, extended, prefix_length, units, MappedPairsAreUnits}
use Rattle.collation_elements.proofs.Alone.{no_second}
use Rattle.collation_elements.proofs.Cutting.{next_cut-of, units-next_cut}
use Rattle.collation_elements.proofs.ContextUnits.{extended-stop, extended-left}

-- the longest mapped prefix is the two
longest_prefix_within-pair : (T : TableMap) (c d : ℕ) (cs : List ℕ) (n : ℕ) → n ≤ length cs → is_mapped T (c ∷ d ∷ []) ≡ true → GoesOnInNoString T (c ∷ d ∷ []) → longest_prefix_within T (c ∷ d ∷ cs) (suc (suc n)) ≡ 2
longest_prefix_within-pair T c d cs zero within here none = cond-true _ _ _ here
longest_prefix_within-pair T c d [] (suc n) within here none = absurd (omega arith)
longest_prefix_within-pair T c d (e ∷ cs) (suc n) within here none =
    cond-false _ _ _ (none e (take n cs)) ∙ longest_prefix_within-pair T c d (e ∷ cs) n (omega arith) here none

prefix_length-pair : (T : TableMap) (p q : Point) (ps : List Point) → is_mapped T (p.cp ∷ q.cp ∷ []) ≡ true → GoesOnInNoString T (p.cp ∷ q.cp ∷ []) → prefix_length T (p ∷ q ∷ ps) ≡ 2
prefix_length-pair T p q ps here none =
    let two = longest_prefix_within-pair T p.cp q.cp (code_points ps) (length (code_points ps)) (omega arith) here none in
    omega (arith, two)

-- and nothing joins them
extended-pair : (T : TableMap) (p q : Point) (between following : List Point) → GoesOnInNoString T (p.cp ∷ q.cp ∷ []) → extended T (p ∷ q ∷ []) between following ≡ record { unit = p ∷ q ∷ []; rest = between ++ following }
extended-pair T p q between [] none = ap (λ (rest : List Point). record { unit = p ∷ q ∷ []; rest = rest }) (sym (append-nil between))
extended-pair T p q between (c ∷ following) none =
    elim (cases_Bool (is_starter c)) [
      | inl starter ↦ extended-stop T (p ∷ q ∷ []) between c following starter
      | inr mark ↦
          extended-left T (p ∷ q ∷ []) between c following mark (no_second (not (list_any (blocks c) between)) (is_mapped T (p.cp ∷ q.cp ∷ c.cp ∷ [])) (none c.cp []))
          ∙ extended-pair T p q (between ++ c ∷ []) following none
          ∙ ap (λ (rest : List Point). record { unit = p ∷ q ∷ []; rest = rest }) (append_assoc between (c ∷ []) following)
    ]

pub units-pair : MappedPairsAreUnits
units-pair T p q more here none =
    units-next_cut T (p ∷ q ∷ more) (omega arith)
    ∙ ap (λ (cut : Cut). cut.unit ∷ units T cut.rest)
    (next_cut-of T (p ∷ q ∷ more) (omega arith)
    ∙ ap (λ (k : ℕ). extended T (take k (p ∷ q ∷ more)) [] (drop k (p ∷ q ∷ more))) (prefix_length-pair T p q more here none)
    ∙ extended-pair T p q [] more none)
