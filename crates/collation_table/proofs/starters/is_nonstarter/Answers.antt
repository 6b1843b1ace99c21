use Rattle.std.proofs.Common.{◌∙◌, sym, ap, nat_lt, cond}
use Rattle.unicode_normalization.specs.Lookups.{canonical_combining_class}
use Rattle.collation_table.proofs.StarterLemmas.{class_of-by_decomposition, its_own}
use Rattle.collation_table.proofs.starters.is_nonstarter.Goals as goal

pub returns-then-eq : goal.returns-then-eq
returns-then-eq c =
    let same = its_own _ _ _ _ _ c.eq.ensures c.decomposition.ensures.value c.as_slice.ensures c.in-Some.ensures.value.1 in
    ap (nat_lt 0) (
    c.canonical_combining_class.ensures ∙ ap canonical_combining_class c.in-Some.ensures.value.1
    ∙ sym (class_of-by_decomposition c.args.cp c.in-Some.ensures.cases ∙ ap (λ b. cond b (canonical_combining_class c.args.cp) 0) (sym same ∙ c.if-eq.true))
    )

pub returns-else-eq : goal.returns-else-eq
returns-else-eq c =
    let same = its_own _ _ _ _ _ c.eq.ensures c.decomposition.ensures.value c.as_slice.ensures c.in-Some.ensures.value.1 in
    c.if-eq.false ∙ ap (nat_lt 0) (sym (class_of-by_decomposition c.args.cp c.in-Some.ensures.cases ∙ ap (λ b. cond b (canonical_combining_class c.args.cp) 0) (sym same ∙ c.if-eq.false)))
