-- `empty` makes a null pointer, which holds nothing.
use Rattle.std.proofs.Common.{◌≡◌, [], ◌∷◌, refl}
use mir.Val.{Val}
use base.Logic.{SProp, emp}
use base.Fml.{ftrue}
use types.Kit.{‵, raw, ◌⊛◌, ◌$◌, ◌∵◌, !, qed, by, keep, split, use0, feq_i}
use types.Run.{lit, no_more, and_then, returns, enter}
use types.ByLocal.{alloc_all, pass_all, free_all, look_at, sets}
use types.Part.{agg}
use contract.Monad.{fact, fact_i}
use contract.Running.{tables}
use denote.RattleType.{owns}
use denote.Signature.{types_at}
use denote.RawPtr.{Ptr, null_ptr}
use denote.Steps.{nothing}
use denote.Triple.Walked.{walk_of}
use Rattle.std.specs.Prelude.{Option, None}
use Rattle.std.proofs.raw_atomic.Walks.{proved_at, leaves}
use Rattle.colfind_c.specs.contracts.owned.Owned.{the_row as R}
use Rattle.colfind_c.proofs.Calls.{Ptr-Good}
use Rattle.colfind_c.proofs.HandleValues.{word, handle_in}
use Rattle.colfind_c.specs.contracts.handle.Handle.empty.{ended, clauses}
use Rattle.colfind_c.specs.contracts.handle.Handle.empty.Key.{name as #self}
use Rattle.colfind_c.proofs.handle.Handle.empty.Statement.{statement}
use Rattle.colfind_c.proofs.handle.Handle.empty.Code as code

pub empty_spec : {M : Type 1} → statement M
empty_spec 𝓤 𝓛 𝓜 𝓡 wired =
    let H = 𝓛.H in let 𝓣 = tables 𝓤 H 𝓜 𝓡 𝓡.env in let c = clauses 𝓛 𝓜.mem 𝓡.returns in
    proved_at 𝓛 ended tt c 𝓜 𝓡 tt #self code.function (code.unfolded 𝓤 H 𝓜 𝓡 wired) (λ z are.
    let nothing_held : Option R.Denot = None in let Post : Val → SProp 𝓤 = (walk_of 𝓛 ended tt c).post z in
    qed 𝓛 ((‵ ftrue ⊛ ‵ (owns (types_at ended.signature.params z.0.0) z.0.3 z.0.4)) ∷ raw ((c z.0.0 z.0.3).requires z.1) ∷ []) ∵ split ! $
    enter ! 𝓣.C 𝓣.Λ code.function [] Post $ alloc_all ! (λ l. pass_all ! refl tt $
    sets ! (agg ! (and_then ! (lit ! tt) (no_more !))) refl ((Ptr-Good null_ptr).0, ((Ptr-Good null_ptr).1, tt)) $
    feq_i ! Ptr null_ptr null_ptr refl $ handle_in ! null_ptr None $
    use0 𝓛 (raw (fact 𝓤 (nothing_held ≡ None))) (fact_i 𝓤 (nothing_held ≡ None) (emp 𝓤) refl) $ nothing ! $
    returns ! (look_at ! 0 refl) $ free_all ! refl $ keep ! (3 ∷ 0 ∷ 2 ∷ 1 ∷ []) $
    by ! (leaves 𝓛 ended tt c z (word null_ptr) (record { at = null_ptr; value = None }) tt tt)))
