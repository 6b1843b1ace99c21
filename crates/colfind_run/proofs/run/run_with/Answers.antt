use Rattle.std.proofs.Common.{◌∙◌, ◌++◌, [], ℕ, List, sym, ap, subst}
use Rattle.colfind_io.specs.Gathering.{Prints}
use Rattle.colfind_run.specs.Patterns.{answer_to, settled_in}
use Rattle.collation_matches.specs.Sought as looked_for
use Rattle.colfind_run.specs.declared.run.TextEnd.TheVariants.{Good, Fault, Unread}
use Rattle.colfind_run.proofs.Concluding.{added, none_added, one_added, at_most_one, concluded, compiled_from, unwritten, no_failure, one_failure}
use Rattle.colfind_run.proofs.Runs.{prints_all, prints_to_fault, prints_settled, prints_prefix, at_err, at_ok}
use Rattle.colfind_run.proofs.run.run_with.Goals as goal

pub search_text-requires-clause-prints : goal.search_text-requires-clause-prints
search_text-requires-clause-prints g c =
    let p = c.new-lines.ensures.prints (g.O.Target.held c.args.out.now) (g.O.Target.failures c.args.out.now) in
    subst (λ o. Prints o c.new-lines.result [] (g.O.Target.held c.args.out.now) (g.O.Target.held c.args.out.now) (g.O.Target.failures c.args.out.now) (g.O.Target.failures c.args.out.now)) (sym p.form_is) p

pub returns-in_default-search_text-clause-write_failure : goal.returns-in_default-search_text-clause-write_failure
returns-in_default-search_text-clause-write_failure g c = λ _ p compiled.
    let table = g.W.Weights.table c.args.table.now in
    let pattern = c.args.pattern.now in
    let held = g.O.Target.held c.args.out.now in
    let failures = g.O.Target.failures c.args.out.now in
    let form_is = (c.new-lines.ensures.prints held failures).form_is in
    let searched = c.in_default-search_text.ensures.searched in
    let printed = subst (λ o. Prints o c.search_text.new.lines searched.handed held (g.O.Target.held c.search_text.new.out) failures (g.O.Target.failures c.search_text.new.out)) form_is searched.prints in
    let same = c.search_text.ensures.sought ∙ c.in-Ok.ensures.sought in
    let begins = searched.begun p (compiled_from table pattern c.args.select p _ same compiled) in
    unwritten (answer_to c.args.select table p pattern) (settled_in c.args.select table p pattern) c.args.form c.search_text.new.lines _ _ searched.bytes searched.handed _ _ held _ failures _
    c.in_default-search_text.ensures.err searched.from_reader (begins.0, ap (λ s. (looked_for.answer_to s p searched.bytes).ranges) (sym same) ∙ begins.1) printed

pub returns-then-is_err-clause-write_failure : goal.returns-then-is_err-clause-write_failure
returns-then-is_err-clause-write_failure g c = λ _ p compiled.
    let table = g.W.Weights.table c.args.table.now in
    let pattern = c.args.pattern.now in
    let held = g.O.Target.held c.args.out.now in
    let failures = g.O.Target.failures c.args.out.now in
    let form_is = (c.new-lines.ensures.prints held failures).form_is in
    let searched = c.in-Ok-search_text.ensures.searched in
    let printed = subst (λ o. Prints o c.search_text.new.lines searched.handed held (g.O.Target.held c.search_text.new.out) failures (g.O.Target.failures c.search_text.new.out)) form_is searched.prints in
    let same = c.search_text.ensures.sought ∙ c.in-Ok.ensures.sought in
    let ranges = searched.handed ++ c.close-end.new.rest.items in
    let prints = subst (λ (t : List (ℕ × ℕ)). Prints c.args.form c.put_all.new.self (searched.handed ++ t) held (g.O.Target.held c.put_all.new.out) failures (g.O.Target.failures c.put_all.new.out))
    c.as_slice.ensures.value (c.put_all.ensures.prints c.args.form searched.handed held failures printed) in
    let all = concluded c.one_range_begins_at_an_offset.ensures.answer c.one_range_begins_at_an_offset.ensures.settled table pattern c.args.select p _ same compiled c.close-end.result ranges
    searched.bytes _ _ searched.from_reader searched.few (λ h. c.close-end.ensures.found p searched.bytes searched.handed _ h searched.ended) in
    let prefix = at_err c.finish.result (c.finish.ensures.err c.args.form ranges held failures all.few prints) c.if-is_err.ensures.value in
    let count = c.in-Ok-search_text.ensures.count in
    let ends = c.close-end.ensures.count in
    prints_prefix (answer_to c.args.select table p pattern) (settled_in c.args.select table p pattern) c.args.form _ _ c.close-end.result ranges _ _ held _
    (added _ _ _ _ count ends) all.finds prefix

pub returns-then-is_err-clause-failures : goal.returns-then-is_err-clause-failures
returns-then-is_err-clause-failures g c =
    let table = g.W.Weights.table c.args.table.now in
    let pattern = c.args.pattern.now in
    let held = g.O.Target.held c.args.out.now in
    let failures = g.O.Target.failures c.args.out.now in
    let form_is = (c.new-lines.ensures.prints held failures).form_is in
    let searched = c.in-Ok-search_text.ensures.searched in
    let printed = subst (λ o. Prints o c.search_text.new.lines searched.handed held (g.O.Target.held c.search_text.new.out) failures (g.O.Target.failures c.search_text.new.out)) form_is searched.prints in
    let same = c.search_text.ensures.sought ∙ c.in-Ok.ensures.sought in
    let ranges = searched.handed ++ c.close-end.new.rest.items in
    let prints = subst (λ (t : List (ℕ × ℕ)). Prints c.args.form c.put_all.new.self (searched.handed ++ t) held (g.O.Target.held c.put_all.new.out) failures (g.O.Target.failures c.put_all.new.out))
    c.as_slice.ensures.value (c.put_all.ensures.prints c.args.form searched.handed held failures printed) in
    let count = c.in-Ok-search_text.ensures.count in
    let ends = c.close-end.ensures.count in
    let within = one_added _ _ _ _ count ends (at_most_one c.close-end.result) in
    let wrote = c.finish.ensures.count c.args.form ranges held failures prints in
    let one = one_failure c.finish.result c.if-is_err.ensures.value in
    (within.0, within.1, added _ _ _ 1 wrote (sym one))

pub returns-in-Good-clause-done : goal.returns-in-Good-clause-done
returns-in-Good-clause-done g c = λ p compiled.
    let table = g.W.Weights.table c.args.table.now in
    let pattern = c.args.pattern.now in
    let held = g.O.Target.held c.args.out.now in
    let failures = g.O.Target.failures c.args.out.now in
    let form_is = (c.new-lines.ensures.prints held failures).form_is in
    let searched = c.in-Ok-search_text.ensures.searched in
    let printed = subst (λ o. Prints o c.search_text.new.lines searched.handed held (g.O.Target.held c.search_text.new.out) failures (g.O.Target.failures c.search_text.new.out)) form_is searched.prints in
    let same = c.search_text.ensures.sought ∙ c.in-Ok.ensures.sought in
    let ranges = searched.handed ++ c.close-end.new.rest.items in
    let prints = subst (λ (t : List (ℕ × ℕ)). Prints c.args.form c.put_all.new.self (searched.handed ++ t) held (g.O.Target.held c.put_all.new.out) failures (g.O.Target.failures c.put_all.new.out))
    c.as_slice.ensures.value (c.put_all.ensures.prints c.args.form searched.handed held failures printed) in
    let all = concluded c.one_range_begins_at_an_offset.ensures.answer c.one_range_begins_at_an_offset.ensures.settled table pattern c.args.select p _ same compiled Good ranges
    searched.bytes _ _ searched.from_reader searched.few (λ h. c.in-Good.ensures.found p searched.bytes searched.handed _ h searched.ended) in
    let wrote = at_ok c.finish.result (c.finish.ensures.ok c.args.form ranges held failures all.few prints) c.if-is_err.ensures.value in
    prints_all (answer_to c.args.select table p pattern) (settled_in c.args.select table p pattern) c.args.form ranges _ _ held _ _ all.finds wrote
    (c.count.ensures ∙ c.finish.ensures.same ∙ prints.counted all.few)

pub returns-in-Good-clause-failures : goal.returns-in-Good-clause-failures
returns-in-Good-clause-failures g c =
    let table = g.W.Weights.table c.args.table.now in
    let pattern = c.args.pattern.now in
    let held = g.O.Target.held c.args.out.now in
    let failures = g.O.Target.failures c.args.out.now in
    let form_is = (c.new-lines.ensures.prints held failures).form_is in
    let searched = c.in-Ok-search_text.ensures.searched in
    let printed = subst (λ o. Prints o c.search_text.new.lines searched.handed held (g.O.Target.held c.search_text.new.out) failures (g.O.Target.failures c.search_text.new.out)) form_is searched.prints in
    let same = c.search_text.ensures.sought ∙ c.in-Ok.ensures.sought in
    let ranges = searched.handed ++ c.close-end.new.rest.items in
    let prints = subst (λ (t : List (ℕ × ℕ)). Prints c.args.form c.put_all.new.self (searched.handed ++ t) held (g.O.Target.held c.put_all.new.out) failures (g.O.Target.failures c.put_all.new.out))
    c.as_slice.ensures.value (c.put_all.ensures.prints c.args.form searched.handed held failures printed) in
    let count = c.in-Ok-search_text.ensures.count in
    let ends = c.in-Good.ensures.count in
    let wrote = c.finish.ensures.count c.args.form ranges held failures prints in
    let none = no_failure c.finish.result c.if-is_err.ensures.value in
    (none_added _ _ _ count (sym ends), none_added _ _ _ wrote none)

pub returns-in-Fault-clause-text_fault : goal.returns-in-Fault-clause-text_fault
returns-in-Fault-clause-text_fault g c = λ p compiled.
    let table = g.W.Weights.table c.args.table.now in
    let pattern = c.args.pattern.now in
    let held = g.O.Target.held c.args.out.now in
    let failures = g.O.Target.failures c.args.out.now in
    let form_is = (c.new-lines.ensures.prints held failures).form_is in
    let searched = c.in-Ok-search_text.ensures.searched in
    let printed = subst (λ o. Prints o c.search_text.new.lines searched.handed held (g.O.Target.held c.search_text.new.out) failures (g.O.Target.failures c.search_text.new.out)) form_is searched.prints in
    let same = c.search_text.ensures.sought ∙ c.in-Ok.ensures.sought in
    let ranges = searched.handed ++ c.close-end.new.rest.items in
    let prints = subst (λ (t : List (ℕ × ℕ)). Prints c.args.form c.put_all.new.self (searched.handed ++ t) held (g.O.Target.held c.put_all.new.out) failures (g.O.Target.failures c.put_all.new.out))
    c.as_slice.ensures.value (c.put_all.ensures.prints c.args.form searched.handed held failures printed) in
    let all = concluded c.one_range_begins_at_an_offset.ensures.answer c.one_range_begins_at_an_offset.ensures.settled table pattern c.args.select p _ same compiled (Fault c.in-Fault.fault) ranges
    searched.bytes _ _ searched.from_reader searched.few (λ h. c.in-Fault.ensures.found p searched.bytes searched.handed _ h searched.ended) in
    let wrote = at_ok c.finish.result (c.finish.ensures.ok c.args.form ranges held failures all.few prints) c.if-is_err.ensures.value in
    prints_to_fault (answer_to c.args.select table p pattern) (settled_in c.args.select table p pattern) c.args.form ranges _ _ held _ _ all.finds wrote

pub returns-in-Fault-clause-failures : goal.returns-in-Fault-clause-failures
returns-in-Fault-clause-failures g c =
    let table = g.W.Weights.table c.args.table.now in
    let pattern = c.args.pattern.now in
    let held = g.O.Target.held c.args.out.now in
    let failures = g.O.Target.failures c.args.out.now in
    let form_is = (c.new-lines.ensures.prints held failures).form_is in
    let searched = c.in-Ok-search_text.ensures.searched in
    let printed = subst (λ o. Prints o c.search_text.new.lines searched.handed held (g.O.Target.held c.search_text.new.out) failures (g.O.Target.failures c.search_text.new.out)) form_is searched.prints in
    let same = c.search_text.ensures.sought ∙ c.in-Ok.ensures.sought in
    let ranges = searched.handed ++ c.close-end.new.rest.items in
    let prints = subst (λ (t : List (ℕ × ℕ)). Prints c.args.form c.put_all.new.self (searched.handed ++ t) held (g.O.Target.held c.put_all.new.out) failures (g.O.Target.failures c.put_all.new.out))
    c.as_slice.ensures.value (c.put_all.ensures.prints c.args.form searched.handed held failures printed) in
    let count = c.in-Ok-search_text.ensures.count in
    let ends = c.in-Fault.ensures.count in
    let wrote = c.finish.ensures.count c.args.form ranges held failures prints in
    let none = no_failure c.finish.result c.if-is_err.ensures.value in
    (none_added _ _ _ count (sym ends), none_added _ _ _ wrote none)

pub returns-in-Unread-clause-read_failure : goal.returns-in-Unread-clause-read_failure
returns-in-Unread-clause-read_failure g c = λ p compiled.
    let table = g.W.Weights.table c.args.table.now in
    let pattern = c.args.pattern.now in
    let held = g.O.Target.held c.args.out.now in
    let failures = g.O.Target.failures c.args.out.now in
    let form_is = (c.new-lines.ensures.prints held failures).form_is in
    let searched = c.in-Ok-search_text.ensures.searched in
    let printed = subst (λ o. Prints o c.search_text.new.lines searched.handed held (g.O.Target.held c.search_text.new.out) failures (g.O.Target.failures c.search_text.new.out)) form_is searched.prints in
    let same = c.search_text.ensures.sought ∙ c.in-Ok.ensures.sought in
    let ranges = searched.handed ++ c.close-end.new.rest.items in
    let prints = subst (λ (t : List (ℕ × ℕ)). Prints c.args.form c.put_all.new.self (searched.handed ++ t) held (g.O.Target.held c.put_all.new.out) failures (g.O.Target.failures c.put_all.new.out))
    c.as_slice.ensures.value (c.put_all.ensures.prints c.args.form searched.handed held failures printed) in
    let all = concluded c.one_range_begins_at_an_offset.ensures.answer c.one_range_begins_at_an_offset.ensures.settled table pattern c.args.select p _ same compiled (Unread c.in-Unread.count) ranges
    searched.bytes _ _ searched.from_reader searched.few (λ h. c.in-Unread.ensures.found p searched.bytes searched.handed _ h searched.ended) in
    let wrote = at_ok c.finish.result (c.finish.ensures.ok c.args.form ranges held failures all.few prints) c.if-is_err.ensures.value in
    prints_settled (answer_to c.args.select table p pattern) (settled_in c.args.select table p pattern) c.args.form ranges _ _ held _ _ all.finds wrote

pub returns-in-Unread-clause-failures : goal.returns-in-Unread-clause-failures
returns-in-Unread-clause-failures g c =
    let table = g.W.Weights.table c.args.table.now in
    let pattern = c.args.pattern.now in
    let held = g.O.Target.held c.args.out.now in
    let failures = g.O.Target.failures c.args.out.now in
    let form_is = (c.new-lines.ensures.prints held failures).form_is in
    let searched = c.in-Ok-search_text.ensures.searched in
    let printed = subst (λ o. Prints o c.search_text.new.lines searched.handed held (g.O.Target.held c.search_text.new.out) failures (g.O.Target.failures c.search_text.new.out)) form_is searched.prints in
    let same = c.search_text.ensures.sought ∙ c.in-Ok.ensures.sought in
    let ranges = searched.handed ++ c.close-end.new.rest.items in
    let prints = subst (λ (t : List (ℕ × ℕ)). Prints c.args.form c.put_all.new.self (searched.handed ++ t) held (g.O.Target.held c.put_all.new.out) failures (g.O.Target.failures c.put_all.new.out))
    c.as_slice.ensures.value (c.put_all.ensures.prints c.args.form searched.handed held failures printed) in
    let count = c.in-Ok-search_text.ensures.count in
    let ends = c.in-Unread.ensures.count in
    let wrote = c.finish.ensures.count c.args.form ranges held failures prints in
    let none = no_failure c.finish.result c.if-is_err.ensures.value in
    (added _ _ _ 1 count ends, none_added _ _ _ wrote none)

pub returns-in-Fault-clause-done : goal.returns-in-Fault-clause-done
returns-in-Fault-clause-done g c = tt
