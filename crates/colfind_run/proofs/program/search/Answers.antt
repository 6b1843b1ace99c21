use Rattle.std.proofs.Common.{rules, ◌≡◌, None, is_some, true, refl}
use Rattle.std.proofs.lemmas.Result.{IfErr-weaker}
use Rattle.std.specs.Str.{IsUtf8}
use Rattle.colfind_run.specs.Searching.{left_of}
use Rattle.colfind_run.proofs.Stops.{file_stops}
use Rattle.colfind_run.proofs.program.search.Goals as goal

pub returns-clause-reason : goal.returns-clause-reason
returns-clause-reason g c =
    let asked = c.args.asked.now in
    let files = g.D.Folder.bytes_at c.args.folder.now in
    let utf8 : IsUtf8 asked.pattern.now = search rules in
    let yes : is_some asked.text ≡ true = search rules in
    let opened : g.D.File.Source.left c.in-Ok.text ≡ left_of files asked None = search rules in
    IfErr-weaker c.search_in-2.result _ _
    (λ stop stops. file_stops files (g.W.Weights.table c.args.table.now) asked _ _ _ _ _ stop _ _ utf8 c.in_ok-pattern.ensures.compiled
    c.in_ok-pattern.ensures.accepted yes c.in-Ok.ensures.sound opened stops)
    c.search_in-2.ensures.reason

pub returns-clause-file : goal.returns-clause-file
returns-clause-file g c = λ _. refl

pub returns-in_default-open-clause-file : goal.returns-in_default-open-clause-file
returns-in_default-open-clause-file g c = λ _. refl

pub returns-in_err-pattern-clause-file : goal.returns-in_err-pattern-clause-file
returns-in_err-pattern-clause-file g c = λ _. refl

pub returns-in_default-open-clause-unasked : goal.returns-in_default-open-clause-unasked
returns-in_default-open-clause-unasked g c = λ _. (refl, refl)

pub returns-in_err-pattern-clause-unasked : goal.returns-in_err-pattern-clause-unasked
returns-in_err-pattern-clause-unasked g c = search rules depth 5

pub returns-in_default-clause-found : goal.returns-in_default-clause-found
returns-in_default-clause-found g c = search rules depth 6

pub returns-in_default-clause-reason : goal.returns-in_default-clause-reason
returns-in_default-clause-reason g c = search rules depth 6
