use Rattle.std.proofs.Common.{rules}
use Rattle.collation_table.specs.declared.table.Table.{Table}
use Rattle.collation_table.proofs.FileFaults.{IsResultOfFiles-from, AreBothRead-from, tailor_at_fault}
use Rattle.collation_table.proofs.table.Table.read_tailored.Goals as goal

pub returns-in_err-tailor-clause-fault : goal.returns-in_err-tailor-clause-fault
returns-in_err-tailor-clause-fault c =
    let known = tailor_at_fault c.args.base.now c.args.tailor.now c.new.result c.in_ok-base.base c.apart-base.result.1 0 _ c.in_err-tailor.ensures.fault
    c.apart-base.ensures.ranges c.in_ok-base.ensures.rows c.in_ok-base.ensures.ok c.new.ensures in
    search (rules, known)

pub returns : goal.returns
returns c =
    let both = AreBothRead-from c.args.base.now c.args.tailor.now c.new.result c.in_ok-base.base c.apart-base.result.0 c.apart-base.result.1 c.in_ok-tailor.tailor c.in_ok-rows.rows
    c.new.ensures c.in_ok-base.ensures.ok c.in_ok-base.ensures.rows c.apart-base.ensures.rows c.apart-base.ensures.ranges c.in_ok-tailor.ensures.ok c.in_ok-tailor.ensures.rows c.in_ok-rows.ensures in
    let told = IsResultOfFiles-from (λ (t : Table). t.rows) c.args.base.now c.args.tailor.now c.in_ok-rows.rows c.seal.result (λ t. t.well_formed) both c.seal.ensures in
    record { accepted = told.accepted; spelled = told.spelled; exact = told.exact; well_formed = told.well_formed; fault = told.fault }
