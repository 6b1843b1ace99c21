use Rattle.std.proofs.Common.{[]}
use Rattle.collation_table.specs.declared.plain_table.PlainTable.{PlainTable}
use Rattle.collation_table.proofs.FileFaults.{IsResultOfFiles-from, AreBothRead-alone}
use Rattle.collation_table.proofs.plain_table.PlainTable.read.Goals as goal

pub returns : goal.returns
returns c =
    let both = AreBothRead-alone c.args.bytes.now c.new.result c.in_ok-rows.rows c.new.ensures c.in_ok-rows.ensures.ok c.in_ok-rows.ensures.rows in
    let told = IsResultOfFiles-from (λ (t : PlainTable). t.rows) c.args.bytes.now [] c.in_ok-rows.rows c.seal.result (λ t. t.well_formed) both c.seal.ensures in
    record { accepted = told.accepted; spelled = told.spelled; exact = told.exact; well_formed = told.well_formed; fault = told.fault }
