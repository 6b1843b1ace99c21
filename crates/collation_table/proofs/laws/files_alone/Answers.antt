use Rattle.collation_table.proofs.FileFaults.{file_alone_laws-hold}
use Rattle.collation_table.proofs.laws.files_alone.Goals as goal

pub returns : goal.returns
returns c = file_alone_laws-hold
