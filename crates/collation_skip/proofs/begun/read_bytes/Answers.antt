use Rattle.collation_skip.proofs.begun.read_bytes.Goals as goal

pub returns-in-None : goal.returns-in-None
returns-in-None c = c.requires
