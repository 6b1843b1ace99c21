use Rattle.std.proofs.Common.{refl}
use Rattle.colfind_c.proofs.ExportLemmas.{kept_search}
use Rattle.colfind_c.proofs.anchored.equal_owned.Goals as goal

pub returns-in-Search-clause-kept : goal.returns-in-Search-clause-kept
returns-in-Search-clause-kept c = kept_search _ _ _ c.in-Search.is refl refl refl refl
