use Rattle.collation_elements.proofs.ItemLaws.{weigher_goes_on}
use Rattle.collation_elements.proofs.laws.weighers_go_on.Goals as goal

pub returns : goal.returns
returns c = weigher_goes_on
