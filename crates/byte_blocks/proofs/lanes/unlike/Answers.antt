use Rattle.std.proofs.Common.{◌∙◌, bit_xor, get_or, sym, ap}
use Rattle.byte_blocks.proofs.LaneLemmas.{lanes-zip2, xor-same, xor-self}
use Rattle.byte_blocks.proofs.lanes.unlike.Goals as goal

pub returns : goal.returns
returns c = λ k less.
    let each = (lanes-zip2 bit_xor c.args.a c.args.b c.fits-a.0 c.fits-b.0).each k less in (
      λ none. xor-same (get_or c.args.a k 0) (get_or c.args.b k 0) (sym each ∙ none),
      λ same. each ∙ ap (λ x. bit_xor x (get_or c.args.b k 0)) same ∙ xor-self (get_or c.args.b k 0),
    )
