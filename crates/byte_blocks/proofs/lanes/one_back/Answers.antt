use Rattle.std.proofs.Common.{◌++◌, get_or, ap, ◌∙◌, arith, length-append, rules}
use Rattle.std.proofs.lemmas.Simd.{pick_l-range_with_len, get_or-chunk}
use Rattle.byte_blocks.proofs.lanes.one_back.Goals as goal

pub returns : goal.returns
returns c =
    let both = c.args.before ++ c.args.here in
    let whole = pick_l-range_with_len 0 both 15 16 (omega (arith, length-append c.args.before c.args.here, c.fits-before.0, c.fits-here.0)) in
    record {
      long = search rules;
      each = λ k less. ap (λ l. get_or l k 0) whole ∙ get_or-chunk 15 16 both k 0 less;
    }
