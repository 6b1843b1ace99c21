use Rattle.std.proofs.Common.{◌/◌, ◌%◌, ◌<◌, length, arith, sym, subst, Vec}
use Rattle.std.proofs.lemmas.Bool.{ltb-true}
use Rattle.collation_table.proofs.PageLemmas.{get_or_get, some_same}
use Rattle.collation_table.proofs.pages.Pages.has_room.Goals as goal

pub returns : goal.returns
returns c = λ more.
    let pages = c.args.self.now.pages in
    let v = c.index.result.now in
    let within : c.args.cp / 256 < length pages.items = omega (arith, pages.ok.0) in
    record {
      page = within;
      place = λ w is.
          let same = some_same _ v w (get_or_get pages.items (c.args.cp / 256) v v within (sym c.index.ensures)) is in
          subst (λ (x : Vec _ _). c.args.cp % 256 < length x.items) same (omega (arith, v.ok.0, c.len-2.ensures, ltb-true _ _ more));
    }
