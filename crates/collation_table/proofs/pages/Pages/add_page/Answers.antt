use Rattle.std.proofs.Common.{◌≡◌, ◌∙◌, ◌<◌, ◌≤◌, ◌/◌, ◌%◌, sym, ap, subst, arith, length, Vec, length-set}
use Rattle.collation_table.proofs.PageLemmas.{get_or_get, get_set, some_same, page_entry-filled}
use Rattle.collation_table.proofs.pages.Pages.add_page.Goals as goal

pub returns-in_ok-resize-clause-same : goal.returns-in_ok-resize-clause-same
returns-in_ok-resize-clause-same c = λ q.
    let pages = c.loop-alloc.self.pages in
    let w = c.index_mut.result.now in
    let within : c.args.cp / 256 < length pages.items = omega (arith, pages.ok.0) in
    let v = c.index.result.now in
    let same : v ≡ w = some_same _ v w (get_or_get pages.items (c.args.cp / 256) v v within (sym c.index.ensures)) (get_or_get pages.items (c.args.cp / 256) w w within (sym c.index_mut.ensures.value)) in
    let short : length w.items ≤ 256 = omega (arith, v.ok.0, ap (λ (x : Vec _ _). length x.items) same) in
    page_entry-filled pages.items (c.args.cp / 256) _ 256 c.resize.new.self w (get_or_get pages.items (c.args.cp / 256) w w within (sym c.index_mut.ensures.value)) short c.in_ok-resize.ensures.items q ∙ c.loop-alloc.invariant q

pub returns-in_ok-resize-clause-room : goal.returns-in_ok-resize-clause-room
returns-in_ok-resize-clause-room c =
    let pages = c.loop-alloc.self.pages in
    let v = c.resize.new.self in
    let within : c.args.cp / 256 < length pages.items = omega (arith, pages.ok.0) in
    record {
      page = omega (arith, length-set pages.items (c.args.cp / 256) v);
      place = λ w is.
          let same = some_same _ v w (get_set pages.items (c.args.cp / 256) v within) is in
          subst (λ (x : Vec _ _). c.args.cp % 256 < length x.items) same (omega (arith, v.ok.0, c.in_ok-resize.ensures.len));
    }

pub returns-else-len-clause-room : goal.returns-else-len-clause-room
returns-else-len-clause-room c =
    let pages = c.loop-alloc.self.pages in
    let v = c.index.result.now in
    let within : c.args.cp / 256 < length pages.items = omega (arith, pages.ok.0) in
    record {
      page = within;
      place = λ w is.
          let same = some_same _ v w (get_or_get pages.items (c.args.cp / 256) v v within (sym c.index.ensures)) is in
          subst (λ (x : Vec _ _). c.args.cp % 256 < length x.items) same (omega (arith, v.ok.0));
    }
