use Rattle.std.proofs.Common.{◌∙◌, sym, arith, refl}
use Rattle.collation_table.proofs.PageLemmas.{get_or_get, page_entry-here, page_entry-others}
use Rattle.collation_table.proofs.pages.Pages.set.Goals as goal

pub index_mut-requires : goal.index_mut-requires
index_mut-requires c = omega (arith, c.in_ok-make_room.ensures.room.page, c.make_room.new.self.pages.ok.0)

pub index_mut-requires-2 : goal.index_mut-requires-2
index_mut-requires-2 c =
    let w = c.index_mut.result.now in
    omega (arith, w.ok.0, c.in_ok-make_room.ensures.room.place w (get_or_get _ _ w w c.in_ok-make_room.ensures.room.page (sym c.index_mut.ensures.value)))

pub returns-clause-here : goal.returns-clause-here
returns-clause-here c =
    let w = c.index_mut.result.now in
    page_entry-here _ c.args.cp _ w c.args.entry c.in_ok-make_room.ensures.room.page (c.in_ok-make_room.ensures.room.place w (get_or_get _ _ w w c.in_ok-make_room.ensures.room.page (sym c.index_mut.ensures.value))) refl

pub returns-clause-others : goal.returns-clause-others
returns-clause-others c = λ q other.
    let w = c.index_mut.result.now in
    page_entry-others _ c.args.cp _ w c.args.entry (get_or_get _ _ w w c.in_ok-make_room.ensures.room.page (sym c.index_mut.ensures.value)) refl q other ∙ c.in_ok-make_room.ensures.same q
