use Rattle.std.proofs.Common.{◌≡◌, ◌∙◌, ◌<◌, ◌/◌, ◌%◌, sym, ap, arith, refl, length, Some}
use Rattle.std.proofs.lemmas.Option.{get_or_from_slice_get}
use Rattle.collation_table.specs.declared.pages.PageEntry.{PageEntry}
use Rattle.collation_table.specs.Trie.{in_page, page_entry, no_page_entry}
use Rattle.collation_table.proofs.PageLemmas.{get_or_get, page_entry-here, page_entry-others}
use Rattle.collation_table.proofs.pages.Pages.set_place.Goals as goal

pub index_mut-requires : goal.index_mut-requires
index_mut-requires c = omega (arith, c.in_ok-make_room.ensures.room.page, c.make_room.new.self.pages.ok.0)

pub index_mut-requires-2 : goal.index_mut-requires-2
index_mut-requires-2 c =
    let w = c.index_mut.result.now in
    omega (arith, w.ok.0, c.in_ok-make_room.ensures.room.place w (get_or_get _ _ w w c.in_ok-make_room.ensures.room.page (sym c.index_mut.ensures.value)))

pub returns-clause-here : goal.returns-clause-here
returns-clause-here c =
    let pages = c.make_room.new.self.pages.items in
    let w = c.index_mut.result.now in
    let e = c.index_mut-2.result.now in
    let there = get_or_get pages (c.args.cp / 256) w w c.in_ok-make_room.ensures.room.page (sym c.index_mut.ensures.value) in
    let within : c.args.cp % 256 < length w.items = c.in_ok-make_room.ensures.room.place w there in
    let was : page_entry c.args.self.now.pages.items c.args.cp ≡ e =
    sym (c.in_ok-make_room.ensures.same c.args.cp) ∙ ap (λ o. in_page o (c.args.cp % 256)) there
    ∙ get_or_from_slice_get w.items (c.args.cp % 256) e no_page_entry (get_or_get w.items (c.args.cp % 256) e e within (sym c.index_mut-2.ensures.value)) in
    page_entry-here pages c.args.cp _ w _ c.in_ok-make_room.ensures.room.page within refl
    ∙ ap (λ (x : PageEntry). record x { entry = record x.entry { place = Some c.args.place } }) (sym was)

pub returns-clause-others : goal.returns-clause-others
returns-clause-others c = λ q other.
    let w = c.index_mut.result.now in
    page_entry-others _ c.args.cp _ w _ (get_or_get _ _ w w c.in_ok-make_room.ensures.room.page (sym c.index_mut.ensures.value)) refl q other ∙ c.in_ok-make_room.ensures.same q
