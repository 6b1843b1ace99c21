use Rattle.std.proofs.Common.{◌≡◌, ◌∙◌, ◌∷◌, ◌++◌, ◌||◌, ℕ, [], ap, sym, refl}
use Rattle.std.specs.List.{list_any}
use Rattle.collation_table.specs.declared.rows.RowPlaces.{RowPlaces}
use Rattle.collation_table.specs.Entries.{rows_at, after}
use Rattle.collation_table.specs.Table.{TableMap}
use Rattle.collation_table.specs.Unsafe.{has_point, is_unsafe_by}
use Rattle.collation_table.specs.WellFormed.{AreLinesSound}
use Rattle.collation_table.proofs.RowLemmas.{AllByRecursion-push, AreStringsDistinct-push}
use Rattle.collation_table.proofs.IndexLemmas.{IsIndexed-push, rows_at-push}
use Rattle.collation_table.proofs.UnsafeLemmas.{any-push}
use Rattle.collation_table.proofs.rows.Rows.insert.Goals as goal

pub invariant_of-self : goal.invariant_of-self
invariant_of-self g c =
    let a = c.self.inside in
    let string = c.args.string.now in
    let row = c.args.row.now in
    let r : RowPlaces = record { string = after a.points.items string; row = after a.elements.items row } in
    let absent = rw (← c.self.view_is) at c.requires.absent in
    let rows = rows_at-push a.points.items string a.elements.items row a.places.items r c.self.invariant.1.within refl refl refl refl in
    let indexed = IsIndexed-push a.points.items string a.elements.items row a.places.items r (g.I.RowIndex.finds a.index) (g.I.RowIndex.finds c.store-stored.new.index) a.longest a.largest c.self.invariant.1 absent refl refl refl refl
    c.in-Ok.ensures.here c.in-Ok.ensures.others in
    let sound : AreLinesSound (record { rows = rows_at (a.points.items ++ string) (a.elements.items ++ row) (a.places.items ++ r ∷ []); ranges = a.ranges.items }) =
    rw rows (record { rows = AllByRecursion-push _ _ _ c.self.invariant.0.rows c.requires.sound; distinct = AreStringsDistinct-push _ string row c.self.invariant.0.distinct absent; ranges = c.self.invariant.0.ranges }) in
    let before = rows_at a.points.items a.elements.items a.places.items in
    let marked : (cp : ℕ) → has_point c.store-stored.new.unsafe_points cp ≡ list_any (is_unsafe_by cp) (rows_at (a.points.items ++ string) (a.elements.items ++ row) (a.places.items ++ r ∷ [])) = λ cp.
    c.in-Ok.ensures.unsafe_points cp ∙ ap (λ b. b || is_unsafe_by cp (string, row)) (c.self.invariant.3 cp) ∙ sym (any-push (is_unsafe_by cp) before (string, row)) ∙ ap (list_any (is_unsafe_by cp)) (sym rows) in
    rw (c.in-Ok.ensures.points, c.in-Ok.ensures.elements, c.in-Ok.ensures.places, c.max-self-inside.ensures, c.max-self-inside-in-Ok.ensures) (sound, indexed, c.in-Ok.ensures.whole, marked)

pub returns-in-Ok : goal.returns-in-Ok
returns-in-Ok g c =
    let a = c.self.inside in
    let string = c.args.string.now in
    let row = c.args.row.now in
    let r : RowPlaces = record { string = after a.points.items string; row = after a.elements.items row } in
    let rows : rows_at c.store-stored.new.points.items c.store-stored.new.elements.items c.store-stored.new.places.items ≡ c.args.self.now.rows ++ (string, row) ∷ [] =
    (λ i. rows_at (c.in-Ok.ensures.points i) (c.in-Ok.ensures.elements i) (c.in-Ok.ensures.places i))
    ∙ rows_at-push a.points.items string a.elements.items row a.places.items r c.self.invariant.1.within refl refl refl refl
    ∙ ap (λ (T : TableMap). T.rows ++ (string, row) ∷ []) c.self.view_is in
    let ranges : a.ranges.items ≡ c.args.self.now.ranges = ap (λ (T : TableMap). T.ranges) c.self.view_is in
    λ i. record { rows = rows i; ranges = ranges i }
