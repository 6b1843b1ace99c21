use Rattle.std.proofs.Common.{◌≡◌, ℕ, List, [], take, drop, sym, ◌∙◌, ap, arith}
use Rattle.std.proofs.lemmas.List.{take-map}
use Rattle.nfd_points.specs.declared.points.Point.{Point}
use Rattle.circular_buffer.specs.Buffer.{Buffer, buffer}
use Rattle.collation_elements.specs.Units.{code_points, Cut, extended}
use Rattle.collation_elements.specs.Windows.{next_cut}
use Rattle.collation_elements.proofs.Cutting.{next_cut-of}
use Rattle.collation_elements.proofs.Cuts.{IsUnitOf-cut}
use Rattle.collation_elements.proofs.Longest.{longest_prefix-le_longest, prefix_length-le}
use Rattle.collation_elements.proofs.window.cut_string.Goals as goal

pub copy_prefix-requires : goal.copy_prefix-requires
copy_prefix-requires g c =
    let sizes = g.met.W.Weights.sizes c.args.table.now in
    omega (arith, c.requires.beginning, sizes.string, longest_prefix-le_longest (g.W.Weights.table c.args.table.now) (code_points c.args.points.now.items))

pub skip-requires : goal.skip-requires
skip-requires g c =
    omega (arith, c.requires.beginning, prefix_length-le (g.W.Weights.table c.args.table.now) c.args.points.now.items c.requires.some)

pub returns-clause-rest : goal.returns-clause-rest
returns-clause-rest g c =
    let T = g.W.Weights.table c.args.table.now in
    let ps : List Point = c.args.points.now.items in
    let n : ℕ = c.args.taken in
    let codes_are : code_points (take n ps) ≡ c.copy_prefix.new.prefix.items = sym (c.copy_prefix.ensures ∙ take-map (λ p. p.cp) n ps) in
    c.take_joining.ensures.rest (take n ps) codes_are
    ∙ ap (λ (q : Buffer Point). buffer (extended T (take n ps) [] q.items).rest q.capacity) c.skip.ensures
    ∙ ap (λ (k : ℕ). buffer (extended T (take k ps) [] (drop k ps)).rest c.args.points.now.capacity) c.requires.beginning
    ∙ ap (λ (cut : Cut). buffer cut.rest c.args.points.now.capacity) (sym (next_cut-of T ps c.requires.some))

pub returns-clause-unit : goal.returns-clause-unit
returns-clause-unit g c =
    let T = g.W.Weights.table c.args.table.now in
    let ps : List Point = c.args.points.now.items in
    let n : ℕ = c.args.taken in
    let codes_are : code_points (take n ps) ≡ c.copy_prefix.new.prefix.items = sym (c.copy_prefix.ensures ∙ take-map (λ p. p.cp) n ps) in
    let string_is : c.as_slice.result.now ≡ code_points (next_cut T ps).unit = c.as_slice.ensures.value ∙ c.take_joining.ensures.string (take n ps) codes_are ∙ ap (λ (q : Buffer Point). code_points (extended T (take n ps) [] q.items).unit) c.skip.ensures ∙ ap (λ (k : ℕ). code_points (extended T (take k ps) [] (drop k ps)).unit) c.requires.beginning ∙ ap (λ (cut : Cut). code_points cut.unit) (sym (next_cut-of T ps c.requires.some)) in
    IsUnitOf-cut T ps c.as_slice.result.now c.point-first_point.result c.new.result c.requires.some c.point-first_point.ensures.point string_is c.new.ensures.first_point c.new.ensures.elements
