-- Fronts of a list of characters, one character more.
use Rattle.std.specs.Char.{len_utf8}
use Rattle.std.proofs.Common.{◌≡◌, ℕ, suc, ◌+◌, ◌<◌, ◌≤◌, List, [], ◌∷◌, ◌++◌, length, take, drop, get_or, sym, ◌∙◌, ap, arith, refl, false}
use Rattle.std.proofs.lemmas.List.{take_more}
use Rattle.std.proofs.Math.Seq.{split_at}
use Rattle.std.proofs.lemmas.List.{append-nil}
use Rattle.nfd_points.specs.declared.points.Point.{Point}
use Rattle.nfd_points.specs.Points.{byte_len}
use Rattle.collation_table.specs.Table.{TableMap}
use Rattle.collation_elements.specs.declared.keys.Item.{Item}
use Rattle.collation_elements.specs.declared.settings.Strength.{Strength}
use Rattle.collation_elements.specs.declared.settings.Variable.{Variable}
use Rattle.collation_elements.specs.declared.weigher.Weigher.{Weigher}
use Rattle.collation_elements.specs.Units.{units}
use Rattle.collation_elements.specs.Items.{items}
use Rattle.collation_elements.specs.Texts.{Gives}
use Rattle.collation_elements.specs.Windows.{Held}
use Rattle.collation_elements.proofs.PointLaws.{byte_len-append}

pub byte_len-one : (c : ℕ) → byte_len (c ∷ []) ≡ len_utf8 c
unfolding byte_len
byte_len-one c = omega arith

pub next_prefix : (cs : List ℕ) (i c : ℕ) → i < length cs → c ≡ get_or cs i c → take (i + 1) cs ≡ take i cs ++ c ∷ []
next_prefix cs i c below is = take_more cs i c below ∙ ap (λ x. take i cs ++ x ∷ []) (sym is)

pub next_bytes : (cs : List ℕ) (i c : ℕ) → i < length cs → c ≡ get_or cs i c → byte_len (take (i + 1) cs) ≡ byte_len (take i cs) + len_utf8 c
next_bytes cs i c below is =
    let parts = ap byte_len (next_prefix cs i c below is) in
    let sum = byte_len-append (take i cs) (c ∷ []) in
    let one = byte_len-one c in omega arith

pub around : (cs : List ℕ) (i c : ℕ) → i < length cs → c ≡ get_or cs i c → cs ≡ take i cs ++ c ∷ drop (suc i) cs
around cs i c below is = split_at cs i c below ∙ ap (λ x. take i cs ++ x ∷ drop (suc i) cs) (sym is)

pub prefix_bytes : (cs : List ℕ) (i c : ℕ) → i < length cs → c ≡ get_or cs i c → byte_len (take i cs) + len_utf8 c ≤ byte_len cs
prefix_bytes cs i c below is =
    let parts = ap byte_len (around cs i c below is) in
    let sum = byte_len-append (take i cs) (c ∷ drop (suc i) cs) in
    let rest = byte_len-append (c ∷ []) (drop (suc i) cs) in
    let one = byte_len-one c in omega arith

-- ---- all units

-- the items of all points, where the window holds none any more
pub gives_all : (table : TableMap) (window : Held) (weigher : Weigher) (given : List Item) (taken : List Point) (strength : Strength) (variable : Variable) →
    Gives table window weigher given taken → window.points ≡ [] → weigher.strength ≡ strength → weigher.variable ≡ variable →
    given ≡ items table strength variable false (units table taken)
gives_all table window weigher given taken strength variable gives none same_strength same_variable =
    let all = gives.cut.continues [] (λ e. refl) in
    let following : units table (window.points ++ []) ≡ [] = ap (λ ps. units table (ps ++ [])) none in
    let cut : units table taken ≡ gives.units = ap (units table) (sym (append-nil taken)) ∙ all ∙ ap (λ us. gives.units ++ us) following ∙ append-nil gives.units in
    gives.weighed.items ∙ ap (λ s. items table s weigher.variable false gives.units) same_strength ∙ ap (λ v. items table strength v false gives.units) same_variable
    ∙ ap (λ us. items table strength variable false us) (sym cut)
