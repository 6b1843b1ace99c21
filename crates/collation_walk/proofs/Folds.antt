-- Calls of a sink in turn.
use Rattle.std.specs.List.{FoldsTo}
use Rattle.std.proofs.Common.{List, [], ◌∷◌, ◌++◌, sym, subst}

-- calls at some items and then at others
pub folds-append : {P A : Type 0} → (R : P → A → P → Type 0) (p : P) (xs ys : List A) (q r : P) → FoldsTo R p xs q → FoldsTo R q ys r → FoldsTo R p (xs ++ ys) r
folds-append {P} R p [] ys q r e h = let F : P → Type 0 = λ t. FoldsTo R t ys r in subst F (sym e) h
folds-append R p (x ∷ xs) ys q r c h = (c.0, c.1, folds-append R c.0 xs ys q r c.2 h)
