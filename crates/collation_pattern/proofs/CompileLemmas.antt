-- The keys of items, the first item apart.
use Rattle.std.proofs.Common.{◌≡◌, ℕ, ◌+◌, ◌<◌, List, [], ◌∷◌, ◌++◌, length, drop, get_or, sym, ◌∙◌, ap, append_assoc}
use Rattle.std.proofs.lemmas.List.{append-nil, at_drop_more}
use Rattle.collation_elements.specs.declared.keys.Key.{Key}
use Rattle.collation_elements.specs.declared.keys.Item.{Item}
use Rattle.collation_elements.specs.ItemParts.{keys_in, item_keys}

pub item_keys-next : (xs : List Item) (i : ℕ) (d : Item) (ks : List Key) → i < length xs →
    (ks ++ item_keys (get_or xs i d ∷ [])) ++ item_keys (drop (i + 1) xs) ≡ ks ++ item_keys (drop i xs)
item_keys-next xs i d ks below =
    append_assoc ks (item_keys (get_or xs i d ∷ [])) (item_keys (drop (i + 1) xs))
    ∙ ap (λ (rest : List Key). ks ++ (rest ++ item_keys (drop (i + 1) xs))) (append-nil (keys_in (get_or xs i d)))
    ∙ ap (λ (rest : List Key). ks ++ rest) (sym (at_drop_more item_keys xs i d below))
