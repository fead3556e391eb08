-- The keys of a node in their order, and the rows at keys.
use Rattle.std.specs.Prelude.{List, [], ◌∷◌, Option, flat_map, map}
use Rattle.std.specs.FinMap.{entries, keys}
use Rattle.keyed.specs.Table.{rows, with_row}
use Rattle.ns_types.specs.State.Names.{Key}
use Rattle.keyed.specs.declared.key_set.KeySet.{KeySet}

-- the keys of a set, by namespace and then by number
abbrev pub keys_in : KeySet → List Key
keys_in held = flat_map (λ namespace. map (λ n. (namespace.0, n)) (keys (rows namespace.1)))
    (entries (rows held.numbers))

-- the rows that are found at the keys, in the order of the keys
abbrev pub found_at : {K X : Type 0} → (K → Option X) → List K → List (K × X)
found_at look [] = []
found_at look (k ∷ ks) = with_row k (look k) (found_at look ks)
