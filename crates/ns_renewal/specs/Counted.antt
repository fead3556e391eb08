-- The evictions of placements that count.
use Rattle.std.specs.Prelude.{Bool, List, [], ◌∷◌, ◌++◌, filter, flat_map}
use Rattle.ns_types.specs.declared.plan.Eviction.{Eviction}
use Rattle.ns_types.specs.declared.plan.Placement.{Placement}

-- of each placement those of its evictions that pass
abbrev pub counted_of : (Placement → Eviction → Bool) → List Placement → List Eviction
counted_of passes placements = flat_map (λ p. filter (passes p) p.evictions) placements

-- the evictions that count, if only these evictions are left of the first placement
abbrev pub left_of : (Placement → Eviction → Bool) → List Placement → List Eviction → List Eviction
left_of passes [] evictions = []
left_of passes (p ∷ placements) evictions = filter (passes p) evictions ++ counted_of passes placements

abbrev pub first_evictions : List Placement → List Eviction
first_evictions [] = []
first_evictions (p ∷ placements) = p.evictions
