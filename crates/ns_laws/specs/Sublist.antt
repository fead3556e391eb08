-- Lists without some of their elements.
use Rattle.std.specs.Prelude.{List, [], ◌∷◌}

-- the first list is the second without some of its elements, or all of it, in the same order
pub data IsSublist {X : Type 0} : List X → List X → Type 0 where
  both_end : IsSublist [] []
  taken : (x : X) (xs ys : List X) → IsSublist xs ys → IsSublist (x ∷ xs) (x ∷ ys)
  left : (y : X) (xs ys : List X) → IsSublist xs ys → IsSublist xs (y ∷ ys)
