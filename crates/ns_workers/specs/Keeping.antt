-- How the keeper of a log's segments changes.
use Rattle.std.specs.Prelude.{◌≡◌, List, [], ◌∷◌}
use Rattle.ns_log.specs.Segments.{Given}

-- the keeper takes these segments, one after the other, and changes in no other way
abbrev pub TakesAll : {K : Type 0} → (K → Given → K → Type 0) → List Given → K → K → Type 0
TakesAll takes [] k k' = k' ≡ k
TakesAll {K} takes (segment ∷ segments) k k' = (mid : K) × takes k segment mid × TakesAll takes segments mid k'

-- the keeper takes some segments, one after the other
abbrev pub TakesSome : {K : Type 0} → (K → Given → K → Type 0) → K → K → Type 0
TakesSome takes k k' = (segments : List Given) × TakesAll takes segments k k'
