-- What a plan does on each node, as it is gathered.
use Rattle.std.specs.Prelude.{◌≡◌, ℕ, ◌<◌, ◌≤◌, List, [], drop, length, slice_index_or, take}
use Rattle.ns_types.specs.declared.plan.Placement.{Placement}
use Rattle.ns_types.specs.Working.Commit.{part_of, size_of}
use Rattle.ns_types.specs.State.Resources.{amount_of}
use Rattle.ns_plan.specs.Reader.{evictions_of}
use Rattle.ns_plan.specs.declared.gathering.NodePart.{NodePart}

-- what the placements on node k take, and the places of the plan between which these placements evict something
pub record IsPart (k : ℕ) (placements : List Placement) (part : NodePart) : Type 0 where
  pub size_is : part.size ≡ amount_of (size_of (part_of k placements))
  pub order : part.start ≤ part.end
  pub inside : part.end ≤ length placements
  pub none_before : evictions_of (part_of k (take part.start placements)) ≡ []
  pub none_behind : evictions_of (part_of k (drop part.end placements)) ≡ []

-- the parts of all nodes, by the node's place
abbrev pub AreParts : List Placement → List NodePart → Type 0
AreParts placements parts = (k : ℕ) → k < 1000 → (d : NodePart) → IsPart k placements (slice_index_or parts k d)
