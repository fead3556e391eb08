-- What the victims on a node cost.
use Rattle.std.specs.Prelude.{Option, length}
use Rattle.std.specs.Option.{option_map}
use Rattle.ns_types.specs.declared.resources.Resources.{Resources}
use Rattle.ns_types.specs.Placing.Placement.{Candidate}
use Rattle.ns_types.specs.Placing.Preemption.{highest_priority, victims}
use Rattle.ns_preempt.specs.declared.cost.Cost.{Cost}

-- the highest priority among the node's victims, and how many they are; none where it has no victims
abbrev pub cost_of : Resources → Candidate → Option Cost
cost_of size c = option_map (λ v. record { highest_priority = highest_priority v; victims = length v }) (victims size c)
