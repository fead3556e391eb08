-- What is chosen while a plan is made, and what placing changes, as the code holds it.
use Rattle.std.specs.Prelude.{◌≡◌, ◌≤◌, ⊤, ℕ, IsTrue, List, Option, Some, None, length, take}
use Rattle.ns_types.specs.declared.plan.Demand.{Demand}
use Rattle.ns_types.specs.declared.plan.Placement.{Placement}
use Rattle.ns_types.specs.declared.resources.Resources.{Resources}
use Rattle.ns_types.specs.declared.snapshot.QuotaSeen.{QuotaSeen}
use Rattle.ns_types.specs.Placing.Placement.{Candidate}
use Rattle.ns_types.specs.Placing.Planning.{Site, choice, placed_one}
use Rattle.ns_types.specs.State.Resources.{InEach, quantity}
use Rattle.ns_types.specs.Placing.Preemption.{makes_room}

abbrev pub site : List Candidate → Resources → Site
site cs used = record { candidates = cs; used = used }

-- the choice is that node, with the first n of the allocations that the job may evict there as victims, and without
-- these there is room
pub record IsChosen (size : Resources) (cs : List Candidate) (node n : ℕ) (c : Candidate) : Type 0 where
  pub within : n ≤ length c.evictable
  pub room : IsTrue (makes_room size c (take n c.evictable))
  pub chosen : choice size cs ≡ Some (record { node = node; victims = take n c.evictable })

-- the demand is placed, or no node can take it and nothing changes
abbrev pub IsNext : QuotaSeen → Demand → Site → Site → Option Placement → Type 0
IsNext q d w w' None = (placed_one q d w ≡ None) × (w' ≡ w)
IsNext q d w w' (Some p) = placed_one q d w ≡ Some (p, w')

-- there is no choice for the size that was refused last, if one was
abbrev pub IsRefused : Option Resources → List Candidate → Type 0
IsRefused None cs = ⊤
IsRefused (Some size) cs = choice size cs ≡ None

-- in each resource a is at most b
abbrev pub IsWithin : Resources → Resources → Type 0
IsWithin a b = InEach (λ r. quantity r a ≤ quantity r b)
