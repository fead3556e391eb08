-- What is prepared for a command on a node is prepared for its step, and what such commands want to know of the core.
use Rattle.std.specs.Prelude.{◌≡◌, Option, Result, Ok, Err}
use Rattle.std.proofs.Common.{refl}
use Rattle.ns_types.specs.declared.refusal.Refusal.{Refusal}
use Rattle.ns_types.specs.declared.step.NodeCommand.{NodeCommand}
use Rattle.ns_types.specs.declared.step.Step.TheVariants as Step
use Rattle.ns_types.specs.Asking.Nodes.{ask_pool}
use Rattle.ns_types.specs.Asking.Policies.{with_world}
use Rattle.ns_types.specs.Settling.Outcome.{lift}
use Rattle.ns_types.specs.State.Names.{Name}
use Rattle.ns_types.specs.State.Rows.{State}
use Rattle.ns_types.specs.Steps.{act}
use Rattle.ns_change.specs.declared.change.Prepared.{Prepared}
use Rattle.ns_change.specs.Prepared.{Prepares, bounded}
use Rattle.ns_change.proofs.Making.{does, refuses}
use Rattle.ns_live_index.proofs.Administered.{loads_fit}
use Rattle.ns_nodes.specs.Listed.{LoadsFit}
use Rattle.ns_core.specs.declared.parts.Parts.{Parts}
use Rattle.ns_core.specs.Answering.{PreparesNode}
use Rattle.ns_types.specs.Validity.{IsValid}
use Rattle.ns_core.specs.Viewed.{state_of, world_of}

module _ (pool : Name) (secret : Option Name) (command : NodeCommand) (s : State) where
  acts : act (Step.Node pool secret command) s ≡ lift (with_world s.acl) (ask_pool pool command s.world)
  unfolding act
  acts = refl

pub prepares : (parts : Parts) (pool : Name) (command : NodeCommand) (result : Result Prepared Refusal)
    → Prepares (bounded (world_of parts) (ask_pool pool command (world_of parts))) parts.tables result → PreparesNode pool command parts result
prepares parts pool command (Ok x) h secret allowed = does (Step.Node pool secret command) (state_of parts)
    (ask_pool pool command (world_of parts)) (acts pool secret command (state_of parts)) allowed parts.tables x h
prepares parts pool command (Err refusal) h secret allowed = refuses (Step.Node pool secret command) (state_of parts)
    (ask_pool pool command (world_of parts)) (acts pool secret command (state_of parts)) allowed parts.tables refusal h

-- ---- loads

pub loads_of : (s : State) → IsValid s → (pool : Name) → LoadsFit s.world pool
loads_of s valid pool name = loads_fit s.world valid.world pool name
