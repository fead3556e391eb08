-- What is prepared for what is asked in a namespace is prepared for its step.
use Rattle.std.specs.Prelude.{◌≡◌, Option, Result, Ok, Err}
use Rattle.std.proofs.Common.{refl}
use Rattle.ns_types.specs.declared.refusal.Refusal.{Refusal}
use Rattle.ns_types.specs.declared.step.AskCommand.{AskCommand}
use Rattle.ns_types.specs.declared.step.Step.TheVariants as Step
use Rattle.ns_types.specs.Asking.Asks.{ask}
use Rattle.ns_types.specs.Asking.Policies.{with_world}
use Rattle.ns_types.specs.Settling.Outcome.{lift}
use Rattle.ns_types.specs.State.Names.{Name}
use Rattle.ns_types.specs.State.Rows.{State}
use Rattle.ns_types.specs.Steps.{act}
use Rattle.ns_change.specs.declared.change.Prepared.{Prepared}
use Rattle.ns_change.specs.Prepared.{Prepares, bounded}
use Rattle.ns_change.proofs.Making.{does, refuses}
use Rattle.ns_core.specs.declared.parts.Parts.{Parts}
use Rattle.ns_core.specs.Answering.{PreparesAsk}
use Rattle.ns_core.specs.Viewed.{state_of, world_of}

module _ (ns : Name) (secret : Option Name) (command : AskCommand) (s : State) where
  acts : act (Step.Ask ns secret command) s ≡ lift (with_world s.acl) (ask ns command s.world)
  unfolding act
  acts = refl

pub prepares : (parts : Parts) (ns : Name) (command : AskCommand) (result : Result Prepared Refusal)
    → Prepares (bounded (world_of parts) (ask ns command (world_of parts))) parts.tables result → PreparesAsk ns command parts result
prepares parts ns command (Ok x) h secret allowed = does (Step.Ask ns secret command) (state_of parts)
    (ask ns command (world_of parts)) (acts ns secret command (state_of parts)) allowed parts.tables x h
prepares parts ns command (Err refusal) h secret allowed = refuses (Step.Ask ns secret command) (state_of parts)
    (ask ns command (world_of parts)) (acts ns secret command (state_of parts)) allowed parts.tables refusal h
