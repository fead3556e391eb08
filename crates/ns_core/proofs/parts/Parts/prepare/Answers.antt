use Rattle.std.specs.Prelude.{Result}
use Rattle.std.proofs.Common.{refl, sym, subst}
use Rattle.ns_types.specs.declared.refusal.Refusal.{Refusal}
use Rattle.ns_types.specs.declared.step.AskCommand.{AskCommand}
use Rattle.ns_types.specs.Asking.Asks.{ask}
use Rattle.ns_types.specs.State.Names.{Name}
use Rattle.ns_change.specs.declared.change.Prepared.{Prepared}
use Rattle.ns_change.specs.Prepared.{Prepares, bounded}
use Rattle.ns_change.proofs.Prepares.{prepares_as}
use Rattle.ns_core.specs.declared.parts.Parts.{Parts}
use Rattle.ns_core.specs.Viewed.{state_of, world_of}
use Rattle.ns_core.proofs.Counting.{counts}
use Rattle.ns_core.proofs.Keeping.{few_versions, within}
use Rattle.ns_core.proofs.Preparing.{prepares}
use Rattle.ns_core.proofs.parts.Parts.prepare.Goals as goal

-- the command as it was found
abbrev PreparesBounded : Parts → Name → Result Prepared Refusal → AskCommand → Type 0
PreparesBounded parts ns result command = Prepares (bounded (world_of parts) (ask ns command (world_of parts))) parts.tables result

pub register-requires : goal.register-requires
register-requires c = few_versions (state_of c.args.self.now) c.requires.valid c.args.namespace.now

pub stop_allocation-requires : goal.stop_allocation-requires
stop_allocation-requires c = within (state_of c.args.self.now) c.requires.valid

pub returns-in-Register : goal.returns-in-Register
returns-in-Register c = prepares c.args.self.now c.args.namespace.now c.args.command.now c.register.result
    (subst (PreparesBounded c.args.self.now c.args.namespace.now c.register.result) (sym c.in-Register.is)
    (prepares_as _ _ c.args.self.now.tables c.register.result
    (sym (counts (state_of c.args.self.now) c.requires.valid c.args.namespace.now (AskCommand.Register c.in-Register.registration) refl)) c.register.ensures))

pub returns-in-Deregister : goal.returns-in-Deregister
returns-in-Deregister c = prepares c.args.self.now c.args.namespace.now c.args.command.now c.deregister.result
    (subst (PreparesBounded c.args.self.now c.args.namespace.now c.deregister.result) (sym c.in-Deregister.is)
    (prepares_as _ _ c.args.self.now.tables c.deregister.result
    (sym (counts (state_of c.args.self.now) c.requires.valid c.args.namespace.now (AskCommand.Deregister c.in-Deregister.id c.in-Deregister.purge) refl))
    c.deregister.ensures))

pub returns-in-StopAllocation : goal.returns-in-StopAllocation
returns-in-StopAllocation c = prepares c.args.self.now c.args.namespace.now c.args.command.now c.stop_allocation.result
    (subst (PreparesBounded c.args.self.now c.args.namespace.now c.stop_allocation.result) (sym c.in-StopAllocation.is) c.stop_allocation.ensures)
