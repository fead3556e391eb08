use Rattle.std.proofs.Common.{ap, refl, sym, ◌∙◌}
use Rattle.std.specs.Option.{option_copied_mut}
use Rattle.keyed.proofs.Levels.{no_slots, row_here}
use Rattle.ns_queues.proofs.BusyNames.{all_removed, name_removed, none_removed}
use Rattle.ns_types.proofs.Named.{numbers}
use Rattle.ns_queues.proofs.busy.BusyWorkers.remove.Goals as goal

pub returns-in_default : goal.returns-in_default
returns-in_default c = none_removed c.args.self.now c.args.number c.args.namespace.now (sym c.get_mut.ensures.value ∙ ap option_copied_mut c.in_default.is)

pub returns-then-is_empty : goal.returns-then-is_empty
returns-then-is_empty c =
    let left = name_removed c.args.self.now _ c.args.number c.in-Some.names.now c.remove.new.self
    (sym c.get_mut.ensures.value ∙ ap option_copied_mut c.in-Some.is) refl c.args.namespace.now c.remove.ensures in
    all_removed c.args.self.now _ _ c.args.number c.args.namespace.now c.remove.new.self left (row_here numbers _ _ _ _ refl)
    (no_slots c.remove.new.self c.as_slice.result.now c.as_slice.ensures (sym c.is_empty.ensures ∙ c.if-is_empty.true)) c.remove-then-is_empty.ensures

pub returns-else-is_empty : goal.returns-else-is_empty
returns-else-is_empty c = name_removed c.args.self.now _ c.args.number c.in-Some.names.now c.remove.new.self
    (sym c.get_mut.ensures.value ∙ ap option_copied_mut c.in-Some.is) refl c.args.namespace.now c.remove.ensures
