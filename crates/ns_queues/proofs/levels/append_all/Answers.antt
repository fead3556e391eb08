use Rattle.std.proofs.Common.{refl, sym, ◌∙◌}
use Rattle.ns_types.proofs.TableRows.{no_entries}
use Rattle.ns_queues.proofs.Grouped.{all_appended, none_added, none_appended, one_appended, room_now}
use Rattle.ns_queues.proofs.levels.append_all.Goals as goal

pub append-requires : goal.append-requires
append-requires c = room_now c.args.groups c.in-Some.priority c.in-Some.slot _ _ c.in-Some.ensures.steps.0 c.args.levels.now c.loop-priority.levels
    c.loop-priority.invariant c.in-Some-slot.keys c.in-Some-slot.is

pub loop-priority-init : goal.loop-priority-init
loop-priority-init c = none_appended c.args.groups c.args.levels.now _
    (c.into_iter-priority-iterator.ensures.into_iter_gives.0 ∙ c.into_slots-priority-items.ensures) c.requires

pub loop-priority-preserved-in-Some-slot : goal.loop-priority-preserved-in-Some-slot
loop-priority-preserved-in-Some-slot c = one_appended c.args.groups c.in-Some.priority c.in-Some.slot _ _ c.in-Some.ensures.steps.0 c.args.levels.now
    c.loop-priority.levels c.loop-priority.invariant c.append.new.levels c.in-Some-slot.keys c.in-Some-slot.is c.append.ensures.others c.append.ensures.here

pub loop-priority-preserved : goal.loop-priority-preserved
loop-priority-preserved c = none_added c.args.groups c.in-Some.priority c.in-Some.slot _ _ c.in-Some.ensures.steps.0 c.args.levels.now
    c.loop-priority.levels c.loop-priority.invariant c.loop-priority.levels c.in_default.is refl

pub returns : goal.returns
returns c = all_appended c.args.groups c.args.levels.now c.loop-priority.levels _
    (no_entries _ (sym c.loop-priority.priority-iterator.rest.ok.0 ∙ c.in-None.ensures.steps.0)) c.loop-priority.invariant
