use Rattle.std.proofs.Common.{sym, ◌∙◌}
use Rattle.ns_types.proofs.TableRows.{no_entries}
use Rattle.ns_types.specs.State.Names.{has_key}
use Rattle.ns_blocked.specs.Blocked.{keys_of}
use Rattle.ns_blocked.proofs.Rooms.{all_new, checked, not_new, room_there}
use Rattle.ns_blocked.proofs.list.BlockedList.append_new.Goals as goal

pub block-requires : goal.block-requires
block-requires c = room_there c.loop-entry.self c.loop-entry.self _ _ _ _ c.in-Some.ensures.steps.0 c.loop-entry.invariant.0

pub loop-entry-preserved : goal.loop-entry-preserved
loop-entry-preserved c = checked c.args.self.now c.loop-entry.self c.block.new.self _ _ _ _ c.in-Some.ensures.steps.0 c.loop-entry.invariant
    ((λ i. has_key (keys_of c.loop-entry.self) (sym c.namespace.ensures i, sym c.number.ensures i)) ∙ sym c.has.ensures ∙ c.if-has.false)
    c.block.ensures.entries c.block.ensures.room

pub returns-then-has-clause-new : goal.returns-then-has-clause-new
returns-then-has-clause-new c = sym (not_new c.args.self.now c.loop-entry.self c.loop-entry.self _ _ _ _ c.in-Some.ensures.steps.0 c.loop-entry.invariant
    ((λ i. has_key (keys_of c.loop-entry.self) (sym c.namespace.ensures i, sym c.number.ensures i)) ∙ sym c.has.ensures ∙ c.if-has.true))

pub returns-clause-new : goal.returns-clause-new
returns-clause-new c = sym (all_new c.args.self.now c.loop-entry.self _ _ c.loop-entry.invariant
    (no_entries _ (sym c.loop-entry.entry-iterator.rest.ok.0 ∙ c.in-None.ensures.steps.0)))
