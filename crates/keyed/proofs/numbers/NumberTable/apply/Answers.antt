use Rattle.std.proofs.Common.{sym, ◌∙◌}
use Rattle.keyed.specs.Table.{rows}
use Rattle.ns_types.proofs.Named.{numbers, one_number}
use Rattle.ns_types.proofs.TableRows.{no_entries}
use Rattle.keyed.proofs.Applying.{all_left, next_room, none_left, row_gone, row_put}
use Rattle.keyed.proofs.numbers.NumberTable.apply.Goals as goal

pub set-requires : goal.set-requires
set-requires g c = next_room numbers one_number c.loop-key.self (c.in-Some.key, c.in-Some.slot) _ _ _ c.in-Some.ensures.steps.0 c.loop-key.invariant

pub loop-key-init : goal.loop-key-init
loop-key-init g c = all_left numbers one_number c.args.changes c.args.self.now _
    (c.into_iter-key-iterator.ensures.into_iter_gives.0 ∙ c.into_slots-key-items.ensures) c.requires

pub loop-key-preserved-in-Some-slot : goal.loop-key-preserved-in-Some-slot
loop-key-preserved-in-Some-slot g c = row_put numbers one_number c.loop-key.self c.set.new.self c.in-Some.key c.in-Some.slot c.in-Some-slot.row _ _ _
    c.set.ensures c.in-Some-slot.is c.in-Some.ensures.steps.0 c.loop-key.invariant

pub loop-key-preserved : goal.loop-key-preserved
loop-key-preserved g c = row_gone numbers one_number c.loop-key.self c.remove.new.self c.in-Some.key c.in-Some.slot _ _ _ c.remove.ensures c.in-None-slot.is
    c.in-Some.ensures.steps.0 c.loop-key.invariant

pub returns : goal.returns
returns g c = none_left numbers one_number c.loop-key.self _ (rows c.args.self.now) c.args.changes
    (no_entries _ (sym c.loop-key.key-iterator.rest.ok.0 ∙ c.in-None.ensures.steps.0)) c.loop-key.invariant
