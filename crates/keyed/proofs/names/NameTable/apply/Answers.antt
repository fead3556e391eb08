use Rattle.std.proofs.Common.{sym, ◌∙◌}
use Rattle.keyed.specs.Table.{rows}
use Rattle.ns_types.proofs.Named.{names, one_name}
use Rattle.ns_types.proofs.TableRows.{no_entries}
use Rattle.keyed.proofs.Applying.{all_left, next_room, none_left, row_gone, row_put}
use Rattle.keyed.proofs.names.NameTable.apply.Goals as goal
use Rattle.keyed.proofs.names.NameTable.apply.Goals.{in-Some-slot, in-None-slot}

pub set-requires : goal.set-requires
set-requires g c = next_room names one_name c.loop-key.self (c.in-Some.key, c.in-Some.slot) _ _ _ c.in-Some.ensures.steps.0 c.loop-key.invariant

pub loop-key-init : goal.loop-key-init
loop-key-init g c = all_left names one_name c.args.changes c.args.self.now _
    (c.into_iter-key-iterator.ensures.into_iter_gives.0 ∙ c.into_slots-key-items.ensures) c.requires

pub loop-key-preserved : goal.loop-key-preserved
loop-key-preserved g c = elim c.match-slot.branch [
  | in-Some-slot w ↦ row_put names one_name c.loop-key.self c.match-slot.self c.in-Some.key c.in-Some.slot w.in-Some-slot.row _ _ _
      (w.self-is ∙ w.set.ensures) w.in-Some-slot.is c.in-Some.ensures.steps.0 c.loop-key.invariant
  | in-None-slot w ↦ row_gone names one_name c.loop-key.self c.match-slot.self c.in-Some.key c.in-Some.slot _ _ _ (w.self-is ∙ w.remove.ensures)
      w.in-None-slot.is c.in-Some.ensures.steps.0 c.loop-key.invariant
]

pub returns : goal.returns
returns g c = none_left names one_name c.loop-key.self _ (rows c.args.self.now) c.args.changes
    (no_entries _ (sym c.loop-key.key-iterator.rest.ok.0 ∙ c.in-None.ensures.steps.0)) c.loop-key.invariant
