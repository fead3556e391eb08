use Rattle.std.proofs.Common.{sym, subst, ◌∙◌, ◌≡◌}
use Rattle.ns_settlement.specs.Owners.{ChangesRow}
use Rattle.ns_settlement.proofs.Owned.{all_ahead, all_done, none_done, one_done, room_now}
use Rattle.ns_settlement.proofs.commit.owners.commit_all.Goals as goal
use Rattle.ns_settlement.proofs.commit.owners.commit_all.Goals.{in-Some-slot, in_default}
use Rattle.ns_types.proofs.TableRows.{no_entries}

pub loop-name-init : goal.loop-name-init
loop-name-init g c = all_ahead g.Row.Owner.seen g.Row.Owner.changed g.Row.Owner.HasRoom c.args.changes c.args.table.now _
    (c.into_iter-name-iterator.ensures.into_iter_gives.0 ∙ c.into_slots-name-items.ensures) c.requires

pub returns : goal.returns
returns g c = all_done g.Row.Owner.seen g.Row.Owner.changed g.Row.Owner.HasRoom c.loop-name.table _ _
    (no_entries _ (sym c.loop-name.name-iterator.rest.ok.0 ∙ c.in-None.ensures.steps.0)) c.loop-name.invariant

pub commit_one-requires : goal.commit_one-requires
commit_one-requires g c = room_now g.Row.Owner.seen g.Row.Owner.changed g.Row.Owner.HasRoom c.loop-name.table c.loop-name.table c.in-Some.name c.in-Some.slot
    _ _ _
    c.in-Some.ensures.steps.0 c.loop-name.invariant c.in-Some-slot.change c.in-Some-slot.is

pub loop-name-preserved : goal.loop-name-preserved
loop-name-preserved g c = elim c.match-slot.branch [
  | in-Some-slot w ↦ one_done g.Row.Owner.seen g.Row.Owner.changed g.Row.Owner.HasRoom c.loop-name.table c.match-slot.table c.in-Some.name c.in-Some.slot _ _ _
      c.in-Some.ensures.steps.0 c.loop-name.invariant w.in-Some-slot.change w.in-Some-slot.is
      (subst (λ m. ChangesRow (λ a b. g.Row.Owner.seen b ≡ g.Row.Owner.changed (g.Row.Owner.seen a) w.in-Some-slot.change) c.in-Some.name c.loop-name.table m)
      (sym
      w.table-is) w.commit_one.ensures)
  | in_default w ↦ none_done g.Row.Owner.seen g.Row.Owner.changed g.Row.Owner.HasRoom c.loop-name.table c.match-slot.table c.in-Some.name c.in-Some.slot _ _ _
      c.in-Some.ensures.steps.0 c.loop-name.invariant w.in_default.is w.table-is
]
