use Rattle.std.proofs.Common.{sym, subst, ◌∙◌, ◌≡◌}
use Rattle.ns_settlement.specs.Owners.{Always, ChangesRow}
use Rattle.ns_settlement.proofs.Owned.{all_ahead, all_done, none_done, one_done}
use Rattle.ns_settlement.proofs.commit.quotas.put_quotas.Goals as goal
use Rattle.ns_settlement.proofs.commit.quotas.put_quotas.Goals.{in-Some-slot, in_default}
use Rattle.ns_types.proofs.TableRows.{no_entries}
use Rattle.ns_change.specs.Changed.{changed_quota}
use Rattle.ns_tables.specs.World.{quota_of}

pub loop-name-init : goal.loop-name-init
loop-name-init c = all_ahead quota_of changed_quota Always c.args.changes c.args.table.now _
    (c.into_iter-name-iterator.ensures.into_iter_gives.0 ∙ c.into_slots-name-items.ensures) (λ name x row at there. tt)

pub returns : goal.returns
returns c = all_done quota_of changed_quota Always c.loop-name.table _ _
    (no_entries _ (sym c.loop-name.name-iterator.rest.ok.0 ∙ c.in-None.ensures.steps.0)) c.loop-name.invariant

pub loop-name-preserved : goal.loop-name-preserved
loop-name-preserved c = elim c.match-slot.branch [
  | in-Some-slot w ↦ one_done quota_of changed_quota Always c.loop-name.table c.match-slot.table c.in-Some.name c.in-Some.slot _ _ _
      c.in-Some.ensures.steps.0 c.loop-name.invariant w.in-Some-slot.quota w.in-Some-slot.is
      (subst (λ m. ChangesRow (λ a b. quota_of b ≡ changed_quota (quota_of a) w.in-Some-slot.quota) c.in-Some.name c.loop-name.table m)
      (sym
      w.table-is) w.put_quota.ensures)
  | in_default w ↦ none_done quota_of changed_quota Always c.loop-name.table c.match-slot.table c.in-Some.name c.in-Some.slot _ _ _
      c.in-Some.ensures.steps.0 c.loop-name.invariant w.in_default.is w.table-is
]
