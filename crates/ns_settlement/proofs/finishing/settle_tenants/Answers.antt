use Rattle.std.proofs.Common.{ap, sym, ◌∙◌, ◌++◌, ◌∷◌, [], Option, map}
use Rattle.std.specs.List.{list_any}
use Rattle.keyed.proofs.Mapped.{built_rows, built_sorted}
use Rattle.ns_types.specs.State.Names.{Name}
use Rattle.ns_change.specs.declared.change.TenantChange.{TenantChange}
use Rattle.ns_settlement.specs.Settles.{is_last, settled_slot}
use Rattle.ns_settlement.proofs.Finished.{all_there, next_none, one_more}
use Rattle.ns_tables.specs.World.{world_of}
use Rattle.ns_settlement.proofs.finishing.settle_tenants.Goals as goal
use Rattle.ns_types.proofs.TableRows.{no_entries}

pub loop-namespace-init : goal.loop-namespace-init
loop-namespace-init c =
    let w = world_of c.args.tables.now in
    let all = c.into_iter-namespace-iterator.ensures.into_iter_gives.0 ∙ c.into_slots-slots.ensures in (
      (λ i. c.in_ok-rows.ensures.items i ++ map (λ (e : Name × Option TenantChange). (e.0, settled_slot w e.0 e.1)) (all i)),
      ap (list_any (λ (e : Name × Option TenantChange). is_last w e.0 e.1)) all ∙ c.requires,
    )

pub settle_slot-requires : goal.settle_slot-requires
settle_slot-requires c =
    let w = world_of c.args.tables.now in
    next_none (λ (e : Name × Option TenantChange). (e.0, settled_slot w e.0 e.1)) (λ (e : Name × Option TenantChange). is_last w e.0 e.1)
    c.loop-namespace.rows.items _ _ (c.in-Some.namespace, c.in-Some.slot) _ c.in-Some.ensures.steps.0 c.loop-namespace.invariant

pub loop-namespace-preserved : goal.loop-namespace-preserved
loop-namespace-preserved c =
    let w = world_of c.args.tables.now in
    one_more (λ (e : Name × Option TenantChange). (e.0, settled_slot w e.0 e.1)) (λ (e : Name × Option TenantChange). is_last w e.0 e.1)
    c.loop-namespace.rows.items _ _ _ (c.in-Some.namespace, c.in-Some.slot) _ c.in-Some.ensures.steps.0
    (c.in_ok-push.ensures.items ∙ ap (λ s. c.loop-namespace.rows.items ++ (c.in-Some.namespace, s) ∷ []) c.in_ok-settled.ensures) c.loop-namespace.invariant

pub from_slots-requires : goal.from_slots-requires
from_slots-requires c =
    let w = world_of c.args.tables.now in
    built_sorted (settled_slot w) c.args.tenants c.loop-namespace.rows.items
    (all_there (λ (e : Name × Option TenantChange). (e.0, settled_slot w e.0 e.1)) (λ (e : Name × Option TenantChange). is_last w e.0 e.1)
    c.loop-namespace.rows.items _ _ (no_entries _ (sym c.loop-namespace.namespace-iterator.rest.ok.0 ∙ c.in-None.ensures.steps.0)) c.loop-namespace.invariant)

pub returns : goal.returns
returns c =
    let w = world_of c.args.tables.now in
    c.from_slots.ensures ∙ built_rows (settled_slot w) c.args.tenants c.loop-namespace.rows.items
    (all_there (λ (e : Name × Option TenantChange). (e.0, settled_slot w e.0 e.1)) (λ (e : Name × Option TenantChange). is_last w e.0 e.1)
    c.loop-namespace.rows.items _ _ (no_entries _ (sym c.loop-namespace.namespace-iterator.rest.ok.0 ∙ c.in-None.ensures.steps.0)) c.loop-namespace.invariant)
