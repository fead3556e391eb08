use Rattle.std.proofs.Common.{ap, sym, subst, ◌∙◌}
use Rattle.std.specs.Prelude.{option_map}
use Rattle.std.specs.Option.{option_copied}
use Rattle.keyed.specs.Table.{row_at}
use Rattle.ns_types.specs.declared.snapshot.Snapshot.{Snapshot}
use Rattle.ns_types.specs.Placing.Plan.{plan}
use Rattle.ns_applier.specs.Applying.{comes_to}
use Rattle.ns_applier.proofs.Planned.{bounded_is, few, in_phase, same_namespace}
use Rattle.ns_applier.proofs.Turns.{none_busy, none_planned, none_there, none_to_apply, out_of_turn}
use Rattle.ns_change.proofs.Prepares.{prepares_as}
use Rattle.ns_change.specs.Prepared.{bounded}
use Rattle.ns_plan.specs.Looks.{IsOnFewNodes}
use Rattle.ns_plan.proofs.Looks.{sound_is_counted}
use Rattle.ns_tables.proofs.World.{tenant_at}
use Rattle.ns_tables.specs.World.{tenant_of, world_of}
use Rattle.ns_applier.proofs.applying.apply.Goals as goal

pub returns-in_default : goal.returns-in_default
returns-in_default c = let w = world_of c.args.tables.now in ap (bounded w) (none_there c.args.number c.args.namespace.now w
    (tenant_at c.args.tables.now c.args.namespace.now ∙ ap (option_map tenant_of) (sym c.get.ensures ∙ ap option_copied c.in_default.is)))

pub returns-in_default-worker_at : goal.returns-in_default-worker_at
returns-in_default-worker_at c = let w = world_of c.args.tables.now in ap (bounded w) (none_busy c.args.number c.args.namespace.now w
    (sym c.worker_at.ensures ∙ ap option_copied c.in_default-worker_at.is))

pub returns-in_default-evaluation : goal.returns-in_default-evaluation
returns-in_default-evaluation c = let w = world_of c.args.tables.now in
    ap (bounded w) (none_to_apply c.args.number c.args.namespace.now w c.in-Some-worker_at.worker.now
    (sym c.worker_at.ensures ∙ ap option_copied c.in-Some-worker_at.is) (sym c.evaluation.ensures ∙ ap option_copied c.in_default-evaluation.is))

pub returns-in_default-plan : goal.returns-in_default-plan
returns-in_default-plan c = let w = world_of c.args.tables.now in
    ap (bounded w) (none_planned c.args.number c.args.namespace.now w c.in-Some-worker_at.worker.now
    (sym c.worker_at.ensures ∙ ap option_copied c.in-Some-worker_at.is) (sym c.plan.ensures ∙ ap option_copied c.in_default-plan.is))

pub returns-then-not-is_in_turn : goal.returns-then-not-is_in_turn
returns-then-not-is_in_turn c = let w = world_of c.args.tables.now in
    ap (bounded w) (out_of_turn c.args.number c.args.namespace.now w c.in-Some-worker_at.worker.now
    (sym c.worker_at.ensures ∙ ap option_copied c.in-Some-worker_at.is) (sym c.is_in_turn.ensures ∙ c.if-not-is_in_turn.true))

pub come_to-requires-clause-counted : goal.come_to-requires-clause-counted
come_to-requires-clause-counted c = sound_is_counted (world_of c.args.tables.now) c.requires.sound

pub come_to-requires-clause-few : goal.come_to-requires-clause-few
come_to-requires-clause-few c =
    let w = world_of c.args.tables.now in
    let kept = c.in-Some-plan.planned.now in
    let there = tenant_at c.args.tables.now c.args.namespace.now ∙ ap (option_map tenant_of) (sym c.get.ensures ∙ ap option_copied c.in-Some.is) in
    let has = sym c.worker_at.ensures ∙ ap option_copied c.in-Some-worker_at.is in
    let planned = sym c.plan.ensures ∙ ap option_copied c.in-Some-plan.is in
    let turn = sym c.is_in_turn.ensures ∙ c.if-not-is_in_turn.false in
    let seen = c.get-snapshot.ensures ∙ c.snapshot.ensures in
    subst (λ p. IsOnFewNodes c.get-snapshot.result.now p) (sym c.plan-2.ensures)
    (subst (λ s. IsOnFewNodes s (plan kept)) (sym seen)
    (few w c.requires.sound c.args.number c.args.namespace.now (tenant_of c.in-Some.tenant.now) c.in-Some-worker_at.worker.now kept there has planned turn))

pub come_to-requires-clause-tenant : goal.come_to-requires-clause-tenant
come_to-requires-clause-tenant c =
    let w = world_of c.args.tables.now in
    let kept = c.in-Some-plan.planned.now in
    let at = sym c.get.ensures ∙ ap option_copied c.in-Some.is in
    let there = tenant_at c.args.tables.now c.args.namespace.now ∙ ap (option_map tenant_of) at in
    let has = sym c.worker_at.ensures ∙ ap option_copied c.in-Some-worker_at.is in
    let planned = sym c.plan.ensures ∙ ap option_copied c.in-Some-plan.is in
    let turn = sym c.is_in_turn.ensures ∙ c.if-not-is_in_turn.false in
    let seen = c.get-snapshot.ensures ∙ c.snapshot.ensures in
    ap (λ (s : Snapshot). row_at c.args.tables.now.tenants s.namespace) seen
    ∙ ap (row_at c.args.tables.now.tenants)
    (same_namespace w c.requires.sound c.args.number c.args.namespace.now (tenant_of c.in-Some.tenant.now) c.in-Some-worker_at.worker.now kept
    there has planned turn)
    ∙ at

pub returns : goal.returns
returns c =
    let tables = c.args.tables.now in
    let w = world_of tables in
    let t = tenant_of c.in-Some.tenant.now in
    let worker = c.in-Some-worker_at.worker.now in
    let e = c.in-Some-evaluation.evaluation.now in
    let kept = c.in-Some-plan.planned.now in
    let there = tenant_at tables c.args.namespace.now ∙ ap (option_map tenant_of) (sym c.get.ensures ∙ ap option_copied c.in-Some.is) in
    let has = sym c.worker_at.ensures ∙ ap option_copied c.in-Some-worker_at.is in
    let planned = sym c.plan.ensures ∙ ap option_copied c.in-Some-plan.is in
    let turn = sym c.is_in_turn.ensures ∙ c.if-not-is_in_turn.false in
    let seen = c.get-snapshot.ensures ∙ c.snapshot.ensures in
    prepares_as _ _ tables c.come_to.result
    (bounded_is w c.requires.sound c.args.number c.args.namespace.now t worker kept there has planned turn e
    (sym c.evaluation.ensures ∙ ap option_copied c.in-Some-evaluation.is)
    ∙ (λ i. comes_to c.args.number w t worker e (sym seen i) (sym c.plan-2.ensures i)))
    c.come_to.ensures
