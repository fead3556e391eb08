use Rattle.std.specs.Prelude.{Some, option_map}
use Rattle.std.proofs.Common.{ap, sym, ◌∙◌, Err}
use Rattle.std.proofs.lemmas.Result.{err_from_is_err_and}
use Rattle.std.specs.Option.{option_copied}
use Rattle.keyed.proofs.Tables.{get-rows}
use Rattle.ns_types.specs.declared.reply.Content.{Content}
use Rattle.ns_types.specs.Working.Snapshot.{snapshot_of}
use Rattle.ns_types.specs.declared.snapshot.Snapshot.{Snapshot}
use Rattle.ns_types.specs.Working.Worker.{Worker}
use Rattle.ns_types.specs.Settling.Making.{change_tenant}
use Rattle.ns_types.specs.Settling.Outcome.{Done, is_done}
use Rattle.ns_types.specs.Working.Work.{with_snapshot, with_worker}
use Rattle.ns_types.proofs.Named.{numbers}
use Rattle.ns_broker.specs.Snapping.{kept_at}
use Rattle.ns_broker.proofs.Snaps.{gone, idle, keeps, no_memory, nowhere, out_of_turn, snaps}
use Rattle.ns_broker.proofs.snapping.snap.Goals as goal
use Rattle.ns_tables.proofs.World.{tenant_at}
use Rattle.ns_tables.specs.World.{tenant_of, world_of}

pub returns-in_default-clause-snaps : goal.returns-in_default-clause-snaps
returns-in_default-clause-snaps c = nowhere c.args.number c.args.namespace.now (world_of c.args.tables.now)
    (tenant_at c.args.tables.now c.args.namespace.now ∙ ap (option_map tenant_of) (sym c.get.ensures ∙ ap option_copied c.in_default.is))

pub returns-in_default-get-clause-snaps : goal.returns-in_default-get-clause-snaps
returns-in_default-get-clause-snaps c =
    let w = world_of c.args.tables.now in
    let ns = c.args.namespace.now in
    let number = c.args.number in
    let t = tenant_of c.in-Some.tenant.now in
    let at = tenant_at c.args.tables.now ns ∙ ap (option_map tenant_of) (sym c.get.ensures ∙ ap option_copied c.in-Some.is) in
    idle number ns w t at (get-rows numbers c.in-Some.tenant.now.workers number ∙ sym c.get-2.ensures ∙ ap option_copied c.in_default-get.is)

pub returns-in_default-evaluation-clause-snaps : goal.returns-in_default-evaluation-clause-snaps
returns-in_default-evaluation-clause-snaps c =
    let w = world_of c.args.tables.now in
    let ns = c.args.namespace.now in
    let number = c.args.number in
    let t = tenant_of c.in-Some.tenant.now in
    let at = tenant_at c.args.tables.now ns ∙ ap (option_map tenant_of) (sym c.get.ensures ∙ ap option_copied c.in-Some.is) in
    let worker = c.in-Some-get.worker.now in
    let has = get-rows numbers c.in-Some.tenant.now.workers number ∙ sym c.get-2.ensures ∙ ap option_copied c.in-Some-get.is in
    gone number ns w t at worker has (sym c.evaluation.ensures ∙ ap option_copied c.in_default-evaluation.is)

pub returns-then-not-may_snap-clause-snaps : goal.returns-then-not-may_snap-clause-snaps
returns-then-not-may_snap-clause-snaps c =
    let w = world_of c.args.tables.now in
    let ns = c.args.namespace.now in
    let number = c.args.number in
    let t = tenant_of c.in-Some.tenant.now in
    let at = tenant_at c.args.tables.now ns ∙ ap (option_map tenant_of) (sym c.get.ensures ∙ ap option_copied c.in-Some.is) in
    let worker = c.in-Some-get.worker.now in
    let has = get-rows numbers c.in-Some.tenant.now.workers number ∙ sym c.get-2.ensures ∙ ap option_copied c.in-Some-get.is in
    let there = sym c.evaluation.ensures ∙ ap option_copied c.in-Some-evaluation.is in
    out_of_turn number ns w t at worker has c.in-Some-evaluation.row.now there (sym c.may_snap.ensures ∙ c.if-not-may_snap.true)

pub look-requires-clause-fits : goal.look-requires-clause-fits
look-requires-clause-fits c =
    let ns = c.args.namespace.now in
    let t = tenant_of c.in-Some.tenant.now in
    let at = tenant_at c.args.tables.now ns ∙ ap (option_map tenant_of) (sym c.get.ensures ∙ ap option_copied c.in-Some.is) in
    c.requires.fits t at

pub returns-in_err-snapshot-clause-snaps : goal.returns-in_err-snapshot-clause-snaps
returns-in_err-snapshot-clause-snaps c =
    let w = world_of c.args.tables.now in
    let ns = c.args.namespace.now in
    let number = c.args.number in
    let t = tenant_of c.in-Some.tenant.now in
    let at = tenant_at c.args.tables.now ns ∙ ap (option_map tenant_of) (sym c.get.ensures ∙ ap option_copied c.in-Some.is) in
    let worker = c.in-Some-get.worker.now in
    let has = get-rows numbers c.in-Some.tenant.now.workers number ∙ sym c.get-2.ensures ∙ ap option_copied c.in-Some-get.is in
    let there = sym c.evaluation.ensures ∙ ap option_copied c.in-Some-evaluation.is in
    let p = err_from_is_err_and c.from_residual.result c.from_residual.ensures.1 in
    no_memory number ns c.args.tables.now c.from_residual.result (p.1
    ∙ ap Err p.2) (ap is_done (snaps number ns w t at worker has c.in-Some-evaluation.row.now there (sym c.may_snap.ensures ∙ c.if-not-may_snap.false)))

pub returns-in_err-share-clause-snaps : goal.returns-in_err-share-clause-snaps
returns-in_err-share-clause-snaps c =
    let w = world_of c.args.tables.now in
    let ns = c.args.namespace.now in
    let number = c.args.number in
    let t = tenant_of c.in-Some.tenant.now in
    let at = tenant_at c.args.tables.now ns ∙ ap (option_map tenant_of) (sym c.get.ensures ∙ ap option_copied c.in-Some.is) in
    let worker = c.in-Some-get.worker.now in
    let has = get-rows numbers c.in-Some.tenant.now.workers number ∙ sym c.get-2.ensures ∙ ap option_copied c.in-Some-get.is in
    let there = sym c.evaluation.ensures ∙ ap option_copied c.in-Some-evaluation.is in
    let p = err_from_is_err_and c.from_residual-in_err-share.result c.from_residual-in_err-share.ensures.1 in
    no_memory number ns c.args.tables.now c.from_residual-in_err-share.result (p.1
    ∙ ap Err p.2) (ap is_done (snaps number ns w t at worker has c.in-Some-evaluation.row.now there (sym c.may_snap.ensures ∙ c.if-not-may_snap.false)))

pub returns-in_err-change-clause-snaps : goal.returns-in_err-change-clause-snaps
returns-in_err-change-clause-snaps c =
    let w = world_of c.args.tables.now in
    let ns = c.args.namespace.now in
    let number = c.args.number in
    let t = tenant_of c.in-Some.tenant.now in
    let at = tenant_at c.args.tables.now ns ∙ ap (option_map tenant_of) (sym c.get.ensures ∙ ap option_copied c.in-Some.is) in
    let worker = c.in-Some-get.worker.now in
    let has = get-rows numbers c.in-Some.tenant.now.workers number ∙ sym c.get-2.ensures ∙ ap option_copied c.in-Some-get.is in
    let there = sym c.evaluation.ensures ∙ ap option_copied c.in-Some-evaluation.is in
    let p = err_from_is_err_and c.from_residual-in_err-change.result c.from_residual-in_err-change.ensures.1 in
    no_memory number ns c.args.tables.now c.from_residual-in_err-change.result (p.1
    ∙ ap Err p.2) (ap is_done (snaps number ns w t at worker has c.in-Some-evaluation.row.now there (sym c.may_snap.ensures ∙ c.if-not-may_snap.false)))

pub returns-clause-snaps : goal.returns-clause-snaps
returns-clause-snaps c =
    let w = world_of c.args.tables.now in
    let ns = c.args.namespace.now in
    let number = c.args.number in
    let t = tenant_of c.in-Some.tenant.now in
    let at = tenant_at c.args.tables.now ns ∙ ap (option_map tenant_of) (sym c.get.ensures ∙ ap option_copied c.in-Some.is) in
    let worker = c.in-Some-get.worker.now in
    let has = get-rows numbers c.in-Some.tenant.now.workers number ∙ sym c.get-2.ensures ∙ ap option_copied c.in-Some-get.is in
    let there = sym c.evaluation.ensures ∙ ap option_copied c.in-Some-evaluation.is in
    let seen = snapshot_of w ns t worker.evaluation c.in-Some-evaluation.row.now in
    let left = c.in_ok-change.ensures ∙ ap (λ (x : Worker). change_tenant ns (with_worker number x) w)
    (c.snapped.ensures ∙ ap (λ (s : Snapshot). with_snapshot s worker) (c.in_ok-share.ensures ∙ c.in_ok-snapshot.ensures.seen)) in (
      snaps number ns w t at worker has c.in-Some-evaluation.row.now there (sym c.may_snap.ensures ∙ c.if-not-may_snap.false)
          ∙ ap (λ (x : Content). Done x (change_tenant ns (with_worker number (with_snapshot seen worker)) w)) (sym c.answer-content.ensures)
          ∙ ap (Done c.answer-content.result) (sym left),
      ap (λ x. kept_at x number ns) left ∙ keeps number ns w t at _ ∙ ap Some (sym c.in_ok-snapshot.ensures.seen),
    )
