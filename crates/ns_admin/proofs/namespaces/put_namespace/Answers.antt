use Rattle.std.specs.Prelude.{not}
use Rattle.std.proofs.Common.{sym, ap, ◌∙◌}
use Rattle.ns_types.specs.declared.reply.Content.TheVariants as Content
use Rattle.ns_types.specs.Asking.Admins.{put_namespace}
use Rattle.ns_types.specs.Settling.Outcome.{Done, is_done}
use Rattle.ns_types.proofs.Outcomes.{unless_not, unless_so}
use Rattle.ns_tables.specs.World.{world_of}
use Rattle.ns_admin.specs.declared.record.RecordChange.TheVariants as RecordChange
use Rattle.ns_admin.specs.Recorded.{recorded}
use Rattle.ns_admin.proofs.Recording.{out_of_memory}
use Rattle.ns_admin.proofs.World.{tenants_full}
use Rattle.keyed.specs.Table.{rows}
use Rattle.ns_types.specs.Asking.Admins.{is_full}
use Rattle.ns_admin.proofs.namespaces.put_namespace.Goals as goal

pub returns-then-lacks_quota : goal.returns-then-lacks_quota
unfolding put_namespace
returns-then-lacks_quota c = unless_so _ _ _ (sym c.lacks_quota.ensures ∙ c.if-lacks_quota.true)

pub returns-then-not-has_pool : goal.returns-then-not-has_pool
unfolding put_namespace
returns-then-not-has_pool c =
    unless_not _ _ _ (sym c.lacks_quota.ensures ∙ c.if-lacks_quota.false)
    ∙ unless_so _ _ _ (ap not (sym c.has_pool.ensures ∙ c.if-not-has_pool.true))

pub returns-then-lacks_allowed : goal.returns-then-lacks_allowed
unfolding put_namespace
returns-then-lacks_allowed c =
    unless_not _ _ _ (sym c.lacks_quota.ensures ∙ c.if-lacks_quota.false)
    ∙ unless_not _ _ _ (ap not (sym c.has_pool.ensures ∙ c.if-not-has_pool.false))
    ∙ unless_so _ _ _ (sym c.lacks_allowed.ensures ∙ c.if-lacks_allowed.true)

pub returns-then-forbids_in : goal.returns-then-forbids_in
unfolding put_namespace
returns-then-forbids_in c =
    unless_not _ _ _ (sym c.lacks_quota.ensures ∙ c.if-lacks_quota.false)
    ∙ unless_not _ _ _ (ap not (sym c.has_pool.ensures ∙ c.if-not-has_pool.false))
    ∙ unless_not _ _ _ (sym c.lacks_allowed.ensures ∙ c.if-lacks_allowed.false)
    ∙ unless_so _ _ _ (sym c.forbids_in.ensures ∙ c.if-forbids_in.true)

pub returns-then-is_full : goal.returns-then-is_full
unfolding put_namespace
returns-then-is_full c =
    unless_not _ _ _ (sym c.lacks_quota.ensures ∙ c.if-lacks_quota.false)
    ∙ unless_not _ _ _ (ap not (sym c.has_pool.ensures ∙ c.if-not-has_pool.false))
    ∙ unless_not _ _ _ (sym c.lacks_allowed.ensures ∙ c.if-lacks_allowed.false)
    ∙ unless_not _ _ _ (sym c.forbids_in.ensures ∙ c.if-forbids_in.false)
    ∙ unless_so _ _ _ (tenants_full c.args.tables.now c.args.name.now
    ∙ ap (λ m. is_full (rows m) c.args.name.now) (sym c.as_table.ensures) ∙ sym c.is_full.ensures ∙ c.if-is_full.true)

pub returns : goal.returns
unfolding put_namespace
returns c =
    let w = world_of c.args.tables.now in
    unless_not _ _ _ (sym c.lacks_quota.ensures ∙ c.if-lacks_quota.false)
    ∙ unless_not _ _ _ (ap not (sym c.has_pool.ensures ∙ c.if-not-has_pool.false))
    ∙ unless_not _ _ _ (sym c.lacks_allowed.ensures ∙ c.if-lacks_allowed.false)
    ∙ unless_not _ _ _ (sym c.forbids_in.ensures ∙ c.if-forbids_in.false)
    ∙ unless_not _ _ _ (tenants_full c.args.tables.now c.args.name.now
    ∙ ap (λ m. is_full (rows m) c.args.name.now) (sym c.as_table.ensures) ∙ sym c.is_full.ensures ∙ c.if-is_full.false)
    ∙ (λ i. Done Content.Written (recorded
    (RecordChange.Namespace (sym c.in_ok-clone.ensures.cases i) (sym c.in_ok-clone-2.ensures.cases i)) w))

pub returns-in_err-clone : goal.returns-in_err-clone
unfolding put_namespace
returns-in_err-clone c = out_of_memory (put_namespace c.args.name.now c.args.namespace.now) c.args.tables.now c.from_residual.result
    c.from_residual.ensures.1 (ap is_done (
    unless_not _ _ _ (sym c.lacks_quota.ensures ∙ c.if-lacks_quota.false)
    ∙ unless_not _ _ _ (ap not (sym c.has_pool.ensures ∙ c.if-not-has_pool.false))
    ∙ unless_not _ _ _ (sym c.lacks_allowed.ensures ∙ c.if-lacks_allowed.false)
    ∙ unless_not _ _ _ (sym c.forbids_in.ensures ∙ c.if-forbids_in.false)
    ∙ unless_not _ _ _ (tenants_full c.args.tables.now c.args.name.now
    ∙ ap (λ m. is_full (rows m) c.args.name.now) (sym c.as_table.ensures) ∙ sym c.is_full.ensures ∙ c.if-is_full.false)))

pub returns-in_err-clone-2 : goal.returns-in_err-clone-2
unfolding put_namespace
returns-in_err-clone-2 c = out_of_memory (put_namespace c.args.name.now c.args.namespace.now) c.args.tables.now c.from_residual-in_err-clone-2.result
    c.from_residual-in_err-clone-2.ensures.1 (ap is_done (
    unless_not _ _ _ (sym c.lacks_quota.ensures ∙ c.if-lacks_quota.false)
    ∙ unless_not _ _ _ (ap not (sym c.has_pool.ensures ∙ c.if-not-has_pool.false))
    ∙ unless_not _ _ _ (sym c.lacks_allowed.ensures ∙ c.if-lacks_allowed.false)
    ∙ unless_not _ _ _ (sym c.forbids_in.ensures ∙ c.if-forbids_in.false)
    ∙ unless_not _ _ _ (tenants_full c.args.tables.now c.args.name.now
    ∙ ap (λ m. is_full (rows m) c.args.name.now) (sym c.as_table.ensures) ∙ sym c.is_full.ensures ∙ c.if-is_full.false)))
