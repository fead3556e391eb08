use Rattle.std.proofs.Common.{sym, ap, ◌∙◌}
use Rattle.ns_types.specs.declared.reply.Content.TheVariants as Content
use Rattle.ns_types.specs.Asking.Admins.{delete_quota}
use Rattle.ns_types.specs.Settling.Outcome.{Done, is_done}
use Rattle.ns_types.proofs.Outcomes.{found_absent, found_there, unless_not, unless_so}
use Rattle.ns_tables.specs.World.{world_of}
use Rattle.ns_admin.specs.declared.record.RecordChange.TheVariants as RecordChange
use Rattle.ns_admin.specs.Recorded.{recorded}
use Rattle.ns_admin.proofs.Recording.{out_of_memory}
use Rattle.ns_admin.proofs.quotas.delete_quota.Goals as goal

pub returns-then-not-has_quota : goal.returns-then-not-has_quota
unfolding delete_quota
returns-then-not-has_quota c = found_absent _ _ (sym c.has_quota.ensures ∙ c.if-not-has_quota.true)

pub returns-then-is_named : goal.returns-then-is_named
unfolding delete_quota
returns-then-is_named c =
    found_there _ _ (sym c.has_quota.ensures ∙ c.if-not-has_quota.false)
    ∙ unless_so _ _ _ (sym (c.is_named.ensures (world_of c.args.tables.now) c.requires) ∙ c.if-is_named.true)

pub returns : goal.returns
unfolding delete_quota
returns c =
    found_there _ _ (sym c.has_quota.ensures ∙ c.if-not-has_quota.false)
    ∙ unless_not _ _ _ (sym (c.is_named.ensures (world_of c.args.tables.now) c.requires) ∙ c.if-is_named.false)
    ∙ ap (λ name. Done Content.Written (recorded (RecordChange.NoQuota name) (world_of c.args.tables.now))) (sym c.in_ok-clone.ensures.cases)

pub returns-in_err-clone : goal.returns-in_err-clone
unfolding delete_quota
returns-in_err-clone c = out_of_memory (delete_quota c.args.name.now) c.args.tables.now c.from_residual.result c.from_residual.ensures.1 (ap is_done (
    found_there _ _ (sym c.has_quota.ensures ∙ c.if-not-has_quota.false)
    ∙ unless_not _ _ _ (sym (c.is_named.ensures (world_of c.args.tables.now) c.requires) ∙ c.if-is_named.false)))
