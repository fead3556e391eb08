use Rattle.std.proofs.Common.{sym, ap, ◌∙◌}
use Rattle.ns_types.specs.declared.reply.Content.TheVariants as Content
use Rattle.ns_types.specs.Asking.Admins.{put_quota}
use Rattle.ns_types.specs.Settling.Outcome.{Done, is_done}
use Rattle.ns_types.proofs.Outcomes.{unless_not, unless_so}
use Rattle.ns_tables.specs.World.{world_of}
use Rattle.ns_admin.specs.declared.record.RecordChange.TheVariants as RecordChange
use Rattle.ns_admin.specs.Recorded.{recorded}
use Rattle.ns_admin.proofs.Recording.{out_of_memory}
use Rattle.ns_admin.proofs.World.{quotas_full}
use Rattle.ns_admin.proofs.quotas.put_quota.Goals as goal

pub returns-then-is_full : goal.returns-then-is_full
unfolding put_quota
returns-then-is_full c = unless_so _ _ _ (quotas_full c.args.tables.now c.args.name.now ∙ sym c.is_full.ensures ∙ c.if-is_full.true)

pub returns : goal.returns
unfolding put_quota
returns c =
    let w = world_of c.args.tables.now in
    unless_not _ _ _ (quotas_full c.args.tables.now c.args.name.now ∙ sym c.is_full.ensures ∙ c.if-is_full.false)
    ∙ (λ i. Done Content.Written (recorded
    (RecordChange.Quota (sym c.in_ok-clone.ensures.cases i) (sym c.in_ok-clone-2.ensures.cases i)) w))

pub returns-in_err-clone : goal.returns-in_err-clone
unfolding put_quota
returns-in_err-clone c = out_of_memory (put_quota c.args.name.now c.args.quota.now) c.args.tables.now c.from_residual.result c.from_residual.ensures.1
    (ap is_done (unless_not _ _ _ (quotas_full c.args.tables.now c.args.name.now ∙ sym c.is_full.ensures ∙ c.if-is_full.false)))

pub returns-in_err-clone-2 : goal.returns-in_err-clone-2
unfolding put_quota
returns-in_err-clone-2 c = out_of_memory (put_quota c.args.name.now c.args.quota.now) c.args.tables.now c.from_residual-in_err-clone-2.result
    c.from_residual-in_err-clone-2.ensures.1
    (ap is_done (unless_not _ _ _ (quotas_full c.args.tables.now c.args.name.now ∙ sym c.is_full.ensures ∙ c.if-is_full.false)))
