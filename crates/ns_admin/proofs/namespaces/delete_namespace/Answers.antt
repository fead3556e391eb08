use Rattle.std.specs.Prelude.{Some, None}
use Rattle.std.proofs.Common.{sym, ap, ◌∙◌}
use Rattle.std.specs.Option.{option_copied}
use Rattle.ns_types.specs.declared.reply.Content.TheVariants as Content
use Rattle.ns_types.specs.Asking.Admins.{delete_namespace}
use Rattle.ns_types.specs.Settling.Outcome.{Done, is_done}
use Rattle.ns_types.proofs.Outcomes.{found_none, found_some, unless_not, unless_so}
use Rattle.ns_tables.specs.World.{world_of}
use Rattle.ns_admin.specs.declared.record.RecordChange.TheVariants as RecordChange
use Rattle.ns_admin.specs.Recorded.{recorded}
use Rattle.ns_admin.proofs.Recording.{out_of_memory}
use Rattle.ns_admin.proofs.World.{tenant_is}
use Rattle.ns_admin.proofs.namespaces.delete_namespace.Goals as goal

pub returns-in_default : goal.returns-in_default
unfolding delete_namespace
returns-in_default c = found_none _ _ (tenant_is c.args.tables.now c.args.name.now None (sym c.get.ensures ∙ ap option_copied c.in_default.is))

pub returns-then-is_default : goal.returns-then-is_default
unfolding delete_namespace
returns-then-is_default c =
    found_some _ _ _ (tenant_is c.args.tables.now c.args.name.now (Some c.in-Some.tenant.now) (sym c.get.ensures ∙ ap option_copied c.in-Some.is))
    ∙ unless_so _ _ _ (sym c.is_default.ensures ∙ c.if-is_default.true)

pub returns-then-has_work : goal.returns-then-has_work
unfolding delete_namespace
returns-then-has_work c =
    found_some _ _ _ (tenant_is c.args.tables.now c.args.name.now (Some c.in-Some.tenant.now) (sym c.get.ensures ∙ ap option_copied c.in-Some.is))
    ∙ unless_not _ _ _ (sym c.is_default.ensures ∙ c.if-is_default.false)
    ∙ unless_so _ _ _ (sym c.has_work.ensures ∙ c.if-has_work.true)

pub returns : goal.returns
unfolding delete_namespace
returns c =
    found_some _ _ _ (tenant_is c.args.tables.now c.args.name.now (Some c.in-Some.tenant.now) (sym c.get.ensures ∙ ap option_copied c.in-Some.is))
    ∙ unless_not _ _ _ (sym c.is_default.ensures ∙ c.if-is_default.false)
    ∙ unless_not _ _ _ (sym c.has_work.ensures ∙ c.if-has_work.false)
    ∙ ap (λ name. Done Content.Written (recorded (RecordChange.NoNamespace name) (world_of c.args.tables.now))) (sym c.in_ok-clone.ensures.cases)

pub returns-in_err-clone : goal.returns-in_err-clone
unfolding delete_namespace
returns-in_err-clone c = out_of_memory (delete_namespace c.args.name.now) c.args.tables.now c.from_residual.result c.from_residual.ensures.1 (ap is_done (
    found_some _ _ _ (tenant_is c.args.tables.now c.args.name.now (Some c.in-Some.tenant.now) (sym c.get.ensures ∙ ap option_copied c.in-Some.is))
    ∙ unless_not _ _ _ (sym c.is_default.ensures ∙ c.if-is_default.false)
    ∙ unless_not _ _ _ (sym c.has_work.ensures ∙ c.if-has_work.false)))
