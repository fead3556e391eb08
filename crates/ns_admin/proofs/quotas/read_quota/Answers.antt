use Rattle.std.specs.Prelude.{Some, None}
use Rattle.std.proofs.Common.{refl, sym, ap, ◌∙◌}
use Rattle.std.specs.Option.{option_copied}
use Rattle.ns_types.specs.Settling.Outcome.{Done, is_done}
use Rattle.ns_tables.specs.World.{world_of}
use Rattle.ns_types.proofs.Outcomes.{found_none, found_some, memory_last}
use Rattle.ns_admin.proofs.World.{quota_is}
use Rattle.ns_admin.proofs.quotas.read_quota.Goals as goal

pub returns-in_default : goal.returns-in_default
returns-in_default c = (found_none _ _ (quota_is c.args.tables.now c.args.name.now None (sym c.get.ensures ∙ ap option_copied c.in_default.is)), refl)

pub returns : goal.returns
returns c = found_some _ _ _ (quota_is c.args.tables.now c.args.name.now (Some c.in-Some.row.now) (sym c.get.ensures ∙ ap option_copied c.in-Some.is))
    ∙ ap (λ content. Done content (world_of c.args.tables.now)) (sym c.in_ok-content.ensures)

pub returns-in_err-content : goal.returns-in_err-content
returns-in_err-content c = memory_last _ _ _ c.from_residual.result c.from_residual.ensures.1
    (ap is_done (found_some _ _ _ (quota_is c.args.tables.now c.args.name.now (Some c.in-Some.row.now)
    (sym c.get.ensures ∙ ap option_copied c.in-Some.is))))
    refl
