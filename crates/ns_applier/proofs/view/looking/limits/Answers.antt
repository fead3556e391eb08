use Rattle.std.proofs.Common.{ap, sym, ◌∙◌, Some, None}
use Rattle.std.specs.Option.{option_copied, option_map_or}
use Rattle.ns_admin.proofs.World.{quota_is}
use Rattle.ns_types.specs.State.Resources.{limits_in, unlimited}
use Rattle.ns_types.specs.State.Rows.{QuotaRows}
use Rattle.ns_applier.proofs.view.looking.limits.Goals as goal

pub returns-in-Some : goal.returns-in-Some
returns-in-Some c = c.limits_in.ensures ∙ sym (ap (λ r. option_map_or (λ (q : QuotaRows). limits_in q.quota.limits) r unlimited)
    (quota_is c.args.tables.now c.args.quota.now (Some c.in-Some.rows.now) (sym c.get.ensures ∙ ap option_copied c.in-Some.is)))

pub returns-in-None : goal.returns-in-None
returns-in-None c = sym (ap (λ r. option_map_or (λ (q : QuotaRows). limits_in q.quota.limits) r unlimited)
    (quota_is c.args.tables.now c.args.quota.now None (sym c.get.ensures ∙ ap option_copied c.in-None.is)))
