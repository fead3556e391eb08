use Rattle.std.specs.Prelude.{false, Some, None}
use Rattle.std.proofs.Common.{sym, ap, ◌∙◌}
use Rattle.std.specs.Option.{option_copied, option_map_or}
use Rattle.ns_types.specs.Asking.Admins.{with_quota}
use Rattle.ns_types.specs.Settling.Releases.{changes_limits}
use Rattle.ns_admin.proofs.World.{quota_is}
use Rattle.ns_admin.proofs.quotas.is_relimited.Goals as goal

pub returns-in-Some : goal.returns-in-Some
returns-in-Some c = c.changes_limits.ensures
    ∙ sym (ap (λ x. option_map_or (λ old. changes_limits old (with_quota c.args.quota.now (Some old))) x false)
    (quota_is c.args.tables.now c.args.name.now (Some c.in-Some.old.now) (sym c.get.ensures ∙ ap option_copied c.in-Some.is)))

pub returns-in-None : goal.returns-in-None
returns-in-None c = sym (ap (λ x. option_map_or (λ old. changes_limits old (with_quota c.args.quota.now (Some old))) x false)
    (quota_is c.args.tables.now c.args.name.now None (sym c.get.ensures ∙ ap option_copied c.in-None.is)))
