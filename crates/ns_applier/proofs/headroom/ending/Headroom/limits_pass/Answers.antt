use Rattle.std.proofs.Common.{ap, ◌∙◌}
use Rattle.ns_counters.specs.Given.{given_limits_pass}
use Rattle.ns_tables.specs.World.{world_of}
use Rattle.ns_applier.proofs.Sleeping.{quota_alone}
use Rattle.ns_applier.proofs.headroom.ending.Headroom.limits_pass.Goals as goal

pub returns-else-self : goal.returns-else-self
returns-else-self c = c.is_last_quota_release.ensures
    ∙ quota_alone (world_of c.self.inside.tables.now) (c.self.invariant.0 c.if-self.false) c.args.quota.now
    ∙ ap (λ w. given_limits_pass w c.args.quota.now) c.self.view_is
