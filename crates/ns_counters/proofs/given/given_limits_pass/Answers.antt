use Rattle.std.proofs.Common.{ap, sym, ◌∙◌, ◌||◌, ◌∷◌, []}
use Rattle.std.specs.List.{list_any}
use Rattle.ns_counters.specs.Given.{given_waking_passes}
use Rattle.ns_counters.proofs.given.given_limits_pass.Goals as goal
use Rattle.ns_tables.specs.World.{world_of}

pub returns-else-is_quota : goal.returns-else-is_quota
returns-else-is_quota c =
    let w = world_of c.args.tables.now in
    let passes = given_waking_passes w [] (c.args.quota.now ∷ []) in
    c.wakings_pass.ensures ∙ ap (λ b. b || list_any passes w.blocked) (sym (sym c.is_quota.ensures ∙ c.if-is_quota.false))
