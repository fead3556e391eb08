use Rattle.std.proofs.Common.{sym, ◌∙◌, ap}
use Rattle.std.specs.List.{list_any}
use Rattle.std.specs.Prelude.{◌||◌}
use Rattle.ns_types.specs.declared.plan.Eviction.{Eviction}
use Rattle.ns_renewal.specs.Losing.{numbers_pass_at, victims_at}
use Rattle.ns_renewal.proofs.Counting.{anywhere}
use Rattle.ns_renewal.proofs.numbers.numbers_pass.Goals as goal
use Rattle.ns_tables.specs.World.{world_of}

pub returns-then-numbers_pass_at : goal.returns-then-numbers_pass_at
returns-then-numbers_pass_at g c =
    let w = world_of c.args.tables.now in
    let passes = λ (e : Eviction). numbers_pass_at w (victims_at w (g.E.Evictions.list c.args.evictions)) e.namespace in
    sym (ap (list_any passes) c.in-Some.ensures ∙ ap (λ b. b || list_any passes (g.E.Evictions.list c.in-Some.others))
    (sym c.numbers_pass_at.ensures ∙ c.if-numbers_pass_at.true))
    ∙ c.loop-eviction.invariant ∙ anywhere w (g.E.Evictions.list c.args.evictions) c.requires

pub returns : goal.returns
returns g c =
    let w = world_of c.args.tables.now in
    let passes = λ (e : Eviction). numbers_pass_at w (victims_at w (g.E.Evictions.list c.args.evictions)) e.namespace in
    sym (ap (list_any passes) c.in_default.ensures) ∙ c.loop-eviction.invariant ∙ anywhere w (g.E.Evictions.list c.args.evictions) c.requires
