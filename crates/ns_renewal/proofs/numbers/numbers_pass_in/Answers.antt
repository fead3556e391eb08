use Rattle.std.proofs.Common.{sym, ◌+◌, ◌∙◌, rules}
use Rattle.ns_renewal.specs.Losing.{losing_in, victims_at}
use Rattle.ns_renewal.proofs.Counting.{next_number, same_number}
use Rattle.ns_renewal.proofs.numbers.numbers_pass_in.Goals as goal
use Rattle.ns_tables.specs.World.{world_of}

pub loop-eviction-preserved-else-number : goal.loop-eviction-preserved-else-number
loop-eviction-preserved-else-number g c =
    let w = world_of c.args.tables.now in
    let list = g.E.Evictions.list in
    next_number w c.args.namespace.now c.in-Some.eviction.now (list _) (list c.loop-eviction.rest) (search rules) c.loop-eviction.number
    (c.args.tenant.now.evaluation_number + losing_in c.args.namespace.now (victims_at w (list c.args.evictions)))
    c.loop-eviction.invariant (sym c.is_last_of_job.ensures ∙ c.if-is_last_of_job.true)

pub loop-eviction-preserved : goal.loop-eviction-preserved
loop-eviction-preserved g c =
    let w = world_of c.args.tables.now in
    let list = g.E.Evictions.list in
    same_number w c.args.namespace.now c.in-Some.eviction.now (list _) (list c.loop-eviction.rest) (search rules) c.loop-eviction.number
    (c.args.tenant.now.evaluation_number + losing_in c.args.namespace.now (victims_at w (list c.args.evictions)))
    c.loop-eviction.invariant (sym c.is_last_of_job.ensures ∙ c.if-is_last_of_job.false)
