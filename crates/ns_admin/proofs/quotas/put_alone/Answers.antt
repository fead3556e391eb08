use Rattle.std.proofs.Common.{ap}
use Rattle.ns_change.specs.Changed.{with_record}
use Rattle.ns_change.proofs.Prepares.{done_as}
use Rattle.ns_tables.specs.World.{world_of}
use Rattle.ns_admin.proofs.quotas.put_alone.Goals as goal

pub returns : goal.returns
returns c =
    let t = c.args.tables.now in
    let put = with_record c.args.name.now c.args.quota.now in
    c.prepare.ensures t (put (world_of t)) (done_as c.put_quota-made.result t c.put_quota-made.new.change _ _
    (ap put (c.new-change.ensures t)) (c.put_quota-made.ensures t))
