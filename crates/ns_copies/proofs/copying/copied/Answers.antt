use Rattle.ns_copies.specs.Chosen.{chosen_part}
use Rattle.ns_copies.proofs.Parted.{world_copied}
use Rattle.ns_copies.proofs.copying.copied.Goals as goal

pub returns-in-Ok : goal.returns-in-Ok
returns-in-Ok c = world_copied _ c.args.tables.now (chosen_part c.args.spaces c.args.pools c.args.quotas) c.in-Ok.ensures.tenants
    c.in-Ok.ensures.pools c.in-Ok.ensures.quotas c.in_ok-lists.ensures.ready c.in_ok-lists.ensures.plans c.in_ok-lists.ensures.blocked
