use Rattle.std.proofs.Common.{ap}
use Rattle.ns_change.proofs.Prepares.{done_as}
use Rattle.ns_followers.specs.Ending.{ended_followed, ended_of}
use Rattle.ns_tables.specs.World.{world_of}
use Rattle.ns_followers.proofs.finishing.followed.Goals as goal

pub returns : goal.returns
returns c =
    let t = c.args.tables.now in
    let end = ended_followed (ended_of c.args.ending.now) c.args.number c.args.follower in
    c.prepare.ensures t (end (world_of t)) (done_as c.end_followed-made.result t c.end_followed-made.new.change _ _
    (ap end (c.new-change.ensures t)) c.end_followed-made.ensures)
