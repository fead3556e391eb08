use Rattle.ns_core.proofs.NodeCommands.{loads_of}
use Rattle.ns_core.proofs.parts.Parts.load.Goals as goal
use Rattle.ns_core.specs.Viewed.{state_of, world_of}

pub returns : goal.returns
returns c = c.load.ensures (world_of c.args.self.now) c.requires.index.live
    (loads_of (state_of c.args.self.now) c.requires.valid c.args.pool.now c.args.node.now)
