use Rattle.std.proofs.Common.{sym, subst}
use Rattle.ns_types.specs.declared.node.NodeStatus.{NodeStatus}
use Rattle.ns_types.specs.declared.step.NodeCommand.TheVariants as NodeCommand
use Rattle.ns_core.specs.Answering.{PreparesNode}
use Rattle.ns_core.specs.Viewed.{state_of}
use Rattle.ns_core.proofs.Keeping.{within}
use Rattle.ns_core.proofs.NodeCommands.{prepares}
use Rattle.ns_core.proofs.parts.Parts.set_status.Goals as goal

pub set_ready-requires : goal.set_ready-requires
set_ready-requires c = within (state_of c.args.self.now) c.requires.valid

pub returns-in-Ready : goal.returns-in-Ready
returns-in-Ready c = subst
    (λ (status : NodeStatus). PreparesNode c.args.pool.now (NodeCommand.SetStatus c.args.name.now status) c.args.self.now c.set_ready.result)
    (sym c.in-Ready.is) (prepares c.args.self.now c.args.pool.now _ c.set_ready.result c.set_ready.ensures)

pub set_down-requires-clause-bounds : goal.set_down-requires-clause-bounds
set_down-requires-clause-bounds c = within (state_of c.args.self.now) c.requires.valid

pub returns-in-Down : goal.returns-in-Down
returns-in-Down c = subst
    (λ (status : NodeStatus). PreparesNode c.args.pool.now (NodeCommand.SetStatus c.args.name.now status) c.args.self.now c.set_down.result)
    (sym c.in-Down.is) (prepares c.args.self.now c.args.pool.now _ c.set_down.result c.set_down.ensures)
