use Rattle.std.proofs.Common.{sym, subst}
use Rattle.ns_types.specs.declared.step.NodeCommand.{NodeCommand}
use Rattle.ns_core.proofs.NodeCommands.{loads_of}
use Rattle.ns_core.proofs.parts.Parts.read_in_pool.Goals as goal
use Rattle.ns_core.specs.Answering.{ReadsPool}
use Rattle.ns_core.specs.Viewed.{state_of}

pub list_nodes-requires-clause-fits : goal.list_nodes-requires-clause-fits
list_nodes-requires-clause-fits c = loads_of (state_of c.args.self.now) c.requires.valid c.args.pool.now

pub returns-in-ReadPool : goal.returns-in-ReadPool
returns-in-ReadPool c = subst (λ (command : NodeCommand). ReadsPool c.args.pool.now command c.args.self.now c.read_pool.result)
    (sym c.in-ReadPool.is) c.read_pool.ensures

pub returns-in-ListNodes : goal.returns-in-ListNodes
returns-in-ListNodes c = subst (λ (command : NodeCommand). ReadsPool c.args.pool.now command c.args.self.now c.list_nodes.result)
    (sym c.in-ListNodes.is) c.list_nodes.ensures
