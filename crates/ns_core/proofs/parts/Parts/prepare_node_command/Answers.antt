use Rattle.std.proofs.Common.{sym, subst}
use Rattle.ns_types.specs.declared.step.NodeCommand.{NodeCommand}
use Rattle.ns_core.specs.Answering.{PreparesNode}
use Rattle.ns_core.specs.Viewed.{state_of}
use Rattle.ns_core.proofs.Keeping.{within}
use Rattle.ns_core.proofs.NodeCommands.{prepares}
use Rattle.ns_core.proofs.parts.Parts.prepare_node_command.Goals as goal

pub register_node-requires-clause-bounds : goal.register_node-requires-clause-bounds
register_node-requires-clause-bounds c = within (state_of c.args.self.now) c.requires.valid

pub remove_node-requires : goal.remove_node-requires
remove_node-requires c = within (state_of c.args.self.now) c.requires.valid

pub set_eligible-requires : goal.set_eligible-requires
set_eligible-requires c = within (state_of c.args.self.now) c.requires.valid

pub report-requires : goal.report-requires
report-requires c = within (state_of c.args.self.now) c.requires.valid

pub returns-in-PutNode : goal.returns-in-PutNode
returns-in-PutNode c = subst (λ (command : NodeCommand). PreparesNode c.args.pool.now command c.args.self.now c.register_node.result)
    (sym c.in-PutNode.is) (prepares c.args.self.now c.args.pool.now _ c.register_node.result c.register_node.ensures)

pub returns-in-DeleteNode : goal.returns-in-DeleteNode
returns-in-DeleteNode c = subst (λ (command : NodeCommand). PreparesNode c.args.pool.now command c.args.self.now c.remove_node.result)
    (sym c.in-DeleteNode.is) (prepares c.args.self.now c.args.pool.now _ c.remove_node.result c.remove_node.ensures)

pub returns-in-SetStatus : goal.returns-in-SetStatus
returns-in-SetStatus c = subst (λ (command : NodeCommand). PreparesNode c.args.pool.now command c.args.self.now c.set_status.result)
    (sym c.in-SetStatus.is) c.set_status.ensures

pub returns-in-SetEligible : goal.returns-in-SetEligible
returns-in-SetEligible c = subst (λ (command : NodeCommand). PreparesNode c.args.pool.now command c.args.self.now c.set_eligible.result)
    (sym c.in-SetEligible.is) (prepares c.args.self.now c.args.pool.now _ c.set_eligible.result c.set_eligible.ensures)

pub returns-in-Report : goal.returns-in-Report
returns-in-Report c = subst (λ (command : NodeCommand). PreparesNode c.args.pool.now command c.args.self.now c.report.result)
    (sym c.in-Report.is) (prepares c.args.self.now c.args.pool.now _ c.report.result c.report.ensures)
