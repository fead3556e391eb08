use Rattle.ns_tests.proofs.OneNode.{on_one_node}
use Rattle.ns_tests.proofs.state.counting.evicts.Goals as goal

pub victims-requires : goal.victims-requires
victims-requires g c = on_one_node _ _ c.kept-kept.ensures c.plan-plan.ensures

pub victims-requires-2 : goal.victims-requires-2
victims-requires-2 g c = on_one_node _ _ c.kept-kept.ensures c.plan-plan.ensures
