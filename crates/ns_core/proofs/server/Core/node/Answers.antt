use Rattle.std.proofs.Common.{sym, subst}
use Rattle.std.specs.Option.{option_copied}
use Rattle.ns_types.specs.declared.step.Step.TheVariants as Step
use Rattle.ns_types.specs.Asking.Good.{IsGoodNodeCommand}
use Rattle.ns_core.specs.Viewed.{state_of}
use Rattle.ns_core.proofs.Keeping.{keeps}
use Rattle.ns_core.proofs.server.Core.node.Goals as goal

pub node-requires-clause-valid : goal.node-requires-clause-valid
node-requires-clause-valid c = c.self.invariant.valid

pub node-requires-clause-index : goal.node-requires-clause-index
node-requires-clause-index c = c.self.invariant.index

pub invariant_of-self : goal.invariant_of-self
invariant_of-self c = record {
  valid = keeps (Step.Node c.args.pool.now (option_copied c.args.secret) c.get.result.now) (state_of c.self.inside.parts) (state_of c.node.new.self)
      (subst (λ command. IsGoodNodeCommand command) (sym c.get.ensures.same) c.get.ensures.good) c.self.invariant.valid c.node.result c.node.ensures.made;
  index = c.node.ensures.index;
}
