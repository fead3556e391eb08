use Rattle.std.proofs.Common.{}
use Rattle.ns_types.specs.declared.step.Step.TheVariants as Step
use Rattle.ns_core.specs.Viewed.{state_of}
use Rattle.ns_core.proofs.Keeping.{keeps}
use Rattle.ns_core.proofs.server.Core.dequeue.Goals as goal

pub dequeue-requires : goal.dequeue-requires
dequeue-requires c = c.self.invariant

pub invariant_of-self : goal.invariant_of-self
invariant_of-self c = record {
  valid = keeps (Step.Dequeue c.args.worker c.args.namespace.now c.args.evaluation) (state_of c.self.inside.parts) (state_of c.dequeue.new.self)
      tt c.self.invariant.valid c.dequeue.result c.dequeue.ensures.made;
  index = c.dequeue.ensures.index;
}
