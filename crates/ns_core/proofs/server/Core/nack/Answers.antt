use Rattle.std.proofs.Common.{}
use Rattle.ns_types.specs.declared.step.Step.TheVariants as Step
use Rattle.ns_core.specs.Viewed.{state_of}
use Rattle.ns_core.proofs.Keeping.{keeps}
use Rattle.ns_core.proofs.server.Core.nack.Goals as goal

pub nack-requires : goal.nack-requires
nack-requires c = c.self.invariant

pub invariant_of-self : goal.invariant_of-self
invariant_of-self c = record {
  valid = keeps (Step.Nack c.args.worker c.args.namespace.now) (state_of c.self.inside.parts) (state_of c.nack.new.self)
      tt c.self.invariant.valid c.nack.result c.nack.ensures.made;
  index = c.nack.ensures.index;
}
