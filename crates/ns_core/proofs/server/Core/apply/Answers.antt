use Rattle.std.proofs.Common.{}
use Rattle.ns_types.specs.declared.step.Step.TheVariants as Step
use Rattle.ns_core.specs.Viewed.{state_of}
use Rattle.ns_core.proofs.Keeping.{keeps}
use Rattle.ns_core.proofs.server.Core.apply.Goals as goal

pub apply-requires : goal.apply-requires
apply-requires c = c.self.invariant

pub invariant_of-self : goal.invariant_of-self
invariant_of-self c = record {
  valid = keeps (Step.Apply c.args.worker c.args.namespace.now) (state_of c.self.inside.parts) (state_of c.apply.new.self)
      tt c.self.invariant.valid c.apply.result c.apply.ensures.made;
  index = c.apply.ensures.index;
}
