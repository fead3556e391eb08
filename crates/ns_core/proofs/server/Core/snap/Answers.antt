use Rattle.std.proofs.Common.{}
use Rattle.ns_types.specs.declared.step.Step.TheVariants as Step
use Rattle.ns_core.specs.Viewed.{state_of}
use Rattle.ns_driver.specs.Calls.{snapped}
use Rattle.ns_core.proofs.Keeping.{keeps}
use Rattle.ns_core.proofs.server.Core.snap.Goals as goal

pub snap-requires : goal.snap-requires
snap-requires c = c.self.invariant

pub invariant_of-self : goal.invariant_of-self
invariant_of-self c = record {
  valid = keeps (Step.Snap c.args.worker c.args.namespace.now) (state_of c.self.inside.parts) (state_of c.snap.new.self)
      tt c.self.invariant.valid (snapped c.snap.result) c.snap.ensures.made;
  index = c.snap.ensures.index;
}
