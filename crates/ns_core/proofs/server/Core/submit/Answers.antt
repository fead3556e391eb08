use Rattle.std.proofs.Common.{}
use Rattle.ns_core.specs.Viewed.{state_of}
use Rattle.ns_core.proofs.Keeping.{keeps_valid}
use Rattle.ns_core.proofs.server.Core.submit.Goals as goal

pub submit-requires : goal.submit-requires
submit-requires c = c.self.invariant

pub invariant_of-self : goal.invariant_of-self
invariant_of-self c = record {
  valid = keeps_valid c.args.worker c.args.namespace.now c.args.planned (state_of c.self.inside.parts) (state_of c.submit.new.self)
      c.self.invariant.valid c.submit.result c.submit.ensures.made;
  index = c.submit.ensures.index;
}
