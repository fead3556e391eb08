use Rattle.std.proofs.Common.{}
use Rattle.ns_core.specs.Viewed.{state_of}
use Rattle.ns_core.proofs.Keeping.{finish_keeps_valid}
use Rattle.ns_core.proofs.server.Core.finish.Goals as goal

pub finish-requires : goal.finish-requires
finish-requires c = c.self.invariant

pub invariant_of-self : goal.invariant_of-self
invariant_of-self c = record {
  valid = finish_keeps_valid c.args.worker c.args.namespace.now c.args.planned.now (state_of c.self.inside.parts) (state_of c.finish.new.self)
      c.self.invariant.valid c.finish.result c.finish.ensures.made;
  index = c.finish.ensures.index;
}
