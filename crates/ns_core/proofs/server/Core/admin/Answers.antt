use Rattle.std.specs.Prelude.{IsTrue}
use Rattle.std.proofs.Common.{sym, subst}
use Rattle.std.specs.Option.{option_copied}
use Rattle.ns_types.specs.declared.step.Step.TheVariants as Step
use Rattle.ns_types.specs.Asking.Good.{is_good_admin}
use Rattle.ns_core.specs.Viewed.{state_of}
use Rattle.ns_core.proofs.Keeping.{keeps}
use Rattle.ns_core.proofs.server.Core.admin.Goals as goal

pub admin-requires : goal.admin-requires
admin-requires c = c.self.invariant

pub invariant_of-self : goal.invariant_of-self
invariant_of-self c = record {
  valid = keeps (Step.Admin (option_copied c.args.secret) c.get.result.now) (state_of c.self.inside.parts) (state_of c.admin.new.self)
      (subst (λ command. IsTrue (is_good_admin command)) (sym c.get.ensures.same) c.get.ensures.good) c.self.invariant.valid c.admin.result
      c.admin.ensures.made;
  index = c.admin.ensures.index;
}
