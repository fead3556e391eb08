use Rattle.std.proofs.Common.{ap, ◌∙◌}
use Rattle.ns_types.specs.Asking.Policies.{secret_of}
use Rattle.ns_types.specs.State.Names.{same_name}
use Rattle.ns_acl.proofs.Slotted.{first_slot}
use Rattle.ns_acl.proofs.acl.Acl.secret_of.Goals as goal

pub returns : goal.returns
returns c = c.secret_of.ensures ∙ first_slot (λ e. same_name c.args.accessor.now e.1.accessor) c.self.inside.tokens _ c.as_slice.ensures
    ∙ ap (λ acl. secret_of acl c.args.accessor.now) c.self.view_is
