use Rattle.std.proofs.Common.{ap, ◌∙◌}
use Rattle.ns_types.specs.Asking.Policies.{has_accessor}
use Rattle.ns_types.specs.State.Names.{same_name}
use Rattle.ns_acl.proofs.Slotted.{any_slot}
use Rattle.ns_acl.proofs.acl.Acl.has_accessor.Goals as goal

pub returns : goal.returns
returns c = c.has_accessor.ensures ∙ any_slot (λ e. same_name c.args.accessor.now e.1.accessor) c.self.inside.tokens _ c.as_slice.ensures
    ∙ ap (λ acl. has_accessor acl c.args.accessor.now) c.self.view_is
