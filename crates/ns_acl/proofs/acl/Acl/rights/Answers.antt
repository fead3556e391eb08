use Rattle.std.proofs.Common.{ap, ◌∙◌}
use Rattle.std.specs.Option.{option_copied}
use Rattle.ns_types.specs.Access.Rights.{Holder, Manager, Unknown, rights_in}
use Rattle.ns_acl.proofs.Standing.{rights_when}
use Rattle.ns_acl.proofs.acl.Acl.rights.Goals as goal

pub returns-in-Unknown : goal.returns-in-Unknown
returns-in-Unknown c = rights_when c.args.self.now (option_copied c.args.secret) c.args.namespace.now Unknown c.in-Unknown.ensures

pub returns-in-Manager : goal.returns-in-Manager
returns-in-Manager c = rights_when c.args.self.now (option_copied c.args.secret) c.args.namespace.now Manager c.in-Manager.ensures

pub returns-in-Holder : goal.returns-in-Holder
returns-in-Holder c = c.rights_in.ensures ∙ ap rights_in c.granted.ensures
    ∙ rights_when c.args.self.now (option_copied c.args.secret) c.args.namespace.now (Holder c.in-Holder.policies.now) c.in-Holder.ensures
