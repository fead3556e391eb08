use Rattle.std.proofs.Common.{◌∙◌}
use Rattle.std.specs.Option.{option_copied}
use Rattle.ns_types.specs.Access.Rights.{Holder, Manager, Unknown}
use Rattle.ns_acl.proofs.Standing.{pool_rights_when}
use Rattle.ns_acl.proofs.acl.Acl.pool_rights.Goals as goal

pub returns-in-Unknown : goal.returns-in-Unknown
returns-in-Unknown c = pool_rights_when c.args.self.now (option_copied c.args.secret) c.args.pool.now Unknown c.in-Unknown.ensures

pub returns-in-Manager : goal.returns-in-Manager
returns-in-Manager c = pool_rights_when c.args.self.now (option_copied c.args.secret) c.args.pool.now Manager c.in-Manager.ensures

pub returns-in-Holder : goal.returns-in-Holder
returns-in-Holder c = (λ i. record { read = (c.granted-grants.ensures i).read_pool; write = (c.granted-grants.ensures i).write_pool })
    ∙ pool_rights_when c.args.self.now (option_copied c.args.secret) c.args.pool.now (Holder c.in-Holder.policies.now) c.in-Holder.ensures
