use Rattle.std.proofs.Common.{refl, sym, ap, ◌∙◌}
use Rattle.std.specs.Option.{option_copied}
use Rattle.ns_types.specs.Asking.Policies.{administer}
use Rattle.ns_types.specs.Settling.Outcome.{Done}
use Rattle.ns_types.specs.Access.Rights.{pool_rights_of}
use Rattle.ns_types.proofs.Outcomes.{memory_last}
use Rattle.ns_core.specs.Viewed.{state_of}
use Rattle.ns_core.proofs.parts.Parts.list_pools.Goals as goal

pub returns : goal.returns
unfolding administer
returns c = ap (λ content. Done content (state_of c.args.self.now))
    (sym (c.in_ok-list_pools.ensures (λ pool. (pool_rights_of c.args.self.now.acl (option_copied c.args.secret) pool).read)
    (λ name b returned. returned.says.met ∙ ap (λ ns. (pool_rights_of c.args.self.now.acl (option_copied c.args.secret) ns).read) returned.shows)))

pub returns-in_err-list_pools : goal.returns-in_err-list_pools
unfolding administer
returns-in_err-list_pools c = memory_last _ _ _ c.from_residual.result c.from_residual.ensures.1 refl refl
