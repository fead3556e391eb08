-- Commands whose names, members and lists are within the limits, as every command of a request is.
use Rattle.std.specs.Prelude.{Bool, true, ◌&&◌, IsTrue}
use Rattle.ns_types.specs.declared.name.NameKind.TheVariants as NameKind
use Rattle.ns_types.specs.declared.step.AdminCommand.{AdminCommand}
use Rattle.ns_types.specs.declared.step.AskCommand.{AskCommand}
use Rattle.ns_types.specs.declared.step.NodeCommand.{NodeCommand}
use Rattle.ns_types.specs.Asking.Policies.{token_of}
use Rattle.ns_types.specs.State.Limits.{is_text, is_pool_name, is_good_registration, is_good_offer, is_good_namespace}
use Rattle.ns_types.specs.State.Limits.{is_good_quota, is_good_policy, is_good_token, IsInOrder}
use Rattle.ns_types.specs.State.Name.{is_name}

-- only what a step writes has limits: a name that it looks up may be any text
abbrev pub is_good_ask : AskCommand → Bool
is_good_ask (AskCommand.Register r) = is_good_registration r
is_good_ask _ = true

abbrev pub is_good_admin : AdminCommand → Bool
is_good_admin (AdminCommand.PutNamespace name namespace) = is_name NameKind.Namespace name
    && is_good_namespace namespace
is_good_admin (AdminCommand.PutQuota name quota) = is_name NameKind.Quota name && is_good_quota quota
is_good_admin (AdminCommand.PutPool name pool) = is_pool_name name && is_text pool.description
is_good_admin (AdminCommand.PutPolicy name policy) = is_name NameKind.Policy name && is_good_policy policy
is_good_admin (AdminCommand.CreateToken new) = is_name NameKind.Secret new.secret && is_good_token (token_of new)
is_good_admin _ = true

abbrev pub IsGoodNodeCommand : NodeCommand → Type 0
IsGoodNodeCommand (NodeCommand.PutNode name offer) = IsTrue (is_name NameKind.Node name && is_good_offer offer) ×
    IsInOrder offer
IsGoodNodeCommand _ = Unit {0}
