-- The requests of administrators about policies and tokens, and all requests of administrators.
-- Nomad's pages on the ACL policies and ACL tokens HTTP API.
use Rattle.std.specs.Prelude.{Bool, ◌||◌, Option, find, option_map, codes, nat_le}
use Rattle.std.specs.FinMap.{get, insert, remove, contains_key, entries, len}
use Rattle.ns_types.specs.declared.acl.Policy.{Policy}
use Rattle.ns_types.specs.declared.acl.Token.{Token}
use Rattle.ns_types.specs.declared.refusal.Refusal.TheVariants as Refusal
use Rattle.ns_types.specs.declared.reply.Content.TheVariants as Content
use Rattle.ns_types.specs.declared.reply.TokenShown.{TokenShown}
use Rattle.ns_types.specs.declared.step.AdminCommand.{AdminCommand}
use Rattle.ns_types.specs.declared.step.NewToken.{NewToken}
use Rattle.ns_types.specs.Asking.Admins.{is_full, most_rows, put_namespace, delete_namespace, list_namespaces}
use Rattle.ns_types.specs.Asking.Admins.{list_quotas, read_quota, put_quota, delete_quota, list_pools, put_pool_record}
use Rattle.ns_types.specs.Asking.Admins.{delete_pool}
use Rattle.ns_types.specs.State.Names.{Name, same_name}
use Rattle.ns_types.specs.Settling.Outcome.{Outcome, Done, unless, found, lift}
use Rattle.ns_types.specs.Access.Rights.{rights_of, pool_rights_of, has_any, is_known, is_manager}
use Rattle.ns_types.specs.State.Rows.{Acl, State, World}
use Rattle.ns_types.specs.State.Tables.{any_row}

-- ---- policies

abbrev pub read_policy : Name → Acl → Outcome Acl
read_policy name acl = found (get acl.policies name)
    (λ policy. Done (Content.Policy (record { name = name; row = policy })) acl)

abbrev pub put_policy : Name → Policy → Acl → Outcome Acl
put_policy name policy acl =
    unless (is_full acl.policies name) Refusal.Full (
    Done Content.Written (record acl { policies = insert acl.policies name policy }))

abbrev pub delete_policy : Name → Acl → Outcome Acl
delete_policy name acl = found (get acl.policies name)
    (λ policy. Done Content.Written (record acl { policies = remove acl.policies name }))

-- ---- tokens

-- the accessor of the bootstrap token
abbrev pub bootstrap_accessor : Name
bootstrap_accessor = codes "00000000-0000-0000-0000-000000000000"

abbrev pub has_accessor : Acl → Name → Bool
has_accessor acl accessor = any_row (λ _ token. same_name accessor token.accessor) acl.tokens

abbrev pub token_of : NewToken → Token
token_of new = record { accessor = new.accessor; name = new.name; kind = new.kind; policies = new.policies }

-- a new token as the reply shows it, with its secret
abbrev pub made_token : NewToken → TokenShown
made_token new = record {
  accessor = new.accessor;
  secret = new.secret;
  name = new.name;
  kind = new.kind;
  policies = new.policies;
}

-- if a token has the drawn secret or the drawn accessor already, that is a conflict
abbrev pub create_token : NewToken → Acl → Outcome Acl
create_token new acl =
    unless (contains_key acl.tokens new.secret || has_accessor acl new.accessor) Refusal.Conflict (
    unless (nat_le most_rows (len acl.tokens)) Refusal.Full (
    Done (Content.Token (made_token new)) (record acl { tokens = insert acl.tokens new.secret (token_of new) })))

abbrev pub secret_of : Acl → Name → Option Name
secret_of acl accessor = option_map (λ e. e.0) (find (λ e. same_name accessor e.1.accessor) (entries acl.tokens))

abbrev pub delete_token : Name → Acl → Outcome Acl
delete_token accessor acl = found (secret_of acl accessor) (λ secret.
    unless (same_name accessor bootstrap_accessor) Refusal.InUse (
    Done Content.Written (record acl { tokens = remove acl.tokens secret })))

-- ---- all requests of administrators

abbrev pub with_world : Acl → World → State
with_world acl w = record { acl = acl; world = w }

abbrev pub with_acl : World → Acl → State
with_acl w acl = record { acl = acl; world = w }

abbrev pub in_world : State → (World → Outcome World) → Outcome State
in_world s change = lift (with_world s.acl) (change s.world)

abbrev pub in_acl : State → (Acl → Outcome Acl) → Outcome State
in_acl s change = lift (with_acl s.world) (change s.acl)

unfoldable pub administer : Option Name → AdminCommand → State → Outcome State
administer secret AdminCommand.ListNamespaces s =
    Done (list_namespaces (λ ns. has_any (rights_of s.acl secret ns)) s.world) s
administer secret (AdminCommand.PutNamespace name namespace) s = in_world s (put_namespace name namespace)
administer secret (AdminCommand.DeleteNamespace name) s = in_world s (delete_namespace name)
administer secret AdminCommand.ListQuotas s = Done (list_quotas s.world) s
administer secret (AdminCommand.ReadQuota name) s = in_world s (read_quota name)
administer secret (AdminCommand.PutQuota name quota) s = in_world s (put_quota name quota)
administer secret (AdminCommand.DeleteQuota name) s = in_world s (delete_quota name)
administer secret AdminCommand.ListPools s =
    Done (list_pools (λ pool. (pool_rights_of s.acl secret pool).read) s.world) s
administer secret (AdminCommand.PutPool name pool) s = in_world s (put_pool_record name pool)
administer secret (AdminCommand.DeletePool name) s = in_world s (delete_pool name)
administer secret (AdminCommand.ReadPolicy name) s = in_acl s (read_policy name)
administer secret (AdminCommand.PutPolicy name policy) s = in_acl s (put_policy name policy)
administer secret (AdminCommand.DeletePolicy name) s = in_acl s (delete_policy name)
administer secret (AdminCommand.CreateToken new) s = in_acl s (create_token new)
administer secret (AdminCommand.DeleteToken accessor) s = in_acl s (delete_token accessor)

-- a request without a secret, or with that of any token, may list namespaces and pools; all else needs a management token
abbrev pub may_administer : Acl → Option Name → AdminCommand → Bool
may_administer acl secret AdminCommand.ListNamespaces = is_known acl secret
may_administer acl secret AdminCommand.ListPools = is_known acl secret
may_administer acl secret _ = is_manager acl secret
