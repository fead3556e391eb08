-- Which rights a secret has: the rules of its token's policies, merged by pattern.
-- Nomad's page on the ACL policy specification.
use Rattle.std.specs.Prelude.{ℕ, max, Bool, true, false, not, ◌&&◌, ◌||◌, if◌then◌else◌, List, [], ◌∷◌, Option, Some}
use Rattle.std.specs.Prelude.{None, filter, flat_map, fold, length, codes}
use Rattle.std.specs.Option.{option_map_or}
use Rattle.std.specs.FinMap.{get}
use Rattle.ns_types.specs.declared.acl.Grants.{Grants}
use Rattle.ns_types.specs.declared.acl.PoolRights.{PoolRights}
use Rattle.ns_types.specs.declared.acl.Rights.{Rights}
use Rattle.ns_types.specs.declared.acl.Rule.{Rule}
use Rattle.ns_types.specs.declared.acl.RuleKind.{RuleKind}
use Rattle.ns_types.specs.declared.acl.TokenKind.{TokenKind}
use Rattle.ns_types.specs.State.Lists.{is_empty}
use Rattle.ns_types.specs.State.Names.{Name, same_name, same_number, begins_with}
use Rattle.ns_types.specs.State.Rows.{Acl}

-- ---- the bearer of a secret

pub data Bearer : Type 0 where
  Unknown Manager : Bearer
  -- has what the policies with these names grant
  Holder : List Name → Bearer

abbrev pub bearer_with : TokenKind → List Name → Bearer
bearer_with TokenKind.Client policies = Holder policies
bearer_with TokenKind.Management policies = Manager

-- a request without a secret has the policy `anonymous`; a secret that no token has is unknown
abbrev pub bearer : Acl → Option Name → Bearer
bearer acl None = Holder (codes "anonymous" ∷ [])
bearer acl (Some secret) =
    option_map_or (λ token. bearer_with token.kind token.policies) (get acl.tokens secret) Unknown

-- ---- what rules grant

abbrev pub is_of_kind : RuleKind → Rule → Bool
is_of_kind RuleKind.Namespace rule = elim rule.kind [ RuleKind.Namespace ↦ true | RuleKind.Pool ↦ false ]
is_of_kind RuleKind.Pool rule = elim rule.kind [ RuleKind.Namespace ↦ false | RuleKind.Pool ↦ true ]

-- the rules of that kind in the named policies; a policy that does not exist has none
abbrev pub rules_of : Acl → RuleKind → List Name → List Rule
rules_of acl kind policies = filter (is_of_kind kind)
    (flat_map (λ name. option_map_or (λ policy. policy.rules) (get acl.policies name) []) policies)

abbrev pub is_exact : Name → Rule → Bool
is_exact target rule = not rule.pattern.is_prefix && same_name rule.pattern.text target

abbrev pub is_match : Name → Rule → Bool
is_match target rule = rule.pattern.is_prefix && begins_with rule.pattern.text target

abbrev pub longest : List Rule → ℕ
longest rules = fold (λ most rule. max most (length rule.pattern.text)) 0 rules

-- the rules of the longest pattern with a star that matches; matching patterns of one length are the same pattern
abbrev pub longest_match : Name → List Rule → List Rule
longest_match target rules =
    let matching = filter (is_match target) rules in
    filter (λ rule. same_number (length rule.pattern.text) (longest matching)) matching

-- the rules that count: those of the exact name, if there are any, else those of the longest match
abbrev pub counting : Name → List Rule → List Rule
counting target rules =
    let exact = filter (is_exact target) rules in
    if is_empty exact then longest_match target rules else exact

abbrev pub no_grants : Grants
no_grants = record {
  list_jobs = false;
  read_job = false;
  submit_job = false;
  alloc_lifecycle = false;
  read_pool = false;
  write_pool = false;
  deny = false;
}

abbrev pub both : Grants → Grants → Grants
both a b = record {
  list_jobs = a.list_jobs || b.list_jobs;
  read_job = a.read_job || b.read_job;
  submit_job = a.submit_job || b.submit_job;
  alloc_lifecycle = a.alloc_lifecycle || b.alloc_lifecycle;
  read_pool = a.read_pool || b.read_pool;
  write_pool = a.write_pool || b.write_pool;
  deny = a.deny || b.deny;
}

abbrev pub merged : List Rule → Grants
merged rules = fold (λ grants rule. both grants rule.grants) no_grants rules

-- with `deny` nothing is granted
abbrev pub unless_denied : Grants → Grants
unless_denied grants = if grants.deny then no_grants else grants

unfoldable pub granted : Acl → RuleKind → List Name → Name → Grants
granted acl kind policies target = unless_denied (merged (counting target (rules_of acl kind policies)))

-- ---- rights

abbrev pub rights_in : Grants → Rights
rights_in g = record {
  list_jobs = g.list_jobs;
  read_job = g.read_job;
  submit_job = g.submit_job;
  alloc_lifecycle = g.alloc_lifecycle;
}

abbrev pub no_rights : Rights
no_rights = record { list_jobs = false; read_job = false; submit_job = false; alloc_lifecycle = false }

abbrev pub all_rights : Rights
all_rights = record { list_jobs = true; read_job = true; submit_job = true; alloc_lifecycle = true }

-- the rights that a bearer has in a namespace
abbrev pub rights_for : Acl → Name → Bearer → Rights
rights_for acl ns Unknown = no_rights
rights_for acl ns Manager = all_rights
rights_for acl ns (Holder policies) = rights_in (granted acl RuleKind.Namespace policies ns)

unfoldable pub rights_of : Acl → Option Name → Name → Rights
rights_of acl secret ns = rights_for acl ns (bearer acl secret)

abbrev pub has_any : Rights → Bool
has_any r = r.list_jobs || r.read_job || r.submit_job || r.alloc_lifecycle

-- the rights that a bearer has in a pool
abbrev pub pool_rights_for : Acl → Name → Bearer → PoolRights
pool_rights_for acl pool Unknown = record { read = false; write = false }
pool_rights_for acl pool Manager = record { read = true; write = true }
pool_rights_for acl pool (Holder policies) =
    let grants = granted acl RuleKind.Pool policies pool in
    record { read = grants.read_pool; write = grants.write_pool }

unfoldable pub pool_rights_of : Acl → Option Name → Name → PoolRights
pool_rights_of acl secret pool = pool_rights_for acl pool (bearer acl secret)

-- the secret is that of a management token
abbrev pub is_manager : Acl → Option Name → Bool
is_manager acl secret = by (bearer acl secret)
  where
    by : Bearer → Bool
    by Unknown = false
    by Manager = true
    by (Holder policies) = false

-- there is no secret, or a token has it
abbrev pub is_known : Acl → Option Name → Bool
is_known acl secret = by (bearer acl secret)
  where
    by : Bearer → Bool
    by Unknown = false
    by Manager = true
    by (Holder policies) = true
