-- Laws of rights: what a secret may do.
use Rattle.std.specs.Prelude.{◌≡◌, ◌≤◌, List, ◌∷◌, ◌++◌, Option, Some, None, Err, IsTrue, IsFalse, length, false}
use Rattle.std.specs.FinMap.{get}
use Rattle.std.specs.List.{list_any}
use Rattle.ns_types.specs.declared.acl.Grants.{Grants}
use Rattle.ns_types.specs.declared.acl.Pattern.{Pattern}
use Rattle.ns_types.specs.declared.acl.PoolRights.{PoolRights}
use Rattle.ns_types.specs.declared.acl.Rule.{Rule}
use Rattle.ns_types.specs.declared.acl.RuleKind.{RuleKind}
use Rattle.ns_types.specs.declared.acl.Token.{Token}
use Rattle.ns_types.specs.declared.acl.TokenKind.TheVariants as TokenKind
use Rattle.ns_types.specs.declared.refusal.Refusal.TheVariants as Refusal
use Rattle.ns_types.specs.declared.step.Step.{Step}
use Rattle.ns_types.specs.State.Lists.{Each}
use Rattle.ns_types.specs.State.Names.{Name}
use Rattle.ns_types.specs.Access.Rights.{is_exact, is_match, counting, rules_of, no_grants, granted, rights_of}
use Rattle.ns_types.specs.Access.Rights.{pool_rights_of, no_rights}
use Rattle.ns_types.specs.State.Rows.{Acl, State}
use Rattle.ns_types.specs.Steps.{after, said, is_allowed}

-- ---- what a secret may do

-- the step is a request with that secret
abbrev pub IsBy : Option Name → Step → Type 0
IsBy secret (Step.Ask ns by command) = by ≡ secret
IsBy secret (Step.Admin by command) = by ≡ secret
IsBy secret (Step.Node pool by command) = by ≡ secret
IsBy secret _ = ⊥

-- A request with an unknown secret is denied.
abbrev pub UnknownIsDenied : Type 0
UnknownIsDenied = (s : State) (secret : Name) (step : Step) → get s.acl.tokens secret ≡ None → IsBy (Some secret) step
    → after step s ≡ said (Err Refusal.Denied) s

-- No request with the secret of a `management` token is denied.
abbrev pub ManagerIsAllowed : Type 0
ManagerIsAllowed = (acl : Acl) (secret : Name) (token : Token) (step : Step) → get acl.tokens secret ≡ Some token →
    token.kind ≡ TokenKind.Management
    → IsBy (Some secret) step → IsTrue (is_allowed step acl)

-- ---- what rules give

-- If a rule that counts denies, the policies give no right.
abbrev pub DenyGivesNothing : Type 0
DenyGivesNothing = (acl : Acl) (kind : RuleKind) (policies : List Name) (target : Name)
    → IsTrue (list_any (λ rule. rule.grants.deny) (counting target (rules_of acl kind policies))) →
    granted acl kind policies target ≡ no_grants

-- a right is given exactly if some of the rules give it
pub record IsGivenBySome (grants : Grants) (rules : List Rule) : Type 0 where
  pub list_jobs : grants.list_jobs ≡ list_any (λ rule. rule.grants.list_jobs) rules
  pub read_job : grants.read_job ≡ list_any (λ rule. rule.grants.read_job) rules
  pub submit_job : grants.submit_job ≡ list_any (λ rule. rule.grants.submit_job) rules
  pub alloc_lifecycle : grants.alloc_lifecycle ≡ list_any (λ rule. rule.grants.alloc_lifecycle) rules
  pub read_pool : grants.read_pool ≡ list_any (λ rule. rule.grants.read_pool) rules
  pub write_pool : grants.write_pool ≡ list_any (λ rule. rule.grants.write_pool) rules

-- If no rule that counts denies, the policies give each right that some rule that counts gives, and no other.
abbrev pub SomeRuleGives : Type 0
SomeRuleGives = (acl : Acl) (kind : RuleKind) (policies : List Name) (target : Name)
    → IsFalse (list_any (λ rule. rule.grants.deny) (counting target (rules_of acl kind policies)))
    → IsGivenBySome (granted acl kind policies target) (counting target (rules_of acl kind policies))

-- If there is a rule with the exact name and without a star, a rule with a star changes nothing.
abbrev pub ExactBeforeStars : Type 0
ExactBeforeStars = (target : Name) (before later : List Rule) (rule : Rule) →
    IsTrue (list_any (is_exact target) (before ++ later)) → IsTrue rule.pattern.is_prefix
    → counting target (before ++ rule ∷ later) ≡ counting target (before ++ later)

-- If no rule without a star has the exact name, each rule that counts has a pattern with a star that matches the name,
-- and no rule that matches has a longer pattern.
abbrev pub LongestStarCounts : Type 0
LongestStarCounts = (target : Name) (rules : List Rule) → IsFalse (list_any (is_exact target) rules)
    → Each (λ rule. IsTrue (is_match target rule) ×
    Each (λ other. IsTrue (is_match target other) → length other.pattern.text ≤ length rule.pattern.text) rules)
    (counting target rules)

-- A rule whose pattern does not match the name, exactly or by its star, changes nothing.
abbrev pub OthersDoNotCount : Type 0
OthersDoNotCount = (target : Name) (before later : List Rule) (rule : Rule) → IsFalse (is_exact target rule) →
    IsFalse (is_match target rule)
    → counting target (before ++ rule ∷ later) ≡ counting target (before ++ later)

abbrev pub SamePattern : Pattern → Pattern → Type 0
SamePattern a b = (a.text ≡ b.text) × (a.is_prefix ≡ b.is_prefix)

-- All rules that count have the same pattern.
abbrev pub OnePatternCounts : Type 0
OnePatternCounts = (target : Name) (rules : List Rule) →
    Each (λ a. Each (λ b. SamePattern a.pattern b.pattern) (counting target rules)) (counting target rules)

abbrev pub no_pool_rights : PoolRights
no_pool_rights = record { read = false; write = false }

-- An unknown secret has no right in any namespace or pool.
abbrev pub UnknownHasNoRight : Type 0
UnknownHasNoRight = (acl : Acl) (secret name : Name) → get acl.tokens secret ≡ None
    → (rights_of acl (Some secret) name ≡ no_rights) × (pool_rights_of acl (Some secret) name ≡ no_pool_rights)
