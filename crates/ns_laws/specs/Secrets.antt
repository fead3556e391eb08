-- Laws of secrets: for whom a secret stands, which right each request needs, and what becomes of tokens and policies.
use Rattle.std.specs.Prelude.{◌≡◌, ◌≢◌, ◌↔◌, ◌⊎◌, ℕ, ◌<◌, Bool, true, false, List, [], ◌∷◌, Option, Some, None, Ok, Err}
use Rattle.std.specs.Prelude.{IsTrue, IsFalse, codes}
use Rattle.std.specs.FinMap.{get, len}
use Rattle.std.specs.List.{Contains, list_any}
use Rattle.ns_types.specs.declared.acl.Grants.{Grants}
use Rattle.ns_types.specs.declared.acl.Policy.{Policy}
use Rattle.ns_types.specs.declared.acl.PoolRights.{PoolRights}
use Rattle.ns_types.specs.declared.acl.Rights.{Rights}
use Rattle.ns_types.specs.declared.acl.Rule.{Rule}
use Rattle.ns_types.specs.declared.acl.RuleKind.{RuleKind}
use Rattle.ns_types.specs.declared.acl.Token.{Token}
use Rattle.ns_types.specs.declared.acl.TokenKind.TheVariants as TokenKind
use Rattle.ns_types.specs.declared.job.Registration.{Registration}
use Rattle.ns_types.specs.declared.refusal.Refusal.{Refusal}
use Rattle.ns_types.specs.declared.reply.Content.{Content}
use Rattle.ns_types.specs.declared.reply.NamespaceShown.{NamespaceShown}
use Rattle.ns_types.specs.declared.reply.PoolShown.{PoolShown}
use Rattle.ns_types.specs.declared.reply.Reply.{Reply}
use Rattle.ns_types.specs.declared.reply.TokenShown.{TokenShown}
use Rattle.ns_types.specs.declared.step.AdminCommand.{AdminCommand}
use Rattle.ns_types.specs.declared.step.AskCommand.{AskCommand}
use Rattle.ns_types.specs.declared.step.NewToken.{NewToken}
use Rattle.ns_types.specs.declared.step.NodeCommand.{NodeCommand}
use Rattle.ns_types.specs.declared.step.Step.{Step}
use Rattle.ns_types.specs.Access.Rights.{granted, rules_of, rights_of, pool_rights_of}
use Rattle.ns_types.specs.Asking.Policies.{bootstrap_accessor}
use Rattle.ns_types.specs.State.Lists.{Each}
use Rattle.ns_types.specs.State.Names.{Name, same_name}
use Rattle.ns_types.specs.State.Rows.{Acl, State, Tenant, PoolRows}
use Rattle.ns_types.specs.Steps.{Answer, after, said, is_allowed}
use Rattle.ns_types.specs.Validity.{IsValid}

-- ---- for whom a secret stands

-- The policies of a request that is no manager's. Without a secret it is the one policy with the name `anonymous`; with
-- the secret of a `client` token it is those that the token names.
pub data HasPolicies (acl : Acl) : Option Name → List Name → Type 0 where
  anonymous : HasPolicies acl None (codes "anonymous" ∷ [])
  of_token : (secret : Name) (token : Token) → get acl.tokens secret ≡ Some token → token.kind ≡ TokenKind.Client →
      HasPolicies acl (Some secret) token.policies

-- the lists of namespaces and of pools
abbrev pub is_for_all : AdminCommand → Bool
is_for_all AdminCommand.ListNamespaces = true
is_for_all AdminCommand.ListPools = true
is_for_all _ = false

-- A request without a secret, or with the secret of a `client` token, is denied whatever administrators ask, but the
-- lists of namespaces and of pools.
abbrev pub OnlyManagersAdminister : Type 0
OnlyManagersAdminister = (s : State) (secret : Option Name) (policies : List Name) (command : AdminCommand) →
    HasPolicies s.acl secret policies → IsFalse (is_for_all command) →
    after (Step.Admin secret command) s ≡ said (Err Refusal.Denied) s

-- The lists of namespaces and of pools are allowed without a secret, and with the secret of a `client` token.
abbrev pub AllMayList : Type 0
AllMayList = (acl : Acl) (secret : Option Name) (policies : List Name) (command : AdminCommand) →
    HasPolicies acl secret policies → IsTrue (is_for_all command) → IsTrue (is_allowed (Step.Admin secret command) acl)

-- the secret belongs to a `management` token
abbrev pub IsManager : Acl → Name → Type 0
IsManager acl secret = (token : Token) × (get acl.tokens secret ≡ Some token) × (token.kind ≡ TokenKind.Management)

-- the step is an administrator's request with the secret of a `management` token
abbrev pub IsManagers : Acl → Step → Type 0
IsManagers acl (Step.Admin (Some secret) command) = IsManager acl secret
IsManagers acl _ = ⊥

-- Whatever step is made, the access lists stay as they are, or it is an administrator's request with the secret of a
-- `management` token.
abbrev pub OnlyManagersChangeAccess : Type 0
OnlyManagersChangeAccess = (step : Step) (s t : State) (answer : Answer) → after step s ≡ said answer t →
    (t.acl ≡ s.acl) ⊎ IsManagers s.acl step

-- the step puts or deletes a policy, or creates or deletes a token
abbrev pub writes_access : Step → Bool
writes_access (Step.Admin secret (AdminCommand.PutPolicy name policy)) = true
writes_access (Step.Admin secret (AdminCommand.DeletePolicy name)) = true
writes_access (Step.Admin secret (AdminCommand.CreateToken new)) = true
writes_access (Step.Admin secret (AdminCommand.DeleteToken accessor)) = true
writes_access _ = false

-- No step changes the access lists, but one that puts or deletes a policy, or creates or deletes a token.
abbrev pub AccessListsStay : Type 0
AccessListsStay = (step : Step) (s t : State) (answer : Answer) → IsFalse (writes_access step) →
    after step s ≡ said answer t → t.acl ≡ s.acl

-- ---- what the lists show

-- the row shown is that of a namespace that is there, and the request may read it
pub record IsReadable (s : State) (secret : Option Name) (shown : NamespaceShown) : Type 0 where
  pub tenant : Tenant
  pub there : get s.world.tenants shown.name ≡ Some tenant
  pub row : shown.row ≡ tenant.namespace
  pub allowed : IsTrue (is_allowed (Step.Ask shown.name secret AskCommand.ReadNamespace) s.acl)

-- the list of namespaces shows no other row than those that the request may read, and each of them
pub record ShowsReadable (s : State) (secret : Option Name) (content : Content) : Type 0 where
  pub rows : List NamespaceShown
  pub answered : content ≡ Content.Namespaces rows
  pub no_other : Each (IsReadable s secret) rows
  pub all : (ns : Name) (tenant : Tenant) → get s.world.tenants ns ≡ Some tenant →
      IsTrue (is_allowed (Step.Ask ns secret AskCommand.ReadNamespace) s.acl) →
      IsTrue (list_any (λ shown. same_name shown.name ns) rows)

-- The list of namespaces shows exactly those namespaces whose record the same secret may read, each with its record.
abbrev pub ListShowsReadable : Type 0
ListShowsReadable = (s t : State) (secret : Option Name) (reply : Reply) →
    after (Step.Admin secret AdminCommand.ListNamespaces) s ≡ said (Ok reply) t → ShowsReadable s secret reply.content

-- the row shown is that of a pool that is there, and the request may read it
pub record IsReadablePool (s : State) (secret : Option Name) (shown : PoolShown) : Type 0 where
  pub rows : PoolRows
  pub there : get s.world.pools shown.name ≡ Some rows
  pub row : shown.row ≡ rows.pool
  pub allowed : IsTrue (is_allowed (Step.Node shown.name secret NodeCommand.ReadPool) s.acl)

-- the list of pools shows no other row than those that the request may read, and each of them
pub record ShowsReadablePools (s : State) (secret : Option Name) (content : Content) : Type 0 where
  pub rows : List PoolShown
  pub answered : content ≡ Content.Pools rows
  pub no_other : Each (IsReadablePool s secret) rows
  pub all : (pool : Name) (its : PoolRows) → get s.world.pools pool ≡ Some its →
      IsTrue (is_allowed (Step.Node pool secret NodeCommand.ReadPool) s.acl) →
      IsTrue (list_any (λ shown. same_name shown.name pool) rows)

-- The list of pools shows exactly those pools whose record the same secret may read, each with its record.
abbrev pub ListShowsReadablePools : Type 0
ListShowsReadablePools = (s t : State) (secret : Option Name) (reply : Reply) →
    after (Step.Admin secret AdminCommand.ListPools) s ≡ said (Ok reply) t → ShowsReadablePools s secret reply.content

-- ---- which rights policies give

-- the rule stands in a policy that is there under one of these names, and is of this kind
pub record StandsIn (acl : Acl) (kind : RuleKind) (policies : List Name) (rule : Rule) : Type 0 where
  pub name : Name
  pub named : Contains policies name
  pub policy : Policy
  pub there : get acl.policies name ≡ Some policy
  pub stands : Contains policy.rules rule
  pub of_kind : rule.kind ≡ kind

-- The rules of a list of policies are exactly those that stand in the policies of these names that are there: for a
-- namespace their rules for namespaces, for a pool their rules for pools.
abbrev pub RulesAreOfPolicies : Type 0
RulesAreOfPolicies = (acl : Acl) (kind : RuleKind) (policies : List Name) (rule : Rule) →
    Contains (rules_of acl kind policies) rule ↔ StandsIn acl kind policies rule

-- each right in a namespace is the capability of that name
pub record AreRights (grants : Grants) (rights : Rights) : Type 0 where
  pub list_jobs : rights.list_jobs ≡ grants.list_jobs
  pub read_job : rights.read_job ≡ grants.read_job
  pub submit_job : rights.submit_job ≡ grants.submit_job
  pub alloc_lifecycle : rights.alloc_lifecycle ≡ grants.alloc_lifecycle

-- each right in a pool is the capability of that name
pub record ArePoolRights (grants : Grants) (rights : PoolRights) : Type 0 where
  pub read : rights.read ≡ grants.read_pool
  pub write : rights.write ≡ grants.write_pool

-- A request without a secret has in a namespace the rights that the policy `anonymous` grants there, and no others. One
-- with the secret of a `client` token has those that the token's policies grant there, and no others.
abbrev pub RightsAreGranted : Type 0
RightsAreGranted = (acl : Acl) (secret : Option Name) (policies : List Name) (ns : Name) →
    HasPolicies acl secret policies → AreRights (granted acl RuleKind.Namespace policies ns) (rights_of acl secret ns)

-- A request without a secret has in a pool the rights that the policy `anonymous` grants there, and no others. One with
-- the secret of a `client` token has those that the token's policies grant there, and no others.
abbrev pub PoolRightsAreGranted : Type 0
PoolRightsAreGranted = (acl : Acl) (secret : Option Name) (policies : List Name) (pool : Name) →
    HasPolicies acl secret policies → ArePoolRights (granted acl RuleKind.Pool policies pool) (pool_rights_of acl secret pool)

-- ---- which right a request needs

-- the request is denied where the right is missing, and nowhere else
abbrev pub NeedsOnly : Bool → Step → State → Type 0
NeedsOnly right step s = after step s ≡ said (Err Refusal.Denied) s ↔ IsFalse right

-- To register or to deregister a job a request needs the right to submit jobs in its namespace, and no other right.
abbrev pub JobWritesNeedSubmit : Type 0
JobWritesNeedSubmit = (s : State) (secret : Option Name) (ns id : Name) (registration : Registration) (purge : Bool) →
    let right = (rights_of s.acl secret ns).submit_job in
    NeedsOnly right (Step.Ask ns secret (AskCommand.Register registration)) s
    × NeedsOnly right (Step.Ask ns secret (AskCommand.Deregister id purge)) s

-- To stop an allocation a request needs the right to its namespace's life cycle of allocations, and no other right.
abbrev pub StopNeedsLifecycle : Type 0
StopNeedsLifecycle = (s : State) (secret : Option Name) (ns : Name) (n : ℕ) →
    NeedsOnly (rights_of s.acl secret ns).alloc_lifecycle (Step.Ask ns secret (AskCommand.StopAllocation n)) s

-- To list the jobs of a namespace a request needs the right to list jobs there, and no other right.
abbrev pub ListNeedsListJobs : Type 0
ListNeedsListJobs = (s : State) (secret : Option Name) (ns prefix : Name) →
    NeedsOnly (rights_of s.acl secret ns).list_jobs (Step.Ask ns secret (AskCommand.ListJobs prefix)) s

-- the request lists jobs, reads the namespace's record, or writes
abbrev pub is_no_read_of_jobs : AskCommand → Bool
is_no_read_of_jobs (AskCommand.ListJobs prefix) = true
is_no_read_of_jobs AskCommand.ReadNamespace = true
is_no_read_of_jobs (AskCommand.Register registration) = true
is_no_read_of_jobs (AskCommand.Deregister id purge) = true
is_no_read_of_jobs (AskCommand.StopAllocation n) = true
is_no_read_of_jobs _ = false

-- To read a job, evaluations, allocations, events or the usage of a quota in a namespace a request needs the right to
-- read jobs there, and no other right.
abbrev pub ReadsNeedReadJob : Type 0
ReadsNeedReadJob = (s : State) (secret : Option Name) (ns : Name) (command : AskCommand) →
    IsFalse (is_no_read_of_jobs command) →
    NeedsOnly (rights_of s.acl secret ns).read_job (Step.Ask ns secret command) s

abbrev pub HasNone : Rights → Type 0
HasNone rights = IsFalse rights.list_jobs × IsFalse rights.read_job × IsFalse rights.submit_job ×
    IsFalse rights.alloc_lifecycle

-- A request for the record of a namespace is denied exactly where it has none of the four rights there.
abbrev pub NamespaceNeedsSome : Type 0
NamespaceNeedsSome = (s : State) (secret : Option Name) (ns : Name) →
    after (Step.Ask ns secret AskCommand.ReadNamespace) s ≡ said (Err Refusal.Denied) s ↔
    HasNone (rights_of s.acl secret ns)

-- the request reads the pool's record or lists its nodes
abbrev pub is_pool_read : NodeCommand → Bool
is_pool_read NodeCommand.ReadPool = true
is_pool_read NodeCommand.ListNodes = true
is_pool_read _ = false

-- To read a pool's record or list its nodes a request needs the right to read the pool, and no other right.
abbrev pub PoolReadsNeedRead : Type 0
PoolReadsNeedRead = (s : State) (secret : Option Name) (pool : Name) (command : NodeCommand) →
    IsTrue (is_pool_read command) → NeedsOnly (pool_rights_of s.acl secret pool).read (Step.Node pool secret command) s

-- To put or delete a node, to set its status or whether it is eligible, or to report an allocation on it a request needs
-- the right to write the pool, and no other right.
abbrev pub PoolWritesNeedWrite : Type 0
PoolWritesNeedWrite = (s : State) (secret : Option Name) (pool : Name) (command : NodeCommand) →
    IsFalse (is_pool_read command) → NeedsOnly (pool_rights_of s.acl secret pool).write (Step.Node pool secret command) s

-- ---- what a request without the right changes: nothing

abbrev pub is_stop : AskCommand → Bool
is_stop (AskCommand.StopAllocation n) = true
is_stop _ = false

-- Without the right to submit jobs in a namespace nothing that is asked there changes the state, but the stop of an
-- allocation.
abbrev pub NoChangeWithoutSubmit : Type 0
NoChangeWithoutSubmit = (s t : State) (secret : Option Name) (ns : Name) (command : AskCommand) (answer : Answer) →
    IsFalse (rights_of s.acl secret ns).submit_job → IsFalse (is_stop command) →
    after (Step.Ask ns secret command) s ≡ said answer t → t ≡ s

-- Without the right to write a pool nothing that is asked of it changes the state.
abbrev pub NoChangeWithoutWrite : Type 0
NoChangeWithoutWrite = (s t : State) (secret : Option Name) (pool : Name) (command : NodeCommand) (answer : Answer) →
    IsFalse (pool_rights_of s.acl secret pool).write → after (Step.Node pool secret command) s ≡ said answer t → t ≡ s

-- ---- tokens

-- the step is answered by a reply, not by a refusal
abbrev pub CanBeMade : Step → State → Type 0
CanBeMade step s = (t : State) × (reply : Reply) × (after step s ≡ said (Ok reply) t)

-- the token is what was asked for
pub record IsAsAsked (new : NewToken) (token : Token) : Type 0 where
  pub accessor : token.accessor ≡ new.accessor
  pub name : token.name ≡ new.name
  pub kind : token.kind ≡ new.kind
  pub policies : token.policies ≡ new.policies

-- the token shown is what was asked for
pub record IsShownAsAsked (new : NewToken) (shown : TokenShown) : Type 0 where
  pub accessor : shown.accessor ≡ new.accessor
  pub secret : shown.secret ≡ new.secret
  pub name : shown.name ≡ new.name
  pub kind : shown.kind ≡ new.kind
  pub policies : shown.policies ≡ new.policies

-- the access lists before and after a token is created, and what is answered
pub record IsCreated (new : NewToken) (old later : Acl) (content : Content) : Type 0 where
  -- neither the secret nor the accessor was a token's
  pub new_secret : get old.tokens new.secret ≡ None
  pub new_accessor : (secret : Name) (token : Token) → get old.tokens secret ≡ Some token → token.accessor ≢ new.accessor
  pub token : Token
  pub stored : get later.tokens new.secret ≡ Some token
  pub as_asked : IsAsAsked new token
  pub shown : TokenShown
  pub answered : content ≡ Content.Token shown
  pub shown_as_asked : IsShownAsAsked new shown
  pub others : (secret : Name) → secret ≢ new.secret → get later.tokens secret ≡ get old.tokens secret
  pub same_policies : later.policies ≡ old.policies

-- Where a token is created, its secret and its accessor were no token's before. Afterwards the token of that secret is
-- exactly what was asked for, and the answer shows exactly that. Every other secret keeps its token or still has none,
-- and the policies stay.
abbrev pub TokenIsAsAsked : Type 0
TokenIsAsAsked = (s t : State) (secret : Option Name) (new : NewToken) (reply : Reply) →
    after (Step.Admin secret (AdminCommand.CreateToken new)) s ≡ said (Ok reply) t →
    IsCreated new s.acl t.acl reply.content

-- In a valid state a request with the secret of a `management` token creates a token where no token has the new secret or
-- the new accessor, and there are fewer tokens than may be.
abbrev pub ManagerCreatesToken : Type 0
ManagerCreatesToken = (s : State) (secret : Name) (new : NewToken) → IsValid s → IsManager s.acl secret →
    get s.acl.tokens new.secret ≡ None →
    ((other : Name) (row : Token) → get s.acl.tokens other ≡ Some row → row.accessor ≢ new.accessor) →
    len s.acl.tokens < 10000 → CanBeMade (Step.Admin (Some secret) (AdminCommand.CreateToken new)) s

-- the access lists before and after the token with that accessor is deleted
pub record IsDeleted (accessor : Name) (old later : Acl) : Type 0 where
  -- such a token was there
  pub secret : Name
  pub token : Token
  pub was : get old.tokens secret ≡ Some token
  pub its : token.accessor ≡ accessor
  -- and exactly the others stay
  pub left : (other : Name) (row : Token) →
      get later.tokens other ≡ Some row ↔ ((get old.tokens other ≡ Some row) × (row.accessor ≢ accessor))
  pub same_policies : later.policies ≡ old.policies

-- Where in a valid state a token is deleted, there was one with that accessor, and afterwards there is none. The tokens
-- with other accessors stay under their secrets as they were, no other comes, and the policies stay.
abbrev pub DeletedTokenIsUnknown : Type 0
DeletedTokenIsUnknown = (s t : State) (secret : Option Name) (accessor : Name) (reply : Reply) → IsValid s →
    after (Step.Admin secret (AdminCommand.DeleteToken accessor)) s ≡ said (Ok reply) t → IsDeleted accessor s.acl t.acl

-- In a valid state a request with the secret of a `management` token deletes any token that is there, but
-- the one that the server starts with.
abbrev pub ManagerDeletesToken : Type 0
ManagerDeletesToken = (s : State) (secret other : Name) (row : Token) → IsValid s → IsManager s.acl secret →
    get s.acl.tokens other ≡ Some row → row.accessor ≢ bootstrap_accessor →
    CanBeMade (Step.Admin (Some secret) (AdminCommand.DeleteToken row.accessor)) s

-- A request to delete the token that the server starts with, whose accessor is all zeros, changes nothing, whoever makes
-- it.
abbrev pub FirstTokenStays : Type 0
FirstTokenStays = (s t : State) (secret : Option Name) (answer : Answer) →
    after (Step.Admin secret (AdminCommand.DeleteToken bootstrap_accessor)) s ≡ said answer t → t ≡ s

-- ---- policies

-- Where a policy is put, the policy of that name is afterwards the one that was put. Every other name keeps its policy
-- or still has none, and the tokens stay.
abbrev pub PolicyIsAsPut : Type 0
PolicyIsAsPut = (s t : State) (secret : Option Name) (name : Name) (policy : Policy) (reply : Reply) →
    after (Step.Admin secret (AdminCommand.PutPolicy name policy)) s ≡ said (Ok reply) t →
    (get t.acl.policies name ≡ Some policy)
    × ((other : Name) → other ≢ name → get t.acl.policies other ≡ get s.acl.policies other)
    × (t.acl.tokens ≡ s.acl.tokens)

-- Where a policy is deleted, there is none of that name afterwards. Every other name keeps its policy or still has none,
-- and the tokens stay.
abbrev pub DeletedPolicyIsGone : Type 0
DeletedPolicyIsGone = (s t : State) (secret : Option Name) (name : Name) (reply : Reply) →
    after (Step.Admin secret (AdminCommand.DeletePolicy name)) s ≡ said (Ok reply) t →
    (get t.acl.policies name ≡ None)
    × ((other : Name) → other ≢ name → get t.acl.policies other ≡ get s.acl.policies other)
    × (t.acl.tokens ≡ s.acl.tokens)

-- In a valid state a request with the secret of a `management` token puts a policy where there is one of that name, or
-- there are fewer policies than may be.
abbrev pub ManagerPutsPolicy : Type 0
ManagerPutsPolicy = (s : State) (secret name : Name) (policy : Policy) → IsValid s → IsManager s.acl secret →
    ((old : Policy) × (get s.acl.policies name ≡ Some old)) ⊎ (len s.acl.policies < 10000) →
    CanBeMade (Step.Admin (Some secret) (AdminCommand.PutPolicy name policy)) s

-- In a valid state a request with the secret of a `management` token deletes a policy that is there.
abbrev pub ManagerDeletesPolicy : Type 0
ManagerDeletesPolicy = (s : State) (secret name : Name) (policy : Policy) → IsValid s → IsManager s.acl secret →
    get s.acl.policies name ≡ Some policy →
    CanBeMade (Step.Admin (Some secret) (AdminCommand.DeletePolicy name)) s
