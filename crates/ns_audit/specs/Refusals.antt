-- Laws of refusals: which there are, and which comes first.
use Rattle.std.specs.Prelude.{◌≡◌, ◌↔◌, Bool, true, false, Err, IsTrue, IsFalse, ℕ, ◌≤◌, Option, Some, None, ◌⊎◌}
use Rattle.ns_types.specs.declared.refusal.Member.TheVariants as Member
use Rattle.ns_types.specs.declared.refusal.Refusal.{Refusal}
use Rattle.ns_types.specs.declared.step.AskCommand.TheVariants as AskCommand
use Rattle.ns_types.specs.declared.step.Step.{Step}
use Rattle.ns_types.specs.State.Rows.{State, Tenant}
use Rattle.ns_types.specs.Settling.Outcome.{Done, Outcome}
use Rattle.ns_types.specs.Settling.Settle.{settle}
use Rattle.ns_types.specs.Steps.{act, after, said, is_allowed, is_past_bound}
use Rattle.std.specs.FinMap.{get, len, contains_key}
use Rattle.ns_types.specs.declared.job.Job.{Job}
use Rattle.ns_types.specs.declared.job.Registration.{Registration}
use Rattle.ns_types.specs.Asking.Asks.{pool_of, meets, most_jobs}
use Rattle.ns_types.specs.State.Names.{Name}
use Rattle.ns_types.specs.Access.Rights.{rights_of}
use Rattle.ns_types.specs.Access.Sharing.{permits}

-- A step is refused `Denied` exactly where its secret has no right to it, whatever else would refuse it.
abbrev pub DeniedWithoutRight : Type 0
DeniedWithoutRight = (step : Step) (s : State) →
    after step s ≡ said (Err Refusal.Denied) s ↔ IsFalse (is_allowed step s.acl)

-- So the access lists alone decide it: a step that is denied in one state is denied in every state with the same access
-- lists.
abbrev pub DeniedAlike : Type 0
DeniedAlike = (step : Step) (s t : State) → s.acl ≡ t.acl → after step s ≡ said (Err Refusal.Denied) s →
    after step t ≡ said (Err Refusal.Denied) t

-- The refusals that a step may have for its answer. All others are given without a look at the state, or are no answers
-- of a step.
abbrev pub is_of_steps : Refusal → Bool
is_of_steps Refusal.Denied = true
is_of_steps Refusal.NotFound = true
is_of_steps Refusal.PoolNotPermitted = true
is_of_steps (Refusal.BadField member) = true
is_of_steps Refusal.Conflict = true
is_of_steps Refusal.InUse = true
is_of_steps Refusal.Full = true
is_of_steps _ = false

-- a step is refused with no other refusal
abbrev pub StepsRefuseSo : Type 0
StepsRefuseSo = (step : Step) (s t : State) (refusal : Refusal) → after step s ≡ said (Err refusal) t →
    IsTrue (is_of_steps refusal)

abbrev pub is_of_worker : Step → Bool
is_of_worker (Step.Ask ns secret command) = false
is_of_worker (Step.Admin secret command) = false
is_of_worker (Step.Node pool secret command) = false
is_of_worker _ = true

-- whether a counter has passed its bound once what the step itself changes has settled
abbrev pub is_past_after : State → Outcome State → Bool
is_past_after s (Done content own) = is_past_bound (settle s.world own.world)
is_past_after s _ = false

abbrev pub would_pass_bound : Step → State → Bool
would_pass_bound step s = is_past_after s (act step s)

-- A worker's step is refused with no other refusal than `Full`, and only where a counter would pass its bound.
abbrev pub WorkersAreFullOnly : Type 0
WorkersAreFullOnly = (step : Step) (s t : State) (refusal : Refusal) → IsTrue (is_of_worker step) →
    after step s ≡ said (Err refusal) t → (refusal ≡ Refusal.Full) × IsTrue (would_pass_bound step s)

-- ---- the order of refusals, at a registration

-- the place of a refusal in this order; the least comes first
abbrev pub rank : Refusal → ℕ
rank Refusal.Denied = 0
rank Refusal.NotFound = 1
rank Refusal.PoolNotPermitted = 2
rank (Refusal.BadField member) = 3
rank Refusal.Conflict = 4
rank Refusal.InUse = 5
rank Refusal.Full = 6
rank _ = 7

-- An enforced index of zero demands that there is no such job. Any other number demands a job with that modify index.
abbrev pub IndexIsDemanded : Type 0
IndexIsDemanded = (job : Job) (index : ℕ) → (IsTrue (meets None index) ↔ (index ≡ 0)) ×
    (IsTrue (meets (Some job) index) ↔ ((job.modify_index ≡ index) × (index ≡ 0 → ⊥)))

-- the reasons to refuse a registration: each counts whether another one holds or not
pub data SpeaksAgainst (s : State) (secret : Option Name) (ns : Name) (r : Registration) : Refusal → Type 0 where
  no_right : IsFalse (rights_of s.acl secret ns).submit_job → SpeaksAgainst s secret ns r Refusal.Denied
  no_namespace : get s.world.tenants ns ≡ None → SpeaksAgainst s secret ns r Refusal.NotFound
  foreign_pool : (t : Tenant) → get s.world.tenants ns ≡ Some t → IsFalse (permits t.namespace (pool_of t r)) →
      SpeaksAgainst s secret ns r Refusal.PoolNotPermitted
  no_pool : (t : Tenant) → get s.world.tenants ns ≡ Some t → IsFalse (contains_key s.world.pools (pool_of t r)) →
      SpeaksAgainst s secret ns r (Refusal.BadField Member.NodePool)
  other_index : (t : Tenant) (index : ℕ) → get s.world.tenants ns ≡ Some t → r.enforced ≡ Some index →
      IsFalse (meets (get t.jobs r.id) index) → SpeaksAgainst s secret ns r Refusal.Conflict
  no_room : (t : Tenant) → get s.world.tenants ns ≡ Some t → IsFalse (contains_key t.jobs r.id) →
      most_jobs ≤ len t.jobs → SpeaksAgainst s secret ns r Refusal.Full

-- If there is a reason to refuse a registration, it is refused with such a reason, and no other one that holds comes
-- before it.
abbrev pub FirstRefusalOfRegister : Type 0
FirstRefusalOfRegister = (s : State) (secret : Option Name) (ns : Name) (r : Registration) (other : Refusal) →
    SpeaksAgainst s secret ns r other
    → (refusal : Refusal) × SpeaksAgainst s secret ns r refusal × (rank refusal ≤ rank other) ×
    (after (Step.Ask ns secret (AskCommand.Register r)) s ≡ said (Err refusal) s)

-- If a registration is refused, it is for such a reason; or with `Full`, where a counter would pass its bound.
abbrev pub RegisterRefusesSo : Type 0
RegisterRefusesSo = (s t : State) (secret : Option Name) (ns : Name) (r : Registration) (refusal : Refusal) →
    let step = Step.Ask ns secret (AskCommand.Register r) in
    after step s ≡ said (Err refusal) t →
    SpeaksAgainst s secret ns r refusal ⊎ ((refusal ≡ Refusal.Full) × IsTrue (would_pass_bound step s))
