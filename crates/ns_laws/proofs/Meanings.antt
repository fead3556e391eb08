-- What statuses mean, and which attributes a class has.
use Rattle.std.specs.Prelude.{◌≡◌, ◌≤◌, ◌^◌, ◌⊎◌, ℕ, suc, true, false, not, ◌&&◌, ◌||◌, Option, Some, None, codes, nat_lt}
use Rattle.std.proofs.lemmas.Bool.{leb-true, le-leb, or_right}
use Rattle.std.proofs.Common.{refl, sym, ap, ◌∙◌, inl, inr}
use Rattle.std.specs.FinMap.{get}
use Rattle.std.specs.List.{Contains}
use Rattle.std.specs.Option.{option_map_or}
use Rattle.ns_types.specs.declared.allocation.Allocation.{Allocation}
use Rattle.ns_types.specs.declared.allocation.ClientStatus.{ClientStatus}
use Rattle.ns_types.specs.declared.evaluation.Status.{Status}
use Rattle.ns_types.specs.declared.evaluation.Trigger.{Trigger}
use Rattle.ns_types.specs.declared.job.Job.{Job}
use Rattle.ns_types.specs.declared.job.JobKind.{JobKind}
use Rattle.ns_types.specs.declared.node.Attribute.{Attribute}
use Rattle.ns_types.specs.Settling.Making.{evaluation_of, new_evaluation}
use Rattle.ns_types.specs.State.Names.{Name, same_name}
use Rattle.ns_types.specs.State.Rows.{class_of, is_blocked, is_complete, is_held, is_live, is_open, is_pending, is_ready}
use Rattle.ns_types.specs.State.Rows.{is_run, is_unique}
use Rattle.ns_types.specs.Steps.{greatest, is_tenant_past_bound}
use Rattle.ns_types.proofs.Lists.{not_both}
use Rattle.ns_types.proofs.Named.{first_of_both, second_of_both, same_name_is, same_name_refl}
use Rattle.ns_types.proofs.Tests.{either_of, is_no}
use Rattle.ns_audit.proofs.Alone.Orderly.{blocked_is, pending_is}
use Rattle.ns_laws.specs.Statuses as law
use Rattle.ns_laws.proofs.Effect.Reports.{runs}
use Rattle.ns_laws.proofs.Elements.{contains_from, filter_has, has_filter, has_from}
use Rattle.ns_laws.proofs.Matching.{both_true, prefixes_begin}
use Rattle.ns_laws.proofs.Plans.Planning.{ready_is}

-- ---- statuses

held : (client : ClientStatus) → is_held client ≡ true → (client ≡ ClientStatus.Pending) ⊎ (client ≡ ClientStatus.Running)
held ClientStatus.Pending e = inl refl
held ClientStatus.Running e = inr refl
held ClientStatus.Complete e = not_both e refl
held ClientStatus.Failed e = not_both e refl
held ClientStatus.Lost e = not_both e refl

held_is : (client : ClientStatus) → (client ≡ ClientStatus.Pending) ⊎ (client ≡ ClientStatus.Running) → is_held client ≡ true
held_is client (inl e) = ap is_held e
held_is client (inr e) = ap is_held e

complete : (client : ClientStatus) → is_complete client ≡ true → client ≡ ClientStatus.Complete
complete ClientStatus.Pending e = not_both e refl
complete ClientStatus.Running e = not_both e refl
complete ClientStatus.Complete e = refl
complete ClientStatus.Failed e = not_both e refl
complete ClientStatus.Lost e = not_both e refl

pub live_allocations : law.LiveAllocations
live_allocations a = (
  λ e. (runs a.desired (first_of_both (is_run a.desired) (is_held a.client) e), held a.client (second_of_both (is_run a.desired) (is_held a.client) e)),
  λ is. both_true (is_run a.desired) (is_held a.client) (ap is_run is.0) (held_is a.client is.1),
)

pub live_on_nodes : law.LiveOnNodes
live_on_nodes pool node a = (
  λ e. let at = second_of_both (is_live a) (same_name pool a.pool && same_name node a.node) e in (
    first_of_both (is_live a) (same_name pool a.pool && same_name node a.node) e,
    sym (same_name_is pool a.pool (first_of_both (same_name pool a.pool) (same_name node a.node) at)),
    sym (same_name_is node a.node (second_of_both (same_name pool a.pool) (same_name node a.node) at)),
  ),
  λ is. both_true (is_live a) (same_name pool a.pool && same_name node a.node) is.0
      (both_true (same_name pool a.pool) (same_name node a.node) (ap (same_name pool) is.1 ∙ same_name_refl pool)
      (ap (same_name node) is.2 ∙ same_name_refl node)),
)

pub done_allocations : law.DoneAllocations
done_allocations a = (
  λ e. (
    runs a.desired (first_of_both (is_run a.desired) (is_complete a.client) e),
    complete a.client (second_of_both (is_run a.desired) (is_complete a.client) e),
  ),
  λ is. both_true (is_run a.desired) (is_complete a.client) (ap is_run is.0) (ap is_complete is.1),
)

pub open_evaluations : law.OpenEvaluations
open_evaluations status = (to status, from)
  where
    to : (status : Status) → is_open status ≡ true → (status ≡ Status.Pending) ⊎ (status ≡ Status.Blocked)
    to Status.Pending e = inl refl
    to Status.Blocked e = inr refl
    to Status.Complete e = not_both e refl
    to Status.Failed e = not_both e refl
    to Status.Canceled e = not_both e refl

    from : (status ≡ Status.Pending) ⊎ (status ≡ Status.Blocked) → is_open status ≡ true
    from (inl e) = ap is_open e
    from (inr e) = ap is_open e

pub pending_and_blocked : law.PendingAndBlocked
pending_and_blocked status = ((pending_is status, ap is_pending), (blocked_is status, ap is_blocked))

pub free_nodes : law.FreeNodes
free_nodes node = (
  λ e. (ready_is node.status (first_of_both (is_ready node.status) node.eligible e), second_of_both (is_ready node.status) node.eligible e),
  λ is. both_true (is_ready node.status) node.eligible (ap is_ready is.0) is.1,
)

-- ---- new evaluations

fresh : (job : Name) (kind : JobKind) (priority : ℕ) (pool : Name) (trigger : Trigger) → law.IsFresh (new_evaluation job kind priority pool trigger)
fresh job kind priority pool trigger = record {
  is_pending = refl;
  no_nacks = refl;
  follows_none = refl;
  no_follower = refl;
  no_quota = refl;
  no_escape = refl;
  no_class = refl;
}

pub new_evaluations : law.NewEvaluations
new_evaluations = (λ job document trigger. fresh job document.kind document.priority document.pool trigger, λ t a trigger. by a trigger (get t.jobs a.job))
  where
    by : (a : Allocation) (trigger : Trigger) (o : Option Job) → law.IsFresh (option_map_or (λ job. evaluation_of a.job job.document trigger) o
        (new_evaluation a.job JobKind.Service a.priority a.pool trigger))
    by a trigger None = fresh a.job JobKind.Service a.priority a.pool trigger
    by a trigger (Some job) = fresh a.job job.document.kind job.document.priority job.document.pool trigger

-- ---- bounds

above : (n : ℕ) → nat_lt greatest n ≡ true → 2 ^ 64 ≤ n
above n e = leb-true (suc greatest) n e

pub namespaces_past_bound : law.NamespacesPastBound
namespaces_past_bound t = (
  λ e. by (either_of (nat_lt greatest t.index || nat_lt greatest t.evaluation_number) (nat_lt greatest t.allocation_number) e),
  from,
)
  where
    first : (nat_lt greatest t.index ≡ true) ⊎ (nat_lt greatest t.evaluation_number ≡ true) →
        (2 ^ 64 ≤ t.index) ⊎ (2 ^ 64 ≤ t.evaluation_number) ⊎ (2 ^ 64 ≤ t.allocation_number)
    first (inl e) = inl (above t.index e)
    first (inr e) = inr (inl (above t.evaluation_number e))

    by : ((nat_lt greatest t.index || nat_lt greatest t.evaluation_number) ≡ true) ⊎ (nat_lt greatest t.allocation_number ≡ true) →
        (2 ^ 64 ≤ t.index) ⊎ (2 ^ 64 ≤ t.evaluation_number) ⊎ (2 ^ 64 ≤ t.allocation_number)
    by (inl e) = first (either_of (nat_lt greatest t.index) (nat_lt greatest t.evaluation_number) e)
    by (inr e) = inr (inr (above t.allocation_number e))

    from : (2 ^ 64 ≤ t.index) ⊎ (2 ^ 64 ≤ t.evaluation_number) ⊎ (2 ^ 64 ≤ t.allocation_number) → is_tenant_past_bound t ≡ true
    from (inl more) = ap (λ b. b || nat_lt greatest t.evaluation_number || nat_lt greatest t.allocation_number) (le-leb (suc greatest) t.index more)
    from (inr (inl more)) = ap (λ b. b || nat_lt greatest t.allocation_number) (or_right (nat_lt greatest t.index) (nat_lt greatest t.evaluation_number)
        (le-leb (suc greatest) t.evaluation_number more))
    from (inr (inr more)) = or_right (nat_lt greatest t.index || nat_lt greatest t.evaluation_number) (nat_lt greatest t.allocation_number)
        (le-leb (suc greatest) t.allocation_number more)

-- ---- classes

pub unique_keys : law.UniqueKeys
unique_keys = prefixes_begin (codes "unique.")

pub classes_of_nodes : law.ClassesOfNodes
classes_of_nodes node = (refl, λ a. (to a, from a))
  where
    to : (a : Attribute) → Contains (class_of node).attributes a → Contains node.offer.attributes a × (is_unique a.key ≡ false)
    to a has = let kept = has_filter (λ (a : Attribute). not (is_unique a.key)) node.offer.attributes a (has_from _ a has.0 has.1 has.2) in
        (contains_from node.offer.attributes a kept.0, is_no _ kept.1)

    from : (a : Attribute) → Contains node.offer.attributes a × (is_unique a.key ≡ false) → Contains (class_of node).attributes a
    from a is = contains_from (class_of node).attributes a (filter_has (λ (a : Attribute). not (is_unique a.key)) node.offer.attributes a
        (has_from node.offer.attributes a is.0.0 is.0.1 is.0.2) (ap not is.1))
