-- What is asked in a namespace keeps a world orderly, and so do new evaluations.
use Rattle.std.specs.Prelude.{◌≡◌, ℕ, ◌+◌, Bool, true, false, cond, not, Option, Some, None, ◌&&◌, option_map}
use Rattle.std.proofs.Common.{◌⊎◌, inl, inr, refl, sym, ap, subst}
use Rattle.std.specs.FinMap.{get, insert, remove}
use Rattle.std.specs.Option.{option_map_or}
use Rattle.ns_types.specs.declared.allocation.Allocation.{Allocation}
use Rattle.ns_types.specs.declared.allocation.DesiredStatus.{DesiredStatus}
use Rattle.ns_types.specs.declared.evaluation.Evaluation.{Evaluation}
use Rattle.ns_types.specs.declared.evaluation.Status.TheVariants as Status
use Rattle.ns_types.specs.declared.evaluation.Trigger.{Trigger}
use Rattle.ns_types.specs.declared.job.Job.{Job}
use Rattle.ns_types.specs.declared.job.JobKind.TheVariants as JobKind
use Rattle.ns_types.specs.declared.job.Registration.{Registration}
use Rattle.ns_types.specs.declared.records.Namespace.{Namespace}
use Rattle.ns_types.specs.declared.refusal.Refusal.TheVariants as Refusal
use Rattle.ns_types.specs.declared.reply.Content.TheVariants as Content
use Rattle.ns_types.specs.declared.step.AskCommand.{AskCommand}
use Rattle.ns_types.specs.Asking.Asks.{first_refusal, pool_of, document_of, registered_job, registered_with, register, stopped_job, deregistered}
use Rattle.ns_types.specs.Asking.Asks.{deregister_job, deregister, stop_allocation, asked_in, ask}
use Rattle.ns_types.specs.Settling.Making.{with_job, with_desired, new_evaluation, evaluation_of, evaluation_for, make_in, make}
use Rattle.ns_types.specs.State.Names.{Name}
use Rattle.ns_types.specs.Settling.Outcome.{Outcome, Refused, Done}
use Rattle.ns_types.specs.State.Rows.{World, Tenant, is_live, is_run, is_held}
use Rattle.ns_types.specs.Settling.Same.{same_document}
use Rattle.ns_types.specs.Access.Sharing.{permits, namespace_at}
use Rattle.ns_types.specs.State.Sums.{names_quota, quota_use}
use Rattle.ns_types.proofs.Lists.{not_both}
use Rattle.ns_types.proofs.Named.{names, one_name, numbers as numbers_, one_number}
use Rattle.ns_types.proofs.Registrations.{accepted}
use Rattle.ns_types.proofs.Tests.{not_Some, is_yes}
use Rattle.ns_types.proofs.TableRows.{row_of_insert, row_of_remove}
use Rattle.ns_audit.specs.Orderly.{IsAllowedTo, IsOrderlyTenant, IsOrderly}
use Rattle.ns_audit.proofs.Alone.Naming.{deregistered_same, desired_same}
use Rattle.ns_audit.proofs.Steady.Keeping.{KeepsTenant, keeps_same, keeps_rows, make_in_orderly}
use Rattle.ns_types.proofs.Leads.{Leads, leads_unless, leads_refused, leads_found, leads_if}

-- ---- outcomes

abbrev pub KeepsOrder : Outcome World → Type 0
KeepsOrder = Leads IsOrderly

module _ (ns : Name) (ready blocked : ℕ → Bool) (t : Tenant) (s : IsOrderlyTenant ns t) where
  keeps_with_job : (id : Name) (j : Job) → permits t.namespace j.document.pool ≡ true → KeepsTenant ns ready blocked t (with_job id j t)
  keeps_with_job id j allowed = keeps_rows ns ready blocked t (insert t.jobs id j) t.allocations t.allocation_number s
      (λ k x at. by k x (row_of_insert names one_name t.jobs id j k x at)) s.allocation
    where
      by : (k : Name) (x : Job) → ((k ≡ id) × (j ≡ x)) ⊎ (get t.jobs k ≡ Some x) → permits t.namespace x.document.pool ≡ true
      by k x (inl e) = subst (λ x. permits t.namespace x.document.pool ≡ true) e.1 allowed
      by k x (inr at) = s.job k x at

  keeps_deregistered : (purge : Bool) (id : Name) (job : Job) → get t.jobs id ≡ Some job → KeepsTenant ns ready blocked t (deregistered purge id job t)
  keeps_deregistered true id job is = keeps_rows ns ready blocked t (remove t.jobs id) t.allocations t.allocation_number s
      (λ k x at. s.job k x (row_of_remove t.jobs id k x at)) s.allocation
  keeps_deregistered false id job is = keeps_with_job id (stopped_job (t.index + 1) job)
      (elim job.stop as (λ b. permits t.namespace (cond b job (record job { stop = true; modify_index = t.index + 1 })).document.pool ≡ true)
      [ true ↦ s.job id job is | false ↦ s.job id job is ])

  -- what is not live in its place
  pub keeps_with_row : (n : ℕ) (b : Allocation) → (is_live b ≡ true → permits t.namespace b.pool ≡ true) →
      KeepsTenant ns ready blocked t (record t { allocations = insert t.allocations n b })
  keeps_with_row n b allowed = keeps_rows ns ready blocked t t.jobs (insert t.allocations n b) t.allocation_number s s.job
      (λ m a at. by m a (row_of_insert numbers_ one_number t.allocations n b m a at))
    where
      by : (m : ℕ) (a : Allocation) → ((m ≡ n) × (b ≡ a)) ⊎ (get t.allocations m ≡ Some a) → is_live a ≡ true → permits t.namespace a.pool ≡ true
      by m a (inl e) = subst (λ a. is_live a ≡ true → permits t.namespace a.pool ≡ true) e.1 allowed
      by m a (inr at) = s.allocation m a at

  pub keeps_desired : (n : ℕ) (d : DesiredStatus) → is_run d ≡ false → KeepsTenant ns ready blocked t (with_desired n d t)
  keeps_desired n d ended = by (get t.allocations n)
    where
      by : (o : Option Allocation) → KeepsTenant ns ready blocked t
          (option_map_or (λ a. record t { allocations = insert t.allocations n (record a { desired = d }) }) o t)
      by None = keeps_same ns ready blocked t s
      by (Some a) = keeps_with_row n (record a { desired = d }) (λ live. not_both live (ap (λ r. r && is_held a.client) ended))

-- ---- new evaluations

-- the namespace permits the pool, where it is there
abbrev pub PermitsAt : World → Name → Name → Type 0
PermitsAt w ns pool = (namespace : Namespace) → namespace_at w ns ≡ Some namespace → permits namespace pool ≡ true

module _ (ns : Name) (t : Tenant) (s : IsOrderlyTenant ns t) (a : Allocation) (trigger : Trigger) where
  pub pending_for : (evaluation_for t a trigger).status ≡ Status.Pending
  pending_for = elim (get t.jobs a.job) as (λ (o : Option Job).
      (option_map_or (λ (job : Job). evaluation_of a.job job.document trigger) o (new_evaluation a.job JobKind.Service a.priority a.pool trigger)).status
      ≡ Status.Pending) [ None ↦ refl | Some j ↦ refl ]

  pub allowed_for : permits t.namespace a.pool ≡ true → IsAllowedTo t.namespace (evaluation_for t a trigger).pool (evaluation_for t a trigger).quota
  allowed_for permitted = by (get t.jobs a.job) refl
    where
      of_job : Option Job → Evaluation
      of_job o = option_map_or (λ (job : Job). evaluation_of a.job job.document trigger) o (new_evaluation a.job JobKind.Service a.priority a.pool trigger)

      by : (o : Option Job) → get t.jobs a.job ≡ o → IsAllowedTo t.namespace (of_job o).pool (of_job o).quota
      by None at = record { permitted = permitted; its_quota = λ q is. absurd (not_Some _ is) }
      by (Some j) at = record { permitted = s.job a.job j at; its_quota = λ q is. absurd (not_Some _ is) }

pub make_orderly : (ns : Name) (a : Allocation) (trigger : Trigger) (w : World) → IsOrderly w → PermitsAt w ns a.pool →
    IsOrderly (make ns (λ t. evaluation_for t a trigger) w)
make_orderly ns a trigger w s allowed = by (get w.tenants ns) refl
  where
    by : (o : Option Tenant) → get w.tenants ns ≡ o → IsOrderly (option_map_or (λ t. make_in ns (evaluation_for t a trigger) w t) o w)
    by None is = s
    by (Some t) is = let r = s.tenant ns t is in make_in_orderly w ns (evaluation_for t a trigger) t t s is (keeps_same ns _ _ t r)
        (pending_for ns t r a trigger)
        (allowed_for ns t r a trigger (allowed t.namespace (ap (option_map (λ (t : Tenant). t.namespace)) is)))

-- ---- what is asked

module _ (w : World) (s : IsOrderly w) (ns : Name) (t : Tenant) (is : get w.tenants ns ≡ Some t) where
  its : IsOrderlyTenant ns t
  its = s.tenant ns t is

  registration_orderly : (r : Registration) → KeepsOrder (register ns r w t)
  registration_orderly r = leads_refused IsOrderly (first_refusal w t r) _ (λ none.
      by (registered_job (t.index + 1) (document_of t r) (get t.jobs r.id)) (document_allowed (accepted w t r none).permitted (get t.jobs r.id) refl))
    where
      document_allowed : permits t.namespace (pool_of t r) ≡ true → (j : Option Job) → get t.jobs r.id ≡ j →
          permits t.namespace (registered_job (t.index + 1) (document_of t r) j).document.pool ≡ true
      document_allowed allowed None at = allowed
      document_allowed allowed (Some j) at = elim (same_document (document_of t r) j.document && not j.stop) as
          (λ b. permits t.namespace (cond b j (record {
            document = document_of t r;
            stop = false;
            version = j.version + 1;
            create_index =
                j.create_index;
            modify_index = t.index + 1;
          })).document.pool ≡ true) [ true ↦ its.job r.id j at | false ↦ allowed ]

      by : (job : Job) → permits t.namespace job.document.pool ≡ true → KeepsOrder (registered_with ns r w t job)
      by job allowed = make_in_orderly w ns (evaluation_of r.id job.document Trigger.JobRegister) t (with_job r.id job t) s is
          (keeps_with_job ns _ _ t its r.id job allowed) refl
          (record { permitted = allowed; its_quota = λ q at. absurd (not_Some _ at) })

  deregistration_orderly : (id : Name) (purge : Bool) → KeepsOrder (deregister ns id purge w t)
  deregistration_orderly id purge = leads_found IsOrderly (get t.jobs id) (deregister_job ns id purge w t) (λ job at.
      make_in_orderly w ns (evaluation_of id job.document Trigger.JobDeregister) t (deregistered purge id job t) s is
      (keeps_deregistered ns _ _ t its purge id job at) refl
      (subst (λ namespace. IsAllowedTo namespace job.document.pool None) (sym (deregistered_same purge id job t))
      (record { permitted = its.job id job at; its_quota = λ q at. absurd (not_Some _ at) })))

  stop_orderly : (n : ℕ) → KeepsOrder (stop_allocation ns n w t)
  stop_orderly n = leads_found IsOrderly (get t.allocations n) _ (λ a at. leads_unless IsOrderly (not (is_live a)) Refusal.Conflict _ (λ live.
      make_in_orderly w ns (evaluation_for t a Trigger.AllocStop) t (with_desired n DesiredStatus.Stop t) s is
      (keeps_desired ns _ _ t its n DesiredStatus.Stop refl) (pending_for ns t its a Trigger.AllocStop)
      (subst (λ namespace. IsAllowedTo namespace (evaluation_for t a Trigger.AllocStop).pool (evaluation_for t a Trigger.AllocStop).quota)
      (sym (desired_same n DesiredStatus.Stop t))
      (allowed_for ns t its a Trigger.AllocStop (its.allocation n a at (is_yes (is_live a) live))))))

  asked_orderly : (command : AskCommand) → KeepsOrder (asked_in ns command w t)
  asked_orderly (AskCommand.ListJobs prefix) = s
  asked_orderly (AskCommand.Register r) = registration_orderly r
  asked_orderly (AskCommand.ReadJob id) = leads_found IsOrderly (get t.jobs id) _ (λ job _. s)
  asked_orderly (AskCommand.Deregister id purge) = deregistration_orderly id purge
  asked_orderly (AskCommand.JobAllocations id) = s
  asked_orderly (AskCommand.JobEvaluations id) = s
  asked_orderly (AskCommand.ListEvaluations prefix) = s
  asked_orderly (AskCommand.ReadEvaluation n) = leads_found IsOrderly (get t.evaluations n) _ (λ e _. s)
  asked_orderly (AskCommand.ListAllocations prefix) = s
  asked_orderly (AskCommand.ReadAllocation n) = leads_found IsOrderly (get t.allocations n) _ (λ a _. s)
  asked_orderly (AskCommand.StopAllocation n) = stop_orderly n
  asked_orderly AskCommand.ReadNamespace = s
  asked_orderly (AskCommand.QuotaUsage quota) = leads_if IsOrderly (names_quota quota t.namespace) (Done (Content.Usage quota (quota_use w quota)) w)
      (Refused Refusal.NotFound) (λ _. s) (λ _. tt)
  asked_orderly (AskCommand.Events index) = s

pub ask_orderly : (w : World) → IsOrderly w → (ns : Name) (command : AskCommand) → KeepsOrder (ask ns command w)
unfolding ask
ask_orderly w s ns command = leads_found IsOrderly (get w.tenants ns) (asked_in ns command w) (λ t is. asked_orderly w s ns t is command)
