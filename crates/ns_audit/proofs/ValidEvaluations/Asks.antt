-- What is asked in a namespace keeps what is said of evaluations.
use Rattle.std.specs.Prelude.{◌≡◌, ℕ, ◌+◌, Bool, true, false, cond, not, Option, Some, None, ◌&&◌}
use Rattle.std.proofs.Common.{◌⊎◌, inl, inr, refl, sym, ap, subst, ◌∙◌}
use Rattle.std.specs.FinMap.{get, insert, contains_key}
use Rattle.std.specs.Option.{option_map_or}
use Rattle.ns_types.specs.declared.allocation.Allocation.{Allocation}
use Rattle.ns_types.specs.declared.allocation.DesiredStatus.{DesiredStatus}
use Rattle.ns_types.specs.declared.evaluation.Trigger.TheVariants as Trigger
use Rattle.ns_types.specs.declared.job.Job.{Job}
use Rattle.ns_types.specs.declared.job.Registration.{Registration}
use Rattle.ns_types.specs.declared.name.NameKind.TheVariants as NameKind
use Rattle.ns_types.specs.declared.refusal.Refusal.TheVariants as Refusal
use Rattle.ns_types.specs.declared.reply.Content.TheVariants as Content
use Rattle.ns_types.specs.declared.step.AskCommand.{AskCommand}
use Rattle.ns_types.specs.Asking.Asks.{first_refusal, pool_of, document_of, registered_job, registered_with, register, stopped_job, deregistered}
use Rattle.ns_types.specs.Asking.Asks.{deregister_job, deregister, stop_allocation, asked_in, ask}
use Rattle.ns_types.specs.State.Limits.{is_between, is_pool_name, is_good_registration}
use Rattle.ns_types.specs.Settling.Making.{with_job, with_desired, evaluation_of, evaluation_for, make_in}
use Rattle.ns_types.specs.State.Name.{is_name}
use Rattle.ns_types.specs.State.Names.{Name, has_key}
use Rattle.ns_types.specs.Settling.Outcome.{Outcome, Refused, Done}
use Rattle.ns_types.specs.State.Rows.{World, Tenant, is_live}
use Rattle.ns_types.specs.Settling.Same.{same_document}
use Rattle.ns_types.specs.State.Sums.{names_quota, quota_use}
use Rattle.ns_types.specs.Validity.{IsSound, IsSoundTenant}
use Rattle.ns_types.specs.Asking.Good.{is_good_ask}
use Rattle.ns_types.proofs.Named.{names, one_name, first_of_both, second_of_both}
use Rattle.ns_types.proofs.Registrations.{accepted}
use Rattle.ns_types.proofs.TableRows.{row_of_insert, row_of_remove}
use Rattle.ns_types.proofs.Tests.{is_yes}
use Rattle.ns_types.proofs.Leads.{Leads, leads_unless, leads_refused, leads_found, leads_if}
use Rattle.ns_audit.proofs.ValidEvaluations.Filed.{IsFiledJob, IsFiledTenant, IsFiled, IsCause, new_filed, filed_for, unblocked_for, make_in_filed}
use Rattle.ns_audit.proofs.ValidEvaluations.Settle.{index_in, pools_in, sound_filed}
use Rattle.ns_audit.proofs.ValidRecords.Asks.{default_named}

-- ---- rows

-- a live allocation may be the cause of an evaluation
pub cause_of : (w : World) → IsSound w → (ns : Name) (t : Tenant) → get w.tenants ns ≡ Some t → (n : ℕ) (a : Allocation) → get t.allocations n ≡ Some a →
    is_live a ≡ true → IsCause (pools_in w) a
cause_of w s ns t is n a at live =
    let r = (s.tenant ns t is).allocation n a at in
    record {
      named = first_of_both _ _ (first_of_both _ _ (first_of_both _ _ r.named));
      pool = second_of_both _ _ (first_of_both _ _ r.named);
      priority = r.priority;
      exists = (r.placed live).allowed.exists;
    }

pub desired_filed : (pools : Name → Bool) (index : ℕ) (listed : ℕ → Bool) (t : Tenant) → IsFiledTenant pools index listed t → (n : ℕ) (d : DesiredStatus) →
    IsFiledTenant pools index listed (with_desired n d t)
desired_filed pools index listed t s n d = elim (get t.allocations n) as
    (λ (o : Option Allocation). IsFiledTenant pools index listed
    (option_map_or (λ a. record t { allocations = insert t.allocations n (record a { desired = d }) }) o t)) [ None ↦ s | Some a ↦ s ]

-- ---- what is asked

module _ (w : World) (s : IsSound w) (ns : Name) (t : Tenant) (is : get w.tenants ns ≡ Some t) where
  abbrev Keeps : Outcome World → Type 0
  Keeps = Leads (IsFiled (pools_in w) (index_in w))

  abbrev listed : ℕ → Bool
  listed n = has_key w.blocked (ns, n)

  filed : IsFiled (pools_in w) (index_in w) w
  filed = sound_filed w s

  its : IsSoundTenant w ns t
  its = s.tenant ns t is

  its_filed : IsFiledTenant (pools_in w) (index_in w ns) listed t
  its_filed = filed.tenant ns t is

  with_job_filed : (id : Name) (j : Job) → IsFiledJob (pools_in w) j → IsFiledTenant (pools_in w) (index_in w ns) listed (with_job id j t)
  with_job_filed id j good = (its_filed.0, (λ k x at. by x (row_of_insert names one_name t.jobs id j k x at)), its_filed.2)
    where
      by : {k : Name} (x : Job) → ((k ≡ id) × (j ≡ x)) ⊎ (get t.jobs k ≡ Some x) → IsFiledJob (pools_in w) x
      by x (inl e) = subst (IsFiledJob (pools_in w)) e.1 good
      by {k = k} x (inr at) = its_filed.1 k x at

  -- ---- registration

  registration_filed : (r : Registration) → is_good_registration r ≡ true → Keeps (register ns r w t)
  registration_filed r good = leads_refused _ (first_refusal w t r) _ (λ none.
      by (registered_job (t.index + 1) (document_of t r) (get t.jobs r.id)) (job_filed (accepted w t r none).pool (get t.jobs r.id) refl))
    where
      few : (is_name NameKind.Job r.id && is_between 1 100 r.priority && option_map_or is_pool_name r.pool true) ≡ true
      few = first_of_both _ _ (first_of_both _ _ (first_of_both _ _ (first_of_both _ _ (first_of_both _ _ good))))

      id_named : is_name NameKind.Job r.id ≡ true
      id_named = first_of_both _ _ (first_of_both _ _ few)

      pool_named : (o : Option Name) → r.pool ≡ o → is_pool_name (pool_of t r) ≡ true
      pool_named None at = ap is_pool_name (ap (λ (o : Option Name). option_map_or (λ p. p) o t.namespace.default_pool) at) ∙
          default_named t.namespace its.namespace.good
      pool_named (Some p) at = ap is_pool_name (ap (λ (o : Option Name). option_map_or (λ p. p) o t.namespace.default_pool) at)
          ∙ ap (λ o. option_map_or is_pool_name o true) (sym at) ∙ second_of_both (is_name NameKind.Job r.id && is_between 1 100 r.priority) _ few

      job_filed : contains_key w.pools (pool_of t r) ≡ true → (o : Option Job) → get t.jobs r.id ≡ o →
          IsFiledJob (pools_in w) (registered_job (t.index + 1) (document_of t r) o)
      job_filed there None at = record {
        pool = pool_named r.pool refl;
        priority =
            second_of_both (is_name NameKind.Job r.id) _ (first_of_both _ _ few);
        exists = there;
      }
      job_filed there (Some j) at = elim (same_document (document_of t r) j.document && not j.stop) as
          (λ b. IsFiledJob (pools_in w) (cond b j
          (record { document = document_of t r; stop = false; version = j.version + 1; create_index = j.create_index; modify_index = t.index + 1 }))) [
            | true ↦ its_filed.1 r.id j at
            | false ↦ record { pool = pool_named r.pool refl; priority = second_of_both (is_name NameKind.Job r.id) _ (first_of_both _ _ few); exists = there }
          ]

      by : (job : Job) → IsFiledJob (pools_in w) job → Keeps (registered_with ns r w t job)
      by job f = make_in_filed (pools_in w) (index_in w) ns (evaluation_of r.id job.document Trigger.JobRegister) w (with_job r.id job t) filed
          (with_job_filed r.id job f)
          (new_filed (pools_in w) t.evaluation_number (index_in w ns) r.id job.document.kind job.document.priority job.document.pool Trigger.JobRegister
          id_named f.priority f.pool f.exists) refl

  -- ---- deregistration

  deregistration_filed : (id : Name) (purge : Bool) → Keeps (deregister ns id purge w t)
  deregistration_filed id purge = leads_found _ (get t.jobs id) (deregister_job ns id purge w t) (λ job at. by job at purge)
    where
      by : (job : Job) → get t.jobs id ≡ Some job → (purge : Bool) → Keeps (deregister_job ns id purge w t job)
      by job at true = let f = its_filed.1 id job at in
          make_in_filed (pools_in w) (index_in w) ns (evaluation_of id job.document Trigger.JobDeregister) w (deregistered true id job t) filed
          (its_filed.0, (λ k x x_at. its_filed.1 k x (row_of_remove t.jobs id k x x_at)), its_filed.2)
          (new_filed (pools_in w) t.evaluation_number (index_in w ns) id job.document.kind job.document.priority job.document.pool Trigger.JobDeregister
          (its.job id job at).named f.priority f.pool f.exists) refl
      by job at false = let f = its_filed.1 id job at in
          make_in_filed (pools_in w) (index_in w) ns (evaluation_of id job.document Trigger.JobDeregister) w (deregistered false id job t) filed
          (with_job_filed id (stopped_job (t.index + 1) job)
          (elim job.stop as (λ b. IsFiledJob (pools_in w) (cond b job (record job { stop = true; modify_index = t.index + 1 })))
          [ true ↦ f | false ↦ record { pool = f.pool; priority = f.priority; exists = f.exists } ]))
          (new_filed (pools_in w) t.evaluation_number (index_in w ns) id job.document.kind job.document.priority job.document.pool Trigger.JobDeregister
          (its.job id job at).named f.priority f.pool f.exists) refl

  -- ---- stopping an allocation

  stop_filed : (n : ℕ) → Keeps (stop_allocation ns n w t)
  stop_filed n = leads_found _ (get t.allocations n) _ (λ a at. leads_unless _ _ _ _ (λ live.
      let cause = cause_of w s ns t is n a at (is_yes (is_live a) live) in
      subst (λ x. IsFiled (pools_in w) (index_in w) (make_in ns (evaluation_for t a Trigger.AllocStop) w x))
      (sym (ap (λ o. option_map_or (λ a. record t { allocations = insert t.allocations n (record a { desired = DesiredStatus.Stop }) }) o t) at))
      (make_in_filed (pools_in w) (index_in w) ns (evaluation_for t a Trigger.AllocStop) w
      (record t { allocations = insert t.allocations n (record a { desired = DesiredStatus.Stop }) }) filed its_filed
      (filed_for (pools_in w) (index_in w ns) listed t its_filed a Trigger.AllocStop cause)
      (unblocked_for (pools_in w) (index_in w ns) listed t its_filed a Trigger.AllocStop))))

  -- ---- all that is asked

  asked_filed : (command : AskCommand) → is_good_ask command ≡ true → Keeps (asked_in ns command w t)
  asked_filed (AskCommand.ListJobs prefix) good = filed
  asked_filed (AskCommand.Register r) good = registration_filed r good
  asked_filed (AskCommand.ReadJob id) good = leads_found _ (get t.jobs id) _ (λ job _. filed)
  asked_filed (AskCommand.Deregister id purge) good = deregistration_filed id purge
  asked_filed (AskCommand.JobAllocations id) good = filed
  asked_filed (AskCommand.JobEvaluations id) good = filed
  asked_filed (AskCommand.ListEvaluations prefix) good = filed
  asked_filed (AskCommand.ReadEvaluation n) good = leads_found _ (get t.evaluations n) _ (λ e _. filed)
  asked_filed (AskCommand.ListAllocations prefix) good = filed
  asked_filed (AskCommand.ReadAllocation n) good = leads_found _ (get t.allocations n) _ (λ a _. filed)
  asked_filed (AskCommand.StopAllocation n) good = stop_filed n
  asked_filed AskCommand.ReadNamespace good = filed
  asked_filed (AskCommand.QuotaUsage quota) good = leads_if _ (names_quota quota t.namespace) (Done (Content.Usage quota (quota_use w quota)) w)
      (Refused Refusal.NotFound) (λ _. filed) (λ _. tt)
  asked_filed (AskCommand.Events index) good = filed

pub ask_filed : (w : World) → IsSound w → (ns : Name) (command : AskCommand) → is_good_ask command ≡ true →
    Leads (IsFiled (pools_in w) (index_in w)) (ask ns command w)
unfolding ask
ask_filed w s ns command good = leads_found _ (get w.tenants ns) (asked_in ns command w) (λ t is. asked_filed w s ns t is command good)
