-- A step that makes an evaluation, where a counter of its namespace is at its bound.
use Rattle.std.specs.Prelude.{◌≡◌, ℕ, ◌+◌, Bool, true, false, cond, not, ◌||◌, List, Option, Some, None, fold, option_map, nat_lt}
use Rattle.std.proofs.Common.{refl, ap, sym, subst, ◌∙◌}
use Rattle.std.specs.FinMap.{get, insert}
use Rattle.ns_types.specs.declared.allocation.Allocation.{Allocation}
use Rattle.ns_types.specs.declared.allocation.DesiredStatus.TheVariants as DesiredStatus
use Rattle.ns_types.specs.declared.evaluation.Evaluation.{Evaluation}
use Rattle.ns_types.specs.declared.evaluation.Trigger.TheVariants as Trigger
use Rattle.ns_types.specs.declared.job.Job.{Job}
use Rattle.ns_types.specs.declared.job.Registration.{Registration}
use Rattle.ns_types.specs.declared.refusal.Refusal.{Refusal}
use Rattle.ns_types.specs.declared.reply.Content.{Content}
use Rattle.ns_types.specs.declared.step.AskCommand.{AskCommand}
use Rattle.ns_types.specs.Asking.Asks.{asked_in, deregister_job, deregistered, first_refusal, registered_with}
use Rattle.ns_types.specs.Settling.Making.{evaluation_for, evaluation_of, make_in, put_tenant, with_desired, with_evaluation, with_job}
use Rattle.ns_types.specs.Settling.Outcome.{Done, found, is_done, refused_by, unless}
use Rattle.ns_types.specs.Settling.Releases.{woken}
use Rattle.ns_types.specs.Settling.Same.{same_evaluation}
use Rattle.ns_types.specs.Settling.Settle.{changes_allocation, changes_evaluation, changes_job, is_changed, is_touched, number_releases, pending, settle}
use Rattle.ns_types.specs.Settling.Settle.{stamp, stamp_tenant, stamped, unblocked_in, wake}
use Rattle.ns_types.specs.State.Names.{Key, Name, has_key}
use Rattle.ns_types.specs.State.Rows.{World, Tenant, is_live}
use Rattle.ns_types.specs.State.Tables.{any_row}
use Rattle.ns_types.specs.Steps.{greatest, is_past_bound, is_pool_past_bound, is_tenant_past_bound}
use Rattle.ns_types.specs.Working.Queue.{queue}
use Rattle.ns_types.proofs.Bounds.{tenant_within}
use Rattle.ns_types.proofs.Lists.{left_none, not_both, right_none}
use Rattle.ns_types.proofs.Named.{names, numbers, one_name, one_number}
use Rattle.ns_types.proofs.Outcomes.{state_or}
use Rattle.ns_types.proofs.Queue.{queue_keeps, queues_keep}
use Rattle.ns_types.proofs.Settling.{keeps_elsewhere, releases_nothing, stamp_one}
use Rattle.ns_types.proofs.TableRows.{any_row-put, get_put, some_row}
use Rattle.ns_types.proofs.Tables.{get-map_rows}
use Rattle.ns_jobs.specs.Counted.{CountingIsSettling, JobsPassNothingElse, passes_bound, writes_jobs}
use Rattle.ns_jobs.specs.Made.{job_of, stopped_with}
use Rattle.ns_jobs.specs.Read.{only_reads}
use Rattle.ns_jobs.proofs.Asked.{asks}
use Rattle.ns_jobs.proofs.Prepared.{stop_keeps}
use Rattle.ns_types.proofs.Tests.{third_of_four}
use Rattle.ns_change.proofs.Nothing.{queue_tenants}

queues_tenants : (keys : List Key) (w : World) → (fold queue w keys).tenants ≡ w.tenants
queues_tenants = queues_keep (λ w. w.tenants) (λ w keys. refl)

first_of_three : (a b c : Bool) → a ≡ true → (a || b || c) ≡ true
first_of_three a b c is = ap (λ a. a || b || c) is

-- ---- a namespace with a new evaluation

module _ (w w' : World) (ns : Name) (t z : Tenant) (before : get w.tenants ns ≡ Some t) (after : get w'.tenants ns ≡ Some z) where
  abbrev keys : List Key
  keys = woken w w'

  abbrev awake : Tenant
  awake = unblocked_in keys ns z

  awake_is : get (wake keys w').tenants ns ≡ Some awake
  unfolding wake
  awake_is = ap (λ m. get m ns) (queues_tenants keys _) ∙ get-map_rows names one_name (unblocked_in keys) w'.tenants ns ∙
      ap (option_map (unblocked_in keys ns)) after

  settled_is : get (settle w w').tenants ns ≡ Some (stamp_tenant (Some t) awake)
  unfolding settle stamp number_releases
  settled_is = get-map_rows names one_name (λ ns t. stamp_tenant (get w.tenants ns) t) (wake keys w').tenants ns
      ∙ (λ i. option_map (λ x. stamp_tenant (before i) x) (awake_is i))

  module _ (n : ℕ) (e : Evaluation) (new : get t.evaluations n ≡ None) (made : get z.evaluations n ≡ Some e) where
    abbrev left : Evaluation
    left = cond (has_key keys (ns, n)) (pending e) e

    left_is : get awake.evaluations n ≡ Some left
    left_is = get-map_rows numbers one_number (λ n e. cond (has_key keys (ns, n)) (pending e) e) z.evaluations n
        ∙ ap (option_map (λ e. cond (has_key keys (ns, n)) (pending e) e)) made

    touched : is_touched t awake ≡ true
    touched = third_of_four (any_row (λ id _. changes_job t awake id) awake.jobs) (any_row (λ id _. changes_job t awake id) t.jobs) _
        (any_row (changes_allocation t) awake.allocations)
        (some_row numbers one_number (changes_evaluation t) awake.evaluations n left left_is (ap (λ o. is_changed same_evaluation o left) new))

    stamped_is : stamp_tenant (Some t) awake ≡ stamped (t.index + 1) t awake
    unfolding stamp_tenant
    stamped_is = ap (λ b. cond b (stamped (t.index + 1) t awake) awake) touched

    past : z.evaluation_number ≡ t.evaluation_number + 1 → passes_bound t ≡ true → is_past_bound (settle w w') ≡ true
    unfolding is_past_bound
    past next over = first_of_three (any_row (λ _ t. is_tenant_past_bound t) (settle w w').tenants)
        (any_row (λ _ p. is_pool_past_bound p) (settle w w').pools) (any_row (λ _ q. nat_lt greatest q.release) (settle w w').quotas)
        (some_row names one_name (λ _ t. is_tenant_past_bound t) (settle w w').tenants ns (stamp_tenant (Some t) awake) settled_is
        (ap is_tenant_past_bound stamped_is ∙ (λ i. nat_lt greatest (t.index + 1) || nat_lt greatest (next i) || nat_lt greatest z.allocation_number)
        ∙ ap (λ b. b || nat_lt greatest z.allocation_number) over))

module _ (w : World) (ns : Name) (t : Tenant) (at : get w.tenants ns ≡ Some t) (new : get t.evaluations (t.evaluation_number + 1) ≡ None)
    (over : passes_bound t ≡ true) where
  made_past : (u : Tenant) (e : Evaluation) → u.evaluation_number ≡ t.evaluation_number → is_past_bound (settle w (make_in ns e w u)) ≡ true
  made_past u e keeps = past w (make_in ns e w u) ns t (with_evaluation e u) at
      (ap (λ m. get m ns) (queue_tenants (put_tenant ns (with_evaluation e u) w) (ns, u.evaluation_number + 1))
      ∙ get_put names one_name w.tenants ns (with_evaluation e u))
      (u.evaluation_number + 1) e (ap (λ n. get t.evaluations (n + 1)) keeps ∙ new)
      (get_put numbers one_number u.evaluations (u.evaluation_number + 1) e)
      (ap (λ n. n + 1) keeps) over

  -- ---- each command that makes one

  module _ (content : Content) (x : World) where
    abbrev IsPast : Type 0
    IsPast = is_past_bound (settle w x) ≡ true

    registers : (r : Registration) (o : Option Refusal) → refused_by o (registered_with ns r w t (job_of r t)) ≡ Done content x → IsPast
    registers r (Some refusal) is = not_both (ap is_done is) refl
    registers r None is = subst (λ x. is_past_bound (settle w x) ≡ true) (ap (state_or w) is)
        (made_past (with_job r.id (job_of r t) t) (evaluation_of r.id (job_of r t).document Trigger.JobRegister) refl)

    deregisters : (id : Name) (purge : Bool) (o : Option Job) → found o (deregister_job ns id purge w t) ≡ Done content x → IsPast
    deregisters id purge None is = not_both (ap is_done is) refl
    deregisters id purge (Some job) is = subst (λ x. is_past_bound (settle w x) ≡ true) (ap (state_or w) is)
        (made_past (deregistered purge id job t) (evaluation_of id job.document Trigger.JobDeregister) (by purge))
      where
        by : (purge : Bool) → (deregistered purge id job t).evaluation_number ≡ t.evaluation_number
        by true = refl
        by false = refl

    stops_live : (n : ℕ) (a : Allocation) (live : Bool) → unless (not live) Refusal.Conflict (stopped_with ns n w t a) ≡ Done content x → IsPast
    unfolding unless
    stops_live n a false is = not_both (ap is_done is) refl
    stops_live n a true is = subst (λ x. is_past_bound (settle w x) ≡ true) (ap (state_or w) is)
        (made_past (with_desired n DesiredStatus.Stop t) (evaluation_for t a Trigger.AllocStop) (stop_keeps n t))

    stops : (n : ℕ) (o : Option Allocation) → found o (λ a. unless (not (is_live a)) Refusal.Conflict (stopped_with ns n w t a)) ≡ Done content x → IsPast
    stops n None is = not_both (ap is_done is) refl
    stops n (Some a) is = stops_live n a (is_live a) is

    asked : (command : AskCommand) → only_reads command ≡ false → asked_in ns command w t ≡ Done content x → IsPast
    asked (AskCommand.Register r) makes is = registers r (first_refusal w t r) is
    asked (AskCommand.Deregister id purge) makes is = deregisters id purge (get t.jobs id) is
    asked (AskCommand.StopAllocation n) makes is = stops n (get t.allocations n) is
    asked (AskCommand.ListJobs prefix) makes is = not_both refl makes
    asked (AskCommand.ReadJob id) makes is = not_both refl makes
    asked (AskCommand.JobAllocations id) makes is = not_both refl makes
    asked (AskCommand.JobEvaluations id) makes is = not_both refl makes
    asked (AskCommand.ListEvaluations prefix) makes is = not_both refl makes
    asked (AskCommand.ReadEvaluation n) makes is = not_both refl makes
    asked (AskCommand.ListAllocations prefix) makes is = not_both refl makes
    asked (AskCommand.ReadAllocation n) makes is = not_both refl makes
    asked AskCommand.ReadNamespace makes is = not_both refl makes
    asked (AskCommand.QuotaUsage quota) makes is = not_both refl makes
    asked (AskCommand.Events index) makes is = not_both refl makes

pub counting_is : CountingIsSettling
counting_is w ns command t content x makes at new over is = asked w ns t at new over content x command makes (sym (asks w ns command t at) ∙ is)

-- ---- and where none is, of a job

module _ (w : World) (ns : Name) (t u : Tenant) (e : Evaluation) (at : get w.tenants ns ≡ Some t) (within : is_past_bound w ≡ false)
    (fits : passes_bound t ≡ false) (index : u.index ≡ t.index) (number : u.evaluation_number ≡ t.evaluation_number)
    (given : u.allocation_number ≡ t.allocation_number) (rows : u.allocations ≡ t.allocations) where
  abbrev made : World
  made = make_in ns e w u

  abbrev then : Tenant
  then = with_evaluation e u

  parts : ((any_row (λ _ t. is_tenant_past_bound t) w.tenants || any_row (λ _ p. is_pool_past_bound p) w.pools)
      || any_row (λ _ q. nat_lt greatest q.release) w.quotas) ≡ false
  unfolding is_past_bound
  parts = within

  own : is_tenant_past_bound t ≡ false
  own = tenant_within w ns t within at

  -- the numbers of the namespace as the step leaves it, whether it was touched or not
  fits_then : is_tenant_past_bound (stamp_tenant (Some t) then) ≡ false
  unfolding stamp_tenant
  fits_then = by (is_touched t then)
    where
      by : (b : Bool) → is_tenant_past_bound (cond b (stamped (t.index + 1) t then) then) ≡ false
      by true = (λ i. nat_lt greatest (t.index + 1) || nat_lt greatest (number i + 1) || nat_lt greatest (given i))
          ∙ (λ i. fits i || right_none (nat_lt greatest t.index || nat_lt greatest t.evaluation_number) _ own i)
      by false = (λ i. nat_lt greatest (index i) || nat_lt greatest (number i + 1) || nat_lt greatest (given i))
          ∙ (λ i. left_none (nat_lt greatest t.index) _ (left_none _ _ own) i || right_none (nat_lt greatest (t.index + 1)) _ fits i
          || right_none (nat_lt greatest t.index || nat_lt greatest t.evaluation_number) _ own i)

  settled_made : settle w made ≡ record made { tenants = insert w.tenants ns (stamp_tenant (Some t) then) }
  settled_made = releases_nothing w made (keeps_elsewhere w made ns t then (queue_keeps (λ w. w.pools) (λ w keys. refl) _ _)
      (queue_keeps (λ w. w.quotas) (λ w keys. refl) _ _) (queue_tenants _ _) at rows)
      ∙ stamp_one w made ns t then (queue_tenants _ _) at

  within_made : is_past_bound (settle w made) ≡ false
  unfolding is_past_bound
  within_made = ap is_past_bound settled_made
      ∙ (λ i. (any_row-put names one_name (λ _ t. is_tenant_past_bound t) w.tenants ns (stamp_tenant (Some t) then)
      (left_none _ _ (left_none _ _ parts)) ∙ fits_then) i
      || (ap (any_row (λ _ p. is_pool_past_bound p)) (queue_keeps (λ w. w.pools) (λ w keys. refl) (put_tenant ns then w) (ns, u.evaluation_number + 1)) ∙
      right_none (any_row (λ _ t. is_tenant_past_bound t) w.tenants) _ (left_none _ _ parts)) i
      || (ap (any_row (λ _ q. nat_lt greatest q.release)) (queue_keeps (λ w. w.quotas) (λ w keys. refl) (put_tenant ns then w) (ns, u.evaluation_number + 1)) ∙
      right_none _ _ parts) i)

pub jobs_fit : JobsPassNothingElse
jobs_fit w ns command t content x jobs at within fits is = asked command jobs (sym (asks w ns command t at) ∙ is)
  where
    registered : (r : Registration) (o : Option Refusal) → refused_by o (registered_with ns r w t (job_of r t)) ≡ Done content x →
        is_past_bound (settle w x) ≡ false
    registered r (Some refusal) is = not_both (ap is_done is) refl
    registered r None is = subst (λ x. is_past_bound (settle w x) ≡ false) (ap (state_or w) is)
        (within_made w ns t (with_job r.id (job_of r t) t) (evaluation_of r.id (job_of r t).document Trigger.JobRegister) at within fits refl refl refl refl)

    removed : (id : Name) (purge : Bool) (o : Option Job) → found o (deregister_job ns id purge w t) ≡ Done content x → is_past_bound (settle w x) ≡ false
    removed id purge None is = not_both (ap is_done is) refl
    removed id true (Some job) is = subst (λ x. is_past_bound (settle w x) ≡ false) (ap (state_or w) is)
        (within_made w ns t (deregistered true id job t) (evaluation_of id job.document Trigger.JobDeregister) at within fits refl refl refl refl)
    removed id false (Some job) is = subst (λ x. is_past_bound (settle w x) ≡ false) (ap (state_or w) is)
        (within_made w ns t (deregistered false id job t) (evaluation_of id job.document Trigger.JobDeregister) at within fits refl refl refl refl)

    asked : (command : AskCommand) → writes_jobs command ≡ true → asked_in ns command w t ≡ Done content x → is_past_bound (settle w x) ≡ false
    asked (AskCommand.Register r) jobs is = registered r (first_refusal w t r) is
    asked (AskCommand.Deregister id purge) jobs is = removed id purge (get t.jobs id) is
    asked (AskCommand.StopAllocation n) jobs is = not_both jobs refl
    asked (AskCommand.ListJobs prefix) jobs is = not_both jobs refl
    asked (AskCommand.ReadJob id) jobs is = not_both jobs refl
    asked (AskCommand.JobAllocations id) jobs is = not_both jobs refl
    asked (AskCommand.JobEvaluations id) jobs is = not_both jobs refl
    asked (AskCommand.ListEvaluations prefix) jobs is = not_both jobs refl
    asked (AskCommand.ReadEvaluation n) jobs is = not_both jobs refl
    asked (AskCommand.ListAllocations prefix) jobs is = not_both jobs refl
    asked (AskCommand.ReadAllocation n) jobs is = not_both jobs refl
    asked AskCommand.ReadNamespace jobs is = not_both jobs refl
    asked (AskCommand.QuotaUsage quota) jobs is = not_both jobs refl
    asked (AskCommand.Events index) jobs is = not_both jobs refl
