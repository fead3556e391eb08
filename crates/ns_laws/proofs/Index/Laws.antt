-- The index of a namespace, its events and the indexes of its rows, over any step.
use Rattle.std.specs.Prelude.{◌≡◌, ◌⊎◌, ℕ, ◌+◌, ◌≤◌, Bool, true, false, cond, ◌&&◌, ◌||◌, List, [], ◌∷◌, ◌++◌, Option, Some, None, Ok, Err}
use Rattle.std.specs.Prelude.{drop, zero, suc, filter, find, is_some, map, nat_le, option_map}
use Rattle.std.proofs.Common.{refl, sym, ap, subst, ◌∙◌, inl, inr, arith}
use Rattle.std.specs.FinMap.{get, entries, from_entries, get-empty, contains_key, empty}
use Rattle.std.specs.List.{list_any, list_all}
use Rattle.std.specs.Option.{option_map_or, option_or}
use Rattle.std.specs.Ordering.{nat_cmp}
use Rattle.std.proofs.lemmas.Bool.{leb-true}
use Rattle.ns_types.specs.declared.allocation.Allocation.{Allocation}
use Rattle.ns_types.specs.declared.allocation.DesiredStatus.{DesiredStatus}
use Rattle.ns_types.specs.declared.evaluation.Evaluation.{Evaluation}
use Rattle.ns_types.specs.declared.evaluation.Status.{Status}
use Rattle.ns_types.specs.declared.evaluation.Trigger.{Trigger}
use Rattle.ns_types.specs.declared.event.Event.{Event}
use Rattle.ns_types.specs.declared.event.Topic.{Topic}
use Rattle.ns_types.specs.declared.job.Job.{Job}
use Rattle.ns_types.specs.declared.job.JobKind.{JobKind}
use Rattle.ns_types.specs.declared.records.Namespace.{Namespace}
use Rattle.ns_types.specs.declared.resources.Resources.{Resources}
use Rattle.ns_types.specs.declared.step.Step.{Step}
use Rattle.ns_types.specs.Asking.Admins.{new_tenant}
use Rattle.ns_types.specs.Settling.Releases.{woken}
use Rattle.ns_types.specs.Settling.Same.{same_job, same_evaluation, same_allocation, same_flag}
use Rattle.ns_types.specs.Settling.Settle.{unblocked_in, woken_row, is_changed, changes_job, changes_evaluation}
use Rattle.ns_types.specs.Settling.Settle.{changes_allocation, is_touched, topics_of, events_of, created_at}
use Rattle.ns_types.specs.Settling.Settle.{stamped, stamp_tenant, job_ids, job_topic}
use Rattle.ns_types.specs.State.Lists.{Each, is_empty, last}
use Rattle.ns_types.specs.State.Names.{Name, Key, ByName, same_name, same_number, name_cmp, default_name}
use Rattle.ns_types.specs.State.Resources.{same_resources, quantity}
use Rattle.ns_types.specs.State.Rows.{State, Tenant}
use Rattle.ns_types.specs.State.Tables.{any_row}
use Rattle.ns_types.specs.Steps.{Answer, Run, after, said, opening, opening_tenant}
use Rattle.ns_types.specs.Validity.{IsValid}
use Rattle.ns_types.specs.Within.{IsGoodStep}
use Rattle.ns_types.specs.Wire.Words.{kind_text, trigger_text, status_text, desired_text}
use Rattle.ns_types.proofs.Amounts.{true_at, same_amounts}
use Rattle.ns_types.proofs.Alike.{same_job_refl}
use Rattle.ns_types.proofs.Elements.{each_append, each_from_all, each_kept, each_mapped, each_true, any_map}
use Rattle.ns_types.proofs.Leads.{Leads}
use Rattle.ns_types.proofs.Lists.{not_both, left_none, right_none, each_map}
use Rattle.ns_types.proofs.Named.{names, one_name, numbers, one_number, same_name_is, first_of_both, second_of_both}
use Rattle.ns_types.proofs.Settling.{unchanged}
use Rattle.ns_types.proofs.TableRows.{row_of_insert, get_joined}
use Rattle.ns_types.proofs.Tables.{none_of_any, any_row-none, get-map_rows, tied}
use Rattle.ns_types.proofs.Tests.{not_Some, same_Some, is_yes}
use Rattle.ns_audit.proofs.Valid.{opening_is_valid, valid_step}
use Rattle.ns_laws.specs.Indexes as law
use Rattle.ns_laws.specs.Indexes.{Rests, Rises, Ascends, IsStamped, WasEvaluation, WasAllocation}
use Rattle.ns_laws.proofs.Effect.Documents.{document_is, client_is}
use Rattle.ns_laws.proofs.Effect.Rows.{settled_rows, settled_tenant}
use Rattle.ns_laws.proofs.Elements.{Has, append_has, contains_from, filter_has, has_row, map_has}
use Rattle.ns_laws.proofs.Index.BegunRows.{BeginsIn, Begun, Ends, IsDated, act_begins, ends, goes, stays}
use Rattle.ns_laws.proofs.Index.Stamps.{changed_row, dated_allocation, dated_evaluation, row_changed}
use Rattle.ns_laws.proofs.Index.Stamps.{each_row_topic, no_map, no_row_topic, none_kept, row_topic}
use Rattle.ns_laws.proofs.Refusal.Tests.{same_options}
use Rattle.ns_audit.proofs.StepLemmas.{made, refusal_leaves_all}

-- ---- rows that are not changed

unchanged_was : {X : Type 0} (same : X → X → Bool) (o : Option X) (x : X) → is_changed same o x ≡ false → (y : X) × (o ≡ Some y) × (same y x ≡ true)
unchanged_was same None x e = not_both refl e
unchanged_was same (Some y) x e = (y, refl, is_yes (same y x) e)

-- two with the same text are the same, where each is found by its text
one_text : {X : Type 0} (text : X → Name) (all : List X) → ((x : X) → find (λ y. same_name (text y) (text x)) all ≡ Some x) → (a b : X) →
    same_name (text a) (text b) ≡ true → a ≡ b
one_text text all finds a b e =
    same_Some a b (sym (finds a) ∙ ap (λ n. find (λ y. same_name (text y) n) all) (same_name_is (text a) (text b) e) ∙ finds b)

kind_one : (a b : JobKind) → same_name (kind_text a) (kind_text b) ≡ true → a ≡ b
kind_one = one_text kind_text (JobKind.Service ∷ JobKind.Batch ∷ []) finds
  where
    finds : (x : JobKind) → find (λ y. same_name (kind_text y) (kind_text x)) (JobKind.Service ∷ JobKind.Batch ∷ []) ≡ Some x
    finds JobKind.Service = refl
    finds JobKind.Batch = refl

abbrev triggers : List Trigger
triggers = Trigger.JobRegister ∷ Trigger.JobDeregister ∷ Trigger.NodeUpdate ∷ Trigger.AllocStop ∷ Trigger.AllocFailure ∷ Trigger.Preemption
    ∷ Trigger.QueuedAllocs ∷ Trigger.MaxPlanAttempts ∷ []

trigger_one : (a b : Trigger) → same_name (trigger_text a) (trigger_text b) ≡ true → a ≡ b
trigger_one = one_text trigger_text triggers finds
  where
    finds : (x : Trigger) → find (λ y. same_name (trigger_text y) (trigger_text x)) triggers ≡ Some x
    finds Trigger.JobRegister = refl
    finds Trigger.JobDeregister = refl
    finds Trigger.NodeUpdate = refl
    finds Trigger.AllocStop = refl
    finds Trigger.AllocFailure = refl
    finds Trigger.Preemption = refl
    finds Trigger.QueuedAllocs = refl
    finds Trigger.MaxPlanAttempts = refl

abbrev statuses : List Status
statuses = Status.Pending ∷ Status.Blocked ∷ Status.Complete ∷ Status.Failed ∷ Status.Canceled ∷ []

status_one : (a b : Status) → same_name (status_text a) (status_text b) ≡ true → a ≡ b
status_one = one_text status_text statuses finds
  where
    finds : (x : Status) → find (λ y. same_name (status_text y) (status_text x)) statuses ≡ Some x
    finds Status.Pending = refl
    finds Status.Blocked = refl
    finds Status.Complete = refl
    finds Status.Failed = refl
    finds Status.Canceled = refl

abbrev wishes : List DesiredStatus
wishes = DesiredStatus.Run ∷ DesiredStatus.Stop ∷ DesiredStatus.Evict ∷ []

desired_one : (a b : DesiredStatus) → same_name (desired_text a) (desired_text b) ≡ true → a ≡ b
desired_one = one_text desired_text wishes finds
  where
    finds : (x : DesiredStatus) → find (λ y. same_name (desired_text y) (desired_text x)) wishes ≡ Some x
    finds DesiredStatus.Run = refl
    finds DesiredStatus.Stop = refl
    finds DesiredStatus.Evict = refl

flag_one : (a b : Bool) → same_flag a b ≡ true → a ≡ b
flag_one true true e = refl
flag_one true false e = not_both e refl
flag_one false true e = not_both e refl
flag_one false false e = refl

resources_one : (a b : Resources) → same_resources a b ≡ true → a ≡ b
resources_one a b e = same_amounts a b (λ r. tied one_number (quantity r a) (quantity r b) (true_at (λ r. same_number (quantity r a) (quantity r b)) e r))

-- the last of several tests, and those before it
both : {a b : Bool} → (a && b) ≡ true → (a ≡ true) × (b ≡ true)
both {a} {b} e = (first_of_both a b e, second_of_both a b e)

same_job_is : (a b : Job) → same_job a b ≡ true → a ≡ b
unfolding same_job
same_job_is a b e =
    let five = both e in
    let four = both five.0 in
    let three = both four.0 in
    let two = both three.0 in
    let document = document_is a.document b.document two.0 in
    let stop = flag_one a.stop b.stop two.1 in
    let version = tied one_number a.version b.version three.1 in
    let created = tied one_number a.create_index b.create_index four.1 in
    let modified = tied one_number a.modify_index b.modify_index five.1 in
    λ i. record { document = document i; stop = stop i; version = version i; create_index = created i; modify_index = modified i }

same_evaluation_was : (old : Tenant) (n : ℕ) (a b : Evaluation) → get old.evaluations n ≡ Some a → same_evaluation a b ≡ true → WasEvaluation old n b
unfolding same_evaluation
same_evaluation_was old n a b was e =
    let ten = both e in
    let nine = both ten.0 in
    let eight = both nine.0 in
    let seven = both eight.0 in
    let six = both seven.0 in
    let five = both six.0 in
    let four = both five.0 in
    let three = both four.0 in
    let two = both three.0 in record {
      before = a;
      was = was;
      job = sym (same_name_is a.job b.job two.0);
      kind = sym (kind_one a.kind b.kind two.1);
      priority = sym (tied one_number a.priority b.priority three.1);
      pool = sym (same_name_is a.pool b.pool four.1);
      trigger = sym (trigger_one a.trigger b.trigger five.1);
      status = sym (status_one a.status b.status six.1);
      previous = sym (same_options same_number (tied one_number) a.previous b.previous seven.1);
      follower = sym (same_options same_number (tied one_number) a.follower b.follower eight.1);
      quota = sym (same_options same_name same_name_is a.quota b.quota nine.1);
      escapes = sym (flag_one a.escapes b.escapes ten.1);
    }

same_allocation_was : (old : Tenant) (n : ℕ) (a b : Allocation) → get old.allocations n ≡ Some a → same_allocation a b ≡ true → WasAllocation old n b
unfolding same_allocation
same_allocation_was old n a b was e =
    let ten = both e in
    let nine = both ten.0 in
    let eight = both nine.0 in
    let seven = both eight.0 in
    let six = both seven.0 in
    let five = both six.0 in
    let four = both five.0 in
    let three = both four.0 in
    let two = both three.0 in record {
      before = a;
      was = was;
      job = sym (same_name_is a.job b.job two.0);
      group = sym (same_name_is a.group b.group two.1);
      evaluation = sym (tied one_number a.evaluation b.evaluation three.1);
      pool = sym (same_name_is a.pool b.pool four.1);
      node = sym (same_name_is a.node b.node five.1);
      size = sym (resources_one a.size b.size six.1);
      priority = sym (tied one_number a.priority b.priority seven.1);
      job_modify_index = sym (tied one_number a.job_modify_index b.job_modify_index eight.1);
      desired = sym (desired_one a.desired b.desired nine.1);
      client = sym (client_is a.client b.client ten.1);
    }

-- an evaluation, and an allocation, that did not change is as it was
evaluation_was : (old : Tenant) (n : ℕ) (x : Evaluation) → changes_evaluation old n x ≡ false → WasEvaluation old n x
evaluation_was old n x e = let u = unchanged_was same_evaluation (get old.evaluations n) x e in same_evaluation_was old n u.0 x u.1 u.2

allocation_was : (old : Tenant) (n : ℕ) (x : Allocation) → changes_allocation old n x ≡ false → WasAllocation old n x
allocation_was old n x e = let u = unchanged_was same_allocation (get old.allocations n) x e in same_allocation_was old n u.0 x u.1 u.2

-- ---- what is told

told : (index : ℕ) (topics : List Topic) → Each (λ (event : Event). event.index ≡ index) (map (λ topic. record { index = index; topic = topic }) topics)
told index [] = tt
told index (topic ∷ topics) = (refl, told index topics)

-- ---- the namespace as the step's end makes it

abbrev IsStampedJob : Tenant → Tenant → Name → Job → Type 0
IsStampedJob old now id job = IsStamped old now (option_map (λ (j : Job). j.create_index) (get old.jobs id)) job.create_index job.modify_index

abbrev IsStampedEvaluation : Tenant → Tenant → ℕ → Evaluation → Type 0
IsStampedEvaluation old now n e =
    IsStamped old now (option_map (λ (x : Evaluation). x.create_index) (get old.evaluations n)) e.create_index e.modify_index

abbrev IsStampedAllocation : Tenant → Tenant → ℕ → Allocation → Type 0
IsStampedAllocation old now n a =
    IsStamped old now (option_map (λ (x : Allocation). x.create_index) (get old.allocations n)) a.create_index a.modify_index

created_so : {X : Type 0} (create_index : X → ℕ) (index : ℕ) (o : Option X) →
    law.KeepsCreation (option_map create_index o) index (created_at index o create_index)
created_so create_index index None = refl
created_so create_index index (Some x) = refl

module _ (old t : Tenant) (begun : Begun old t) where
  abbrev index : ℕ
  index = old.index + 1

  abbrev at_end : Bool → Tenant
  at_end b = cond b (stamped index old t) t

  no_job : is_touched old t ≡ false → any_row (λ id _. changes_job old t id) t.jobs ≡ false
  no_job e = left_none _ _ (left_none _ _ (left_none _ _ e))

  no_gone_job : is_touched old t ≡ false → any_row (λ id _. changes_job old t id) old.jobs ≡ false
  no_gone_job e = right_none (any_row (λ id _. changes_job old t id) t.jobs) _ (left_none _ _ (left_none _ _ e))

  no_evaluation : is_touched old t ≡ false → any_row (changes_evaluation old) t.evaluations ≡ false
  no_evaluation e = right_none (any_row (λ id _. changes_job old t id) t.jobs || any_row (λ id _. changes_job old t id) old.jobs) _ (left_none _ _ e)

  no_allocation : is_touched old t ≡ false → any_row (changes_allocation old) t.allocations ≡ false
  no_allocation e = right_none (any_row (λ id _. changes_job old t id) t.jobs || any_row (λ id _. changes_job old t id) old.jobs
      || any_row (changes_evaluation old) t.evaluations) _ e

  job_same : (id : Name) (job : Job) → get t.jobs id ≡ Some job → changes_job old t id ≡ false → get old.jobs id ≡ Some job
  job_same id job at same =
      let u = unchanged_was same_job (get old.jobs id) job
      (sym (ap (λ o. option_map_or (is_changed same_job (get old.jobs id)) o (contains_key old.jobs id)) at) ∙ same) in
      u.1 ∙ ap Some (same_job_is u.0 job u.2)

  job_dated : (b : Bool) → is_touched old t ≡ b → (id : Name) (job : Job) → get (at_end b).jobs id ≡ Some job →
      (get old.jobs id ≡ Some job) ⊎ IsStampedJob old (at_end b) id job
  job_dated true e id job at = by (begun.job id job at)
    where
      by : (get old.jobs id ≡ Some job) ⊎ IsDated old id job → (get old.jobs id ≡ Some job) ⊎ IsStampedJob old (at_end true) id job
      by (inl was) = inl was
      by (inr new) = inr (record { rises = refl; modified = new.0; created = new.1 })
  job_dated false e id job at = inl (job_same id job at (none_of_any one_name (λ id _. changes_job old t id) t.jobs id job (no_job e) at))

  job_gone : (b : Bool) → is_touched old t ≡ b → (id : Name) (job : Job) → get old.jobs id ≡ Some job → get (at_end b).jobs id ≡ None →
      (at_end b).index ≡ index
  job_gone true e id job was gone = refl
  job_gone false e id job was gone = not_both
      (ap (λ o. option_map_or (is_changed same_job (get old.jobs id)) o (contains_key old.jobs id)) gone ∙ ap is_some was)
      (none_of_any one_name (λ id _. changes_job old t id) old.jobs id job (no_gone_job e) was)

  evaluation_dated : (b : Bool) → is_touched old t ≡ b → (n : ℕ) (e : Evaluation) → get (at_end b).evaluations n ≡ Some e →
      WasEvaluation old n e ⊎ IsStampedEvaluation old (at_end b) n e
  evaluation_dated true touched n e at = row_changed same_evaluation (λ e. e.create_index) dated_evaluation index old.evaluations t.evaluations
      (λ (e : Evaluation). WasEvaluation old n e ⊎ IsStampedEvaluation old (at_end true) n e) n
      (λ x _ _. inr (record { rises = refl; modified = refl; created = created_so (λ (o : Evaluation). o.create_index) index (get old.evaluations n) }))
      (λ x _ same. inl (evaluation_was old n x same)) e at
  evaluation_dated false touched n e at =
      inl (evaluation_was old n e (none_of_any one_number (changes_evaluation old) t.evaluations n e (no_evaluation touched) at))

  allocation_dated : (b : Bool) → is_touched old t ≡ b → (n : ℕ) (a : Allocation) → get (at_end b).allocations n ≡ Some a →
      WasAllocation old n a ⊎ IsStampedAllocation old (at_end b) n a
  allocation_dated true touched n a at = row_changed same_allocation (λ a. a.create_index) dated_allocation index old.allocations t.allocations
      (λ (a : Allocation). WasAllocation old n a ⊎ IsStampedAllocation old (at_end true) n a) n
      (λ x _ _. inr (record { rises = refl; modified = refl; created = created_so (λ (o : Allocation). o.create_index) index (get old.allocations n) }))
      (λ x _ same. inl (allocation_was old n x same)) a at
  allocation_dated false touched n a at =
      inl (allocation_was old n a (none_of_any one_number (changes_allocation old) t.allocations n a (no_allocation touched) at))

-- ---- the rows

module _ (old : Tenant) where
  jobs_dated : (now : Tenant) → Ends old now → (id : Name) (job : Job) → get now.jobs id ≡ Some job →
      (get old.jobs id ≡ Some job) ⊎ IsStampedJob old now id job
  unfolding stamp_tenant
  jobs_dated now stays id job at = inl at
  jobs_dated now (goes t begun) id job at = job_dated old t begun (is_touched old t) refl id job at

  jobs_gone : (now : Tenant) → Ends old now → (id : Name) (job : Job) → get old.jobs id ≡ Some job → get now.jobs id ≡ None → now.index ≡ old.index + 1
  unfolding stamp_tenant
  jobs_gone now stays id job was gone = absurd (not_Some job (sym gone ∙ was))
  jobs_gone now (goes t begun) id job was gone = job_gone old t begun (is_touched old t) refl id job was gone

  evaluations_dated : (now : Tenant) → Ends old now → (n : ℕ) (e : Evaluation) → get now.evaluations n ≡ Some e →
      WasEvaluation old n e ⊎ IsStampedEvaluation old now n e
  unfolding stamp_tenant
  evaluations_dated now stays n e at = inl (record {
    before = e;
    was = at;
    job = refl;
    kind = refl;
    priority = refl;
    pool = refl;
    trigger = refl;
    status = refl;
    previous = refl;
    follower = refl;
    quota = refl;
    escapes = refl;
  })
  evaluations_dated now (goes t begun) n e at = evaluation_dated old t begun (is_touched old t) refl n e at

  allocations_dated : (now : Tenant) → Ends old now → (n : ℕ) (a : Allocation) → get now.allocations n ≡ Some a →
      WasAllocation old n a ⊎ IsStampedAllocation old now n a
  unfolding stamp_tenant
  allocations_dated now stays n a at = inl (record {
    before = a;
    was = at;
    job = refl;
    group = refl;
    evaluation = refl;
    pool = refl;
    node = refl;
    size = refl;
    priority = refl;
    job_modify_index = refl;
    desired = refl;
    client = refl;
  })
  allocations_dated now (goes t begun) n a at = allocation_dated old t begun (is_touched old t) refl n a at

pub changed_jobs_have_index : law.ChangedJobsHaveIndex
changed_jobs_have_index step s s' ns old now id job h at = jobs_dated old now (ends step s s' ns old now h) id job at

pub gone_jobs_raise_index : law.GoneJobsRaiseIndex
gone_jobs_raise_index step s s' ns old now id job h was gone = jobs_gone old now (ends step s s' ns old now h) id job was gone

pub changed_evaluations_have_index : law.ChangedEvaluationsHaveIndex
changed_evaluations_have_index step s s' ns old now n e h at = evaluations_dated old now (ends step s s' ns old now h) n e at

pub changed_allocations_have_index : law.ChangedAllocationsHaveIndex
changed_allocations_have_index step s s' ns old now n a h at = allocations_dated old now (ends step s s' ns old now h) n a at

-- ---- the index and the events

no_append : {X : Type 0} (xs ys : List X) → xs ++ ys ≡ [] → (xs ≡ []) × (ys ≡ [])
no_append [] ys e = (refl, e)
no_append (x ∷ xs) ys e = not_both (ap is_empty e) refl

module _ (old t : Tenant) where
  abbrev changes : Name → Job → Bool
  changes id _ = changes_job old t id

  abbrev joined : ByName Job
  joined = from_entries {R = name_cmp} (entries old.jobs ++ entries t.jobs)

  none_joined : list_any (changes_job old t) (job_ids old t) ≡ false → any_row changes joined ≡ false
  unfolding any_row
  none_joined e = sym (any_map (changes_job old t) (λ (x : Name × Job). x.0) (entries joined)) ∙ e

  no_old_job : any_row changes joined ≡ false → any_row changes old.jobs ≡ false
  no_old_job e = any_row-none names one_name changes old.jobs (λ id job at. none_of_any one_name changes joined id job e
      (get_joined names old.jobs t.jobs id ∙ ap (λ o. option_or o (get t.jobs id)) at))

  no_new_job : any_row changes joined ≡ false → any_row changes t.jobs ≡ false
  no_new_job e = any_row-none names one_name changes t.jobs (λ id job at. by id job at (get old.jobs id) refl)
    where
      by : (id : Name) (job : Job) → get t.jobs id ≡ Some job → (o : Option Job) → get old.jobs id ≡ o → changes_job old t id ≡ false
      by id job at None was = none_of_any one_name changes joined id job e
          (get_joined names old.jobs t.jobs id ∙ (λ i. option_or (was i) (at i)))
      by id job at (Some former_job) was = none_of_any one_name changes joined id former_job e
          (get_joined names old.jobs t.jobs id ∙ ap (λ o. option_or o (get t.jobs id)) was)

  abbrev of_jobs : List Topic
  of_jobs = map (job_topic t) (filter (changes_job old t) (job_ids old t))

  abbrev of_evaluations : List Topic
  of_evaluations = map (λ e. Topic.EvaluationUpdated e.0) (filter (λ e. changes_evaluation old e.0 e.1) (entries t.evaluations))

  abbrev of_allocations : List Topic
  of_allocations = map (λ a. Topic.AllocationUpdated a.0) (filter (λ a. changes_allocation old a.0 a.1) (entries t.allocations))

  none_touched : topics_of old t ≡ [] → is_touched old t ≡ false
  none_touched e =
      let first = no_append (of_jobs ++ of_evaluations) of_allocations e in
      let second = no_append of_jobs of_evaluations first.0 in
      let jobs = none_joined (none_kept (changes_job old t) (job_ids old t) (no_map (job_topic t) _ second.0)) in
      let evaluations = no_row_topic (changes_evaluation old) Topic.EvaluationUpdated t.evaluations second.1 in
      let allocations = no_row_topic (changes_allocation old) Topic.AllocationUpdated t.allocations first.1 in
      λ i. no_new_job jobs i || no_old_job jobs i || evaluations i || allocations i

module _ (old t : Tenant) (begun : Begun old t) where
  abbrev ended : Tenant
  ended = stamped (old.index + 1) old t

  abbrev their_events : List Event
  their_events = events_of (old.index + 1) old t

  tells : (topic : Topic) → Has (topics_of old t) topic → law.HasEvent ended their_events topic
  tells topic h = contains_from their_events _ (map_has (λ topic. record { index = old.index + 1; topic = topic }) (topics_of old t) topic h)

  tells_job : (id : Name) (job : Job) → get (joined old t) id ≡ Some job → changes_job old t id ≡ true → law.HasEvent ended their_events (job_topic t id)
  tells_job id job at changed = tells (job_topic t id) (append_has (of_jobs old t ++ of_evaluations old t) (of_allocations old t) _
      (inl (append_has (of_jobs old t) (of_evaluations old t) _ (inl (map_has (job_topic t) (filter (changes_job old t) (job_ids old t)) id
      (filter_has (changes_job old t) (job_ids old t) id
      (map_has (λ (x : Name × Job). x.0) (entries (joined old t)) (id, job) (has_row one_name (joined old t) id job at)) changed))))))

  tells_evaluation : (n : ℕ) (x : Evaluation) → get t.evaluations n ≡ Some x → changes_evaluation old n x ≡ true →
      law.HasEvent ended their_events (Topic.EvaluationUpdated n)
  tells_evaluation n x at changed = tells (Topic.EvaluationUpdated n) (append_has (of_jobs old t ++ of_evaluations old t) (of_allocations old t) _
      (inl (append_has (of_jobs old t) (of_evaluations old t) _
      (inr (row_topic (changes_evaluation old) Topic.EvaluationUpdated t.evaluations n x at changed)))))

  tells_allocation : (n : ℕ) (x : Allocation) → get t.allocations n ≡ Some x → changes_allocation old n x ≡ true →
      law.HasEvent ended their_events (Topic.AllocationUpdated n)
  tells_allocation n x at changed = tells (Topic.AllocationUpdated n) (append_has (of_jobs old t ++ of_evaluations old t) (of_allocations old t) _
      (inr (row_topic (changes_allocation old) Topic.AllocationUpdated t.allocations n x at changed)))

  topic_is : (id : Name) (b : Bool) → option_map_or (λ (job : Job). job.stop) (get t.jobs id) true ≡ b → job_topic t id ≡ law.topic_of b id
  topic_is id true e = ap (λ b. cond b (Topic.JobDeregistered id) (Topic.JobRegistered id)) e
  topic_is id false e = ap (λ b. cond b (Topic.JobDeregistered id) (Topic.JobRegistered id)) e

  job_told : (id : Name) (job : Job) → get t.jobs id ≡ Some job → (get old.jobs id ≡ Some job) ⊎ law.HasEvent ended their_events (law.topic_of job.stop id)
  job_told id job at = by (changes_job old t id) refl
    where
      there : (o : Option Job) → get old.jobs id ≡ o → (x : Job) × (get (joined old t) id ≡ Some x)
      there None was = (job, get_joined names old.jobs t.jobs id ∙ (λ i. option_or (was i) (at i)))
      there (Some x) was = (x, get_joined names old.jobs t.jobs id ∙ ap (λ o. option_or o (get t.jobs id)) was)

      by : (b : Bool) → changes_job old t id ≡ b → (get old.jobs id ≡ Some job) ⊎ law.HasEvent ended their_events (law.topic_of job.stop id)
      by true changed = let x = there (get old.jobs id) refl in
          inr (subst (law.HasEvent ended their_events) (topic_is id job.stop (ap (λ o. option_map_or (λ (job : Job). job.stop) o true) at))
          (tells_job id x.0 x.1 changed))
      by false same = inl (job_same old t begun id job at same)

  gone_told : (id : Name) (job : Job) → get old.jobs id ≡ Some job → get t.jobs id ≡ None → law.HasEvent ended their_events (Topic.JobDeregistered id)
  gone_told id job was gone = subst (law.HasEvent ended their_events) (topic_is id true (ap (λ o. option_map_or (λ (job : Job). job.stop) o true) gone))
      (tells_job id job (get_joined names old.jobs t.jobs id ∙ ap (λ o. option_or o (get t.jobs id)) was)
      (ap (λ o. option_map_or (is_changed same_job (get old.jobs id)) o (contains_key old.jobs id)) gone ∙ ap is_some was))

  evaluation_told : (n : ℕ) (e : Evaluation) → get ended.evaluations n ≡ Some e →
      WasEvaluation old n e ⊎ law.HasEvent ended their_events (Topic.EvaluationUpdated n)
  evaluation_told n e at = row_changed same_evaluation (λ e. e.create_index) dated_evaluation (old.index + 1) old.evaluations t.evaluations
      (λ e. WasEvaluation old n e ⊎ law.HasEvent ended their_events (Topic.EvaluationUpdated n)) n
      (λ x has changed. inr (tells_evaluation n x has changed)) (λ x has same. inl (evaluation_was old n x same)) e at

  allocation_told : (n : ℕ) (a : Allocation) → get ended.allocations n ≡ Some a →
      WasAllocation old n a ⊎ law.HasEvent ended their_events (Topic.AllocationUpdated n)
  allocation_told n a at = row_changed same_allocation (λ a. a.create_index) dated_allocation (old.index + 1) old.allocations t.allocations
      (λ a. WasAllocation old n a ⊎ law.HasEvent ended their_events (Topic.AllocationUpdated n)) n
      (λ x has changed. inr (tells_allocation n x has changed)) (λ x has same. inl (allocation_was old n x same)) a at

module _ (old t : Tenant) (begun : Begun old t) where
  abbrev Changed : Topic → Type 0
  Changed topic = law.IsOfChange old (ended old t begun) topic

  changed_job : (id : Name) → changes_job old t id ≡ true → Changed (job_topic t id)
  changed_job id changed = by (get t.jobs id) refl
    where
      looked : (o : Option Job) → get t.jobs id ≡ o → option_map_or (is_changed same_job (get old.jobs id)) o (contains_key old.jobs id) ≡ true
      looked o at = sym (ap (λ o. option_map_or (is_changed same_job (get old.jobs id)) o (contains_key old.jobs id)) at) ∙ changed

      modified : (job : Job) → get t.jobs id ≡ Some job → (get old.jobs id ≡ Some job) ⊎ IsDated old id job → job.modify_index ≡ old.index + 1
      modified job at (inl was) = not_both (looked (Some job) at) (unchanged same_job job (get old.jobs id) was (same_job_refl job))
      modified job at (inr new) = new.0

      there : (job : Job) → get t.jobs id ≡ Some job → (b : Bool) → job.stop ≡ b → Changed (law.topic_of b id)
      there job at true stops = inl (job, at, stops, modified job at (begun.job id job at))
      there job at false stops = (job, at, stops, modified job at (begun.job id job at))

      by : (o : Option Job) → get t.jobs id ≡ o → Changed (job_topic t id)
      by None gone = subst Changed (sym (topic_is old t begun id true (ap (λ o. option_map_or (λ (job : Job). job.stop) o true) gone)))
          (inr (looked None gone, gone))
      by (Some job) at = subst Changed (sym (topic_is old t begun id job.stop (ap (λ o. option_map_or (λ (job : Job). job.stop) o true) at)))
          (there job at job.stop refl)

  changed_evaluation : (n : ℕ) (x : Evaluation) → get t.evaluations n ≡ Some x → changes_evaluation old n x ≡ true → Changed (Topic.EvaluationUpdated n)
  changed_evaluation n x at changed = (
    _,
    changed_row same_evaluation (λ e. e.create_index) dated_evaluation (old.index + 1) old.evaluations t.evaluations n x at changed,
    refl,
  )

  changed_allocation : (n : ℕ) (x : Allocation) → get t.allocations n ≡ Some x → changes_allocation old n x ≡ true → Changed (Topic.AllocationUpdated n)
  changed_allocation n x at changed = (
    _,
    changed_row same_allocation (λ a. a.create_index) dated_allocation (old.index + 1) old.allocations t.allocations n x at changed,
    refl,
  )

  job_topics : Each Changed (of_jobs old t)
  job_topics = each_mapped Changed (job_topic t) (filter (changes_job old t) (job_ids old t))
      (each_map (λ id h. changed_job id h.1) (filter (changes_job old t) (job_ids old t))
      (each_kept (λ _. Unit {0}) (changes_job old t) (job_ids old t) (each_true (job_ids old t))))

  evaluation_topics : Each Changed (of_evaluations old t)
  evaluation_topics = each_row_topic (changes_evaluation old) Topic.EvaluationUpdated t.evaluations Changed changed_evaluation

  allocation_topics : Each Changed (of_allocations old t)
  allocation_topics = each_row_topic (changes_allocation old) Topic.AllocationUpdated t.allocations Changed changed_allocation

  tells_no_other : Each (λ event. Changed event.topic) (their_events old t begun)
  tells_no_other = each_mapped (λ (event : Event). Changed event.topic) (λ topic. record { index = old.index + 1; topic = topic }) (topics_of old t)
      (each_append Changed (of_jobs old t ++ of_evaluations old t) (of_allocations old t)
      (each_append Changed (of_jobs old t) (of_evaluations old t) job_topics evaluation_topics) allocation_topics)

index_moves : (old now : Tenant) → Ends old now → Rests old now ⊎ Rises old now
unfolding stamp_tenant
index_moves old now stays = inl (record { index = refl; events = refl })
index_moves old now (goes t begun) = by (is_touched old t) refl
  where
    by : (b : Bool) → is_touched old t ≡ b → Rests old (at_end old t begun b) ⊎ Rises old (at_end old t begun b)
    by true touched = inr (record {
      index = refl;
      new = events_of (old.index + 1) old t;
      some = λ none. not_both touched (none_touched old t (no_map (λ topic. record { index = old.index + 1; topic = topic }) (topics_of old t) none));
      dated = told (old.index + 1) (topics_of old t);
      changes = record {
        job = job_told old t begun;
        gone = gone_told old t begun;
        evaluation = evaluation_told old t begun;
        allocation = allocation_told old t begun;
        no_other = tells_no_other old t begun;
      };
      events = ap (λ events. last 100 (events ++ events_of (old.index + 1) old t)) begun.events;
    })
    by false untouched = inl (record { index = begun.index; events = begun.events })

pub index_rises_by_one : law.IndexRisesByOne
index_rises_by_one step s s' ns old now h = index_moves old now (ends step s s' ns old now h)

-- ---- the order of events

ascends_append : (xs ys : List Event) → Ascends xs → Ascends ys → Each (λ x. Each (λ y. x.index ≤ y.index) ys) xs → Ascends (xs ++ ys)
ascends_append [] ys h k across = k
ascends_append (x ∷ xs) ys h k across = (each_append (λ y. x.index ≤ y.index) xs ys h.0 across.0, ascends_append xs ys h.1 k across.1)

ascends_drop : (n : ℕ) (xs : List Event) → Ascends xs → Ascends (drop n xs)
ascends_drop zero xs h = h
ascends_drop (suc n) [] h = h
ascends_drop (suc n) (x ∷ xs) h = ascends_drop n xs h.1

no_higher : (a b n : ℕ) → a ≡ n → b ≡ n → a ≤ b
no_higher a b n e f = omega arith

next_higher : (a b n : ℕ) → a ≤ n → b ≡ n + 1 → a ≤ b
next_higher a b n le e = omega arith

ascends_alike : (n : ℕ) (xs : List Event) → Each (λ x. x.index ≡ n) xs → Ascends xs
ascends_alike n [] h = tt
ascends_alike n (x ∷ xs) h = (each_map (λ y e. no_higher x.index y.index n h.0 e) xs h.1, ascends_alike n xs h.1)

events_ascend : (old now : Tenant) → list_all (λ event. nat_le event.index old.index) old.events ≡ true → Rests old now ⊎ Rises old now →
    Ascends old.events → Ascends now.events
events_ascend old now below (inl rests) h = subst Ascends (sym rests.events) h
events_ascend old now below (inr rises) h = subst Ascends (sym rises.events)
    (ascends_drop _ (old.events ++ rises.new) (ascends_append old.events rises.new h (ascends_alike now.index rises.new rises.dated)
    (each_map (λ x e. each_map (λ y f. next_higher x.index y.index old.index (leb-true x.index old.index e) (f ∙ rises.index)) rises.new rises.dated)
    old.events (each_from_all (λ event. nat_le event.index old.index) old.events below))))

pub events_stay_in_order : law.EventsStayInOrder
events_stay_in_order step s s' ns old now valid h ascends =
    events_ascend old now (valid.world.tenant ns old h.was_there).events_below (index_rises_by_one step s s' ns old now h) ascends

-- ---- new namespaces, and runs

stamp_none : (t : Tenant) → stamp_tenant None t ≡ t
unfolding stamp_tenant
stamp_none t = refl

module _ (step : Step) (s s' : State) (ns : Name) (none : get s.world.tenants ns ≡ None) where
  begins_empty : (answer : Answer) (now : Tenant) → after step s ≡ said answer s' → get s'.world.tenants ns ≡ Some now → law.HasNothing now
  begins_empty (Err refusal) now e at =
      absurd (not_Some now (sym none ∙ ap (λ (y : State). get y.world.tenants ns) (sym (refusal_leaves_all step s s' refusal e)) ∙ at))
  begins_empty (Ok reply) now e at =
      let m = made step s s' reply e in
      row m.own (subst (Leads (BeginsIn s)) m.acts (act_begins s step)) (get m.own.world.tenants ns) refl
      (sym (settled_tenant s.world m.own.world ns) ∙ ap (λ (y : State). get y.world.tenants ns) m.leads ∙ at)
    where
      empty_rows : (keys : List Key) (namespace : Namespace) → law.HasNothing (unblocked_in keys ns (new_tenant namespace))
      empty_rows keys namespace = record {
        index = refl;
        evaluation_number = refl;
        allocation_number = refl;
        events = refl;
        no_job = get-empty name_cmp;
        no_evaluation = λ n. get-map_rows numbers one_number (woken_row keys ns) empty n ∙ ap (option_map (woken_row keys ns n)) (get-empty nat_cmp n);
        no_allocation = get-empty nat_cmp;
      }

      row : (x : State) → BeginsIn s x → (o : Option Tenant) → get x.world.tenants ns ≡ o → option_map (settled_rows s.world x.world ns) o ≡ Some now →
          law.HasNothing now
      row x begins None is f = absurd (not_Some now f)
      row x begins (Some t) is f =
          let b = begins.1 ns t none is in
          let keys : List Key = woken s.world x.world in
          subst law.HasNothing (sym (stamp_none (unblocked_in keys ns t)) ∙ ap (λ o. stamp_tenant o (unblocked_in keys ns t)) (sym none) ∙ same_Some _ _ f)
          (subst (λ t. law.HasNothing (unblocked_in keys ns t)) b.1 (empty_rows keys b.0))

pub new_namespaces_have_nothing : law.NewNamespacesHaveNothing
new_namespaces_have_nothing step s s' answer ns now none e at = begins_empty step s s' ns none answer now e at

abbrev AllAscend : State → Type 0
AllAscend s = (ns : Name) (t : Tenant) → get s.world.tenants ns ≡ Some t → Ascends t.events

step_ascends : (step : Step) (s s' : State) (answer : Answer) → IsValid s → after step s ≡ said answer s' → AllAscend s → AllAscend s'
step_ascends step s s' answer valid e all ns now at = by (get s.world.tenants ns) refl
  where
    by : (o : Option Tenant) → get s.world.tenants ns ≡ o → Ascends now.events
    by None none = subst Ascends (sym (begins_empty step s s' ns none answer now e at).events) tt
    by (Some old) was = events_stay_in_order step s s' ns old now valid (record { answer = answer; leads = e; was_there = was; is_there = at }) (all ns old was)

run_ascends : (s s' : State) (steps : List Step) (answers : List Answer) → IsValid s → Each IsGoodStep steps → Run s steps answers s' →
    AllAscend s → AllAscend s'
run_ascends s s' [] [] valid good run all = subst AllAscend (sym run) all
run_ascends s s' [] (answer ∷ answers) valid good run all = absurd run
run_ascends s s' (step ∷ steps) [] valid good run all = absurd run
run_ascends s s' (step ∷ steps) (answer ∷ answers) valid good run all = run_ascends run.0 s' steps answers
    (valid_step s run.0 step answer valid good.0 run.1) good.1 run.2 (step_ascends step s run.0 answer valid run.1 all)

opening_ascends : (secret : Name) → AllAscend (opening secret)
unfolding opening
opening_ascends secret ns t at = by (row_of_insert names one_name empty default_name opening_tenant ns t at)
  where
    by : ((ns ≡ default_name) × (opening_tenant ≡ t)) ⊎ (get (empty {X = Tenant} {R = name_cmp}) ns ≡ Some t) → Ascends t.events
    by (inl e) = subst (λ (t : Tenant). Ascends t.events) e.1 tt
    by (inr has) = absurd (not_Some t (sym (get-empty name_cmp ns) ∙ has))

pub events_are_in_order : law.EventsAreInOrder
events_are_in_order secret s steps answers named good run =
    run_ascends (opening secret) s steps answers (opening_is_valid secret named) good run (opening_ascends secret)
