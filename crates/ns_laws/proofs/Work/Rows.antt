-- What the end of a worker's step does to the rows of the one namespace that the step changes.
use Rattle.std.specs.Prelude.{◌≡◌, ◌≢◌, ℕ, ◌+◌, Bool, true, false, cond, not, ◌||◌, List, [], Some, Ok}
use Rattle.std.proofs.Common.{refl, sym, ap, subst, ◌∙◌}
use Rattle.std.proofs.Math.Bool.{and-false, and-true}
use Rattle.std.specs.FinMap.{get, insert}
use Rattle.ns_types.specs.declared.evaluation.Evaluation.{Evaluation}
use Rattle.ns_types.specs.declared.reply.Content.{Content}
use Rattle.ns_types.specs.declared.reply.Reply.{Reply}
use Rattle.ns_types.specs.declared.step.Step.{Step}
use Rattle.ns_types.specs.Asking.Policies.{with_world}
use Rattle.ns_types.specs.Settling.Outcome.{Outcome, lift}
use Rattle.ns_types.specs.Settling.Releases.{woken}
use Rattle.ns_types.specs.Settling.Settle.{changes_job, changes_evaluation, changes_allocation, is_touched, settle, stamp_tenant, stamped}
use Rattle.ns_types.specs.State.Names.{Key, Name, ByNumber, has_key, same_key}
use Rattle.ns_types.specs.State.Rows.{State, World, Tenant}
use Rattle.ns_types.specs.Steps.{act, after, reply_of, said}
use Rattle.ns_types.specs.Working.Work.{at_work, with_worker, without_key}
use Rattle.ns_types.specs.Working.Worker.{Worker}
use Rattle.ns_types.proofs.Elements.{any_kept}
use Rattle.ns_types.proofs.Named.{names, one_name, numbers, one_number}
use Rattle.ns_types.proofs.Once.{key_is}
use Rattle.ns_types.proofs.Settling.{keeps_elsewhere, kept_allocation, kept_evaluation, kept_job, releases_nothing, stamp_one, wakes_none}
use Rattle.ns_types.proofs.TableRows.{apart, get_other}
use Rattle.ns_types.proofs.Tables.{any_row-none}
use Rattle.ns_laws.specs.Workers.{StaysIn, ChangesWorker, IsTakenOut}
use Rattle.ns_laws.proofs.Plans.ApplyStep.{does_or}
use Rattle.ns_laws.proofs.Elements.{filter_in_order}
use Rattle.ns_laws.proofs.Effect.Rows.{AtEnd, Does, after_does, does_lift, put_there, put_elsewhere}

-- ---- what a worker's step says and leaves

module _ (step : Step) (s s' : State) (reply : Reply) (Q : Reply → State → Type 0) where
  pub work_does : (o : Outcome World) → act step s ≡ lift (with_world s.acl) o →
      Does (λ content x. Q (reply_of step content (settle s.world x)) (record s { world = settle s.world x })) o → after step s ≡
      said (Ok reply) s' → Q reply s'
  work_does o acts h e = after_does step s s' reply Q e
      (subst (Does (AtEnd step s s' reply Q)) (sym acts) (does_lift (AtEnd step s s' reply Q) (with_world s.acl) o h))

module _ (number : ℕ) (ns : Name) (w : World) (Q : Content → World → Type 0) where
  pub at_work_does : (f : Tenant → Worker → Evaluation → Outcome World) →
      ((t : Tenant) (worker : Worker) (e : Evaluation) → get w.tenants ns ≡ Some t → get t.workers number ≡ Some worker →
      get t.evaluations worker.evaluation ≡ Some e → Does Q (f t worker e)) → Does Q (at_work number ns w f)
  at_work_does f h = does_or Q (get w.tenants ns) _ (λ t is. does_or Q (get t.workers number) _
      (λ worker has. does_or Q (get t.evaluations worker.evaluation) (f t worker) (λ e at. h t worker e is has at)))

-- ---- the end of a step that changes one namespace and no allocation

module _ (w x : World) (ns : Name) (t t' : Tenant) (pools : x.pools ≡ w.pools) (quotas : x.quotas ≡ w.quotas)
    (tenants : x.tenants ≡ insert w.tenants ns t') (is : get w.tenants ns ≡ Some t) (same : t'.allocations ≡ t.allocations) where
  pub wakes_nothing : woken w x ≡ []
  wakes_nothing = wakes_none w x (keeps_elsewhere w x ns t t' pools quotas tenants is same)

  pub settles_one : settle w x ≡ record x { tenants = insert w.tenants ns (stamp_tenant (Some t) t') }
  settles_one = releases_nothing w x (keeps_elsewhere w x ns t t' pools quotas tenants is same) ∙ stamp_one w x ns t t' tenants is

untouched : (t : Tenant) (workers : ByNumber Worker) → is_touched t (record t { workers = workers }) ≡ false
untouched t workers = λ i.
    any_row-none names one_name (λ id _. changes_job t t id) t.jobs (λ id job is. kept_job t id) i
    || any_row-none names one_name (λ id _. changes_job t t id) t.jobs (λ id job is. kept_job t id) i
    || any_row-none numbers one_number (changes_evaluation t) t.evaluations (kept_evaluation t) i
    || any_row-none numbers one_number (changes_allocation t) t.allocations (kept_allocation t) i

pub stamp_workers : (t : Tenant) (workers : ByNumber Worker) → stamp_tenant (Some t) (record t { workers = workers }) ≡ record t { workers = workers }
unfolding stamp_tenant
stamp_workers t workers = ap (λ b. cond b (stamped (t.index + 1) t (record t { workers = workers })) (record t { workers = workers })) (untouched t workers)

-- where only rows of workers are others, and lists of evaluations, nothing else happens
pub settles_workers : (w x : World) (ns : Name) (t : Tenant) (workers : ByNumber Worker) → x.pools ≡ w.pools → x.quotas ≡ w.quotas →
    x.tenants ≡ insert w.tenants ns (record t { workers = workers }) → get w.tenants ns ≡ Some t → settle w x ≡ x
settles_workers w x ns t workers pools quotas tenants is = settles_one w x ns t (record t { workers = workers }) pools quotas tenants is refl
    ∙ (λ i. record x { tenants = (ap (insert w.tenants ns) (stamp_workers t workers) ∙ sym tenants) i })

pub stays_in : (s : State) (ns : Name) (t u : Tenant) (y : World) → get s.world.tenants ns ≡ Some t → y.tenants ≡ insert s.world.tenants ns u →
    y.pools ≡ s.world.pools → y.quotas ≡ s.world.quotas → StaysIn ns s (record s { world = y }) t u
stays_in s ns t u y is tenants pools quotas = record {
  was_there = is;
  is_there = ap (λ m. get m ns) tenants ∙ put_there s.world.tenants ns u;
  others = λ other differs. ap (λ m. get m other) tenants ∙ put_elsewhere s.world.tenants ns u other differs;
  acl = refl;
  pools = pools;
  quotas = quotas;
}

pub changes_worker : (number : ℕ) (worker : Worker) (t : Tenant) → ChangesWorker number t (with_worker number worker t)
changes_worker number worker t = record {
  rest = refl;
  other_workers = λ other differs. get_other numbers one_number t.workers number worker other (apart other number differs);
}

-- ---- lists without a key

left_out : (key : Key) (keys : List Key) → has_key (without_key key keys) key ≡ false
left_out key keys = any_kept (same_key key) (λ other. not (same_key key other)) false (λ other same. ap not same) keys ∙ and-false (has_key keys key)

other_key : (key other : Key) → other ≢ key → same_key key other ≡ false
other_key key other differs = by (same_key key other) refl
  where
    by : (b : Bool) → same_key key other ≡ b → b ≡ false
    by true e = absurd (differs (sym (key_is key other e)))
    by false e = refl

still_in : (key : Key) (keys : List Key) (other : Key) → other ≢ key → has_key (without_key key keys) other ≡ has_key keys other
still_in key keys other differs = any_kept (same_key other) (λ k. not (same_key key k)) true
    (λ k same. ap (λ k. not (same_key key k)) (sym (key_is other k same)) ∙ ap not (other_key key other differs)) keys ∙ and-true (has_key keys other)

pub taken_out : (key : Key) (keys : List Key) → IsTakenOut key keys (without_key key keys)
taken_out key keys = record {
  gone = left_out key keys;
  others = still_in key keys;
  in_order = filter_in_order (λ other. not (same_key key other)) keys;
}
