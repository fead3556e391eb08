-- What is asked in a namespace keeps records sound.
use Rattle.std.specs.Prelude.{◌≡◌, ℕ, ◌+◌, ◌≤◌, Bool, true, false, cond, not, Option, Some, None, ◌&&◌, IsTrue, unwrap_or}
use Rattle.std.proofs.Common.{◌⊎◌, inl, inr, refl, sym, ap, subst, arith}
use Rattle.std.proofs.Math.Nat.{le_trans}
use Rattle.std.specs.FinMap.{get, contains_key, insert, remove, len}
use Rattle.std.specs.Option.{option_map_or}
use Rattle.ns_types.specs.declared.allocation.DesiredStatus.TheVariants as DesiredStatus
use Rattle.ns_types.specs.declared.evaluation.Trigger.TheVariants as Trigger
use Rattle.ns_types.specs.declared.job.Job.{Job}
use Rattle.ns_types.specs.declared.job.Registration.{Registration}
use Rattle.ns_types.specs.declared.name.NameKind.TheVariants as NameKind
use Rattle.ns_types.specs.declared.records.Namespace.{Namespace}
use Rattle.ns_types.specs.declared.refusal.Refusal.TheVariants as Refusal
use Rattle.ns_types.specs.declared.reply.Content.TheVariants as Content
use Rattle.ns_types.specs.declared.step.AskCommand.{AskCommand}
use Rattle.ns_types.specs.Asking.Asks.{first_refusal, has_no_room, most_jobs, pool_of, document_of, registered_job, registered_with, register, stopped_job}
use Rattle.ns_types.specs.Asking.Asks.{deregistered, deregister_job, asked_in, ask}
use Rattle.ns_types.specs.State.Limits.{is_between, is_good_document, is_good_namespace, is_good_registration, is_pool_name, is_text}
use Rattle.ns_types.specs.Settling.Making.{with_job, with_desired, evaluation_of, evaluation_for}
use Rattle.ns_types.specs.State.Name.{is_name}
use Rattle.ns_types.specs.State.Names.{Name, ByName}
use Rattle.ns_types.specs.Settling.Outcome.{Refused, Done}
use Rattle.ns_types.specs.State.Rows.{World, Tenant, is_live}
use Rattle.ns_types.specs.Settling.Same.{same_document}
use Rattle.ns_types.specs.State.Sums.{names_quota, quota_use}
use Rattle.ns_types.specs.Asking.Good.{is_good_ask}
use Rattle.ns_types.proofs.Lists.{not_both}
use Rattle.ns_types.proofs.Named.{names, one_name, first_of_both, second_of_both}
use Rattle.ns_types.proofs.Registrations.{accepted}
use Rattle.ns_types.proofs.Tests.{same_Some}
use Rattle.ns_types.proofs.TableRows.{row_of_insert, row_of_remove}
use Rattle.ns_audit.proofs.Steady.Keeping.{more}
use Rattle.ns_types.proofs.Leads.{Leads, leads_unless, leads_refused, leads_found, leads_if}
use Rattle.ns_audit.proofs.ValidRecords.Tables.{len_put, len_removed, len_room}
use Rattle.ns_audit.proofs.ValidRecords.Sound.{Kept, kept_of, IsGoodJob, IsGoodKept, IsRecorded, IsNearKept, IsNear, near_first}
use Rattle.ns_audit.proofs.ValidRecords.Frames.{kept_desired, near_make_in}

-- ---- limits

-- the default pool of a good namespace has a pool's name
pub default_named : (n : Namespace) → is_good_namespace n ≡ true → is_pool_name n.default_pool ≡ true
default_named n e = by (is_text n.description && option_map_or (is_name NameKind.Quota) n.quota true) (is_pool_name n.default_pool) _ _ _ _ e
  where
    by : (a b c d f g : Bool) → (a && b && c && d && f && g) ≡ true → b ≡ true
    by a b c d f g e = second_of_both a b (first_of_both (a && b) c
        (first_of_both (a && b && c) d (first_of_both (a && b && c && d) f (first_of_both (a && b && c && d && f) g e))))

-- what remains of the tests of a registration once its pool is filled in
filled_in : (n p o q c d g h k : Bool) → (n && p && o && c && d && g && h && k) ≡ true → q ≡ true → (p && q && c && d && g && h && k) ≡ true
filled_in true true true true c d g h k e f = e
filled_in true true true false c d g h k e f = not_both f refl
filled_in true true false q c d g h k e f = not_both e refl
filled_in true false o q c d g h k e f = e
filled_in false p o q c d g h k e f = not_both e refl

-- ---- what is asked

module _ (w : World) (s : IsRecorded w) (ns : Name) (t : Tenant) (is : get w.tenants ns ≡ Some t) where
  its : IsGoodKept (contains_key w.pools) (contains_key w.quotas) ns t.index (kept_of t)
  its = s.tenant ns t is

  abbrev NearHere : Kept → Type 0
  NearHere k = IsNearKept (contains_key w.pools) (contains_key w.quotas) (get w.tenants ns) ns k

  same_here : NearHere (kept_of t)
  same_here = (near_first w s).tenant ns t is

  abbrev GoodHere : Name → Job → Type 0
  GoodHere id j = IsGoodJob (contains_key w.pools) (t.index + 1) id j

  before : (id : Name) (j : Job) → get t.jobs id ≡ Some j → GoodHere id j
  before id j at = let g = its.job id j at in record {
    named = g.named;
    good = g.good;
    exists = g.exists;
    created = more _ _ g.created;
    modified =
        more _ _ g.modified;
    versions = more _ _ g.versions;
  }

  -- with other jobs
  jobs_near : (jobs : ByName Job) → len jobs ≤ most_jobs → ((id : Name) (j : Job) → get jobs id ≡ Some j → GoodHere id j) →
      NearHere (record { namespace = t.namespace; index = t.index; jobs = jobs; events = t.events })
  jobs_near jobs few good = subst (λ o. IsNearKept (contains_key w.pools) (contains_key w.quotas) o ns
      (record { namespace = t.namespace; index = t.index; jobs = jobs; events = t.events })) (sym is) (record {
        good = record {
          named = its.named;
          namespace = its.namespace;
          few_jobs = few;
          job = good;
          few_events = its.few_events;
          events_below =
              its.events_below;
        };
        same_index = λ o e. ap (λ (t : Tenant). t.index) (same_Some _ _ e);
      })

  with_job_near : (id : Name) (job : Job) → len (insert t.jobs id job) ≤ most_jobs → GoodHere id job → NearHere (kept_of (with_job id job t))
  with_job_near id job few good = jobs_near (insert t.jobs id job) few (λ k j at. by k j (row_of_insert names one_name t.jobs id job k j at))
    where
      by : (k : Name) (j : Job) → ((k ≡ id) × (job ≡ j)) ⊎ (get t.jobs k ≡ Some j) → GoodHere k j
      by k j (inl e) = subst (GoodHere k) e.1 (subst (λ k. GoodHere k job) (sym e.0) good)
      by k j (inr at) = before k j at

  next_one : t.index + 1 ≤ t.index + 1
  next_one = omega arith

  -- the pool of a registration has a pool's name
  pool_named : (r : Registration) → is_good_registration r ≡ true → is_pool_name (pool_of t r) ≡ true
  pool_named r e = by r.pool (its_pool (is_name NameKind.Job r.id) (is_between 1 100 r.priority) _ _ _ _ _ _ e)
    where
      its_pool : (n p o c d g h k : Bool) → (n && p && o && c && d && g && h && k) ≡ true → o ≡ true
      its_pool n p o c d g h k e = second_of_both (n && p) o
          (first_of_both (n && p && o) c (first_of_both (n && p && o && c) d
          (first_of_both (n && p && o && c && d) g (first_of_both (n && p && o && c && d && g) h (first_of_both (n && p && o && c && d && g && h) k e)))))

      by : (o : Option Name) → option_map_or is_pool_name o true ≡ true → is_pool_name (unwrap_or o t.namespace.default_pool) ≡ true
      by None e = default_named t.namespace its.namespace.good
      by (Some p) e = e

  document_good : (r : Registration) → is_good_registration r ≡ true → is_good_document (document_of t r) ≡ true
  document_good r e = filled_in (is_name NameKind.Job r.id) (is_between 1 100 r.priority) (option_map_or is_pool_name r.pool true) (is_pool_name (pool_of t r))
      _ _ _ _ _ e (pool_named r e)

  id_named : (r : Registration) → is_good_registration r ≡ true → is_name NameKind.Job r.id ≡ true
  id_named r e = by (is_name NameKind.Job r.id) _ _ _ _ _ _ _ e
    where
      by : (n p o c d g h k : Bool) → (n && p && o && c && d && g && h && k) ≡ true → n ≡ true
      by n p o c d g h k e = first_of_both n p (first_of_both (n && p) o
          (first_of_both (n && p && o) c (first_of_both (n && p && o && c) d
          (first_of_both (n && p && o && c && d) g (first_of_both (n && p && o && c && d && g) h (first_of_both (n && p && o && c && d && g && h) k e))))))

  registered_good : (r : Registration) → is_good_registration r ≡ true → contains_key w.pools (pool_of t r) ≡ true → (o : Option Job) → get t.jobs r.id ≡ o →
      GoodHere r.id (registered_job (t.index + 1) (document_of t r) o)
  registered_good r e there None at = record {
    named = id_named r e;
    good = document_good r e;
    exists = there;
    created = next_one;
    modified =
        next_one;
    versions = omega arith;
  }
  registered_good r e there (Some j) at = elim (same_document (document_of t r) j.document && not j.stop) as
      (λ b. GoodHere r.id (cond b j (record {
        document = document_of t r;
        stop = false;
        version = j.version + 1;
        create_index = j.create_index;
        modify_index =
            t.index + 1;
      }))) [
        | true ↦ before r.id j at
        | false ↦ let g = its.job r.id j at in record {
          named = g.named;
          good = document_good r e;
          exists = there;
          created = more _ _ g.created;
          modified =
              next_one;
          versions = up _ _ g.versions;
        }
      ]
    where
      up : (a b : ℕ) → a ≤ b → a + 1 ≤ b + 1
      up a b h = omega arith

  near_world : IsNear w w
  near_world = near_first w s

  registration_near : (r : Registration) → is_good_registration r ≡ true → Leads (IsNear w) (register ns r w t)
  registration_near r good = leads_refused (IsNear w) (first_refusal w t r) _ (λ none. let it = accepted w t r none in
      by (registered_job (t.index + 1) (document_of t r) (get t.jobs r.id)) it.room (registered_good r good it.pool (get t.jobs r.id) refl))
    where
      by : (job : Job) → has_no_room r t ≡ false → GoodHere r.id job →
          Leads (IsNear w) (registered_with ns r w t job)
      by job room g = near_make_in w w near_world ns (evaluation_of r.id job.document Trigger.JobRegister) t (with_job r.id job t) is
          (with_job_near r.id job (len_room t.jobs r.id job most_jobs its.few_jobs room) g)

  deregistered_near : (purge : Bool) (id : Name) (job : Job) → get t.jobs id ≡ Some job → NearHere (kept_of (deregistered purge id job t))
  deregistered_near true id job at = jobs_near (remove t.jobs id) (le_trans (len_removed t.jobs id) its.few_jobs)
      (λ k j has. before k j (row_of_remove t.jobs id k j has))
  deregistered_near false id job at = with_job_near id (stopped_job (t.index + 1) job)
      (subst (λ n. n ≤ most_jobs) (sym (len_put t.jobs id (stopped_job (t.index + 1) job) job at)) its.few_jobs)
      (elim job.stop as (λ b. GoodHere id (cond b job (record job { stop = true; modify_index = t.index + 1 }))) [
        | true ↦ before id job at
        | false ↦ let g = before id job at in record {
          named = g.named;
          good = g.good;
          exists = g.exists;
          created = g.created;
          modified = next_one;
          versions =
              g.versions;
        }
      ])

  asked_near : (command : AskCommand) → IsTrue (is_good_ask command) → Leads (IsNear w) (asked_in ns command w t)
  asked_near (AskCommand.ListJobs prefix) good = near_world
  asked_near (AskCommand.Register r) good = registration_near r good
  asked_near (AskCommand.ReadJob id) good = leads_found (IsNear w) (get t.jobs id) _ (λ job _. near_world)
  asked_near (AskCommand.Deregister id purge) good = leads_found (IsNear w) (get t.jobs id) (deregister_job ns id purge w t) (λ job at.
      near_make_in w w near_world ns (evaluation_of id job.document Trigger.JobDeregister) t (deregistered purge id job t) is
      (deregistered_near purge id job at))
  asked_near (AskCommand.JobAllocations id) good = near_world
  asked_near (AskCommand.JobEvaluations id) good = near_world
  asked_near (AskCommand.ListEvaluations prefix) good = near_world
  asked_near (AskCommand.ReadEvaluation n) good = leads_found (IsNear w) (get t.evaluations n) _ (λ e _. near_world)
  asked_near (AskCommand.ListAllocations prefix) good = near_world
  asked_near (AskCommand.ReadAllocation n) good = leads_found (IsNear w) (get t.allocations n) _ (λ a _. near_world)
  asked_near (AskCommand.StopAllocation n) good =
      leads_found (IsNear w) (get t.allocations n) _ (λ a at. leads_unless (IsNear w) (not (is_live a)) Refusal.Conflict _ (λ _.
      near_make_in w w near_world ns (evaluation_for t a Trigger.AllocStop) t (with_desired n DesiredStatus.Stop t) is
      (subst NearHere (sym (kept_desired n DesiredStatus.Stop t)) same_here)))
  asked_near AskCommand.ReadNamespace good = near_world
  asked_near (AskCommand.QuotaUsage quota) good = leads_if (IsNear w) (names_quota quota t.namespace) (Done (Content.Usage quota (quota_use w quota)) w)
      (Refused Refusal.NotFound) (λ _. near_world) (λ _. tt)
  asked_near (AskCommand.Events index) good = near_world

pub ask_near : (w : World) → IsRecorded w → (ns : Name) (command : AskCommand) → IsTrue (is_good_ask command) → Leads (IsNear w) (ask ns command w)
unfolding ask
ask_near w s ns command good = leads_found (IsNear w) (get w.tenants ns) (asked_in ns command w) (λ t is. asked_near w s ns t is command good)
