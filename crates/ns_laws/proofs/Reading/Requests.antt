-- What reads in a namespace show: its jobs, evaluations, allocations and events, its record, and the use of a quota.
use Rattle.std.specs.Prelude.{◌≡◌, ℕ, Bool, true, false, cond, ◌&&◌, Option, Some, None, filter, map}
use Rattle.std.specs.Prelude.{nat_le, nat_eq, drop, length}
use Rattle.std.proofs.Common.{refl, sym, ap, ◌∙◌}
use Rattle.std.specs.FinMap.{get, entries}
use Rattle.std.specs.Option.{option_map_or}
use Rattle.std.proofs.lemmas.Bool.{leb-true, le-leb}
use Rattle.std.proofs.lemmas.Bool.Decides.{Decides-eqb}
use Rattle.std.proofs.lemmas.Slice.Eq.{starts_is}
use Rattle.ns_types.specs.declared.allocation.Allocation.{Allocation}
use Rattle.ns_types.specs.declared.evaluation.Evaluation.{Evaluation}
use Rattle.ns_types.specs.declared.event.Event.{Event}
use Rattle.ns_types.specs.declared.id.IdKind.TheVariants as IdKind
use Rattle.ns_types.specs.declared.job.Job.{Job}
use Rattle.ns_types.specs.declared.reply.AllocationShown.{AllocationShown}
use Rattle.ns_types.specs.declared.reply.Content.{Content}
use Rattle.ns_types.specs.declared.reply.EvaluationShown.{EvaluationShown}
use Rattle.ns_types.specs.declared.reply.JobShown.{JobShown}
use Rattle.ns_types.specs.declared.reply.JobStatus.{JobStatus}
use Rattle.ns_types.specs.declared.step.AskCommand.{AskCommand}
use Rattle.ns_types.specs.Asking.Reads.{job_shown, job_status}
use Rattle.ns_types.specs.State.Id.{id_text}
use Rattle.ns_types.specs.State.Names.{Name, same_name, begins_with}
use Rattle.ns_types.specs.State.Rows.{Tenant, is_live}
use Rattle.ns_types.specs.State.Sums.{names_quota}
use Rattle.ns_types.specs.State.Tables.{any_row}
use Rattle.ns_types.proofs.Elements.{each_kept}
use Rattle.ns_types.proofs.Lists.{not_both, each, each_map}
use Rattle.ns_types.proofs.Named.{names, one_name, numbers, one_number, same_name_is, same_name_refl, first_of_both, second_of_both}
use Rattle.ns_types.proofs.Tables.{each_row, none_of_any}
use Rattle.ns_laws.specs.Reads as law
use Rattle.ns_laws.specs.Reads.{BeginsWith, HasLive, HasJobStatus}
use Rattle.ns_laws.proofs.Elements.{filter_in_order, contains_from, filter_has, has_from, any_has, each_has}
use Rattle.ns_laws.proofs.Effect.Rows.{does_found, does_if}
use Rattle.ns_laws.proofs.Reading.Shown.{asked_shows, shows_one, shows_passing, shows_rows}
use Rattle.ns_laws.proofs.Reading.Use.{use_is}

-- ---- jobs

begins : (prefix name : Name) → begins_with prefix name ≡ true → BeginsWith prefix name
begins prefix name e = (drop (length prefix) name, (starts_is {E = nat_eq} (λ a b. Decides-eqb a b) name prefix (begins_with prefix name) refl).0 e)

begins_so : (prefix name : Name) → BeginsWith prefix name → begins_with prefix name ≡ true
begins_so prefix name h = (starts_is {E = nat_eq} (λ a b. Decides-eqb a b) name prefix (begins_with prefix name) refl).1 h.0 h.1

module _ (t : Tenant) (id : Name) where
  is_its_live : ℕ → Allocation → Bool
  is_its_live n a = same_name id a.job && is_live a

  has_live : any_row is_its_live t.allocations ≡ true → HasLive t id
  unfolding any_row is_its_live
  has_live e =
      let found = any_has (λ x. is_its_live x.0 x.1) (entries t.allocations) e in record {
        number = found.0.0;
        row = found.0.1;
        is_row = each_has (λ x. get t.allocations x.0 ≡ Some x.1) (entries t.allocations) found.0 found.1
            (each_row numbers one_number (λ n a. get t.allocations n ≡ Some a) t.allocations (λ n a at. at));
        is_its = sym (same_name_is id found.0.1.job (first_of_both _ _ found.2));
        lives = second_of_both (same_name id found.0.1.job) _ found.2;
      }

  has_none : any_row is_its_live t.allocations ≡ false → HasLive t id → ⊥
  unfolding is_its_live
  has_none e h = not_both (ap (λ b. b && is_live h.row) (ap (same_name id) h.is_its ∙ same_name_refl id) ∙ h.lives)
      (none_of_any one_number is_its_live t.allocations h.number h.row e h.is_row)

  has_status : (job : Job) → HasJobStatus t id job (job_status t id job)
  unfolding is_its_live
  has_status job = by job.stop (any_row is_its_live t.allocations) refl refl
    where
      by : (b c : Bool) → job.stop ≡ b → any_row is_its_live t.allocations ≡ c →
          HasJobStatus t id job (cond b JobStatus.Dead (cond c JobStatus.Running JobStatus.Pending))
      by true c e f = e
      by false true e f = (e, has_live f)
      by false false e f = (e, has_none f)

pub job_is_shown : law.JobIsShown
job_is_shown ns secret id s s' reply e = asked_shows ns secret (AskCommand.ReadJob id) s s' reply _ (λ t. does_found _ (get t.jobs id) _
    (λ job at. (refl, shows_one job (job_shown ns t id job) at refl (record { namespace = refl; row = refl; status = has_status t id job })))) e

pub jobs_are_listed : law.JobsAreListed
jobs_are_listed ns secret prefix s s' reply e = asked_shows ns secret (AskCommand.ListJobs prefix) s s' reply _
    (λ t. (
      refl,
      shows_rows names one_name t.jobs (λ e. begins_with prefix e.0) (λ e. job_shown ns t e.0 e.1) _ (λ (shown : JobShown). shown.id) _ Content.Jobs
          (λ id job. refl) (λ id job. begins prefix id) (λ id job. begins_so prefix id)
          (λ id job. record { namespace = refl; row = refl; status = has_status t id job }),
    )) e

-- ---- evaluations

pub evaluation_is_shown : law.EvaluationIsShown
evaluation_is_shown ns secret n s s' reply e = asked_shows ns secret (AskCommand.ReadEvaluation n) s s' reply _ (λ t. does_found _ (get t.evaluations n) _
    (λ e at. (refl, shows_one e (record { namespace = ns; number = n; row = e }) at refl (record { namespace = refl; row = refl })))) e

module _ (ns : Name) (t : Tenant) (passes : EvaluationShown → Bool) (Passes : ℕ → Evaluation → Type 0) where
  abbrev shown_evaluation : ℕ × Evaluation → EvaluationShown
  shown_evaluation e = record { namespace = ns; number = e.0; row = e.1 }

  evaluations_listed : ((n : ℕ) (e : Evaluation) → passes (shown_evaluation (n, e)) ≡ true → Passes n e) →
      ((n : ℕ) (e : Evaluation) → Passes n e → passes (shown_evaluation (n, e)) ≡ true) →
      law.ListsEvaluations ns Passes t (Content.Evaluations (filter passes (map shown_evaluation (entries t.evaluations))))
  evaluations_listed to from = shows_passing numbers one_number t.evaluations shown_evaluation (λ (shown : EvaluationShown). shown.number)
      (law.ShowsEvaluation ns) passes Passes Content.Evaluations (λ n e. refl) to from (λ n e. record { namespace = refl; row = refl })

pub evaluations_are_listed : law.EvaluationsAreListed
evaluations_are_listed ns secret prefix s s' reply e = asked_shows ns secret (AskCommand.ListEvaluations prefix) s s' reply _
    (λ t. (
      refl,
      evaluations_listed ns t (λ e. begins_with prefix (id_text IdKind.Evaluation e.number)) _
          (λ n e. begins prefix (id_text IdKind.Evaluation n)) (λ n e. begins_so prefix (id_text IdKind.Evaluation n)),
    )) e

pub job_evaluations_are_listed : law.JobEvaluationsAreListed
job_evaluations_are_listed ns secret id s s' reply e = asked_shows ns secret (AskCommand.JobEvaluations id) s s' reply _
    (λ t. (
      refl,
      evaluations_listed ns t (λ e. same_name id e.row.job) _
          (λ n e is. sym (same_name_is id e.job is)) (λ n e is. ap (same_name id) is ∙ same_name_refl id),
    )) e

-- ---- allocations

pub allocation_is_shown : law.AllocationIsShown
allocation_is_shown ns secret n s s' reply e = asked_shows ns secret (AskCommand.ReadAllocation n) s s' reply _ (λ t. does_found _ (get t.allocations n) _
    (λ a at. (refl, shows_one a (record { namespace = ns; number = n; row = a }) at refl (record { namespace = refl; row = refl })))) e

module _ (ns : Name) (t : Tenant) (passes : AllocationShown → Bool) (Passes : ℕ → Allocation → Type 0) where
  abbrev shown_allocation : ℕ × Allocation → AllocationShown
  shown_allocation a = record { namespace = ns; number = a.0; row = a.1 }

  allocations_listed : ((n : ℕ) (a : Allocation) → passes (shown_allocation (n, a)) ≡ true → Passes n a) →
      ((n : ℕ) (a : Allocation) → Passes n a → passes (shown_allocation (n, a)) ≡ true) →
      law.ListsAllocations ns Passes t (Content.Allocations (filter passes (map shown_allocation (entries t.allocations))))
  allocations_listed to from = shows_passing numbers one_number t.allocations shown_allocation (λ (shown : AllocationShown). shown.number)
      (law.ShowsAllocation ns) passes Passes Content.Allocations (λ n a. refl) to from (λ n a. record { namespace = refl; row = refl })

pub allocations_are_listed : law.AllocationsAreListed
allocations_are_listed ns secret prefix s s' reply e = asked_shows ns secret (AskCommand.ListAllocations prefix) s s' reply _
    (λ t. (
      refl,
      allocations_listed ns t (λ a. begins_with prefix (id_text IdKind.Allocation a.number)) _
          (λ n a. begins prefix (id_text IdKind.Allocation n)) (λ n a. begins_so prefix (id_text IdKind.Allocation n)),
    )) e

pub job_allocations_are_listed : law.JobAllocationsAreListed
job_allocations_are_listed ns secret id s s' reply e = asked_shows ns secret (AskCommand.JobAllocations id) s s' reply _
    (λ t. (
      refl,
      allocations_listed ns t (λ a. same_name id a.row.job) _
          (λ n a is. sym (same_name_is id a.job is)) (λ n a is. ap (same_name id) is ∙ same_name_refl id),
    )) e

-- ---- namespaces, and their events

pub namespace_is_shown : law.NamespaceIsShown
namespace_is_shown ns secret s s' reply e = asked_shows ns secret AskCommand.ReadNamespace s s' reply _ (λ t. (refl, refl)) e

pub events_are_listed : law.EventsAreListed
events_are_listed ns secret index s s' reply e = asked_shows ns secret (AskCommand.Events index) s s' reply (law.ShowsEvents ns index)
    (λ t. (
      refl,
      record {
        shown = filter (λ (event : Event). nat_le index event.index) t.events;
        answered = refl;
        in_order = filter_in_order (λ (event : Event). nat_le index event.index) t.events;
        no_older = each_map (λ event h. leb-true index event.index h.1) (filter (λ (event : Event). nat_le index event.index) t.events)
            (each_kept (λ _. Unit {0}) (λ (event : Event). nat_le index event.index) t.events (each (λ _. Unit {0}) (λ _. tt) t.events));
        all = λ event has new. contains_from _ event (filter_has (λ (event : Event). nat_le index event.index) t.events event
            (has_from t.events event has.0 has.1 has.2) (le-leb index event.index new));
      },
    )) e

-- ---- the use of a quota

names_it : (quota : Name) (own : Option Name) → option_map_or (same_name quota) own false ≡ true → own ≡ Some quota
names_it quota None e = not_both e refl
names_it quota (Some own) e = ap Some (sym (same_name_is quota own e))

pub usage_is_of_live : law.UsageIsOfLive
usage_is_of_live ns secret quota s s' reply e = asked_shows ns secret (AskCommand.QuotaUsage quota) s s' reply _
    (λ t. does_if _ (names_quota quota t.namespace) _ _
    (λ named. (refl, (names_it quota t.namespace.quota named, ap (Content.Usage quota) (use_is s.world quota)))) (λ _. tt)) e
