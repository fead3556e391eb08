-- The stamps of a namespace ask its changed rows alone.
use Rattle.std.specs.Prelude.{◌≡◌, ◌+◌, Bool, true, false, cond, if◌then◌else◌, List, [], ◌∷◌, ◌++◌, map, Option, Some, ◌||◌, option_map, is_some, filter}
use Rattle.std.specs.Prelude.{unwrap_or}
use Rattle.std.proofs.Common.{refl, sym, ap, ◌∙◌}
use Rattle.std.specs.Ordering.{nat_cmp}
use Rattle.ns_types.specs.State.Lists.{Each}
use Rattle.std.specs.FinMap.{entries, get, keys, from_entries}
use Rattle.keyed.specs.Table.{at_slot}
use Rattle.keyed.proofs.Tables.{map-at_slot}
use Rattle.ns_types.specs.declared.event.Topic.TheVariants as Topic
use Rattle.ns_types.specs.declared.job.Job.{Job}
use Rattle.ns_types.specs.State.Lists.{last}
use Rattle.ns_types.specs.State.Names.{Name}
use Rattle.ns_types.specs.State.Rows.{Tenant}
use Rattle.ns_types.specs.Settling.Settle.{is_touched, changes_job, changes_evaluation, changes_allocation, stamped_evaluation, stamped_allocation}
use Rattle.ns_types.specs.Settling.Settle.{stamp_tenant, stamped, job_ids, job_topic, topics_of}
use Rattle.ns_types.specs.State.Tables.{map_rows}
use Rattle.ns_types.proofs.Lists.{not_both}
use Rattle.ns_types.proofs.Named.{names, one_name, numbers, one_number}
use Rattle.ns_types.proofs.Tables.{each_row}
use Rattle.ns_types.proofs.TableRows.{get_joined}
use Rattle.ns_types.proofs.Settling.{kept_evaluation, kept_allocation}
use Rattle.ns_change.specs.declared.change.TenantChange.{TenantChange}
use Rattle.ns_change.specs.Changed.{changed_tenant}
use Rattle.keyed.specs.Over.{over}
use Rattle.ns_release.specs.Shown.{changes_job_row}
use Rattle.ns_release.proofs.Touched.{allocations_idle, changes_at, evaluations_idle, in_change, jobs_touched, was_or_is}
use Rattle.ns_settlement.specs.Stamped.{touches, row_topic, changed_topics, stamped_tenant}
use Rattle.keyed.proofs.Over.{get-over, filter-over, any_row-over, map_rows-over, same_chosen}

left_out : {A : Type 0} (b : Bool) (x y : A) → b ≡ false → cond b x y ≡ y
left_out true x y e = not_both refl e
left_out false x y e = refl

-- the events of the keys of a table, by its rows
keys_events : {K X Y : Type 0} (p : K → Bool) (q : K → X → Bool) (f : K → Y) (g : K → X → Y) (es : List (K × X)) →
    Each (λ e. (p e.0 ≡ q e.0 e.1) × (f e.0 ≡ g e.0 e.1)) es
    → map f (filter p (map (λ e. e.0) es)) ≡ map (λ e. g e.0 e.1) (filter (λ e. q e.0 e.1) es)
keys_events p q f g [] h = refl
keys_events p q f g (e ∷ es) h = ap (λ b. map f (cond b (e.0 ∷ filter p (map (λ e. e.0) es)) (filter p (map (λ e. e.0) es)))) h.0.0
    ∙ elim (q e.0 e.1) as (λ b. map f (cond b (e.0 ∷ filter p (map (λ e. e.0) es)) (filter p (map (λ e. e.0) es))) ≡ map (λ e. g e.0 e.1)
    (cond b (e ∷ filter (λ e. q e.0 e.1) es) (filter (λ e. q e.0 e.1) es))) [
      | true ↦ λ i. h.0.1 i ∷ keys_events p q f g es h.1 i
      | false ↦ keys_events p q f g es h.1
    ]

module _ (t : Tenant) (x : TenantChange) where
  abbrev after : Tenant
  after = changed_tenant t x

  -- ---- evaluations and allocations

  evaluation_events : map (λ e. Topic.EvaluationUpdated e.0) (filter (λ e. changes_evaluation t e.0 e.1) (entries (over t.evaluations x.evaluations)))
      ≡ map (λ e. Topic.EvaluationUpdated e.0) (filter (at_slot (λ e. changes_evaluation t e.0 e.1)) (entries x.evaluations))
  evaluation_events = ap (map (λ e. Topic.EvaluationUpdated e.0))
      (filter-over numbers one_number (changes_evaluation t) t.evaluations x.evaluations (evaluations_idle t x))
      ∙ sym (map-at_slot nat_cmp (λ e. changes_evaluation t e.0 e.1) (λ n. Topic.EvaluationUpdated n) (entries x.evaluations))

  allocation_events : map (λ a. Topic.AllocationUpdated a.0) (filter (λ a. changes_allocation t a.0 a.1) (entries (over t.allocations x.allocations)))
      ≡ map (λ e. Topic.AllocationUpdated e.0) (filter (at_slot (λ e. changes_allocation t e.0 e.1)) (entries x.allocations))
  allocation_events = ap (map (λ e. Topic.AllocationUpdated e.0))
      (filter-over numbers one_number (changes_allocation t) t.allocations x.allocations (allocations_idle t x))
      ∙ sym (map-at_slot nat_cmp (λ e. changes_allocation t e.0 e.1) (λ n. Topic.AllocationUpdated n) (entries x.allocations))

  evaluations_stamped : map_rows (stamped_evaluation (t.index + 1) t) (over t.evaluations x.evaluations)
      ≡ over t.evaluations (map_rows (λ n row. option_map (stamped_evaluation (t.index + 1) t n) row) x.evaluations)
  evaluations_stamped = map_rows-over numbers one_number (stamped_evaluation (t.index + 1) t) t.evaluations x.evaluations
      (λ n e is _. left_out (changes_evaluation t n e) _ e (kept_evaluation t n e is))

  allocations_stamped : map_rows (stamped_allocation (t.index + 1) t) (over t.allocations x.allocations)
      ≡ over t.allocations (map_rows (λ n row. option_map (stamped_allocation (t.index + 1) t n) row) x.allocations)
  allocations_stamped = map_rows-over numbers one_number (stamped_allocation (t.index + 1) t) t.allocations x.allocations
      (λ n a is _. left_out (changes_allocation t n a) _ a (kept_allocation t n a is))

  -- ---- jobs

  jobs_chosen : filter (changes_job t after) (job_ids t after) ≡ filter (changes_job t after) (keys x.jobs)
  jobs_chosen = same_chosen names one_name (changes_job t after) (from_entries (entries t.jobs ++ entries (over t.jobs x.jobs))) x.jobs
      (λ id e. ap is_some (get_joined names t.jobs (over t.jobs x.jobs) id) ∙ was_or_is t x id e ∙ sym (in_change t x id e))

  topic_at : (id : Name) (row : Option Job) → get x.jobs id ≡ Some row → job_topic after id ≡ row_topic id row
  topic_at id row is = ap (row_topic id) (get-over names one_name t.jobs x.jobs id ∙ ap (λ r. unwrap_or r (get t.jobs id)) is)

  job_events : map (job_topic after) (filter (changes_job t after) (job_ids t after)) ≡ map (λ e. row_topic e.0 e.1)
      (filter (λ e. changes_job_row t e.0 e.1) (entries x.jobs))
  job_events = ap (map (job_topic after)) jobs_chosen ∙ keys_events (changes_job t after) (changes_job_row t) (job_topic after) row_topic (entries x.jobs)
      (each_row names one_name (λ id row. (changes_job t after id ≡ changes_job_row t id row) × (job_topic after id ≡ row_topic id row)) x.jobs
      (λ id row is. (changes_at t x id row is, topic_at id row is)))

  topics_are : topics_of t after ≡ changed_topics t x
  topics_are = λ i. job_events i ++ evaluation_events i ++ allocation_events i

  -- ---- the whole

  touched_is : is_touched t after ≡ touches t x
  touched_is = (λ i. jobs_touched t x i
      || any_row-over numbers one_number (changes_evaluation t) t.evaluations x.evaluations (evaluations_idle t x) i
      || any_row-over numbers one_number (changes_allocation t) t.allocations x.allocations (allocations_idle t x) i)

  pub stamped_is : stamp_tenant (Some t) after ≡ stamped_tenant t x
  unfolding stamp_tenant stamped_tenant
  stamped_is = ap (λ b. if b then stamped (t.index + 1) t after else after) touched_is
      ∙ (λ i. if touches t x then (record after {
        index = t.index + 1;
        evaluations = evaluations_stamped i;
        allocations = allocations_stamped i;
        events = last 100 (t.events ++ map (λ topic. record { index = t.index + 1; topic = topic }) (topics_are i));
      }) else after)
