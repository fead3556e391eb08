-- What a report writes, in a namespace that is there.
use Rattle.std.specs.Prelude.{◌≡◌, ◌+◌, ◌<◌, ◌^◌, ◌&&◌, Bool, true, false, if◌then◌else◌, Option, Some, None}
use Rattle.std.proofs.Common.{refl, ap, sym, subst, ◌∙◌}
use Rattle.std.specs.Option.{option_map_or}
use Rattle.std.specs.FinMap.{get}
use Rattle.ns_types.specs.declared.allocation.Allocation.{Allocation}
use Rattle.ns_types.specs.declared.evaluation.Evaluation.{Evaluation}
use Rattle.ns_types.specs.declared.evaluation.Trigger.TheVariants as Trigger
use Rattle.ns_types.specs.declared.job.JobKind.TheVariants as JobKind
use Rattle.ns_types.specs.declared.step.Report.{Report}
use Rattle.ns_types.specs.Asking.Nodes.{calls_for_one, reported}
use Rattle.ns_types.specs.Settling.Making.{change_tenant, evaluation_for, evaluation_of, make, make_in}
use Rattle.ns_types.specs.Settling.Making.{new_evaluation, put_tenant, with_client, with_evaluation}
use Rattle.ns_types.specs.State.Rows.{World, Tenant}
use Rattle.ns_types.specs.Working.Queue.{queue}
use Rattle.ns_types.proofs.Bounds.{within_bound}
use Rattle.ns_types.proofs.Lists.{not_both}
use Rattle.ns_types.proofs.Named.{names, one_name}
use Rattle.ns_types.proofs.TableRows.{get_put}
use Rattle.ns_types.proofs.Tests.{same_Some}
use Rattle.ns_change.specs.Changed.{HasEvaluationLeft, put_allocation}
use Rattle.ns_counters.specs.Bounds.{is_at_bound}
use Rattle.ns_jobs.specs.Reporting.{number_passes}
use Rattle.ns_types.proofs.Gone.{insert_twice}

module _ (w : World) (r : Report) (t : Tenant) (at : get w.tenants r.namespace ≡ Some t) (a : Allocation) where
  abbrev after : Tenant
  after = with_client r.number r.client t

  abbrev marked : World
  marked = change_tenant r.namespace (with_client r.number r.client) w

  abbrev evaluation : Tenant → Evaluation
  evaluation t = evaluation_for t a Trigger.AllocFailure

  marked_is : marked ≡ put_tenant r.namespace after w
  marked_is = ap (λ o. option_map_or (λ t. put_tenant r.namespace (with_client r.number r.client t) w) o w) at

  after_at : get marked.tenants r.namespace ≡ Some after
  after_at = ap (λ x. get x.tenants r.namespace) marked_is ∙ get_put names one_name w.tenants r.namespace after

  reported_if : reported r a w ≡ (if calls_for_one t a r.client then make r.namespace evaluation marked else marked)
  reported_if = ap (λ o. if option_map_or (λ t. calls_for_one t a r.client) o false then make r.namespace evaluation marked else marked) at

  -- ---- it calls for no evaluation

  pub marked_alone : calls_for_one t a r.client ≡ false → marked ≡ reported r a w
  marked_alone calls = sym (reported_if ∙ ap (λ b. if b then make r.namespace evaluation marked else marked) calls)

  -- ---- it calls for one

  -- jobs and numbers stay, so that it is the evaluation as of before, under the number that came next
  jobs_stay : after.jobs ≡ t.jobs
  jobs_stay = by (get t.allocations r.number)
    where
      by : (o : Option Allocation) → (option_map_or (λ a. put_allocation r.number (record a { client = r.client }) t) o t).jobs ≡ t.jobs
      by None = refl
      by (Some a) = refl

  number_stays : after.evaluation_number ≡ t.evaluation_number
  number_stays = by (get t.allocations r.number)
    where
      by : (o : Option Allocation) → (option_map_or (λ a. put_allocation r.number (record a { client = r.client }) t) o t).evaluation_number
          ≡ t.evaluation_number
      by None = refl
      by (Some a) = refl

  evaluation_stays : evaluation after ≡ evaluation t
  evaluation_stays = ap (λ jobs. option_map_or (λ job. evaluation_of a.job job.document Trigger.AllocFailure) (get jobs a.job)
      (new_evaluation a.job JobKind.Service a.priority a.pool Trigger.AllocFailure)) jobs_stay

  pub marked_made : calls_for_one t a r.client ≡ true → make r.namespace (λ _. evaluation t) marked ≡ reported r a w
  marked_made calls = ap (λ o. option_map_or (make_in r.namespace (evaluation t) marked) o marked) after_at
      ∙ ap (λ e. make_in r.namespace e marked after) (sym evaluation_stays)
      ∙ sym (reported_if ∙ ap (λ b. if b then make r.namespace evaluation marked else marked) calls
      ∙ ap (λ o. option_map_or (λ t. make_in r.namespace (evaluation t) marked t) o marked) after_at)

  pub left_there : calls_for_one t a r.client ≡ true → number_passes t a r.client ≡ false → HasEvaluationLeft marked r.namespace
  left_there calls fits z is = subst (λ n. n + 1 < 2 ^ 64) (sym number_stays ∙ ap (λ t. t.evaluation_number) (same_Some _ _ (sym after_at ∙ is)))
      (within_bound (t.evaluation_number + 1) (by (is_at_bound t.evaluation_number) calls fits))
    where
      by : (past : Bool) → calls_for_one t a r.client ≡ true → (past && calls_for_one t a r.client) ≡ false → past ≡ false
      by true calls fits = not_both calls fits
      by false calls fits = refl

  -- ---- of a row that is there

  module _ (there : get t.allocations r.number ≡ Some a) where
    abbrev row : Allocation
    row = record a { client = r.client }

    after_is : after ≡ put_allocation r.number row t
    after_is = ap (λ o. option_map_or (λ a. put_allocation r.number (record a { client = r.client }) t) o t) there

    pub reported_alone : calls_for_one t a r.client ≡ false → reported r a w ≡ put_tenant r.namespace (put_allocation r.number row t) w
    reported_alone calls = sym (marked_alone calls) ∙ marked_is ∙ ap (λ t. put_tenant r.namespace t w) after_is

    pub reported_made : calls_for_one t a r.client ≡ true →
        reported r a w ≡ make_in r.namespace (evaluation t) w (put_allocation r.number row t)
    reported_made calls = sym (marked_made calls)
        ∙ ap (λ o. option_map_or (make_in r.namespace (evaluation t) marked) o marked) after_at
        ∙ (λ i. make_in r.namespace (evaluation t) (marked_is i) after)
        ∙ ap (λ m. queue (record w { tenants = m }) (r.namespace, after.evaluation_number + 1))
        (insert_twice names one_name w.tenants r.namespace after (with_evaluation (evaluation t) after))
        ∙ ap (make_in r.namespace (evaluation t) w) after_is
