-- Whether a report of another status passes the bound of a counter.
use Rattle.std.specs.Prelude.{◌≡◌, Bool, true, false, not, ◌&&◌, ◌||◌, Some}
use Rattle.std.proofs.Common.{refl, ap, sym, ◌∙◌}
use Rattle.std.proofs.lemmas.Bool.{and_right}
use Rattle.std.specs.FinMap.{get}
use Rattle.ns_types.specs.declared.allocation.Allocation.{Allocation}
use Rattle.ns_types.specs.declared.evaluation.Trigger.TheVariants as Trigger
use Rattle.ns_types.specs.declared.step.Report.{Report}
use Rattle.ns_types.specs.Asking.Nodes.{calls_for_one, reported, same_client}
use Rattle.ns_types.specs.Settling.Making.{evaluation_for}
use Rattle.ns_types.specs.Settling.Same.{same_allocation}
use Rattle.ns_types.specs.Settling.Settle.{settle}
use Rattle.ns_types.specs.State.Rows.{World, Tenant, is_held, is_live, is_run}
use Rattle.ns_types.specs.Steps.{is_past_bound}
use Rattle.ns_counters.specs.Bounds.{is_at_bound}
use Rattle.ns_jobs.specs.Ending.{ending_passes}
use Rattle.ns_jobs.proofs.Releasing.{row_made_past, row_put_past}
use Rattle.ns_jobs.specs.Reporting.{ends, report_passes}
use Rattle.ns_jobs.proofs.Written.{reported_alone, reported_made}

module _ (w : World) (r : Report) (t : Tenant) (at : get w.tenants r.namespace ≡ Some t) (a : Allocation)
    (there : get t.allocations r.number ≡ Some a) (other : same_client a.client r.client ≡ false) (within : is_past_bound w ≡ false) where
  abbrev row : Allocation
  row = record a { client = r.client }

  shown : same_allocation a row ≡ false
  unfolding same_allocation
  shown = and_right _ (same_client a.client r.client) other

  ends_are : (is_live a && not (is_live row)) ≡ ends a r.client
  ends_are = by (is_run a.desired)
    where
      by : (runs : Bool) → ((runs && is_held a.client) && not (runs && is_held r.client)) ≡ ((runs && is_held a.client) && not (is_held r.client))
      by true = refl
      by false = refl

  pub reported_past : is_past_bound (settle w (reported r a w)) ≡ report_passes w t a r.client
  reported_past = by (calls_for_one t a r.client) refl
    where
      past : (calls : Bool) → calls_for_one t a r.client ≡ calls →
          ((is_at_bound t.index || (is_at_bound t.evaluation_number && calls)) || ((is_live a && not (is_live row)) && ending_passes w t a))
          ≡ report_passes w t a r.client
      past calls is = λ i. (is_at_bound t.index || (is_at_bound t.evaluation_number && sym is i)) || (ends_are i && ending_passes w t a)

      all : (b : Bool) → b ≡ (b && true)
      all true = refl
      all false = refl

      none : (a b : Bool) → a ≡ (a || (b && false))
      none true b = refl
      none false true = refl
      none false false = refl

      by : (calls : Bool) → calls_for_one t a r.client ≡ calls → is_past_bound (settle w (reported r a w)) ≡ report_passes w t a r.client
      by true calls = ap (λ x. is_past_bound (settle w x)) (reported_made w r t at a there calls)
          ∙ row_made_past w r.namespace t at r.number a row there shown within (evaluation_for t a Trigger.AllocFailure)
          ∙ ap (λ b. (is_at_bound t.index || b) || ((is_live a && not (is_live row)) && ending_passes w t a)) (all (is_at_bound t.evaluation_number))
          ∙ past true calls
      by false calls = ap (λ x. is_past_bound (settle w x)) (reported_alone w r t at a there calls)
          ∙ row_put_past w r.namespace t at r.number a row there shown within
          ∙ ap (λ b. b || ((is_live a && not (is_live row)) && ending_passes w t a)) (none (is_at_bound t.index) (is_at_bound t.evaluation_number))
          ∙ past false calls
