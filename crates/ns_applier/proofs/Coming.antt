-- What a plan comes to, by what was decided of it.
use Rattle.std.specs.Prelude.{◌≡◌, ℕ, Bool, true, false, cond, not, ◌&&◌, List, Some, filter}
use Rattle.std.proofs.Common.{refl, sym, ap, subst, ◌∙◌}
use Rattle.std.specs.Option.{option_and_then, option_map_or}
use Rattle.std.specs.FinMap.{get}
use Rattle.ns_types.specs.declared.evaluation.Evaluation.{Evaluation}
use Rattle.ns_types.specs.declared.plan.Plan.{Plan}
use Rattle.ns_types.specs.declared.refusal.Refusal.{Refusal}
use Rattle.ns_types.specs.declared.snapshot.Snapshot.{Snapshot}
use Rattle.ns_types.specs.Settling.Outcome.{Refused}
use Rattle.ns_types.specs.State.Rows.{Tenant, World, is_live}
use Rattle.ns_types.specs.Steps.{is_past_bound}
use Rattle.ns_types.specs.Working.Commit.{Applied, applied, commit, done, evicted_rows, live_stops, nodes_in, refused_whole, still_stands, stop_all}
use Rattle.ns_types.specs.Working.Worker.{Worker}
use Rattle.ns_types.proofs.Lists.{not_both}
use Rattle.ns_applier.proofs.Judged.{room_is_left}
use Rattle.ns_plan_result.specs.Whole.{CanWrite}
use Rattle.ns_plan_result.specs.Writing.{placed_on}
use Rattle.ns_applier.specs.HeadroomApplying.{apply_passes}
use Rattle.ns_applier.specs.Judging.{doing, live_numbers}
use Rattle.ns_plan.specs.Looks.{Decision, IsChecked, decision_of}
use Rattle.ns_renewal.specs.Losing.{CanMakeUp}
use Rattle.ns_applier.specs.Applying.{comes_as, comes_to}

module _ (number : ℕ) (w : World) (t : Tenant) (worker : Worker) (e : Evaluation) (kept : Snapshot) (p : Plan) where
  abbrev whole : Applied
  whole = done kept p w t

  abbrev nothing : Applied
  nothing = refused_whole kept p w

  done_where : still_stands kept.job (get t.jobs kept.evaluation.job) ≡ true → commit kept p w t ≡ whole
  unfolding commit
  done_where s = ap (λ b. cond b whole nothing) s

  nothing_where : still_stands kept.job (get t.jobs kept.evaluation.job) ≡ false → commit kept p w t ≡ nothing
  unfolding commit
  nothing_where s = ap (λ b. cond b whole nothing) s

  module _ (d : Decision) (there : get w.tenants kept.namespace ≡ Some t) (checked : IsChecked kept p w d) where
    is : d ≡ decision_of (commit kept p w t).checked
    is = checked t there

    stands : d.is_refused ≡ false → commit kept p w t ≡ whole
    stands off = by (still_stands kept.job (get t.jobs kept.evaluation.job)) refl
      where
        by : (b : Bool) → still_stands kept.job (get t.jobs kept.evaluation.job) ≡ b → commit kept p w t ≡ whole
        by true s = done_where s
        by false s = not_both (ap (λ d. d.is_refused) is ∙ ap (λ a. a.checked.is_refused) (nothing_where s)) off

    falls : d.is_refused ≡ true → commit kept p w t ≡ nothing
    falls on = by (still_stands kept.job (get t.jobs kept.evaluation.job)) refl
      where
        by : (b : Bool) → still_stands kept.job (get t.jobs kept.evaluation.job) ≡ b → commit kept p w t ≡ nothing
        by true s = not_both on (ap (λ d. d.is_refused) is ∙ ap (λ a. a.checked.is_refused) (done_where s))
        by false s = nothing_where s

    -- it no longer stands
    pub comes_refused : d.is_refused ≡ true → comes_to number w t worker e kept p ≡ applied number kept.namespace worker e nothing
    comes_refused on = ap (comes_as number w worker e kept p) (falls on)

    pub all_dropped : d.is_refused ≡ true → d.dropped ≡ nodes_in p.placing.placements
    all_dropped on = ap (λ d. d.dropped) is ∙ ap (λ a. a.checked.dropped) (falls on)

    module _ (off : d.is_refused ≡ false) where
      committed_is : d.committed ≡ whole.checked.committed
      committed_is = ap (λ d. d.committed) is ∙ ap (λ a. a.checked.committed) (stands off)

      pub dropped_is : d.dropped ≡ whole.checked.dropped
      dropped_is = ap (λ d. d.dropped) is ∙ ap (λ a. a.checked.dropped) (stands off)

      judged_is : (b : Bool) → apply_passes w kept (doing w kept p d.committed) ≡ b →
          comes_to number w t worker e kept p ≡ cond b (Refused Refusal.Full) (applied number kept.namespace worker e whole)
      judged_is b past = ap (comes_as number w worker e kept p) (stands off)
          ∙ ap (λ nodes. cond (apply_passes w kept (doing w kept p nodes)) (Refused Refusal.Full)
          (applied number kept.namespace worker e whole)) (sym committed_is)
          ∙ ap (λ b. cond b (Refused Refusal.Full) (applied number kept.namespace worker e whole)) past

      -- a counter would pass its bound
      pub comes_full : apply_passes w kept (doing w kept p d.committed) ≡ true → comes_to number w t worker e kept p ≡ Refused Refusal.Full
      comes_full = judged_is true

      module _ (none : apply_passes w kept (doing w kept p d.committed) ≡ false) where
        -- it is done
        pub comes_done : comes_to number w t worker e kept p ≡ applied number kept.namespace worker e whole
        comes_done = judged_is false none

        numbers_are : live_numbers w kept.namespace p.stops ≡ live_stops t p.stops
        numbers_are = ap (λ o. filter (λ n. option_map_or is_live (option_and_then (λ (t : Tenant). get t.allocations n) o) false) p.stops) there

        -- there are numbers and places for all that is new
        pub can_write : is_past_bound w ≡ false → CanWrite kept p w t d.committed
        can_write within = let room = room_is_left w kept (doing w kept p d.committed) within none in record {
          committed = committed_is;
          place = record { numbers = room.allocations; places = room.places };
          make_up = subst (λ stops. CanMakeUp (evicted_rows (stop_all kept.namespace stops w) kept (placed_on d.committed p.placing.placements)) w)
              numbers_are room.evaluations;
        }
