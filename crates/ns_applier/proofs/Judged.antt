-- An Apply as it is judged before anything is written, and the room that is left where it passes no bound.
use Rattle.std.specs.Prelude.{◌≡◌, ◌<◌, ℕ, ◌+◌, ◌^◌, Bool, true, false, cond, not, ◌&&◌, ◌||◌, List, [], ◌∷◌, Option, Some, None, filter, length, nat_lt}
use Rattle.std.proofs.Common.{refl, sym, ap, ◌∙◌, arith}
use Rattle.std.specs.Cmp.{eq_by_cmp_equiv}
use Rattle.std.specs.FinMap.{get}
use Rattle.std.specs.List.{list_any}
use Rattle.std.specs.Option.{option_and_then, option_map_or}
use Rattle.ns_types.specs.declared.evaluation.Evaluation.{Evaluation}
use Rattle.ns_types.specs.declared.node.Node.{Node}
use Rattle.ns_types.specs.declared.plan.Placement.{Placement}
use Rattle.ns_types.specs.declared.refusal.Refusal.{Refusal}
use Rattle.ns_types.specs.declared.snapshot.Snapshot.{Snapshot}
use Rattle.ns_types.specs.Placing.Plan.{plan}
use Rattle.ns_types.specs.Settling.Outcome.{NotEnabled, Outcome, Refused}
use Rattle.ns_types.specs.State.Names.{Name, same_name}
use Rattle.ns_types.specs.State.Rows.{PoolRows, Tenant, World, node_at}
use Rattle.ns_types.specs.State.Tables.{any_row}
use Rattle.ns_types.specs.Steps.{greatest, is_past_bound, is_pool_past_bound, is_tenant_past_bound}
use Rattle.ns_types.specs.Working.Commit.{Applied, applied, apply, apply_for, commit, done, node_name, refused_whole, still_stands}
use Rattle.ns_types.specs.Working.Queue.{is_served}
use Rattle.ns_types.specs.Working.Work.{is_submitted}
use Rattle.ns_types.specs.Working.Worker.{Worker}
use Rattle.ns_types.proofs.Lists.{filter_none, left_none, not_both, right_none}
use Rattle.ns_types.proofs.Named.{names, one_name, same_name_is, same_name_refl}
use Rattle.ns_types.proofs.TableRows.{each_fails}
use Rattle.ns_types.proofs.Tables.{none_of_any}
use Rattle.ns_types.proofs.Tests.{not_Some}
use Rattle.ns_change.specs.Prepared.{bounded}
use Rattle.ns_applier.specs.HeadroomApplying.{Doing, apply_passes, evaluations_pass, losing_in, own_passes}
use Rattle.ns_applier.specs.HeadroomApplying.{own_passes_in, place_passes, place_passes_on, places_on}
use Rattle.ns_applier.specs.HeadroomApplying.{stop_passes, victim_passes}
use Rattle.ns_applier.specs.Judging.{doing}
use Rattle.ns_applier.specs.Counters.{HasRoom, IsAtWork, judged}
use Rattle.ns_applier.proofs.Counting.{apply_passes_is}
use Rattle.ns_applier.proofs.Refusing.{refused_passes_nothing}
use Rattle.ns_types.proofs.Bounds.{within_bound}

-- ---- the step

module _ (w : World) (number : ℕ) (ns : Name) (t : Tenant) (worker : Worker) (e : Evaluation) (kept : Snapshot) (h : IsAtWork w number ns t worker kept) where
  abbrev stands : Bool
  stands = still_stands kept.job (get t.jobs kept.evaluation.job)

  abbrev made_of : Applied
  made_of = commit kept (plan kept) w t

  abbrev passes : Bool
  passes = apply_passes w kept (doing w kept (plan kept) made_of.checked.committed)

  abbrev made : Outcome World
  made = applied number ns worker e made_of

  refused_is : made_of.checked.is_refused ≡ not stands
  unfolding commit
  refused_is = by stands
    where
      by : (b : Bool) → (cond b (done kept (plan kept) w t) (refused_whole kept (plan kept) w)).checked.is_refused ≡ not b
      by true = refl
      by false = refl

  made_is : (b : Bool) → stands ≡ b → bounded w made ≡ cond (not made_of.checked.is_refused && passes) (Refused Refusal.Full) made
  made_is true s = ap (λ past. cond past (Refused Refusal.Full) made) (apply_passes_is w number ns t worker e kept h s)
      ∙ ap (λ b. cond (not b && passes) (Refused Refusal.Full) made) (sym (refused_is ∙ ap not s))
  made_is false s = ap (λ past. cond past (Refused Refusal.Full) made) (refused_passes_nothing w number ns t worker e kept h s)
      ∙ ap (λ b. cond (not b && passes) (Refused Refusal.Full) made) (sym (refused_is ∙ ap not s))

  pub apply_is_judged : get t.evaluations worker.evaluation ≡ Some e → bounded w (apply number ns w) ≡ judged number ns w t worker e kept
  unfolding apply
  apply_is_judged row = ap (λ o. bounded w (option_map_or (λ t. option_map_or (λ worker. option_map_or
      (λ e. option_map_or (apply_for number ns w t worker e) worker.kept NotEnabled) (get t.evaluations worker.evaluation) NotEnabled)
      (get t.workers number) NotEnabled) o NotEnabled)) h.tenant
      ∙ ap (λ o. bounded w (option_map_or (λ worker. option_map_or
      (λ e. option_map_or (apply_for number ns w t worker e) worker.kept NotEnabled) (get t.evaluations worker.evaluation) NotEnabled)
      o NotEnabled)) h.worker_row
      ∙ ap (λ o. bounded w (option_map_or (λ e. option_map_or (apply_for number ns w t worker e) worker.kept NotEnabled) o NotEnabled)) row
      ∙ ap (λ o. bounded w (option_map_or (apply_for number ns w t worker e) o NotEnabled)) h.keeps
      ∙ by (is_submitted worker.phase && is_served w w.plans (ns, worker.evaluation))
    where
      by : (b : Bool) → bounded w (cond b made NotEnabled)
          ≡ cond (not b) NotEnabled (cond (not made_of.checked.is_refused && passes) (Refused Refusal.Full) made)
      by true = made_is stands refl
      by false = refl

-- ---- what is left

-- where some element passes one test and none the other, one passes the one and not the other
some_of : {A : Type 0} (f g : A → Bool) (xs : List A) → list_any f xs ≡ true → list_any g xs ≡ false → (x : A) × (f x ≡ true) × (g x ≡ false)
some_of f g [] some none = not_both some refl
some_of {A = A} f g (x ∷ xs) some none = by (f x) refl some (λ later. some_of f g xs later (right_none (g x) _ none))
  where
    by : (b : Bool) → f x ≡ b → (b || list_any f xs) ≡ true → (list_any f xs ≡ true → (x : A) × (f x ≡ true) × (g x ≡ false)) →
        (x : A) × (f x ≡ true) × (g x ≡ false)
    by true here some later = (x, here, left_none (g x) _ none)
    by false here some later = later some

module _ (w : World) (kept : Snapshot) (d : Doing) (within : is_past_bound w ≡ false) (none : apply_passes w kept d ≡ false) where
  abbrev goes : Name → Placement → Bool
  goes name q = same_name (node_name kept q.node) name

  victims_none : (evaluations_pass w d.victims || own_passes w kept.namespace d || list_any (place_passes w kept d.placed) d.placed) ≡ false
  victims_none = left_none _ (list_any (stop_passes w kept.namespace) d.stops) (left_none _ (list_any (victim_passes w) d.victims) none)

  numbers_none : (evaluations_pass w d.victims || own_passes w kept.namespace d) ≡ false
  numbers_none = left_none _ (list_any (place_passes w kept d.placed) d.placed) victims_none

  of_evaluations : (ns : Name) (t : Tenant) → get w.tenants ns ≡ Some t → t.evaluation_number + losing_in ns d.victims < 2 ^ 64
  of_evaluations ns t at = within_bound (t.evaluation_number + losing_in ns d.victims)
      (none_of_any one_name (λ ns (t : Tenant). nat_lt greatest (t.evaluation_number + losing_in ns d.victims)) w.tenants ns t
      (left_none (evaluations_pass w d.victims) (own_passes w kept.namespace d) numbers_none) at)

  of_allocations : (t : Tenant) → get w.tenants kept.namespace ≡ Some t → t.allocation_number + length d.placed < 2 ^ 64
  of_allocations t at = within_bound (t.allocation_number + length d.placed) (left_none (nat_lt greatest (t.allocation_number + length d.placed)) _
      (ap (λ o. option_map_or (own_passes_in d) o false) (sym at)
      ∙ right_none (evaluations_pass w d.victims) (own_passes w kept.namespace d) numbers_none))

  place_within : (name : Name) (node : Node) → node_at w kept.pool name ≡ Some node → nat_lt greatest node.places ≡ false
  unfolding is_past_bound
  place_within name node at = by (get w.pools kept.pool) refl at
    where
      by : (o : Option PoolRows) → get w.pools kept.pool ≡ o → option_and_then (λ rows. get rows.nodes name) o ≡ Some node → nat_lt greatest node.places ≡ false
      by None is row = absurd (not_Some node row)
      by (Some rows) is row = none_of_any one_name (λ _ (node : Node). nat_lt greatest node.places) rows.nodes name node
          (right_none (nat_lt greatest rows.release) _ (none_of_any one_name (λ _ p. is_pool_past_bound p) w.pools kept.pool rows
          (right_none (any_row (λ _ t. is_tenant_past_bound t) w.tenants) _ (left_none _ _ within)) is)) row

  -- the placements on the node, as the counters name them
  goes_as : (name : Name) → places_on kept d.placed kept.pool name ≡ length (filter (goes name) d.placed)
  goes_as name = λ i. length (filter (λ q. same_name_refl kept.pool i && (eq_by_cmp_equiv names).symm name (node_name kept q.node) i) d.placed)

  of_places : (name : Name) (node : Node) → node_at w kept.pool name ≡ Some node → node.places + length (filter (goes name) d.placed) < 2 ^ 64
  of_places name node at = within_bound (node.places + length (filter (goes name) d.placed)) (by (list_any (goes name) d.placed) refl)
    where
      no_more : node.places + 0 ≡ node.places
      no_more = omega arith

      passes_not : (q : Placement) × (goes name q ≡ true) × (place_passes w kept d.placed q ≡ false) →
          nat_lt greatest (node.places + length (filter (goes name) d.placed)) ≡ false
      passes_not found = ap (λ n. nat_lt greatest (node.places + n)) (sym (goes_as name))
          ∙ ap (λ o. option_map_or (place_passes_on kept d.placed name) o false) (sym at)
          ∙ ap (λ name. option_map_or (place_passes_on kept d.placed name) (node_at w kept.pool name) false)
          (sym (same_name_is (node_name kept found.0.node) name found.1)) ∙ found.2

      by : (b : Bool) → list_any (goes name) d.placed ≡ b → nat_lt greatest (node.places + length (filter (goes name) d.placed)) ≡ false
      by true some = passes_not (some_of (goes name) (place_passes w kept d.placed) d.placed some
          (right_none (evaluations_pass w d.victims || own_passes w kept.namespace d) _ victims_none))
      by false other = ap (λ l. nat_lt greatest (node.places + length l)) (filter_none (goes name) d.placed (each_fails (goes name) d.placed other))
          ∙ ap (nat_lt greatest) no_more ∙ place_within name node at

pub room_is_left : (w : World) (kept : Snapshot) (d : Doing) → is_past_bound w ≡ false → apply_passes w kept d ≡ false → HasRoom w kept d
room_is_left w kept d within none = record {
  allocations = of_allocations w kept d within none;
  evaluations = of_evaluations w kept d within none;
  places = of_places w kept d within none;
}
