-- A plan that does not stand changes the worker's row and the list of plans, and no counter.
use Rattle.std.specs.Prelude.{◌≡◌, ℕ, ◌+◌, ◌&&◌, ◌||◌, Bool, true, false, cond, not, [], Option, Some, None, nat_lt, option_map}
use Rattle.std.proofs.Common.{refl, sym, ap, subst, ◌∙◌, arith}
use Rattle.std.proofs.Math.Bool.{and-false, and-not_self}
use Rattle.std.specs.FinMap.{get, insert}
use Rattle.std.specs.Option.{option_and_then, option_map_or}
use Rattle.ns_types.specs.declared.evaluation.Evaluation.{Evaluation}
use Rattle.ns_types.specs.declared.node.Node.{Node}
use Rattle.ns_types.specs.declared.snapshot.Snapshot.{Snapshot}
use Rattle.ns_types.specs.Placing.Plan.{plan}
use Rattle.ns_types.specs.Settling.Making.{change_tenant}
use Rattle.ns_types.specs.Settling.Releases.{same_offer}
use Rattle.ns_types.specs.Settling.Settle.{settle}
use Rattle.ns_types.specs.State.Names.{ByNumber, Name, same_name}
use Rattle.ns_types.specs.State.Rows.{Tenant, World, is_free, is_live, node_at}
use Rattle.ns_types.specs.Steps.{greatest, is_past_bound}
use Rattle.ns_types.specs.Working.Commit.{Applied, applied_worker, commit, done, refused_whole, still_stands}
use Rattle.ns_types.specs.Working.Work.{with_worker, without_key}
use Rattle.ns_types.specs.Working.Worker.{Worker}
use Rattle.ns_types.proofs.Bounds.{tenant_within}
use Rattle.ns_types.proofs.Lists.{left_none, right_none}
use Rattle.ns_types.proofs.Named.{names, one_name}
use Rattle.ns_types.proofs.Tables.{any_row-none}
use Rattle.ns_types.proofs.Tests.{same_Some}
use Rattle.ns_applier.specs.HeadroomApplying.{Doing, apply_passes, apply_raise, evaluations_pass, own_passes, own_passes_in, places_on}
use Rattle.ns_applier.specs.Raising.{IsRaised, Raises, with_places}
use Rattle.ns_types.specs.Working.Parts.{lives_at}
use Rattle.ns_applier.specs.Releasing.{EndsAlone, opens, release_at}
use Rattle.ns_applier.proofs.Applied.{apply_pass}
use Rattle.ns_applier.proofs.Shown.{untouched_rows}
use Rattle.ns_applier.specs.Parts.{applied_world}
use Rattle.ns_applier.specs.Counters.{IsAtWork}
use Rattle.ns_applier.proofs.Counting.{opens_not}
use Rattle.ns_applier.proofs.Placing.{changed_keeps, get_changed}

abbrev nothing : Doing
nothing = record { stops = []; placed = []; victims = [] }

no_more : (n : ℕ) → n + 0 ≡ n
no_more n = omega arith

module _ (w : World) (within : is_past_bound w ≡ false) (kept : Snapshot) where
  -- ---- no counter is past already

  evaluations_within : evaluations_pass w [] ≡ false
  evaluations_within = any_row-none names one_name _ w.tenants (λ ns t at. ap (nat_lt greatest) (no_more t.evaluation_number)
      ∙ right_none (nat_lt greatest t.index) _ (left_none _ _ (tenant_within w ns t within at)))

  own_within : own_passes w kept.namespace nothing ≡ false
  own_within = by (get w.tenants kept.namespace) refl
    where
      by : (o : Option Tenant) → get w.tenants kept.namespace ≡ o → option_map_or (own_passes_in nothing) o false ≡ false
      by None at = refl
      by (Some t) at = λ i. (ap (nat_lt greatest) (no_more t.allocation_number)
          ∙ right_none (nat_lt greatest t.index || nat_lt greatest t.evaluation_number) _ (tenant_within w kept.namespace t within at)) i
          || and-false (nat_lt greatest (t.index + 1)) i

  passes_none : apply_passes w kept nothing ≡ false
  passes_none = λ i. evaluations_within i || own_within i || false || false || false

  -- ---- the worker's row alone

  module _ (number : ℕ) (ns : Name) (worker row : Worker) where
    abbrev with_row : World
    with_row = record (change_tenant ns (with_worker number row) w) { plans = without_key (ns, worker.evaluation) w.plans }

    abbrev changed : Name → Tenant → Tenant
    changed q u = cond (same_name q ns) (with_worker number row u) u

    tenants : (q : Name) → get with_row.tenants q ≡ option_map (changed q) (get w.tenants q)
    tenants q = get_changed ns (with_worker number row) w q

    -- all but the workers of a namespace stays
    module _ {A : Type 0} (part : Tenant → A) (keeps : (u : Tenant) (workers : ByNumber Worker) → part (record u { workers = workers }) ≡ part u) where
      one_stays : (q : Name) (u : Tenant) → part (changed q u) ≡ part u
      one_stays q u = by (same_name q ns)
        where
          by : (b : Bool) → part (cond b (with_worker number row u) u) ≡ part u
          by true = keeps u (insert u.workers number row)
          by false = refl

      stays : (q : Name) → option_map part (get with_row.tenants q) ≡ option_map part (get w.tenants q)
      stays q = ap (option_map part) (tenants q) ∙ by (get w.tenants q)
        where
          by : (o : Option Tenant) → option_map part (option_map (changed q) o) ≡ option_map part o
          by None = refl
          by (Some u) = ap Some (one_stays q u)

    then_stays : {A : Type 0} (part : Tenant → Option A) → ((u : Tenant) (workers : ByNumber Worker) → part (record u { workers = workers }) ≡ part u) →
        (q : Name) → option_and_then part (get with_row.tenants q) ≡ option_and_then part (get w.tenants q)
    then_stays part keeps q = ap (option_and_then part) (tenants q) ∙ by (get w.tenants q)
      where
        by : (o : Option Tenant) → option_and_then part (option_map (changed q) o) ≡ option_and_then part o
        by None = refl
        by (Some u) = one_stays part keeps q u

    ends_none : EndsAlone w with_row []
    ends_none = record {
      ended = λ key. sym (and-not_self (lives_at w key)) ∙ ap (λ o. lives_at w key && not (option_map_or is_live o false))
          (sym (then_stays (λ u. get u.allocations key.1) (λ u workers. refl) key.0));
      indexes = stays (λ u. u.index) (λ u workers. refl);
      releases = λ pool. changed_keeps (λ x. release_at x pool) (λ x m. refl) ns (with_worker number row) w;
      nodes = λ pool name node at. free pool name node (sym (changed_keeps (λ x. node_at x pool name) (λ x m. refl) ns (with_worker number row) w) ∙ at);
      quotas = changed_keeps (λ x. x.quotas) (λ x m. refl) ns (with_worker number row) w;
      blocked = changed_keeps (λ x. x.blocked) (λ x m. refl) ns (with_worker number row) w;
      asleep = λ key _. then_stays (λ u. get u.evaluations key.1) (λ u workers. refl) key.0;
    }
      where
        free : (pool name : Name) (node : Node) → node_at w pool name ≡ Some node → opens w pool name node ≡ false
        free pool name node at = ap (λ o. is_free node && option_map_or (λ old. not (is_free old) || not (same_offer old.offer node.offer)) o true) at
            ∙ opens_not 0 node

    raises_none : Raises w with_row (apply_raise kept nothing) (places_on kept [])
    raises_none = record {
      tenants = raised;
      nodes = λ pool name. changed_keeps (λ x. node_at x pool name) (λ x m. refl) ns (with_worker number row) w
          ∙ same_node (node_at w pool name);
    }
      where
        same_node : (o : Option Node) → o ≡ option_map (with_places 0) o
        same_node None = refl
        same_node (Some node) = λ i. Some (record node { places = sym (no_more node.places) i })

        number_stays : (n : ℕ) (b : Bool) → n ≡ n + (cond b 0 0)
        number_stays n true = sym (no_more n)
        number_stays n false = sym (no_more n)

        touches : (b : Bool) → false ≡ ((b && false) || false)
        touches true = refl
        touches false = refl

        raised : (q : Name) (u v : Tenant) → get w.tenants q ≡ Some u → get with_row.tenants q ≡ Some v → IsRaised (apply_raise kept nothing q) u v
        raised q u v at at_then = subst (IsRaised (apply_raise kept nothing q) u)
            (same_Some (changed q u) v (ap (option_map (changed q)) (sym at) ∙ sym (tenants q) ∙ at_then)) (record {
              evaluations = one_stays (λ u. u.evaluation_number) (λ u workers. refl) q u ∙ sym (no_more u.evaluation_number);
              allocations = one_stays (λ u. u.allocation_number) (λ u workers. refl) q u ∙ number_stays u.allocation_number (same_name q kept.namespace);
              touched = untouched_rows u (changed q u) (one_stays (λ u. u.jobs) (λ u workers. refl) q u)
                  (one_stays (λ u. u.evaluations) (λ u workers. refl) q u) (one_stays (λ u. u.allocations) (λ u workers. refl) q u)
                  ∙ touches (same_name q kept.namespace);
            })

    pub row_passes_nothing : is_past_bound (settle w with_row) ≡ false
    row_passes_nothing = apply_pass w with_row kept nothing within ends_none raises_none ∙ passes_none

module _ (w : World) (number : ℕ) (ns : Name) (t : Tenant) (worker : Worker) (e : Evaluation) (kept : Snapshot) (h : IsAtWork w number ns t worker kept) where
  of_refused : (a : Applied) → a.world ≡ w → is_past_bound (settle w (applied_world number ns worker e a)) ≡ false
  of_refused a same = ap (λ y. is_past_bound (settle w (record (change_tenant ns (with_worker number (applied_worker a worker e)) y)
      { plans = without_key (ns, worker.evaluation) y.plans }))) same
      ∙ row_passes_nothing w h.sound.within kept number ns worker (applied_worker a worker e)

  pub refused_passes_nothing : still_stands kept.job (get t.jobs kept.evaluation.job) ≡ false →
      is_past_bound (settle w (applied_world number ns worker e (commit kept (plan kept) w t))) ≡ false
  unfolding commit
  refused_passes_nothing stands = of_refused (commit kept (plan kept) w t)
      (ap (λ b. (cond b (done kept (plan kept) w t) (refused_whole kept (plan kept) w)).world) stands)
