-- The counters that an Apply passes, by what it ends and gives.
use Rattle.std.specs.Prelude.{◌≡◌, ℕ, ◌&&◌, ◌||◌, Bool, true, false, cond, not, Option, Some, None, is_some, option_map, IsTrue, T}
use Rattle.std.proofs.Common.{inl, refl, sym, ap, subst, ◌∙◌}
use Rattle.std.specs.FinMap.{get, insert}
use Rattle.std.specs.Option.{option_and_then, option_map_or}
use Rattle.ns_types.specs.declared.allocation.Allocation.{Allocation}
use Rattle.ns_types.specs.declared.evaluation.Evaluation.{Evaluation}
use Rattle.ns_types.specs.declared.node.Node.{Node}
use Rattle.ns_types.specs.declared.plan.Plan.{Plan}
use Rattle.ns_types.specs.declared.snapshot.Snapshot.{Snapshot}
use Rattle.ns_types.specs.Placing.Plan.{plan}
use Rattle.ns_types.specs.Settling.Making.{change_tenant}
use Rattle.ns_types.specs.Settling.Releases.{same_offer}
use Rattle.ns_types.specs.Settling.Settle.{settle}
use Rattle.ns_types.specs.State.Names.{ByNumber, Key, Name, has_key, same_name}
use Rattle.ns_types.specs.State.Rows.{PoolRows, Tenant, World, allocation_at, evaluation_at, is_free, is_live, node_at}
use Rattle.ns_types.specs.Steps.{is_past_bound}
use Rattle.ns_types.specs.Validity.{IsSound}
use Rattle.ns_types.specs.Working.Commit.{Applied, applied_worker, commit, done, refused_whole, still_stands}
use Rattle.ns_types.specs.Working.Work.{with_worker, without_key}
use Rattle.ns_types.specs.Working.Worker.{Worker}
use Rattle.ns_types.proofs.Alike.{same_offer_refl}
use Rattle.ns_types.proofs.Lists.{not_both}
use Rattle.ns_types.proofs.Named.{names, one_name}
use Rattle.ns_types.proofs.Tables.{get-map_rows}
use Rattle.ns_types.proofs.Tests.{not_Some, same_Some}
use Rattle.ns_applier.specs.HeadroomApplying.{apply_passes, apply_raise, ended_keys, places_on}
use Rattle.ns_applier.specs.Judging.{doing}
use Rattle.ns_applier.specs.Raising.{IsRaised, Raises, with_places}
use Rattle.ns_types.specs.Working.Parts.{lives_at}
use Rattle.ns_applier.specs.Releasing.{EndsAlone, ends_at, opens, release_at}
use Rattle.ns_applier.proofs.Applied.{apply_pass}
use Rattle.ns_applier.specs.Counters.{IsAtWork}
use Rattle.ns_applier.specs.Parts.{IsForJob, applied_world, counted_rows, ended, placed}
use Rattle.ns_applier.proofs.Ending.{allocations_end, ended_were_live, plan_is_for_job}
use Rattle.ns_applier.proofs.Placing.{changed_keeps, get_changed, node_counted}
use Rattle.ns_applier.proofs.Touching.{doing_is, ended_are, its_doing, touched_is}
use Rattle.ns_applier.proofs.Whole.{after, evaluations_stay, numbers_go_on, places_counted, rest_stays, tenant_after, tenants_after}

-- a free node that has counted placements was free and offered the same before
pub opens_not : (count : ℕ) (old : Node) → (is_free old && (not (is_free old) || not (same_offer old.offer (with_places count old).offer))) ≡ false
opens_not count old = ap (λ b. is_free old && (not (is_free old) || not b)) (same_offer_refl old.offer) ∙ by (is_free old)
  where
    by : (b : Bool) → (b && (not b || false)) ≡ false
    by true = refl
    by false = refl

module _ (kept : Snapshot) (p : Plan) (w : World) (t : Tenant) where
  abbrev y : World
  y = (done kept p w t).world

  -- the rows that an Apply leaves, but for workers and their plans
  record IsLeft (x : World) : Type 0 where
    pub workers : Name → Tenant → ByNumber Worker
    pub tenants : (q : Name) → get x.tenants q ≡ option_map (λ u. record (after kept p w t q u) { workers = workers q u }) (get w.tenants q)
    pub pools : x.pools ≡ y.pools
    pub quotas : x.quotas ≡ w.quotas
    pub blocked : x.blocked ≡ w.blocked

  module _ (x : World) (left : IsLeft x) where
    same_in : {A : Type 0} (part : Tenant → Option A) → ((u : Tenant) (workers : ByNumber Worker) → part (record u { workers = workers }) ≡ part u) →
        (q : Name) → option_and_then part (get x.tenants q) ≡ option_and_then part (get y.tenants q)
    same_in part keeps q = ap (option_and_then part) (left.tenants q) ∙ by (get w.tenants q) ∙ ap (option_and_then part) (sym (tenants_after kept p w t q))
      where
        by : (o : Option Tenant) → option_and_then part (option_map (λ u. record (after kept p w t q u) { workers = left.workers q u }) o)
            ≡ option_and_then part (option_map (after kept p w t q) o)
        by None = refl
        by (Some u) = keeps (after kept p w t q u) (left.workers q u)

    lives_as : (key : Key) → lives_at x key ≡ lives_at y key
    lives_as key = ap (λ o. option_map_or is_live o false) (same_in (λ u. get u.allocations key.1) (λ u workers. refl) key.0)

    tenant_then : (q : Name) (u v : Tenant) → get w.tenants q ≡ Some u → get x.tenants q ≡ Some v →
        record (after kept p w t q u) { workers = left.workers q u } ≡ v
    tenant_then q u v is is_then = same_Some _ v
        (ap (option_map (λ u. record (after kept p w t q u) { workers = left.workers q u })) (sym is) ∙ sym (left.tenants q) ∙ is_then)

    module _ (for_job : IsForJob kept p) where
      node_then : (pool name : Name) → node_at x pool name ≡ option_map (with_places (places_on kept (placed kept p w t) pool name)) (node_at w pool name)
      node_then = node_counted kept x w (placed kept p w t) (left.pools ∙ places_counted kept p w t for_job)

      release_then : (pool : Name) → release_at x pool ≡ release_at w pool
      release_then pool = ap (λ m. option_map (λ (rows : PoolRows). rows.release) (get m pool)) (left.pools ∙ places_counted kept p w t for_job)
          ∙ ap (option_map (λ (rows : PoolRows). rows.release)) (get-map_rows names one_name (counted_rows kept (placed kept p w t)) w.pools pool)
          ∙ by (get w.pools pool)
        where
          by : (o : Option PoolRows) → option_map (λ (rows : PoolRows). rows.release) (option_map (counted_rows kept (placed kept p w t) pool) o)
              ≡ option_map (λ (rows : PoolRows). rows.release) o
          by None = refl
          by (Some rows) = refl

      opens_none : (pool name : Name) (node : Node) → node_at x pool name ≡ Some node → opens w pool name node ≡ false
      opens_none pool name node at = by (node_at w pool name) refl (sym (node_then pool name) ∙ at)
        where
          by : (o : Option Node) → node_at w pool name ≡ o → option_map (with_places (places_on kept (placed kept p w t) pool name)) o ≡ Some node →
              opens w pool name node ≡ false
          by None was is = absurd (not_Some node is)
          by (Some old) was is = subst (λ node. opens w pool name node ≡ false) (same_Some _ node is)
              (ap (λ o. is_free old && option_map_or (λ o. not (is_free o) || not (same_offer o.offer old.offer)) o true) was
              ∙ opens_not (places_on kept (placed kept p w t) pool name) old)

      module _ (sound : IsSound w) (is : get w.tenants kept.namespace ≡ Some t) where
        ended_is : (key : Key) → has_key (ended_keys kept (its_doing kept p w t)) key ≡ ends_at w x key
        ended_is key = ended_are kept p w t key ∙ row (allocation_at w key) refl (get w.tenants key.0) refl
            ∙ ap (λ b. lives_at w key && not b) (sym (lives_as key))
          where
            not_live : (b l m : Bool) → (b ≡ true → l ≡ true) → l ≡ false → b ≡ (l && not m)
            not_live true l m live none = not_both (live refl) none
            not_live false l m live none = sym (ap (λ l. l && not m) none)

            row : (a : Option Allocation) → allocation_at w key ≡ a → (o : Option Tenant) → get w.tenants key.0 ≡ o →
                has_key (ended kept p w t) key ≡ ends_at w y key
            row None none o at = not_live (has_key (ended kept p w t) key) (lives_at w key) (lives_at y key) (ended_were_live kept p w t is key)
                (ap (λ o. option_map_or is_live o false) none)
            row (Some a) some None at = absurd (not_Some a (sym (ap (option_and_then (λ u. get u.allocations key.1)) at) ∙ some))
            row (Some a) some (Some u) at = allocations_end kept p w t is for_job key.0 u at key.1
                (inl ((sound.tenant key.0 u at).allocation key.1 a (sym (ap (option_and_then (λ u. get u.allocations key.1)) at) ∙ some)).below)

        asleep : (key : Key) → has_key w.blocked key ≡ true → evaluation_at x key ≡ evaluation_at w key
        asleep key listed = same_in (λ u. get u.evaluations key.1) (λ u workers. refl) key.0
            ∙ row (evaluation_at w key) refl (get w.tenants key.0) refl (sound.blocked key listed)
          where
            row : (a : Option Evaluation) → evaluation_at w key ≡ a → (o : Option Tenant) → get w.tenants key.0 ≡ o →
                IsTrue (is_some (evaluation_at w key)) → evaluation_at y key ≡ evaluation_at w key
            row None none o at there = absurd (subst T (ap is_some none) (subst T (sym there) tt))
            row (Some e) some None at there = absurd (not_Some e (sym (ap (option_and_then (λ u. get u.evaluations key.1)) at) ∙ some))
            row (Some e) some (Some u) at there = evaluations_stay kept p w t key.0 u at key.1
                (inl ((sound.tenant key.0 u at).evaluation key.1 e (sym (ap (option_and_then (λ u. get u.evaluations key.1)) at) ∙ some)).below)

        index_then : (q : Name) → option_map (λ (u : Tenant). u.index) (get x.tenants q) ≡ option_map (λ (u : Tenant). u.index) (get w.tenants q)
        index_then q = ap (option_map (λ (u : Tenant). u.index)) (left.tenants q) ∙ by (get w.tenants q)
          where
            by : (o : Option Tenant) → option_map (λ (u : Tenant). u.index) (option_map (λ u. record (after kept p w t q u) { workers = left.workers q u }) o)
                ≡ option_map (λ (u : Tenant). u.index) o
            by None = refl
            by (Some u) = refl

        ends_alone : EndsAlone w x (ended_keys kept (its_doing kept p w t))
        ends_alone = record {
          ended = ended_is;
          indexes = index_then;
          releases = release_then;
          nodes = opens_none;
          quotas = left.quotas;
          blocked = left.blocked;
          asleep = asleep;
        }

        raised : (q : Name) (u v : Tenant) → get w.tenants q ≡ Some u → get x.tenants q ≡ Some v → IsRaised (apply_raise kept (its_doing kept p w t) q) u v
        raised q u v at at_then = subst (IsRaised (apply_raise kept (its_doing kept p w t) q) u) (tenant_then q u v at at_then) (
            let numbers = numbers_go_on kept p w t for_job q u (after kept p w t q u) at (tenant_after kept p w t q u at) in
            record { evaluations = numbers.1; allocations = numbers.0; touched = touched_is kept p w t sound is for_job q u at (left.workers q u) }
            )

        raises : Raises w x (apply_raise kept (its_doing kept p w t)) (places_on kept (placed kept p w t))
        raises = record { tenants = raised; nodes = node_then }

        passes : is_past_bound (settle w x) ≡ apply_passes w kept (its_doing kept p w t)
        passes = apply_pass w x kept (its_doing kept p w t) sound.within ends_alone raises

  -- ---- with the worker's row

  module _ (number : ℕ) (ns : Name) (worker row : Worker) where
    abbrev with_row : World
    with_row = record (change_tenant ns (with_worker number row) y) { plans = without_key (ns, worker.evaluation) y.plans }

    left_with_row : IsLeft with_row
    left_with_row = record {
      workers = λ q u. cond (same_name q ns) (insert u.workers number row) u.workers;
      tenants = λ q. get_changed ns (with_worker number row) y q
          ∙ ap (option_map (λ u. cond (same_name q ns) (with_worker number row u) u)) (tenants_after kept p w t q)
          ∙ by q (get w.tenants q);
      pools = changed_keeps (λ x. x.pools) (λ x m. refl) ns (with_worker number row) y;
      quotas = changed_keeps (λ x. x.quotas) (λ x m. refl) ns (with_worker number row) y ∙ (rest_stays kept p w t).quotas;
      blocked = changed_keeps (λ x. x.blocked) (λ x m. refl) ns (with_worker number row) y ∙ (rest_stays kept p w t).blocked;
    }
      where
        then : (b : Bool) (u : Tenant) → cond b (with_worker number row u) u ≡ record u { workers = cond b (insert u.workers number row) u.workers }
        then true u = refl
        then false u = refl

        by : (q : Name) (o : Option Tenant) → option_map (λ u. cond (same_name q ns) (with_worker number row u) u) (option_map (after kept p w t q) o)
            ≡ option_map (λ u. record (after kept p w t q u) { workers = cond (same_name q ns) (insert u.workers number row) u.workers }) o
        by q None = refl
        by q (Some u) = ap Some (then (same_name q ns) (after kept p w t q u))

-- ---- the step

module _ (w : World) (number : ℕ) (ns : Name) (t : Tenant) (worker : Worker) (e : Evaluation) (kept : Snapshot) (h : IsAtWork w number ns t worker kept) where
  abbrev result : Applied
  result = commit kept (plan kept) w t

  own_is : kept.namespace ≡ ns
  own_is = (((h.sound.tenant ns t h.tenant).worker number worker h.worker_row).snapshot kept h.keeps).namespace

  of_done : (a : Applied) → a.world ≡ (done kept (plan kept) w t).world →
      is_past_bound (settle w (applied_world number ns worker e a)) ≡ apply_passes w kept (its_doing kept (plan kept) w t)
  of_done a same = ap (λ y. is_past_bound (settle w (record (change_tenant ns (with_worker number (applied_worker a worker e)) y)
      { plans = without_key (ns, worker.evaluation) y.plans }))) same
      ∙ passes kept (plan kept) w t (with_row kept (plan kept) w t number ns worker (applied_worker a worker e))
      (left_with_row kept (plan kept) w t number ns worker (applied_worker a worker e)) (plan_is_for_job kept) h.sound (ap (get w.tenants) own_is ∙ h.tenant)

  pub apply_passes_is : still_stands kept.job (get t.jobs kept.evaluation.job) ≡ true →
      is_past_bound (settle w (applied_world number ns worker e result)) ≡ apply_passes w kept (doing w kept (plan kept) result.checked.committed)
  unfolding commit
  apply_passes_is stands = of_done result (ap (λ a. a.world) is_done)
      ∙ ap (apply_passes w kept) (doing_is kept (plan kept) w t (ap (get w.tenants) own_is ∙ h.tenant)
      ∙ ap (λ (a : Applied). doing w kept (plan kept) a.checked.committed) (sym is_done))
    where
      is_done : commit kept (plan kept) w t ≡ done kept (plan kept) w t
      is_done = ap (λ b. cond b (done kept (plan kept) w t) (refused_whole kept (plan kept) w)) stands
