-- What leaves records alone: changes of evaluations, allocations, workers and lists.
use Rattle.std.specs.Prelude.{◌≡◌, ℕ, ◌+◌, true, false, cond, List, [], ◌∷◌, ◌++◌, Option, Some, None, fold}
use Rattle.std.proofs.Common.{refl, sym, subst}
use Rattle.std.specs.FinMap.{get, contains_key, insert}
use Rattle.std.specs.Option.{option_map_or}
use Rattle.ns_types.specs.declared.allocation.Allocation.{Allocation}
use Rattle.ns_types.specs.declared.allocation.ClientStatus.{ClientStatus}
use Rattle.ns_types.specs.declared.allocation.DesiredStatus.{DesiredStatus}
use Rattle.ns_types.specs.declared.evaluation.Evaluation.{Evaluation}
use Rattle.ns_types.specs.declared.evaluation.Status.{Status}
use Rattle.ns_types.specs.Settling.Making.{put_tenant, change_tenant, with_status, with_desired, with_client, with_evaluation, make_in, make}
use Rattle.ns_types.specs.State.Names.{Name, Key}
use Rattle.ns_types.specs.Working.Queue.{queue, promote, is_busy, first_waiting}
use Rattle.ns_types.specs.State.Rows.{World, Tenant}
use Rattle.ns_audit.proofs.Alone.Fixed.{of_at, fixed_desired}
use Rattle.ns_types.proofs.Queue.{queue_keeps}
use Rattle.ns_audit.proofs.ValidRecords.Sound.{kept_of, IsNearKept, IsNear, near_same, near_put}

-- ---- a namespace

pub kept_desired : (n : ℕ) (desired : DesiredStatus) (t : Tenant) → kept_of (with_desired n desired t) ≡ kept_of t
kept_desired = fixed_desired kept_of (λ t n e. refl) (λ t n a. refl)

pub kept_status : (n : ℕ) (status : Status) (t : Tenant) → kept_of (with_status n status t) ≡ kept_of t
kept_status n status t = elim (get t.evaluations n) as
    (λ (o : Option Evaluation). kept_of (option_map_or (λ e. record t { evaluations = insert t.evaluations n (record e { status = status }) }) o t) ≡ kept_of t)
    [ Some e ↦ refl | None ↦ refl ]

pub kept_client : (n : ℕ) (client : ClientStatus) (t : Tenant) → kept_of (with_client n client t) ≡ kept_of t
kept_client n client t = elim (get t.allocations n) as
    (λ (o : Option Allocation). kept_of (option_map_or (λ a. record t { allocations = insert t.allocations n (record a { client = client }) }) o t) ≡ kept_of t)
    [ Some a ↦ refl | None ↦ refl ]

-- ---- a world

module _ (w : World) where
  pub near_put_same : (y : World) → IsNear w y → (ns : Name) (t t' : Tenant) → get y.tenants ns ≡ Some t → kept_of t' ≡ kept_of t →
      IsNear w (put_tenant ns t' y)
  near_put_same y near ns t t' is same = near_put w y near ns t t' is
      (subst (IsNearKept (contains_key y.pools) (contains_key y.quotas) (get w.tenants ns) ns) (sym same) (near.tenant ns t is))

  pub near_change : (y : World) → IsNear w y → (ns : Name) (f : Tenant → Tenant) → ((t : Tenant) → kept_of (f t) ≡ kept_of t) → IsNear w (change_tenant ns f y)
  near_change y near ns f same = by (get y.tenants ns) refl
    where
      by : (o : Option Tenant) → get y.tenants ns ≡ o → IsNear w (option_map_or (λ t. put_tenant ns (f t) y) o y)
      by None is = near
      by (Some t) is = near_put_same y near ns t (f t) is (same t)

  -- other lists
  pub near_lists : (y : World) → IsNear w y → (ready plans blocked : List Key) → IsNear w (record y { ready = ready; plans = plans; blocked = blocked })
  near_lists y near ready plans blocked = near_same w y (record y { ready = ready; plans = plans; blocked = blocked }) near (λ k. refl) refl refl

  pub near_queue : (y : World) → IsNear w y → (key : Key) → IsNear w (queue y key)
  near_queue y near key = near_same w y (queue y key) near (λ k. queue_keeps (λ x. of_at kept_of x k) (λ x keys. refl) y key)
      (queue_keeps (λ x. x.pools) (λ x keys. refl) y key) (queue_keeps (λ x. x.quotas) (λ x keys. refl) y key)

  pub near_make_in : (y : World) → IsNear w y → (ns : Name) (e : Evaluation) (t t' : Tenant) → get y.tenants ns ≡ Some t
      → IsNearKept (contains_key y.pools) (contains_key y.quotas) (get w.tenants ns) ns (kept_of t') → IsNear w (make_in ns e y t')
  near_make_in y near ns e t t' is good = near_queue (put_tenant ns (with_evaluation e t') y) (near_put w y near ns t (with_evaluation e t') is good)
      (ns, t'.evaluation_number + 1)

  pub near_make : (y : World) → IsNear w y → (ns : Name) (evaluation : Tenant → Evaluation) → IsNear w (make ns evaluation y)
  near_make y near ns evaluation = by (get y.tenants ns) refl
    where
      by : (o : Option Tenant) → get y.tenants ns ≡ o → IsNear w (option_map_or (λ t. make_in ns (evaluation t) y t) o y)
      by None is = near
      by (Some t) is = near_make_in y near ns (evaluation t) t t is (near.tenant ns t is)

  pub near_each : {A : Type 0} (f : World → A → World) → ((y : World) (x : A) → IsNear w y → IsNear w (f y x)) → (xs : List A) (y : World) → IsNear w y →
      IsNear w (fold f y xs)
  near_each f h [] y near = near
  near_each f h (x ∷ xs) y near = near_each f h xs (f y x) (h y x near)

  pub near_promote : (y : World) → IsNear w y → (ns job : Name) → IsNear w (promote ns job y)
  unfolding promote
  near_promote y near ns job = elim (is_busy y ns job) as
      (λ b. IsNear w (cond b y (option_map_or (λ t. option_map_or (λ n. record y { ready = y.ready ++ (ns, n) ∷ [] }) (first_waiting job t) y)
      (get y.tenants ns) y))) [ true ↦ near | false ↦ tenant (get y.tenants ns) ]
    where
      waiting : (o : Option ℕ) → IsNear w (option_map_or (λ n. record y { ready = y.ready ++ (ns, n) ∷ [] }) o y)
      waiting None = near
      waiting (Some n) = near_lists y near (y.ready ++ (ns, n) ∷ []) y.plans y.blocked

      tenant : (o : Option Tenant) → IsNear w (option_map_or (λ t. option_map_or (λ n. record y { ready = y.ready ++ (ns, n) ∷ [] }) (first_waiting job t) y)
          o y)
      tenant None = near
      tenant (Some t) = waiting (first_waiting job t)
