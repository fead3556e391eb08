-- Making the next evaluation of a job ready changes the list of ready evaluations alone.
use Rattle.std.specs.Prelude.{◌≡◌, ℕ, Bool, true, false, cond, List, [], ◌∷◌, ◌++◌, Option, Some, None}
use Rattle.std.proofs.Common.{refl}
use Rattle.std.specs.FinMap.{get}
use Rattle.std.specs.Option.{option_map_or}
use Rattle.ns_types.specs.State.Names.{Key, Name}
use Rattle.ns_types.specs.State.Rows.{World, Tenant}
use Rattle.ns_types.specs.Working.Queue.{first_waiting, is_busy, promote}

-- each part of the world but that list stays
pub promote_part : {A : Type 0} (part : World → A) → ((w : World) (keys : List Key) → part (record w { ready = keys }) ≡ part w) →
    (ns job : Name) (w : World) → part (promote ns job w) ≡ part w
unfolding promote
promote_part part keeps ns job w = by (is_busy w ns job)
  where
    waiting : (o : Option ℕ) → part (option_map_or (λ n. record w { ready = w.ready ++ (ns, n) ∷ [] }) o w) ≡ part w
    waiting None = refl
    waiting (Some n) = keeps w (w.ready ++ (ns, n) ∷ [])

    tenant : (o : Option Tenant) →
        part (option_map_or (λ t. option_map_or (λ n. record w { ready = w.ready ++ (ns, n) ∷ [] }) (first_waiting job t) w) o w) ≡ part w
    tenant None = refl
    tenant (Some t) = waiting (first_waiting job t)

    by : (b : Bool) → part (cond b w (option_map_or (λ t. option_map_or (λ n. record w { ready = w.ready ++ (ns, n) ∷ [] }) (first_waiting job t) w)
        (get w.tenants ns) w)) ≡ part w
    by true = refl
    by false = tenant (get w.tenants ns)

pub promote_tenants : (ns job : Name) (w : World) → (promote ns job w).tenants ≡ w.tenants
promote_tenants = promote_part (λ w. w.tenants) (λ w keys. refl)
