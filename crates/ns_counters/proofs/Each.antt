-- What is given together, part by part.
use Rattle.std.specs.Prelude.{◌≡◌, Bool, true, false, ◌&&◌, ◌||◌, List, [], Option, Some, None}
use Rattle.std.proofs.Common.{refl, ap, ◌∙◌}
use Rattle.std.specs.FinMap.{get}
use Rattle.std.specs.Option.{option_map_or}
use Rattle.ns_types.specs.declared.node.Class.{Class}
use Rattle.ns_types.specs.State.Names.{Name, Key}
use Rattle.ns_types.specs.State.Rows.{World, Tenant, evaluation_at}
use Rattle.ns_release.specs.Released.{releases_wake_at}
use Rattle.ns_release.proofs.Together.{wakes_by_each}
use Rattle.ns_counters.specs.Bounds.{is_at_bound, shows_awake}
use Rattle.ns_counters.specs.Given.{given_waking_passes}

pub split_middle : (a b c d : Bool) → (a && ((b || c) && d)) ≡ ((a && (b && d)) || (a && (c && d)))
split_middle true true true true = refl
split_middle true true true false = refl
split_middle true true false true = refl
split_middle true true false false = refl
split_middle true false c d = refl
split_middle false b c d = refl

pub split_last : (a b c d : Bool) → (a || (b && (c || d))) ≡ ((a || (b && c)) || (b && d))
split_last true b c d = refl
split_last false true c d = refl
split_last false false c d = refl

-- the evaluation of an entry is woken by the rooms, or by the quotas
pub waking_each : (w : World) (rooms : List (Name × Class)) (quotas : List Name) (key : Key) →
    given_waking_passes w rooms quotas key ≡ (given_waking_passes w rooms [] key || given_waking_passes w [] quotas key)
waking_each w rooms quotas key =
    ap (λ b. option_map_or (λ t. is_at_bound t.index && (b && shows_awake t key.1 (evaluation_at w key))) (get w.tenants key.0) false)
    (wakes_by_each w rooms quotas key) ∙ by (get w.tenants key.0)
  where
    by : (o : Option Tenant) → option_map_or (λ t. is_at_bound t.index
        && ((releases_wake_at w rooms [] key || releases_wake_at w [] quotas key) && shows_awake t key.1 (evaluation_at w key))) o false
        ≡ (option_map_or (λ t. is_at_bound t.index && (releases_wake_at w rooms [] key && shows_awake t key.1 (evaluation_at w key))) o false
        || option_map_or (λ t. is_at_bound t.index && (releases_wake_at w [] quotas key && shows_awake t key.1 (evaluation_at w key))) o false)
    by None = refl
    by (Some t) = split_middle (is_at_bound t.index) (releases_wake_at w rooms [] key) (releases_wake_at w [] quotas key)
        (shows_awake t key.1 (evaluation_at w key))
