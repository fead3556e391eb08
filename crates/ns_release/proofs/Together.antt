-- Whom several releases wake together: whom each of them wakes.
use Rattle.std.specs.Prelude.{◌≡◌, Bool, true, false, List, [], ◌∷◌, ◌&&◌, ◌||◌, Option, Some, None}
use Rattle.std.proofs.Common.{refl, sym, ap, ◌∙◌}
use Rattle.std.specs.List.{list_any}
use Rattle.std.specs.Option.{option_map_or}
use Rattle.std.specs.FinMap.{contains_key}
use Rattle.ns_types.specs.declared.evaluation.Evaluation.{Evaluation}
use Rattle.ns_types.specs.declared.node.Class.{Class}
use Rattle.ns_types.specs.Settling.Releases.{can_use, wakes_by}
use Rattle.ns_types.specs.State.Names.{Name, Key, has_name, same_name}
use Rattle.ns_types.specs.State.Rows.{World, evaluation_at}
use Rattle.ns_types.proofs.Tests.{or_none}
use Rattle.ns_release.specs.Released.{at_room, releases_wake_at, released_of, releases_wake}
use Rattle.ns_release.proofs.Woken.{wakes_nothing}

-- an evaluation is woken by rooms, or by quotas
pub wakes_by_each : (w : World) (rooms : List (Name × Class)) (quotas : List Name) (key : Key) →
    releases_wake_at w rooms quotas key ≡ (releases_wake_at w rooms [] key || releases_wake_at w [] quotas key)
wakes_by_each w rooms quotas key = by (evaluation_at w key)
  where
    second : (c h : Bool) → (c && h) ≡ ((c && false) || (c && h))
    second true h = refl
    second false h = refl

    of : (e : Evaluation) (q : Option Name) → wakes_by (released_of w rooms quotas) e q
        ≡ (wakes_by (released_of w rooms []) e q || wakes_by (released_of w [] quotas) e q)
    of e (Some q) = second (contains_key w.quotas q) (has_name quotas q)
    of e None = sym (or_none (list_any (at_room e.pool (can_use e)) rooms))

    by : (o : Option Evaluation) → option_map_or (releases_wake w rooms quotas) o false
        ≡ (option_map_or (releases_wake w rooms []) o false || option_map_or (releases_wake w [] quotas) o false)
    by None = refl
    by (Some e) = of e e.quota

-- by one of the quotas
pub wakes_by_quotas : (w : World) (quotas : List Name) (key : Key) →
    releases_wake_at w [] quotas key ≡ list_any (λ q. releases_wake_at w [] (q ∷ []) key) quotas
wakes_by_quotas w [] key = wakes_nothing w key
wakes_by_quotas w (name ∷ names) key = by (evaluation_at w key) ∙ ap (λ b. releases_wake_at w [] (name ∷ []) key || b) (wakes_by_quotas w names key)
  where
    split : (c s h : Bool) → (c && (s || h)) ≡ ((c && (s || false)) || (c && h))
    split true true h = refl
    split true false h = refl
    split false s h = refl

    of : (e : Evaluation) (q : Option Name) → wakes_by (released_of w [] (name ∷ names)) e q
        ≡ (wakes_by (released_of w [] (name ∷ [])) e q || wakes_by (released_of w [] names) e q)
    of e (Some q) = split (contains_key w.quotas q) (same_name q name) (has_name names q)
    of e None = refl

    by : (o : Option Evaluation) → option_map_or (releases_wake w [] (name ∷ names)) o false
        ≡ (option_map_or (releases_wake w [] (name ∷ [])) o false || option_map_or (releases_wake w [] names) o false)
    by None = refl
    by (Some e) = of e e.quota
