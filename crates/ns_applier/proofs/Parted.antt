-- What several releases pass together: what each of them passes.
use Rattle.std.specs.Prelude.{◌≡◌, Bool, true, false, List, [], ◌∷◌, ◌&&◌, ◌||◌, Option, Some, None}
use Rattle.std.proofs.Common.{refl, sym, ap, ◌∙◌}
use Rattle.std.specs.Option.{option_map_or}
use Rattle.std.specs.List.{list_any}
use Rattle.std.specs.FinMap.{contains_key, get}
use Rattle.keyed.proofs.Over.{any_both}
use Rattle.ns_types.specs.declared.evaluation.Evaluation.{Evaluation}
use Rattle.ns_types.specs.declared.node.Class.{Class}
use Rattle.ns_types.specs.Settling.Releases.{can_use, wakes_by}
use Rattle.ns_types.specs.State.Names.{Name, Key}
use Rattle.ns_types.specs.State.Rows.{World, Tenant, evaluation_at}
use Rattle.ns_types.proofs.Elements.{any_same}
use Rattle.ns_types.proofs.Tests.{or_none}
use Rattle.ns_release.specs.Released.{at_room, releases_wake_at, released_of, releases_wake}
use Rattle.ns_release.proofs.Rooms.{any_and, any_none, any_swap}
use Rattle.ns_release.proofs.Together.{wakes_by_each, wakes_by_quotas}
use Rattle.ns_counters.proofs.Each.{split_middle}
use Rattle.ns_counters.specs.Bounds.{is_at_bound, quota_passes, room_passes, shows_awake}
use Rattle.ns_counters.specs.Given.{given_limits_pass, given_room_passes, given_waking_passes, given_waking_passes_in}
use Rattle.ns_counters.proofs.Bounded.{any_with}
use Rattle.std.proofs.Math.Bool.{and-false}

module _ (w : World) where
  -- an evaluation is woken by one of the rooms
  wakes_by_rooms : (rooms : List (Name × Class)) (key : Key) → releases_wake_at w rooms [] key ≡ list_any (λ r. releases_wake_at w (r ∷ []) [] key) rooms
  wakes_by_rooms rooms key = by (evaluation_at w key)
    where
      of : (e : Evaluation) (q : Option Name) → wakes_by (released_of w rooms []) e q ≡ list_any (λ r. wakes_by (released_of w (r ∷ []) []) e q) rooms
      of e (Some q) = and-false (contains_key w.quotas q) ∙ sym (any_same _ (λ _. false) (λ r. and-false (contains_key w.quotas q)) rooms ∙ any_none rooms)
      of e None = any_same _ _ (λ r. sym (or_none (at_room e.pool (can_use e) r))) rooms

      by : (o : Option Evaluation) → option_map_or (releases_wake w rooms []) o false
          ≡ list_any (λ r. option_map_or (releases_wake w (r ∷ []) []) o false) rooms
      by None = sym (any_none rooms)
      by (Some e) = of e e.quota

  module _ (rooms : List (Name × Class)) (quotas : List Name) where
    abbrev by_room : Name × Class → Key → Bool
    by_room r = given_waking_passes w (r ∷ []) []

    abbrev by_quota : Name → Key → Bool
    by_quota q = given_waking_passes w [] (q ∷ [])

    each_wakes : (key : Key) → releases_wake_at w rooms quotas key
        ≡ (list_any (λ r. releases_wake_at w (r ∷ []) [] key) rooms || list_any (λ q. releases_wake_at w [] (q ∷ []) key) quotas)
    each_wakes key = wakes_by_each w rooms quotas key ∙ (λ i. wakes_by_rooms rooms key i || wakes_by_quotas w quotas key i)

    each_passes : (key : Key) → given_waking_passes w rooms quotas key ≡ (list_any (λ r. by_room r key) rooms || list_any (λ q. by_quota q key) quotas)
    each_passes key = by (get w.tenants key.0)
      where
        under : {A : Type 0} (b s : Bool) (f : A → Bool) (xs : List A) → (b && (list_any f xs && s)) ≡ list_any (λ x. b && (f x && s)) xs
        under b s f xs = ap (λ c. b && c) (any_with f s xs) ∙ any_and b (λ x. f x && s) xs

        by : (o : Option Tenant) → option_map_or (given_waking_passes_in w rooms quotas key) o false
            ≡ (list_any (λ r. option_map_or (given_waking_passes_in w (r ∷ []) [] key) o false) rooms
            || list_any (λ q. option_map_or (given_waking_passes_in w [] (q ∷ []) key) o false) quotas)
        by None = sym (λ i. any_none rooms i || any_none quotas i)
        by (Some t) = ap (λ b. is_at_bound t.index && (b && shows_awake t key.1 (evaluation_at w key))) (each_wakes key)
            ∙ split_middle (is_at_bound t.index) (list_any (λ r. releases_wake_at w (r ∷ []) [] key) rooms)
            (list_any (λ q. releases_wake_at w [] (q ∷ []) key) quotas)
            (shows_awake t key.1 (evaluation_at w key))
            ∙ (λ i. under (is_at_bound t.index) (shows_awake t key.1 (evaluation_at w key)) (λ r. releases_wake_at w (r ∷ []) [] key) rooms i
            || under (is_at_bound t.index) (shows_awake t key.1 (evaluation_at w key)) (λ q. releases_wake_at w [] (q ∷ []) key) quotas i)

    wakings_parted : list_any (given_waking_passes w rooms quotas) w.blocked
        ≡ (list_any (λ r. list_any (by_room r) w.blocked) rooms || list_any (λ q. list_any (by_quota q) w.blocked) quotas)
    wakings_parted = any_same _ (λ key. list_any (λ r. by_room r key) rooms || list_any (λ q. by_quota q key) quotas) each_passes w.blocked
        ∙ any_both (λ key. list_any (λ r. by_room r key) rooms) (λ key. list_any (λ q. by_quota q key) quotas) w.blocked
        ∙ (λ i. any_swap (λ key r. by_room r key) w.blocked rooms i || any_swap (λ key q. by_quota q key) w.blocked quotas i)

    -- the release numbers, and the indexes of those that wake
    pub parted : (list_any (given_waking_passes w rooms quotas) w.blocked || list_any (room_passes w) rooms || list_any (quota_passes w) quotas)
        ≡ (list_any (given_room_passes w) rooms || list_any (given_limits_pass w) quotas)
    parted = ap (λ b. b || list_any (room_passes w) rooms || list_any (quota_passes w) quotas) wakings_parted
        ∙ turned (list_any (λ r. list_any (by_room r) w.blocked) rooms) (list_any (λ q. list_any (by_quota q) w.blocked) quotas)
        (list_any (room_passes w) rooms) (list_any (quota_passes w) quotas)
        ∙ (λ i. sym (any_both (room_passes w) (λ r. list_any (by_room r) w.blocked) rooms) i
        || sym (any_both (quota_passes w) (λ q. list_any (by_quota q) w.blocked) quotas) i)
      where
        turned : (a b r q : Bool) → ((a || b) || r || q) ≡ ((r || a) || (q || b))
        turned true b true q = refl
        turned true b false q = refl
        turned false true true true = refl
        turned false true true false = refl
        turned false true false true = refl
        turned false true false false = refl
        turned false false true q = refl
        turned false false false true = refl
        turned false false false false = refl
