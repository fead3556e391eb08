-- Release numbers pass their bounds only where the step releases, and numbers of places where the change has them.
use Rattle.std.specs.Prelude.{◌≡◌, ◌+◌, Bool, true, false, List, [], ◌∷◌, Option, Some, None, ◌&&◌, ◌||◌, is_some, map, nat_lt}
use Rattle.std.proofs.Common.{refl, ap, ◌∙◌, Ordering}
use Rattle.std.proofs.Math.Bool.{and-true}
use Rattle.std.specs.Option.{option_map_or}
use Rattle.std.specs.List.{list_any}
use Rattle.std.specs.Cmp.{eq_by_cmp_equiv}
use Rattle.std.specs.FinMap.{FinMap, entries, get}
use Rattle.keyed.specs.Table.{flat, row_at}
use Rattle.ns_types.specs.declared.node.Class.{Class}
use Rattle.ns_types.specs.declared.records.Quota.{Quota}
use Rattle.ns_types.specs.State.Names.{Name, ByName, same_name, has_name}
use Rattle.ns_types.specs.State.Rows.{World, PoolRows, QuotaRows}
use Rattle.ns_types.specs.Settling.Settle.{after_quota_release, after_release, number_releases, settle, stamp}
use Rattle.ns_types.specs.Settling.Releases.{released_classes, releases_quota, woken}
use Rattle.ns_types.specs.Steps.{greatest, is_pool_past_bound}
use Rattle.ns_types.specs.State.Tables.{map_rows, any_row}
use Rattle.ns_types.proofs.Lists.{any_alike, each, left_none, not_both, right_none}
use Rattle.ns_types.proofs.Named.{names, one_name}
use Rattle.ns_types.proofs.TableRows.{any_row-alike}
use Rattle.ns_types.proofs.Tables.{each_row, entries-map_rows, none_of_any}
use Rattle.ns_change.specs.declared.change.Change.{Change}
use Rattle.ns_change.specs.declared.change.PoolChange.{PoolChange}
use Rattle.ns_counters.specs.Bounds.{is_at_bound, is_place_past, places_pass, pools_pass, quotas_pass}
use Rattle.ns_release.specs.Released.{released_quotas, released_rooms}
use Rattle.ns_change.specs.Changed.{changed, changed_pool, changed_quota, perhaps}
use Rattle.ns_change.specs.Settled.{classes_in}
use Rattle.ns_release.proofs.Model.{pools_after, quotas_after, wake_pools, wake_quotas}
use Rattle.keyed.proofs.Over.{any_both, any_row-before, any_row-over}
use Rattle.ns_release.proofs.Rooms.{any_image, any_row-at, any_swap}

any_mapped : {A B : Type 0} (f : B → Bool) (g : A → B) (xs : List A) → list_any f (map g xs) ≡ list_any (λ x. f (g x)) xs
any_mapped f g [] = refl
any_mapped f g (x ∷ xs) = ap (λ b. f (g x) || b) (any_mapped f g xs)

module _ {K X : Type 0} {R : K → K → Ordering} where
  pub any_row-mapped : (f : K → X → Bool) (g : K → X → X) (m : FinMap R X) → any_row f (map_rows g m) ≡ any_row (λ k x. f k (g k x)) m
  unfolding any_row
  any_row-mapped f g m = ap (list_any (λ e. f e.0 e.1)) (entries-map_rows g m) ∙
      any_mapped (λ (e : K × X). f e.0 e.1) (λ (e : K × X). (e.0, g e.0 e.1)) (entries m)

  pub any_row-either : (f g : K → X → Bool) (m : FinMap R X) → any_row (λ k x. f k x || g k x) m ≡ (any_row f m || any_row g m)
  unfolding any_row
  any_row-either f g m = any_both (λ (e : K × X). f e.0 e.1) (λ (e : K × X). g e.0 e.1) (entries m)

or_and : (a r b : Bool) → ((a || r) && b) ≡ ((a && b) || (r && b))
or_and true r true = refl
or_and true true false = refl
or_and true false false = refl
or_and false r b = refl

-- some element passes, and something else holds
pub any_with : {A : Type 0} (f : A → Bool) (b : Bool) (xs : List A) → (list_any f xs && b) ≡ list_any (λ x. f x && b) xs
any_with f b [] = refl
any_with f b (x ∷ xs) = or_and (f x) (list_any f xs) b ∙ ap (λ r. (f x && b) || r) (any_with f b xs)

-- no slot is no row
pub no_slot : {X : Type 0} (r : Option (Option X)) → is_some r ≡ false → flat r ≡ None
no_slot None e = refl
no_slot (Some x) e = not_both refl e

-- a test of owners that are named in a list
pub any_named : {A X : Type 0} (name : A → Name) (p : A → Name → X → Bool) (m : ByName X) (xs : List A) →
    any_row (λ k x. list_any (λ a. same_name k (name a) && p a k x) xs) m ≡ list_any (λ a. option_map_or (p a (name a)) (get m (name a)) false) xs
unfolding any_row
any_named {A = A} {X = X} name p m xs = any_swap (λ (e : Name × X) a. same_name e.0 (name a) && p a e.0 e.1) (entries m) xs
    ∙ any_alike _ _ xs (each _ (λ a. any_alike (λ (e : Name × X). same_name e.0 (name a) && p a e.0 e.1)
    (λ e. same_name (name a) e.0 && p a e.0 e.1) (entries m)
    (each _ (λ e. ap (λ b. b && p a e.0 e.1) ((eq_by_cmp_equiv names).symm e.0 (name a))) (entries m)) ∙
    any_row-at names one_name (name a) (p a) m) xs)

pub any_chosen : {A X : Type 0} (name : A → Name) (p : X → Bool) (m : ByName X) (xs : List A) →
    any_row (λ k x. list_any (λ a. same_name k (name a)) xs && p x) m ≡ list_any (λ a. option_map_or p (get m (name a)) false) xs
any_chosen name p m xs = any_row-alike names one_name _ (λ k x. list_any (λ a. same_name k (name a) && p x) xs) m
    (λ k x _. any_with (λ a. same_name k (name a)) (p x) xs) ∙ any_named name (λ _ _ x. p x) m xs

module _ (w : World) (c : Change) where
  -- ---- quotas

  abbrev settled_quota : Name → QuotaRows → QuotaRows
  settled_quota name q = after_quota_release (has_name (released_quotas w c) name) (perhaps changed_quota (row_at c.quotas name) q)

  quotas_then : (settle w (changed w c)).quotas ≡ map_rows settled_quota w.quotas
  unfolding settle stamp number_releases
  quotas_then = ap (map_rows (λ name q. after_quota_release (releases_quota w (changed w c) name q) q)) (wake_quotas (woken w (changed w c)) (changed w c))
      ∙ quotas_after w c c refl

  released_passes : (name : Name) (q : QuotaRows) → nat_lt greatest q.release ≡ false →
      nat_lt greatest (settled_quota name q).release ≡ (has_name (released_quotas w c) name && is_at_bound q.release)
  released_passes name q within = by (has_name (released_quotas w c) name) (row_at c.quotas name)
    where
      by : (b : Bool) (x : Option Quota) → nat_lt greatest (after_quota_release b (perhaps changed_quota x q)).release ≡ (b && nat_lt greatest (q.release + 1))
      by true None = refl
      by true (Some x) = refl
      by false None = within
      by false (Some x) = within

  pub quotas_within : any_row (λ _ q. nat_lt greatest q.release) w.quotas ≡ false →
      any_row (λ _ q. nat_lt greatest q.release) (settle w (changed w c)).quotas ≡ quotas_pass w c
  quotas_within within = ap (any_row (λ _ q. nat_lt greatest q.release)) quotas_then
      ∙ any_row-mapped (λ _ q. nat_lt greatest q.release) settled_quota w.quotas
      ∙ any_row-alike names one_name _ (λ name q. has_name (released_quotas w c) name && is_at_bound q.release) w.quotas (λ name q at. released_passes name q
      (none_of_any one_name (λ _ q. nat_lt greatest q.release) w.quotas name q within at))
      ∙ any_chosen (λ name. name) (λ q. is_at_bound q.release) w.quotas (released_quotas w c)

  -- ---- pools

  abbrev places_in : Name → Option PoolChange → Bool
  places_in name x = option_map_or (λ x. list_any is_place_past (entries x.nodes)) x false

  pools_then : (settle w (changed w c)).pools ≡ map_rows
      (λ name p. after_release (classes_in name (released_rooms w c)) (perhaps changed_pool (row_at c.pools name) p)) w.pools
  unfolding settle stamp number_releases
  pools_then = ap (map_rows (λ name p. after_release (released_classes w (changed w c) name p) p)) (wake_pools (woken w (changed w c)) (changed w c))
      ∙ pools_after w c c refl

  abbrev is_past : PoolRows → Bool
  is_past p = is_pool_past_bound p

  released_past : (classes : List Class) (p : PoolRows) → nat_lt greatest p.release ≡ false →
      is_past (after_release classes p) ≡ ((list_any (λ _. true) classes && is_at_bound p.release) || any_row (λ _ node. nat_lt greatest node.places) p.nodes)
  released_past [] p within = ap (λ b. b || any_row (λ _ node. nat_lt greatest node.places) p.nodes) within
  released_past (x ∷ xs) p within = refl

  no_place : (p : PoolRows) → is_past p ≡ false → (x : Option PoolChange) →
      any_row (λ _ node. nat_lt greatest node.places) (perhaps changed_pool x p).nodes ≡ option_map_or (λ x. list_any is_place_past (entries x.nodes)) x false
  no_place p within None = right_none (nat_lt greatest p.release) _ within
  no_place p within (Some x) = any_row-over names one_name (λ _ node. nat_lt greatest node.places) p.nodes x.nodes
      (λ n node at _. none_of_any one_name (λ _ node. nat_lt greatest node.places) p.nodes n node (right_none (nat_lt greatest p.release) _ within) at)

  some_class : (name : Name) → list_any (λ _. true) (classes_in name (released_rooms w c)) ≡ list_any (λ r. same_name name r.0) (released_rooms w c)
  some_class name = any_image (λ _. true) (λ r. r.1) (λ r. same_name name r.0) (released_rooms w c) ∙
      any_alike _ (λ r. same_name name r.0) (released_rooms w c) (each _ (λ r. and-true (same_name name r.0)) (released_rooms w c))

  pool_past : (name : Name) (p : PoolRows) → is_past p ≡ false →
      is_past (after_release (classes_in name (released_rooms w c)) (perhaps changed_pool (row_at c.pools name) p))
      ≡ ((list_any (λ r. same_name name r.0) (released_rooms w c) && is_at_bound p.release) || places_in name (row_at c.pools name))
  pool_past name p within = released_past (classes_in name (released_rooms w c)) (perhaps changed_pool (row_at c.pools name) p)
      (kept (row_at c.pools name)) ∙ (λ i. (some_class name i && is_at_bound (release (row_at c.pools name) i)) || no_place p within (row_at c.pools name) i)
    where
      release : (x : Option PoolChange) → (perhaps changed_pool x p).release ≡ p.release
      release None = refl
      release (Some x) = refl

      kept : (x : Option PoolChange) → nat_lt greatest (perhaps changed_pool x p).release ≡ false
      kept x = ap (nat_lt greatest) (release x) ∙ left_none _ _ within

  pub pools_within : any_row (λ _ p. is_pool_past_bound p) w.pools ≡ false →
      any_row (λ _ p. is_pool_past_bound p) (settle w (changed w c)).pools ≡ pools_pass w c
  pools_within within = ap (any_row (λ _ p. is_past p)) pools_then
      ∙ any_row-mapped (λ _ p. is_past p)
      (λ name p. after_release (classes_in name (released_rooms w c)) (perhaps changed_pool (row_at c.pools name) p)) w.pools
      ∙ any_row-alike names one_name _ (λ name p. (list_any (λ r. same_name name r.0) (released_rooms w c) && is_at_bound p.release)
      || places_in name (row_at c.pools name)) w.pools
      (λ name p at. pool_past name p (none_of_any one_name (λ _ p. is_past p) w.pools name p within at))
      ∙ any_row-either (λ name p. list_any (λ r. same_name name r.0) (released_rooms w c) && is_at_bound p.release)
      (λ name _. places_in name (row_at c.pools name))
      w.pools
      ∙ (λ i. any_chosen (λ r. r.0) (λ p. is_at_bound p.release) w.pools (released_rooms w c) i || places i)
    where
      of : (x : Option PoolChange) (p : Option PoolRows) → option_map_or (λ _. places_in [] x) p false
          ≡ option_map_or (λ x. option_map_or (λ _. list_any is_place_past (entries x.nodes)) p false) x false
      of None None = refl
      of None (Some p) = refl
      of (Some x) p = refl

      places : any_row (λ name _. places_in name (row_at c.pools name)) w.pools ≡ list_any (places_pass w) (entries c.pools)
      places = any_row-before names one_name (λ name _. places_in name (row_at c.pools name)) w.pools c.pools
          (λ name p at out. ap (places_in name) (no_slot (get c.pools name) out))
          ∙ any_alike _ (places_pass w) (entries c.pools)
          (each_row names one_name _ c.pools (λ name x at. ap (λ r. option_map_or (λ _. places_in name (flat r)) (get w.pools name) false) at ∙
          of x (get w.pools name)))
