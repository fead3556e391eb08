-- The state after the stops, row by row and sum by sum.
use Rattle.std.specs.Prelude.{◌≡◌, ◌-◌, ℕ, ◌+◌, ◌++◌, Bool, true, false, cond, List, [], ◌∷◌, Option, Some, None, ◌&&◌, ◌||◌, filter, is_some, not, option_map}
use Rattle.std.specs.Prelude.{sum_by}
use Rattle.std.proofs.Common.{◌<◌, append_assoc, get_or, length, take, add-one, refl, sym, ap, ◌∙◌, arith}
use Rattle.std.proofs.Math.Seq.{take-suc}
use Rattle.std.proofs.lemmas.List.{append-nil, map-append}
use Rattle.std.proofs.lemmas.List.Folds.{list_any-append}
use Rattle.std.proofs.lemmas.List.Sums.{sum_by-append, sum_by-cons}
use Rattle.std.specs.FinMap.{get}
use Rattle.std.specs.Option.{option_and_then, option_map_or}
use Rattle.ns_types.specs.declared.allocation.Allocation.{Allocation}
use Rattle.ns_types.specs.declared.plan.Eviction.{Eviction}
use Rattle.ns_types.specs.declared.resources.Resources.{Resources}
use Rattle.ns_types.specs.State.Names.{Key, Name, has_key, has_number, same_key, same_name, same_number}
use Rattle.ns_types.specs.State.Resources.{Resource, each_resource, minus, none, quantity, same_resources}
use Rattle.ns_types.specs.State.Rows.{Tenant, World, allocation_at, is_live, is_live_on, node_at}
use Rattle.ns_types.specs.State.Sums.{names_quota, node_load, quota_use}
use Rattle.ns_types.specs.Working.Commit.{counts, quota_named, stop_all, victim_key}
use Rattle.ns_types.specs.Working.Parts.{lives_at}
use Rattle.ns_types.proofs.Elements.{any_kept, any_map, any_under, filter_map}
use Rattle.ns_types.specs.Settling.Gone.{rows_gone}
use Rattle.ns_types.proofs.Gone.{stopped_are, stopped_row}
use Rattle.ns_types.proofs.Less.{nodes_stay, quotas_stay, allocation_then, gone_alike, load_less, named_stays, use_less}
use Rattle.ns_types.proofs.Lists.{not_both}
use Rattle.ns_types.proofs.Named.{one_number, same_name_refl}
use Rattle.ns_types.proofs.Once.{key_is, once, once_apart, once_has, once_push}
use Rattle.ns_types.proofs.Taken.{node_part, quota_part, row_size, size_at}
use Rattle.ns_types.proofs.Tables.{tied}
use Rattle.ns_types.proofs.Tests.{or_none}
use Rattle.ns_plan.specs.After.{after_stops, counted, counted_stops, names, part_of_quota, part_on, shares, stop_keys}
use Rattle.ns_plan.specs.Looks.{if_live, live_at}
use Rattle.ns_plan.specs.Reader.{load_left, quota_left, use_left}
use Rattle.ns_types.proofs.Amounts.{minus_none, quantity_none, same_of_each, true_at}

-- ---- rows

pub stopped_has : (ns : Name) (stops : List ℕ) (owner : Name) (n : ℕ) → has_key (stop_keys ns stops) (owner, n) ≡ (same_name owner ns && has_number stops n)
stopped_has ns stops owner n = any_map (same_key (owner, n)) (λ m. (ns, m)) stops ∙ any_under (same_name owner ns) (same_number n) stops

live_stopped : (w : World) (ns : Name) (stops : List ℕ) (key : Key) →
    live_at (stop_all ns stops w) key ≡ cond (has_key (stop_keys ns stops) key) None (live_at w key)
live_stopped w ns stops key = ap (λ x. live_at x key) (stopped_are ns stops w)
    ∙ ap if_live (allocation_then stopped_row (λ a. refl) w (stop_keys ns stops) key)
    ∙ by (allocation_at w key) (has_key (stop_keys ns stops) key)
  where
    by : (r : Option Allocation) (b : Bool) → if_live (option_map (λ a. cond b (stopped_row a) a) r)
        ≡ cond b None (if_live r)
    by None true = refl
    by None false = refl
    by (Some a) true = refl
    by (Some a) false = refl

module _ (w : World) (ns : Name) (stops : List ℕ) where
  counted_are : stop_keys ns (counted_stops w ns stops) ≡ filter (lives_at w) (stop_keys ns stops)
  counted_are = sym (filter_map (lives_at w) (λ n. (ns, n)) stops)

  pub live_after : (key : Key) → live_at (after_stops w ns stops) key ≡ cond (has_key (stop_keys ns stops) key) None (live_at w key)
  live_after key = live_stopped w ns (counted_stops w ns stops) key ∙ ap (λ b. cond b None (live_at w key)) counted_has
      ∙ by (has_key (stop_keys ns stops) key) (allocation_at w key)
    where
      counted_has : has_key (stop_keys ns (counted_stops w ns stops)) key ≡ (has_key (stop_keys ns stops) key && lives_at w key)
      counted_has = ap (λ l. has_key l key) counted_are
          ∙ any_kept (same_key key) (lives_at w) (lives_at w key) (λ k e. ap (lives_at w) (sym (key_is key k e))) (stop_keys ns stops)

      row : (a : Allocation) (l : Bool) → cond l None (cond l (Some a) None) ≡ None
      row a true = refl
      row a false = refl

      by : (b : Bool) (r : Option Allocation) → cond (b && option_map_or is_live r false) None (if_live r) ≡ cond b None (if_live r)
      by false r = refl
      by true None = refl
      by true (Some a) = row a (is_live a)

-- ---- evictions that count

abbrev passes : Name → Name → Eviction → Allocation → Bool
passes pool node e a = is_live_on pool node a && same_number a.priority e.priority

pub counted_live : (w : World) (pool node : Name) (e : Eviction) → counted w pool node e ≡
    option_and_then (λ a. cond (is_live_on pool node a && same_number a.priority e.priority) (Some a) None) (live_at w (victim_key e))
unfolding counts
counted_live w pool node e = by (allocation_at w (victim_key e))
  where
    row : (a : Allocation) (b : Bool) → is_live a ≡ b → cond (passes pool node e a) (Some a) None ≡
        option_and_then (λ a. cond (passes pool node e a) (Some a) None) (cond b (Some a) None)
    row a true t = refl
    row a false t = ap (λ l. cond ((l && (same_name pool a.pool && same_name node a.node)) && same_number a.priority e.priority) (Some a) None) t

    by : (r : Option Allocation) → cond (option_map_or (passes pool node e) r false) r None ≡
        option_and_then (λ a. cond (passes pool node e a) (Some a) None) (if_live r)
    by None = refl
    by (Some a) = row a (is_live a) refl

pub counted_some : (w : World) (pool node : Name) (e : Eviction) → is_some (counted w pool node e) ≡ counts w pool node e
unfolding counts
counted_some w pool node e = by (allocation_at w (victim_key e))
  where
    some : (a : Allocation) (b : Bool) → is_some (cond b (Some a) None) ≡ b
    some a true = refl
    some a false = refl

    by : (r : Option Allocation) → is_some (cond (option_map_or (passes pool node e) r false) r None) ≡ option_map_or (passes pool node e) r false
    by None = refl
    by (Some a) = some a (passes pool node e a)

-- ---- sums

module _ (f : Resource → Key → ℕ) where
  abbrev sums : List Key → Resources
  sums keys = each_resource (λ r. sum_by (f r) keys)

  -- one key more takes its part
  one_less : (whole part : Resources) (keys : List Key) (k : Key) → ((r : Resource) → f r k ≡ quantity r part) →
      minus whole (sums (keys ++ k ∷ [])) ≡ minus (minus whole (sums keys)) part
  one_less whole part keys k takes =
      same_of_each (λ r. quantity r whole - sum_by (f r) (keys ++ k ∷ [])) (λ r. (quantity r whole - sum_by (f r) keys) - quantity r part) (λ r.
      let all = sum_by-append (f r) keys (k ∷ []) in
      let one = sum_by-cons (f r) k [] in
      omega (arith, all, one, takes r))

  -- or nothing, where it is among them
  next_less : (whole part : Resources) (keys : List Key) (k : Key) → ((r : Resource) → f r k ≡ quantity r part) →
      minus whole (sums (once (keys ++ k ∷ []))) ≡ cond (has_key keys k) (minus whole (sums (once keys))) (minus (minus whole (sums (once keys))) part)
  next_less whole part keys k takes = ap (λ l. minus whole (sums l)) (once_push keys k) ∙ by (has_key keys k)
    where
      by : (b : Bool) → minus whole (sums (cond b (once keys) (once keys ++ k ∷ []))) ≡ cond b (minus whole (sums (once keys)))
          (minus (minus whole (sums (once keys))) part)
      by true = refl
      by false = one_less whole part (once keys) k takes

-- who takes nothing off changes nothing
nothing_less : (a b : Resources) → same_resources b none ≡ true → minus a b ≡ a
nothing_less a b e = same_of_each (λ r. quantity r a - quantity r b) (λ r. quantity r a) (λ r.
    let nothing = tied one_number (quantity r b) 0 (true_at (λ r. same_number (quantity r b) 0) e r) in
    omega (arith, nothing))

pub first_less : (whole part : Resources) (b : Bool) →
    cond (not (same_resources part none) && not b) (minus whole part) whole ≡ cond b whole (minus whole part)
first_less whole part b = by (same_resources part none) refl b
  where
    by : (n : Bool) → same_resources part none ≡ n → (b : Bool) → cond (not n && not b) (minus whole part) whole ≡ cond b whole (minus whole part)
    by true e true = refl
    by true e false = sym (nothing_less whole part e)
    by false e true = refl
    by false e false = refl

-- ---- what an allocation takes

module _ (amount : Resources → ℕ) (nothing : amount none ≡ 0) where
  sized : (a : Allocation) (b : Bool) → cond b (amount a.size) 0 ≡ amount (cond b a.size none)
  sized a true = refl
  sized a false = sym nothing

  pub on_node : (w : World) (pool node : Name) (k : Key) → node_part w pool node amount k ≡ amount (part_on pool node (allocation_at w k))
  on_node w pool node k = by (get w.tenants k.0)
    where
      row : (r : Option Allocation) → option_map_or (row_size (is_live_on pool node) amount) r 0 ≡ amount (part_on pool node r)
      row None = sym nothing
      row (Some a) = sized a (is_live_on pool node a)

      by : (o : Option Tenant) → option_map_or (λ t. size_at (is_live_on pool node) amount t k.1) o 0 ≡
          amount (part_on pool node (option_and_then (λ t. get t.allocations k.1) o))
      by None = sym nothing
      by (Some t) = row (get t.allocations k.1)

  of_quota : (w : World) (quota : Name) (k : Key) → quota_part w quota amount k ≡ amount (part_of_quota (names w quota k.0) (allocation_at w k))
  of_quota w quota k = by (get w.tenants k.0)
    where
      row : (named : Bool) (r : Option Allocation) → cond named (option_map_or (row_size is_live amount) r 0) 0 ≡ amount (part_of_quota named r)
      row true None = sym nothing
      row false None = sym nothing
      row true (Some a) = sized a (is_live a)
      row false (Some a) = sym nothing

      by : (o : Option Tenant) → option_map_or (λ t. cond (names_quota quota t.namespace) (size_at is_live amount t k.1) 0) o 0 ≡
          amount (part_of_quota (option_map_or (same_name quota) (option_and_then (λ t. t.namespace.quota) o) false)
          (option_and_then (λ t. get t.allocations k.1) o))
      by None = sym nothing
      by (Some t) = row (names_quota quota t.namespace) (get t.allocations k.1)

-- a row that is not live takes nothing
dead_part : (pool node : Name) (r : Option Allocation) → option_map_or is_live r false ≡ false → part_on pool node r ≡ none
dead_part pool node None e = refl
dead_part pool node (Some a) e = ap (λ l. cond (l && (same_name pool a.pool && same_name node a.node)) a.size none) e

dead_share : (named : Bool) (r : Option Allocation) → option_map_or is_live r false ≡ false → part_of_quota named r ≡ none
dead_share named None e = refl
dead_share named (Some a) e = ap (λ l. cond (named && l) a.size none) e ∙ out named
  where
    out : (b : Bool) → cond (b && false) a.size none ≡ none
    out true = refl
    out false = refl

-- ---- the loops' steps

module _ (w : World) (pool node : Name) where
  -- over the stops, of which one may come twice
  pub load_next : (keys : List Key) (k : Key) → load_left w pool node (once (keys ++ k ∷ [])) ≡
      cond (has_key keys k) (load_left w pool node (once keys)) (minus (load_left w pool node (once keys)) (part_on pool node (allocation_at w k)))
  load_next keys k = next_less (λ r. node_part w pool node (quantity r)) (node_load w pool node) (part_on pool node (allocation_at w k)) keys k
      (λ r. on_node (quantity r) (quantity_none r) w pool node k)

module _ (w : World) (quota : Name) where
  pub use_next : (keys : List Key) (k : Key) → use_left w quota (once (keys ++ k ∷ [])) ≡
      cond (has_key keys k) (use_left w quota (once keys)) (minus (use_left w quota (once keys)) (part_of_quota (names w quota k.0) (allocation_at w k)))
  use_next keys k = next_less (λ r. quota_part w quota (quantity r)) (quota_use w quota) (part_of_quota (names w quota k.0) (allocation_at w k)) keys k
      (λ r. of_quota (quantity r) (quantity_none r) w quota k)

  pub use_all : use_left w quota [] ≡ quota_use w quota
  use_all = minus_none (quota_use w quota)

-- the same with the quota that may be there
pub quota_next : (w : World) (quota : Option Name) (keys : List Key) (k : Key) → quota_left w quota (once (keys ++ k ∷ [])) ≡
    cond (has_key keys k) (quota_left w quota (once keys))
    (minus (quota_left w quota (once keys)) (part_of_quota (shares w quota k.0) (allocation_at w k)))
quota_next w None keys k = by (has_key keys k)
  where
    by : (b : Bool) → none ≡ cond b none (minus none (part_of_quota false (allocation_at w k)))
    by true = refl
    by false = same_of_each (λ r. 0) (λ r. 0 - quantity r (part_of_quota false (allocation_at w k))) (λ r. omega arith)
quota_next w (Some quota) keys k = use_next w quota keys k

-- ---- keys of which only some take something

module _ (left : List Key → Resources) (part : Key → Resources) (next : (keys : List Key) (k : Key) → left (once (keys ++ k ∷ [])) ≡
    cond (has_key keys k) (left (once keys)) (minus (left (once keys)) (part k))) (takes : Key → Bool)
    (nothing : (k : Key) → takes k ≡ false → part k ≡ none) where
  abbrev Skips : List Key → Type 0
  Skips ks = (xs ys : List Key) → left (once xs) ≡ left (once ys) → ((k : Key) → takes k ≡ true → has_key xs k ≡ has_key ys k) →
      left (once (xs ++ ks)) ≡ left (once (ys ++ filter takes ks))

  skipped : (ks : List Key) → Skips ks
  skipped [] xs ys same alike = ap (λ l. left (once l)) (append-nil xs) ∙ same ∙ ap (λ l. left (once l)) (sym (append-nil ys))
  skipped (k ∷ ks) xs ys same alike = ap (λ l. left (once l)) (sym (append_assoc xs (k ∷ []) ks)) ∙ by (skipped ks) (takes k) refl
    where
      idle : (b : Bool) → part k ≡ none → cond b (left (once xs)) (minus (left (once xs)) (part k)) ≡ left (once xs)
      idle true e = refl
      idle false e = ap (minus (left (once xs))) e ∙ minus_none (left (once xs))

      other : takes k ≡ false → (q : Key) → takes q ≡ true → (b : Bool) → same_key q k ≡ b → (same_key q k || false) ≡ false
      other e q t true f = not_both t (ap takes (key_is q k f) ∙ e)
      other e q t false f = ap (λ b. b || false) f

      by : Skips ks → (b : Bool) → takes k ≡ b →
          left (once ((xs ++ k ∷ []) ++ ks)) ≡ left (once (ys ++ cond b (k ∷ filter takes ks) (filter takes ks)))
      by rest true e = rest (xs ++ k ∷ []) (ys ++ k ∷ [])
          (next xs k ∙ (λ i. cond (alike k e i) (same i) (minus (same i) (part k))) ∙ sym (next ys k))
          (λ q t. list_any-append (same_key q) xs (k ∷ []) ∙ ap (λ b. b || (same_key q k || false)) (alike q t)
          ∙ sym (list_any-append (same_key q) ys (k ∷ [])))
          ∙ ap (λ l. left (once l)) (append_assoc ys (k ∷ []) (filter takes ks))
      by rest false e = rest (xs ++ k ∷ []) ys (next xs k ∙ idle (has_key xs k) (nothing k e) ∙ same)
          (λ q t. list_any-append (same_key q) xs (k ∷ []) ∙ ap (λ b. has_key xs q || b) (other e q t (same_key q k) refl) ∙ or_none (has_key xs q) ∙ alike q t)

-- ---- after the stops

module _ (w : World) (ns : Name) (stops : List ℕ) where
  once_stopped : stop_all ns stops w ≡ rows_gone stopped_row w (once (stop_keys ns stops))
  once_stopped = stopped_are ns stops w ∙ gone_alike stopped_row (λ a. refl) w (stop_keys ns stops) (once (stop_keys ns stops))
      (λ k. sym (once_has (stop_keys ns stops) k))

  load_stopped : (pool node : Name) → node_load (stop_all ns stops w) pool node ≡ load_left w pool node (once (stop_keys ns stops))
  load_stopped pool node = ap (λ x. node_load x pool node) once_stopped
      ∙ load_less stopped_row (λ a. refl) w (once (stop_keys ns stops)) (once_apart (stop_keys ns stops)) pool node

  use_stopped : (quota : Name) → quota_use (stop_all ns stops w) quota ≡ use_left w quota (once (stop_keys ns stops))
  use_stopped quota = ap (λ x. quota_use x quota) once_stopped
      ∙ use_less stopped_row (λ a. refl) w (once (stop_keys ns stops)) (once_apart (stop_keys ns stops)) quota

  names_stopped : (quota owner : Name) → names (stop_all ns stops w) quota owner ≡ names w quota owner
  names_stopped quota owner = ap (λ q. option_map_or (same_name quota) q false)
      (ap (λ x. quota_named x owner) once_stopped ∙ named_stays stopped_row (λ a. refl) w (once (stop_keys ns stops)) owner)

module _ (w : World) (ns : Name) (stops : List ℕ) where
  pub load_after : (pool node : Name) → node_load (after_stops w ns stops) pool node ≡ load_left w pool node (once (stop_keys ns stops))
  load_after pool node = load_stopped w ns (counted_stops w ns stops) pool node ∙ ap (λ l. load_left w pool node (once l)) (counted_are w ns stops)
      ∙ sym (skipped (load_left w pool node) (λ k. part_on pool node (allocation_at w k)) (load_next w pool node) (lives_at w)
      (λ k e. dead_part pool node (allocation_at w k) e) (stop_keys ns stops) [] [] refl (λ k t. refl))

  pub use_after : (quota : Name) → quota_use (after_stops w ns stops) quota ≡ use_left w quota (once (stop_keys ns stops))
  use_after quota = use_stopped w ns (counted_stops w ns stops) quota ∙ ap (λ l. use_left w quota (once l)) (counted_are w ns stops)
      ∙ sym (skipped (use_left w quota) (λ k. part_of_quota (names w quota k.0) (allocation_at w k)) (use_next w quota) (lives_at w)
      (λ k e. dead_share (names w quota k.0) (allocation_at w k) e) (stop_keys ns stops) [] [] refl (λ k t. refl))

  -- who names a quota stays
  pub shares_after : (quota : Option Name) (owner : Name) → shares (after_stops w ns stops) quota owner ≡ shares w quota owner
  shares_after None owner = refl
  shares_after (Some quota) owner = names_stopped w ns (counted_stops w ns stops) quota owner

  pub quota_after : (owner : Name) → quota_named (after_stops w ns stops) owner ≡ quota_named w owner
  quota_after owner = ap (λ x. quota_named x owner) (once_stopped w ns (counted_stops w ns stops))
      ∙ named_stays stopped_row (λ a. refl) w (once (stop_keys ns (counted_stops w ns stops))) owner

  -- and what quotas allow
  pub quotas_after : (after_stops w ns stops).quotas ≡ w.quotas
  quotas_after = ap (λ x. x.quotas) (once_stopped w ns (counted_stops w ns stops))
      ∙ quotas_stay stopped_row (λ a. refl) w (once (stop_keys ns (counted_stops w ns stops)))

  pub node_after : (pool name : Name) → node_at (after_stops w ns stops) pool name ≡ node_at w pool name
  node_after pool name = ap (λ x. node_at x pool name) (once_stopped w ns (counted_stops w ns stops)) ∙
      nodes_stay stopped_row (λ a. refl) w (once (stop_keys ns (counted_stops w ns stops))) pool name

-- ---- one element more

module _ (ns : Name) (stops : List ℕ) (i : ℕ) (inside : i < length stops) where
  stops_next : stop_keys ns (take (i + 1) stops) ≡ stop_keys ns (take i stops) ++ (ns, get_or stops i 0) ∷ []
  stops_next = ap (stop_keys ns) (ap (λ n. take n stops) (add-one i) ∙ take-suc stops i 0 inside)
      ∙ map-append (λ n. (ns, n)) (take i stops) (get_or stops i 0 ∷ [])

  found : (b : Bool) → has_number (take i stops) (get_or stops i 0) ≡ b → has_key (stop_keys ns (take i stops)) (ns, get_or stops i 0) ≡ b
  found b e = stopped_has ns (take i stops) ns (get_or stops i 0) ∙ ap (λ c. c && has_number (take i stops) (get_or stops i 0)) (same_name_refl ns) ∙ e

  module _ (w : World) (b : Bool) (is : has_number (take i stops) (get_or stops i 0) ≡ b) where
    pub load_step : (pool node : Name) → load_left w pool node (once (stop_keys ns (take (i + 1) stops))) ≡
        cond b (load_left w pool node (once (stop_keys ns (take i stops))))
        (minus (load_left w pool node (once (stop_keys ns (take i stops)))) (part_on pool node (allocation_at w (ns, get_or stops i 0))))
    load_step pool node = ap (λ l. load_left w pool node (once l)) stops_next ∙ load_next w pool node (stop_keys ns (take i stops)) (ns, get_or stops i 0)
        ∙ ap (λ b. cond b (load_left w pool node (once (stop_keys ns (take i stops))))
        (minus (load_left w pool node (once (stop_keys ns (take i stops)))) (part_on pool node (allocation_at w (ns, get_or stops i 0))))) (found b is)

    pub use_step : (quota : Name) → use_left w quota (once (stop_keys ns (take (i + 1) stops))) ≡
        cond b (use_left w quota (once (stop_keys ns (take i stops))))
        (minus (use_left w quota (once (stop_keys ns (take i stops)))) (part_of_quota (names w quota ns) (allocation_at w (ns, get_or stops i 0))))
    use_step quota = ap (λ l. use_left w quota (once l)) stops_next ∙ use_next w quota (stop_keys ns (take i stops)) (ns, get_or stops i 0)
        ∙ ap (λ b. cond b (use_left w quota (once (stop_keys ns (take i stops))))
        (minus (use_left w quota (once (stop_keys ns (take i stops)))) (part_of_quota (names w quota ns) (allocation_at w (ns, get_or stops i 0)))))
        (found b is)
