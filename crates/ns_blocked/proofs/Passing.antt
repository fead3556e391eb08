-- The places of all entries that pass, and the list without them.
use Rattle.std.specs.Prelude.{◌≡◌, ℕ, ◌<◌, Bool, true, false, cond, not, ◌&&◌, ◌||◌, T, IsTrue, List, [], ◌∷◌, ◌++◌, length, map, filter}
use Rattle.std.specs.Prelude.{Option, Some, None, is_some, option_map, reverse}
use Rattle.std.proofs.Common.{refl, sym, ap, subst, ◌∙◌, arith}
use Rattle.std.proofs.Math.Bool.{and-false, and-true}
use Rattle.std.proofs.lemmas.Map.Lookups.{btree_set_from_contains, exact_unsigned}
use Rattle.std.specs.declared.cmp.Ordering.TheVariants.{Less}
use Rattle.std.specs.FinMap.{entries, entries_sorted, get}
use Rattle.std.specs.FinMap.Entries.{below_all, is_sorted}
use Rattle.std.specs.List.{AllByRecursion, cons_option, list_any}
use Rattle.std.specs.List.Sorted.{IsStrictlySortedBy}
use Rattle.std.specs.Ordering.{nat_cmp}
use Rattle.keyed.specs.Queue.{Queue}
use Rattle.keyed.specs.Table.{row_at, rows}
use Rattle.keyed.proofs.Queued.{chosen, items_are, items_chosen}
use Rattle.keyed.proofs.Tables.{get-rows}
use Rattle.ns_types.specs.declared.node.Class.{Class}
use Rattle.ns_types.specs.State.Lists.{Each}
use Rattle.ns_types.specs.State.Names.{Key, Name, ByNumber, has_number, same_name, same_number}
use Rattle.ns_types.proofs.Elements.{any_map, any_same, each_still, filter_map, map_map}
use Rattle.ns_types.proofs.Lists.{none_of}
use Rattle.ns_types.proofs.Named.{numbers, one_number, same_number_refl}
use Rattle.ns_types.proofs.Tables.{each_row, less_by}
use Rattle.ns_types.proofs.Tests as tests
use Rattle.ns_blocked.specs.declared.entry.BlockedEvaluation.{BlockedEvaluation}
use Rattle.ns_blocked.specs.declared.entry.Waits.{Waits}
use Rattle.ns_blocked.specs.declared.entry.Waits.TheVariants.{Pool, Quota}
use Rattle.ns_blocked.specs.declared.groups.Groups.{Groups}
use Rattle.ns_blocked.specs.declared.releases.ReleasedPool.{ReleasedPool}
use Rattle.ns_blocked.specs.declared.releases.Releases.{Releases}
use Rattle.ns_blocked.specs.Blocked.{BlockedList, IsGrouped, entries_of, entry_at, waits_at}
use Rattle.ns_blocked.specs.Groups.{same_waits}
use Rattle.ns_blocked.specs.Waking.{AddsPlaces, AreKeysAt, ArePassing, ArePresent, IsLeftWithout, can_use, can_use_any, is_of_pool, is_of_quota}
use Rattle.ns_blocked.specs.Waking.{is_usable, is_woken, keys_of_passing, passes_at, released_in, wakes_of_pool, wakes_of_quota, wakes_waiting}
use Rattle.ns_blocked.specs.Waking.{without_passing}
use Rattle.ns_blocked.proofs.OneKey.{any_row_at}
use Rattle.ns_blocked.proofs.Places.{IsTaking, TakesPlaces, keys_at}

-- ---- the places of all that pass

kept_below : {X : Type 0} (passes : X → Bool) (x : ℕ) (es : List (ℕ × X)) → T (below_all nat_cmp x es) →
    AllByRecursion (λ y. nat_cmp x y ≡ Less) (map (λ e. e.0) (filter (λ e. passes e.1) es))
kept_below passes x [] h = tt
kept_below {X = X} passes x (e ∷ es) h = by (passes e.1) (kept_below passes x es (tests.second _ _ h))
  where
    rest : List (ℕ × X)
    rest = filter (λ e. passes e.1) es

    by : (b : Bool) → AllByRecursion (λ y. nat_cmp x y ≡ Less) (map (λ e. e.0) rest) →
        AllByRecursion (λ y. nat_cmp x y ≡ Less) (map (λ e. e.0) (cond b (e ∷ rest) rest))
    by true above = (less_by (nat_cmp x e.0) (tests.first _ _ h), above)
    by false above = above

kept_sorted : {X : Type 0} (passes : X → Bool) (es : List (ℕ × X)) → T (is_sorted nat_cmp es) →
    IsStrictlySortedBy nat_cmp (map (λ e. e.0) (filter (λ e. passes e.1) es))
unfolding IsStrictlySortedBy
kept_sorted passes [] h = tt
kept_sorted {X = X} passes (e ∷ es) h = by (passes e.1) (kept_sorted passes es (tests.second _ _ h))
  where
    rest : List (ℕ × X)
    rest = filter (λ e. passes e.1) es

    by : (b : Bool) → IsStrictlySortedBy nat_cmp (map (λ e. e.0) rest) → IsStrictlySortedBy nat_cmp (map (λ e. e.0) (cond b (e ∷ rest) rest))
    by true sorted = (kept_below passes e.0 es (tests.first _ _ h), sorted)
    by false sorted = sorted

pub any_kept : {A : Type 0} (p passes : A → Bool) (xs : List A) → list_any p (filter passes xs) ≡ list_any (λ x. p x && passes x) xs
any_kept p passes [] = refl
any_kept {A = A} p passes (x ∷ xs) = by (passes x) (any_kept p passes xs)
  where
    rest : List A
    rest = filter passes xs

    others : Bool
    others = list_any (λ x. p x && passes x) xs

    by : (b : Bool) → list_any p rest ≡ others → list_any p (cond b (x ∷ rest) rest) ≡ ((p x && b) || others)
    by true same = λ i. sym (and-true (p x)) i || same i
    by false same = same ∙ ap (λ b. b || others) (sym (and-false (p x)))

module _ (b : BlockedList) (passes : BlockedEvaluation → Bool) where
  abbrev placed : ByNumber BlockedEvaluation
  placed = rows b.queue.placed.rows

  placed_at : (n : ℕ) → get placed n ≡ entry_at b n
  placed_at n = get-rows numbers b.queue.placed.rows n

  entries_are : entries_of b ≡ map (λ e. e.1) (entries placed)
  entries_are = sym b.queue.in_order ∙ items_are b.queue.placed.rows

  passing : List (ℕ × BlockedEvaluation)
  passing = filter (λ e. passes e.1) (entries placed)

  has_passing : (n : ℕ) → has_number (map (λ e. e.0) passing) n ≡ passes_at passes (entry_at b n)
  unfolding passing
  has_passing n = any_map (same_number n) (λ (e : ℕ × BlockedEvaluation). e.0) passing
      ∙ any_kept (λ (e : ℕ × BlockedEvaluation). same_number n e.0) (λ e. passes e.1) (entries placed)
      ∙ any_row_at numbers one_number placed n passes (same_number_refl n) ∙ ap (passes_at passes) (placed_at n)

  listed_keys : (es : List (ℕ × BlockedEvaluation)) → Each (λ e. entry_at b e.0 ≡ Some e.1) es → keys_at b (map (λ e. e.0) es) ≡ map (λ e. e.1.key) es
  listed_keys [] h = refl
  listed_keys (e ∷ es) h = λ i. cons_option (option_map (λ (e : BlockedEvaluation). e.key) (h.0 i)) (listed_keys es h.1 i)

  pub passing_keys : (places : List ℕ) → ArePassing passes b places → IsStrictlySortedBy nat_cmp places →
      keys_at b places ≡ keys_of_passing passes (entries_of b)
  unfolding passing
  passing_keys places are sorted = ap (keys_at b) (btree_set_from_contains numbers (record { keys = places })
      (record { keys = map (λ e. e.0) passing }) sorted
      (kept_sorted passes (entries placed) (entries_sorted placed)) (λ n. are n ∙ sym (has_passing n)) exact_unsigned)
      ∙ listed_keys passing (each_still (λ (e : ℕ × BlockedEvaluation). entry_at b e.0 ≡ Some e.1) (λ e. passes e.1) (entries placed)
      (each_row numbers one_number (λ n x. entry_at b n ≡ Some x) placed (λ n x at. sym (placed_at n) ∙ at)))
      ∙ sym (map_map (λ (e : BlockedEvaluation). e.key) (λ (e : ℕ × BlockedEvaluation). e.1) passing)
      ∙ ap (map (λ (e : BlockedEvaluation). e.key)) (sym (filter_map passes (λ (e : ℕ × BlockedEvaluation). e.1) (entries placed)))
      ∙ ap (keys_of_passing passes) (sym entries_are)

  pub passing_gone : (new : BlockedList) (places : List ℕ) → ArePassing passes b places → TakesPlaces places b new →
      entries_of new ≡ without_passing passes (entries_of b)
  passing_gone new places are taken = sym new.queue.in_order
      ∙ items_chosen (λ e. not (passes e)) b.queue.placed.rows new.queue.placed.rows (λ n. taken n
      ∙ ap (λ c. cond c None (entry_at b n)) (are n) ∙ by (entry_at b n))
      ∙ ap (without_passing passes) b.queue.in_order
    where
      which : (e : BlockedEvaluation) (c : Bool) → cond c None (Some e) ≡ cond (not c) (Some e) None
      which e true = refl
      which e false = refl

      by : (r : Option BlockedEvaluation) → cond (passes_at passes r) None r ≡ chosen (λ e. not (passes e)) r
      by None = refl
      by (Some e) = which e (passes e)

-- ---- all that pass are taken out

-- where an entry passes, it is there
pub passing_there : (b : BlockedList) (passes : BlockedEvaluation → Bool) (places : List ℕ) → ArePassing passes b places → ArePresent places b
passing_there b passes places are n among = by (entry_at b n) (sym (are n) ∙ among)
  where
    by : (r : Option BlockedEvaluation) → passes_at passes r ≡ true → IsTrue (is_some r)
    by None t = absurd (subst T (sym t) tt)
    by (Some e) t = refl

pub nothing_left : (places : List ℕ) → (0 < length places → false ≡ true) → places ≡ []
nothing_left [] none = refl
nothing_left (n ∷ ns) none = absurd (subst T (sym (none (omega arith))) tt)

module _ (start now : BlockedList) (all left : List ℕ) (keys : List Key) (h : IsTaking start now all left keys) (none : left ≡ []) where
  pub all_keys : IsStrictlySortedBy nat_cmp all → AreKeysAt all start (reverse keys)
  all_keys sorted passes are = sym (ap (λ l. keys_at now l ++ reverse keys) none) ∙ h.out
      ∙ passing_keys start passes all are sorted

  pub all_gone : IsLeftWithout all start now
  all_gone passes are = passing_gone start passes now all are
      (λ n. sym (ap (λ l. cond (has_number l n) None (entry_at now n)) none) ∙ h.gone n)

-- an entry wakes if it waits for one of the quotas, or for one of the pools and can use one of its classes
woken_by_either : (r : Releases) (e : BlockedEvaluation) → (list_any (λ quota. wakes_of_quota quota e) r.quotas
    || list_any (λ p. wakes_of_pool p.pool p.classes e) r.pools) ≡ is_woken r e
woken_by_either r e = by e.waits
  where
    by : (waits : Waits) → (list_any (λ quota. same_waits (Quota quota) waits) r.quotas
        || list_any (λ p. same_waits (Pool p.pool) waits && can_use_any p.classes e) r.pools)
        ≡ wakes_waiting (released_in r) waits (can_use e)
    by (Quota quota) = ap (λ b. list_any (λ name. same_name name quota) r.quotas || b) (none_of r.pools)
        ∙ tests.or_none (list_any (λ name. same_name name quota) r.quotas)
    by (Pool pool) = ap (λ b. b || list_any (λ p. same_name p.pool pool && can_use_any p.classes e) r.pools) (none_of r.quotas)

-- ---- what a group says of the entries

module _ (queue : Queue BlockedEvaluation) (groups : Groups) (h : IsGrouped queue.placed.rows groups) (n : ℕ) where
  pub quota_at : (quota : Name) → is_of_quota groups n quota ≡ passes_at (wakes_of_quota quota) (row_at queue.placed.rows n)
  quota_at quota = h.held (Quota quota) n ∙ by (row_at queue.placed.rows n)
    where
      by : (r : Option BlockedEvaluation) → waits_at (Quota quota) r ≡ passes_at (wakes_of_quota quota) r
      by None = refl
      by (Some e) = refl

  pub pool_at : (pool : Name) (classes : List Class) →
      is_of_pool queue groups n pool classes ≡ passes_at (wakes_of_pool pool classes) (row_at queue.placed.rows n)
  pool_at pool classes = ap (λ b. b && is_usable classes (row_at queue.placed.rows n)) (h.held (Pool pool) n) ∙ by (row_at queue.placed.rows n)
    where
      by : (r : Option BlockedEvaluation) → (waits_at (Pool pool) r && is_usable classes r) ≡ passes_at (wakes_of_pool pool classes) r
      by None = refl
      by (Some e) = refl

  pub woken_at : (r : Releases) → (list_any (is_of_quota groups n) r.quotas || list_any (λ p. is_of_pool queue groups n p.pool p.classes) r.pools)
      ≡ passes_at (is_woken r) (row_at queue.placed.rows n)
  woken_at r = (λ i. any_same (is_of_quota groups n) (λ quota. passes_at (wakes_of_quota quota) (row_at queue.placed.rows n)) quota_at r.quotas i
      || any_same (λ (p : ReleasedPool). is_of_pool queue groups n p.pool p.classes)
      (λ p. passes_at (wakes_of_pool p.pool p.classes) (row_at queue.placed.rows n)) (λ p. pool_at p.pool p.classes) r.pools i)
      ∙ by (row_at queue.placed.rows n)
    where
      by : (x : Option BlockedEvaluation) → (list_any (λ quota. passes_at (wakes_of_quota quota) x) r.quotas
          || list_any (λ p. passes_at (wakes_of_pool p.pool p.classes) x) r.pools) ≡ passes_at (is_woken r) x
      by None = λ i. none_of r.quotas i || none_of r.pools i
      by (Some e) = woken_by_either r e

-- ---- the places that are found, where none were before

module _ (b : BlockedList) (h : IsGrouped b.queue.placed.rows b.groups) (none : List ℕ) (empty : none ≡ []) where
  pub quota_found : (quota : Name) (found : List ℕ) → AddsPlaces (λ n. is_of_quota b.groups n quota) none found →
      ArePassing (wakes_of_quota quota) b found
  quota_found quota found adds n = adds n ∙ ap (λ ns. has_number ns n || is_of_quota b.groups n quota) empty ∙ quota_at b.queue b.groups h n quota

  pub pool_found : (pool : Name) (classes : List Class) (found : List ℕ) → AddsPlaces (λ n. is_of_pool b.queue b.groups n pool classes) none found →
      ArePassing (wakes_of_pool pool classes) b found
  pool_found pool classes found adds n = adds n ∙ ap (λ ns. has_number ns n || is_of_pool b.queue b.groups n pool classes) empty
      ∙ pool_at b.queue b.groups h n pool classes

  pub woken_found : (r : Releases) (quotas : List Name) (pools : List ReleasedPool) (some found : List ℕ) → quotas ≡ r.quotas → pools ≡ r.pools →
      AddsPlaces (λ n. list_any (is_of_quota b.groups n) quotas) none some →
      AddsPlaces (λ n. list_any (λ p. is_of_pool b.queue b.groups n p.pool p.classes) pools) some found → ArePassing (is_woken r) b found
  woken_found r quotas pools some found q p first second n = second n
      ∙ ap (λ c. c || list_any (λ p. is_of_pool b.queue b.groups n p.pool p.classes) pools)
      (first n ∙ ap (λ ns. has_number ns n || list_any (is_of_quota b.groups n) quotas) empty)
      ∙ (λ i. list_any (is_of_quota b.groups n) (q i) || list_any (λ p. is_of_pool b.queue b.groups n p.pool p.classes) (p i))
      ∙ woken_at b.queue b.groups h n r
