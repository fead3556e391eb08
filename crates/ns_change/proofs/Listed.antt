-- The lists over a change, who is busy, and waking.
use Rattle.std.specs.Prelude.{◌≡◌, ℕ, ◌+◌, ◌<◌, ◌≤◌, Bool, true, false, cond, not, List, [], ◌∷◌, ◌++◌, ◌&&◌, ◌||◌}
use Rattle.std.specs.Prelude.{Option, Some, None, filter, fold, length}
use Rattle.std.proofs.Common.{refl, sym, ap, ◌∙◌, arith, length-drop, append_assoc, get_or, drop}
use Rattle.std.specs.Option.{option_map_or}
use Rattle.std.specs.List.{list_any}
use Rattle.std.specs.FinMap.{contains_key, entries, get}
use Rattle.keyed.specs.Table.{rows, row_at, at_slot}
use Rattle.ns_types.specs.declared.evaluation.Evaluation.{Evaluation}
use Rattle.ns_types.specs.Working.Worker.{Worker}
use Rattle.ns_types.specs.State.Names.{Name, Key, has_key, same_key}
use Rattle.ns_types.specs.Working.Queue.{is_busy, queue}
use Rattle.ns_types.specs.Working.Work.{without_key}
use Rattle.ns_types.specs.State.Rows.{World, Tenant, evaluation_at}
use Rattle.ns_types.specs.State.Tables.{any_row}
use Rattle.ns_types.proofs.Lists.{any_alike, each, filter-append}
use Rattle.ns_types.proofs.Named.{numbers, one_number}
use Rattle.ns_change.specs.declared.change.Change.{Change}
use Rattle.ns_change.specs.declared.change.ListChange.{ListChange}
use Rattle.ns_change.specs.declared.change.TenantChange.{TenantChange}
use Rattle.ns_tables.specs.declared.tables.Tables.{Tables}
use Rattle.ns_tables.specs.declared.tables.TenantRows.{TenantRows}
use Rattle.ns_change.specs.Changed.{DoesToList, changed, changed_list, with_key, without_keys}
use Rattle.ns_change.specs.Changed.{view}
use Rattle.ns_tables.specs.World.{world_of}
use Rattle.std.proofs.lemmas.List.Folds.{list_any-append}
use Rattle.std.proofs.Math.Bool.{and-false, or-false}
use Rattle.keyed.proofs.Over.{any_row-both}
use Rattle.keyed.proofs.Queues.{from_here}
use Rattle.keyed.proofs.RoomLeft.{turned_key}
use Rattle.keyed.proofs.Viewing.{any_row-rows}
use Rattle.ns_change.proofs.Waking.{unblock_one, wake_is, without_blocked_keys}
use Rattle.ns_types.specs.Settling.Settle.{wake}
use Rattle.ns_change.proofs.Seen.{changed_seen, kept_seen, none_seen}
use Rattle.ns_types.proofs.TableRows.{no_entries}

pub any_filter : {A : Type 0} (f p : A → Bool) (xs : List A) → list_any f (filter p xs) ≡ list_any (λ x. p x && f x) xs
any_filter f p [] = refl
any_filter f p (x ∷ xs) = elim (p x) as (λ b. list_any f (cond b (x ∷ filter p xs) (filter p xs)) ≡ ((b && f x) || list_any (λ x. p x && f x) xs)) [
  | true ↦ ap (λ b. f x || b) (any_filter f p xs)
  | false ↦ any_filter f p xs
]

-- what a changed list has
pub any_listed : (f : Key → Bool) (base : List Key) (x : ListChange) →
    list_any f (changed_list base x) ≡ (list_any (λ key. not (has_key x.taken key) && f key) base || list_any f x.added)
any_listed f base x = list_any-append f (filter (λ key. not (has_key x.taken key)) base) x.added ∙
    ap (λ b. b || list_any f x.added) (any_filter f (λ key. not (has_key x.taken key)) base)

-- ---- workers

module _ (t : Tables) (c : Change) (ns : Name) (f : Worker → Bool) where
  abbrev works : Option Tenant → Bool
  works tenant = option_map_or (λ t. any_row (λ _ worker. f worker) t.workers) tenant false

  pub works_nowhere : row_at t.tenants ns ≡ None → works (get (view t c).tenants ns) ≡ false
  works_nowhere is = ap works (none_seen t c ns is)

  pub works_kept : (x : TenantRows) → row_at t.tenants ns ≡ Some x → row_at c.tenants ns ≡ None →
      works (get (view t c).tenants ns) ≡ list_any (at_slot (λ e. f e.1)) (entries x.workers)
  works_kept x is none = ap works (kept_seen t c ns x is none) ∙ any_row-rows (λ _. f) x.workers

  pub works_changed : (x : TenantRows) (y : TenantChange) → row_at t.tenants ns ≡ Some x → row_at c.tenants ns ≡ Some y → works (get (view t c).tenants ns)
      ≡ (list_any (at_slot (λ e. f e.1)) (entries y.workers) || list_any (λ slot. not (contains_key y.workers slot.0) && at_slot (λ e. f e.1) slot)
      (entries x.workers))
  works_changed x y is some = ap works (changed_seen t c ns x y is some) ∙ any_row-both numbers one_number (λ _. f) y.workers (rows x.workers)
      ∙ ap (λ b. list_any (at_slot (λ e. f e.1)) (entries y.workers) || b) (any_row-rows (λ n worker. not (contains_key y.workers n) && f worker) x.workers
      ∙ any_alike _ (λ slot. not (contains_key y.workers slot.0) && at_slot (λ e. f e.1) slot) (entries x.workers) (each _ by (entries x.workers)))
    where
      by : (slot : ℕ × Option Worker) → at_slot (λ e. not (contains_key y.workers e.0) && f e.1) slot ≡
          (not (contains_key y.workers slot.0) && at_slot (λ e. f e.1) slot)
      by (n, None) = sym (and-false (not (contains_key y.workers n)))
      by (n, Some worker) = refl

-- ---- the queue

module _ (w : World) (key : Key) where
  pub queue_nothing : evaluation_at w key ≡ None → w ≡ queue w key
  unfolding queue
  queue_nothing is = sym (ap (λ e. option_map_or (λ e. cond (is_busy w key.0 e.job) w (record w { ready = w.ready ++ key ∷ [] })) e w) is)

  pub queue_waits : (e : Evaluation) → evaluation_at w key ≡ Some e → is_busy w key.0 e.job ≡ true → w ≡ queue w key
  unfolding queue
  queue_waits e is busy = sym (ap (λ e. option_map_or (λ e. cond (is_busy w key.0 e.job) w (record w { ready = w.ready ++ key ∷ [] })) e w) is ∙
      ap (λ b. cond b w (record w { ready = w.ready ++ key ∷ [] })) busy)

  pub queue_ready : (e : Evaluation) → evaluation_at w key ≡ Some e → is_busy w key.0 e.job ≡ false → record w { ready = w.ready ++ key ∷ [] } ≡ queue w key
  unfolding queue
  queue_ready e is free = sym (ap (λ e. option_map_or (λ e. cond (is_busy w key.0 e.job) w (record w { ready = w.ready ++ key ∷ [] })) e w) is ∙
      ap (λ b. cond b w (record w { ready = w.ready ++ key ∷ [] })) free)

-- what is done to one of the lists is done to the world
module _ (t : Tables) (c : Change) (x : ListChange) (f : List Key → List Key) where
  pub ready_is : DoesToList f c.ready x → view t (record c { ready = x }) ≡ record (view t c) { ready = f (view t c).ready }
  unfolding changed
  ready_is does = λ i. record (view t c) { ready = does (world_of t).ready i }

  pub plans_is : DoesToList f c.plans x → view t (record c { plans = x }) ≡ record (view t c) { plans = f (view t c).plans }
  unfolding changed
  plans_is does = λ i. record (view t c) { plans = does (world_of t).plans i }

  pub blocked_is : DoesToList f c.blocked x → view t (record c { blocked = x }) ≡ record (view t c) { blocked = f (view t c).blocked }
  unfolding changed
  blocked_is does = λ i. record (view t c) { blocked = does (world_of t).blocked i }

pub ready_seen : (t : Tables) (c : Change) → (view t c).ready ≡ changed_list t.ready.items c.ready
unfolding changed world_of
ready_seen t c = refl

-- ---- what goes out of a list

module _ (keys : List Key) where
  abbrev pub stays : Key → Bool
  stays key = not (has_key keys key)

pub fold_more : {S : Type 0} (f : S → Key → S) (xs : List Key) (i : ℕ) (x : Key) (s : S) (all : S) → i < length xs → x ≡ get_or xs i x →
    fold f s (drop i xs) ≡ all → fold f (f s x) (drop (i + 1) xs) ≡ all
fold_more f xs i x s all lt is h = ap (fold f s) (sym (from_here xs i x lt is)) ∙ h

filter_twice : {A : Type 0} (p q r : A → Bool) (xs : List A) → ((x : A) → p x ≡ (r x && q x)) → filter p xs ≡ filter q (filter r xs)
filter_twice p q r [] e = refl
filter_twice p q r (x ∷ xs) e = ap (λ b. cond b (x ∷ filter p xs) (filter p xs)) (e x) ∙
    elim (r x) as (λ b. cond (b && q x) (x ∷ filter p xs) (filter p xs) ≡ filter q (cond b (x ∷ filter r xs) (filter r xs))) [
      | true ↦ ap (λ l. cond (q x) (x ∷ l) l) (filter_twice p q r xs e)
      | false ↦ filter_twice p q r xs e
    ]

pub taken_out : (keys : List Key) (old new : ListChange) → new.taken ≡ old.taken ++ keys → new.added ≡ without_keys keys old.added →
    DoesToList (without_keys keys) old new
taken_out keys old new taken added base = (λ i. filter (λ key. not (has_key (taken i) key)) base ++ added i)
    ∙ ap (λ l. l ++ filter (stays keys) old.added)
    (filter_twice (λ key. not (has_key (old.taken ++ keys) key)) (stays keys) (λ key. not (has_key old.taken key)) base
    (λ key. ap not (list_any-append (same_key key) old.taken keys) ∙ by (has_key old.taken key) (has_key keys key)))
    ∙ sym (filter-append (stays keys) (filter (λ key. not (has_key old.taken key)) base) old.added)
  where
    by : (a b : Bool) → not (a || b) ≡ (not a && not b)
    by true b = refl
    by false b = refl

-- ---- waking

-- nothing is left at the end of a loop
pub at_end : (xs : List Key) (i : ℕ) → length xs ≤ i → drop i xs ≡ []
at_end xs i le = no_entries (drop i xs) (simp length-drop (omega arith))

module _ (t : Tables) (keys : List Key) where
  pub woken_all : (c pending awake : Change) (x : ListChange) (i j : ℕ) → length keys ≤ i → length keys ≤ j
      → fold unblock_one (view t pending) (drop i keys) ≡ fold unblock_one (view t c) keys
      → DoesToList (without_keys keys) pending.blocked x
      → fold queue (view t awake) (drop j keys) ≡ fold queue (view t (record pending { blocked = x })) keys
      → view t awake ≡ wake keys (view t c)
  woken_all c pending awake x i j ie je marked left queued =
      ap (fold queue (view t awake)) (sym (at_end keys j je)) ∙ queued
      ∙ ap (λ w. fold queue w keys) (blocked_is t pending x (without_keys keys) left ∙
      ap (without_blocked_keys keys) (ap (fold unblock_one (view t pending)) (sym (at_end keys i ie)) ∙ marked))
      ∙ sym (wake_is keys (view t c))

-- ---- one key alone

pub taken_alone : (key : Key) (keys : List Key) → without_keys (key ∷ []) keys ≡ without_key key keys
taken_alone key keys = λ i. filter (λ other. not ((or-false (same_key other key) ∙ turned_key other key) i)) keys

pub added_one : (key : Key) (old : ListChange) → DoesToList (with_key key) old (record old { added = old.added ++ key ∷ [] })
added_one key old base = sym (append_assoc (without_keys old.taken base) old.added (key ∷ []))
