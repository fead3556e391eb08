-- What is decided node by node needs no state but the one after the stops, and the keys of the victims so far.
use Rattle.std.specs.Prelude.{◌≡◌, ℕ, Bool, true, false, cond, not, List, [], ◌∷◌, ◌++◌, ◌&&◌, ◌||◌, filter, fold, map}
use Rattle.std.proofs.Common.{refl, sym, ap, ◌∙◌}
use Rattle.std.proofs.lemmas.List.Folds.{list_any-append}
use Rattle.std.specs.FinMap.{get}
use Rattle.std.specs.List.{list_any}
use Rattle.std.specs.Option.{option_map_or}
use Rattle.ns_types.specs.declared.allocation.Allocation.{Allocation}
use Rattle.ns_types.specs.declared.plan.Placement.{Placement}
use Rattle.ns_types.specs.declared.resources.Resources.{Resources}
use Rattle.ns_types.specs.declared.snapshot.Snapshot.{Snapshot}
use Rattle.ns_types.specs.Placing.Constraint.{is_feasible}
use Rattle.ns_types.specs.Placing.Plan.{constraints_of}
use Rattle.ns_types.specs.State.Names.{Key, Name, has_key, same_key}
use Rattle.ns_types.specs.State.Resources.{is_within, limits_allow, limits_in, plus, unlimited}
use Rattle.ns_types.specs.State.Rows.{World}
use Rattle.ns_types.specs.Working.Commit.{Commit, accepts_at, begun, counts, decide, evict_all, node_name, part_of, size_of, victim_key, victims_in, victims_of}
use Rattle.ns_types.proofs.Elements.{any_flat, any_map, any_same}
use Rattle.ns_types.specs.Settling.Gone.{row_gone, rows_gone}
use Rattle.ns_types.proofs.Gone.{evicted_are, evicted_row}
use Rattle.ns_types.proofs.Less.{counts_left, gone_alike, load_less, named_stays, nodes_stay, quotas_stay, use_less}
use Rattle.ns_types.proofs.Lists.{not_both}
use Rattle.ns_types.proofs.Once.{AllApart, key_is, once_apart, once_has}
use Rattle.ns_plan.specs.Laws.{DecidesAs}
use Rattle.ns_plan.specs.Reader.{Read, nothing_read, read_all, read_one, takes, with_victims}

-- ---- victims, each once

gone_then : (g : Allocation → Allocation) (ks ls : List Key) (w : World) → rows_gone g (rows_gone g w ks) ls ≡ rows_gone g w (ks ++ ls)
gone_then g [] ls w = refl
gone_then g (k ∷ ks) ls w = gone_then g ks ls (row_gone g w k)

-- what a test finds among those that pass, it finds among those that are not out already
module _ {A : Type 0} (test out passes : A → Bool) (within : (x : A) → test x ≡ true → out x ≡ false) where
  any_left : (xs : List A) → list_any test (filter (λ x. not (out x) && passes x) xs) ≡ list_any test (filter passes xs)
  any_left [] = refl
  any_left (x ∷ xs) = by (out x) (passes x) (test x) refl refl (any_left xs)
    where
      left : List A
      left = filter (λ x. not (out x) && passes x) xs

      right : List A
      right = filter passes xs

      by : (o p t : Bool) → out x ≡ o → test x ≡ t → list_any test left ≡ list_any test right →
          list_any test (cond (not o && p) (x ∷ left) left) ≡ list_any test (cond p (x ∷ right) right)
      by true true true o t rest = not_both o (within x t)
      by true true false o t rest = rest ∙ ap (λ b. b || list_any test right) (sym t)
      by true false t o e rest = rest
      by false true t o e rest = ap (λ b. test x || b) rest
      by false false t o e rest = rest

module _ (kept : Snapshot) (w : World) (keys : List Key) where
  abbrev gone : World
  gone = rows_gone evicted_row w keys

  same_found : (part : List Placement) (k : Key) → has_key keys k ≡ false →
      has_key (map victim_key (victims_of gone kept part)) k ≡ has_key (map victim_key (victims_of w kept part)) k
  same_found part k out =
      any_map (same_key k) victim_key (victims_of gone kept part)
      ∙ any_flat (λ e. same_key k (victim_key e)) (victims_in gone kept) part
      ∙ any_same (λ p. list_any (λ e. same_key k (victim_key e)) (victims_in gone kept p))
      (λ p. list_any (λ e. same_key k (victim_key e)) (victims_in w kept p)) (λ p. each p) part
      ∙ sym (any_map (same_key k) victim_key (victims_of w kept part)
      ∙ any_flat (λ e. same_key k (victim_key e)) (victims_in w kept) part)
    where
      each : (p : Placement) →
          list_any (λ e. same_key k (victim_key e)) (victims_in gone kept p) ≡ list_any (λ e. same_key k (victim_key e)) (victims_in w kept p)
      each p = (λ i. list_any (λ e. same_key k (victim_key e))
          (filter (λ e. counts_left evicted_row (λ a. refl) (λ a. refl) w keys kept.pool (node_name kept p.node) e i) p.evictions))
          ∙ any_left (λ e. same_key k (victim_key e)) (λ e. has_key keys (victim_key e)) (counts w kept.pool (node_name kept p.node))
          (λ e same. ap (has_key keys) (sym (key_is k (victim_key e) same)) ∙ out) p.evictions

  same_keys : (part : List Placement) (k : Key) → has_key (keys ++ map victim_key (victims_of gone kept part)) k ≡ has_key (with_victims kept w keys part) k
  same_keys part k = list_any-append (same_key k) keys (map victim_key (victims_of gone kept part)) ∙ by (has_key keys k) refl
      ∙ sym (once_has (keys ++ map victim_key (victims_of w kept part)) k ∙ list_any-append (same_key k) keys (map victim_key (victims_of w kept part)))
    where
      by : (b : Bool) → has_key keys k ≡ b → (has_key keys k || has_key (map victim_key (victims_of gone kept part)) k)
          ≡ (has_key keys k || has_key (map victim_key (victims_of w kept part)) k)
      by true e = ap (λ b. b || has_key (map victim_key (victims_of gone kept part)) k) e
          ∙ ap (λ b. b || has_key (map victim_key (victims_of w kept part)) k) (sym e)
      by false e = ap (λ b. has_key keys k || b) (same_found part k e)

  -- a node's victims go
  world_then : (part : List Placement) → evict_all gone (victims_of gone kept part) ≡ rows_gone evicted_row w (with_victims kept w keys part)
  world_then part = evicted_are (victims_of gone kept part) gone ∙ gone_then evicted_row keys (map victim_key (victims_of gone kept part)) w
      ∙ gone_alike evicted_row (λ a. refl) w (keys ++ map victim_key (victims_of gone kept part)) (with_victims kept w keys part) (same_keys part)

-- ---- one node

-- a node's test, by sums over the world before any victim went
accepts_gone : (kept : Snapshot) (w : World) (keys : List Key) → AllApart keys → (name : Name) (part : List Placement) (placed : Resources) →
    accepts_at kept (rows_gone evicted_row w keys) name part placed ≡ takes kept w keys name (size_of part) placed
accepts_gone kept w keys apart name part placed = λ i. option_map_or (λ node.
    is_feasible (constraints_of kept.job) name node
    && is_within (plus (load_less evicted_row (λ a. refl) w keys apart kept.pool name i) (size_of part)) node.offer.capacity
    && option_map_or (λ q. limits_allow (option_map_or (λ rows. limits_in rows.quota.limits)
    (get (quotas_stay evicted_row (λ a. refl) w keys i) q) unlimited)
    (plus (use_less evicted_row (λ a. refl) w keys apart q i) (plus placed (size_of part))))
    (named_stays evicted_row (λ a. refl) w keys kept.namespace i) true) (nodes_stay evicted_row (λ a. refl) w keys kept.pool name i) false

module _ (kept : Snapshot) (ps : List Placement) (w : World) where
  abbrev pub commit_of : Read → Commit
  commit_of r = record { world = rows_gone evicted_row w r.keys; placed = r.placed; committed = r.committed; dropped = r.dropped }

  one_read : (r : Read) (k : ℕ) → decide kept ps (commit_of r) k ≡ commit_of (read_one kept ps w r k)
  unfolding decide
  one_read r k =
      (λ i. cond (accepts_at kept (world_then kept w r.keys part i) (node_name kept k) part r.placed) (doing (world_then kept w r.keys part i)) leaving)
      ∙ ap (λ b. cond b (doing (rows_gone evicted_row w keys)) leaving)
      (accepts_gone kept w keys (once_apart (r.keys ++ map victim_key (victims_of w kept part))) (node_name kept k) part r.placed)
      ∙ by (takes kept w keys (node_name kept k) (size_of part) r.placed)
    where
      part : List Placement
      part = part_of k ps

      keys : List Key
      keys = with_victims kept w r.keys part

      doing : World → Commit
      doing x = record { world = x; placed = plus r.placed (size_of part); committed = r.committed ++ k ∷ []; dropped = r.dropped }

      leaving : Commit
      leaving = record (commit_of r) { dropped = r.dropped ++ k ∷ [] }

      with_node : Read
      with_node = record { keys = keys; placed = plus r.placed (size_of part); committed = r.committed ++ k ∷ []; dropped = r.dropped }

      without_node : Read
      without_node = record r { dropped = r.dropped ++ k ∷ [] }

      by : (b : Bool) → cond b (doing (rows_gone evicted_row w keys)) leaving ≡ commit_of (cond b with_node without_node)
      by true = refl
      by false = refl

  -- ---- all nodes

  all_read : (ks : List ℕ) (r : Read) → fold (decide kept ps) (commit_of r) ks ≡ commit_of (fold (read_one kept ps w) r ks)
  all_read [] r = refl
  all_read (k ∷ ks) r = ap (λ c. fold (decide kept ps) c ks) (one_read r k) ∙ all_read ks (read_one kept ps w r k)

  pub decided_is : (ks : List ℕ) → fold (decide kept ps) (begun w) ks ≡ commit_of (read_all kept ps w ks)
  decided_is ks = all_read ks nothing_read

  pub reading_decides : (ks : List ℕ) → DecidesAs (fold (decide kept ps) (begun w) ks) (read_all kept ps w ks)
  reading_decides ks = record {
    placed = ap (λ c. c.placed) (decided_is ks);
    committed = ap (λ c. c.committed) (decided_is ks);
    dropped = ap (λ c. c.dropped) (decided_is ks);
  }
