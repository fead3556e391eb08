-- Who decides node by node evicts the victims that count after the stops: those that went already count no more.
use Rattle.std.specs.Prelude.{◌≡◌, ℕ, Bool, true, false, cond, not, ◌&&◌, ◌||◌, List, [], ◌∷◌, ◌++◌, filter, flat_map, fold, map}
use Rattle.std.proofs.Common.{refl, sym, ap, ◌∙◌}
use Rattle.std.proofs.lemmas.List.Folds.{list_any-append}
use Rattle.std.proofs.lemmas.List.Sums.{fold-append}
use Rattle.std.specs.List.{list_any}
use Rattle.ns_types.specs.declared.plan.Eviction.{Eviction}
use Rattle.ns_types.specs.declared.plan.Placement.{Placement}
use Rattle.ns_types.specs.declared.snapshot.Snapshot.{Snapshot}
use Rattle.ns_types.specs.State.Names.{Key, Name, has_key, has_number, same_key, same_number}
use Rattle.ns_types.specs.State.Resources.{plus}
use Rattle.ns_types.specs.State.Rows.{World}
use Rattle.ns_types.specs.Working.Commit.{Commit, accepts_at, begun, counts, decide, evict_all, node_name, part_of, size_of, victim_key}
use Rattle.ns_types.specs.Working.Commit.{victims_in, victims_of}
use Rattle.ns_types.proofs.Elements.{any_flat, any_map, any_same}
use Rattle.ns_types.specs.Settling.Gone.{rows_gone}
use Rattle.ns_types.proofs.Gone.{evicted_are, evicted_row}
use Rattle.ns_types.proofs.Less.{counts_left, gone_alike}
use Rattle.ns_types.proofs.Lists.{each, filter_none, not_both}
use Rattle.ns_types.proofs.Once.{key_is}
use Rattle.ns_types.proofs.Tests.{or_none}
use Rattle.ns_types.specs.Working.Parts.{placed_on}
use Rattle.ns_plan_result.specs.Writing.{EvictingIsDeciding, evict_victims}

-- the allocations that the evictions name
abbrev pub keys : List Eviction → List Key
keys evictions = map victim_key evictions

-- where allocations went, the same ones are found but for those
abbrev pub IsLeft : (World → List Eviction) → Type 0
IsLeft found = (w : World) (gone : List Key) (k : Key) → has_key gone k ≡ false →
    has_key (keys (found (rows_gone evicted_row w gone))) k ≡ has_key (keys (found w)) k

module _ (found : World → List Eviction) (left : IsLeft found) where
  found_then : (w : World) (gone : List Key) → evict_all (rows_gone evicted_row w gone) (found (rows_gone evicted_row w gone))
      ≡ rows_gone evicted_row w (gone ++ keys (found w))
  found_then w gone =
      evicted_are (found (rows_gone evicted_row w gone)) (rows_gone evicted_row w gone)
      ∙ sym (fold-append _ w gone (keys (found (rows_gone evicted_row w gone))))
      ∙ gone_alike evicted_row (λ a. refl) w _ _ (λ k. list_any-append (same_key k) gone (keys (found (rows_gone evicted_row w gone)))
      ∙ by k (has_key gone k) refl ∙ sym (list_any-append (same_key k) gone (keys (found w))))
    where
      by : (k : Key) (b : Bool) → has_key gone k ≡ b →
          (has_key gone k || has_key (keys (found (rows_gone evicted_row w gone))) k) ≡ (has_key gone k || has_key (keys (found w)) k)
      by k true e = ap (λ b. b || has_key (keys (found (rows_gone evicted_row w gone))) k) e ∙ sym (ap (λ b. b || has_key (keys (found w)) k) e)
      by k false e = ap (λ b. has_key gone k || b) (left w gone k e)

module _ {A : Type 0} (victims : World → A → List Eviction) (left : (a : A) → IsLeft (λ w. victims w a)) where
  abbrev all_victims : List A → World → List Eviction
  all_victims xs w = flat_map (victims w) xs

  any_victim : (xs : List A) (w : World) (k : Key) → has_key (keys (all_victims xs w)) k ≡ list_any (λ a. has_key (keys (victims w a)) k) xs
  any_victim xs w k = any_map (same_key k) victim_key (all_victims xs w) ∙ any_flat (λ e. same_key k (victim_key e)) (victims w) xs
      ∙ any_same (λ a. list_any (λ e. same_key k (victim_key e)) (victims w a)) (λ a. has_key (keys (victims w a)) k)
      (λ a. sym (any_map (same_key k) victim_key (victims w a))) xs

  pub all_left : (xs : List A) → IsLeft (all_victims xs)
  all_left xs w gone k out = any_victim xs (rows_gone evicted_row w gone) k
      ∙ any_same (λ a. has_key (keys (victims (rows_gone evicted_row w gone) a)) k) (λ a. has_key (keys (victims w a)) k) (λ a. left a w gone k out) xs
      ∙ sym (any_victim xs w k)

-- ---- on one node

chosen : {A : Type 0} (p : A → Bool) (xs : List A) → flat_map (λ x. cond (p x) (x ∷ []) []) xs ≡ filter p xs
chosen p [] = refl
chosen p (x ∷ xs) = elim (p x) as (λ b. cond b (x ∷ []) [] ++ flat_map (λ x. cond (p x) (x ∷ []) []) xs ≡ cond b (x ∷ filter p xs) (filter p xs)) [
  | true ↦ ap (λ l. x ∷ l) (chosen p xs)
  | false ↦ chosen p xs
]

module _ (pool node : Name) where
  abbrev if_counts : World → Eviction → List Eviction
  if_counts w e = cond (counts w pool node e) (e ∷ []) []

  one_left : (e : Eviction) → IsLeft (λ w. if_counts w e)
  one_left e w gone k out =
      ap (λ b. has_key (keys (cond b (e ∷ []) [])) k) (counts_left evicted_row (λ a. refl) (λ a. refl) w gone pool node e)
      ∙ by (has_key gone (victim_key e)) refl (counts w pool node e) (same_key k (victim_key e)) refl
    where
      by : (h : Bool) → has_key gone (victim_key e) ≡ h → (b s : Bool) → same_key k (victim_key e) ≡ s →
          has_key (keys (cond (not h && b) (e ∷ []) [])) k ≡ has_key (keys (cond b (e ∷ []) [])) k
      by false is b s same = refl
      by true is false s same = refl
      by true is true false same = sym (ap (λ s. s || false) same)
      by true is true true same = not_both is (ap (has_key gone) (sym (key_is k (victim_key e) same)) ∙ out)

  on_left : (es : List Eviction) → IsLeft (λ w. filter (counts w pool node) es)
  on_left es w gone k out = ap (λ l. has_key (keys l) k) (sym (chosen (counts (rows_gone evicted_row w gone) pool node) es))
      ∙ all_left if_counts one_left es w gone k out ∙ ap (λ l. has_key (keys l) k) (chosen (counts w pool node) es)

-- ---- one node more

any_of_both : {A : Type 0} (test p q : A → Bool) (xs : List A) →
    list_any test (filter (λ x. p x || q x) xs) ≡ (list_any test (filter p xs) || list_any test (filter q xs))
any_of_both test p q [] = refl
any_of_both {A = A} test p q (x ∷ xs) = any_if (p x || q x) (filter (λ x. p x || q x) xs)
    ∙ by (p x) (q x) (test x) _ _ _ (any_of_both test p q xs)
    ∙ sym (λ i. any_if (p x) (filter p xs) i || any_if (q x) (filter q xs) i)
  where
    any_if : (b : Bool) (ys : List A) → list_any test (cond b (x ∷ ys) ys) ≡ cond b (test x || list_any test ys) (list_any test ys)
    any_if true ys = refl
    any_if false ys = refl

    or_true : (b : Bool) → true ≡ (b || true)
    or_true true = refl
    or_true false = refl

    by : (a b t : Bool) → (h m n : Bool) → h ≡ (m || n) → (cond (a || b) (t || h) h) ≡ (cond a (t || m) m || cond b (t || n) n)
    by true true true h m n is = refl
    by true true false h m n is = is
    by true false true h m n is = refl
    by true false false h m n is = is
    by false true true h m n is = or_true m
    by false true false h m n is = is
    by false false t h m n is = is

pub one_more : (test : Placement → Bool) (nodes : List ℕ) (n : ℕ) (ps : List Placement) →
    list_any test (placed_on (nodes ++ n ∷ []) ps) ≡ (list_any test (placed_on nodes ps) || list_any test (part_of n ps))
one_more test nodes n ps =
    (λ i. list_any test (filter (λ p. (list_any-append (same_number p.node) nodes (n ∷ []) ∙ ap (λ b. has_number nodes p.node || b)
    (or_none (same_number p.node n))) i) ps))
    ∙ any_of_both test (λ p. has_number nodes p.node) (λ p. same_number p.node n) ps

-- ---- of placements

module _ (kept : Snapshot) where
  at_left : (p : Placement) → IsLeft (λ w. victims_in w kept p)
  at_left p = on_left kept.pool (node_name kept p.node) p.evictions

  of_part : (ps : List Placement) → IsLeft (λ w. victims_of w kept ps)
  of_part ps = all_left (λ w p. victims_in w kept p) at_left ps

  module _ (ps : List Placement) (w : World) where
    gone_with : (nodes : List ℕ) (n : ℕ) (q : Key) →
        has_key (keys (victims_of w kept (placed_on nodes ps)) ++ keys (victims_of w kept (part_of n ps))) q
        ≡ has_key (keys (victims_of w kept (placed_on (nodes ++ n ∷ []) ps))) q
    gone_with nodes n q =
        list_any-append (same_key q) (keys (victims_of w kept (placed_on nodes ps))) (keys (victims_of w kept (part_of n ps)))
        ∙ (λ i. any_victim (λ w p. victims_in w kept p) at_left (placed_on nodes ps) w q i
        || any_victim (λ w p. victims_in w kept p) at_left (part_of n ps) w q i)
        ∙ sym (one_more (λ p. has_key (keys (victims_in w kept p)) q) nodes n ps)
        ∙ sym (any_victim (λ w p. victims_in w kept p) at_left (placed_on (nodes ++ n ∷ []) ps) w q)

    one_node : (c : Commit) (k : ℕ) → c.world ≡ evict_victims kept (placed_on c.committed ps) w →
        (decide kept ps c k).world ≡ evict_victims kept (placed_on (decide kept ps c k).committed ps) w
    unfolding decide
    one_node c k is = by (accepts_at kept then (node_name kept k) part c.placed)
      where
        part : List Placement
        part = part_of k ps

        then : World
        then = evict_all c.world (victims_of c.world kept part)

        taken : Commit
        taken = record { world = then; placed = plus c.placed (size_of part); committed = c.committed ++ k ∷ []; dropped = c.dropped }

        left : Commit
        left = record c { dropped = c.dropped ++ k ∷ [] }

        before : List Placement
        before = placed_on c.committed ps

        after : List Placement
        after = placed_on (c.committed ++ k ∷ []) ps

        by : (b : Bool) → (cond b taken left).world ≡ evict_victims kept (placed_on (cond b taken left).committed ps) w
        by true = ap (λ x. evict_all x (victims_of x kept part)) (is ∙ evicted_are (victims_of w kept before) w)
            ∙ found_then (λ w. victims_of w kept part) (of_part part) w (keys (victims_of w kept before))
            ∙ gone_alike evicted_row (λ a. refl) w _ _ (gone_with c.committed k)
            ∙ sym (evicted_are (victims_of w kept after) w)
        by false = is

    from_here : (ks : List ℕ) (c : Commit) → c.world ≡ evict_victims kept (placed_on c.committed ps) w →
        (fold (decide kept ps) c ks).world ≡ evict_victims kept (placed_on (fold (decide kept ps) c ks).committed ps) w
    from_here [] c is = is
    from_here (k ∷ ks) c is = from_here ks (decide kept ps c k) (one_node c k is)

    none_yet : w ≡ evict_victims kept (placed_on [] ps) w
    none_yet = ap (λ l. evict_victims kept l w) (sym (filter_none (λ (p : Placement). false) ps (each (λ (p : Placement). false ≡ false) (λ p. refl) ps)))

pub evicting_is_deciding : EvictingIsDeciding
evicting_is_deciding kept ps w ks = from_here kept ps w ks (begun w) (none_yet kept ps w)
