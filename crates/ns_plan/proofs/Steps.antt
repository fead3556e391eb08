-- One node more.
use Rattle.std.specs.Prelude.{◌≡◌, ℕ, ◌+◌, ◌<◌, ◌++◌, Bool, true, false, cond, not, List, [], ◌∷◌, ◌&&◌, ◌||◌, Option, Some, None, filter, fold, length, map}
use Rattle.std.proofs.Common.{◌⊎◌, append_assoc, arith, inl, inr, refl, sym, ap, subst, ◌∙◌}
use Rattle.std.proofs.Math.Bool.{or_assoc}
use Rattle.std.proofs.lemmas.List.{append-nil, length-append}
use Rattle.std.proofs.lemmas.List.Folds.{list_any-append}
use Rattle.std.proofs.lemmas.Option.{slice_get_cases}
use Rattle.std.specs.Cmp.{eq_by_cmp_equiv}
use Rattle.std.specs.FinMap.{get}
use Rattle.std.specs.List.{list_any, slice_get}
use Rattle.std.specs.Option.{option_map_or}
use Rattle.ns_types.specs.declared.allocation.Allocation.{Allocation}
use Rattle.ns_types.specs.declared.plan.Eviction.{Eviction}
use Rattle.ns_types.specs.declared.plan.Placement.{Placement}
use Rattle.ns_types.specs.declared.plan.Plan.{Plan}
use Rattle.ns_types.specs.declared.resources.Resources.{Resources}
use Rattle.ns_types.specs.declared.snapshot.PoolNode.{PoolNode}
use Rattle.ns_types.specs.declared.snapshot.Snapshot.{Snapshot}
use Rattle.ns_types.specs.Placing.Constraint.{is_feasible}
use Rattle.ns_types.specs.Placing.Plan.{constraints_of}
use Rattle.ns_types.specs.State.Lists.{Each}
use Rattle.ns_types.specs.State.Names.{Key, Name, has_key, has_number, same_key, same_name, same_number}
use Rattle.ns_types.specs.State.Resources.{is_within, limits_allow, limits_in, plus, unlimited}
use Rattle.ns_types.specs.State.Rows.{World, allocation_at, is_live, is_live_on}
use Rattle.ns_types.specs.Working.Commit.{counts, node_name, part_of, quota_named, size_of, victim_key, victims_of}
use Rattle.ns_types.proofs.Lists.{filter_all, not_both}
use Rattle.ns_types.proofs.Named.{first_of_both, names, numbers, one_name, same_number_refl, second_of_both}
use Rattle.ns_types.proofs.Once.{AllApart, key_is, once, once_apart, once_has}
use Rattle.ns_types.proofs.Tables.{tied}
use Rattle.ns_types.proofs.Tests.{either_of, same_Some}
use Rattle.ns_plan.specs.After.{after_stops}
use Rattle.ns_types.specs.State.Resources.{amount_of}
use Rattle.ns_plan.specs.Looks.{IsOnFewNodes, limits_of}
use Rattle.ns_plan.specs.Reader.{AreElsewhere, IsSoFar, Read, counted_keys, evictions_of, is_on, left_by, left_without, load_left, nothing_read, quota_left}
use Rattle.ns_plan.specs.Reader.{read_all, read_one, takes, takes_left, use_left, with_victims}
use Rattle.ns_plan.specs.declared.deciding.SoFar.{SoFar}
use Rattle.ns_plan.proofs.Afterwards.{node_after, quota_after, quotas_after}
use Rattle.ns_plan.proofs.Leaves.{victims_are}
use Rattle.std.proofs.lemmas.Bool.{or_right}

-- ---- keys that are apart

once_idle : (keys : List Key) → AllApart keys → once keys ≡ keys
once_idle [] h = refl
once_idle (x ∷ keys) h = ap (λ l. x ∷ filter (λ y. not (same_key x y)) l) (once_idle keys h.1)
    ∙ ap (λ l. x ∷ l) (filter_all (λ y. not (same_key x y)) keys (apart keys h.0))
  where
    apart : (ys : List Key) → Each (λ k. same_key k x ≡ false) ys → Each (λ y. not (same_key x y) ≡ true) ys
    apart [] h = tt
    apart (y ∷ ys) h = (ap not ((λ i. (eq_by_cmp_equiv names).symm x.0 y.0 i && (eq_by_cmp_equiv numbers).symm x.1 y.1 i) ∙ h.0), apart ys h.1)

-- ---- the node's test, after the stops

pub takes_same : (kept : Snapshot) (w : World) (stops : List ℕ) (quota : Option Name) → quota ≡ quota_named w kept.namespace →
    (keys : List Key) (name : Name) (size placed : Resources) →
    takes_left kept w quota name (record {
      load = load_left (after_stops w kept.namespace stops) kept.pool name keys;
      used = quota_left (after_stops w kept.namespace stops) quota keys;
    }) size placed ≡ takes kept (after_stops w kept.namespace stops) keys name size placed
takes_same kept w stops quota is keys name size placed = λ i. option_map_or (λ node. is_feasible (constraints_of kept.job) name node
    && is_within (plus (load_left after kept.pool name keys) size) node.offer.capacity && allowed i)
    (sym (node_after w kept.namespace stops kept.pool name) i) false
  where
    after : World
    after = after_stops w kept.namespace stops

    amount : Resources
    amount = plus placed size

    by : (o : Option Name) → option_map_or (λ q. limits_allow (limits_of w q) (plus (quota_left after o keys) amount)) o true
        ≡ option_map_or (λ q. limits_allow (limits_of w q) (plus (use_left after q keys) amount)) o true
    by None = refl
    by (Some q) = refl

    allowed : option_map_or (λ q. limits_allow (limits_of w q) (plus (quota_left after quota keys) amount)) quota true
        ≡ option_map_or (λ q. limits_allow (limits_of after q) (plus (use_left after q keys) amount)) (quota_named after kept.namespace) true
    allowed = by quota ∙ (λ i. option_map_or (λ q. limits_allow (option_map_or (λ rows. limits_in rows.quota.limits)
        (get (sym (quotas_after w kept.namespace stops) i) q) unlimited) (plus (use_left after q keys) amount))
        ((is ∙ sym (quota_after w kept.namespace stops kept.namespace)) i) true)

-- ---- what is so far decided

module _ (kept : Snapshot) (placements : List Placement) (w : World) (quota : Option Name) (r : Read) (k : ℕ) where
  abbrev part : List Placement
  part = part_of k placements

  abbrev keys : List Key
  keys = with_victims kept w r.keys part

  again : once keys ≡ keys
  again = once_idle keys (once_apart (r.keys ++ map victim_key (victims_of w kept part)))

  pub left_is : left_by w kept.pool (node_name kept k) quota r.keys (evictions_of part)
      ≡ record { load = load_left w kept.pool (node_name kept k) keys; used = quota_left w quota keys }
  left_is = ap (λ l. left_without w kept.pool (node_name kept k) quota (r.keys ++ map victim_key l)) (sym (victims_are w kept k placements))

  abbrev taking : Bool
  taking = takes kept w keys (node_name kept k) (size_of part) r.placed

  pub step_taken : taking ≡ true → (s : SoFar) → s.used ≡ quota_left w quota keys → s.placed ≡ amount_of (plus r.placed (size_of part)) →
      s.committed.items ≡ r.committed ++ k ∷ [] → s.dropped.items ≡ r.dropped → IsSoFar w quota s (read_one kept placements w r k)
  step_taken taken s u p c d = subst (λ b. IsSoFar w quota s (cond b
      (record { keys = keys; placed = plus r.placed (size_of part); committed = r.committed ++ k ∷ []; dropped = r.dropped })
      (record r { dropped = r.dropped ++ k ∷ [] }))) (sym taken)
      (record { used_is = u ∙ ap (quota_left w quota) (sym again); placed_is = p; committed_is = c; dropped_is = d })

  pub step_left : taking ≡ false → (s : SoFar) → s.used ≡ quota_left w quota (once r.keys) → s.placed ≡ amount_of r.placed →
      s.committed.items ≡ r.committed → s.dropped.items ≡ r.dropped ++ k ∷ [] → IsSoFar w quota s (read_one kept placements w r k)
  step_left left s u p c d = subst (λ b. IsSoFar w quota s (cond b
      (record { keys = keys; placed = plus r.placed (size_of part); committed = r.committed ++ k ∷ []; dropped = r.dropped })
      (record r { dropped = r.dropped ++ k ∷ [] }))) (sym left)
      (record { used_is = u; placed_is = p; committed_is = c; dropped_is = d })

fold_push : {A B : Type 0} (f : B → A → B) (b : B) (xs : List A) (x : A) → fold f b (xs ++ x ∷ []) ≡ f (fold f b xs) x
fold_push f b [] x = refl
fold_push f b (y ∷ xs) x = fold_push f (f b y) xs x

pub read_next : (kept : Snapshot) (placements : List Placement) (w : World) (nodes : List ℕ) (k : ℕ) →
    read_all kept placements w (nodes ++ k ∷ []) ≡ read_one kept placements w (read_all kept placements w nodes) k
read_next kept placements w nodes k = fold_push (read_one kept placements w) nothing_read nodes k

-- ---- which nodes are decided, and where their victims are

counts_on : (w : World) (pool node : Name) (e : Eviction) → counts w pool node e ≡ true → is_on w pool node (victim_key e) ≡ true
unfolding counts
counts_on w pool node e = by (allocation_at w (victim_key e))
  where
    by : (o : Option Allocation) → option_map_or (λ a. is_live_on pool node a && same_number a.priority e.priority) o false ≡ true →
        option_map_or (is_live_on pool node) o false ≡ true
    by None e = e
    by (Some a) e = first_of_both (is_live_on pool node a) _ e

counted_on : (w : World) (pool node : Name) (key : Key) (es : List Eviction) → has_key (counted_keys w pool node es) key ≡ true → is_on w pool node key ≡ true
counted_on w pool node key [] h = not_both h refl
counted_on w pool node key (e ∷ es) h = by (counts w pool node e) refl (counted_on w pool node key es) h
  where
    here : counts w pool node e ≡ true → same_key key (victim_key e) ≡ true → is_on w pool node key ≡ true
    here c s = ap (is_on w pool node) (key_is key (victim_key e) s) ∙ counts_on w pool node e c

    by : (b : Bool) → counts w pool node e ≡ b → (has_key (counted_keys w pool node es) key ≡ true → is_on w pool node key ≡ true) →
        has_key (map victim_key (cond b (e ∷ filter (counts w pool node) es) (filter (counts w pool node) es))) key ≡ true → is_on w pool node key ≡ true
    by true c rest h = elim (either_of (same_key key (victim_key e)) (has_key (counted_keys w pool node es) key) h) [ inl s ↦ here c s | inr l ↦ rest l ]
    by false c rest h = rest h

-- each node is in one of the lists, and what is held is live on a node that does its part
pub record IsReadOf (kept : Snapshot) (w : World) (nodes : List ℕ) (r : Read) : Type 0 where
  pub has : (k : ℕ) → (has_number r.committed k || has_number r.dropped k) ≡ has_number nodes k
  pub count : length r.committed + length r.dropped ≡ length nodes
  pub held : (key : Key) → has_key r.keys key ≡ true → list_any (λ c. is_on w kept.pool (node_name kept c) key) r.committed ≡ true

or_true : (a b : Bool) → a ≡ true → (a || b) ≡ true
or_true a b e = ap (λ a. a || b) e

module _ (kept : Snapshot) (placements : List Placement) (w : World) where
  module _ (nodes : List ℕ) (r : Read) (is : IsReadOf kept w nodes r) (k : ℕ) where
    abbrev with_node : Read
    with_node = record {
      keys = with_victims kept w r.keys (part_of k placements);
      placed = plus r.placed (size_of (part_of k placements));
      committed = r.committed ++ k ∷ [];
      dropped = r.dropped;
    }

    taken : IsReadOf kept w (nodes ++ k ∷ []) with_node
    taken = record {
      has =
          λ q. ap (λ b. b || has_number r.dropped q) (list_any-append (same_number q) r.committed (k ∷ []))
          ∙ swap (has_number r.committed q) (same_number q k || false) (has_number r.dropped q)
          ∙ ap (λ b. b || (same_number q k || false)) (is.has q) ∙ sym (list_any-append (same_number q) nodes (k ∷ []));
      count =
          let sum = is.count in let one = length-append r.committed (k ∷ []) in let all = length-append nodes (k ∷ []) in
          omega (arith, sum, one, all);
      held = λ key h. list_any-append (on key) r.committed (k ∷ []) ∙ found key
          (either_of (has_key r.keys key) (has_key (map victim_key (victims_of w kept (part_of k placements))) key)
          (sym (once_has (r.keys ++ map victim_key (victims_of w kept (part_of k placements))) key
          ∙ list_any-append (same_key key) r.keys (map victim_key (victims_of w kept (part_of k placements)))) ∙ h));
    }
      where
        swap : (a s d : Bool) → ((a || s) || d) ≡ ((a || d) || s)
        swap true s d = refl
        swap false true true = refl
        swap false true false = refl
        swap false false true = refl
        swap false false false = refl

        on : Key → ℕ → Bool
        on key c = is_on w kept.pool (node_name kept c) key

        found : (key : Key) → (has_key r.keys key ≡ true) ⊎ (has_key (map victim_key (victims_of w kept (part_of k placements))) key ≡ true) →
            (list_any (on key) r.committed || (on key k || false)) ≡ true
        found key (inl h) = or_true (list_any (on key) r.committed) _ (is.held key h)
        found key (inr h) = or_right (list_any (on key) r.committed) _ (or_true (on key k) false
            (counted_on w kept.pool (node_name kept k) key (evictions_of (part_of k placements))
            (ap (λ l. has_key (map victim_key l) key) (sym (victims_are w kept k placements)) ∙ h)))

    left : IsReadOf kept w (nodes ++ k ∷ []) (record r { dropped = r.dropped ++ k ∷ [] })
    left = record {
      has =
          λ q. ap (λ b. has_number r.committed q || b) (list_any-append (same_number q) r.dropped (k ∷ []))
          ∙ sym (or_assoc (has_number r.committed q) (has_number r.dropped q) (same_number q k || false))
          ∙ ap (λ b. b || (same_number q k || false)) (is.has q) ∙ sym (list_any-append (same_number q) nodes (k ∷ []));
      count =
          let sum = is.count in let one = length-append r.dropped (k ∷ []) in let all = length-append nodes (k ∷ []) in
          omega (arith, sum, one, all);
      held = is.held;
    }

    read_more : IsReadOf kept w (nodes ++ k ∷ []) (read_one kept placements w r k)
    read_more = by (takes kept w (with_victims kept w r.keys (part_of k placements)) (node_name kept k) (size_of (part_of k placements)) r.placed)
      where
        by : (b : Bool) → IsReadOf kept w (nodes ++ k ∷ []) (cond b with_node (record r { dropped = r.dropped ++ k ∷ [] }))
        by true = taken
        by false = left

  all_read : (ks nodes : List ℕ) (r : Read) → IsReadOf kept w nodes r → IsReadOf kept w (nodes ++ ks) (fold (read_one kept placements w) r ks)
  all_read [] nodes r is = subst (λ l. IsReadOf kept w l r) (sym (append-nil nodes)) is
  all_read (k ∷ ks) nodes r is = subst (λ l. IsReadOf kept w l (fold (read_one kept placements w) (read_one kept placements w r k) ks))
      (append_assoc nodes (k ∷ []) ks) (all_read ks (nodes ++ k ∷ []) (read_one kept placements w r k) (read_more nodes r is k))

  pub read_is : (nodes : List ℕ) → IsReadOf kept w nodes (read_all kept placements w nodes)
  read_is nodes = all_read nodes [] nothing_read (record { has = λ k. refl; count = refl; held = λ key h. not_both h refl })

-- ---- the victims of other nodes are elsewhere

module _ (kept : Snapshot) (p : Plan) (fits : IsOnFewNodes kept p) (w : World) (k : ℕ) (inside : k < length kept.nodes) where
  named : (c : ℕ) → c < length kept.nodes → (m : PoolNode) × (slice_get kept.nodes c ≡ Some m) × (node_name kept c ≡ m.name)
  named c below = elim ((slice_get_cases kept.nodes c).1) [
    | inl h ↦ (h.0, h.2, ap (λ o. option_map_or (λ (n : PoolNode). n.name) o []) h.2)
    | inr h ↦ let past = h.0 in absurd (omega (arith, past, below))
  ]

  on_node_of : (key : Key) (c : ℕ) → is_on w kept.pool (node_name kept c) key ≡ true →
      (a : Allocation) × (allocation_at w key ≡ Some a) × (node_name kept c ≡ a.node)
  on_node_of key c = by (allocation_at w key) refl
    where
      by : (o : Option Allocation) → allocation_at w key ≡ o → option_map_or (is_live_on kept.pool (node_name kept c)) o false ≡ true →
          (a : Allocation) × (allocation_at w key ≡ Some a) × (node_name kept c ≡ a.node)
      by None is e = not_both e refl
      by (Some a) is e = (
        a,
        is,
        tied one_name (node_name kept c) a.node
            (second_of_both (same_name kept.pool a.pool) _ (second_of_both (is_live a) _ e)),
      )

  one_node : (key : Key) (c : ℕ) → c < length kept.nodes → is_on w kept.pool (node_name kept c) key ≡ true →
      is_on w kept.pool (node_name kept k) key ≡ true → c ≡ k
  one_node key c below on_c on_k =
      let m = named c below in
      let n = named k inside in
      let a = on_node_of key c on_c in
      let b = on_node_of key k on_k in
      fits.once c k m.0 n.0 m.1 n.1 (sym m.2 ∙ a.2 ∙ ap (λ (a : Allocation). a.node) (same_Some a.0 b.0 (sym a.1 ∙ b.1)) ∙ sym b.2 ∙ n.2)

  among : (key : Key) → is_on w kept.pool (node_name kept k) key ≡ true → (cs : List ℕ) → ((q : ℕ) → has_number cs q ≡ true → q < length kept.nodes) →
      list_any (λ c. is_on w kept.pool (node_name kept c) key) cs ≡ true → has_number cs k ≡ true
  among key on [] below h = h
  among key on (c ∷ cs) below h = elim (either_of (is_on w kept.pool (node_name kept c) key) (list_any (λ c. is_on w kept.pool (node_name kept c) key) cs) h) [
    | inl t ↦ or_true (same_number k c) (has_number cs k) (ap (same_number k)
        (one_node key c (below c (or_true (same_number c c) (has_number cs c) (same_number_refl c))) t on) ∙ same_number_refl k)
    | inr t ↦ or_right (same_number k c) (has_number cs k) (among key on cs (λ q e. below q (or_right (same_number q c) (has_number cs q) e)) t)
  ]

  pub elsewhere_is : (nodes : List ℕ) (r : Read) → IsReadOf kept w nodes r → ((q : ℕ) → has_number nodes q ≡ true → q < length kept.nodes) →
      has_number nodes k ≡ false → AreElsewhere w kept.pool (node_name kept k) r.keys
  elsewhere_is nodes r is below new key on = by (has_key r.keys key) refl
    where
      by : (b : Bool) → has_key r.keys key ≡ b → has_key r.keys key ≡ false
      by true h = not_both (sym (is.has k) ∙ or_true (has_number r.committed k) (has_number r.dropped k)
          (among key on r.committed (λ q e. below q (sym (is.has q) ∙ or_true (has_number r.committed q) (has_number r.dropped q) e)) (is.held key h))) new
      by false h = h
