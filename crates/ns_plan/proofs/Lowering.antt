-- What a stop takes from the nodes of a snapshot, one stop after another.
use Rattle.std.specs.Prelude.{◌≡◌, ◌≢◌, ◌==◌, ℕ, ◌+◌, ◌<◌, ◌≤◌, Bool, true, false, cond, List, [], Option, Some, None, ◌&&◌, length, nat_lt, slice_get, take}
use Rattle.std.specs.Option.{option_map_or}
use Rattle.std.proofs.Common.{arith, get_or, inl, inr, ltb-false, ltb-true, refl, set, sym, ap, subst, true≢false, ◌∙◌}
use Rattle.std.proofs.lemmas.Bool.{eqb-false, eqb-true}
use Rattle.std.proofs.lemmas.List.{get_or-set_other, get_or-set_same}
use Rattle.std.proofs.lemmas.Option.{slice_get-get_or, slice_get_cases, slice_get_past, slice_get_within}
use Rattle.ns_types.specs.declared.allocation.Allocation.{Allocation}
use Rattle.ns_types.specs.declared.resources.Resources.{Resources}
use Rattle.ns_types.specs.declared.snapshot.PoolNode.{PoolNode}
use Rattle.ns_types.specs.declared.snapshot.Snapshot.{Snapshot}
use Rattle.ns_types.specs.State.Names.{Name, has_number, same_name}
use Rattle.ns_types.specs.State.Resources.{minus, none}
use Rattle.ns_types.specs.State.Rows.{World, allocation_at, is_live}
use Rattle.ns_types.specs.Working.Commit.{node_name}
use Rattle.ns_types.proofs.Amounts.{minus_none}
use Rattle.ns_types.proofs.Named.{same_name_is, same_name_refl}
use Rattle.ns_types.proofs.Once.{once}
use Rattle.ns_types.proofs.Tests.{not_Some}
use Rattle.ns_plan.specs.After.{part_on, stop_keys}
use Rattle.ns_plan.specs.Loads.{AreApart, AreLeft, IsPlaceOf, IsTaken, is_named, taken}
use Rattle.ns_plan.specs.Reader.{load_left}
use Rattle.ns_plan.proofs.Afterwards.{load_step}

-- ---- the node of an allocation

module _ (kept : Snapshot) (a : Allocation) where
  abbrev part : ℕ → Resources
  part k = part_on kept.pool (node_name kept k) (Some a)

  off : (l p n : Bool) → n ≡ false → cond (l && (p && n)) a.size none ≡ none
  off true true n e = ap (λ b. cond b a.size none) e
  off true false n e = refl
  off false p n e = refl

  on : (l p n : Bool) → (l && p) ≡ true → n ≡ true → cond (l && (p && n)) a.size none ≡ a.size
  on true true n e f = ap (λ b. cond b a.size none) f
  on true false n e f = absurd (true≢false (sym e))
  on false p n e f = absurd (true≢false (sym e))

  absent : (k : ℕ) → k < length kept.nodes → slice_get kept.nodes k ≡ None → ⊥
  absent k inside e = elim ((slice_get_cases kept.nodes k).1) [
    | inl h ↦ not_Some h.0 (sym e ∙ h.2)
    | inr h ↦ omega (arith, h.0, inside)
  ]

  elsewhere : (k : ℕ) → k < length kept.nodes → is_named kept.nodes a.node k ≡ false → part k ≡ none
  elsewhere k inside = by (slice_get kept.nodes k) refl
    where
      by : (o : Option PoolNode) → slice_get kept.nodes k ≡ o → option_map_or (λ n. same_name n.name a.node) o false ≡ false →
          cond (is_live a && (same_name kept.pool a.pool && same_name (option_map_or (λ n. n.name) o []) a.node)) a.size none ≡ none
      by (Some n) e f = off (is_live a) (same_name kept.pool a.pool) (same_name n.name a.node) f
      by None e f = absurd (absent k inside e)

  named_there : (k : ℕ) → is_named kept.nodes a.node k ≡ true → (n : PoolNode) × (slice_get kept.nodes k ≡ Some n) × (n.name ≡ a.node)
  named_there k = by (slice_get kept.nodes k) refl
    where
      by : (o : Option PoolNode) → slice_get kept.nodes k ≡ o → option_map_or (λ n. same_name n.name a.node) o false ≡ true →
          (n : PoolNode) × (slice_get kept.nodes k ≡ Some n) × (n.name ≡ a.node)
      by (Some n) e f = (n, e, same_name_is n.name a.node f)
      by None e f = absurd (true≢false (sym f))

  -- no node has its name
  pub from_none : IsPlaceOf kept.nodes a.node None → IsTaken kept part None
  from_none nowhere k inside = elsewhere k inside (nowhere k)

  -- one has
  pub from_one : AreApart kept → (is_live a && same_name kept.pool a.pool) ≡ true → (p : ℕ) → IsPlaceOf kept.nodes a.node (Some p) →
      IsTaken kept part (Some (p, a.size))
  from_one apart lives p named = (
    slice_get_within kept.nodes p there.0 there.1,
    on (is_live a) (same_name kept.pool a.pool) (same_name (node_name kept p) a.node) lives
        (ap (λ o. same_name (option_map_or (λ n. n.name) o []) a.node) there.1 ∙ ap (λ n. same_name n a.node) there.2 ∙ same_name_refl a.node),
    λ k inside other. elsewhere k inside (by k other (is_named kept.nodes a.node k) refl),
  )
    where
      there : (n : PoolNode) × (slice_get kept.nodes p ≡ Some n) × (n.name ≡ a.node)
      there = named_there p named

      by : (k : ℕ) → k ≢ p → (b : Bool) → is_named kept.nodes a.node k ≡ b → is_named kept.nodes a.node k ≡ false
      by k other true e = let here = named_there k e in absurd (other (apart k p here.0 there.0 here.1 there.1 (here.2 ∙ sym there.2)))
      by k other false e = e

  -- one that is not live in the pool takes nothing from any node
  pub from_idle : (is_live a && same_name kept.pool a.pool) ≡ false → IsTaken kept part None
  from_idle idle k inside = by (is_live a) (same_name kept.pool a.pool) (same_name (node_name kept k) a.node) idle
    where
      by : (l p n : Bool) → (l && p) ≡ false → cond (l && (p && n)) a.size none ≡ none
      by true true n e = absurd (true≢false e)
      by true false n e = refl
      by false p n e = refl

-- ---- a stop

module _ (w : World) (kept : Snapshot) (stops : List ℕ) (place : ℕ) where
  abbrev number : ℕ
  number = get_or stops place 0

  abbrev stood : Bool
  stood = has_number (take place stops) number

  abbrev parts : Option Allocation → ℕ → Resources
  parts row k = part_on kept.pool (node_name kept k) row

  nothing : (b : Bool) (r : Resources) → r ≡ none → cond b none r ≡ none
  nothing true r e = refl
  nothing false r e = e

  -- its row takes nothing
  pub of_none : (row : Option Allocation) → row ≡ allocation_at w (kept.namespace, number) →
      IsTaken kept (parts row) None → IsTaken kept (taken w kept stops place) None
  of_none row is takes k inside = nothing stood (parts (allocation_at w (kept.namespace, number)) k) (ap (λ r. parts r k) (sym is) ∙ takes k inside)

  -- its number stood earlier
  pub of_earlier : stood ≡ true → IsTaken kept (taken w kept stops place) None
  of_earlier e k inside = ap (λ b. cond b none (parts (allocation_at w (kept.namespace, number)) k)) e

  -- it takes what its row does
  pub of_row : (row : Option Allocation) → row ≡ allocation_at w (kept.namespace, number) → stood ≡ false → (r : Option (ℕ × Resources)) →
      IsTaken kept (parts row) r → IsTaken kept (taken w kept stops place) r
  of_row row is first r = subst (λ (f : ℕ → Resources). IsTaken kept f r) (λ i k. cond (sym first i) none (parts (is i) k))

  module _ (inside : place < length stops) where
    abbrev at : ℕ → ℕ → Resources
    at n k = load_left w kept.pool (node_name kept k) (once (stop_keys kept.namespace (take n stops)))

    left_next : (k : ℕ) → at (place + 1) k ≡ minus (at place k) (taken w kept stops place k)
    left_next k = load_step kept.namespace stops place inside w stood refl kept.pool (node_name kept k) ∙ by stood
      where
        by : (b : Bool) → cond b (at place k) (minus (at place k) (parts (allocation_at w (kept.namespace, number)) k))
            ≡ minus (at place k) (cond b none (parts (allocation_at w (kept.namespace, number)) k))
        by true = sym (minus_none (at place k))
        by false = refl

    pub none_less : (loads : List Resources) → IsTaken kept (taken w kept stops place) None →
        AreLeft w kept (stop_keys kept.namespace (take place stops)) loads → AreLeft w kept (stop_keys kept.namespace (take (place + 1) stops)) loads
    none_less loads takes left k here d = left k here d ∙ sym (left_next k ∙ ap (minus (at place k)) (takes k here) ∙ minus_none (at place k))

    pub one_less : (loads : List Resources) → length kept.nodes ≤ length loads → (node : ℕ) (size : Resources) →
        IsTaken kept (taken w kept stops place) (Some (node, size)) → (d : Resources) (new : Resources) → new ≡ minus (get_or loads node d) size →
        AreLeft w kept (stop_keys kept.namespace (take place stops)) loads →
        AreLeft w kept (stop_keys kept.namespace (take (place + 1) stops)) (set loads node new)
    one_less loads long node size takes e new is left k here d = by (k == node) refl
      where
        by : (b : Bool) → (k == node) ≡ b → get_or (set loads node new) k d ≡ at (place + 1) k
        by true same = let k_is = eqb-true k node same in
            ap (λ n. get_or (set loads node new) n d) k_is
            ∙ get_or-set_same loads node new d (omega (arith, long, takes.0))
            ∙ is ∙ ap (λ l. minus l size) (left node takes.0 e) ∙ ap (minus (at place node)) (sym takes.1)
            ∙ sym (left_next node) ∙ ap (at (place + 1)) (sym k_is)
        by false differ = get_or-set_other loads node k new d (eqb-false k node differ)
            ∙ left k here d ∙ sym (left_next k ∙ ap (minus (at place k)) (takes.2 k here (eqb-false k node differ)) ∙ minus_none (at place k))

-- ---- a walk over the nodes

module _ (nodes : List PoolNode) (name : Name) where
  pub named_at : (k : ℕ) (d : PoolNode) → k < length nodes → is_named nodes name k ≡ same_name (get_or nodes k d).name name
  named_at k d inside = ap (λ o. option_map_or (λ (n : PoolNode). same_name n.name name) o false) (slice_get-get_or nodes k d inside)

  -- none behind the last
  pub all_walked : (i : ℕ) → length nodes ≤ i → ((k : ℕ) → k < i → is_named nodes name k ≡ false) → IsPlaceOf nodes name None
  all_walked i behind before k = by (nat_lt k i) refl
    where
      by : (b : Bool) → nat_lt k i ≡ b → is_named nodes name k ≡ false
      by true e = before k (ltb-true k i e)
      by false e = let past = ltb-false k i e in
          ap (λ o. option_map_or (λ (n : PoolNode). same_name n.name name) o false) (slice_get_past nodes k (omega (arith, behind, past)))

  -- one more
  pub walked_next : (i : ℕ) → is_named nodes name i ≡ false → ((k : ℕ) → k < i → is_named nodes name k ≡ false) →
      (k : ℕ) → k < i + 1 → is_named nodes name k ≡ false
  walked_next i here before k below = by (nat_lt k i) refl
    where
      by : (b : Bool) → nat_lt k i ≡ b → is_named nodes name k ≡ false
      by true e = before k (ltb-true k i e)
      by false e = let past = ltb-false k i e in
          let same : k ≡ i = omega (arith, below, past) in
          ap (is_named nodes name) same ∙ here
