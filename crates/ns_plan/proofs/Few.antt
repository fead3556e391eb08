-- A plan is on no more nodes than its snapshot has.
use Rattle.std.specs.Prelude.{◌≡◌, ℕ, ◌+◌, ◌≤◌, ◌<◌, ◌==◌, Bool, true, false, cond, not, List, [], ◌∷◌, filter, length, map}
use Rattle.std.proofs.Common.{arith, get_or, take, inl, inr, refl, sym, ap, subst, ◌∙◌}
use Rattle.std.specs.Cmp.{eq_by_cmp_equiv}
use Rattle.std.specs.List.{All, AllByRecursion, IsDistinct, list_any}
use Rattle.std.proofs.lemmas.List.{length-append}
use Rattle.std.proofs.lemmas.List.Elements.{All-get_or, All-head, All-tail, All-take}
use Rattle.std.proofs.lemmas.Map.Keys.{IsDistinct-cons, IsDistinct-head, IsDistinct-tail}
use Rattle.std.proofs.lemmas.Map.Steps.{length-le_from_distinct_below}
use Rattle.ns_types.specs.declared.plan.Placement.{Placement}
use Rattle.ns_types.specs.declared.plan.Plan.{Plan}
use Rattle.ns_types.specs.declared.snapshot.Snapshot.{Snapshot}
use Rattle.ns_types.specs.State.Lists.{first_each}
use Rattle.ns_types.specs.State.Names.{has_number, same_number}
use Rattle.ns_types.specs.Working.Commit.{nodes_in}
use Rattle.ns_types.proofs.Elements.{any_map, any_same}
use Rattle.ns_types.proofs.Lists.{not_both}
use Rattle.ns_types.proofs.Named.{number_ties, numbers, one_number}
use Rattle.ns_types.proofs.Tables.{tied}
use Rattle.ns_types.proofs.Tests.{either_of}
use Rattle.ns_plan.specs.Looks.{IsOnFewNodes}
use Rattle.ns_plan.proofs.Parts.{first_has, nodes_step}

-- ---- each node once

differs : (x : ℕ) (ys : List ℕ) → AllByRecursion (λ y. (x == y) ≡ false) (filter (λ y. not (same_number x y)) ys)
differs x [] = tt
differs x (y ∷ ys) = by (same_number x y) refl (differs x ys)
  where
    by : (b : Bool) → same_number x y ≡ b → AllByRecursion (λ y. (x == y) ≡ false) (filter (λ y. not (same_number x y)) ys) →
        AllByRecursion (λ y. (x == y) ≡ false) (cond (not b) (y ∷ filter (λ y. not (same_number x y)) ys) (filter (λ y. not (same_number x y)) ys))
    by true e rest = rest
    by false e rest = (number_ties x y ∙ e, rest)

still : (P : ℕ → Type 0) (p : ℕ → Bool) (ys : List ℕ) → AllByRecursion P ys → AllByRecursion P (filter p ys)
still P p [] h = tt
still P p (y ∷ ys) h = by (p y) (still P p ys h.1)
  where
    by : (b : Bool) → AllByRecursion P (filter p ys) → AllByRecursion P (cond b (y ∷ filter p ys) (filter p ys))
    by true rest = (h.0, rest)
    by false rest = rest

distinct_still : (p : ℕ → Bool) (ys : List ℕ) → IsDistinct (λ a b. a == b) ys → IsDistinct (λ a b. a == b) (filter p ys)
distinct_still p [] h = h
distinct_still p (y ∷ ys) h = by (p y) (distinct_still p ys (IsDistinct-tail (λ a b. a == b) y ys h))
  where
    by : (b : Bool) → IsDistinct (λ a b. a == b) (filter p ys) → IsDistinct (λ a b. a == b) (cond b (y ∷ filter p ys) (filter p ys))
    by true rest = IsDistinct-cons (λ a b. a == b) y (filter p ys)
        (still (λ z. (y == z) ≡ false) p ys (IsDistinct-head (λ a b. a == b) y ys h)) rest
    by false rest = rest

first_distinct : (xs : List ℕ) → IsDistinct (λ a b. a == b) (first_each same_number xs)
unfolding IsDistinct
first_distinct [] = tt
first_distinct (x ∷ xs) = IsDistinct-cons (λ a b. a == b) x (filter (λ y. not (same_number x y)) (first_each same_number xs))
    (differs x (first_each same_number xs)) (distinct_still (λ y. not (same_number x y)) (first_each same_number xs) (first_distinct xs))

-- ---- each of the snapshot

module _ (n : ℕ) where
  below : (q : ℕ) (ps : List Placement) → All (λ p. p.node < n) ps → list_any (λ p. same_number q p.node) ps ≡ true → q < n
  below q [] inside h = not_both h refl
  below q (p ∷ ps) inside h = elim (either_of (same_number q p.node) (list_any (λ p. same_number q p.node) ps) h) [
    | inl e ↦ subst (λ m. m < n) (sym (tied one_number q p.node e)) (All-head (λ (p : Placement). p.node < n) p ps inside)
    | inr e ↦ below q ps (All-tail (λ (p : Placement). p.node < n) p ps inside) e
  ]

  module _ (ps : List Placement) (inside : All (λ p. p.node < n) ps) where
    pub nodes_below : (q : ℕ) → has_number (nodes_in ps) q ≡ true → q < n
    nodes_below q h = below q ps inside (sym (any_map (same_number q) (λ (p : Placement). p.node) ps)
        ∙ sym (first_has same_number (eq_by_cmp_equiv numbers).symm (tied one_number) (map (λ (p : Placement). p.node) ps) q) ∙ h)

    pub few_nodes : length (nodes_in ps) ≤ n
    few_nodes = length-le_from_distinct_below (nodes_in ps) n (first_distinct (map (λ (p : Placement). p.node) ps))
        (λ q h. nodes_below q (any_same (same_number q) (λ k. q == k) (λ k. sym (number_ties q k)) (nodes_in ps) ∙ h))

-- ---- one more

module _ (kept : Snapshot) (plan : Plan) (fits : IsOnFewNodes kept plan) where
  abbrev ps : List Placement
  ps = plan.placing.placements

  pub all_below : (i q : ℕ) → has_number (nodes_in (take i ps)) q ≡ true → q < length kept.nodes
  all_below i = nodes_below (length kept.nodes) (take i ps) (All-take (λ (p : Placement). p.node < length kept.nodes) i ps fits.inside)

  module _ (i : ℕ) (p : Placement) (inside : i < length ps) (at : p ≡ get_or ps i p) where
    pub node_inside : p.node < length kept.nodes
    node_inside = subst (λ (q : Placement). q.node < length kept.nodes) (sym at)
        (All-get_or (λ (p : Placement). p.node < length kept.nodes) ps i p inside fits.inside)

    -- there is room for a node that is new
    pub has_room : has_number (nodes_in (take i ps)) p.node ≡ false → length (nodes_in (take i ps)) < 1000
    has_room new =
        let next = ap length (nodes_step ps i p inside at (nodes_in (take i ps)) refl (nodes_in (take i ps)) refl false new) in
        let one = length-append (nodes_in (take i ps)) (p.node ∷ []) in
        let all = few_nodes (length kept.nodes) (take (i + 1) ps) (All-take (λ (p : Placement). p.node < length kept.nodes) (i + 1) ps fits.inside) in
        let most = fits.few in
        omega (arith, next, one, all, most)
