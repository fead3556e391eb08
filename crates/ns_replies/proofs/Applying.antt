-- What the answer to an Apply takes is no more than what its plan says.
use Rattle.std.proofs.Common.{◌≡◌, ℕ, ◌+◌, ◌*◌, ◌≤◌, Bool, true, false, cond, List, [], ◌∷◌, ◌++◌, length, map, refl, ap, arith}
use Rattle.std.specs.Prelude.{fold, sum_by}
use Rattle.std.specs.FinMap.{get}
use Rattle.std.proofs.lemmas.List.Sums.{sum_by-cons, sum_by_push}
use Rattle.ns_types.specs.declared.plan.Placement.{Placement}
use Rattle.ns_types.specs.declared.plan.Plan.{Plan}
use Rattle.ns_types.specs.declared.snapshot.Snapshot.{Snapshot}
use Rattle.ns_types.specs.State.Names.{has_number, same_number}
use Rattle.ns_types.specs.State.Rows.{World, Tenant}
use Rattle.ns_types.specs.Working.Commit.{Applied, Commit, begun, commit, committed_placements, decide, done, live_stops, names_in}
use Rattle.ns_types.specs.Working.Commit.{node_name, nodes_in, numbers_after, refused_whole, still_stands, stop_all}
use Rattle.ns_types.proofs.Sums.{sum_map}
use Rattle.ns_replies.specs.Bodies.{text_bytes}
use Rattle.ns_replies.specs.Rooms.{placement_bytes}
use Rattle.ns_replies.proofs.Summing.{length-filter-le, sum_by-first_each-le, sum_by-sorted_names-le}

length-numbers_after : {X : Type 0} (n : ℕ) (xs : List X) → length (numbers_after n xs) ≡ length xs
length-numbers_after n [] = refl
length-numbers_after n (x ∷ xs) = omega (arith, length-numbers_after (n + 1) xs)

module _ (kept : Snapshot) where
  -- of the node at a place
  abbrev node_bytes : ℕ → ℕ
  node_bytes k = text_bytes (node_name kept k)

  abbrev named_bytes : List Placement → ℕ
  named_bytes ps = sum_by (λ p. node_bytes p.node) ps

  sum_by-placement_bytes : (ps : List Placement) → sum_by (placement_bytes kept) ps ≡ length ps * 39 + named_bytes ps
  sum_by-placement_bytes [] = refl
  sum_by-placement_bytes (p ∷ ps) =
      omega (arith, sum_by-cons (placement_bytes kept) p ps, sum_by-cons (λ (x : Placement). node_bytes x.node) p ps, sum_by-placement_bytes ps)

  -- the names of some nodes, each once
  names_small : (ks : List ℕ) → sum_by text_bytes (names_in kept ks) ≤ sum_by node_bytes ks
  names_small ks = omega (arith, sum_by-sorted_names-le text_bytes (map (node_name kept) ks), sum_map text_bytes (node_name kept) ks)

  nodes_small : (ps : List Placement) → sum_by node_bytes (nodes_in ps) ≤ named_bytes ps
  nodes_small ps = omega (arith, sum_by-first_each-le node_bytes same_number (map (λ p. p.node) ps), sum_map node_bytes (λ (p : Placement). p.node) ps)

  -- what one node adds to those that are dropped
  one_dropped : (ps : List Placement) (c : Commit) (k : ℕ) → sum_by node_bytes (decide kept ps c k).dropped ≤ sum_by node_bytes c.dropped + node_bytes k
  unfolding decide
  one_dropped ps c k = by _ _ _ refl refl
    where
      by : (b : Bool) (x y : Commit) → x.dropped ≡ c.dropped → y.dropped ≡ c.dropped ++ k ∷ [] →
          sum_by node_bytes (cond b x y).dropped ≤ sum_by node_bytes c.dropped + node_bytes k
      by true x y p q = omega (arith, ap (sum_by node_bytes) p)
      by false x y p q = omega (arith, ap (sum_by node_bytes) q, sum_by_push node_bytes c.dropped k)

  all_dropped : (ps : List Placement) (ks : List ℕ) (c : Commit) → sum_by node_bytes (fold (decide kept ps) c ks).dropped ≤ sum_by node_bytes c.dropped
      + sum_by node_bytes ks
  all_dropped ps [] c = omega arith
  all_dropped ps (k ∷ ks) c = omega (arith, all_dropped ps ks (decide kept ps c k), one_dropped ps c k, sum_by-cons node_bytes k ks)

  abbrev Fits : List Placement → Applied → Type 0
  Fits ps a = length a.made * 39 + sum_by text_bytes a.dropped ≤ sum_by (placement_bytes kept) ps

  refused_fits : (p : Plan) (w : World) → Fits p.placing.placements (refused_whole kept p w)
  refused_fits p w = omega (
    arith,
    names_small (nodes_in p.placing.placements),
    nodes_small p.placing.placements,
    sum_by-placement_bytes p.placing.placements,
  )

  done_fits : (p : Plan) (w : World) (t : Tenant) → Fits p.placing.placements (done kept p w t)
  done_fits p w t =
      let ps : List Placement = p.placing.placements in
      let c : Commit = fold (decide kept ps) (begun (stop_all kept.namespace (live_stops t p.stops) w)) (nodes_in ps) in
      omega (
        arith,
        length-numbers_after t.allocation_number (committed_placements c ps),
        length-filter-le (λ (x : Placement). has_number c.committed x.node) ps,
        names_small c.dropped,
        all_dropped ps (nodes_in ps) (begun (stop_all kept.namespace (live_stops t p.stops) w)),
        nodes_small ps,
        sum_by-placement_bytes ps,
      )

  -- what is done of a plan is said in the bytes of its placements
  pub commit_fits : (p : Plan) (w : World) (t : Tenant) → Fits p.placing.placements (commit kept p w t)
  unfolding commit
  commit_fits p w t = by (still_stands kept.job (get t.jobs kept.evaluation.job))
    where
      by : (b : Bool) → Fits p.placing.placements (cond b (done kept p w t) (refused_whole kept p w))
      by true = done_fits p w t
      by false = refused_fits p w
