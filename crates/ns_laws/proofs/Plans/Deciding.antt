-- How it is decided, node by node, what is done of a plan.
use Rattle.std.specs.Prelude.{◌≡◌, ℕ, Bool, true, false, cond, ◌&&◌, List, [], ◌∷◌, ◌++◌, Option, Some, None, fold}
use Rattle.std.proofs.Common.{refl}
use Rattle.std.specs.Option.{option_map_or}
use Rattle.ns_types.specs.declared.node.Node.{Node}
use Rattle.ns_types.specs.declared.plan.Placement.{Placement}
use Rattle.ns_types.specs.declared.snapshot.Snapshot.{Snapshot}
use Rattle.ns_types.specs.Placing.Constraint.{is_feasible}
use Rattle.ns_types.specs.Placing.Plan.{constraints_of}
use Rattle.ns_types.specs.State.Resources.{is_within, plus}
use Rattle.ns_types.specs.State.Rows.{World, node_at}
use Rattle.ns_types.specs.State.Sums.{node_load}
use Rattle.ns_types.specs.Working.Commit.{Commit, accepts, accepts_at, decide, evict_all, node_name, part_of, quota_allows, size_of, victims_of}
use Rattle.ns_types.proofs.Lists.{not_both}
use Rattle.ns_types.proofs.Named.{first_of_both, second_of_both}

module _ (kept : Snapshot) (ps : List Placement) where
  -- what is left once the victims on the node are evicted
  abbrev pub left_by : Commit → ℕ → World
  left_by c k = evict_all c.world (victims_of c.world kept (part_of k ps))

  abbrev pub committing : Commit → ℕ → Commit
  committing c k = record {
    world = left_by c k;
    placed = plus c.placed (size_of (part_of k ps));
    committed = c.committed ++ k ∷ [];
    dropped = c.dropped;
  }

  abbrev pub dropping : Commit → ℕ → Commit
  dropping c k = record c { dropped = c.dropped ++ k ∷ [] }

  abbrev pub is_accepted : Commit → ℕ → Bool
  is_accepted c k = accepts_at kept (left_by c k) (node_name kept k) (part_of k ps) c.placed

  -- a node that accepts its part is there and fit, and the quota allows the part
  pub accepted : (c : Commit) (k : ℕ) → is_accepted c k ≡ true → (node : Node) × (node_at (left_by c k) kept.pool (node_name kept k) ≡ Some node)
      × (is_feasible (constraints_of kept.job) (node_name kept k) node ≡ true)
      × (quota_allows (left_by c k) kept.namespace (plus c.placed (size_of (part_of k ps))) ≡ true)
  accepted c k = by (node_at (left_by c k) kept.pool (node_name kept k)) refl
    where
      by : (o : Option Node) → node_at (left_by c k) kept.pool (node_name kept k) ≡ o
          → option_map_or (accepts kept (left_by c k) (node_name kept k) (part_of k ps) c.placed) o false ≡ true
          → (node : Node) × (node_at (left_by c k) kept.pool (node_name kept k) ≡ Some node)
          × (is_feasible (constraints_of kept.job) (node_name kept k) node ≡ true)
          × (quota_allows (left_by c k) kept.namespace (plus c.placed (size_of (part_of k ps))) ≡ true)
      by None is e = not_both e refl
      by (Some node) is e =
          let fits = is_within (plus (node_load (left_by c k) kept.pool (node_name kept k)) (size_of (part_of k ps))) node.offer.capacity in
          let feasible = is_feasible (constraints_of kept.job) (node_name kept k) node in
          (node, is, first_of_both feasible fits (first_of_both (feasible && fits) _ e), second_of_both (feasible && fits) _ e)

  module _ (P : Commit → Type 0) where
    -- the node is committed where it accepts its part, and dropped where it does not
    pub decide_either : (c : Commit) (k : ℕ) → (is_accepted c k ≡ true → P (committing c k)) → P (dropping c k) → P (decide kept ps c k)
    unfolding decide
    decide_either c k commits drops = by (is_accepted c k) refl
      where
        by : (b : Bool) → is_accepted c k ≡ b → P (cond b (committing c k) (dropping c k))
        by true e = commits e
        by false e = drops

    -- what each decision keeps holds once all are made
    pub decide_all : ((c : Commit) (k : ℕ) → P c → P (decide kept ps c k)) → (ks : List ℕ) (c : Commit) → P c → P (fold (decide kept ps) c ks)
    decide_all keeps [] c h = h
    decide_all keeps (k ∷ ks) c h = decide_all keeps ks (decide kept ps c k) (keeps c k h)
