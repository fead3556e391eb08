-- The infeasible classes of one node more.
use Rattle.std.specs.Prelude.{◌≡◌, ℕ, suc, ◌-◌, ◌<◌, true, cond, List, [], ◌∷◌, drop, length, map, filter}
use Rattle.std.proofs.Common.{ap, ◌∙◌, arith, drop-cons, get_or}
use Rattle.std.specs.BTreeSet.{insert_key}
use Rattle.std.specs.FinMap.{keys, from_entries}
use Rattle.ns_types.specs.declared.job.Constraint.{Constraint}
use Rattle.ns_types.specs.declared.node.Class.{Class}
use Rattle.ns_types.specs.declared.snapshot.PoolNode.{PoolNode}
use Rattle.ns_types.specs.Placing.Constraint.{is_class_infeasible}
use Rattle.ns_types.specs.State.Names.{Name, class_cmp}
use Rattle.ns_types.specs.State.Rows.{class_of}
use Rattle.ns_types.proofs.Classes.{by_class, one_class}
use Rattle.ns_types.proofs.TableRows.{entries_empty}
use Rattle.ns_followers.specs.Remembered.{infeasible_among}
use Rattle.ns_followers.proofs.Placed.{keys_insert}

module _ (constraints : List Constraint) (p : PoolNode) (ps : List PoolNode) where
  of_nodes : List PoolNode → List PoolNode
  of_nodes nodes = filter (λ p. is_class_infeasible constraints p.name p.row) nodes

  pub takes : is_class_infeasible constraints p.name p.row ≡ true →
      infeasible_among constraints (p ∷ ps) ≡ insert_key class_cmp (infeasible_among constraints ps) (class_of p.row)
  unfolding of_nodes
  takes e = ap (λ b. keys (from_entries {R = class_cmp} (map (λ p. (class_of p.row, p.name)) (cond b (p ∷ of_nodes ps) (of_nodes ps))))) e
      ∙ keys_insert class_cmp by_class (from_entries (map (λ p. (class_of p.row, p.name)) (of_nodes ps))) (class_of p.row) p.name

-- the same, where the nodes are looked at from the last one on
pub takes_at : (constraints : List Constraint) (ps : List PoolNode) (i : ℕ) (d : PoolNode) → 0 < i → i - 1 < length ps →
    let p = get_or ps (i - 1) d in
    is_class_infeasible constraints p.name p.row ≡ true →
    infeasible_among constraints (drop (i - 1) ps) ≡ insert_key class_cmp (infeasible_among constraints (drop i ps)) (class_of p.row)
takes_at constraints ps i d some l e =
    let next : suc (i - 1) ≡ i = omega arith in
    let p = get_or ps (i - 1) d in
    ap (infeasible_among constraints) (drop-cons ps (i - 1) d l)
    ∙ takes constraints p (drop (suc (i - 1)) ps) e
    ∙ ap (λ j. insert_key class_cmp (infeasible_among constraints (drop j ps)) (class_of p.row)) next

-- of no node
pub nothing : (constraints : List Constraint) → infeasible_among constraints [] ≡ []
nothing constraints = ap (map (λ (e : Class × Name). e.0)) (entries_empty by_class one_class)
