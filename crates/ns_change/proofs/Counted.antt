-- A placement counted where the change has the node's row.
use Rattle.std.specs.Prelude.{◌≡◌, ◌+◌, Option, Some, None}
use Rattle.std.proofs.Common.{refl, sym, ap, ◌∙◌, Ordering}
use Rattle.std.specs.Option.{option_map_or, unwrap_or}
use Rattle.std.specs.FinMap.{FinMap, get, insert}
use Rattle.keyed.specs.Table.{flat, rows, row_at}
use Rattle.keyed.proofs.Over.{get-over, over-put}
use Rattle.keyed.proofs.Tables.{has_slot-row}
use Rattle.ns_types.specs.declared.node.Node.{Node}
use Rattle.ns_types.specs.State.Names.{Name}
use Rattle.ns_types.specs.State.Rows.{node_at}
use Rattle.ns_types.specs.Working.Commit.{with_place}
use Rattle.ns_types.proofs.Named.{names, one_name}
use Rattle.ns_change.specs.declared.change.Change.{Change}
use Rattle.ns_change.specs.declared.change.PoolChange.{PoolChange}
use Rattle.ns_tables.specs.declared.tables.PoolRows.{PoolRows as StoredPool}
use Rattle.ns_tables.specs.declared.tables.Tables.{Tables}
use Rattle.ns_tables.specs.World.{pool_of}
use Rattle.ns_change.specs.Changed.{change_pool, changed_pool, count_place, perhaps, view}
use Rattle.ns_change.proofs.Pools.{opened_pool, put_open_pool}
use Rattle.ns_change.proofs.Seen.{changed_node}

module _ {K X : Type 0} {R : K → K → Ordering} where
  -- the slot of a row
  pub slot_of_row : (m : FinMap R (Option X)) (k : K) (x : X) → row_at m k ≡ Some x → get m k ≡ Some (Some x)
  slot_of_row m k x is = by (get m k) is
    where
      by : (s : Option (Option X)) → flat s ≡ Some x → s ≡ Some (Some x)
      by None e = cc
      by (Some r) e = ap Some e

module _ (t : Tables) (c : Change) (pool name : Name) (x : StoredPool) (y : PoolChange) (row : Node) (at : row_at t.pools pool ≡ Some x)
    (held : row_at c.pools pool ≡ Some y) (has : row_at y.nodes name ≡ Some row) where
  pub node_again : node_at (view t c) pool name ≡ Some row
  node_again = changed_node t c pool name x y at held ∙ get-over names one_name (rows x.nodes) y.nodes name ∙
      ap (λ s. unwrap_or s (get (rows x.nodes) name)) (slot_of_row y.nodes name row has)

  abbrev counted_row : Node
  counted_row = record row { places = row.places + 1 }

  abbrev counted_pool : PoolChange
  counted_pool = record y { nodes = insert y.nodes name (Some counted_row) }

  pub counted_again : view t (record c { pools = insert c.pools pool (Some counted_pool) }) ≡ count_place pool name (view t c)
  counted_again = put_open_pool t c c pool (with_place name row) y counted_pool
      (opened_pool t c c pool x y at (ap (λ r. perhaps changed_pool r (pool_of x)) held) (λ q e. refl) refl (has_slot-row c.pools pool y held))
      (λ base i. record (changed_pool base y) { nodes = over-put names one_name base.nodes y.nodes name counted_row i })
      ∙ sym (ap (λ r. option_map_or (λ n. change_pool pool (with_place name n) (view t c)) r (view t c)) node_again)
