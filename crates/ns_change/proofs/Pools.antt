-- A pool's change that is taken out and put again.
use Rattle.std.specs.Prelude.{◌≡◌, Bool, true, false, cond, Option, Some, None, option_map, IsTrue}
use Rattle.std.proofs.Common.{refl, sym, ap, ◌∙◌}
use Rattle.std.specs.Option.{option_map_or}
use Rattle.std.specs.Ordering.{eq_by_cmp}
use Rattle.std.specs.FinMap.{FinMap, get, get-insert, insert, same_map}
use Rattle.keyed.specs.Table.{has_slot, row_at, with_slot}
use Rattle.std.proofs.Common.{Ordering}
use Rattle.std.specs.Cmp.{IsTotalOrder}
use Rattle.std.specs.FinMap.{IsAntisymmetric, remove}
use Rattle.keyed.specs.Table.{emptied}
use Rattle.keyed.proofs.Tables.{has_slot-with_slot_here}
use Rattle.keyed.proofs.Over.{over-gone}
use Rattle.ns_types.specs.Settling.Making.{put_pool}
use Rattle.ns_types.specs.State.Names.{Name, name_cmp}
use Rattle.ns_types.specs.State.Rows.{PoolRows}
use Rattle.ns_types.specs.State.Tables.{map_rows}
use Rattle.ns_types.proofs.Named.{names, one_name}
use Rattle.ns_types.proofs.Tables.{get-map_rows, tied}
use Rattle.ns_change.specs.declared.change.Change.{Change}
use Rattle.ns_change.specs.declared.change.PoolChange.{PoolChange}
use Rattle.ns_tables.specs.declared.tables.PoolRows.{PoolRows as StoredPool}
use Rattle.ns_tables.specs.declared.tables.Tables.{Tables}
use Rattle.ns_change.specs.Changed.{changed, changed_pool, perhaps, unchanged_pool}
use Rattle.ns_change.specs.Opened.{IsOpenPool, OpenedPool, with_pool}
use Rattle.keyed.specs.Over.{over}
use Rattle.ns_tables.specs.World.{pool_of, world_of}
use Rattle.ns_change.specs.Changed.{view}
use Rattle.ns_change.specs.Changed.{change_pool}
use Rattle.ns_change.proofs.Opening.{row_set}
use Rattle.ns_change.proofs.Seen.{pool_seen, seen_as}
use Rattle.ns_tables.proofs.World.{pool_at}
use Rattle.keyed.proofs.Over.{over-empty}
use Rattle.ns_types.proofs.Gone.{insert_twice}

pub pool_unchanged : (p : PoolRows) → changed_pool p (unchanged_pool p) ≡ p
pool_unchanged p = λ i. record p { nodes = over-empty names one_name p.nodes i }

module _ (t : Tables) (c left : Change) (name : Name) (x : StoredPool) (y : PoolChange) (at : row_at t.pools name ≡ Some x)
    (was : perhaps changed_pool (row_at c.pools name) (pool_of x) ≡ changed_pool (pool_of x) y)
    (others : (q : Name) → eq_by_cmp name_cmp q name ≡ false → row_at left.pools q ≡ row_at c.pools q) (rest : left ≡ record c { pools = left.pools })
    (slot : IsTrue (has_slot left.pools name)) where
  pools_closed : (z : PoolChange) → map_rows (λ q p. perhaps changed_pool (row_at (insert left.pools name (Some z)) q) p) (world_of t).pools
      ≡ insert (map_rows (λ q p. perhaps changed_pool (row_at c.pools q) p) (world_of t).pools) name (changed_pool (pool_of x) z)
  pools_closed z = same_map names one_name _ _ (λ q. get-map_rows names one_name _ (world_of t).pools q ∙ by q (eq_by_cmp name_cmp q name) refl
      ∙ sym (get-insert names (map_rows (λ q p. perhaps changed_pool (row_at c.pools q) p) (world_of t).pools) name (changed_pool (pool_of x) z) q ∙
      ap (cond (eq_by_cmp name_cmp q name) (Some (changed_pool (pool_of x) z))) (get-map_rows names one_name _ (world_of t).pools q)))
    where
      by : (q : Name) (b : Bool) → eq_by_cmp name_cmp q name ≡ b →
          option_map (perhaps changed_pool (row_at (insert left.pools name (Some z)) q)) (get (world_of t).pools q)
          ≡ cond b (Some (changed_pool (pool_of x) z)) (option_map (perhaps changed_pool (row_at c.pools q)) (get (world_of t).pools q))
      by q true e = (λ i. option_map (perhaps changed_pool ((row_set names one_name left.pools name z q ∙ ap (λ b. cond b (Some z) (row_at left.pools q)) e) i))
          ((ap (get (world_of t).pools) (tied one_name q name e) ∙ pool_at t name ∙ ap (option_map pool_of) at) i))
      by q false e = ap (λ r. option_map (perhaps changed_pool r) (get (world_of t).pools q)) (row_set names one_name left.pools name z q ∙
          ap (λ b. cond b (Some z) (row_at left.pools q)) e ∙ others q e)

  pub opened_pool : IsOpenPool t c name y left
  unfolding changed
  opened_pool = record {
    base = pool_of x;
    seen = pool_seen t c name ∙ ap (λ p. seen_as t c name p (row_at c.pools name)) at ∙ ap Some was;
    slot = slot;
    closes = λ z. ap (λ l. changed (world_of t) (with_pool name z l)) rest ∙ (λ i. record (changed (world_of t) c) { pools = pools_closed z i });
  }

module _ (t : Tables) (c left : Change) (name : Name) (f : PoolRows → PoolRows) where
  pub put_open_pool : (x y : PoolChange) → OpenedPool t c name (Some x) left → ((base : PoolRows) → changed_pool base y ≡ f (changed_pool base x)) →
      view t (with_pool name y left) ≡ change_pool name f (view t c)
  put_open_pool x y is law = is.closes y ∙ ap (λ z. put_pool name z (view t c)) (law is.base) ∙
      sym (ap (λ o. option_map_or (λ z. put_pool name (f z) (view t c)) o (view t c)) is.seen)

-- ---- nodes that go

module _ {K X : Type 0} {R : K → K → Ordering} (o : IsTotalOrder R) (same : IsAntisymmetric R) where
  -- a slot made vacant takes the row away
  pub over-vacant : (m : FinMap R X) (c : FinMap R (Option X)) (k : K) → over m (emptied (with_slot c k) k) ≡ remove (over m c) k
  over-vacant m c k = ap (λ b. over m (cond b (insert (with_slot c k) k None) (with_slot c k))) (has_slot-with_slot_here o c k)
      ∙ ap (over m) (by (has_slot c k)) ∙ over-gone o same m c k
    where
      by : (b : Bool) → insert (cond b c (insert c k None)) k None ≡ insert c k None
      by true = refl
      by false = insert_twice o same c k None None
