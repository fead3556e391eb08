-- A namespace's change that is taken out and put again.
use Rattle.std.specs.Prelude.{◌≡◌, ℕ, ◌+◌, Bool, true, false, cond, Option, Some, None, option_map, IsTrue}
use Rattle.std.proofs.Common.{refl, sym, ap, ◌∙◌, Ordering}
use Rattle.std.specs.Option.{option_map_or}
use Rattle.std.specs.Ordering.{eq_by_cmp}
use Rattle.std.specs.Cmp.{IsTotalOrder}
use Rattle.std.specs.FinMap.{FinMap, IsAntisymmetric, get, get-insert, get-remove, insert, same_map}
use Rattle.keyed.specs.Table.{flat, rows, row_at, has_slot, emptied, with_slot, KeepsSlots}
use Rattle.keyed.proofs.Tables.{get-rows, has_slot-insert, has_slot-row, rows-emptied, rows-with_slot}
use Rattle.ns_types.specs.declared.evaluation.Evaluation.{Evaluation}
use Rattle.ns_types.specs.Settling.Making.{change_tenant, make, make_in, put_tenant, with_evaluation}
use Rattle.ns_types.specs.State.Names.{Name, name_cmp}
use Rattle.ns_types.specs.State.Rows.{Tenant, World}
use Rattle.ns_types.specs.Working.Queue.{queue}
use Rattle.ns_types.specs.State.Tables.{map_rows}
use Rattle.ns_types.proofs.Named.{names, one_name, numbers, one_number}
use Rattle.ns_types.proofs.Tables.{get-map_rows, tied}
use Rattle.ns_types.proofs.Tests.{same_Some}
use Rattle.ns_change.specs.declared.change.Change.{Change}
use Rattle.ns_change.specs.declared.change.TenantChange.{TenantChange}
use Rattle.ns_tables.specs.declared.tables.Tables.{Tables}
use Rattle.ns_tables.specs.declared.tables.TenantRows.{TenantRows}
use Rattle.ns_change.specs.Changed.{changed, changed_tenant, next_evaluation, perhaps, unchanged}
use Rattle.keyed.specs.Over.{over}
use Rattle.ns_change.specs.Opened.{IsOpen, Opened, with_tenant}
use Rattle.ns_tables.specs.World.{tenant_of, world_of}
use Rattle.ns_change.specs.Changed.{view}
use Rattle.keyed.proofs.Over.{over-empty, over-put}
use Rattle.ns_tables.proofs.World.{tenant_at}
use Rattle.ns_change.proofs.Seen.{none_seen, tenant_seen}
use Rattle.ns_types.proofs.Gone.{insert_twice}

module _ {K X : Type 0} {R : K → K → Ordering} (o : IsTotalOrder R) (same : IsAntisymmetric R) where
  pub row_set : (m : FinMap R (Option X)) (k : K) (x : X) (q : K) → row_at (insert m k (Some x)) q ≡ cond (eq_by_cmp R q k) (Some x) (row_at m q)
  row_set m k x q = ap flat (get-insert o m k (Some x) q) ∙ by (eq_by_cmp R q k)
    where
      by : (b : Bool) → flat (cond b (Some (Some x)) (get m q)) ≡ cond b (Some x) (row_at m q)
      by true = refl
      by false = refl

  pub row_emptied : (m : FinMap R (Option X)) (k q : K) → row_at (emptied m k) q ≡ cond (eq_by_cmp R q k) None (row_at m q)
  row_emptied m k q = sym (get-rows o (emptied m k) q) ∙ ap (λ n. get n q) (rows-emptied o same m k) ∙ get-remove o (rows m) k q ∙
      ap (cond (eq_by_cmp R q k) None) (get-rows o m q)

  pub emptied_keeps : (m : FinMap R (Option X)) (k : K) → KeepsSlots m (emptied m k)
  emptied_keeps m k q has = by (has_slot m k)
    where
      by : (b : Bool) → IsTrue (has_slot (cond b (insert m k None) m) q)
      by true = has_slot-insert o m k None q has
      by false = has

  pub row_with_slot : (m : FinMap R (Option X)) (k q : K) → row_at (with_slot m k) q ≡ row_at m q
  row_with_slot m k q = sym (get-rows o (with_slot m k) q) ∙ ap (λ n. get n q) (rows-with_slot o same m k) ∙ get-rows o m q

pub unchanged_is : (t : Tenant) → changed_tenant t (unchanged t) ≡ t
unchanged_is t = λ i. record t {
  jobs = over-empty names one_name t.jobs i;
  evaluations = over-empty numbers one_number t.evaluations i;
  allocations =
      over-empty numbers one_number t.allocations i;
  workers = over-empty numbers one_number t.workers i;
}

module _ (t : Tables) (c left : Change) (ns : Name) (x : TenantRows) (y : TenantChange) (at : row_at t.tenants ns ≡ Some x)
    (was : perhaps changed_tenant (row_at c.tenants ns) (tenant_of x) ≡ changed_tenant (tenant_of x) y)
    (others : (q : Name) → eq_by_cmp name_cmp q ns ≡ false → row_at left.tenants q ≡ row_at c.tenants q) (rest : left ≡ record c { tenants = left.tenants })
    (slot : IsTrue (has_slot left.tenants ns)) where
  tenants_closed : (z : TenantChange) → map_rows (λ q t. perhaps changed_tenant (row_at (insert left.tenants ns (Some z)) q) t) (world_of t).tenants
      ≡ insert (map_rows (λ q t. perhaps changed_tenant (row_at c.tenants q) t) (world_of t).tenants) ns (changed_tenant (tenant_of x) z)
  tenants_closed z = same_map names one_name _ _ (λ q. get-map_rows names one_name _ (world_of t).tenants q ∙ by q (eq_by_cmp name_cmp q ns) refl
      ∙ sym (get-insert names (map_rows (λ q t. perhaps changed_tenant (row_at c.tenants q) t) (world_of t).tenants) ns (changed_tenant (tenant_of x) z) q ∙
      ap (cond (eq_by_cmp name_cmp q ns) (Some (changed_tenant (tenant_of x) z))) (get-map_rows names one_name _ (world_of t).tenants q)))
    where
      by : (q : Name) (b : Bool) → eq_by_cmp name_cmp q ns ≡ b → option_map (perhaps changed_tenant (row_at (insert left.tenants ns (Some z)) q))
          (get (world_of t).tenants q)
          ≡ cond b (Some (changed_tenant (tenant_of x) z)) (option_map (perhaps changed_tenant (row_at c.tenants q)) (get (world_of t).tenants q))
      by q true e = (λ i. option_map (perhaps changed_tenant
          ((row_set names one_name left.tenants ns z q ∙ ap (λ b. cond b (Some z) (row_at left.tenants q)) e) i))
          ((ap (get (world_of t).tenants) (tied one_name q ns e) ∙ tenant_at t ns ∙ ap (option_map tenant_of) at) i))
      by q false e = ap (λ r. option_map (perhaps changed_tenant r) (get (world_of t).tenants q)) (row_set names one_name left.tenants ns z q ∙
          ap (λ b. cond b (Some z) (row_at left.tenants q)) e ∙ others q e)

  pub opened : IsOpen t c ns y left
  unfolding changed
  opened = record {
    base = tenant_of x;
    seen = tenant_seen t c ns ∙ ap (option_map (λ x. perhaps changed_tenant (row_at c.tenants ns) (tenant_of x))) at ∙ ap Some was;
    slot = slot;
    closes = λ z. ap (λ l. changed (world_of t) (with_tenant ns z l)) rest ∙ (λ i. record (changed (world_of t) c) { tenants = tenants_closed z i });
  }

-- ---- what is put in its place

module _ (t : Tables) (c left : Change) (ns : Name) (f : Tenant → Tenant) where
  pub put_open : (x y : TenantChange) → Opened t c ns (Some x) left → ((base : Tenant) → changed_tenant base y ≡ f (changed_tenant base x)) →
      view t (with_tenant ns y left) ≡ change_tenant ns f (view t c)
  put_open x y is law = is.closes y ∙ ap (λ z. put_tenant ns z (view t c)) (law is.base) ∙
      sym (ap (λ o. option_map_or (λ z. put_tenant ns (f z) (view t c)) o (view t c)) is.seen)

-- what is put in place; where there is no such namespace, nothing changes
module _ (t : Tables) (c : Change) (ns : Name) (f : Tenant → Tenant) (x y : TenantChange) (is : row_at c.tenants ns ≡ Some x)
    (law : (base : Tenant) → changed_tenant base y ≡ f (changed_tenant base x)) where
  nowhere : get (world_of t).tenants ns ≡ None →
      map_rows (λ q t. perhaps changed_tenant (row_at (insert c.tenants ns (Some y)) q) t) (world_of t).tenants
      ≡ map_rows (λ q t. perhaps changed_tenant (row_at c.tenants q) t) (world_of t).tenants
  nowhere none = same_map names one_name _ _ (λ q. get-map_rows names one_name _ (world_of t).tenants q ∙ by q (eq_by_cmp name_cmp q ns) refl
      ∙ sym (get-map_rows names one_name _ (world_of t).tenants q))
    where
      by : (q : Name) (b : Bool) → eq_by_cmp name_cmp q ns ≡ b → option_map (perhaps changed_tenant (row_at (insert c.tenants ns (Some y)) q))
          (get (world_of t).tenants q) ≡ option_map (perhaps changed_tenant (row_at c.tenants q)) (get (world_of t).tenants q)
      by q true e =
          let gone = ap (get (world_of t).tenants) (tied one_name q ns e) ∙ none in
          ap (option_map (perhaps changed_tenant (row_at (insert c.tenants ns (Some y)) q))) gone
          ∙ sym (ap (option_map (perhaps changed_tenant (row_at c.tenants q))) gone)
      by q false e = ap (λ r. option_map (perhaps changed_tenant r) (get (world_of t).tenants q)) (row_set names one_name c.tenants ns y q ∙
          ap (λ b. cond b (Some y) (row_at c.tenants q)) e)

  pub put_in_place : view t (with_tenant ns y c) ≡ change_tenant ns f (view t c)
  unfolding changed
  put_in_place = by (row_at t.tenants ns) refl
    where
      by : (r : Option TenantRows) → row_at t.tenants ns ≡ r → view t (with_tenant ns y c) ≡ change_tenant ns f (view t c)
      by (Some rows) at = put_open t c c ns f x y (opened t c c ns rows x at (ap (λ r. perhaps changed_tenant r (tenant_of rows)) is) (λ q e. refl) refl
          (has_slot-row c.tenants ns x is)) law
      by None at = (λ i. record (changed (world_of t) c) { tenants = nowhere (tenant_at t ns ∙ ap (option_map tenant_of) at) i })
          ∙ sym (ap (λ o. option_map_or (λ z. put_tenant ns (f z) (view t c)) o (view t c)) (none_seen t c ns at))

module _ {K X : Type 0} {R : K → K → Ordering} (o : IsTotalOrder R) (same : IsAntisymmetric R) where
  -- a row put into a slot made for it
  pub over-slot : (m : FinMap R X) (c : FinMap R (Option X)) (k : K) (x : X) → over m (insert (with_slot c k) k (Some x)) ≡ insert (over m c) k x
  over-slot m c k x = ap (over m) (by (has_slot c k)) ∙ over-put o same m c k x
    where
      by : (b : Bool) → insert (cond b c (insert c k None)) k (Some x) ≡ insert c k (Some x)
      by true = refl
      by false = insert_twice o same c k None (Some x)

-- ---- a new evaluation

module _ (t : Tables) (c left : Change) (ns : Name) (x : TenantChange) (opened : Opened t c ns (Some x) left) where
  pub next_open : Some (x.evaluation_number + 1) ≡ next_evaluation (view t c) ns
  next_open = sym (ap (option_map (λ (t : Tenant). t.evaluation_number + 1)) opened.seen)

module _ (w : World) (ns : Name) (e : Evaluation) where
  -- with no namespace none is made
  pub make_nowhere : next_evaluation w ns ≡ None → change_tenant ns (with_evaluation e) w ≡ make ns (λ _. e) w
  make_nowhere none = by (get w.tenants ns) none
    where
      by : (o : Option Tenant) → option_map (λ t. t.evaluation_number + 1) o ≡ None →
          option_map_or (λ t. put_tenant ns (with_evaluation e t) w) o w ≡ option_map_or (make_in ns e w) o w
      by None none = refl
      by (Some t) none = cc

  pub make_next : (n : ℕ) → next_evaluation w ns ≡ Some n → queue (change_tenant ns (with_evaluation e) w) (ns, n) ≡ make ns (λ _. e) w
  make_next n some = by (get w.tenants ns) some
    where
      by : (o : Option Tenant) → option_map (λ t. t.evaluation_number + 1) o ≡ Some n →
          queue (option_map_or (λ t. put_tenant ns (with_evaluation e t) w) o w) (ns, n) ≡ option_map_or (make_in ns e w) o w
      by None some = cc
      by (Some t) some = ap (λ n. queue (put_tenant ns (with_evaluation e t) w) (ns, n)) (same_Some _ _ (sym some))
