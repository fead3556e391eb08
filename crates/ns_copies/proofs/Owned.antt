-- What owners have, as it is copied.
use Rattle.std.specs.Prelude.{◌≡◌, ◌-◌, ◌≤◌, true, List, [], ◌++◌, Option, drop, filter, length, nat_le}
use Rattle.std.proofs.Common.{sym, ap, arith, ◌∙◌}
use Rattle.std.proofs.Math.Dec.{leb-zero}
use Rattle.std.specs.FinMap.{from_entries, retain_keys}
use Rattle.keyed.specs.Table.{rows}
use Rattle.ns_types.specs.declared.event.Event.{Event}
use Rattle.ns_types.specs.State.Lists.{last}
use Rattle.ns_types.specs.State.Names.{ByName, ByNumber, class_cmp}
use Rattle.ns_types.proofs.Lists.{each, filter_all}
use Rattle.ns_types.proofs.Named.{names, numbers, one_name, one_number}
use Rattle.ns_tables.specs.declared.tables.PoolRows.{PoolRows}
use Rattle.ns_tables.specs.declared.tables.TenantRows.{TenantRows}
use Rattle.ns_tables.specs.World.{pool_of, tenant_of}
use Rattle.ns_copies.specs.Chosen.{is_chosen}
use Rattle.ns_copies.specs.Copied.{seen_rows}
use Rattle.ns_copies.specs.declared.choosing.ChosenNames.TheVariants as ChosenNames
use Rattle.ns_copies.proofs.Whole.{retain_all, seen_as_they_are}

module _ {X : Type 0} where
  pub all_names : (copy m : ByName (Option X)) → seen_rows (λ row. row) copy ≡ retain_keys (seen_rows (λ row. row) m) (is_chosen ChosenNames.All) →
      rows copy ≡ rows m
  all_names copy m is = sym (seen_as_they_are names one_name copy) ∙ is ∙ retain_all names one_name (seen_rows (λ row. row) m)
      ∙ seen_as_they_are names one_name m

  pub all_numbers : (copy m : ByNumber (Option X)) → seen_rows (λ row. row) copy ≡ seen_rows (λ row. row) m → rows copy ≡ rows m
  all_numbers copy m is = sym (seen_as_they_are numbers one_number copy) ∙ is ∙ seen_as_they_are numbers one_number m

-- a hundred events at most are all kept
pub all_kept : (copy all events : List Event) → copy ≡ [] → all ≡ filter (λ event. nat_le 0 event.index) events → length events ≤ 100 →
    last 100 (copy ++ all) ≡ events
all_kept copy all events none is few =
    let most : length events - 100 ≡ 0 = omega arith in
    ap (λ l. last 100 (l ++ all)) none
    ∙ ap (last 100) (is ∙ filter_all (λ (event : Event). nat_le 0 event.index) events
    (each (λ (event : Event). nat_le 0 event.index ≡ true) (λ event. leb-zero event.index) events))
    ∙ ap (λ n. drop n events) most

pub pool_copied : (copy p : PoolRows) → copy.pool ≡ p.pool → copy.release ≡ p.release → copy.classes.items ≡ p.classes.items → rows copy.nodes ≡ rows p.nodes →
    pool_of copy ≡ pool_of p
pool_copied copy p pool release classes nodes = λ i. record {
  pool = pool i;
  release = release i;
  classes = from_entries {R = class_cmp} (classes i);
  nodes = nodes i;
}

pub tenant_copied : (copy t : TenantRows) → copy.namespace ≡ t.namespace → copy.index ≡ t.index → copy.evaluation_number ≡ t.evaluation_number →
    copy.allocation_number ≡ t.allocation_number → rows copy.jobs ≡ rows t.jobs → rows copy.evaluations.slots ≡ rows t.evaluations.slots →
    rows copy.allocations.slots ≡ rows t.allocations.slots → rows copy.workers ≡ rows t.workers → copy.events ≡ t.events → tenant_of copy ≡ tenant_of t
tenant_copied copy t namespace index evaluation_number allocation_number jobs evaluations allocations workers events = λ i. record {
  namespace = namespace i;
  index = index i;
  evaluation_number = evaluation_number i;
  allocation_number = allocation_number i;
  jobs = jobs i;
  evaluations = evaluations i;
  allocations = allocations i;
  workers = workers i;
  events = events i;
}
