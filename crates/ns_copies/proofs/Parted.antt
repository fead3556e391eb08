-- The world of which a part is copied.
use Rattle.std.specs.Prelude.{◌≡◌, true, List, filter, option_map}
use Rattle.std.proofs.Common.{refl, ap, ◌∙◌}
use Rattle.std.specs.FinMap.{retain_keys}
use Rattle.ns_types.specs.Isolation.{Part, alone_in}
use Rattle.ns_types.specs.State.Names.{Key}
use Rattle.ns_types.specs.State.Rows.{World}
use Rattle.ns_types.specs.Validity.{IsSound}
use Rattle.ns_types.proofs.Lists.{each, filter_all}
use Rattle.ns_types.proofs.Named.{names, one_name}
use Rattle.ns_tables.specs.declared.tables.Tables.{Tables}
use Rattle.ns_tables.specs.World.{pool_of, quota_of, tenant_of, world_of}
use Rattle.ns_tables.proofs.World.{tenant_at}
use Rattle.ns_copies.specs.Chosen.{chosen_part, is_chosen}
use Rattle.ns_copies.specs.Copied.{EachRow, seen_rows}
use Rattle.ns_copies.specs.declared.choosing.ChosenNames.{ChosenNames}
use Rattle.ns_copies.specs.Whole.{IsWholeTenant}
use Rattle.ns_copies.proofs.Whole.{retain_all}

-- a sound world has rows that can be copied
pub whole_tenants : (t : Tables) → IsSound (world_of t) → EachRow (λ tenant. IsWholeTenant (tenant_of tenant)) t.tenants
whole_tenants t sound ns tenant at =
    let s = sound.tenant ns (tenant_of tenant) (tenant_at t ns ∙ ap (option_map tenant_of) at) in record {
      few_events = s.few_events;
      worker = λ n worker is. (s.worker n worker is).keeps_one;
    }

pub world_copied : (copy t : Tables) (part : Part) → seen_rows tenant_of copy.tenants ≡ retain_keys (seen_rows tenant_of t.tenants) part.spaces →
    seen_rows pool_of copy.pools ≡ retain_keys (seen_rows pool_of t.pools) part.pools →
    seen_rows quota_of copy.quotas ≡ retain_keys (seen_rows quota_of t.quotas) part.quotas →
    copy.ready.items ≡ filter (λ key. part.spaces key.0) t.ready.items → copy.plans.items ≡ filter (λ key. part.spaces key.0) t.plans.items →
    copy.blocked.items ≡ filter (λ key. part.spaces key.0) t.blocked.items → world_of copy ≡ alone_in part (world_of t)
unfolding world_of
world_copied copy t part tenants pools quotas ready plans blocked = λ i. record {
  tenants = tenants i;
  pools = pools i;
  quotas = quotas i;
  ready = ready i;
  plans = plans i;
  blocked = blocked i;
}

-- all owners have the whole world
pub all_is_whole : (w : World) → alone_in (chosen_part ChosenNames.All ChosenNames.All ChosenNames.All) w ≡ w
all_is_whole w = λ i. record {
  tenants = retain_all names one_name w.tenants i;
  pools = retain_all names one_name w.pools i;
  quotas = retain_all names one_name w.quotas i;
  ready = keys_all w.ready i;
  plans = keys_all w.plans i;
  blocked = keys_all w.blocked i;
}
  where
    keys_all : (keys : List Key) → filter (λ (key : Key). is_chosen ChosenNames.All key.0) keys ≡ keys
    keys_all keys = filter_all (λ (key : Key). true) keys (each (λ (key : Key). true ≡ true) (λ _. refl) keys)
