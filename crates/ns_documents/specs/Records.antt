-- The documents of namespaces, quotas and pools.
use Rattle.std.specs.Prelude.{ℕ, ◌^◌, ◌==◌, ℤ, pos, negsuc, ◌&&◌, ◌||◌, nat_le, not, List, [], Bool, Option, Some, None}
use Rattle.std.specs.Prelude.{is_some, option_and_then, Ok, codes, if◌then◌else◌}
use Rattle.std.specs.Str.{bytes_eq}
use Rattle.serde_json.specs.Data.{Data, Items, no_items, item}
use Rattle.serde_json.specs.Find.{as_number, as_i64}
use Rattle.ns_types.specs.declared.name.NameKind.TheVariants as NameKind
use Rattle.ns_types.specs.declared.refusal.Member.{Member}
use Rattle.ns_types.specs.declared.resources.Limit.{Limit}
use Rattle.ns_types.specs.declared.resources.Limits.{Limits}
use Rattle.ns_types.specs.State.Lists.{is_empty}
use Rattle.ns_types.specs.State.Names.{default_name}
use Rattle.ns_types.specs.State.Resources.{unlimited}
use Rattle.ns_json.specs.Reading.{◌>>=◌, Read, same, top, present, or_else, or_refuse, some, an_object, a_text}
use Rattle.ns_json.specs.Reading.{has_name, unless, a_list}
use Rattle.ns_json.specs.Registration.{name_if_any}
use Rattle.ns_documents.specs.declared.namespace.NamedNamespace.{NamedNamespace}
use Rattle.ns_documents.specs.declared.pools.PoolConfiguration.{PoolConfiguration}
use Rattle.ns_documents.specs.declared.quota.NamedQuota.{NamedQuota}
use Rattle.ns_documents.specs.declared.pool.NamedPool.{NamedPool}
use Rattle.ns_documents.specs.Members.{named, description_in, names_in}

-- ---- the pools of a namespace

-- whether the name is `all`, which no pool has
abbrev pub is_all : List ℕ → Bool
is_all name = bytes_eq name (codes "all")

abbrev pub pool_or_default : Option (List ℕ) → Read (List ℕ)
pool_or_default None = Ok default_name
pool_or_default (Some name) = unless (is_all name) Member.Default name

-- the default pool; an empty text counts as absent
unfoldable pub default_pool_in : Data → Read (List ℕ)
default_pool_in d = name_if_any Member.Default NameKind.Pool d >>= pool_or_default

unfoldable pub pools_in : Member → Data → Read (List (List ℕ))
pools_in m d = do
  names ← names_in m NameKind.Pool 1000 d
  unless (has_name same names (codes "all")) m names

-- A document with a list of allowed pools must deny none, and no document may deny its default pool.
unfoldable pub configuration_in : Data → Read PoolConfiguration
configuration_in d = do
  c ← an_object Member.NodePoolConfiguration d
  default ← or_else default_name default_pool_in (present Member.Default c)
  allowed ← or_else None (λ a. some (pools_in Member.Allowed a)) (present Member.Allowed c)
  denied ← or_else [] (pools_in Member.Denied) (present Member.Denied c)
  unless ((is_some allowed && not (is_empty denied)) || has_name same denied default) Member.Denied
      (record { default_pool = default; allowed = allowed; denied = denied })

abbrev pub every_pool : PoolConfiguration
every_pool = record { default_pool = default_name; allowed = None; denied = [] }

unfoldable pub namespace_in : Option (List ℕ) → Data → Read NamedNamespace
namespace_in path d = do
  top ← top d
  name ← named NameKind.Namespace path top
  description ← description_in top
  quota ← or_else None (name_if_any Member.Quota NameKind.Quota) (present Member.Quota top)
  pools ← or_else every_pool configuration_in (present Member.NodePoolConfiguration top)
  Ok (record {
    name = name;
    namespace = record {
      description = description;
      quota = quota;
      default_pool = pools.default_pool;
      allowed =
          pools.allowed;
      denied = pools.denied;
    };
  })

-- ---- quotas

abbrev pub max_limit : ℕ
max_limit = 2 ^ 53

-- -1 lets nothing be placed, and 0 limits nothing
abbrev pub limit_of : ℤ → Option Limit
limit_of (pos n) = if n == 0 then Some Limit.Unlimited else if nat_le n max_limit then Some (Limit.AtMost n) else None
limit_of (negsuc n) = if n == 0 then Some Limit.Nothing else None

unfoldable pub limit_in : Member → Data → Read Limit
limit_in m d = or_refuse m (option_and_then limit_of (option_and_then as_i64 (as_number d)))

unfoldable pub region_limit_in : Data → Read Limits
region_limit_in d = do
  r ← an_object Member.RegionLimit d
  cpu ← or_else Limit.Unlimited (limit_in Member.Cpu) (present Member.Cpu r)
  memory ← or_else Limit.Unlimited (limit_in Member.MemoryMb) (present Member.MemoryMb r)
  disk ← or_else Limit.Unlimited (limit_in Member.DiskMb) (present Member.DiskMb r)
  Ok (record { cpu = cpu; memory = memory; disk = disk })

-- the only region is `global`
unfoldable pub region_in : Data → Read (Unit {0})
region_in d = do
  region ← a_text Member.Region d
  unless (not (bytes_eq region (codes "global"))) Member.Region tt

unfoldable pub entry_in : Data → Read Limits
entry_in d = do
  entry ← an_object Member.Limits d
  region ← or_else tt region_in (present Member.Region entry)
  or_else unlimited region_limit_in (present Member.RegionLimit entry)

abbrev pub first_entry : Items → Read (Option Limits)
first_entry no_items = Ok None
first_entry (item d ds) = some (entry_in d)

-- a list of at most one entry
unfoldable pub entries_in : Data → Read (Option Limits)
entries_in d = a_list Member.Limits 0 1 d >>= first_entry

unfoldable pub quota_in : Option (List ℕ) → Data → Read NamedQuota
quota_in path d = do
  top ← top d
  name ← named NameKind.Quota path top
  description ← description_in top
  limits ← or_else None entries_in (present Member.Limits top)
  Ok (record { name = name; quota = record { description = description; limits = limits } })

-- ---- pools

unfoldable pub pool_in : Option (List ℕ) → Data → Read NamedPool
pool_in path d = do
  top ← top d
  name ← named NameKind.Pool path top
  name ← unless (is_all name) Member.Name name
  description ← description_in top
  Ok (record { name = name; pool = record { description = description } })
