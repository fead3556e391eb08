-- Which namespaces name which quota, and the totals of what they use, as kept beside the index, and when they are right.
use Rattle.std.specs.Prelude.{◌≡◌, Bool, false, IsTrue, Option, Some, None, if◌then◌else◌, sum_by}
use Rattle.std.specs.Prelude.{List, [], ◌∷◌, is_some}
use Rattle.std.specs.FinMap.{empty, entries, get}
use Rattle.std.specs.Option.{option_and_then, option_map_or}
use Rattle.keyed.specs.Levels.{at_name}
use Rattle.keyed.specs.Table.{has_slot, row_at, rows}
use Rattle.ns_types.specs.declared.resources.Resources.{Resources}
use Rattle.ns_types.specs.State.Names.{ByName, Name, same_name}
use Rattle.ns_types.specs.State.Resources.{each_resource, none, quantity}
use Rattle.ns_types.specs.State.Rows.{Tenant, World}
use Rattle.ns_tables.specs.Allocations.{rows_use}
use Rattle.ns_types.specs.State.Resources.{IsTotal}
use Rattle.ns_live_index.specs.declared.live.Live.{Live}
use Rattle.ns_live_index.specs.declared.naming.QuotaNames.{QuotaNames}
use Rattle.ns_live_index.specs.declared.naming.QuotaUse.{QuotaUse}

-- ---- the levels: a quota, and the names of its namespaces

abbrev pub holds_name : QuotaUse → Name → Bool
holds_name held ns = is_some (row_at held.names ns)

abbrev pub has_name_room : QuotaUse → Name → Bool
has_name_room held ns = has_slot held.names ns

-- whether the namespace is held at the quota
abbrev pub holds_at : QuotaNames → Name × Name → Bool
holds_at names = at_name holds_name names.quotas

-- whether there is room for the namespace at the quota, so that it takes no memory
abbrev pub has_room_at : QuotaNames → Name × Name → Bool
has_room_at names = at_name has_name_room names.quotas

-- the names that are held at the quota
abbrev pub names_at : QuotaNames → Name → ByName Unit
names_at names quota = option_map_or (λ (held : QuotaUse). rows held.names) (row_at names.quotas quota) empty

-- the total that is kept for the quota
abbrev pub total_at : QuotaNames → Name → Resources
total_at names quota = option_map_or (λ (held : QuotaUse). held.total) (row_at names.quotas quota) none

-- the names of a table's rows
abbrev pub row_name : Name × Option Unit → List Name
row_name (ns, None) = []
row_name (ns, Some row) = ns ∷ []

-- ---- when names and totals are right

abbrev pub is_quota : Option Name → Name → Bool
is_quota named quota = option_map_or (same_name quota) named false

-- each namespace is held at its quota, and at no other
abbrev pub AreNames : (Name → Option Name) → QuotaNames → Type 0
AreNames quota_of names = (quota ns : Name) → holds_at names (quota, ns) ≡ is_quota (quota_of ns) quota

-- what the namespaces use together
abbrev pub names_use : (Name → Resources) → ByName Unit → Resources
names_use use_of names = each_resource (λ r. sum_by (λ e. quantity r (use_of e.0)) (entries names))

-- for each quota the total of what the namespaces that are held at it use
abbrev pub AreTotals : (Name → Resources) → QuotaNames → Type 0
AreTotals use_of names = (quota : Name) → IsTotal (total_at names quota) (names_use use_of (names_at names quota))

pub record AreKept (quota_of : Name → Option Name) (use_of : Name → Resources) (held : QuotaNames) : Type 0 where
  pub names : AreNames quota_of held
  pub totals : AreTotals use_of held

-- the quota that a namespace names, and what its live allocations take together
abbrev pub quota_in : ByName Tenant → Name → Option Name
quota_in tenants ns = option_and_then (λ t. t.namespace.quota) (get tenants ns)

abbrev pub use_in : ByName Tenant → Name → Resources
use_in tenants ns = option_map_or (λ t. rows_use t.allocations) (get tenants ns) none

-- names and totals at quotas are right for the namespaces
abbrev pub AreKeptFor : ByName Tenant → Live → Type 0
AreKeptFor tenants live = AreKept (quota_in tenants) (use_in tenants) live.quotas

abbrev pub AreNamed : World → Live → Type 0
AreNamed w live = AreKeptFor w.tenants live

-- ---- what a change leaves

-- the quotas that namespaces name, with this quota, or none, for the namespace
abbrev pub with_quota : Name → Option Name → (Name → Option Name) → Name → Option Name
with_quota namespace quota quota_of ns = if same_name ns namespace then quota else quota_of ns

-- what namespaces use, with this amount for the namespace
abbrev pub with_use : Name → Resources → (Name → Resources) → Name → Resources
with_use namespace used use_of ns = if same_name ns namespace then used else use_of ns

-- names and totals stay right when the namespace, which uses `used`, goes from the quota `before` to the quota `after`
abbrev pub PutsQuota : Name → Option Name → Option Name → Resources → QuotaNames → QuotaNames → Type 0
PutsQuota namespace before after used old new = (quota_of : Name → Option Name) (use_of : Name → Resources) →
    AreKept quota_of use_of old → quota_of namespace ≡ before → IsTotal used (use_of namespace) →
    AreKept (with_quota namespace after quota_of) use_of new

-- names and totals stay right when the use of a namespace that names the quota goes from `before` to `after`
abbrev pub PutsUse : Name → Resources → Resources → QuotaNames → QuotaNames → Type 0
PutsUse quota before after old new = (quota_of : Name → Option Name) (use_of : Name → Resources) →
    AreKept quota_of use_of old → (namespace : Name) → quota_of namespace ≡ Some quota → IsTotal before (use_of namespace) →
    (used : Resources) → IsTotal after used → AreKept quota_of (with_use namespace used use_of) new

-- the namespace can be held without memory at the quota, if there is one
abbrev pub HasNameRoom : QuotaNames → Name → Option Name → Type 0
HasNameRoom names namespace None = Unit {0}
HasNameRoom names namespace (Some quota) = IsTrue (has_room_at names (quota, namespace))

-- each total stays
abbrev pub KeepsTotals : QuotaNames → QuotaNames → Type 0
KeepsTotals old new = (quota : Name) → total_at new quota ≡ total_at old quota

-- the same namespaces are held at each quota, and each total stays
pub record HoldsSame (old new : QuotaNames) : Type 0 where
  pub names : (quota ns : Name) → holds_at new (quota, ns) ≡ holds_at old (quota, ns)
  pub totals : KeepsTotals old new

-- no namespace is put at a quota, or taken from it, and no total moves
abbrev pub KeepsNames : Live → Live → Type 0
KeepsNames old new = new.quotas ≡ old.quotas

-- the keys on nodes stay, and the nodes that are shown
abbrev pub KeepsNodes : Live → Live → Type 0
KeepsNodes old new = (new.pools ≡ old.pools) × (new.shown ≡ old.shown)
