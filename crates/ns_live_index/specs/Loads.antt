-- What the rows at keys take together. Each sum is of one resource at a time.
use Rattle.std.specs.Prelude.{◌≡◌, ℕ, true, IsTrue, Option, Some, None, is_some, sum_by}
use Rattle.std.specs.Option.{option_map_or}
use Rattle.std.specs.FinMap.{entries}
use Rattle.ns_types.specs.declared.allocation.Allocation.{Allocation}
use Rattle.ns_types.specs.declared.resources.Resources.{Resources}
use Rattle.ns_types.specs.declared.node.Node.{Node}
use Rattle.ns_types.specs.State.Limits.{is_amount}
use Rattle.ns_types.specs.State.Names.{Name, Key, ByNumber}
use Rattle.ns_types.specs.State.Resources.{each_resource, is_within, quantity}
use Rattle.ns_types.specs.State.Rows.{World, allocation_at, is_live, node_at}
use Rattle.ns_types.specs.State.Sums.{node_load}
use Rattle.keyed.specs.declared.key_set.KeySet.{KeySet}

-- what keeps each node's load within 64 bits in a valid world: live allocations are on nodes that exist, and these have room
-- for them and offer no more than they may
pub record IsWithinNodes (w : World) : Type 0 where
  pub placed : (key : Key) (row : Allocation) → allocation_at w key ≡ Some row → is_live row ≡ true →
      IsTrue (is_some (node_at w row.pool row.node))
  pub within : (pool name : Name) (node : Node) → node_at w pool name ≡ Some node →
      IsTrue (is_within (node_load w pool name) node.offer.capacity)
  pub offers : (pool name : Name) (node : Node) → node_at w pool name ≡ Some node →
      IsTrue (is_amount node.offer.capacity)

-- ---- what the rows at keys take together

-- what a row takes, live or not: 0 if there is none
abbrev pub size_amount : (Resources → ℕ) → Option Allocation → ℕ
size_amount amount row = option_map_or (λ row. amount row.size) row 0

-- a vacant slot is no key, and a key without a row counts nothing
abbrev pub number_amount : (Key → Option Allocation) → (Resources → ℕ) → Name → ℕ × Option Unit → ℕ
number_amount row_of amount ns (n, None) = 0
number_amount row_of amount ns (n, Some held) = size_amount amount (row_of (ns, n))

abbrev pub numbers_amount : (Key → Option Allocation) → (Resources → ℕ) → Name → ByNumber (Option Unit) → ℕ
numbers_amount row_of amount ns numbers = sum_by (number_amount row_of amount ns) (entries numbers)

abbrev pub namespace_amount : (Key → Option Allocation) → (Resources → ℕ) → Name × Option (ByNumber (Option Unit)) → ℕ
namespace_amount row_of amount (ns, None) = 0
namespace_amount row_of amount (ns, Some numbers) = numbers_amount row_of amount ns numbers

abbrev pub keys_amount : (Key → Option Allocation) → KeySet → (Resources → ℕ) → ℕ
keys_amount row_of keys amount = sum_by (namespace_amount row_of amount) (entries keys.numbers)

abbrev pub keys_use : (Key → Option Allocation) → KeySet → Resources
keys_use row_of keys = each_resource (λ r. keys_amount row_of keys (quantity r))
