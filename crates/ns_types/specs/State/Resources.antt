-- Sums of resources, when an amount is within another, and what the limits of a quota allow.
-- Nomad's page on resource quotas.
use Rattle.std.specs.Prelude.{◌≡◌, ℕ, ◌+◌, ◌-◌, ◌*◌, ◌%◌, ◌<◌, ◌^◌, min, Bool, true, false, ◌&&◌, nat_le, nat_lt}
use Rattle.std.specs.Prelude.{List, sum_by, Option}
use Rattle.std.specs.Option.{unwrap_or}
use Rattle.std.specs.Ordering.{nat_cmp, on, then_cmp}
use Rattle.std.specs.declared.cmp.Ordering.{Ordering}
use Rattle.ns_types.specs.declared.resources.Amount.{Amount}
use Rattle.ns_types.specs.declared.resources.Resources.{Resources}
use Rattle.ns_types.specs.declared.resources.Limit.{Limit}
use Rattle.ns_types.specs.declared.resources.Limit.TheVariants.{Unlimited, AtMost, Nothing}
use Rattle.ns_types.specs.declared.resources.Limits.{Limits}
use Rattle.ns_types.specs.State.Names.{same_number}

-- ---- the resources: to add one, add a line to each of these definitions

pub data Resource : Type 0 where
  Cpu : Resource
  Memory : Resource
  Disk : Resource

-- how much of one resource an amount has
abbrev pub quantity : Resource → Resources → ℕ
quantity Cpu = λ r. r.cpu
quantity Memory = λ r. r.memory
quantity Disk = λ r. r.disk

-- the amount that has f r of each resource r
abbrev pub each_resource : (Resource → ℕ) → Resources
each_resource f = record { cpu = f Cpu; memory = f Memory; disk = f Disk }

-- p holds of each resource
abbrev pub in_each : (Resource → Bool) → Bool
in_each p = p Cpu && p Memory && p Disk

abbrev pub InEach : (Resource → Type 0) → Type 0
InEach P = P Cpu × P Memory × P Disk

-- the order by CPU, then by memory, then by disk
abbrev pub by_each : {C : Type 0} → (Resource → C → ℕ) → C → C → Ordering
by_each f = then_cmp (on (f Cpu) nat_cmp) (then_cmp (on (f Memory) nat_cmp) (on (f Disk) nat_cmp))

-- ---- amounts of all resources

abbrev pub none : Resources
none = each_resource (λ r. 0)

abbrev pub plus : Resources → Resources → Resources
plus a b = each_resource (λ r. quantity r a + quantity r b)

abbrev pub minus : Resources → Resources → Resources
minus a b = each_resource (λ r. quantity r a - quantity r b)

-- of each resource, `a` has at most as much as `b`
abbrev pub is_within : Resources → Resources → Bool
is_within a b = in_each (λ r. nat_le (quantity r a) (quantity r b))

abbrev pub same_resources : Resources → Resources → Bool
same_resources a b = in_each (λ r. same_number (quantity r a) (quantity r b))

-- what the elements of a list take together
abbrev pub total : {X : Type 0} → (X → Resources) → List X → Resources
total size xs = each_resource (λ r. sum_by (λ x. quantity r (size x)) xs)

-- n times the size
abbrev pub times : ℕ → Resources → Resources
times n size = each_resource (λ r. n * quantity r size)

-- ---- limits

abbrev pub limit_allows : Limit → ℕ → Bool
limit_allows Unlimited amount = true
limit_allows (AtMost most) amount = nat_le amount most
limit_allows Nothing amount = false

abbrev pub limit_on : Resource → Limits → Limit
limit_on Cpu = λ l. l.cpu
limit_on Memory = λ l. l.memory
limit_on Disk = λ l. l.disk

abbrev pub each_limit : (Resource → Limit) → Limits
each_limit f = record { cpu = f Cpu; memory = f Memory; disk = f Disk }

abbrev pub limits_allow : Limits → Resources → Bool
limits_allow l used = in_each (λ r. limit_allows (limit_on r l) (quantity r used))

abbrev pub unlimited : Limits
unlimited = each_limit (λ r. Unlimited)

-- the limits of a quota; a quota without an entry has no limits
abbrev pub limits_in : Option Limits → Limits
limits_in limits = unwrap_or limits unlimited

abbrev pub same_limit : Limit → Limit → Bool
same_limit Unlimited Unlimited = true
same_limit (AtMost a) (AtMost b) = same_number a b
same_limit Nothing Nothing = true
same_limit _ _ = false

abbrev pub same_limits : Limits → Limits → Bool
same_limits a b = in_each (λ r. same_limit (limit_on r a) (limit_on r b))

-- ---- how the code counts: neither the headline nor the wire rests on what follows

-- the amounts fit 64 bits
abbrev pub IsCounted : Resources → Type 0
IsCounted a = InEach (λ r. quantity r a < 2 ^ 64)

abbrev pub is_counted : Resources → Bool
is_counted a = in_each (λ r. nat_lt (quantity r a) (2 ^ 64))

-- the numbers are equal modulo 2 ^ 64
abbrev pub IsAlike : ℕ → ℕ → Type 0
IsAlike a b = a % 2 ^ 64 ≡ b % 2 ^ 64

-- of each resource, the total is the sum modulo 2 ^ 64
abbrev pub IsTotal : Resources → Resources → Type 0
IsTotal total sums = InEach (λ r. quantity r total ≡ quantity r sums % 2 ^ 64)

-- a total goes from `old` to `new` as one of its parts goes from `before` to `after`, modulo 2 ^ 64
abbrev pub Moves : Resources → Resources → Resources → Resources → Type 0
Moves before after old new =
    InEach (λ r. IsAlike (quantity r new + quantity r before) (quantity r old + quantity r after))

-- a sum that does not fit 128 bits counts as the greatest number that does, which is over every limit of 64 bits
abbrev pub capped : ℕ → ℕ
capped n = min n (2 ^ 128 - 1)

abbrev pub in_amount : Resource → Amount → ℕ
in_amount Cpu = λ a. a.cpu
in_amount Memory = λ a. a.memory
in_amount Disk = λ a. a.disk

abbrev pub each_amount : (Resource → ℕ) → Amount
each_amount f = record { cpu = f Cpu; memory = f Memory; disk = f Disk }

abbrev pub amount_of : Resources → Amount
amount_of a = each_amount (λ r. capped (quantity r a))

abbrev pub added : Amount → Amount → Amount
added a b = each_amount (λ r. capped (in_amount r a + in_amount r b))
