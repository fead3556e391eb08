-- Laws of a namespace that has its pools and its quotas to itself: the server that holds it alone is in a valid state,
-- and another namespace intrudes exactly by what its record permits or names.
use Rattle.std.specs.Prelude.{◌≡◌, true, false, ◌||◌, List}
use Rattle.std.specs.List.{list_any}
use Rattle.std.specs.Option.{option_map_or}
use Rattle.ns_types.specs.declared.records.Namespace.{Namespace}
use Rattle.ns_types.specs.Access.Sharing.{permits, intrudes, is_apart}
use Rattle.ns_types.specs.Isolation.{part_of, alone}
use Rattle.ns_types.specs.State.Limits.{is_good_namespace}
use Rattle.ns_types.specs.State.Names.{Name, has_name}
use Rattle.ns_types.specs.State.Rows.{State}
use Rattle.ns_types.specs.Validity.{IsValid}

-- If a state is valid and a namespace has these pools and quotas to itself there, the state of the server that holds
-- this namespace alone is valid too.
abbrev pub AloneIsValid : Type 0
AloneIsValid = (ns : Name) (pools quotas : List Name) (s : State) → IsValid s → is_apart s.world ns pools quotas ≡ true →
    IsValid (alone (part_of ns pools quotas) s)

-- A namespace whose record is within the limits may use its default pool.
abbrev pub DefaultIsPermitted : Type 0
DefaultIsPermitted = (namespace : Namespace) → is_good_namespace namespace ≡ true →
    permits namespace namespace.default_pool ≡ true

-- So another namespace whose record is within the limits, as each is in a valid state, intrudes exactly where it may
-- use one of the pools or names one of the quotas.
abbrev pub IntrudesByPermits : Type 0
IntrudesByPermits = (pools quotas : List Name) (other : Namespace) → is_good_namespace other ≡ true →
    intrudes pools quotas other ≡ (list_any (permits other) pools || option_map_or (has_name quotas) other.quota false)
