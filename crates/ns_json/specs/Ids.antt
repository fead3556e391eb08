-- The numbers of the ids that texts spell.
use Rattle.std.specs.Prelude.{ℕ, ◌/◌, ◌%◌, ◌^◌, ◌==◌, List, Option, Some, None, option_and_then, if◌then◌else◌}
use Rattle.ns_types.specs.declared.id.IdKind.{IdKind}
use Rattle.ns_types.specs.State.Id.{kind_number, uuid_number}

-- the number of a UUID, if it is an id of that kind
abbrev pub number_in : IdKind → ℕ → Option ℕ
number_in kind uuid = if uuid / 2 ^ 64 == kind_number kind then Some (uuid % 2 ^ 64) else None

-- the number of the id that a text spells, if it is an id of that kind
abbrev pub id_of : IdKind → List ℕ → Option ℕ
id_of kind text = option_and_then (number_in kind) (uuid_number text)
