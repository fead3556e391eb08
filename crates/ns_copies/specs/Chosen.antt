-- Choices of names.
use Rattle.std.specs.Prelude.{Bool, true}
use Rattle.ns_types.specs.Isolation.{Part}
use Rattle.ns_types.specs.State.Names.{Name, has_name, same_name}
use Rattle.ns_copies.specs.declared.choosing.ChosenNames.{ChosenNames}

abbrev pub is_chosen : ChosenNames → Name → Bool
is_chosen ChosenNames.All name = true
is_chosen (ChosenNames.Only one) name = same_name one.now name
is_chosen (ChosenNames.Among names) name = has_name names.now name

abbrev pub chosen_part : ChosenNames → ChosenNames → ChosenNames → Part
chosen_part spaces pools quotas = record {
  spaces = is_chosen spaces;
  pools = is_chosen pools;
  quotas = is_chosen quotas;
}
