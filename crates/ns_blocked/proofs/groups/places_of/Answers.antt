use Rattle.std.proofs.Common.{sym, ap, ◌∙◌}
use Rattle.std.specs.Option.{option_copied, option_map_or}
use Rattle.std.specs.FinMap.{empty, entries}
use Rattle.ns_types.proofs.Named.{numbers, one_number}
use Rattle.ns_types.proofs.TableRows.{entries_empty}
use Rattle.ns_blocked.proofs.groups.places_of.Goals as goal

pub returns-in-None : goal.returns-in-None
returns-in-None c =
    sym (ap (λ r. entries (option_map_or (λ places. places) r empty)) (sym c.numbers_of.ensures ∙ ap option_copied c.in-None.is)
    ∙ entries_empty numbers one_number)
