use Rattle.std.proofs.Common.{ap, sym, ◌∙◌, Some, None}
use Rattle.std.specs.List.{list_any}
use Rattle.std.specs.Option.{option_copied}
use Rattle.ns_counters.specs.Bounds.{is_place_past}
use Rattle.ns_counters.proofs.Passing.{places_by}
use Rattle.ns_counters.proofs.full.places_pass.Goals as goal

pub returns-in-Some-get : goal.returns-in-Some-get
returns-in-Some-get c = c.any_place_past.ensures ∙ ap (list_any is_place_past) c.as_slice.ensures
    ∙ sym (places_by c.args.tables.now c.args.slot.now.0 (Some c.in-Some-get.field-0.now) (sym c.get.ensures ∙ ap option_copied c.in-Some-get.is)
    c.args.slot.now.1 c.in-Some.changed c.in-Some.is)

pub returns-in-None : goal.returns-in-None
returns-in-None c = sym (places_by c.args.tables.now c.args.slot.now.0 None (sym c.get.ensures ∙ ap option_copied c.in-None.is) c.args.slot.now.1
    c.in-Some.changed c.in-Some.is)
