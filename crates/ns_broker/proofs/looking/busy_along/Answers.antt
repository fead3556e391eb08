use Rattle.std.proofs.Common.{ap, sym, ◌∙◌}
use Rattle.std.specs.Option.{option_copied}
use Rattle.std.specs.Prelude.{find, option_map}
use Rattle.ns_broker.proofs.Looked.{busy_found}
use Rattle.ns_broker.proofs.looking.busy_along.Goals as goal
use Rattle.ns_broker.specs.Serving.{is_busy_for}

pub returns-in-Some : goal.returns-in-Some
returns-in-Some c = ap (option_map (λ e. e.0)) (sym (ap option_copied c.in-Some.is) ∙ c.busy_slot.ensures
    ∙ ap (find (is_busy_for c.args.number)) c.as_slice.ensures) ∙ busy_found c.args.number c.args.tables.now

pub returns-in-None : goal.returns-in-None
returns-in-None c = ap (option_map (λ e. e.0)) (sym (ap option_copied c.in-None.is) ∙ c.busy_slot.ensures
    ∙ ap (find (is_busy_for c.args.number)) c.as_slice.ensures) ∙ busy_found c.args.number c.args.tables.now
