use Rattle.std.proofs.Common.{ap, refl, sym, ◌∙◌}
use Rattle.std.specs.Option.{option_copied_mut}
use Rattle.ns_live_index.proofs.Showing.{node_marked, none_marked}
use Rattle.ns_live_index.proofs.shown.mark_in.Goals as goal

pub returns-in-Some : goal.returns-in-Some
returns-in-Some c = node_marked c.args.nodes.now _ c.args.name.now c.in-Some.kept.now (sym c.get_mut.ensures.value ∙ ap option_copied_mut c.in-Some.is) refl

pub returns-in_default : goal.returns-in_default
returns-in_default c = none_marked c.args.nodes.now c.args.name.now (sym c.get_mut.ensures.value ∙ ap option_copied_mut c.in_default.is)
