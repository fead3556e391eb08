use Rattle.std.proofs.Common.{ap, refl, sym, ◌∙◌}
use Rattle.std.specs.Prelude.{option_map}
use Rattle.std.specs.Option.{option_copied_mut}
use Rattle.ns_live_index.specs.Shown.{as_behind}
use Rattle.ns_live_index.proofs.Showing.{changed_there, nothing_changes}
use Rattle.ns_live_index.proofs.shown.ShownNodes.mark.Goals as goal

pub returns-in-Some : goal.returns-in-Some
returns-in-Some c = changed_there c.args.pool.now c.args.self.now _ c.in-Some.nodes.now (sym c.get_mut.ensures.value ∙ ap option_copied_mut c.in-Some.is)
    c.mark_in.new.nodes refl (option_map as_behind) c.args.name.now c.mark_in.ensures

pub returns-in_default : goal.returns-in_default
returns-in_default c = nothing_changes c.args.pool.now (option_map as_behind) refl c.args.self.now c.args.name.now
    (sym c.get_mut.ensures.value ∙ ap option_copied_mut c.in_default.is)
