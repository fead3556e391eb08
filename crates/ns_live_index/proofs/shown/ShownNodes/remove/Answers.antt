use Rattle.std.specs.Prelude.{None}
use Rattle.std.proofs.Common.{ap, refl, sym, ◌∙◌}
use Rattle.std.specs.Option.{option_copied_mut}
use Rattle.keyed.proofs.Levels.{row_here}
use Rattle.ns_types.proofs.Named.{names}
use Rattle.ns_live_index.proofs.Showing.{node_removed, nothing_there, put_there, table_gone}
use Rattle.ns_live_index.proofs.shown.ShownNodes.remove.Goals as goal

pub returns-in_default : goal.returns-in_default
returns-in_default c = nothing_there c.args.pool.now c.args.self.now c.args.name.now (sym c.get_mut.ensures.value ∙ ap option_copied_mut c.in_default.is)

pub returns-then-has_none : goal.returns-then-has_none
returns-then-has_none c = table_gone c.args.pool.now c.args.self.now _ _ c.args.name.now None
    (put_there c.args.pool.now c.args.self.now _ c.in-Some.nodes.now (sym c.get_mut.ensures.value ∙ ap option_copied_mut c.in-Some.is)
    c.remove.new.self refl c.args.name.now None (node_removed c.in-Some.nodes.now c.remove.new.self c.args.name.now c.remove.ensures))
    c.remove.new.self (row_here names _ _ _ _ refl) (c.has_none.ensures c.if-has_none.true) c.remove-then-has_none.ensures

pub returns-else-has_none : goal.returns-else-has_none
returns-else-has_none c = put_there c.args.pool.now c.args.self.now _ c.in-Some.nodes.now (sym c.get_mut.ensures.value ∙ ap option_copied_mut c.in-Some.is)
    c.remove.new.self refl c.args.name.now None (node_removed c.in-Some.nodes.now c.remove.new.self c.args.name.now c.remove.ensures)
