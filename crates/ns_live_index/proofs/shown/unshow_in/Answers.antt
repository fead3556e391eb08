use Rattle.std.proofs.Common.{ap, sym, ◌∙◌}
use Rattle.std.specs.Prelude.{cond}
use Rattle.keyed.specs.Table.{row_at}
use Rattle.ns_types.specs.State.Names.{same_name}
use Rattle.ns_live_index.specs.Shown.{is_base_for}
use Rattle.ns_live_index.proofs.Showing.{left_marked, left_none, node_emptied}
use Rattle.ns_live_index.proofs.shown.unshow_in.Goals as goal

pub returns-then-is_base_for : goal.returns-then-is_base_for
returns-then-is_base_for c n = c.mark_in.ensures n ∙ ap (λ r. cond (same_name n c.args.name.now) r (row_at c.args.nodes.now n))
    (left_marked c.args.place (row_at c.args.nodes.now c.args.name.now)
    (ap (is_base_for c.args.place) (sym c.get.ensures) ∙ sym c.is_base_for.ensures ∙ c.if-is_base_for.true))

pub returns-else-is_base_for : goal.returns-else-is_base_for
returns-else-is_base_for c n = node_emptied c.args.nodes.now c.take.new.self c.args.name.now c.take.ensures.slots n
    ∙ ap (λ r. cond (same_name n c.args.name.now) r (row_at c.args.nodes.now n))
    (left_none c.args.place (row_at c.args.nodes.now c.args.name.now)
    (ap (is_base_for c.args.place) (sym c.get.ensures) ∙ sym c.is_base_for.ensures ∙ c.if-is_base_for.false))
