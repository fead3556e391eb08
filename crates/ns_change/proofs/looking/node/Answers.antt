use Rattle.std.proofs.Common.{ap, sym, ◌∙◌}
use Rattle.std.specs.Option.{option_copied}
use Rattle.ns_change.proofs.Seen.{no_node, kept_node, changed_node}
use Rattle.ns_change.proofs.looking.node.Goals as goal

pub returns-in_default : goal.returns-in_default
returns-in_default c = sym (no_node c.args.tables.now c.args.change.now c.args.pool.now c.args.name.now (sym c.get.ensures ∙ ap option_copied c.in_default.is))

pub returns-in-Some-get : goal.returns-in-Some-get
returns-in-Some-get c = c.get_over.ensures ∙ sym
    (changed_node c.args.tables.now c.args.change.now c.args.pool.now c.args.name.now _ _ (sym c.get.ensures ∙ ap option_copied c.in-Some.is)
    (sym c.get-2.ensures ∙ ap option_copied c.in-Some-get.is))

pub returns-in-None : goal.returns-in-None
returns-in-None c = c.get-in-None.ensures ∙ sym (kept_node c.args.tables.now c.args.change.now c.args.pool.now c.args.name.now _
    (sym c.get.ensures ∙ ap option_copied c.in-Some.is) (sym c.get-2.ensures ∙ ap option_copied c.in-None.is))
