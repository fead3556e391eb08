use Rattle.std.specs.Prelude.{fold}
use Rattle.std.proofs.Common.{sym, subst, ◌∙◌}
use Rattle.ns_types.specs.declared.evaluation.Trigger.TheVariants as Trigger
use Rattle.ns_types.specs.Asking.Nodes.{lose}
use Rattle.ns_change.proofs.Prepares.{done_as}
use Rattle.ns_change.specs.Changed.{view}
use Rattle.ns_renewal.specs.Renewing.{HasNumbers, renewed}
use Rattle.ns_nodes.proofs.Renewed.{goes_down, numbers_left}
use Rattle.ns_nodes.proofs.status.go_down.Goals as goal
use Rattle.ns_tables.specs.World.{world_of}

pub renew_each-requires : goal.renew_each-requires
renew_each-requires c =
    let w = world_of c.args.tables.now in
    let x = view c.args.tables.now c.args.change.now in
    subst (λ x. HasNumbers x c.as_slice.result.now) (sym c.in_ok-lose.ensures)
    (subst (λ keys. HasNumbers (lose c.args.pool.now c.args.name.now x) keys) (sym (c.as_slice.ensures ∙ c.in_ok-keys.ensures))
    (numbers_left c.args.pool.now c.args.name.now w c.requires.numbers x c.requires.first))

pub returns : goal.returns
returns c =
    let w = world_of c.args.tables.now in
    done_as c.renew_each.result c.args.tables.now c.renew_each.new.change _ _
    ((λ i. fold (renewed Trigger.NodeUpdate w) (c.in_ok-lose.ensures i) ((c.as_slice.ensures ∙ c.in_ok-keys.ensures) i))
    ∙ sym (goes_down c.args.pool.now c.args.name.now w (view c.args.tables.now c.args.change.now) c.requires.first))
    c.renew_each.ensures
