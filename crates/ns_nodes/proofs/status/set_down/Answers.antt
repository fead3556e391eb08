use Rattle.std.proofs.Common.{ap, sym, ◌∙◌, Err}
use Rattle.std.proofs.lemmas.Result.{err_from_is_err_and}
use Rattle.std.specs.Option.{option_copied}
use Rattle.ns_types.specs.declared.node.Node.{Node}
use Rattle.ns_types.specs.declared.node.NodeStatus.TheVariants as NodeStatus
use Rattle.ns_types.specs.declared.refusal.Refusal.TheVariants as Refusal
use Rattle.ns_types.specs.declared.reply.Content.TheVariants as Content
use Rattle.ns_types.specs.Asking.Nodes.{go_down}
use Rattle.ns_types.specs.Settling.Making.{with_node}
use Rattle.ns_types.specs.Settling.Outcome.{Done, is_done}
use Rattle.ns_change.proofs.Bounded.{done_still, refused_full, still_refused}
use Rattle.ns_change.proofs.Prepares.{out_of_memory, prepares_as}
use Rattle.ns_change.specs.Changed.{change_pool}
use Rattle.ns_nodes.proofs.Down.{down_node, goes, not_there}
use Rattle.ns_nodes.proofs.Judged.{numbers_within, settled_past}
use Rattle.ns_nodes.proofs.status.set_down.Goals as goal
use Rattle.ns_tables.specs.World.{world_of}

pub returns-in_default : goal.returns-in_default
returns-in_default c = still_refused (world_of c.args.tables.now) _ Refusal.NotFound
    (not_there (world_of c.args.tables.now) c.args.pool.now c.args.name.now (sym c.node.ensures ∙ ap option_copied c.in_default.is))

pub returns-then-loss_passes : goal.returns-then-loss_passes
returns-then-loss_passes c =
    let w = world_of c.args.tables.now in
    let row = c.in-Some.row.now in
    let is = sym c.node.ensures ∙ ap option_copied c.in-Some.is in
    refused_full w _ Content.Written (go_down c.args.pool.now c.args.name.now (change_pool c.args.pool.now (down_node w c.args.pool.now c.args.name.now row) w))
    (goes w c.args.pool.now c.args.name.now row is)
    (settled_past w c.requires.bounds c.args.pool.now c.args.name.now row is ∙ sym c.loss_passes.ensures ∙ c.if-loss_passes.true)

pub returns-in_err-row : goal.returns-in_err-row
returns-in_err-row c =
    let p = err_from_is_err_and c.from_residual.result c.from_residual.ensures.1 in
    let w = world_of c.args.tables.now in
    let row = c.in-Some.row.now in
    let is = sym c.node.ensures ∙ ap option_copied c.in-Some.is in
    out_of_memory _ c.args.tables.now c.from_residual.result (p.1 ∙ ap Err p.2)
    (ap is_done (done_still w _ Content.Written
    (go_down c.args.pool.now c.args.name.now (change_pool c.args.pool.now (down_node w c.args.pool.now c.args.name.now row) w))
    (goes w c.args.pool.now c.args.name.now row is)
    (settled_past w c.requires.bounds c.args.pool.now c.args.name.now row is ∙ sym c.loss_passes.ensures ∙ c.if-loss_passes.false)))

pub put_down_alone-requires-clause-numbers : goal.put_down_alone-requires-clause-numbers
put_down_alone-requires-clause-numbers c = numbers_within (world_of c.args.tables.now) c.requires.bounds c.args.pool.now c.args.name.now
    (sym c.loss_passes.ensures ∙ c.if-loss_passes.false)

pub returns : goal.returns
returns c =
    let w = world_of c.args.tables.now in
    let row = c.in-Some.row.now in
    let is = sym c.node.ensures ∙ ap option_copied c.in-Some.is in
    prepares_as _ _ c.args.tables.now c.put_down_alone.result
    (done_still w _ Content.Written
    (go_down c.args.pool.now c.args.name.now (change_pool c.args.pool.now (down_node w c.args.pool.now c.args.name.now row) w))
    (goes w c.args.pool.now c.args.name.now row is)
    (settled_past w c.requires.bounds c.args.pool.now c.args.name.now row is ∙ sym c.loss_passes.ensures ∙ c.if-loss_passes.false)
    ∙ ap (λ (row : Node). Done Content.Written (go_down c.args.pool.now c.args.name.now
    (change_pool c.args.pool.now (with_node c.args.name.now (record row { status = NodeStatus.Down })) w)))
    (sym c.in_ok-row.ensures))
    c.put_down_alone.ensures
