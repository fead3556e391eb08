use Rattle.std.proofs.Common.{refl, ap, sym, ◌∙◌, Err}
use Rattle.std.proofs.lemmas.Result.{err_from_is_err_and}
use Rattle.std.specs.Option.{option_copied}
use Rattle.ns_types.specs.declared.node.Node.{Node}
use Rattle.ns_types.specs.declared.node.NodeStatus.TheVariants as NodeStatus
use Rattle.ns_types.specs.declared.refusal.Refusal.TheVariants as Refusal
use Rattle.ns_types.specs.declared.reply.Content.TheVariants as Content
use Rattle.ns_types.specs.Settling.Making.{with_node}
use Rattle.ns_types.specs.Settling.Outcome.{Done, is_done}
use Rattle.ns_change.proofs.Prepares.{out_of_memory, prepares_as}
use Rattle.ns_change.specs.Changed.{change_pool}
use Rattle.ns_nodes.proofs.Asked.{none_ready, ready_again}
use Rattle.ns_change.proofs.Bounded.{done_still, refused_full, still_refused}
use Rattle.ns_nodes.proofs.Within.{freed_past}
use Rattle.ns_nodes.proofs.eligible.set_ready.Goals as goal
use Rattle.ns_tables.specs.World.{world_of}

pub returns-in_default : goal.returns-in_default
returns-in_default c = still_refused (world_of c.args.tables.now) _ Refusal.NotFound
    (none_ready (world_of c.args.tables.now) c.args.pool.now c.args.name.now (sym c.node.ensures ∙ ap option_copied c.in_default.is))

pub returns-then-freed_passes : goal.returns-then-freed_passes
returns-then-freed_passes c =
    let t = c.args.tables.now in
    let row = c.in-Some.row.now in
    let new : Node = record row { status = NodeStatus.Ready } in
    let is = sym c.node.ensures ∙ ap option_copied c.in-Some.is in
    refused_full (world_of t) _ Content.Written (change_pool c.args.pool.now (with_node c.args.name.now new) (world_of t))
    (ready_again (world_of t) c.args.pool.now c.args.name.now row is)
    (freed_past t c.args.pool.now c.args.name.now c.requires row is new refl refl ∙ sym c.freed_passes.ensures ∙ c.if-freed_passes.true)

pub returns-in_err-row : goal.returns-in_err-row
returns-in_err-row c =
    let p = err_from_is_err_and c.from_residual.result c.from_residual.ensures.1 in
    let t = c.args.tables.now in
    let row = c.in-Some.row.now in
    let new : Node = record row { status = NodeStatus.Ready } in
    let is = sym c.node.ensures ∙ ap option_copied c.in-Some.is in
    out_of_memory _ t c.from_residual.result (p.1 ∙ ap Err p.2)
    (ap is_done (done_still (world_of t) _ Content.Written (change_pool c.args.pool.now (with_node c.args.name.now new) (world_of t))
    (ready_again (world_of t) c.args.pool.now c.args.name.now row is)
    (freed_past t c.args.pool.now c.args.name.now c.requires row is new refl refl ∙ sym c.freed_passes.ensures ∙ c.if-freed_passes.false)))

pub returns : goal.returns
returns c =
    let t = c.args.tables.now in
    let w = world_of t in
    let row = c.in-Some.row.now in
    let new : Node = record row { status = NodeStatus.Ready } in
    let is = sym c.node.ensures ∙ ap option_copied c.in-Some.is in
    prepares_as _ _ t c.put_alone.result
    (done_still w _ Content.Written (change_pool c.args.pool.now (with_node c.args.name.now new) w)
    (ready_again w c.args.pool.now c.args.name.now row is)
    (freed_past t c.args.pool.now c.args.name.now c.requires row is new refl refl ∙ sym c.freed_passes.ensures ∙ c.if-freed_passes.false)
    ∙ ap (λ (row : Node). Done Content.Written (change_pool c.args.pool.now (with_node c.args.name.now (record row { status = NodeStatus.Ready })) w))
    (sym c.in_ok-row.ensures))
    c.put_alone.ensures
