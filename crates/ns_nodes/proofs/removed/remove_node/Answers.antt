use Rattle.std.proofs.Common.{ap, sym, ◌∙◌}
use Rattle.std.specs.Option.{option_copied}
use Rattle.ns_types.specs.declared.refusal.Refusal.TheVariants as Refusal
use Rattle.ns_types.specs.declared.reply.Content.TheVariants as Content
use Rattle.ns_change.proofs.Prepares.{done_as, prepares_as}
use Rattle.ns_change.specs.Changed.{change_pool, without_node}
use Rattle.ns_nodes.proofs.Asked.{none_removed, removed, still_ready}
use Rattle.ns_change.proofs.Bounded.{done_still, still_refused}
use Rattle.ns_nodes.proofs.Within.{removed_within}
use Rattle.ns_nodes.proofs.removed.remove_node.Goals as goal
use Rattle.ns_tables.specs.World.{world_of}

pub returns-in_default : goal.returns-in_default
returns-in_default c = still_refused (world_of c.args.tables.now) _ Refusal.NotFound
    (none_removed (world_of c.args.tables.now) c.args.pool.now c.args.name.now (sym c.node.ensures ∙ ap option_copied c.in_default.is))

pub returns-then-is_ready : goal.returns-then-is_ready
returns-then-is_ready c = still_refused (world_of c.args.tables.now) _ Refusal.InUse
    (still_ready (world_of c.args.tables.now) c.args.pool.now c.args.name.now c.in-Some.row.now
    (sym c.node.ensures ∙ ap option_copied c.in-Some.is) (sym c.is_ready.ensures ∙ c.if-is_ready.true))

pub returns : goal.returns
returns c =
    let t = c.args.tables.now in
    let w = world_of t in
    let there = sym c.node.ensures ∙ ap option_copied c.in-Some.is in
    prepares_as _ _ t c.prepare.result
    (done_still w _ Content.Written (change_pool c.args.pool.now (without_node c.args.name.now) w)
    (removed w c.args.pool.now c.args.name.now c.in-Some.row.now there (sym c.is_ready.ensures ∙ c.if-is_ready.false))
    (removed_within t c.args.pool.now c.args.name.now c.requires c.in-Some.row.now there))
    (c.prepare.ensures t (change_pool c.args.pool.now (without_node c.args.name.now) w)
    (done_as _ t c.remove_node-made.new.change _ _
    (ap (change_pool c.args.pool.now (without_node c.args.name.now)) (c.new-change.ensures t)) c.remove_node-made.ensures))
