use Rattle.std.proofs.Common.{ap, sym, ◌∙◌}
use Rattle.std.specs.Option.{option_copied}
use Rattle.ns_live_index.proofs.Unmoved.{shown_right, still_right}
use Rattle.ns_broker.proofs.Seen.{ok_as, seen_there, shown_is}
use Rattle.ns_broker.proofs.snapshot.pool.shared_node.Goals as goal
use Rattle.ns_tables.specs.World.{world_of}

pub returns-in-Some-clause-node : goal.returns-in-Some-clause-node
returns-in-Some-clause-node c =
    let w = world_of c.args.tables.now in
    ok_as c.share.result _ _ (shown_is w c.args.pool.now c.args.name.now c.args.row.now c.requires.there c.in-Some.node.now
    (c.requires.right.shown.nodes c.args.pool.now c.args.name.now c.in-Some.node.now (sym c.shown_at.ensures ∙ ap option_copied c.in-Some.is))) c.share.ensures

pub returns-in_err-show-clause-right : goal.returns-in_err-show-clause-right
returns-in_err-show-clause-right c = still_right (world_of c.args.tables.now) c.args.live.now _ c.show.ensures.keys c.show.ensures.names
    c.in_err-show.ensures.err c.requires.right

pub returns-clause-right : goal.returns-clause-right
returns-clause-right c =
    let w = world_of c.args.tables.now in
    shown_right w c.args.live.now _ c.args.pool.now c.args.name.now c.in_ok-seen.seen c.show.ensures.keys c.show.ensures.names
    c.in_ok-show.ensures.ok
    (seen_there w c.args.pool.now c.args.name.now c.args.row.now c.requires.there c.in_ok-seen.seen.node c.in_ok-seen.ensures.node)
    c.in_ok-seen.ensures.last c.requires.right

pub returns-clause-node : goal.returns-clause-node
returns-clause-node c = c.in_ok-node.ensures ∙ c.in_ok-seen.ensures.node
