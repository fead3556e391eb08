use Rattle.std.proofs.Common.{ap, sym, ◌∙◌}
use Rattle.std.specs.List.{list_any}
use Rattle.ns_nodes.specs.Losing.{loss_passes_at}
use Rattle.ns_nodes.proofs.Judged.{judged, none_judged}
use Rattle.ns_nodes.proofs.bounds.loss_passes.Goals as goal
use Rattle.ns_tables.specs.World.{world_of}

pub returns-in-Some : goal.returns-in-Some
returns-in-Some c =
    let w = world_of c.args.tables.now in
    c.any_loss_passes.ensures ∙ ap (list_any (loss_passes_at w c.args.pool.now c.args.node.now)) c.as_slice.ensures
    ∙ sym (judged w c.args.pool.now c.args.node.now c.in-Some.keys.now
    (λ key. c.in-Some.ensures key ∙ c.requires.right.index.keys c.args.pool.now c.args.node.now key))

pub returns-in-None : goal.returns-in-None
returns-in-None c = sym (none_judged (world_of c.args.tables.now) c.args.pool.now c.args.node.now
    (λ key. sym (c.requires.right.index.keys c.args.pool.now c.args.node.now key) ∙ sym (c.in-None.ensures key)))
