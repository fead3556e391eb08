use Rattle.std.proofs.Common.{ap, subst, sym, ◌∙◌}
use Rattle.std.specs.Option.{option_copied}
use Rattle.ns_types.specs.State.Names.{Key}
use Rattle.ns_broker.proofs.Dequeued.{kept_out, let_through, nothing_there, stays_out, taken_out}
use Rattle.ns_broker.proofs.taking.dequeue.Goals as goal
use Rattle.ns_broker.specs.Serving.{may_dequeue, take}
use Rattle.ns_change.proofs.Prepares.{done_as, prepares_as}
use Rattle.ns_change.specs.Changed.{Does}
use Rattle.ns_tables.specs.World.{world_of}

pub returns-in_default : goal.returns-in_default
returns-in_default c =
    let w = world_of c.args.tables.now in
    let key : Key = (c.args.namespace.now, c.args.evaluation) in
    stays_out c.args.number key w (kept_out (may_dequeue c.args.number key w) key (sym (ap option_copied c.in_default.is) ∙ c.key_for.ensures))

pub returns-in_default-evaluation : goal.returns-in_default-evaluation
returns-in_default-evaluation c =
    let w = world_of c.args.tables.now in
    let key : Key = (c.args.namespace.now, c.args.evaluation) in
    nothing_there c.args.number key w (sym c.evaluation.ensures ∙ ap option_copied c.in_default-evaluation.is)
    (let_through (may_dequeue c.args.number key w) key c.in-Some.key.now (sym (ap option_copied c.in-Some.is) ∙ c.key_for.ensures)).0

pub returns : goal.returns
returns c =
    let w = world_of c.args.tables.now in
    let key : Key = (c.args.namespace.now, c.args.evaluation) in
    let through = let_through (may_dequeue c.args.number key w) key c.in-Some.key.now (sym (ap option_copied c.in-Some.is) ∙ c.key_for.ensures) in
    prepares_as _ _ c.args.tables.now c.prepare.result
    (taken_out c.args.number key w c.in-Some-evaluation.row.now (sym c.evaluation.ensures ∙ ap option_copied c.in-Some-evaluation.is) through.0)
    (c.prepare.ensures c.args.tables.now (take c.args.number key c.in-Some-evaluation.row.now w)
    (done_as _ c.args.tables.now c.take-made.new.change _ _
    (ap (take c.args.number key c.in-Some-evaluation.row.now) (c.new-change.ensures c.args.tables.now))
    (subst (λ (k : Key). Does c.take-made.result c.args.tables.now c.new-change.result c.take-made.new.change
    (take c.args.number k c.in-Some-evaluation.row.now))
    through.1 c.take-made.ensures)))
