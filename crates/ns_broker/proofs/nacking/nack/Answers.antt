use Rattle.std.proofs.Common.{ap, arith, sym, ◌∙◌, ◌+◌}
use Rattle.std.proofs.lemmas.Bool.{le-leb, lt-leb}
use Rattle.std.specs.Option.{option_copied}
use Rattle.ns_types.specs.Working.Work.{most_nacks}
use Rattle.ns_broker.proofs.Bounding.{away_is_past, back_is_unseen}
use Rattle.ns_change.proofs.Bounded.{done_still, refused_full}
use Rattle.ns_broker.proofs.Nacked.{comes_back, is_put_away, none_to_nack, nothing_to_nack, plan_waits}
use Rattle.ns_broker.proofs.nacking.nack.Goals as goal
use Rattle.ns_change.specs.Prepared.{bounded}
use Rattle.ns_change.proofs.Prepares.{prepares_as}
use Rattle.ns_tables.specs.World.{world_of}

pub returns-in_default : goal.returns-in_default
returns-in_default c = let w = world_of c.args.tables.now in ap (bounded w) (none_to_nack c.args.number c.args.namespace.now w
    (sym c.worker_at.ensures ∙ ap option_copied c.in_default.is))

pub returns-in_default-evaluation : goal.returns-in_default-evaluation
returns-in_default-evaluation c = let w = world_of c.args.tables.now in
    ap (bounded w) (nothing_to_nack c.args.number c.args.namespace.now w c.in-Some.worker.now
    (sym c.worker_at.ensures ∙ ap option_copied c.in-Some.is) (sym c.evaluation.ensures ∙ ap option_copied c.in_default-evaluation.is))

pub returns-then-is_submitted : goal.returns-then-is_submitted
returns-then-is_submitted c = let w = world_of c.args.tables.now in
    ap (bounded w) (plan_waits c.args.number c.args.namespace.now w c.in-Some.worker.now c.in-Some-evaluation.row.now
    (sym c.worker_at.ensures ∙ ap option_copied c.in-Some.is) (sym c.evaluation.ensures ∙ ap option_copied c.in-Some-evaluation.is)
    (sym c.is_submitted.ensures ∙ c.if-is_submitted.true))

pub returns-then-row-lt-NACKS : goal.returns-then-row-lt-NACKS
returns-then-row-lt-NACKS c =
    let w = world_of c.args.tables.now in
    let nacks = c.in-Some-evaluation.row.now.nacks in
    let at = sym c.evaluation.ensures ∙ ap option_copied c.in-Some-evaluation.is in
    prepares_as _ _ c.args.tables.now c.give_back.result
    (done_still w _ _ _
    (comes_back c.args.number c.args.namespace.now w c.in-Some.worker.now c.in-Some-evaluation.row.now
    (sym c.worker_at.ensures ∙ ap option_copied c.in-Some.is) at
    (sym c.is_submitted.ensures ∙ c.if-is_submitted.false) (lt-leb most_nacks (nacks + 1) (omega (arith, c.if-row-lt-NACKS.true))))
    (back_is_unseen w c.args.namespace.now c.args.number c.in-Some.worker.now.evaluation c.in-Some-evaluation.row.now c.requires.within at))
    c.give_back.ensures

pub returns-then-cannot_fail : goal.returns-then-cannot_fail
returns-then-cannot_fail c =
    let w = world_of c.args.tables.now in
    let nacks = c.in-Some-evaluation.row.now.nacks in
    let at = sym c.evaluation.ensures ∙ ap option_copied c.in-Some-evaluation.is in
    refused_full w _ _ _
    (is_put_away c.args.number c.args.namespace.now w c.in-Some.worker.now c.in-Some-evaluation.row.now
    (sym c.worker_at.ensures ∙ ap option_copied c.in-Some.is) at
    (sym c.is_submitted.ensures ∙ c.if-is_submitted.false) (le-leb most_nacks (nacks + 1) (omega (arith, c.if-row-lt-NACKS.false))))
    (away_is_past w c.args.namespace.now c.args.number c.in-Some.worker.now.evaluation c.in-Some-evaluation.row.now c.requires.within at
    ∙ sym c.cannot_fail.ensures ∙ c.if-cannot_fail.true)

pub returns : goal.returns
returns c =
    let w = world_of c.args.tables.now in
    let nacks = c.in-Some-evaluation.row.now.nacks in
    let at = sym c.evaluation.ensures ∙ ap option_copied c.in-Some-evaluation.is in
    prepares_as _ _ c.args.tables.now c.give_up.result
    (done_still w _ _ _
    (is_put_away c.args.number c.args.namespace.now w c.in-Some.worker.now c.in-Some-evaluation.row.now
    (sym c.worker_at.ensures ∙ ap option_copied c.in-Some.is) at
    (sym c.is_submitted.ensures ∙ c.if-is_submitted.false) (le-leb most_nacks (nacks + 1) (omega (arith, c.if-row-lt-NACKS.false))))
    (away_is_past w c.args.namespace.now c.args.number c.in-Some.worker.now.evaluation c.in-Some-evaluation.row.now c.requires.within at
    ∙ sym c.cannot_fail.ensures ∙ c.if-cannot_fail.false))
    c.give_up.ensures
