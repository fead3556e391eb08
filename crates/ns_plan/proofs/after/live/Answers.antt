use Rattle.std.proofs.Common.{sym, ap, ◌∙◌, cond, None}
use Rattle.ns_types.specs.State.Names.{Key}
use Rattle.ns_plan.specs.Looks.{if_live, live_at}
use Rattle.ns_plan.proofs.Afterwards.{live_after}
use Rattle.ns_plan.proofs.after.live.Goals as goal

pub returns-then-is_stopped : goal.returns-then-is_stopped
returns-then-is_stopped g c =
    let w = g.V.View.world c.args.view.now in
    let key : Key = (c.args.owner.now, c.args.number) in
    sym (live_after w c.args.namespace.now c.args.stops.now key ∙ ap (λ b. cond b None (live_at w key)) (sym c.is_stopped.ensures ∙ c.if-is_stopped.true))

pub returns-else-is_stopped : goal.returns-else-is_stopped
returns-else-is_stopped g c =
    let w = g.V.View.world c.args.view.now in
    let key : Key = (c.args.owner.now, c.args.number) in
    c.if_live.ensures ∙ ap if_live c.allocation.ensures
    ∙ sym (live_after w c.args.namespace.now c.args.stops.now key ∙ ap (λ b. cond b None (live_at w key)) (sym c.is_stopped.ensures ∙ c.if-is_stopped.false))
