use Rattle.std.proofs.Common.{◌∙◌, ap, sym, option_copied, false}
use Rattle.std.specs.Option.{option_map_or}
use Rattle.ns_plan.specs.Reader.{accepts_left}
use Rattle.ns_plan.proofs.taking.takes.Goals as goal

pub returns-in-Some : goal.returns-in-Some
returns-in-Some g c = λ r p h k.
    let w = g.V.View.world c.args.view.now in
    let quota = option_copied c.args.quota in
    c.accepts.ensures r p h k
    ∙ sym (ap (λ o. option_map_or (accepts_left c.args.snapshot.now w quota c.args.name.now c.args.left r p) o false)
    (sym c.node.ensures ∙ ap option_copied c.in-Some.is))

pub returns-in-None : goal.returns-in-None
returns-in-None g c = λ r p h k.
    let w = g.V.View.world c.args.view.now in
    let quota = option_copied c.args.quota in
    sym (ap (λ o. option_map_or (accepts_left c.args.snapshot.now w quota c.args.name.now c.args.left r p) o false)
    (sym c.node.ensures ∙ ap option_copied c.in-None.is))
