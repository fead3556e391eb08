use Rattle.std.proofs.Common.{[], ◌∙◌, ap, option_copied, sym}
use Rattle.ns_plan.specs.After.{after_stops}
use Rattle.ns_plan.specs.Reader.{quota_left}
use Rattle.ns_plan.proofs.Afterwards.{use_all}
use Rattle.ns_plan.proofs.after.use_of.Goals as goal

pub returns-in-Some : goal.returns-in-Some
returns-in-Some g c =
    let x = after_stops (g.V.View.world c.args.view.now) c.args.namespace.now c.args.stops.now in
    c.used.ensures ∙ sym (ap (λ o. quota_left x o []) (ap option_copied c.in-Some.is) ∙ use_all x c.in-Some.quota.now)
