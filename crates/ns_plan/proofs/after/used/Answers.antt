use Rattle.std.proofs.Common.{◌<◌, ◌≤◌, ◌∙◌, get_or, length, subst, sym, ap, arith, false, true}
use Rattle.std.proofs.lemmas.List.{take_all}
use Rattle.ns_types.specs.State.Resources.{minus}
use Rattle.ns_types.specs.State.Rows.{allocation_at}
use Rattle.ns_types.proofs.Once.{once}
use Rattle.ns_plan.specs.After.{part_of_quota, stop_keys}
use Rattle.ns_plan.specs.Reader.{use_left}
use Rattle.ns_plan.proofs.Afterwards.{use_after, use_step}
use Rattle.ns_plan.proofs.after.used.Goals as goal
use Rattle.ns_plan.proofs.after.used.Goals.{then-not-stands_earlier, else-not-stands_earlier}

pub loop-i-preserved : goal.loop-i-preserved
loop-i-preserved g c =
    let w = g.V.View.world c.args.view.now in
    let quota = c.args.quota.now in
    let at = c.loop-i.i in
    let seen = c.as_slice-numbers.ensures in
    let row = ap (λ l. allocation_at w (c.args.namespace.now, get_or l at 0)) seen in
    let step = use_step c.args.namespace.now c.args.stops.now at (subst (λ l. at < length l) seen c.loop-i-test.true) w in (
      elim c.if-not-stands_earlier.branch [
        | then-not-stands_earlier v ↦ v.left-is ∙ v.less-left.ensures
            ∙ (λ i. minus (c.loop-i.invariant.0 i) ((v.part_of_quota.ensures ∙
            (λ j. part_of_quota (c.names-named.ensures j) ((v.allocation.ensures ∙ row) j))) i))
            ∙ sym (step false (sym (c.stands_earlier.ensures 0) ∙ v.if-not-stands_earlier.true) quota)
        | else-not-stands_earlier v ↦ v.left-is ∙ c.loop-i.invariant.0
            ∙ sym (step true (sym (c.stands_earlier.ensures 0) ∙ v.if-not-stands_earlier.false) quota)
      ],
      c.names-named.ensures,
    )

pub returns : goal.returns
returns g c =
    let w = g.V.View.world c.args.view.now in
    let long = ap length c.as_slice-numbers.ensures in
    let at_end : length c.args.stops.now ≤ c.loop-i.i = omega (arith, long) in
    c.loop-i.invariant.0
    ∙ ap (λ l. use_left w c.args.quota.now (once (stop_keys c.args.namespace.now l)))
    (take_all c.loop-i.i c.args.stops.now at_end)
    ∙ sym (use_after w c.args.namespace.now c.args.stops.now c.args.quota.now)
