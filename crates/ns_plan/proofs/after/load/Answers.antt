use Rattle.std.proofs.Common.{◌<◌, ◌≤◌, ◌&&◌, ◌∙◌, cond, get_or, length, refl, subst, sym, ap, arith, take}
use Rattle.std.specs.Prelude.{not}
use Rattle.std.proofs.lemmas.List.{take_all}
use Rattle.ns_types.specs.State.Resources.{minus, none, same_resources}
use Rattle.ns_types.specs.State.Names.{has_number}
use Rattle.ns_types.specs.State.Rows.{allocation_at}
use Rattle.ns_types.proofs.Once.{once}
use Rattle.ns_plan.specs.After.{part_on, stop_keys}
use Rattle.ns_plan.specs.Reader.{load_left}
use Rattle.ns_plan.proofs.Afterwards.{first_less, load_after, load_step}
use Rattle.ns_plan.proofs.after.load.Goals as goal
use Rattle.ns_plan.proofs.after.load.Goals.{then-takes_first, else-takes_first}

pub loop-i-preserved : goal.loop-i-preserved
loop-i-preserved g c =
    let w = g.V.View.world c.args.view.now in
    let ns = c.args.namespace.now in
    let stops = c.args.stops.now in
    let pool = c.args.pool.now in
    let node = c.args.node.now in
    let at = c.loop-i.i in
    let seen = c.as_slice-numbers.ensures in
    let inside = subst (λ l. at < length l) seen c.loop-i-test.true in
    let before = load_left w pool node (once (stop_keys ns (take at stops))) in
    let row = allocation_at w (ns, get_or stops at 0) in
    let stood = has_number (take at stops) (get_or stops at 0) in
    let part = c.part_on-part.ensures ∙ ap (part_on pool node) (c.allocation.ensures ∙ ap (λ l. allocation_at w (ns, get_or l at 0)) seen) in
    let next = first_less before (part_on pool node row) stood ∙ sym (load_step ns stops at inside w stood refl pool node) in
    let first = ap (λ r. not (same_resources r none) && not stood) (sym part) ∙ sym (c.takes_first.ensures 0) in
    elim c.if-takes_first.branch [
      | then-takes_first v ↦ v.left-is ∙ v.less-left.ensures ∙ (λ i. minus (c.loop-i.invariant i) (part i))
          ∙ sym (ap (λ b. cond b (minus before (part_on pool node row)) before) (first ∙ v.if-takes_first.true)) ∙ next
      | else-takes_first v ↦ v.left-is ∙ c.loop-i.invariant
          ∙ sym (ap (λ b. cond b (minus before (part_on pool node row)) before) (first ∙ v.if-takes_first.false)) ∙ next
    ]

pub returns : goal.returns
returns g c =
    let w = g.V.View.world c.args.view.now in
    let long = ap length c.as_slice-numbers.ensures in
    let at_end : length c.args.stops.now ≤ c.loop-i.i = omega (arith, long) in
    c.loop-i.invariant
    ∙ ap (λ l. load_left w c.args.pool.now c.args.node.now (once (stop_keys c.args.namespace.now l)))
    (take_all c.loop-i.i c.args.stops.now at_end)
    ∙ sym (load_after w c.args.namespace.now c.args.stops.now c.args.pool.now c.args.node.now)
