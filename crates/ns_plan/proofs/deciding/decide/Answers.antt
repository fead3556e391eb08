use Rattle.std.proofs.Common.{◌∙◌, ◌++◌, ◌∷◌, [], ap, option_copied, subst, sym}
use Rattle.ns_types.specs.State.Sums.{node_load}
use Rattle.ns_types.specs.Working.Commit.{node_name, part_of, size_of}
use Rattle.ns_types.proofs.Once.{once}
use Rattle.ns_plan.specs.After.{after_stops}
use Rattle.ns_types.specs.State.Resources.{added}
use Rattle.ns_plan.specs.Gathered.{IsPart}
use Rattle.ns_plan.specs.Reader.{evictions_of, is_on, left_by, quota_left, takes_left, with_victims}
use Rattle.ns_types.proofs.Amounts.{amount_added}
use Rattle.ns_plan.proofs.Steps.{left_is, step_left, step_taken, takes_same}
use Rattle.ns_plan.proofs.deciding.decide.Goals as goal

pub left_at-left-requires : goal.left_at-left-requires
left_at-left-requires g c =
    let x = after_stops (g.V.View.world c.args.view.now) c.args.snapshot.now.namespace c.args.stops.now in
    c.requires.load ∙ ap (node_load x c.args.snapshot.now.pool) (sym c.node_name-name.ensures)

pub returns-then-takes : goal.returns-then-takes
returns-then-takes g c = λ r so_far elsewhere.
    let w = g.V.View.world c.args.view.now in
    let kept = c.args.snapshot.now in
    let pool = kept.pool in
    let stops = c.args.plan.now.stops in
    let x = after_stops w kept.namespace stops in
    let ps = c.args.plan.now.placing.placements in
    let quota = option_copied c.args.quota in
    let k = c.args.node in
    let part = part_of k ps in
    let stops_is = c.requires.stops in
    let ps_is = c.as_slice-placements.ensures in
    let name_is = c.node_name-name.ensures in
    let run_is = c.evicting-run.ensures k (subst (λ l. IsPart k l c.args.part) (sym ps_is) c.requires.part) ∙ ap (λ l. evictions_of (part_of k l)) ps_is in
    let left = c.left_at-left.ensures r.keys
    (λ key on. elsewhere key ((λ i. is_on (after_stops w kept.namespace (sym stops_is i)) pool (sym name_is i) key) ∙ on))
    (so_far.used_is ∙ ap (λ l. quota_left (after_stops w kept.namespace l) quota (once r.keys)) (sym stops_is))
    ∙ (λ i. left_by (after_stops w kept.namespace (stops_is i)) pool (name_is i) quota r.keys (run_is i))
    ∙ left_is kept ps x quota r k in
    let size = c.requires.part.size_is in
    let decided = c.takes.ensures (size_of part) r.placed size so_far.placed_is
    ∙ (λ i. takes_left kept w quota (name_is i) (left i) (size_of part) r.placed)
    ∙ takes_same kept w stops quota c.requires.quota (with_victims kept x r.keys part) (node_name kept k) (size_of part) r.placed in
    step_taken kept ps x quota r k (sym decided ∙ c.if-takes.true) _ (ap (λ l. l.used) left)
    (c.add-so_far.ensures ∙ (λ i. added (so_far.placed_is i) (size i)) ∙ amount_added r.placed (size_of part))
    (c.push.ensures.items ∙ ap (λ l. l ++ k ∷ []) so_far.committed_is) so_far.dropped_is

pub returns-else-takes : goal.returns-else-takes
returns-else-takes g c = λ r so_far elsewhere.
    let w = g.V.View.world c.args.view.now in
    let kept = c.args.snapshot.now in
    let pool = kept.pool in
    let stops = c.args.plan.now.stops in
    let x = after_stops w kept.namespace stops in
    let ps = c.args.plan.now.placing.placements in
    let quota = option_copied c.args.quota in
    let k = c.args.node in
    let part = part_of k ps in
    let stops_is = c.requires.stops in
    let ps_is = c.as_slice-placements.ensures in
    let name_is = c.node_name-name.ensures in
    let run_is = c.evicting-run.ensures k (subst (λ l. IsPart k l c.args.part) (sym ps_is) c.requires.part) ∙ ap (λ l. evictions_of (part_of k l)) ps_is in
    let left = c.left_at-left.ensures r.keys
    (λ key on. elsewhere key ((λ i. is_on (after_stops w kept.namespace (sym stops_is i)) pool (sym name_is i) key) ∙ on))
    (so_far.used_is ∙ ap (λ l. quota_left (after_stops w kept.namespace l) quota (once r.keys)) (sym stops_is))
    ∙ (λ i. left_by (after_stops w kept.namespace (stops_is i)) pool (name_is i) quota r.keys (run_is i))
    ∙ left_is kept ps x quota r k in
    let size = c.requires.part.size_is in
    let decided = c.takes.ensures (size_of part) r.placed size so_far.placed_is
    ∙ (λ i. takes_left kept w quota (name_is i) (left i) (size_of part) r.placed)
    ∙ takes_same kept w stops quota c.requires.quota (with_victims kept x r.keys part) (node_name kept k) (size_of part) r.placed in
    step_left kept ps x quota r k (sym decided ∙ c.if-takes.false) _ so_far.used_is so_far.placed_is so_far.committed_is
    (c.push-else-takes.ensures.items ∙ ap (λ l. l ++ k ∷ []) so_far.dropped_is)
