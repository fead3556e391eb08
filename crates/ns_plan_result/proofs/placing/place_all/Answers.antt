use Rattle.std.proofs.Common.{List, ap, subst, sym, ◌+◌, ◌∙◌, drop}
use Rattle.ns_types.specs.declared.plan.Placement.{Placement}
use Rattle.ns_types.specs.Working.Commit.{place_all}
use Rattle.ns_change.specs.Changed.{view}
use Rattle.ns_plan_result.specs.Placing.{CanPlace}
use Rattle.ns_types.specs.Working.Parts.{placed_on}
use Rattle.ns_plan_result.proofs.Placements.{next_passed, next_placed, place_left, still_left}
use Rattle.ns_plan_result.proofs.placing.place_all.Goals as goal
use Rattle.ns_plan_result.proofs.placing.place_all.Goals.{then-has+in_ok-place_one, else-has}

pub place_one-requires-clause-place : goal.place_one-requires-clause-place
place_one-requires-clause-place c =
    let kept = c.args.committed.now.snapshot.now in
    let nodes = c.args.committed.now.nodes.now in
    let placements = c.args.committed.now.plan.now.placing.placements in
    let w = view c.args.committed.now.tables.now c.loop-placement.change in
    let p = c.placement-item.result in
    let i = c.loop-placement.placement-index in
    let next = next_placed nodes placements c.as_slice-placement-items.result.now c.as_slice-placement-items.ensures i p
    c.loop-placement-test.true c.placement-item.is (sym c.has.ensures ∙ c.if-has.true) in
    place_left kept p (placed_on nodes (drop (i + 1) placements)) w (subst (λ (l : List Placement). CanPlace kept l w) next c.loop-placement.invariant.left)

pub loop-placement-preserved : goal.loop-placement-preserved
loop-placement-preserved c =
    let kept = c.args.committed.now.snapshot.now in
    let nodes = c.args.committed.now.nodes.now in
    let placements = c.args.committed.now.plan.now.placing.placements in
    let tables = c.args.committed.now.tables.now in
    let w = view tables c.loop-placement.change in
    let p = c.placement-item.result in
    let i = c.loop-placement.placement-index in
    let rest = placed_on nodes (drop (i + 1) placements) in
    let xs = c.as_slice-placement-items.result.now in
    let same = c.as_slice-placement-items.ensures in
    elim c.if-has.branch [
      | then-has+in_ok-place_one v ↦
          let next = next_placed nodes placements xs same i p c.loop-placement-test.true c.placement-item.is
          (sym c.has.ensures ∙ v.if-has.true) in
          let done = ap (view tables) v.change-is ∙ v.in_ok-place_one.ensures in
          record {
            left =
                subst (CanPlace kept rest) (sym done) (still_left kept p rest w c.args.job.now c.requires.job
                (subst (λ (l : List Placement). CanPlace kept l w) next c.loop-placement.invariant.left));
            placed = ap (λ x. place_all kept x rest) done ∙ ap (place_all kept w) (sym next) ∙ c.loop-placement.invariant.placed;
          }
      | else-has v ↦
          let next = next_passed nodes placements xs same i p c.loop-placement-test.true c.placement-item.is
          (sym c.has.ensures ∙ v.if-has.false) in
          let stays = ap (view tables) v.change-is in
          record {
            left = subst (CanPlace kept rest) (sym stays) (subst (λ (l : List Placement). CanPlace kept l w) next c.loop-placement.invariant.left);
            placed = ap (λ x. place_all kept x rest) stays ∙ ap (place_all kept w) (sym next) ∙ c.loop-placement.invariant.placed;
          }
    ]
