use Rattle.std.proofs.Common.{ap, sym, subst, ◌∙◌, Some}
use Rattle.std.specs.FinMap.{get}
use Rattle.std.specs.Prelude.{◌≡◌, option_map, List, ℕ}
use Rattle.ns_types.specs.Steps.{is_past_bound}
use Rattle.ns_plan_result.specs.Whole.{CanWrite}
use Rattle.ns_plan.specs.Looks.{AreCounted, IsChecked}
use Rattle.ns_applier.proofs.Coming.{all_dropped, can_write, comes_done, comes_full, comes_refused, dropped_is}
use Rattle.ns_change.proofs.Prepares.{prepares_as}
use Rattle.ns_applier.specs.HeadroomApplying.{apply_passes}
use Rattle.ns_applier.specs.Judging.{doing}
use Rattle.ns_tables.proofs.World.{tenant_at}
use Rattle.ns_tables.specs.World.{tenant_of, world_of}
use Rattle.ns_applier.proofs.applying.come_to.Goals as goal

pub check-outcome-requires-clause-counted : goal.check-outcome-requires-clause-counted
check-outcome-requires-clause-counted c = subst AreCounted (sym c.new-present.ensures) c.requires.counted

pub returns-then-is_refused : goal.returns-then-is_refused
returns-then-is_refused c =
    let tables = c.args.tables.now in
    let w = world_of tables in
    let t = tenant_of c.args.tenant.now in
    let kept = c.args.snapshot.now in
    let p = c.args.plan.now in
    let checked = subst (λ w. IsChecked kept p w c.check-outcome.result) c.new-present.ensures c.check-outcome.ensures in
    let d = c.check-outcome.result in
    let there = tenant_at tables kept.namespace ∙ ap (option_map tenant_of) c.requires.tenant in
    let on = sym c.is_refused.ensures ∙ c.if-is_refused.true in
    prepares_as _ _ tables c.apply_refused.result
    (comes_refused c.args.turn.now.number w t c.args.turn.now.worker.now c.args.turn.now.evaluation.now kept p d there checked on)
    (c.apply_refused.ensures p (c.dropped.ensures
    ∙ all_dropped c.args.turn.now.number w t c.args.turn.now.worker.now c.args.turn.now.evaluation.now kept p d there checked on))

pub returns-then-passes : goal.returns-then-passes
returns-then-passes c =
    let tables = c.args.tables.now in
    let w = world_of tables in
    let t = tenant_of c.args.tenant.now in
    let kept = c.args.snapshot.now in
    let p = c.args.plan.now in
    let checked = subst (λ w. IsChecked kept p w c.check-outcome.result) c.new-present.ensures c.check-outcome.ensures in
    let there = tenant_at tables kept.namespace ∙ ap (option_map tenant_of) c.requires.tenant in
    let off = sym c.is_refused.ensures ∙ c.if-is_refused.false in
    comes_full c.args.turn.now.number w t c.args.turn.now.worker.now c.args.turn.now.evaluation.now kept p c.check-outcome.result there
    checked off
    (ap (λ nodes. apply_passes w kept (doing w kept p nodes)) (sym (c.new-nodes.ensures ∙ c.committed.ensures)) ∙ sym c.passes.ensures ∙ c.if-passes.true)

pub apply_standing-requires-clause-can : goal.apply_standing-requires-clause-can
apply_standing-requires-clause-can c =
    let tables = c.args.tables.now in
    let w = world_of tables in
    let t = tenant_of c.args.tenant.now in
    let kept = c.args.snapshot.now in
    let p = c.args.plan.now in
    let checked = subst (λ w. IsChecked kept p w c.check-outcome.result) c.new-present.ensures c.check-outcome.ensures in
    let there = tenant_at tables kept.namespace ∙ ap (option_map tenant_of) c.requires.tenant in
    let off = sym c.is_refused.ensures ∙ c.if-is_refused.false in
    subst (λ nodes. CanWrite kept p w t nodes) (sym (c.new-nodes.ensures ∙ c.committed.ensures))
    (can_write c.args.turn.now.number w t c.args.turn.now.worker.now c.args.turn.now.evaluation.now kept p c.check-outcome.result there
    checked off
    (ap (λ nodes. apply_passes w kept (doing w kept p nodes)) (sym (c.new-nodes.ensures ∙ c.committed.ensures)) ∙ sym c.passes.ensures ∙ c.if-passes.false)
    c.requires.within)

pub apply_standing-requires-clause-dropped : goal.apply_standing-requires-clause-dropped
apply_standing-requires-clause-dropped c =
    let tables = c.args.tables.now in
    let kept = c.args.snapshot.now in
    let there = tenant_at tables kept.namespace ∙ ap (option_map tenant_of) c.requires.tenant in
    let off = sym c.is_refused.ensures ∙ c.if-is_refused.false in
    c.dropped-2.ensures ∙ dropped_is c.args.turn.now.number (world_of tables) (tenant_of c.args.tenant.now) c.args.turn.now.worker.now
    c.args.turn.now.evaluation.now kept c.args.plan.now c.check-outcome.result there
    (subst (λ w. IsChecked kept c.args.plan.now w c.check-outcome.result) c.new-present.ensures c.check-outcome.ensures) off

pub returns : goal.returns
returns c =
    let tables = c.args.tables.now in
    let w = world_of tables in
    let t = tenant_of c.args.tenant.now in
    let kept = c.args.snapshot.now in
    let p = c.args.plan.now in
    let checked = subst (λ w. IsChecked kept p w c.check-outcome.result) c.new-present.ensures c.check-outcome.ensures in
    let there = tenant_at tables kept.namespace ∙ ap (option_map tenant_of) c.requires.tenant in
    let off = sym c.is_refused.ensures ∙ c.if-is_refused.false in
    prepares_as _ _ tables c.apply_standing.result
    (comes_done c.args.turn.now.number w t c.args.turn.now.worker.now c.args.turn.now.evaluation.now kept p c.check-outcome.result there
    checked off
    (ap (λ nodes. apply_passes w kept (doing w kept p nodes)) (sym (c.new-nodes.ensures ∙ c.committed.ensures)) ∙ sym c.passes.ensures ∙ c.if-passes.false))
    c.apply_standing.ensures
