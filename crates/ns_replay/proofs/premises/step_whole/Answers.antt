use Rattle.std.proofs.Common.{refl, sym, ap, ◌∙◌}
use Rattle.ns_replay.specs.Abreast.{breaks_premise, is_apart_by}
use Rattle.ns_replay.proofs.Premising.{breach, keeping}
use Rattle.ns_replay.proofs.premises.step_whole.Goals as goal

pub returns-then-broken-clause-breach : goal.returns-then-broken-clause-breach
returns-then-broken-clause-breach c =
    let claim = c.args.claim.now in
    let apart = is_apart_by claim c.step-answer.new.core.world in (
      refl,
      breach claim.namespace.now claim.pools.now claim.quotas.now c.args.whole.now c.step-answer.new.core c.args.step.now c.step-answer.result
          c.step-answer.ensures (ap (λ b. breaks_premise apart b c.args.step.now c.step-answer.result) (sym c.is_crowded-crowded.ensures)
          ∙ sym c.is_broken-broken.ensures ∙ c.if-broken.true),
    )

pub returns-clause-premises : goal.returns-clause-premises
returns-clause-premises c =
    let claim = c.args.claim.now in
    let apart = is_apart_by claim c.step-answer.new.core.world in
    keeping claim.namespace.now claim.pools.now claim.quotas.now c.args.whole.now c.step-answer.new.core c.args.step.now c.requires.steady
    c.requires.apart c.step-answer.result c.step-answer.ensures
    (ap (λ b. breaks_premise apart b c.args.step.now c.step-answer.result) (sym c.is_crowded-crowded.ensures) ∙ sym c.is_broken-broken.ensures
    ∙ c.if-broken.false) c.in_ok-told.field-0 c.in_ok-told.ensures
