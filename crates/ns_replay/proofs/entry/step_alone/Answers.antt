use Rattle.std.proofs.Common.{refl, sym, ap, ◌∙◌}
use Rattle.ns_types.specs.declared.step.Step.{Step}
use Rattle.ns_types.specs.Isolation.{is_own}
use Rattle.std.specs.Prelude.{Some}
use Rattle.ns_replay.specs.Abreast.{its_part}
use Rattle.ns_replay.proofs.Entering.{strikes_not, strikes_own}
use Rattle.ns_replay.proofs.Premising.{fitting, logged_not, unfitting}
use Rattle.ns_replay.proofs.entry.step_alone.Goals as goal

pub returns-then-not-is_own-clause-strikes : goal.returns-then-not-is_own-clause-strikes
returns-then-not-is_own-clause-strikes c =
    let part = its_part c.args.claim.now in
    strikes_not (is_own part c.args.entry.now.0) c.args.entry.now c.args.alone.now
    (ap (λ (step : Step). is_own part step) (sym c.step.ensures) ∙ sym c.is_own.ensures ∙ c.if-not-is_own.true)

pub returns-then-not-is_logged-clause-differs : goal.returns-then-not-is_logged-clause-differs
returns-then-not-is_logged-clause-differs c =
    let part = its_part c.args.claim.now in (
      refl,
      ap (λ (step : Step). is_own part step) (sym c.step.ensures) ∙ sym c.is_own.ensures ∙ c.if-not-is_own.false,
      unfitting c.args.entry.now c.args.alone.now c.reply_to.new.core c.step-2.result.now c.rendered.result.now c.in_ok-told.told c.step-2.ensures
          c.rendered.ensures c.in_ok-told.ensures (logged_not c.is_logged.ensures c.if-not-is_logged.true),
    )

pub returns-clause-strikes : goal.returns-clause-strikes
returns-clause-strikes c =
    let part = its_part c.args.claim.now in
    let so = c.is_logged.ensures.0 c.if-not-is_logged.false in
    strikes_own (is_own part c.args.entry.now.0) c.args.entry.now c.args.alone.now c.reply_to.new.core c.in_ok-told.told
    (ap (λ (step : Step). is_own part step) (sym c.step.ensures) ∙ sym c.is_own.ensures ∙ c.if-not-is_own.false)
    (fitting c.args.entry.now c.args.alone.now c.reply_to.new.core c.step-2.result.now c.rendered.result.now c.in_ok-told.told c.step-2.ensures
    c.rendered.ensures c.in_ok-told.ensures so)
    (so ∙ ap Some c.rendered.ensures)
