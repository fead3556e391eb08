use Rattle.std.proofs.Common.{refl}
use Rattle.ns_replay.proofs.Entering.{advances, breach_at, difference_at, no_step_at}
use Rattle.ns_replay.proofs.Premising.{logged_not}
use Rattle.ns_replay.proofs.entry.replay_entry.Goals as goal

pub step_whole-requires-clause-steady : goal.step_whole-requires-clause-steady
step_whole-requires-clause-steady c = c.requires.steady

pub step_whole-requires-clause-apart : goal.step_whole-requires-clause-apart
step_whole-requires-clause-apart c = c.requires.apart

pub returns-in-Err-clause-fault : goal.returns-in-Err-clause-fault
returns-in-Err-clause-fault c =
    breach_at c.args.claim.now.namespace.now c.args.claim.now.pools.now c.args.claim.now.quotas.now c.args.entry.now c.args.whole.now
    c.args.alone.now c.args.place c.step.result.now c.step.ensures
    c.in-Err.fault c.in-Err.ensures.breach

pub returns-in-Err-step_alone-clause-fault : goal.returns-in-Err-step_alone-clause-fault
returns-in-Err-step_alone-clause-fault c =
    difference_at c.args.claim.now.namespace.now c.args.claim.now.pools.now c.args.claim.now.quotas.now c.args.entry.now c.args.whole.now
    c.args.alone.now c.args.place c.step_whole.new.whole
    c.step.result.now c.step.ensures c.in-Ok.told c.in-Ok.ensures.told c.in-Ok.ensures.premises c.in-Err-step_alone.fault c.in-Err-step_alone.ensures.differs

pub returns-then-not-is_logged-clause-fault : goal.returns-then-not-is_logged-clause-fault
returns-then-not-is_logged-clause-fault c = (
  refl,
  no_step_at c.args.claim.now.namespace.now c.args.claim.now.pools.now c.args.claim.now.quotas.now c.args.entry.now c.args.whole.now
      c.args.alone.now c.args.place c.step_whole.new.whole
      c.step.result.now c.step.ensures c.in-Ok.told c.in-Ok.ensures.told c.in-Ok.ensures.premises c.step_alone.new.alone c.in-Ok-step_alone.reply
      c.rendered.result.now c.rendered.ensures c.in-Ok-step_alone.ensures.strikes (logged_not c.is_logged.ensures c.if-not-is_logged.true),
)

pub returns-clause-advances : goal.returns-clause-advances
returns-clause-advances c =
    advances c.args.claim.now.namespace.now c.args.claim.now.pools.now c.args.claim.now.quotas.now c.args.entry.now c.args.whole.now
    c.args.alone.now c.args.place c.step_whole.new.whole
    c.step.result.now c.step.ensures c.in-Ok.told c.in-Ok.ensures.told c.in-Ok.ensures.premises c.step_alone.new.alone c.in-Ok-step_alone.reply
    c.rendered.result.now c.rendered.ensures c.in-Ok-step_alone.ensures.strikes (c.is_logged.ensures.0 c.if-not-is_logged.false)
