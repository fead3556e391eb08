use Rattle.ns_replay.proofs.Replied.{replies_if}
use Rattle.ns_replay.proofs.rerun.replying.reply_to.Goals as goal

pub returns : goal.returns
returns c = replies_if c.args.asked.now c.args.core.now c.step-answer.new.core c.step-answer.result c.step-answer.ensures
    c.shown-reply.result c.shown-reply.ensures
