use Rattle.std.proofs.lemmas.Result.{on_ok_weaker}
use Rattle.ns_types.specs.Working.Work.{without_key}
use Rattle.ns_change.proofs.Listed.{ready_is}
use Rattle.ns_change.proofs.lists.take_ready.Goals as goal

pub returns : goal.returns
returns c t = on_ok_weaker c.take_key.result (ready_is t c.args.change.now c.take_key.new.list (without_key c.args.key.now)) c.take_key.ensures
