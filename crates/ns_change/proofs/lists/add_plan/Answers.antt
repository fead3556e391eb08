use Rattle.std.proofs.lemmas.Result.{on_ok_weaker}
use Rattle.ns_change.specs.Changed.{with_key}
use Rattle.ns_change.proofs.Listed.{plans_is}
use Rattle.ns_change.proofs.lists.add_plan.Goals as goal

pub returns : goal.returns
returns c t = on_ok_weaker c.add_key.result (plans_is t c.args.change.now c.add_key.new.list (with_key c.args.key)) c.add_key.ensures
