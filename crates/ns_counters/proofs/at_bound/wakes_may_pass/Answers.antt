use Rattle.ns_counters.proofs.Last.{no_last_index}
use Rattle.ns_counters.proofs.at_bound.wakes_may_pass.Goals as goal

pub returns : goal.returns
returns c none = no_last_index c.args.tables.now (c.may_be_at_bound.ensures none)
