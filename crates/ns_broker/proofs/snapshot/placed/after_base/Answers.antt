use Rattle.ns_broker.proofs.Seen.{follows}
use Rattle.ns_broker.proofs.snapshot.placed.after_base.Goals as goal

pub returns : goal.returns
returns c = follows _ _ _ c.in_ok-rows.rows c.last_of-last.result c.in_ok-fresh.fresh c.into_slots.result.items c.in_ok-rows.ensures c.last_of-last.ensures
    c.in_ok-fresh.ensures c.into_slots.ensures c.appended.result c.appended.ensures.rows c.appended.ensures.last
