use Rattle.ns_request.proofs.Targets.{says_more}
use Rattle.ns_request.proofs.target.named_in.Goals as goal

pub loop-placed-preserved : goal.loop-placed-preserved
loop-placed-preserved c = rw (c.keep.ensures.first, c.keep.ensures.second)
    (says_more c.parts-placed-items.result.now c.loop-placed.placed-index _ c.args.path.now c.segment.result.now c.in-Some.text c.as_str.result.now
    c.in_ok-text.field-0 c.loop-placed.first c.loop-placed.second c.loop-placed.every_pool c.is_every_pool-every_pool.result c.loop-placed-test.true
    c.loop-placed.invariant c.segment.ensures c.in_ok-text.ensures c.in-Some.is c.as_str.ensures c.is_every_pool-every_pool.ensures)
