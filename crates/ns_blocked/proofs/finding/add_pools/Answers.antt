use Rattle.std.specs.Prelude.{◌||◌}
use Rattle.std.proofs.Common.{ap, ◌∙◌}
use Rattle.std.specs.List.{list_any}
use Rattle.keyed.proofs.Mapped.{take_all}
use Rattle.ns_types.specs.State.Names.{has_number}
use Rattle.ns_blocked.specs.declared.releases.ReleasedPool.{ReleasedPool}
use Rattle.ns_blocked.specs.Waking.{is_of_pool}
use Rattle.ns_blocked.proofs.Places.{adds_next}
use Rattle.ns_blocked.proofs.finding.add_pools.Goals as goal

pub loop-released-preserved : goal.loop-released-preserved
loop-released-preserved c = adds_next (λ (p : ReleasedPool) n. is_of_pool c.args.queue.now c.args.groups.now n p.pool p.classes) c.args.pools.now
    c.loop-released.released-index c.released-item.result _ c.loop-released.places.keys _ c.loop-released-test.true c.released-item.is
    c.loop-released.invariant (λ n. c.in_ok-add_pool.ensures n
    ∙ ap (λ classes. has_number c.loop-released.places.keys n
    || is_of_pool c.args.queue.now c.args.groups.now n c.released-item.result.pool classes) c.as_slice-classes.ensures)

pub returns : goal.returns
returns c n = c.loop-released.invariant n ∙ ap (λ pools. has_number c.args.places.now.keys n
    || list_any (λ (p : ReleasedPool). is_of_pool c.args.queue.now c.args.groups.now n p.pool p.classes) pools)
    (take_all c.args.pools.now c.loop-released.released-index c.loop-released-test.false)
