use Rattle.std.proofs.Common.{◌≡◌, ◌+◌, ap, arith, length, min}
use Rattle.ns_types.specs.Steps.{greatest}
use Rattle.ns_renewal.proofs.numbers.count.Goals as goal

pub returns : goal.returns
returns g c =
    let none : length (g.E.Evictions.list c.loop-others.rest) ≡ 0 = ap length c.in_default.ensures in
    let so_far : min (c.loop-others.count + length (g.E.Evictions.list c.loop-others.rest)) greatest
    ≡ min (length (g.E.Evictions.list c.args.evictions)) greatest = c.loop-others.invariant.so_far in
    omega (arith, none, so_far)
