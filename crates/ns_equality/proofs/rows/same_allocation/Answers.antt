use Rattle.std.proofs.Common.{◌∙◌}
use Rattle.std.specs.Prelude.{◌&&◌}
use Rattle.ns_equality.proofs.Alike.{placed_alike}
use Rattle.ns_equality.proofs.rows.same_allocation.Goals as goal

pub returns : goal.returns
returns c = (λ i. c.same_place-place.ensures i && c.same_fate-fate.ensures i) ∙ placed_alike c.args.a.now c.args.b.now
