use Rattle.std.proofs.Common.{ap, arith, refl, ◌∙◌}
use Rattle.ns_types.specs.State.Resources.{amount_of}
use Rattle.ns_plan.proofs.gathering.no_part.Goals as goal

pub returns : goal.returns
returns c = λ k. record {
  size_is = c.amount_of.ensures ∙ ap amount_of c.none.ensures;
  order = omega arith;
  inside =
      omega arith;
  none_before = refl;
  none_behind = refl;
}
