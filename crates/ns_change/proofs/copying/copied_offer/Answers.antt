use Rattle.std.specs.List.{each_same}
use Rattle.ns_change.proofs.copying.copied_offer.Goals as goal

pub returns : goal.returns
returns c = λ i. record c.args.offer.now {
  class = c.in_ok-clone.ensures.cases i;
  attributes = each_same c.args.offer.now.attributes c.in_ok-clone-2.field-0 c.in_ok-clone-2.ensures.cases i;
}
