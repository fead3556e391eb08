use Rattle.ns_place.proofs.Rising.{rising_by}
use Rattle.ns_place.proofs.marking.marked.rises.Goals as goal

pub returns : goal.returns
returns c = rising_by c.args.numbers.now c.is_sorted.result c.is_sorted.ensures.cases
