use Rattle.ns_place.proofs.Rising.{repeated}
use Rattle.ns_place.proofs.marking.marked.is_repeated.Goals as goal

pub returns-then-place-gt0 : goal.returns-then-place-gt0
returns-then-place-gt0 c = repeated c.args.numbers.now c.args.place c.requires.rises c.if-place-gt0.true c.requires.inside
