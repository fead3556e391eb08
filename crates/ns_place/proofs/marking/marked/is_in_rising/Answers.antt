use Rattle.std.proofs.Common.{◌∙◌}
use Rattle.ns_place.proofs.Rising.{in_rising}
use Rattle.ns_place.proofs.marking.marked.is_in_rising.Goals as goal

pub returns : goal.returns
returns c = c.is_ok.ensures.value ∙ in_rising c.args.numbers.now c.args.number c.binary_search.result c.binary_search.ensures.position c.requires
