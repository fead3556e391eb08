use Rattle.ns_core.proofs.Opening.{opening_indexed, opening_parts}
use Rattle.ns_core.proofs.parts.Parts.opening.Goals as goal

pub returns-clause-state : goal.returns-clause-state
returns-clause-state c = opening_parts c.args.bootstrap.now c.in_ok-new.field-0 c.in_ok-opening.field-0 c.in_ok-new.ensures c.in_ok-opening.ensures

pub returns-clause-index : goal.returns-clause-index
returns-clause-index c = opening_indexed c.args.bootstrap.now _ c.in_ok-opening.ensures c.new-2.ensures c.new-3.ensures.new
