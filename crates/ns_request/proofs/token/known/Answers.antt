use Rattle.ns_request.proofs.Parts.{known-no_text}
use Rattle.ns_request.proofs.token.known.Goals as goal

pub returns-in_default : goal.returns-in_default
returns-in_default c = known-no_text c.args.token.now c.in_default.ensures.cases.0
