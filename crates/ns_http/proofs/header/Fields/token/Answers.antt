use Rattle.ns_types.specs.Wire.Http.{token_of}
use Rattle.ns_http.proofs.header.Fields.token.Goals as goal

pub returns : goal.returns
unfolding token_of
returns c = λ headers kept. c.first.ensures _ kept.tokens
