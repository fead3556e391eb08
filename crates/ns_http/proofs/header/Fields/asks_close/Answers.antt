use Rattle.std.proofs.Common.{refl}
use Rattle.ns_types.specs.Wire.Http.{asks_close}
use Rattle.ns_http.proofs.FieldsLemmas.{closes_by_fields}
use Rattle.ns_http.proofs.header.Fields.asks_close.Goals as goal

pub returns-then-minor-eq0 : goal.returns-then-minor-eq0
unfolding asks_close
returns-then-minor-eq0 c = λ headers kept. rw c.if-minor-eq0.true refl

pub returns-else-minor-eq0 : goal.returns-else-minor-eq0
unfolding asks_close
returns-else-minor-eq0 c = λ headers kept. closes_by_fields c.args.minor _ _ c.if-minor-eq0.false kept.closes
