use Rattle.std.proofs.Common.{ap, ◌∙◌}
use Rattle.std.specs.Prelude.{is_some, None}
use Rattle.ns_request.specs.Parts.{is_good}
use Rattle.ns_json.proofs.Ids.{id_of-read}
use Rattle.ns_request.proofs.Ids.{accessor-read}
use Rattle.ns_request.proofs.part.PathPart.is_good.Goals as goal

pub returns-in_default : goal.returns-in_default
unfolding is_good
returns-in_default c = rw c.in-Id.is (ap is_some (id_of-read c.in-Id.kind c.args.text.now None tt tt c.in_default.ensures.none))

pub returns-in-Accessor : goal.returns-in-Accessor
unfolding is_good
returns-in-Accessor c =
    rw c.in-Accessor.is (c.is_ok.ensures.value ∙ accessor-read c.args.text.now c.parse_str.result c.parse_str.ensures.ok c.parse_str.ensures.bytes)
