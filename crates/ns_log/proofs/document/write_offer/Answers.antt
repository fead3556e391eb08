use Rattle.std.proofs.Common.{refl}
use Rattle.ns_json.specs.Logs.{offer_json}
use Rattle.ns_json.proofs.Parts.{follows_ok, follows_more, follows_last}
use Rattle.ns_log.proofs.document.write_offer.Goals as goal

pub returns : goal.returns
unfolding offer_json
returns c =
    let head = follows_ok _ _ _ _ c.in_ok-write_parts.ensures in
    let attributes = follows_more _ _ _ _ _ head c.in_ok-write_attributes.ensures in
    follows_last _ _ _ _ _ _ _ (rw (c.as_slice.ensures, c.as_str.ensures) refl) attributes c.write_parts-2.ensures
