use Rattle.ns_json.proofs.Parts.{follows_ok, follows_more, follows_last}
use Rattle.ns_log.proofs.Written.{registration_tokens}
use Rattle.ns_log.proofs.registration.write_registration.Goals as goal

pub returns : goal.returns
returns c =
    let head = follows_ok _ _ _ _ c.in_ok-write_parts.ensures in
    let constraints = follows_more _ _ _ _ _ head c.in_ok-write_constraints.ensures in
    let members = follows_more _ _ _ _ _ constraints (follows_ok _ _ _ _ c.in_ok-write_parts-2.ensures) in
    let groups = follows_more _ _ _ _ _ members c.in_ok-write_groups.ensures in
    follows_last _ _ _ _ _ _ _
    (registration_tokens c.args.registration.now _ _ _ _ _ c.as_slice.ensures c.as_slice-2.ensures c.as_str.ensures c.text_or_empty.ensures c.kind_text.ensures)
    groups c.write_kind.ensures
