use Rattle.std.proofs.Common.{refl}
use Rattle.ns_json.specs.Rendering.{allocation_json}
use Rattle.ns_json.proofs.Parts.{follows_ok, follows_more}
use Rattle.ns_replies.specs.Tokens.{allocation_end}
use Rattle.ns_replies.proofs.Written.{follows_then}
use Rattle.ns_replies.proofs.work.AllocationShownShown.write_json.Goals as goal

pub returns : goal.returns
unfolding allocation_json allocation_end
returns c =
    let head = follows_ok _ _ _ _ c.in_ok-write_parts.ensures in
    let evaluation = follows_more _ _ _ _ _ head c.in_ok-write_id.ensures in
    let key = follows_more _ _ _ _ _ evaluation (follows_ok _ _ _ _ c.in_ok-write_parts-2.ensures) in
    let id = follows_more _ _ _ _ _ key c.in_ok-write_id-2.ensures in
    follows_then _ _ _ _ _ _ _ (rw (c.client_text.ensures, c.desired_text.ensures) refl) id c.write_allocation_end.ensures
