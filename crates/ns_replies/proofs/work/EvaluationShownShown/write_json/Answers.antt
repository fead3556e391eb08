use Rattle.std.proofs.Common.{refl}
use Rattle.ns_json.specs.Rendering.{evaluation_json}
use Rattle.ns_json.proofs.Parts.{follows_ok, follows_more}
use Rattle.ns_replies.specs.Tokens.{evaluation_end}
use Rattle.ns_replies.proofs.Written.{follows_then}
use Rattle.ns_replies.proofs.work.EvaluationShownShown.write_json.Goals as goal

pub returns : goal.returns
unfolding evaluation_json evaluation_end
returns c =
    let head = follows_ok _ _ _ _ c.in_ok-write_parts.ensures in
    let follower = follows_more _ _ _ _ _ head c.in_ok-write_id_or_empty.ensures in
    let indexes = follows_more _ _ _ _ _ follower (follows_ok _ _ _ _ c.in_ok-write_parts-2.ensures) in
    let id = follows_more _ _ _ _ _ indexes c.in_ok-write_id.ensures in
    let names = follows_more _ _ _ _ _ id (follows_ok _ _ _ _ c.in_ok-write_parts-3.ensures) in
    let previous = follows_more _ _ _ _ _ names c.in_ok-write_id_or_empty-2.ensures in
    follows_then _ _ _ _ _ _ _ (rw (c.as_str.ensures, c.as_str-2.ensures, c.as_str-3.ensures) refl) previous c.write_evaluation_end.ensures
