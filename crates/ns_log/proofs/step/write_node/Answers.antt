use Rattle.std.proofs.Common.{◌∷◌, [], codes}
use Rattle.serde_json.specs.Data.{string}
use Rattle.ns_json.specs.Logs.{node_call, step_members, kind, with_secret}
use Rattle.ns_json.proofs.Parts.{follows_ok, follows_more}
use Rattle.ns_replies.proofs.Written.{follows_then}
use Rattle.ns_log.proofs.Written.{step_tokens}
use Rattle.ns_log.proofs.step.write_node.Goals as goal

pub returns : goal.returns
unfolding step_members
returns c =
    let head = follows_ok _ _ _ _ c.in_ok-write_parts.ensures in
    let call = follows_more _ _ _ _ _ head c.in_ok-write_node_call.ensures in
    follows_then _ _ _ _ _ _ _ (rw (c.get.ensures.same, c.secret_or_null.ensures) (step_tokens (node_call c.args.command.now)
    (kind (codes "Node") ∷ (codes "Pool", string c.args.pool.now) ∷ with_secret c.args.secret.now ∷ []))) call c.write_end.ensures
