use Rattle.std.proofs.Common.{ap, refl, ◌≤◌, length, arith}
use Rattle.json.specs.Print.{escape}
use Rattle.ns_replies.proofs.Writing.{escaped_follower, escaped_status, finished_room, writes_in}
use Rattle.ns_replies.proofs.answers.body.write_finished.Goals as goal

pub returns : goal.returns
returns c =
    let id : length (escape c.id_or_empty-id.result.now) ≤ 36 =
    omega (arith, ap (λ s. length (escape s)) c.id_or_empty-id.ensures, escaped_follower c.args.follower) in
    let status : length (escape c.status_text.result.now) ≤ 8 =
    omega (arith, ap (λ s. length (escape s)) c.status_text.ensures, escaped_status c.args.status) in
    writes_in 76 _ _ _ _ _ (rw (c.id_or_empty-id.ensures, c.status_text.ensures) refl)
    (finished_room c.id_or_empty-id.result.now c.status_text.result.now id status) c.write_parts.ensures
