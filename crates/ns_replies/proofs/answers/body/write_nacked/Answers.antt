use Rattle.std.proofs.Common.{ap, refl, ◌≤◌, length, arith}
use Rattle.json.specs.Print.{escape}
use Rattle.ns_replies.proofs.Writing.{escaped_status, nacked_room, writes_in}
use Rattle.ns_replies.proofs.answers.body.write_nacked.Goals as goal

pub returns : goal.returns
returns c =
    let status : length (escape c.status_text.result.now) ≤ 8 =
    omega (arith, ap (λ s. length (escape s)) c.status_text.ensures, escaped_status c.args.status) in
    writes_in 25 _ _ _ _ _ (rw c.status_text.ensures refl) (nacked_room c.status_text.result.now status) c.write_parts.ensures
