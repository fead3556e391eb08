use Rattle.std.proofs.Common.{ap, ◌≤◌, length, arith}
use Rattle.json.specs.Print.{escape}
use Rattle.ns_types.specs.declared.id.IdKind.TheVariants as IdKind
use Rattle.ns_json.proofs.Replies.{length-escaped_id}
use Rattle.ns_replies.proofs.Written.{stopped_tokens}
use Rattle.ns_replies.proofs.Writing.{stopped_room, writes_in}
use Rattle.ns_replies.proofs.answers.body.write_stopped.Goals as goal

pub returns : goal.returns
returns c =
    let short : length (escape c.id_str-id.result.now) ≤ 36 =
    omega (arith, ap (λ s. length (escape s)) c.id_str-id.ensures, length-escaped_id IdKind.Evaluation c.args.evaluation) in
    writes_in 83 _ _ _ _ _ (stopped_tokens c.args.evaluation c.args.index c.id_str-id.result.now c.id_str-id.ensures)
    (stopped_room c.args.index c.id_str-id.result.now (omega arith) short) c.write_parts.ensures
