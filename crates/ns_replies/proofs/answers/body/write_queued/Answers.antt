use Rattle.std.proofs.Common.{ap, arith, length}
use Rattle.json.specs.Print.{escape, escape_byte}
use Rattle.ns_types.specs.declared.id.IdKind.TheVariants as IdKind
use Rattle.ns_json.proofs.Replies.{length-escaped_id}
use Rattle.ns_replies.proofs.answers.body.write_queued.Goals as goal

pub write_one_id-requires-clause-short : goal.write_one_id-requires-clause-short
unfolding escape_byte
write_one_id-requires-clause-short c = omega arith

pub write_one_id-requires-clause-id : goal.write_one_id-requires-clause-id
write_one_id-requires-clause-id c =
    omega (arith, ap (λ s. length (escape s)) c.id_str-id.ensures, length-escaped_id IdKind.Evaluation c.args.number)

pub returns : goal.returns
returns c = rw (← c.id_str-id.ensures) c.write_one_id.ensures
