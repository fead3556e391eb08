use Rattle.std.proofs.Common.{arith}
use Rattle.ns_json.specs.Replies.{body_of}
use Rattle.ns_replies.proofs.Written.{stopped_text, stopped_room}
use Rattle.ns_replies.proofs.room.stopped_text.Goals as goal

pub parts_text-requires-clause-fits : goal.parts_text-requires-clause-fits
parts_text-requires-clause-fits c =
    let small = stopped_room c.args.evaluation c.args.index c.id_str-id.result.now c.id_str-id.ensures (omega arith) in
    omega (arith, small, c.into_bytes.ensures.enough)

pub returns : goal.returns
unfolding body_of
returns c = stopped_text c.args.evaluation c.args.index c.id_str-id.result.now _ c.id_str-id.ensures c.parts_text.ensures
