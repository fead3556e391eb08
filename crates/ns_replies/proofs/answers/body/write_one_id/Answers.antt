use Rattle.std.proofs.Common.{refl}
use Rattle.ns_replies.proofs.Writing.{one_id_room, writes_in}
use Rattle.ns_replies.proofs.answers.body.write_one_id.Goals as goal

pub returns : goal.returns
returns c = writes_in 54 _ _ _ _ _ refl (one_id_room c.args.name.now c.args.id.now c.requires.short c.requires.id) c.write_parts.ensures
