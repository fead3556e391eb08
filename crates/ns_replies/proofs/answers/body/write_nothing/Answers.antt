use Rattle.std.proofs.Common.{refl, arith}
use Rattle.ns_replies.proofs.Writing.{writes_in}
use Rattle.ns_replies.proofs.answers.body.write_nothing.Goals as goal

pub returns : goal.returns
returns c = writes_in 4 _ _ _ _ _ refl (omega arith) c.write_parts.ensures
