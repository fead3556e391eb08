use Rattle.std.proofs.Common.{refl}
use Rattle.ns_json.proofs.Parts.{follows}
use Rattle.ns_replies.proofs.work.write_id.Goals as goal

pub returns : goal.returns
returns c = follows _ _ _ _ _ (rw c.id_str.ensures refl) c.write_parts.ensures
