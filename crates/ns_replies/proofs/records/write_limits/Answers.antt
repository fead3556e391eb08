use Rattle.std.proofs.Common.{refl}
use Rattle.ns_json.proofs.Parts.{follows}
use Rattle.ns_replies.proofs.records.write_limits.Goals as goal

pub returns : goal.returns
returns c = follows _ _ _ _ _ (rw (c.in-Some.is, c.limit_part.ensures, c.limit_part-2.ensures, c.limit_part-3.ensures) refl) c.write_parts-2.ensures
