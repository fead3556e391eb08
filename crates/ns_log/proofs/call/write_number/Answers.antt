use Rattle.std.proofs.Common.{refl}
use Rattle.ns_json.proofs.Parts.{follows}
use Rattle.ns_log.proofs.call.write_number.Goals as goal

pub returns : goal.returns
returns c = follows _ _ _ _ _ refl c.write_parts.ensures
