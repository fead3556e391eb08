use Rattle.std.proofs.Common.{refl}
use Rattle.ns_json.proofs.Parts.{follows}
use Rattle.ns_log.proofs.call.write_report.Goals as goal

pub returns : goal.returns
returns c = follows _ _ _ _ _ (rw (c.client_text.ensures, c.as_str.ensures, c.as_str-2.ensures) refl) c.write_parts.ensures
