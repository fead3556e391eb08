use Rattle.std.proofs.Common.{refl}
use Rattle.ns_json.specs.Rendering.{policy_json}
use Rattle.ns_json.proofs.Parts.{follows}
use Rattle.ns_log.proofs.document.write_policy.Goals as goal

pub returns : goal.returns
unfolding policy_json
returns c = follows _ _ _ _ _ (rw (c.as_str.ensures, c.as_str-2.ensures, c.as_str-3.ensures) refl) c.write_parts.ensures
