use Rattle.std.proofs.Common.{refl}
use Rattle.ns_json.specs.Rendering.{pool_json}
use Rattle.ns_json.proofs.Parts.{follows}
use Rattle.ns_log.proofs.document.write_pool.Goals as goal

pub returns : goal.returns
unfolding pool_json
returns c = follows _ _ _ _ _ (rw (c.as_str.ensures, c.as_str-2.ensures) refl) c.write_parts.ensures
