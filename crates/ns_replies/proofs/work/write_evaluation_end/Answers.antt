use Rattle.std.proofs.Common.{refl}
use Rattle.ns_json.proofs.Parts.{follows}
use Rattle.ns_replies.specs.Tokens.{evaluation_end}
use Rattle.ns_replies.proofs.work.write_evaluation_end.Goals as goal

pub returns : goal.returns
unfolding evaluation_end
returns c = follows _ _ _ _ _ (rw (c.text_or_empty.ensures, c.status_text.ensures, c.trigger_text.ensures, c.kind_text.ensures) refl) c.write_parts.ensures
