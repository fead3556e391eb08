use Rattle.std.proofs.Common.{◌∙◌}
use Rattle.ns_json.specs.Logs.{head_text}
use Rattle.ns_log.proofs.line.head_len.Goals as goal

pub returns : goal.returns
returns c = c.begun_len.ensures (head_text c.args.start c.args.bootstrap.now) (c.as_bytes.ensures.value ∙ c.in_ok-line.ensures)
