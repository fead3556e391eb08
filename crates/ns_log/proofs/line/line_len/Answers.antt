use Rattle.std.proofs.Common.{◌∙◌}
use Rattle.ns_log.proofs.Written.{entry_line}
use Rattle.ns_log.specs.Lines.{entry_text}
use Rattle.ns_log.proofs.line.line_len.Goals as goal

pub returns : goal.returns
returns c = c.begun_len.ensures (entry_text c.args.entry.now)
    (c.as_bytes.ensures.value ∙ c.in_ok-line.ensures ∙ entry_line c.args.entry.now _ _ c.step.ensures c.rendered.ensures)
