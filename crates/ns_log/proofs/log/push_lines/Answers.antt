use Rattle.std.proofs.Common.{◌++◌, ap, ◌∙◌}
use Rattle.std.specs.String.{string_bytes}
use Rattle.serde_json.specs.Written.{compact_text}
use Rattle.ns_json.specs.Logs.{entry_json, line_of}
use Rattle.ns_log.proofs.Written.{entry_line, lines_more}
use Rattle.ns_log.proofs.log.push_lines.Goals as goal

pub loop-entry-preserved : goal.loop-entry-preserved
loop-entry-preserved c =
    let line = c.as_str.ensures.value ∙ c.in_ok-line.ensures ∙ entry_line c.entry-item.result _ _ c.step.ensures c.rendered.ensures in
    lines_more (λ e. line_of (compact_text (entry_json e))) _ _ _ c.args.entries.now c.loop-entry.entry-index c.entry-item.result
    c.loop-entry-test.true c.entry-item.is c.loop-entry.invariant (c.in_ok-push_str.ensures.bytes ∙ ap (λ t. string_bytes c.loop-entry.text ++ t) line)
