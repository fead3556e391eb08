use Rattle.std.proofs.Common.{◌++◌, ap, ◌∙◌}
use Rattle.std.specs.List.{flat_map}
use Rattle.serde_json.specs.Written.{compact_text}
use Rattle.ns_json.specs.Logs.{entry_json, line_of, segment_text}
use Rattle.ns_log.proofs.log.segment_text.Goals as goal

pub returns : goal.returns
unfolding segment_text
returns c = c.in_ok-push_lines.ensures ∙ ap (λ t. t ++ flat_map (λ e. line_of (compact_text (entry_json e))) c.args.entries.now) c.in_ok-text.ensures
