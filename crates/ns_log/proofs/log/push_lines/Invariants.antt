use Rattle.std.proofs.Common.{◌≡◌, ◌++◌, take}
use Rattle.std.specs.List.{flat_map}
use Rattle.std.specs.String.{string_bytes}
use Rattle.serde_json.specs.Written.{compact_text}
use Rattle.ns_json.specs.Logs.{entry_json, line_of}
use Rattle.ns_log.proofs.log.push_lines.Given as goal

abbrev pub invariant-loop-entry : goal.invariant-loop-entry
invariant-loop-entry l = string_bytes l.text ≡ string_bytes l.initial.text ++
    flat_map (λ e. line_of (compact_text (entry_json e))) (take l.entry-index l.entries)
