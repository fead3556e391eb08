use Rattle.std.specs.Prelude.{flat_map, take}
use Rattle.ns_json.specs.Logs.{line_of}
use Rattle.ns_log.specs.Lines.{entry_text}
use Rattle.ns_http.specs.Counts.{HasGrown}
use Rattle.ns_http.specs.Output.{WritesAll}
use Rattle.ns_listener.proofs.segments.write_lines.Given as goal

-- the lines of the entries so far were written
abbrev pub invariant-loop-entry : goal.invariant-loop-entry
invariant-loop-entry g l = HasGrown l.initial.writer.counts l.writer.counts
    × WritesAll g.W.Write.contents l.initial.writer l.writer (flat_map (λ e. line_of (entry_text e)) (take l.entry-index l.entries))
