use Rattle.std.specs.Prelude.{flat_map}
use Rattle.std.specs.Result.{result_err}
use Rattle.std.proofs.Common.{subst, ◌∙◌}
use Rattle.ns_json.specs.Logs.{head_text, line_of, segment_text}
use Rattle.ns_log.specs.Lines.{entry_text}
use Rattle.ns_http.specs.Output.{WritesAll, WritesPart}
use Rattle.ns_http.specs.declared.engine.ConnFault.{ConnFault}
use Rattle.ns_listener.proofs.Written.{text_front, text_then, with_fault}
use Rattle.ns_listener.proofs.segments.write_segment.Goals as goal

pub returns-in_err-write_all-clause-written : goal.returns-in_err-write_all-clause-written
unfolding segment_text
returns-in_err-write_all-clause-written g c =
    let contents = g.W.Write.contents in
    let head = c.as_bytes.ensures.value ∙ c.in_ok-head.ensures in
    with_fault contents c.from_residual-in_err-write_all.result ConnFault.Write c.from_residual-in_err-write_all.ensures.1 _ _ _
    (text_front contents ConnFault.Write c.args.writer.now c.write_all.new.writer (line_of (head_text c.args.start c.args.secret.now))
    (flat_map (λ e. line_of (entry_text e)) c.args.entries.now)
    (subst (WritesPart contents c.args.writer.now c.write_all.new.writer) head c.in_err-write_all.ensures.err, c.in_err-write_all.ensures.failed))

pub returns-clause-written : goal.returns-clause-written
unfolding segment_text
returns-clause-written g c =
    let contents = g.W.Write.contents in
    let head = c.as_bytes.ensures.value ∙ c.in_ok-head.ensures in
    text_then contents (result_err c.write_lines.result) c.args.writer.now c.write_all.new.writer c.write_lines.new.writer
    (line_of (head_text c.args.start c.args.secret.now)) (flat_map (λ e. line_of (entry_text e)) c.args.entries.now)
    c.in_ok-write_all.ensures.grows
    (subst (WritesAll contents c.args.writer.now c.write_all.new.writer) head c.in_ok-write_all.ensures.ok) c.write_lines.ensures.written
