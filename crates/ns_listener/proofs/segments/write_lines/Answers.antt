use Rattle.std.proofs.Common.{subst, ◌∙◌}
use Rattle.ns_json.specs.Logs.{line_of}
use Rattle.ns_log.specs.Lines.{entry_text}
use Rattle.ns_log.proofs.Written.{entry_line}
use Rattle.ns_http.specs.Output.{WritesPart}
use Rattle.ns_http.specs.declared.engine.ConnFault.{ConnFault}
use Rattle.ns_listener.proofs.Written.{no_text, texts_end, with_fault}
use Rattle.ns_listener.proofs.segments.write_lines.Goals as goal

pub returns-in_err-line-clause-written : goal.returns-in_err-line-clause-written
returns-in_err-line-clause-written g c =
    let contents = g.W.Write.contents in
    with_fault contents c.from_residual.result ConnFault.Memory c.from_residual.ensures.1 _ _ _
    (texts_end contents (λ e. line_of (entry_text e)) c.args.entries.now c.loop-entry.entry-index c.entry-item.result c.loop-entry-test.true
    c.entry-item.is ConnFault.Memory c.args.writer.now c.loop-entry.writer c.loop-entry.writer c.loop-entry.invariant.0 c.loop-entry.invariant.1
    (no_text contents c.loop-entry.writer (line_of (entry_text c.entry-item.result))))

pub returns-in_err-write_all-clause-written : goal.returns-in_err-write_all-clause-written
returns-in_err-write_all-clause-written g c =
    let contents = g.W.Write.contents in
    let line = c.as_bytes.ensures.value ∙ c.in_ok-line.ensures ∙ entry_line c.entry-item.result _ _ c.step.ensures c.rendered.ensures in
    with_fault contents c.from_residual-in_err-write_all.result ConnFault.Write c.from_residual-in_err-write_all.ensures.1 _ _ _
    (texts_end contents (λ e. line_of (entry_text e)) c.args.entries.now c.loop-entry.entry-index c.entry-item.result c.loop-entry-test.true
    c.entry-item.is ConnFault.Write c.args.writer.now c.loop-entry.writer c.write_all.new.writer c.loop-entry.invariant.0 c.loop-entry.invariant.1
    (subst (WritesPart contents c.loop-entry.writer c.write_all.new.writer) line c.in_err-write_all.ensures.err, c.in_err-write_all.ensures.failed))
