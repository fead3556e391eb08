use Rattle.std.proofs.Common.{◌∷◌, [], ◌++◌, ap, ◌∙◌}
use Rattle.ns_json.specs.Logs.{entry_json}
use Rattle.ns_replies.proofs.Written.{text_written}
use Rattle.ns_log.proofs.entry.entry_line.Goals as goal

pub returns : goal.returns
returns c =
    let text = text_written c.new-out.result _ (entry_json (c.args.step.now, c.args.rendered.now)) _ c.in_ok-write_entry.ensures c.new-out.ensures.tokens
    c.written_text-line.ensures in
    c.in_ok-push_str.ensures.bytes ∙ ap (λ t. t ++ 10 ∷ []) text
