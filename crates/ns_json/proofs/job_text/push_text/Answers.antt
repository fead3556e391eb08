use Rattle.std.proofs.Common.{sym, ◌∙◌}
use Rattle.ns_json.proofs.JobTexts.{escape_plain}
use Rattle.ns_json.proofs.job_text.push_text.Goals as goal

pub returns-then-is_plain : goal.returns-then-is_plain
returns-then-is_plain c =
    let plain = escape_plain c.args.text.now (sym c.is_plain.ensures ∙ c.if-is_plain.true) in
    rw plain c.push.ensures
