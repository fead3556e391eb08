use Rattle.ns_json.specs.Rendering.{usage_json}
use Rattle.ns_replies.proofs.Written.{text_written}
use Rattle.ns_replies.proofs.records.usage_text.Goals as goal

pub returns : goal.returns
returns c = text_written c.new-out.result _ (usage_json c.args.name.now c.args.used.now)
    _ c.in_ok-write_usage.ensures c.new-out.ensures.tokens c.written_text.ensures
