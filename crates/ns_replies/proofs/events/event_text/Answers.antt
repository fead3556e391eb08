use Rattle.ns_replies.specs.Events.{shown_json}
use Rattle.ns_replies.proofs.Written.{text_written}
use Rattle.ns_replies.proofs.events.event_text.Goals as goal

pub returns : goal.returns
returns c = text_written c.new-out.result _ (shown_json c.args.namespace.now c.args.event.now)
    _ c.in_ok-write_event.ensures c.new-out.ensures.tokens c.written_text.ensures
