use Rattle.std.proofs.Common.{◌≡◌, [], ◌∷◌, ◌++◌, rules}
use Rattle.std.specs.Prelude.{string_bytes}
use Rattle.ns_replies.proofs.Lines.{lines_more}
use Rattle.ns_replies.proofs.events.events_text.Goals as goal

pub loop-event-preserved : goal.loop-event-preserved
loop-event-preserved c =
    let added : string_bytes c.push_str-in-loop-event.new.self ≡ (string_bytes c.loop-event.lines ++ string_bytes c.in_ok-text.text) ++ 10 ∷ [] =
    search rules in
    lines_more c.args.namespace.now _ c.loop-event.event-index c.event-item.result _ _ _ c.loop-event-test.true c.event-item.is
    c.loop-event.invariant c.in_ok-text.ensures added
