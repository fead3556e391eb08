use Rattle.std.proofs.Common.{◌≡◌, take}
use Rattle.std.specs.Prelude.{string_bytes}
use Rattle.std.specs.List.{flat_map}
use Rattle.ns_json.specs.Replies.{event_line}
use Rattle.ns_replies.proofs.events.events_text.Given as goal

abbrev pub invariant-loop-event : goal.invariant-loop-event
invariant-loop-event l = string_bytes l.lines ≡ flat_map (event_line l.namespace) (take l.event-index l.event-items)
