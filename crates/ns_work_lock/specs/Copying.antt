-- The answer of a worker's step, which is copied from its entry.
use Rattle.std.specs.Prelude.{◌≤◌, Bool, true, false, IsSomeAnd, length}
use Rattle.ns_types.specs.declared.reply.Content.{Content}
use Rattle.ns_types.specs.declared.reply.Rendered.{Rendered}
use Rattle.ns_json.specs.Replies.{Entry, body_of}
use Rattle.ns_replies.specs.Bodies.{body_bytes}

-- the answer as bytes that an entry holds
abbrev pub entry_answer : Entry → Rendered
entry_answer entry = entry.1

-- the content answers a worker's step
abbrev pub is_work : Content → Bool
is_work (Content.Took n) = true
is_work (Content.Snapped n) = true
is_work (Content.Queued n) = true
is_work (Content.Applied made dropped) = true
is_work (Content.Finished status follower) = true
is_work (Content.Nacked status) = true
is_work _ = false

-- the body of the content has no more bytes than are taken for it
abbrev pub FitsItsBytes : Content → Type 0
FitsItsBytes content = IsSomeAnd (body_bytes content) (λ bytes. length (body_of content) ≤ bytes)
