use Rattle.std.proofs.Common.{◌≡◌, ◌+◌, length, take}
use Rattle.json.specs.Print.{escape}
use Rattle.ns_replies.proofs.answers.sizes.text_bytes.Given as goal

abbrev pub invariant-loop-byte : goal.invariant-loop-byte
invariant-loop-byte l = l.bytes ≡ length (escape (take l.byte-index l.byte-items)) + 3
