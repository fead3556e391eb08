use Rattle.std.proofs.Common.{take}
use Rattle.ns_json.specs.Part.{Adds}
use Rattle.ns_json.proofs.Parts.{added}
use Rattle.ns_replies.specs.Bodies.{id_tokens}
use Rattle.ns_replies.proofs.answers.body.write_ids.Given as goal

abbrev pub invariant-loop-number : goal.invariant-loop-number
invariant-loop-number l = Adds added l.initial.out l.out (id_tokens (take l.number-index l.numbers))
