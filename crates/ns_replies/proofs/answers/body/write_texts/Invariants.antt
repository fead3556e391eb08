use Rattle.std.proofs.Common.{take}
use Rattle.ns_json.specs.Part.{Adds}
use Rattle.ns_json.proofs.Parts.{added}
use Rattle.ns_replies.specs.Bodies.{text_tokens}
use Rattle.ns_replies.proofs.answers.body.write_texts.Given as goal

abbrev pub invariant-loop-text : goal.invariant-loop-text
invariant-loop-text l = Adds added l.initial.out l.out (text_tokens (take l.text-index l.texts))
