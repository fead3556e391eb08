use Rattle.std.proofs.Common.{not, ap, ◌∙◌}
use Rattle.ns_replies.proofs.Reading.{reads_or_changes}
use Rattle.ns_api.specs.Answering.{IsWanting}
use Rattle.ns_api.specs.Cores.{NotesNothing, itself}
use Rattle.ns_api.specs.Lacking.{LacksNothing}
use Rattle.ns_api.proofs.Answered.{answers_write, fits, wants_memory}
use Rattle.ns_api.proofs.Taken.{core_takes}
use Rattle.ns_api.proofs.responding.write.Goals as goal

pub shown_in-response-requires : goal.shown_in-response-requires
shown_in-response-requires c =
    fits itself NotesNothing (IsWanting LacksNothing) c.args.step c.args.core.now c.take-answer.new.self c.take-answer.result
    c.in-Ok.room c.in-Ok.ensures c.requires.served (reads_or_changes c.args.step c.requires.served ∙ ap not c.requires.writes)
    (core_takes itself c.args.step c.args.core.now c.take-answer.new.self c.take-answer.result c.requires.served (λ same. same) c.take-answer.ensures)

pub returns : goal.returns
returns c =
    answers_write itself NotesNothing LacksNothing c.args.step c.args.core.now c.take-answer.new.self c.take-answer.result _
    (core_takes itself c.args.step c.args.core.now c.take-answer.new.self c.take-answer.result c.requires.served (λ same. same) c.take-answer.ensures)
    c.shown_in-response.ensures

pub returns-in_default : goal.returns-in_default
returns-in_default c = wants_memory itself NotesNothing LacksNothing c.args.step c.args.core.now
