use Rattle.std.proofs.Common.{not, ap, ◌∙◌}
use Rattle.ns_replies.proofs.Reading.{reads_or_changes}
use Rattle.ns_api.specs.Answering.{IsWanting}
use Rattle.ns_api.specs.Cores.{NotesNothing, itself}
use Rattle.ns_api.specs.Lacking.{LacksNothing}
use Rattle.ns_api.proofs.Answered.{answers_read, shows}
use Rattle.ns_api.proofs.Taken.{core_rests, core_takes}
use Rattle.ns_api.proofs.responding.read.Goals as goal

pub shown-response-requires : goal.shown-response-requires
shown-response-requires c =
    shows itself NotesNothing (IsWanting LacksNothing) c.args.step c.args.core.now c.take-answer.new.self c.take-answer.result
    c.requires.served (reads_or_changes c.args.step c.requires.served ∙ ap not c.requires.reads)
    (core_takes itself c.args.step c.args.core.now c.take-answer.new.self c.take-answer.result c.requires.served (λ same. same) c.take-answer.ensures)

pub returns : goal.returns
returns c =
    let reading = reads_or_changes c.args.step c.requires.served ∙ ap not c.requires.reads in
    answers_read itself NotesNothing LacksNothing c.args.step c.args.core.now c.take-answer.new.self c.take-answer.result _
    (core_takes itself c.args.step c.args.core.now c.take-answer.new.self c.take-answer.result c.requires.served (λ same. same) c.take-answer.ensures)
    (core_rests itself c.args.step c.args.core.now c.take-answer.new.self c.take-answer.result c.requires.served reading (λ same. same) c.take-answer.ensures)
    c.shown-response.ensures
