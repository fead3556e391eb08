-- The answer of a step.
use Rattle.std.specs.Prelude.{Result, Ok, Err}
use Rattle.ns_types.specs.declared.refusal.Refusal.{Refusal}
use Rattle.ns_types.specs.declared.reply.Content.{Content}
use Rattle.ns_types.specs.declared.step.Step.{Step}
use Rattle.ns_types.specs.State.Rows.{World}
use Rattle.ns_types.specs.Steps.{Answer, reply_of}

-- the answer that the step's own change gives, with the index in the world that it leaves
abbrev pub answer_of : Step → World → Result Content Refusal → Answer
answer_of step w (Ok content) = Ok (reply_of step content w)
answer_of step w (Err refusal) = Err refusal
