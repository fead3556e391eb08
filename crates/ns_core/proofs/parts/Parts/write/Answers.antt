use Rattle.std.specs.Prelude.{Ok}
use Rattle.std.proofs.Common.{sym, ap, ◌∙◌}
use Rattle.ns_types.specs.declared.step.Step.TheVariants as Step
use Rattle.ns_types.specs.Steps.{said}
use Rattle.ns_core.specs.Viewed.{state_of}
use Rattle.ns_core.proofs.parts.Parts.write.Goals as goal

pub make-requires : goal.make-requires
make-requires c = record { valid = c.requires.valid; index = c.requires.index }

pub returns-in-Ok-clause-made : goal.returns-in-Ok-clause-made
returns-in-Ok-clause-made c = λ secret allowed. c.in-Ok.ensures.made (Step.Ask c.args.namespace.now secret c.args.command.now) allowed
    (c.prepare-prepared.ensures secret allowed)
    ∙ ap (λ index. said (Ok (record { index = index; content = c.in-Ok.content })) (state_of c.make.new.self)) (sym c.index.ensures)

pub returns-in-Err-clause-made : goal.returns-in-Err-clause-made
returns-in-Err-clause-made c = λ secret allowed. c.in-Err.ensures.made (Step.Ask c.args.namespace.now secret c.args.command.now) allowed
    (c.prepare-prepared.ensures secret allowed)
