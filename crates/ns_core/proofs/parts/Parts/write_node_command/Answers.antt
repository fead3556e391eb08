use Rattle.std.specs.Prelude.{Ok}
use Rattle.std.proofs.Common.{sym, ap, ◌∙◌}
use Rattle.std.proofs.lemmas.Result.{err_from_is_err_and}
use Rattle.ns_types.specs.declared.step.Step.TheVariants as Step
use Rattle.ns_types.specs.Steps.{said}
use Rattle.ns_core.specs.Viewed.{state_of}
use Rattle.ns_core.proofs.parts.Parts.write_node_command.Goals as goal

pub make-requires : goal.make-requires
make-requires c = record { valid = c.requires.valid; index = c.requires.index }

pub returns-clause-made : goal.returns-clause-made
returns-clause-made c = λ secret allowed. c.in_ok-content.ensures.made (Step.Node c.args.pool.now secret c.args.command.now) allowed
    (c.prepare_node_command-prepared.ensures secret allowed)
    ∙ ap (λ reply. said (Ok reply) (state_of c.make.new.self)) (sym c.plain.ensures)

pub returns-in_err-content-clause-made : goal.returns-in_err-content-clause-made
returns-in_err-content-clause-made c = λ secret allowed.
    let p = err_from_is_err_and c.from_residual.result c.from_residual.ensures.1 in
    rw (p.1, p.2) (c.in_err-content.ensures.made (Step.Node c.args.pool.now secret c.args.command.now) allowed
    (c.prepare_node_command-prepared.ensures secret allowed))
