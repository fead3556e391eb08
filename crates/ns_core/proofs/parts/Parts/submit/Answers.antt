use Rattle.std.proofs.Common.{refl}
use Rattle.std.proofs.lemmas.Result.{err_from_is_err_and}
use Rattle.ns_types.specs.declared.step.Step.TheVariants as Step
use Rattle.ns_core.specs.Viewed.{state_of}
use Rattle.ns_core.proofs.Working.{handed_in, has_work_there, not_handed_in, submit_prepares}
use Rattle.ns_core.proofs.parts.Parts.submit.Goals as goal

pub submit-requires : goal.submit-requires
submit-requires c = has_work_there c.args.self.now c.requires.valid c.args.worker c.args.namespace.now

pub returns-in_err-prepared-clause-made : goal.returns-in_err-prepared-clause-made
returns-in_err-prepared-clause-made c =
    let p = err_from_is_err_and c.from_residual.result c.from_residual.ensures.1 in
    rw (p.1, p.2) (not_handed_in c.args.self.now c.requires.valid c.args.worker c.args.namespace.now c.args.planned
    c.in_err-prepared.field-0.0 c.in_err-prepared.ensures)

pub returns-clause-made : goal.returns-clause-made
returns-clause-made c =
    let step = Step.Submit c.args.worker c.args.namespace.now in
    let x = c.in_ok-prepared.prepared in
    handed_in c.args.self.now c.requires.valid c.args.worker c.args.namespace.now c.args.planned x c.in_ok-prepared.ensures
    (state_of c.work_prepared.new.self) c.work_prepared.result (c.work_prepared.ensures.made step refl refl
    (submit_prepares c.args.self.now c.requires.valid c.args.worker c.args.namespace.now c.args.planned x c.in_ok-prepared.ensures))
