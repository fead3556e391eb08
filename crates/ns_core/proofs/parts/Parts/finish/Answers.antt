use Rattle.std.proofs.Common.{refl}
use Rattle.std.proofs.lemmas.Result.{err_from_is_err_and}
use Rattle.ns_types.specs.declared.step.Step.TheVariants as Step
use Rattle.ns_core.specs.Viewed.{state_of}
use Rattle.ns_core.proofs.Working.{finish_prepares, finished_by, has_pending_work_there, has_work_there, not_finished}
use Rattle.ns_core.proofs.parts.Parts.finish.Goals as goal

pub finish-requires-clause-work : goal.finish-requires-clause-work
finish-requires-clause-work c = has_work_there c.args.self.now c.requires.valid c.args.worker c.args.namespace.now

pub finish-requires-clause-pending : goal.finish-requires-clause-pending
finish-requires-clause-pending c = has_pending_work_there c.args.self.now c.requires.valid c.args.worker c.args.namespace.now

pub returns-in_err-prepared-clause-made : goal.returns-in_err-prepared-clause-made
returns-in_err-prepared-clause-made c =
    let p = err_from_is_err_and c.from_residual.result c.from_residual.ensures.1 in
    rw (p.1, p.2) (not_finished c.args.self.now c.requires.valid c.args.worker c.args.namespace.now c.args.planned.now
    c.in_err-prepared.field-0.0 c.in_err-prepared.ensures)

pub returns-clause-made : goal.returns-clause-made
returns-clause-made c =
    let step = Step.Finish c.args.worker c.args.namespace.now in
    let x = c.in_ok-prepared.prepared in
    finished_by c.args.self.now c.requires.valid c.args.worker c.args.namespace.now c.args.planned.now x c.in_ok-prepared.ensures
    (state_of c.work_prepared.new.self) c.work_prepared.result (c.work_prepared.ensures.made step refl refl
    (finish_prepares c.args.self.now c.requires.valid c.args.worker c.args.namespace.now c.args.planned.now x c.in_ok-prepared.ensures))
