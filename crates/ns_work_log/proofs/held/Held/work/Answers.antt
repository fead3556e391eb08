use Rattle.std.proofs.Common.{ap, ◌∙◌}
use Rattle.ns_steps.specs.declared.work.Work.{Work}
use Rattle.ns_steps.specs.Works.{step_of}
use Rattle.ns_work_log.proofs.held.Held.work.Goals as goal

pub work_as-requires : goal.work_as-requires
work_as-requires c = c.in-Ok.ensures.made ∙ ap (λ (kind : Work). step_of kind c.args.worker c.args.namespace.now) c.kind.ensures
