use Rattle.std.proofs.Common.{take, ◌∷◌}
use Rattle.std.specs.List.{flat_map}
use Rattle.serde_json.specs.Written.{compact_text}
use Rattle.ns_json.specs.JobText.{Continues}
use Rattle.ns_json.specs.Rendering.{task_json}
use Rattle.ns_json.proofs.job_text.push_more_tasks.Given as goal

abbrev pub invariant-loop-task : goal.invariant-loop-task
invariant-loop-task l = Continues l.initial.out l.out
    (flat_map (λ x. 44 ∷ compact_text (task_json x)) (take l.task-index l.tasks))
