use Rattle.std.proofs.Common.{take, ◌∷◌}
use Rattle.std.specs.List.{flat_map}
use Rattle.serde_json.specs.Written.{compact_text}
use Rattle.ns_json.specs.JobText.{Continues}
use Rattle.ns_json.specs.Rendering.{constraint_json}
use Rattle.ns_json.proofs.job_text.push_more_constraints.Given as goal

abbrev pub invariant-loop-constraint : goal.invariant-loop-constraint
invariant-loop-constraint l = Continues l.initial.out l.out
    (flat_map (λ x. 44 ∷ compact_text (constraint_json x)) (take l.constraint-index l.constraints))
