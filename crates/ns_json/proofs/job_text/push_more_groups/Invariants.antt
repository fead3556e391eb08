use Rattle.std.proofs.Common.{take, ◌∷◌}
use Rattle.std.specs.List.{flat_map}
use Rattle.serde_json.specs.Written.{compact_text}
use Rattle.ns_json.specs.JobText.{Continues}
use Rattle.ns_json.specs.Rendering.{group_json}
use Rattle.ns_json.proofs.job_text.push_more_groups.Given as goal

abbrev pub invariant-loop-group : goal.invariant-loop-group
invariant-loop-group l = Continues l.initial.out l.out
    (flat_map (λ x. 44 ∷ compact_text (group_json x)) (take l.group-index l.groups))
