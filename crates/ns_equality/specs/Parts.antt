-- Whether replies show the same of two rows, part by part.
use Rattle.std.specs.Prelude.{Bool, ◌&&◌}
use Rattle.std.specs.Option.{option_eq}
use Rattle.ns_types.specs.declared.allocation.Allocation.{Allocation}
use Rattle.ns_types.specs.declared.evaluation.Evaluation.{Evaluation}
use Rattle.ns_types.specs.State.Names.{same_name, same_number}
use Rattle.ns_types.specs.State.Resources.{same_resources}
use Rattle.ns_types.specs.Settling.Same.{same_flag}
use Rattle.ns_types.specs.Wire.Words.{client_text, desired_text, kind_text, status_text, trigger_text}

-- the evaluations were made for the same job, type, priority, pool and trigger
abbrev pub same_cause : Evaluation → Evaluation → Bool
same_cause a b = same_name a.job b.job && same_name (kind_text a.kind) (kind_text b.kind)
    && same_number a.priority b.priority && same_name a.pool b.pool
    && same_name (trigger_text a.trigger) (trigger_text b.trigger)

-- the same became of the evaluations
abbrev pub same_course : Evaluation → Evaluation → Bool
same_course a b = same_name (status_text a.status) (status_text b.status) && option_eq same_number a.previous b.previous
    && option_eq same_number a.follower b.follower && option_eq same_name a.quota b.quota
    && same_flag a.escapes b.escapes

-- the allocations are of the same job, group and evaluation, and on the same node
abbrev pub same_place : Allocation → Allocation → Bool
same_place a b = same_name a.job b.job && same_name a.group b.group && same_number a.evaluation b.evaluation
    && same_name a.pool b.pool && same_name a.node b.node

-- the allocations take the same, and the same became of them
abbrev pub same_fate : Allocation → Allocation → Bool
same_fate a b = same_resources a.size b.size && same_number a.priority b.priority
    && same_number a.job_modify_index b.job_modify_index
    && same_name (desired_text a.desired) (desired_text b.desired)
    && same_name (client_text a.client) (client_text b.client)
