-- Rows that are compared in two parts.
use Rattle.std.specs.Prelude.{◌≡◌, Bool, true, false, ◌&&◌}
use Rattle.std.proofs.Common.{refl}
use Rattle.std.specs.Option.{option_eq}
use Rattle.ns_types.specs.declared.allocation.Allocation.{Allocation}
use Rattle.ns_types.specs.declared.evaluation.Evaluation.{Evaluation}
use Rattle.ns_types.specs.State.Names.{same_name, same_number}
use Rattle.ns_types.specs.State.Resources.{same_resources}
use Rattle.ns_types.specs.Settling.Same.{same_allocation, same_evaluation, same_flag}
use Rattle.ns_types.specs.Wire.Words.{client_text, desired_text, kind_text, status_text, trigger_text}

pub regrouped : (p a b c d e : Bool) → (p && (a && b && c && d && e)) ≡ (p && a && b && c && d && e)
regrouped true a b c d e = refl
regrouped false a b c d e = refl

-- what is shown of an evaluation, in two parts
pub shown_alike : (a b : Evaluation) → ((same_name a.job b.job && same_name (kind_text a.kind) (kind_text b.kind) && same_number a.priority b.priority
    && same_name a.pool b.pool && same_name (trigger_text a.trigger) (trigger_text b.trigger))
    && (same_name (status_text a.status) (status_text b.status) && option_eq same_number a.previous b.previous && option_eq same_number a.follower b.follower
    && option_eq same_name a.quota b.quota && same_flag a.escapes b.escapes)) ≡ same_evaluation a b
unfolding same_evaluation
shown_alike a b = regrouped (same_name a.job b.job && same_name (kind_text a.kind) (kind_text b.kind) && same_number a.priority b.priority
    && same_name a.pool b.pool && same_name (trigger_text a.trigger) (trigger_text b.trigger))
    (same_name (status_text a.status) (status_text b.status)) (option_eq same_number a.previous b.previous) (option_eq same_number a.follower b.follower)
    (option_eq same_name a.quota b.quota) (same_flag a.escapes b.escapes)

-- what is shown of an allocation, in two parts
pub placed_alike : (a b : Allocation) → ((same_name a.job b.job && same_name a.group b.group && same_number a.evaluation b.evaluation && same_name a.pool b.pool
    && same_name a.node b.node)
    && (same_resources a.size b.size && same_number a.priority b.priority && same_number a.job_modify_index b.job_modify_index
    && same_name (desired_text a.desired) (desired_text b.desired) && same_name (client_text a.client) (client_text b.client))) ≡ same_allocation a b
unfolding same_allocation
placed_alike a b = regrouped (same_name a.job b.job && same_name a.group b.group && same_number a.evaluation b.evaluation && same_name a.pool b.pool
    && same_name a.node b.node)
    (same_resources a.size b.size) (same_number a.priority b.priority) (same_number a.job_modify_index b.job_modify_index)
    (same_name (desired_text a.desired) (desired_text b.desired)) (same_name (client_text a.client) (client_text b.client))
