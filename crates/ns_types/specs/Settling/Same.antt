-- Whether two rows are the same in all that replies show. The indexes of evaluations and allocations, which are given when the
-- step settles, are not compared.
use Rattle.std.specs.Prelude.{Bool, ◌&&◌}
use Rattle.std.specs.Option.{option_eq}
use Rattle.std.specs.Ordering.{bool_cmp, eq_by_cmp}
use Rattle.std.specs.Cmp.Lexicographic.{pointwise}
use Rattle.ns_types.specs.declared.allocation.Allocation.{Allocation}
use Rattle.ns_types.specs.declared.evaluation.Evaluation.{Evaluation}
use Rattle.ns_types.specs.declared.job.Constraint.{Constraint}
use Rattle.ns_types.specs.declared.job.Document.{Document}
use Rattle.ns_types.specs.declared.job.Group.{Group}
use Rattle.ns_types.specs.declared.job.Job.{Job}
use Rattle.ns_types.specs.declared.job.Task.{Task}
use Rattle.ns_types.specs.State.Names.{same_name, same_number}
use Rattle.ns_types.specs.State.Resources.{same_resources}
use Rattle.ns_types.specs.Wire.Words.{kind_text, operand_text, target_text, status_text, trigger_text, desired_text}
use Rattle.ns_types.specs.Wire.Words.{client_text}

abbrev pub same_flag : Bool → Bool → Bool
same_flag = eq_by_cmp bool_cmp

abbrev pub same_constraint : Constraint → Constraint → Bool
same_constraint a b = same_name (target_text a.target) (target_text b.target)
    && same_name (operand_text a.operand) (operand_text b.operand) && same_name a.value b.value

abbrev pub same_task : Task → Task → Bool
same_task a b = same_name a.name b.name
    && same_number a.resources.cpu b.resources.cpu && same_number a.resources.memory b.resources.memory

abbrev pub same_group : Group → Group → Bool
same_group a b = same_name a.name b.name && same_number a.count b.count && same_number a.disk b.disk
    && pointwise same_task a.tasks b.tasks

abbrev pub same_document : Document → Document → Bool
same_document a b =
    same_name (kind_text a.kind) (kind_text b.kind) && same_number a.priority b.priority && same_name a.pool b.pool
    && pointwise same_constraint a.constraints b.constraints && pointwise same_group a.groups b.groups

-- a job's status is not part of its row, so it is not compared
unfoldable pub same_job : Job → Job → Bool
same_job a b =
    same_document a.document b.document && same_flag a.stop b.stop && same_number a.version b.version
    && same_number a.create_index b.create_index && same_number a.modify_index b.modify_index

-- the count of nacks and the infeasible classes are not compared: no reply shows them
unfoldable pub same_evaluation : Evaluation → Evaluation → Bool
same_evaluation a b =
    same_name a.job b.job && same_name (kind_text a.kind) (kind_text b.kind) && same_number a.priority b.priority
    && same_name a.pool b.pool
    && same_name (trigger_text a.trigger) (trigger_text b.trigger)
    && same_name (status_text a.status) (status_text b.status)
    && option_eq same_number a.previous b.previous && option_eq same_number a.follower b.follower
    && option_eq same_name a.quota b.quota && same_flag a.escapes b.escapes

-- an allocation's place on its node is not compared: no reply shows it
unfoldable pub same_allocation : Allocation → Allocation → Bool
same_allocation a b =
    same_name a.job b.job && same_name a.group b.group && same_number a.evaluation b.evaluation
    && same_name a.pool b.pool && same_name a.node b.node && same_resources a.size b.size
    && same_number a.priority b.priority
    && same_number a.job_modify_index b.job_modify_index
    && same_name (desired_text a.desired) (desired_text b.desired)
    && same_name (client_text a.client) (client_text b.client)
