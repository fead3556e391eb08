-- Each row is the same as itself.
use Rattle.std.specs.Prelude.{◌≡◌, Bool, true, false, List, [], ◌∷◌, Option, Some, None}
use Rattle.std.proofs.Common.{refl, is_eq, ◌∙◌}
use Rattle.std.specs.Option.{option_eq}
use Rattle.std.specs.Cmp.Lexicographic.{pointwise}
use Rattle.std.specs.Ordering.{eq_by_cmp, ordering_then}
use Rattle.std.specs.Cmp.{tied_itself}
use Rattle.std.specs.Cmp.Derive.{both_true}
use Rattle.ns_types.specs.declared.allocation.Allocation.{Allocation}
use Rattle.ns_types.specs.declared.evaluation.Evaluation.{Evaluation}
use Rattle.ns_types.specs.declared.job.Constraint.{Constraint}
use Rattle.ns_types.specs.declared.job.Document.{Document}
use Rattle.ns_types.specs.declared.job.Group.{Group}
use Rattle.ns_types.specs.declared.job.Job.{Job}
use Rattle.ns_types.specs.declared.job.Task.{Task}
use Rattle.ns_types.specs.declared.node.Attribute.{Attribute}
use Rattle.ns_types.specs.declared.node.Offer.{Offer}
use Rattle.ns_types.specs.declared.resources.Limit.{Limit}
use Rattle.ns_types.specs.declared.resources.Limit.TheVariants.{Unlimited, AtMost, Nothing}
use Rattle.ns_types.specs.declared.resources.Limits.{Limits}
use Rattle.ns_types.specs.declared.resources.Resources.{Resources}
use Rattle.ns_types.specs.State.Names.{attribute_cmp, name_cmp, same_name, same_number}
use Rattle.ns_types.specs.Settling.Releases.{same_offer}
use Rattle.ns_types.specs.State.Resources.{limit_on, quantity, same_resources, same_limit, same_limits}
use Rattle.ns_types.specs.Settling.Same.{same_flag, same_constraint, same_task, same_group, same_document, same_job, same_evaluation, same_allocation}
use Rattle.ns_types.specs.Wire.Words.{kind_text, operand_text, target_text, status_text, trigger_text, desired_text, client_text}
use Rattle.ns_types.proofs.Amounts.{every_true}
use Rattle.ns_types.proofs.Named.{names, same_name_refl, same_number_refl}

-- ---- tests of lists and of what may be absent

pub pointwise_refl : {A : Type 0} (same : A → A → Bool) → ((x : A) → same x x ≡ true) → (xs : List A) → pointwise same xs xs ≡ true
pointwise_refl same itself [] = refl
pointwise_refl same itself (x ∷ xs) = both_true (itself x) (pointwise_refl same itself xs)

pub option_eq_refl : {A : Type 0} (same : A → A → Bool) → ((x : A) → same x x ≡ true) → (o : Option A) → option_eq same o o ≡ true
option_eq_refl same itself None = refl
option_eq_refl same itself (Some x) = itself x

pub same_flag_refl : (b : Bool) → same_flag b b ≡ true
same_flag_refl true = refl
same_flag_refl false = refl

-- ---- parts of rows

pub same_resources_refl : (a : Resources) → same_resources a a ≡ true
same_resources_refl a = every_true (λ r. same_number (quantity r a) (quantity r a)) (λ r. same_number_refl (quantity r a))

pub same_constraint_refl : (c : Constraint) → same_constraint c c ≡ true
same_constraint_refl c = both_true (both_true (same_name_refl (target_text c.target)) (same_name_refl (operand_text c.operand))) (same_name_refl c.value)

pub same_task_refl : (t : Task) → same_task t t ≡ true
same_task_refl t = both_true (both_true (same_name_refl t.name) (same_number_refl t.resources.cpu)) (same_number_refl t.resources.memory)

pub same_group_refl : (g : Group) → same_group g g ≡ true
same_group_refl g = both_true (both_true (both_true (same_name_refl g.name) (same_number_refl g.count)) (same_number_refl g.disk))
    (pointwise_refl same_task same_task_refl g.tasks)

pub same_document_refl : (d : Document) → same_document d d ≡ true
same_document_refl d = both_true (both_true (both_true (both_true (same_name_refl (kind_text d.kind)) (same_number_refl d.priority)) (same_name_refl d.pool))
    (pointwise_refl same_constraint same_constraint_refl d.constraints)) (pointwise_refl same_group same_group_refl d.groups)

-- ---- rows

pub same_job_refl : (j : Job) → same_job j j ≡ true
unfolding same_job
same_job_refl j = both_true (both_true (both_true (both_true (same_document_refl j.document) (same_flag_refl j.stop)) (same_number_refl j.version))
    (same_number_refl j.create_index)) (same_number_refl j.modify_index)

pub same_evaluation_refl : (e : Evaluation) → same_evaluation e e ≡ true
unfolding same_evaluation
same_evaluation_refl e = both_true (both_true (both_true (both_true (both_true (both_true (both_true (both_true (both_true
    (same_name_refl e.job) (same_name_refl (kind_text e.kind))) (same_number_refl e.priority)) (same_name_refl e.pool))
    (same_name_refl (trigger_text e.trigger))) (same_name_refl (status_text e.status)))
    (option_eq_refl same_number same_number_refl e.previous)) (option_eq_refl same_number same_number_refl e.follower))
    (option_eq_refl same_name same_name_refl e.quota)) (same_flag_refl e.escapes)

pub same_allocation_refl : (a : Allocation) → same_allocation a a ≡ true
unfolding same_allocation
same_allocation_refl a = both_true (both_true (both_true (both_true (both_true (both_true (both_true (both_true (both_true
    (same_name_refl a.job) (same_name_refl a.group)) (same_number_refl a.evaluation)) (same_name_refl a.pool)) (same_name_refl a.node))
    (same_resources_refl a.size)) (same_number_refl a.priority)) (same_number_refl a.job_modify_index))
    (same_name_refl (desired_text a.desired))) (same_name_refl (client_text a.client))

-- ---- what nodes offer and quotas allow

pub same_attribute_refl : (a : Attribute) → eq_by_cmp attribute_cmp a a ≡ true
same_attribute_refl a = (λ i. is_eq (ordering_then (tied_itself names a.key i) (name_cmp a.value a.value))) ∙ same_name_refl a.value

pub same_offer_refl : (o : Offer) → same_offer o o ≡ true
same_offer_refl o = both_true (both_true (same_name_refl o.class) (pointwise_refl (eq_by_cmp attribute_cmp) same_attribute_refl o.attributes))
    (same_resources_refl o.capacity)

pub same_limit_refl : (l : Limit) → same_limit l l ≡ true
same_limit_refl Unlimited = refl
same_limit_refl (AtMost n) = same_number_refl n
same_limit_refl Nothing = refl

pub same_limits_refl : (l : Limits) → same_limits l l ≡ true
same_limits_refl l = every_true (λ r. same_limit (limit_on r l) (limit_on r l)) (λ r. same_limit_refl (limit_on r l))
