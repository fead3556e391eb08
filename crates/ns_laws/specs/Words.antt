-- Laws of words: the texts that stand for statuses, kinds, targets and members, in documents and in replies.
use Rattle.std.specs.Prelude.{◌≡◌, ◌↔◌, true, false, List, ℕ, codes}
use Rattle.ns_types.specs.declared.acl.TokenKind.{TokenKind}
use Rattle.ns_types.specs.declared.allocation.ClientStatus.{ClientStatus}
use Rattle.ns_types.specs.declared.allocation.DesiredStatus.{DesiredStatus}
use Rattle.ns_types.specs.declared.evaluation.Status.{Status}
use Rattle.ns_types.specs.declared.evaluation.Trigger.{Trigger}
use Rattle.ns_types.specs.declared.job.JobKind.{JobKind}
use Rattle.ns_types.specs.declared.job.Operand.{Operand}
use Rattle.ns_types.specs.declared.job.Target.{Target}
use Rattle.ns_types.specs.declared.node.NodeStatus.{NodeStatus}
use Rattle.ns_types.specs.declared.refusal.Member.{Member}
use Rattle.ns_types.specs.declared.reply.JobStatus.{JobStatus}
use Rattle.ns_types.specs.Wire.Member.{member_name}
use Rattle.ns_types.specs.Wire.Words.{client_text, desired_text, eligibility_text, job_status_text, kind_text}
use Rattle.ns_types.specs.Wire.Words.{node_status_text, operand_text, status_text, target_text, token_kind_text}
use Rattle.ns_types.specs.Wire.Words.{trigger_text}

-- the text is that word exactly where the value is x
abbrev pub Means : {X : Type 0} → (X → List ℕ) → List ℕ → X → Type 0
Means {X} text word x = (y : X) → (text y ≡ word) ↔ (y ≡ x)

-- A job is shown `service` exactly if it is a service job, and `batch` exactly if it is a batch job. It is shown
-- `dead`, `running` or `pending` exactly if that is its status.
pub record JobWords : Type 0 where
  pub service : Means kind_text (codes "service") JobKind.Service
  pub batch : Means kind_text (codes "batch") JobKind.Batch
  pub dead : Means job_status_text (codes "dead") JobStatus.Dead
  pub running : Means job_status_text (codes "running") JobStatus.Running
  pub pending : Means job_status_text (codes "pending") JobStatus.Pending

-- An evaluation is shown `pending`, `blocked`, `complete`, `failed` or `canceled` exactly if that is its status.
pub record EvaluationWords : Type 0 where
  pub pending : Means status_text (codes "pending") Status.Pending
  pub blocked : Means status_text (codes "blocked") Status.Blocked
  pub complete : Means status_text (codes "complete") Status.Complete
  pub failed : Means status_text (codes "failed") Status.Failed
  pub canceled : Means status_text (codes "canceled") Status.Canceled

-- The word for what made an evaluation is shown exactly for that.
pub record TriggerWords : Type 0 where
  pub registered : Means trigger_text (codes "job-register") Trigger.JobRegister
  pub deregistered : Means trigger_text (codes "job-deregister") Trigger.JobDeregister
  pub node : Means trigger_text (codes "node-update") Trigger.NodeUpdate
  pub stopped : Means trigger_text (codes "alloc-stop") Trigger.AllocStop
  pub failed : Means trigger_text (codes "alloc-failure") Trigger.AllocFailure
  pub preempted : Means trigger_text (codes "preemption") Trigger.Preemption
  pub queued : Means trigger_text (codes "queued-allocs") Trigger.QueuedAllocs
  pub attempts : Means trigger_text (codes "max-plan-attempts") Trigger.MaxPlanAttempts

-- An allocation is shown `run`, `stop` or `evict` exactly if that is its desired status, and `pending`, `running`,
-- `complete`, `failed` or `lost` exactly if that is its client status.
pub record AllocationWords : Type 0 where
  pub run : Means desired_text (codes "run") DesiredStatus.Run
  pub stop : Means desired_text (codes "stop") DesiredStatus.Stop
  pub evict : Means desired_text (codes "evict") DesiredStatus.Evict
  pub pending : Means client_text (codes "pending") ClientStatus.Pending
  pub running : Means client_text (codes "running") ClientStatus.Running
  pub complete : Means client_text (codes "complete") ClientStatus.Complete
  pub failed : Means client_text (codes "failed") ClientStatus.Failed
  pub lost : Means client_text (codes "lost") ClientStatus.Lost

-- A node is `ready` or `down`, and `eligible` or `ineligible`, exactly as it is shown; a token is a `client` token or a
-- `management` token.
pub record NodeWords : Type 0 where
  pub ready : Means node_status_text (codes "ready") NodeStatus.Ready
  pub down : Means node_status_text (codes "down") NodeStatus.Down
  pub eligible : Means eligibility_text (codes "eligible") true
  pub ineligible : Means eligibility_text (codes "ineligible") false
  pub client : Means token_kind_text (codes "client") TokenKind.Client
  pub management : Means token_kind_text (codes "management") TokenKind.Management

-- `=` demands the value and `!=` forbids it. `${node.class}` is the class of a node, `${node.unique.name}` its name, and
-- `${attr.os}` its attribute `os`.
pub record ConstraintWords : Type 0 where
  pub equal : Means operand_text (codes "=") Operand.Equal
  pub not_equal : Means operand_text (codes "!=") Operand.NotEqual
  pub class : Means target_text (codes "${node.class}") Target.NodeClass
  pub name : Means target_text (codes "${node.unique.name}") Target.NodeName
  pub attribute : Means target_text (codes "${attr.os}") (Target.Attribute (codes "os"))

-- No two members have the same name. So a refusal of a field names one member.
abbrev pub MembersDiffer : Type 0
MembersDiffer = (a b : Member) → member_name a ≡ member_name b → a ≡ b
