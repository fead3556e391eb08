-- The words that replies and documents have for statuses, types and targets.
use Rattle.std.specs.Prelude.{◌++◌, codes, Bool, true, false}
use Rattle.ns_types.specs.declared.job.JobKind.{JobKind}
use Rattle.ns_types.specs.declared.job.Operand.{Operand}
use Rattle.ns_types.specs.declared.job.Target.{Target}
use Rattle.ns_types.specs.declared.node.NodeStatus.{NodeStatus}
use Rattle.ns_types.specs.declared.evaluation.Status.{Status}
use Rattle.ns_types.specs.declared.evaluation.Trigger.{Trigger}
use Rattle.ns_types.specs.declared.allocation.DesiredStatus.{DesiredStatus}
use Rattle.ns_types.specs.declared.allocation.ClientStatus.{ClientStatus}
use Rattle.ns_types.specs.declared.acl.TokenKind.{TokenKind}
use Rattle.ns_types.specs.declared.reply.JobStatus.{JobStatus}
use Rattle.ns_types.specs.State.Names.{Name}

abbrev pub kind_text : JobKind → Name
kind_text JobKind.Service = codes "service"
kind_text JobKind.Batch = codes "batch"

abbrev pub operand_text : Operand → Name
operand_text Operand.Equal = codes "="
operand_text Operand.NotEqual = codes "!="

abbrev pub target_text : Target → Name
target_text Target.NodeClass = codes "${node.class}"
target_text Target.NodeName = codes "${node.unique.name}"
target_text (Target.Attribute key) = codes "${attr." ++ key ++ codes "}"

abbrev pub node_status_text : NodeStatus → Name
node_status_text NodeStatus.Ready = codes "ready"
node_status_text NodeStatus.Down = codes "down"

abbrev pub eligibility_text : Bool → Name
eligibility_text true = codes "eligible"
eligibility_text false = codes "ineligible"

abbrev pub status_text : Status → Name
status_text Status.Pending = codes "pending"
status_text Status.Blocked = codes "blocked"
status_text Status.Complete = codes "complete"
status_text Status.Failed = codes "failed"
status_text Status.Canceled = codes "canceled"

abbrev pub trigger_text : Trigger → Name
trigger_text Trigger.JobRegister = codes "job-register"
trigger_text Trigger.JobDeregister = codes "job-deregister"
trigger_text Trigger.NodeUpdate = codes "node-update"
trigger_text Trigger.AllocStop = codes "alloc-stop"
trigger_text Trigger.AllocFailure = codes "alloc-failure"
trigger_text Trigger.Preemption = codes "preemption"
trigger_text Trigger.QueuedAllocs = codes "queued-allocs"
trigger_text Trigger.MaxPlanAttempts = codes "max-plan-attempts"

abbrev pub desired_text : DesiredStatus → Name
desired_text DesiredStatus.Run = codes "run"
desired_text DesiredStatus.Stop = codes "stop"
desired_text DesiredStatus.Evict = codes "evict"

abbrev pub client_text : ClientStatus → Name
client_text ClientStatus.Pending = codes "pending"
client_text ClientStatus.Running = codes "running"
client_text ClientStatus.Complete = codes "complete"
client_text ClientStatus.Failed = codes "failed"
client_text ClientStatus.Lost = codes "lost"

abbrev pub token_kind_text : TokenKind → Name
token_kind_text TokenKind.Client = codes "client"
token_kind_text TokenKind.Management = codes "management"

abbrev pub job_status_text : JobStatus → Name
job_status_text JobStatus.Dead = codes "dead"
job_status_text JobStatus.Running = codes "running"
job_status_text JobStatus.Pending = codes "pending"
