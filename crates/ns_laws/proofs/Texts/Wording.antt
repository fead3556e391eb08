-- Which values texts stand for: each word is found among those of all values.
use Rattle.std.specs.Prelude.{◌≡◌, ℕ, Bool, true, false, List, [], ◌∷◌, bytes_eq, codes, drop, find, slice_index, unwrap_or}
use Rattle.std.proofs.Common.{refl, sym, ap, ◌∙◌, arith}
use Rattle.std.proofs.lemmas.List.{append_cancel_right}
use Rattle.ns_types.specs.declared.acl.TokenKind.{TokenKind}
use Rattle.ns_types.specs.declared.allocation.ClientStatus.{ClientStatus}
use Rattle.ns_types.specs.declared.allocation.DesiredStatus.{DesiredStatus}
use Rattle.ns_types.specs.declared.evaluation.Status.{Status}
use Rattle.ns_types.specs.declared.evaluation.Trigger.{Trigger}
use Rattle.ns_types.specs.declared.job.JobKind.{JobKind}
use Rattle.ns_types.specs.declared.job.Operand.{Operand}
use Rattle.ns_types.specs.declared.job.Target.{Target}
use Rattle.ns_types.specs.declared.node.NodeStatus.{NodeStatus}
use Rattle.ns_types.specs.declared.refusal.Member.{Member}
use Rattle.ns_types.specs.declared.reply.JobStatus.{JobStatus}
use Rattle.ns_types.specs.State.Names.{Name}
use Rattle.ns_types.specs.Wire.Member.{member_name}
use Rattle.ns_types.specs.Wire.Words.{client_text, desired_text, eligibility_text, job_status_text, kind_text}
use Rattle.ns_types.specs.Wire.Words.{node_status_text, operand_text, status_text, target_text, token_kind_text}
use Rattle.ns_types.specs.Wire.Words.{trigger_text}
use Rattle.ns_laws.specs.Words as law
use Rattle.ns_laws.specs.Words.{Means}

module _ {X : Type 0} (text : X → Name) where
  -- the first value with that text, or else x
  abbrev named : List X → X → Name → X
  named values x word = unwrap_or (find (λ y. bytes_eq (text y) word) values) x

  apart : (values : List X) (x : X) → ((y : X) → named values x (text y) ≡ y) → (y z : X) → text y ≡ text z → y ≡ z
  apart values x back y z e = sym (back y) ∙ ap (named values x) e ∙ back z

  means : ((y z : X) → text y ≡ text z → y ≡ z) → (x : X) → Means text (text x) x
  means differ x y = (differ y x, ap text)

-- ---- jobs, evaluations, allocations, nodes and tokens

kinds_differ : (a b : JobKind) → kind_text a ≡ kind_text b → a ≡ b
kinds_differ = apart kind_text (JobKind.Service ∷ JobKind.Batch ∷ []) JobKind.Service back
  where
    back : (a : JobKind) → named kind_text (JobKind.Service ∷ JobKind.Batch ∷ []) JobKind.Service (kind_text a) ≡ a
    back JobKind.Service = refl
    back JobKind.Batch = refl

abbrev job_statuses : List JobStatus
job_statuses = JobStatus.Dead ∷ JobStatus.Running ∷ JobStatus.Pending ∷ []

job_statuses_differ : (a b : JobStatus) → job_status_text a ≡ job_status_text b → a ≡ b
job_statuses_differ = apart job_status_text job_statuses JobStatus.Dead back
  where
    back : (a : JobStatus) → named job_status_text job_statuses JobStatus.Dead (job_status_text a) ≡ a
    back JobStatus.Dead = refl
    back JobStatus.Running = refl
    back JobStatus.Pending = refl

pub job_words : law.JobWords
job_words = record {
  service = means kind_text kinds_differ JobKind.Service;
  batch = means kind_text kinds_differ JobKind.Batch;
  dead = means job_status_text job_statuses_differ JobStatus.Dead;
  running = means job_status_text job_statuses_differ JobStatus.Running;
  pending = means job_status_text job_statuses_differ JobStatus.Pending;
}

abbrev statuses : List Status
statuses = Status.Pending ∷ Status.Blocked ∷ Status.Complete ∷ Status.Failed ∷ Status.Canceled ∷ []

statuses_differ : (a b : Status) → status_text a ≡ status_text b → a ≡ b
statuses_differ = apart status_text statuses Status.Pending back
  where
    back : (a : Status) → named status_text statuses Status.Pending (status_text a) ≡ a
    back Status.Pending = refl
    back Status.Blocked = refl
    back Status.Complete = refl
    back Status.Failed = refl
    back Status.Canceled = refl

pub evaluation_words : law.EvaluationWords
evaluation_words = record {
  pending = means status_text statuses_differ Status.Pending;
  blocked = means status_text statuses_differ Status.Blocked;
  complete = means status_text statuses_differ Status.Complete;
  failed = means status_text statuses_differ Status.Failed;
  canceled = means status_text statuses_differ Status.Canceled;
}

abbrev triggers : List Trigger
triggers = Trigger.JobRegister ∷ Trigger.JobDeregister ∷ Trigger.NodeUpdate ∷ Trigger.AllocStop ∷ Trigger.AllocFailure ∷ Trigger.Preemption
    ∷ Trigger.QueuedAllocs ∷ Trigger.MaxPlanAttempts ∷ []

triggers_differ : (a b : Trigger) → trigger_text a ≡ trigger_text b → a ≡ b
triggers_differ = apart trigger_text triggers Trigger.JobRegister back
  where
    back : (a : Trigger) → named trigger_text triggers Trigger.JobRegister (trigger_text a) ≡ a
    back Trigger.JobRegister = refl
    back Trigger.JobDeregister = refl
    back Trigger.NodeUpdate = refl
    back Trigger.AllocStop = refl
    back Trigger.AllocFailure = refl
    back Trigger.Preemption = refl
    back Trigger.QueuedAllocs = refl
    back Trigger.MaxPlanAttempts = refl

pub trigger_words : law.TriggerWords
trigger_words = record {
  registered = means trigger_text triggers_differ Trigger.JobRegister;
  deregistered = means trigger_text triggers_differ Trigger.JobDeregister;
  node = means trigger_text triggers_differ Trigger.NodeUpdate;
  stopped = means trigger_text triggers_differ Trigger.AllocStop;
  failed = means trigger_text triggers_differ Trigger.AllocFailure;
  preempted = means trigger_text triggers_differ Trigger.Preemption;
  queued = means trigger_text triggers_differ Trigger.QueuedAllocs;
  attempts = means trigger_text triggers_differ Trigger.MaxPlanAttempts;
}

abbrev desired_statuses : List DesiredStatus
desired_statuses = DesiredStatus.Run ∷ DesiredStatus.Stop ∷ DesiredStatus.Evict ∷ []

desired_statuses_differ : (a b : DesiredStatus) → desired_text a ≡ desired_text b → a ≡ b
desired_statuses_differ = apart desired_text desired_statuses DesiredStatus.Run back
  where
    back : (a : DesiredStatus) → named desired_text desired_statuses DesiredStatus.Run (desired_text a) ≡ a
    back DesiredStatus.Run = refl
    back DesiredStatus.Stop = refl
    back DesiredStatus.Evict = refl

abbrev client_statuses : List ClientStatus
client_statuses = ClientStatus.Pending ∷ ClientStatus.Running ∷ ClientStatus.Complete ∷ ClientStatus.Failed ∷ ClientStatus.Lost ∷ []

client_statuses_differ : (a b : ClientStatus) → client_text a ≡ client_text b → a ≡ b
client_statuses_differ = apart client_text client_statuses ClientStatus.Pending back
  where
    back : (a : ClientStatus) → named client_text client_statuses ClientStatus.Pending (client_text a) ≡ a
    back ClientStatus.Pending = refl
    back ClientStatus.Running = refl
    back ClientStatus.Complete = refl
    back ClientStatus.Failed = refl
    back ClientStatus.Lost = refl

pub allocation_words : law.AllocationWords
allocation_words = record {
  run = means desired_text desired_statuses_differ DesiredStatus.Run;
  stop = means desired_text desired_statuses_differ DesiredStatus.Stop;
  evict = means desired_text desired_statuses_differ DesiredStatus.Evict;
  pending = means client_text client_statuses_differ ClientStatus.Pending;
  running = means client_text client_statuses_differ ClientStatus.Running;
  complete = means client_text client_statuses_differ ClientStatus.Complete;
  failed = means client_text client_statuses_differ ClientStatus.Failed;
  lost = means client_text client_statuses_differ ClientStatus.Lost;
}

abbrev node_statuses : List NodeStatus
node_statuses = NodeStatus.Ready ∷ NodeStatus.Down ∷ []

node_statuses_differ : (a b : NodeStatus) → node_status_text a ≡ node_status_text b → a ≡ b
node_statuses_differ = apart node_status_text node_statuses NodeStatus.Ready back
  where
    back : (a : NodeStatus) → named node_status_text node_statuses NodeStatus.Ready (node_status_text a) ≡ a
    back NodeStatus.Ready = refl
    back NodeStatus.Down = refl

eligibilities_differ : (a b : Bool) → eligibility_text a ≡ eligibility_text b → a ≡ b
eligibilities_differ = apart eligibility_text (true ∷ false ∷ []) true back
  where
    back : (a : Bool) → named eligibility_text (true ∷ false ∷ []) true (eligibility_text a) ≡ a
    back true = refl
    back false = refl

abbrev token_kinds : List TokenKind
token_kinds = TokenKind.Client ∷ TokenKind.Management ∷ []

token_kinds_differ : (a b : TokenKind) → token_kind_text a ≡ token_kind_text b → a ≡ b
token_kinds_differ = apart token_kind_text token_kinds TokenKind.Client back
  where
    back : (a : TokenKind) → named token_kind_text token_kinds TokenKind.Client (token_kind_text a) ≡ a
    back TokenKind.Client = refl
    back TokenKind.Management = refl

pub node_words : law.NodeWords
node_words = record {
  ready = means node_status_text node_statuses_differ NodeStatus.Ready;
  down = means node_status_text node_statuses_differ NodeStatus.Down;
  eligible = means eligibility_text eligibilities_differ true;
  ineligible = means eligibility_text eligibilities_differ false;
  client = means token_kind_text token_kinds_differ TokenKind.Client;
  management = means token_kind_text token_kinds_differ TokenKind.Management;
}

-- ---- constraints

abbrev operands : List Operand
operands = Operand.Equal ∷ Operand.NotEqual ∷ []

operands_differ : (a b : Operand) → operand_text a ≡ operand_text b → a ≡ b
operands_differ = apart operand_text operands Operand.Equal back
  where
    back : (a : Operand) → named operand_text operands Operand.Equal (operand_text a) ≡ a
    back Operand.Equal = refl
    back Operand.NotEqual = refl

-- texts with different characters at a place
at_place : (place : ℕ) (a b : Name) → a ≡ b → slice_index a place ≡ slice_index b place
at_place place a b e = ap (λ text. slice_index text place) e

targets_differ : (a b : Target) → target_text a ≡ target_text b → a ≡ b
targets_differ Target.NodeClass Target.NodeClass e = refl
targets_differ Target.NodeClass Target.NodeName e = let same = at_place 7 _ _ e in absurd (omega (arith, same))
targets_differ Target.NodeClass (Target.Attribute key) e = let same = at_place 2 _ _ e in absurd (omega (arith, same))
targets_differ Target.NodeName Target.NodeClass e = let same = at_place 7 _ _ e in absurd (omega (arith, same))
targets_differ Target.NodeName Target.NodeName e = refl
targets_differ Target.NodeName (Target.Attribute key) e = let same = at_place 2 _ _ e in absurd (omega (arith, same))
targets_differ (Target.Attribute key) Target.NodeClass e = let same = at_place 2 _ _ e in absurd (omega (arith, same))
targets_differ (Target.Attribute key) Target.NodeName e = let same = at_place 2 _ _ e in absurd (omega (arith, same))
targets_differ (Target.Attribute key) (Target.Attribute other) e =
    ap (λ (k : Name). Target.Attribute k) (append_cancel_right key other (codes "}") (ap (λ (text : Name). drop 7 text) e))

pub constraint_words : law.ConstraintWords
constraint_words = record {
  equal = means operand_text operands_differ Operand.Equal;
  not_equal = means operand_text operands_differ Operand.NotEqual;
  class = means target_text targets_differ Target.NodeClass;
  name = means target_text targets_differ Target.NodeName;
  attribute = means target_text targets_differ (Target.Attribute (codes "os"));
}

-- ---- members

abbrev members : List Member
members = Member.Allowed ∷ Member.Attributes ∷ Member.ClientStatus ∷ Member.Constraints ∷ Member.Count ∷ Member.Cpu
    ∷ Member.Default ∷ Member.Denied ∷ Member.Description ∷ Member.DiskMb ∷ Member.Eligibility ∷ Member.EnforceIndex
    ∷ Member.EphemeralDisk ∷ Member.Id ∷ Member.Index ∷ Member.Job ∷ Member.JobModifyIndex ∷ Member.LeftTarget ∷ Member.Limits
    ∷ Member.MemoryMb ∷ Member.Name ∷ Member.Namespace ∷ Member.NamespaceParameter ∷ Member.NodeClass ∷ Member.NodePool
    ∷ Member.NodePoolConfiguration ∷ Member.Operand ∷ Member.ParameterizedJob ∷ Member.Periodic ∷ Member.Policies
    ∷ Member.Priority ∷ Member.Purge ∷ Member.Quota ∷ Member.Region ∷ Member.RegionLimit ∷ Member.Resources ∷ Member.RightTarget
    ∷ Member.Rules ∷ Member.SizeMb ∷ Member.Status ∷ Member.TaskGroups ∷ Member.Tasks ∷ Member.Type ∷ []

pub members_differ : law.MembersDiffer
members_differ = apart member_name members Member.Allowed back
  where
    back : (m : Member) → named member_name members Member.Allowed (member_name m) ≡ m
    back Member.Allowed = refl
    back Member.Attributes = refl
    back Member.ClientStatus = refl
    back Member.Constraints = refl
    back Member.Count = refl
    back Member.Cpu = refl
    back Member.Default = refl
    back Member.Denied = refl
    back Member.Description = refl
    back Member.DiskMb = refl
    back Member.Eligibility = refl
    back Member.EnforceIndex = refl
    back Member.EphemeralDisk = refl
    back Member.Id = refl
    back Member.Index = refl
    back Member.Job = refl
    back Member.JobModifyIndex = refl
    back Member.LeftTarget = refl
    back Member.Limits = refl
    back Member.MemoryMb = refl
    back Member.Name = refl
    back Member.Namespace = refl
    back Member.NamespaceParameter = refl
    back Member.NodeClass = refl
    back Member.NodePool = refl
    back Member.NodePoolConfiguration = refl
    back Member.Operand = refl
    back Member.ParameterizedJob = refl
    back Member.Periodic = refl
    back Member.Policies = refl
    back Member.Priority = refl
    back Member.Purge = refl
    back Member.Quota = refl
    back Member.Region = refl
    back Member.RegionLimit = refl
    back Member.Resources = refl
    back Member.RightTarget = refl
    back Member.Rules = refl
    back Member.SizeMb = refl
    back Member.Status = refl
    back Member.TaskGroups = refl
    back Member.Tasks = refl
    back Member.Type = refl
