-- The text of a log: a first line with the bootstrap secret, then one line for each entry. If the log was given out in
-- segments, each segment has such a first line, which says how many entries come before it.
use Rattle.std.specs.Prelude.{ℕ, List, [], ◌∷◌, ◌++◌, Option, Some, None, flat_map, codes, decimal}
use Rattle.serde_json.specs.Data.{Data, null, boolean, string}
use Rattle.serde_json.specs.Written.{compact_text}
use Rattle.ns_types.specs.declared.job.Registration.{Registration}
use Rattle.ns_types.specs.declared.node.Offer.{Offer}
use Rattle.ns_types.specs.declared.step.AdminCommand.{AdminCommand}
use Rattle.ns_types.specs.declared.step.AskCommand.{AskCommand}
use Rattle.ns_types.specs.declared.step.NewToken.{NewToken}
use Rattle.ns_types.specs.declared.step.NodeCommand.{NodeCommand}
use Rattle.ns_types.specs.declared.step.Report.{Report}
use Rattle.ns_types.specs.declared.step.Step.{Step}
use Rattle.ns_types.specs.State.Names.{Name}
use Rattle.ns_json.specs.Rendering.{number_of, object_of, list_of, text_or_empty, constraint_json, group_json}
use Rattle.ns_json.specs.Rendering.{namespace_json, quota_json, pool_json, attributes_json, policy_json, token_json}
use Rattle.ns_json.specs.Replies.{Entry}
use Rattle.ns_types.specs.Wire.Words.{kind_text, node_status_text, eligibility_text, client_text}

-- a command to a server: its name and its arguments
abbrev pub Call : Type 0
Call = Name × List (Name × Data)

abbrev pub named : Name → (Name × Data)
named name = (codes "Name", string name)

abbrev pub with_id : Name → (Name × Data)
with_id id = (codes "ID", string id)

abbrev pub with_prefix : Name → (Name × Data)
with_prefix prefix = (codes "Prefix", string prefix)

abbrev pub numbered : ℕ → (Name × Data)
numbered n = (codes "Number", number_of n)

abbrev pub documented : Data → (Name × Data)
documented json = (codes "Doc", json)

abbrev pub number_or_null : Option ℕ → Data
number_or_null None = null
number_or_null (Some n) = number_of n

abbrev pub text_or_null : Option Name → Data
text_or_null None = null
text_or_null (Some text) = string text

-- ---- documents

unfoldable pub registration_json : Registration → Data
registration_json r = object_of (
    (codes "Constraints", list_of constraint_json r.constraints) ∷
    (codes "ID", string r.id) ∷
    (codes "NodePool", text_or_empty r.pool) ∷
    (codes "Priority", number_of r.priority) ∷
    (codes "TaskGroups", list_of group_json r.groups) ∷
    (codes "Type", string (kind_text r.kind)) ∷ [])

unfoldable pub offer_json : Offer → Data
offer_json o = object_of (
    (codes "Attributes", attributes_json o.attributes) ∷
    (codes "CPU", number_of o.capacity.cpu) ∷
    (codes "DiskMB", number_of o.capacity.disk) ∷
    (codes "MemoryMB", number_of o.capacity.memory) ∷
    (codes "NodeClass", string o.class) ∷ [])

abbrev pub new_token_json : NewToken → Data
new_token_json t = token_json (record {
  accessor = t.accessor;
  secret = t.secret;
  name = t.name;
  kind =
      t.kind;
  policies = t.policies;
})

abbrev pub report_members : Name → Report → List (Name × Data)
report_members name r =
    (codes "ClientStatus", string (client_text r.client)) ∷ named name ∷ (codes "Namespace", string r.namespace)
    ∷ numbered r.number ∷ []

-- ---- commands

unfoldable pub asked : AskCommand → Call
asked (AskCommand.ListJobs prefix) = (codes "ListJobs", with_prefix prefix ∷ [])
asked (AskCommand.Register r) = (
  codes "Register",
  documented (registration_json r) ∷
      (codes "Enforce", number_or_null r.enforced) ∷ [],
)
asked (AskCommand.ReadJob id) = (codes "ReadJob", with_id id ∷ [])
asked (AskCommand.Deregister id purge) = (codes "Deregister", with_id id ∷ (codes "Purge", boolean purge) ∷ [])
asked (AskCommand.JobAllocations id) = (codes "JobAllocations", with_id id ∷ [])
asked (AskCommand.JobEvaluations id) = (codes "JobEvaluations", with_id id ∷ [])
asked (AskCommand.ListEvaluations prefix) = (codes "ListEvaluations", with_prefix prefix ∷ [])
asked (AskCommand.ReadEvaluation n) = (codes "ReadEvaluation", numbered n ∷ [])
asked (AskCommand.ListAllocations prefix) = (codes "ListAllocations", with_prefix prefix ∷ [])
asked (AskCommand.ReadAllocation n) = (codes "ReadAllocation", numbered n ∷ [])
asked (AskCommand.StopAllocation n) = (codes "StopAllocation", numbered n ∷ [])
asked AskCommand.ReadNamespace = (codes "ReadNamespace", [])
asked (AskCommand.QuotaUsage quota) = (codes "QuotaUsage", named quota ∷ [])
asked (AskCommand.Events index) = (codes "Events", (codes "From", number_of index) ∷ [])

unfoldable pub administered : AdminCommand → Call
administered AdminCommand.ListNamespaces = (codes "ListNamespaces", [])
administered (AdminCommand.PutNamespace name n) =
    (codes "PutNamespace", documented (namespace_json (record { name = name; row = n })) ∷ [])
administered (AdminCommand.DeleteNamespace name) = (codes "DeleteNamespace", named name ∷ [])
administered AdminCommand.ListQuotas = (codes "ListQuotas", [])
administered (AdminCommand.ReadQuota name) = (codes "ReadQuota", named name ∷ [])
administered (AdminCommand.PutQuota name q) =
    (codes "PutQuota", documented (quota_json (record { name = name; row = q })) ∷ [])
administered (AdminCommand.DeleteQuota name) = (codes "DeleteQuota", named name ∷ [])
administered AdminCommand.ListPools = (codes "ListPools", [])
administered (AdminCommand.PutPool name p) =
    (codes "PutPool", documented (pool_json (record { name = name; row = p })) ∷ [])
administered (AdminCommand.DeletePool name) = (codes "DeletePool", named name ∷ [])
administered (AdminCommand.ReadPolicy name) = (codes "ReadPolicy", named name ∷ [])
administered (AdminCommand.PutPolicy name p) =
    (codes "PutPolicy", documented (policy_json (record { name = name; row = p })) ∷ [])
administered (AdminCommand.DeletePolicy name) = (codes "DeletePolicy", named name ∷ [])
administered (AdminCommand.CreateToken t) = (codes "CreateToken", documented (new_token_json t) ∷ [])
administered (AdminCommand.DeleteToken accessor) = (codes "DeleteToken", (codes "AccessorID", string accessor) ∷ [])

unfoldable pub node_call : NodeCommand → Call
node_call NodeCommand.ReadPool = (codes "ReadPool", [])
node_call NodeCommand.ListNodes = (codes "ListNodes", [])
node_call (NodeCommand.PutNode name offer) = (codes "PutNode", documented (offer_json offer) ∷ named name ∷ [])
node_call (NodeCommand.DeleteNode name) = (codes "DeleteNode", named name ∷ [])
node_call (NodeCommand.SetStatus name status) =
    (codes "SetStatus", named name ∷ (codes "Status", string (node_status_text status)) ∷ [])
node_call (NodeCommand.SetEligible name eligible) =
    (codes "SetEligible", (codes "Eligibility", string (eligibility_text eligible)) ∷ named name ∷ [])
node_call (NodeCommand.Report name r) = (codes "Report", report_members name r)

-- ---- steps

abbrev pub call_members : Call → List (Name × Data) → List (Name × Data)
call_members call others = (codes "Args", object_of call.1) ∷ (codes "Do", string call.0) ∷ others

abbrev pub kind : Name → (Name × Data)
kind word = (codes "Kind", string word)

abbrev pub with_secret : Option Name → (Name × Data)
with_secret secret = (codes "Secret", text_or_null secret)

abbrev pub work_members : Name → ℕ → Name → List (Name × Data)
work_members word worker ns = kind word ∷ (codes "Ns", string ns) ∷ (codes "Worker", number_of worker) ∷ []

unfoldable pub step_members : Step → List (Name × Data)
step_members (Step.Ask ns secret command) =
    call_members (asked command) (kind (codes "Ask") ∷ (codes "Ns", string ns) ∷ with_secret secret ∷ [])
step_members (Step.Admin secret command) =
    call_members (administered command) (kind (codes "Admin") ∷ with_secret secret ∷ [])
step_members (Step.Node pool secret command) =
    call_members (node_call command) (kind (codes "Node") ∷ (codes "Pool", string pool) ∷ with_secret secret ∷ [])
step_members (Step.Dequeue worker ns n) = (codes "Eval", number_of n) ∷ work_members (codes "Dequeue") worker ns
step_members (Step.Snap worker ns) = work_members (codes "Snap") worker ns
step_members (Step.Submit worker ns) = work_members (codes "Submit") worker ns
step_members (Step.Apply worker ns) = work_members (codes "Apply") worker ns
step_members (Step.Finish worker ns) = work_members (codes "Finish") worker ns
step_members (Step.Nack worker ns) = work_members (codes "Nack") worker ns

unfoldable pub entry_json : Entry → Data
entry_json e = object_of (
    (codes "Body", string e.1.body) ∷
    (codes "Index", number_or_null e.1.index) ∷
    (codes "Status", number_of e.1.status) ∷
    (codes "Step", object_of (step_members e.0)) ∷ [])

-- ---- the text

abbrev pub line_of : Name → Name
line_of text = text ++ 10 ∷ []

-- the line in front of a segment
abbrev pub head_text : ℕ → Name → Name
head_text start secret = codes "nsd-log 3 " ++ decimal start ++ codes " " ++ secret

-- a segment before which come `start` entries
unfoldable pub segment_text : Name → ℕ → List Entry → Name
segment_text secret start log = line_of (head_text start secret) ++
    flat_map (λ e. line_of (compact_text (entry_json e))) log

-- a log that is one segment
abbrev pub log_text : Name → List Entry → Name
log_text secret log = segment_text secret 0 log
