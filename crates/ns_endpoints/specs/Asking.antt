-- The step that a request asks for, or the refusal that needs no state.
use Rattle.std.specs.Prelude.{ℕ, List, [], Option, Some, None, option_map, unwrap_or, Result, Ok, Err}
use Rattle.uuid.specs.Text.{hyphenated_text, lower, parsed}
use Rattle.ns_types.specs.declared.id.IdKind.TheVariants as IdKind
use Rattle.ns_types.specs.declared.refusal.Refusal.{Refusal}
use Rattle.ns_types.specs.declared.step.AdminCommand.{AdminCommand}
use Rattle.ns_types.specs.declared.step.AskCommand.{AskCommand}
use Rattle.ns_types.specs.declared.step.NewToken.{NewToken}
use Rattle.ns_types.specs.declared.step.NodeCommand.TheVariants as NodeCommand
use Rattle.ns_types.specs.declared.step.Step.{Step}
use Rattle.ns_types.specs.Wire.Http.{Asked}
use Rattle.ns_types.specs.State.Names.{Name}
use Rattle.ns_documents.specs.declared.token.TokenDocument.{TokenDocument}
use Rattle.ns_documents.specs.Access.{policy_in, token_in}
use Rattle.ns_documents.specs.Records
use Rattle.ns_json.specs.Reading.{◌>>=◌, body_in}
use Rattle.ns_json.specs.Registration.{registration_in}
use Rattle.ns_request.specs.declared.endpoint.Endpoint.{Endpoint}
use Rattle.ns_request.specs.declared.method.Method.{Method}
use Rattle.ns_request.specs.Finding.{found}
use Rattle.ns_request.specs.Queries.{index_in, namespace_in, purge_in}
use Rattle.ns_request.specs.Secrets.{secret_of}
use Rattle.ns_request.specs.Targets.{query_in}
use Rattle.ns_endpoints.specs.Parts.{bearer_in, fourth_part, namespace_of, number_in, prefix_in, third_part}
use Rattle.ns_endpoints.specs.Nodes.{eligibility_put, node_deleted, node_put, nodes_listed, report_put, status_put}

-- ---- commands about a namespace, and commands of administrators

unfoldable pub ask_of : AskCommand → Asked → Result Step Refusal
ask_of command a = do
  parameter ← namespace_in (query_in a.target)
  Ok (Step.Ask (namespace_of parameter None) (secret_of a.token) command)

unfoldable pub admin_of : AdminCommand → Asked → Result Step Refusal
admin_of command a = do
  secret ← bearer_in a
  Ok (Step.Admin secret command)

-- the UUID that the text writes, in lower case with hyphens
abbrev pub canonical : Name → Name
canonical text = unwrap_or (option_map (hyphenated_text lower) (parsed text)) []

-- ---- a deregistration, and the stream of events; a fault of the namespace comes first

unfoldable pub deregistration_asked : Asked → Result Step Refusal
deregistration_asked a = do
  parameter ← namespace_in (query_in a.target)
  purge ← purge_in (query_in a.target)
  Ok (Step.Ask (namespace_of parameter None) (secret_of a.token) (AskCommand.Deregister (third_part a) purge))

unfoldable pub events_asked : Asked → Result Step Refusal
events_asked a = do
  parameter ← namespace_in (query_in a.target)
  index ← index_in (query_in a.target)
  Ok (Step.Ask (namespace_of parameter None) (secret_of a.token) (AskCommand.Events index))

-- ---- documents; their faults come before the parameter's

unfoldable pub registration_asked : Asked → Result Step Refusal
registration_asked a = do
  document ← body_in registration_in a.body
  parameter ← namespace_in (query_in a.target)
  Ok (Step.Ask (namespace_of parameter document.namespace) (secret_of a.token)
      (AskCommand.Register document.registration))

-- an administrator's command with a document
unfoldable pub admin_by : {D : Type 0} → (List ℕ → Result D Refusal) → (D → AdminCommand) → Asked → Result Step Refusal
admin_by reads command a = do
  document ← reads a.body
  admin_of (command document) a

-- puts of documents, where `named` is the name in the path, if there is one
abbrev pub namespace_put : Option Name → Asked → Result Step Refusal
namespace_put named = admin_by (body_in (Records.namespace_in named)) (λ d. AdminCommand.PutNamespace d.name d.namespace)

abbrev pub quota_put : Option Name → Asked → Result Step Refusal
quota_put named = admin_by (body_in (Records.quota_in named)) (λ d. AdminCommand.PutQuota d.name d.quota)

abbrev pub pool_put : Option Name → Asked → Result Step Refusal
pool_put named = admin_by (body_in (Records.pool_in named)) (λ d. AdminCommand.PutPool d.name d.pool)

abbrev pub policy_put : Asked → Result Step Refusal
policy_put a = admin_by (body_in policy_in) (AdminCommand.PutPolicy (fourth_part a)) a

-- a new token, whose accessor and secret are drawn later
abbrev pub new_token : TokenDocument → NewToken
new_token d = record { accessor = []; secret = []; name = d.name; kind = d.kind; policies = d.policies }

abbrev pub token_asked : Asked → Result Step Refusal
token_asked = admin_by (body_in token_in) (λ d. AdminCommand.CreateToken (new_token d))

-- ---- reads of the namespace or the pool that the path names

unfoldable pub namespace_read : Asked → Result Step Refusal
namespace_read a = do
  secret ← bearer_in a
  Ok (Step.Ask (third_part a) secret AskCommand.ReadNamespace)

unfoldable pub pool_read : Asked → Result Step Refusal
pool_read a = do
  secret ← bearer_in a
  Ok (Step.Node (fourth_part a) secret NodeCommand.ReadPool)

-- ---- the table

-- for a method that the path does not have: such a request is refused before
abbrev pub not_served : Result Step Refusal
not_served = Err Refusal.NotServed

-- one of the three, by the method
abbrev pub by_kind : Method → Result Step Refusal → Result Step Refusal → Result Step Refusal → Result Step Refusal
by_kind Method.Get get write delete = get
by_kind Method.Write get write delete = write
by_kind Method.Delete get write delete = delete

unfoldable pub asked_of : Endpoint → Method → Asked → Result Step Refusal
asked_of Endpoint.Jobs method a = by_kind method (ask_of (AskCommand.ListJobs (prefix_in a)) a) (registration_asked a)
    not_served
asked_of Endpoint.Job method a = by_kind method (ask_of (AskCommand.ReadJob (third_part a)) a) not_served
    (deregistration_asked a)
asked_of Endpoint.JobAllocations method a = by_kind method (ask_of (AskCommand.JobAllocations (third_part a)) a)
    not_served not_served
asked_of Endpoint.JobEvaluations method a = by_kind method (ask_of (AskCommand.JobEvaluations (third_part a)) a)
    not_served not_served
asked_of Endpoint.Evaluations method a = by_kind method (ask_of (AskCommand.ListEvaluations (prefix_in a)) a)
    not_served not_served
asked_of Endpoint.Evaluation method a = by_kind method
    (ask_of (AskCommand.ReadEvaluation (number_in IdKind.Evaluation a)) a) not_served not_served
asked_of Endpoint.Allocations method a = by_kind method (ask_of (AskCommand.ListAllocations (prefix_in a)) a)
    not_served not_served
asked_of Endpoint.Allocation method a = by_kind method
    (ask_of (AskCommand.ReadAllocation (number_in IdKind.Allocation a)) a) not_served not_served
asked_of Endpoint.AllocationStop method a = by_kind method not_served
    (ask_of (AskCommand.StopAllocation (number_in IdKind.Allocation a)) a) not_served
asked_of Endpoint.Namespaces method a = by_kind method (admin_of AdminCommand.ListNamespaces a) not_served not_served
asked_of Endpoint.NewNamespace method a = by_kind method not_served (namespace_put None a) not_served
asked_of Endpoint.Namespace method a = by_kind method (namespace_read a) (namespace_put (Some (third_part a)) a)
    (admin_of (AdminCommand.DeleteNamespace (third_part a)) a)
asked_of Endpoint.Quotas method a = by_kind method (admin_of AdminCommand.ListQuotas a) not_served not_served
asked_of Endpoint.NewQuota method a = by_kind method not_served (quota_put None a) not_served
asked_of Endpoint.Quota method a = by_kind method (admin_of (AdminCommand.ReadQuota (third_part a)) a)
    (quota_put (Some (third_part a)) a) (admin_of (AdminCommand.DeleteQuota (third_part a)) a)
asked_of Endpoint.QuotaUsage method a = by_kind method (ask_of (AskCommand.QuotaUsage (fourth_part a)) a)
    not_served not_served
asked_of Endpoint.EventStream method a = by_kind method (events_asked a) not_served not_served
asked_of Endpoint.Pools method a = by_kind method (admin_of AdminCommand.ListPools a) (pool_put None a) not_served
asked_of Endpoint.Pool method a = by_kind method (pool_read a) (pool_put (Some (fourth_part a)) a)
    (admin_of (AdminCommand.DeletePool (fourth_part a)) a)
asked_of Endpoint.PoolNodes method a = by_kind method (nodes_listed a) not_served not_served
asked_of Endpoint.Node method a = by_kind method not_served (node_put a) (node_deleted a)
asked_of Endpoint.NodeStatus method a = by_kind method not_served (status_put a) not_served
asked_of Endpoint.NodeEligibility method a = by_kind method not_served (eligibility_put a) not_served
asked_of Endpoint.NodeReport method a = by_kind method not_served (report_put a) not_served
asked_of Endpoint.Policy method a = by_kind method (admin_of (AdminCommand.ReadPolicy (fourth_part a)) a) (policy_put a)
    (admin_of (AdminCommand.DeletePolicy (fourth_part a)) a)
asked_of Endpoint.NewToken method a = by_kind method not_served (token_asked a) not_served
asked_of Endpoint.Token method a = by_kind method not_served not_served
    (admin_of (AdminCommand.DeleteToken (canonical (fourth_part a))) a)

unfoldable pub asked : Asked → Result Step Refusal
asked a = do
  place ← found a
  asked_of place.0 place.1 a
