-- Where a step puts a policy that a request asks for, its rules are the reading of its text.
use Rattle.std.proofs.Common.{◌≡◌, ℕ, List, Option, Result, Ok, Err, None, refl, sym, subst}
use Rattle.serde_json.specs.Data.{Data}
use Rattle.ns_types.specs.declared.acl.Policy.{Policy}
use Rattle.ns_types.specs.declared.acl.Rule.{Rule}
use Rattle.ns_types.specs.declared.refusal.Member.TheVariants as Member
use Rattle.ns_types.specs.declared.refusal.Refusal.{Refusal}
use Rattle.ns_types.specs.declared.step.AdminCommand.{AdminCommand}
use Rattle.ns_types.specs.declared.step.AskCommand.{AskCommand}
use Rattle.ns_types.specs.declared.step.NodeCommand.{NodeCommand}
use Rattle.ns_types.specs.declared.step.Step.{Step}
use Rattle.ns_types.specs.State.Names.{Name}
use Rattle.ns_types.specs.Wire.Http.{Asked}
use Rattle.ns_json.specs.Reading.{◌>>=◌, body_in, demanded, json_in, top}
use Rattle.ns_json.specs.Registration.{registration_in}
use Rattle.ns_json.proofs.Posts.{Post, post_any, post_then}
use Rattle.ns_policy.specs.declared.fault.RuleFault.{RuleFault}
use Rattle.ns_policy.specs.Json.{rules_of}
use Rattle.ns_documents.specs.Members.{description_in}
use Rattle.ns_documents.specs.Access.{or_bad_rules, policy_in, rules_text_in}
use Rattle.ns_log_reader.specs.Lines.{HasReadRules, IsAsRead}
use Rattle.ns_steps.specs.Served.{served}
use Rattle.ns_request.specs.declared.endpoint.Endpoint.{Endpoint}
use Rattle.ns_request.specs.declared.method.Method.{Method}
use Rattle.ns_request.specs.Finding.{found}
use Rattle.ns_request.specs.Queries.{index_in, namespace_in, purge_in}
use Rattle.ns_request.specs.Targets.{query_in}
use Rattle.ns_endpoints.specs.Asking.{admin_by, admin_of, ask_of, asked, asked_of, by_kind, deregistration_asked, events_asked, namespace_put}
use Rattle.ns_endpoints.specs.Asking.{namespace_read, policy_put, pool_put, pool_read, quota_put, registration_asked, token_asked}
use Rattle.ns_endpoints.specs.Drawing.{DrawsFor}
use Rattle.ns_endpoints.specs.Nodes.{node_by, node_of}
use Rattle.ns_endpoints.specs.Parts.{bearer_in}

-- ---- the document of a policy

rules_post : (description text : Name) (r : Result (List Rule) RuleFault) → rules_of text ≡ r →
    Post (or_bad_rules r >>= λ rules. Ok (record { description = description; text = text; rules = rules })) (λ (p : Policy). rules_of p.text ≡ Ok p.rules)
rules_post description text (Ok rules) is = is
rules_post description text (Err fault) is = tt

policy_post : (d : Data) → Post (policy_in d) (λ p. rules_of p.text ≡ Ok p.rules)
unfolding policy_in
policy_post d =
    post_any (top d) _ _ (λ t. post_any (description_in t) _ _ (λ description. post_any (demanded Member.Rules t) _ _ (λ v.
    post_any (rules_text_in v) _ _ (λ text. rules_post description text (rules_of text) refl))))

body_post : (body : Name) → Post (body_in policy_in body) (λ p. rules_of p.text ≡ Ok p.rules)
unfolding body_in
body_post body = post_any (json_in body) _ _ policy_post

-- ---- by who asks

ask_read : (command : AskCommand) (a : Asked) → Post (ask_of command a) IsAsRead
unfolding ask_of
ask_read command a = post_any (namespace_in (query_in a.target)) _ _ (λ parameter. tt)

admin_read : (command : AdminCommand) (a : Asked) → HasReadRules command → Post (admin_of command a) IsAsRead
unfolding admin_of
admin_read command a h = post_any (bearer_in a) _ _ (λ secret. h)

admin_by_read : {D : Type 0} (reads : List ℕ → Result D Refusal) (command : D → AdminCommand) (a : Asked) →
    Post (reads a.body) (λ document. HasReadRules (command document)) → Post (admin_by reads command a) IsAsRead
unfolding admin_by
admin_by_read reads command a h = post_then (reads a.body) _ _ h (λ document k. admin_read (command document) a k)

-- of a command that puts no policy
other_by_read : {D : Type 0} (reads : List ℕ → Result D Refusal) (command : D → AdminCommand) (a : Asked) →
    ((document : D) → HasReadRules (command document)) → Post (admin_by reads command a) IsAsRead
unfolding admin_by
other_by_read reads command a h = post_any (reads a.body) _ _ (λ document. admin_read (command document) a (h document))

node_read : (command : NodeCommand) (a : Asked) → Post (node_of command a) IsAsRead
unfolding node_of
node_read command a = post_any (bearer_in a) _ _ (λ secret. tt)

node_by_read : {D : Type 0} (reads : List ℕ → Result D Refusal) (command : Name → D → NodeCommand) (a : Asked) →
    Post (node_by reads command a) IsAsRead
unfolding node_by
node_by_read reads command a = post_any (reads a.body) _ _ (λ document. node_read _ a)

-- ---- by what is asked

deregistration_read : (a : Asked) → Post (deregistration_asked a) IsAsRead
unfolding deregistration_asked
deregistration_read a =
    post_any (namespace_in (query_in a.target)) _ _ (λ parameter. post_any (purge_in (query_in a.target)) _ _ (λ purge. tt))

events_read : (a : Asked) → Post (events_asked a) IsAsRead
unfolding events_asked
events_read a =
    post_any (namespace_in (query_in a.target)) _ _ (λ parameter. post_any (index_in (query_in a.target)) _ _ (λ index. tt))

registration_read : (a : Asked) → Post (registration_asked a) IsAsRead
unfolding registration_asked
registration_read a =
    post_any (body_in registration_in a.body) _ _ (λ document. post_any (namespace_in (query_in a.target)) _ _ (λ parameter. tt))

namespace_put_read : (named : Option Name) (a : Asked) → Post (namespace_put named a) IsAsRead
namespace_put_read named a = other_by_read _ _ a (λ document. tt)

quota_put_read : (named : Option Name) (a : Asked) → Post (quota_put named a) IsAsRead
quota_put_read named a = other_by_read _ _ a (λ document. tt)

pool_put_read : (named : Option Name) (a : Asked) → Post (pool_put named a) IsAsRead
pool_put_read named a = other_by_read _ _ a (λ document. tt)

token_read : (a : Asked) → Post (token_asked a) IsAsRead
token_read a = other_by_read _ _ a (λ document. tt)

policy_put_read : (a : Asked) → Post (policy_put a) IsAsRead
policy_put_read a = admin_by_read _ _ a (body_post a.body)

namespace_read_read : (a : Asked) → Post (namespace_read a) IsAsRead
unfolding namespace_read
namespace_read_read a = post_any (bearer_in a) _ _ (λ secret. tt)

pool_read_read : (a : Asked) → Post (pool_read a) IsAsRead
unfolding pool_read
pool_read_read a = post_any (bearer_in a) _ _ (λ secret. tt)

-- ---- the table

by_kind_read : (method : Method) (get write delete : Result Step Refusal) → Post get IsAsRead → Post write IsAsRead → Post delete IsAsRead →
    Post (by_kind method get write delete) IsAsRead
by_kind_read Method.Get get write delete g w d = g
by_kind_read Method.Write get write delete g w d = w
by_kind_read Method.Delete get write delete g w d = d

table_read : (endpoint : Endpoint) (method : Method) (a : Asked) → Post (asked_of endpoint method a) IsAsRead
unfolding asked_of
table_read Endpoint.Jobs method a = by_kind_read method _ _ _ (ask_read _ a) (registration_read a) tt
table_read Endpoint.Job method a = by_kind_read method _ _ _ (ask_read _ a) tt (deregistration_read a)
table_read Endpoint.JobAllocations method a = by_kind_read method _ _ _ (ask_read _ a) tt tt
table_read Endpoint.JobEvaluations method a = by_kind_read method _ _ _ (ask_read _ a) tt tt
table_read Endpoint.Evaluations method a = by_kind_read method _ _ _ (ask_read _ a) tt tt
table_read Endpoint.Evaluation method a = by_kind_read method _ _ _ (ask_read _ a) tt tt
table_read Endpoint.Allocations method a = by_kind_read method _ _ _ (ask_read _ a) tt tt
table_read Endpoint.Allocation method a = by_kind_read method _ _ _ (ask_read _ a) tt tt
table_read Endpoint.AllocationStop method a = by_kind_read method _ _ _ tt (ask_read _ a) tt
table_read Endpoint.Namespaces method a = by_kind_read method _ _ _ (admin_read _ a tt) tt tt
table_read Endpoint.NewNamespace method a = by_kind_read method _ _ _ tt (namespace_put_read _ a) tt
table_read Endpoint.Namespace method a = by_kind_read method _ _ _ (namespace_read_read a) (namespace_put_read _ a) (admin_read _ a tt)
table_read Endpoint.Quotas method a = by_kind_read method _ _ _ (admin_read _ a tt) tt tt
table_read Endpoint.NewQuota method a = by_kind_read method _ _ _ tt (quota_put_read _ a) tt
table_read Endpoint.Quota method a = by_kind_read method _ _ _ (admin_read _ a tt) (quota_put_read _ a) (admin_read _ a tt)
table_read Endpoint.QuotaUsage method a = by_kind_read method _ _ _ (ask_read _ a) tt tt
table_read Endpoint.EventStream method a = by_kind_read method _ _ _ (events_read a) tt tt
table_read Endpoint.Pools method a = by_kind_read method _ _ _ (admin_read _ a tt) (pool_put_read _ a) tt
table_read Endpoint.Pool method a = by_kind_read method _ _ _ (pool_read_read a) (pool_put_read _ a) (admin_read _ a tt)
table_read Endpoint.PoolNodes method a = by_kind_read method _ _ _ (node_read _ a) tt tt
table_read Endpoint.Node method a = by_kind_read method _ _ _ tt (node_by_read _ _ a) (node_read _ a)
table_read Endpoint.NodeStatus method a = by_kind_read method _ _ _ tt (node_by_read _ _ a) tt
table_read Endpoint.NodeEligibility method a = by_kind_read method _ _ _ tt (node_by_read _ _ a) tt
table_read Endpoint.NodeReport method a = by_kind_read method _ _ _ tt (node_by_read _ _ a) tt
table_read Endpoint.Policy method a = by_kind_read method _ _ _ (admin_read _ a tt) (policy_put_read a) (admin_read _ a tt)
table_read Endpoint.NewToken method a = by_kind_read method _ _ _ tt (token_read a) tt
table_read Endpoint.Token method a = by_kind_read method _ _ _ tt tt (admin_read _ a tt)

pub asked_read : (a : Asked) → Post (asked a) IsAsRead
unfolding asked
asked_read a = post_any (found a) _ _ (λ place. table_read place.0 place.1 a)

-- ---- with what is drawn for it

module _ {D : Type 0} (draws : D → List ℕ → D → Type 0) where
  admin_drawn : (bearer : Option Name) (command : AdminCommand) (made : Step) (old new : D) →
      DrawsFor draws (Step.Admin bearer command) old made new → HasReadRules command → IsAsRead made
  admin_drawn bearer (AdminCommand.CreateToken token) made old new drawn h = subst IsAsRead (sym drawn.3) tt
  admin_drawn bearer _ made old new drawn h = subst IsAsRead (sym drawn.0) h

  pub drawn_read : (wanted made : Step) (old new : D) → DrawsFor draws wanted old made new → IsAsRead wanted → IsAsRead made
  drawn_read (Step.Admin bearer command) made old new drawn h = admin_drawn bearer command made old new drawn h
  drawn_read _ made old new drawn h = subst IsAsRead (sym drawn.0) h

  pub requested_read : (request : Asked) (wanted made : Step) (drawer drawn : D) → asked request ≡ Ok wanted →
      DrawsFor draws wanted drawer made drawn → IsAsRead made
  requested_read request wanted made drawer drawn asks given =
      drawn_read wanted made drawer drawn given (subst (λ r. Post r IsAsRead) asks (asked_read request))

-- ---- what no request asks for

pub worked_read : (step : Step) → served step ≡ None → IsAsRead step
worked_read (Step.Admin secret (AdminCommand.PutPolicy name policy)) none = let bad : ⊥ = cc in absurd bad
worked_read _ none = tt
