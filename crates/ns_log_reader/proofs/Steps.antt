-- What is written of an entry is read back as the entry.
use Rattle.std.proofs.Common.{◌≡◌, ℕ, ◌^◌, true, false, nat_lt, Option, Some, None, Ok, refl, option_and_then}
use Rattle.serde_json.specs.Find.{as_str, as_u64, as_number}
use Rattle.ns_types.specs.declared.allocation.ClientStatus.{ClientStatus}
use Rattle.ns_types.specs.declared.name.NameKind.TheVariants as NameKind
use Rattle.ns_types.specs.declared.node.NodeStatus.{NodeStatus}
use Rattle.ns_types.specs.declared.step.AdminCommand.{AdminCommand}
use Rattle.ns_types.specs.declared.step.AskCommand.{AskCommand}
use Rattle.ns_types.specs.declared.step.NodeCommand.{NodeCommand}
use Rattle.ns_types.specs.declared.step.Step.{Step}
use Rattle.ns_types.specs.Asking.Good.{IsGoodNodeCommand, is_good_admin, is_good_ask}
use Rattle.ns_types.specs.Asking.Policies.{token_of}
use Rattle.ns_types.specs.State.Limits.{is_good_namespace, is_good_offer, is_good_policy, is_good_quota, is_good_token, is_pool_name, is_text}
use Rattle.ns_types.specs.State.Name.{is_name}
use Rattle.ns_types.specs.State.Names.{Name}
use Rattle.ns_types.specs.Within.{IsGoodStep}
use Rattle.ns_types.specs.Wire.Words.{client_text}
use Rattle.ns_types.proofs.Named.{first_of_both, second_of_both}
use Rattle.ns_json.specs.Logs.{asked, administered, node_call, step_members, entry_json, number_or_null, text_or_null}
use Rattle.ns_json.specs.Reading.{unless_null}
use Rattle.ns_json.specs.Rendering.{object_of, policy_json, token_json}
use Rattle.ns_json.specs.Replies.{Entry}
use Rattle.ns_log_reader.specs.Lines.{HasReadRules, IsAsRead, answer_fits, fits_if_any}
use Rattle.ns_log_reader.specs.Reading.{if_any, member_in, text_in, name_in, number_in}
use Rattle.ns_log_reader.specs.Reading.{flag_in, text_or_null_in, number_or_null_in, registered_in, with_prefix_in}
use Rattle.ns_log_reader.specs.Reading.{with_id_in, with_number_in, deregistered_in, usage_in, events_in}
use Rattle.ns_log_reader.specs.Reading.{asked_in, put_policy_in, new_token_in, put_in, with_name, listing}
use Rattle.ns_log_reader.specs.Reading.{put_namespace_in, put_quota_in, put_pool_in}
use Rattle.ns_log_reader.specs.Reading.{administered_in, put_node_in, status_in, eligible_in, client_of, reported_in, of_pool, node_command_in}
use Rattle.ns_log_reader.specs.Reading.{ask_in, admin_in, node_step_in}
use Rattle.ns_log_reader.specs.Reading.{work_of, work_in, dequeue_in, step_of, step_in, status_code_in, answer_in, entry_in}
use Rattle.ns_log_reader.proofs.Jobs.{registration_back}
use Rattle.ns_log_reader.proofs.Documents.{namespace_back, quota_back, pool_back, policy_back, token_back, offer_back}

number_if_any : (o : Option ℕ) → if_any (λ x. option_and_then as_u64 (as_number x)) (unless_null (number_or_null o)) ≡ Ok o
number_if_any None = refl
number_if_any (Some n) = refl

text_if_any : (o : Option Name) → if_any as_str (unless_null (text_or_null o)) ≡ Ok o
text_if_any None = refl
text_if_any (Some s) = refl

-- ---- commands

asked_back : (c : AskCommand) → is_good_ask c ≡ true → asked_in (asked c).0 (object_of (asked c).1) ≡ Ok c
unfolding asked asked_in text_in number_in flag_in member_in with_prefix_in with_id_in with_number_in deregistered_in registered_in
    usage_in events_in number_or_null_in
asked_back (AskCommand.ListJobs prefix) h = refl
asked_back (AskCommand.Register r) h = rw (number_if_any r.enforced, registration_back r h) refl
asked_back (AskCommand.ReadJob id) h = refl
asked_back (AskCommand.Deregister id purge) h = refl
asked_back (AskCommand.JobAllocations id) h = refl
asked_back (AskCommand.JobEvaluations id) h = refl
asked_back (AskCommand.ListEvaluations prefix) h = refl
asked_back (AskCommand.ReadEvaluation n) h = refl
asked_back (AskCommand.ListAllocations prefix) h = refl
asked_back (AskCommand.ReadAllocation n) h = refl
asked_back (AskCommand.StopAllocation n) h = refl
asked_back AskCommand.ReadNamespace h = refl
asked_back (AskCommand.QuotaUsage quota) h = refl
asked_back (AskCommand.Events index) h = refl

administered_back : (c : AdminCommand) → is_good_admin c ≡ true → HasReadRules c → administered_in (administered c).0 (object_of (administered c).1) ≡ Ok c
unfolding administered administered_in text_in member_in name_in put_in put_namespace_in put_quota_in put_pool_in put_policy_in
    new_token_in with_name listing policy_json token_json
administered_back AdminCommand.ListNamespaces h k = refl
administered_back (AdminCommand.PutNamespace name n) h k =
    rw (namespace_back name n (first_of_both (is_name NameKind.Namespace name) (is_good_namespace n) h)
    (second_of_both (is_name NameKind.Namespace name) (is_good_namespace n) h)) refl
administered_back (AdminCommand.DeleteNamespace name) h k = refl
administered_back AdminCommand.ListQuotas h k = refl
administered_back (AdminCommand.ReadQuota name) h k = refl
administered_back (AdminCommand.PutQuota name q) h k =
    rw (quota_back name q (first_of_both (is_name NameKind.Quota name) (is_good_quota q) h)
    (second_of_both (is_name NameKind.Quota name) (is_good_quota q) h)) refl
administered_back (AdminCommand.DeleteQuota name) h k = refl
administered_back AdminCommand.ListPools h k = refl
administered_back (AdminCommand.PutPool name p) h k =
    rw (pool_back name p (first_of_both (is_pool_name name) (is_text p.description) h) (second_of_both (is_pool_name name) (is_text p.description) h)) refl
administered_back (AdminCommand.DeletePool name) h k = refl
administered_back (AdminCommand.ReadPolicy name) h k = refl
administered_back (AdminCommand.PutPolicy name p) h k =
    let named : is_name NameKind.Policy name ≡ true = first_of_both (is_name NameKind.Policy name) (is_good_policy p) h in
    rw (named, policy_back name p (second_of_both (is_name NameKind.Policy name) (is_good_policy p) h) k) refl
administered_back (AdminCommand.DeletePolicy name) h k = refl
administered_back (AdminCommand.CreateToken t) h k =
    let secret : is_name NameKind.Secret t.secret ≡ true = first_of_both (is_name NameKind.Secret t.secret) (is_good_token (token_of t)) h in
    rw (secret, token_back t (second_of_both (is_name NameKind.Secret t.secret) (is_good_token (token_of t)) h)) refl
administered_back (AdminCommand.DeleteToken accessor) h k = refl

client_back : (c : ClientStatus) → client_of (client_text c) ≡ Ok c
unfolding client_of
client_back ClientStatus.Pending = refl
client_back ClientStatus.Running = refl
client_back ClientStatus.Complete = refl
client_back ClientStatus.Failed = refl
client_back ClientStatus.Lost = refl

node_call_back : (c : NodeCommand) → IsGoodNodeCommand c → node_command_in (node_call c).0 (object_of (node_call c).1) ≡ Ok c
unfolding node_call node_command_in text_in number_in member_in name_in put_node_in status_in eligible_in client_of reported_in of_pool
node_call_back NodeCommand.ReadPool h = refl
node_call_back NodeCommand.ListNodes h = refl
node_call_back (NodeCommand.PutNode name offer) h =
    let named : is_name NameKind.Node name ≡ true = first_of_both (is_name NameKind.Node name) (is_good_offer offer) h.0 in
    rw (named, offer_back offer (second_of_both (is_name NameKind.Node name) (is_good_offer offer) h.0)) refl
node_call_back (NodeCommand.DeleteNode name) h = refl
node_call_back (NodeCommand.SetStatus name NodeStatus.Ready) h = refl
node_call_back (NodeCommand.SetStatus name NodeStatus.Down) h = refl
node_call_back (NodeCommand.SetEligible name true) h = refl
node_call_back (NodeCommand.SetEligible name false) h = refl
node_call_back (NodeCommand.Report name r) h = rw (client_back r.client) refl

-- ---- steps and entries

pub step_back : (s : Step) → IsGoodStep s → IsAsRead s → step_in (object_of (step_members s)) ≡ Ok s
unfolding step_members step_in step_of text_in number_in member_in text_or_null_in ask_in admin_in node_step_in work_of work_in dequeue_in
step_back (Step.Ask ns secret command) h k = rw (text_if_any secret, asked_back command h) refl
step_back (Step.Admin secret command) h k = rw (text_if_any secret, administered_back command h k) refl
step_back (Step.Node pool secret command) h k = rw (text_if_any secret, node_call_back command h) refl
step_back (Step.Dequeue worker ns n) h k = refl
step_back (Step.Snap worker ns) h k = refl
step_back (Step.Submit worker ns) h k = refl
step_back (Step.Apply worker ns) h k = refl
step_back (Step.Finish worker ns) h k = refl
step_back (Step.Nack worker ns) h k = refl

pub entry_back : (e : Entry) → IsGoodStep e.0 → IsAsRead e.0 → answer_fits e.1 ≡ true → entry_in (entry_json e) ≡ Ok e
unfolding entry_json entry_in answer_in status_code_in text_in number_in member_in number_or_null_in
entry_back e h k fits =
    let status : nat_lt e.1.status (2 ^ 16) ≡ true = first_of_both (nat_lt e.1.status (2 ^ 16)) (fits_if_any e.1.index) fits in
    rw (number_if_any e.1.index, status, step_back e.0 h k) refl
