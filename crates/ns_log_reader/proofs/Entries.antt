-- The JSON of an entry is spelled well.
use Rattle.std.proofs.Common.{◌≡◌, ℕ, suc, ◌<◌, ◌≤◌, ◌^◌, List, [], ◌∷◌, ◌++◌, length, map, Bool, true, false, ◌&&◌, nat_le, nat_lt, Option, Some, None}
use Rattle.std.proofs.Common.{Ordering, Less, Equal, Greater, refl, ap, subst, ◌∙◌, arith}
use Rattle.std.proofs.lemmas.Bool.{leb-true, ltb-true, lt-ltb, false≢true}
use Rattle.std.proofs.lemmas.List.Folds.{list_all-append}
use Rattle.std.specs.FinMap.{from_entries, entries_sorted}
use Rattle.std.specs.FinMap.Entries.{is_sorted, below_all}
use Rattle.std.specs.List.{list_all}
use Rattle.std.specs.Ordering.{is_lt, ordering_reverse}
use Rattle.std.specs.Prelude.{T}
use Rattle.serde_json.specs.Data.{string}
use Rattle.serde_json.specs.View.{items_of}
use Rattle.ns_types.proofs.Amounts.{true_at}
use Rattle.ns_types.specs.declared.job.Constraint.{Constraint}
use Rattle.ns_types.specs.declared.job.Group.{Group}
use Rattle.ns_types.specs.declared.job.Registration.{Registration}
use Rattle.ns_types.specs.declared.job.Task.{Task}
use Rattle.ns_types.specs.declared.job.TaskResources.{TaskResources}
use Rattle.ns_types.specs.declared.node.Attribute.{Attribute}
use Rattle.ns_types.specs.declared.node.Offer.{Offer}
use Rattle.ns_types.specs.declared.records.Namespace.{Namespace}
use Rattle.ns_types.specs.declared.records.Quota.{Quota}
use Rattle.ns_types.specs.declared.resources.Limit.{Limit}
use Rattle.ns_types.specs.declared.resources.Limits.{Limits}
use Rattle.ns_types.specs.declared.resources.Resources.{Resources}
use Rattle.ns_types.specs.declared.step.AdminCommand.{AdminCommand}
use Rattle.ns_types.specs.declared.step.AskCommand.{AskCommand}
use Rattle.ns_types.specs.declared.step.NewToken.{NewToken}
use Rattle.ns_types.specs.declared.step.NodeCommand.{NodeCommand}
use Rattle.ns_types.specs.declared.step.Step.{Step}
use Rattle.ns_types.specs.declared.name.NameKind.TheVariants as NameKind
use Rattle.ns_types.specs.Asking.Good.{IsGoodNodeCommand, is_good_admin, is_good_ask}
use Rattle.ns_types.specs.State.Limits.{is_amount, is_between, is_good_constraint, is_good_task, is_good_group}
use Rattle.ns_types.specs.State.Limits.{is_good_registration, is_good_offer, are_limits, are_quantities, is_quantity}
use Rattle.ns_types.specs.State.Limits.{is_limit, is_good_quota, is_text, IsInOrder}
use Rattle.ns_types.specs.State.Name.{is_name}
use Rattle.ns_types.specs.State.Names.{Name, name_cmp}
use Rattle.ns_types.specs.State.Resources.{limits_in, Resource, Cpu, Memory, Disk, limit_on, quantity}
use Rattle.ns_types.specs.Within.{IsGoodStep}
use Rattle.ns_types.proofs.Named.{first_of_both, second_of_both, names}
use Rattle.ns_json.specs.Logs.{asked, administered, node_call, step_members, entry_json, number_or_null, text_or_null}
use Rattle.ns_json.specs.Logs.{registration_json, offer_json, new_token_json}
use Rattle.ns_json.specs.Rendering.{object_of, members_of, allowed_json, pools_json, namespace_json, limit_json, limits_json, quota_json}
use Rattle.ns_json.specs.Rendering.{pool_json, policy_json, token_json, task_resources_json, task_json, group_json, constraint_json, attributes_json}
use Rattle.ns_json.specs.Replies.{Entry}
use Rattle.ns_log_reader.specs.Lines.{ask_fits, node_command_fits, step_fits, answer_fits, fits, fits_if_any}
use Rattle.ns_log_reader.proofs.Spelled.{is_after, is_greater, is_spelled, items_spelled, members_spelled, list_spelled}
use Rattle.ns_log_reader.proofs.Jobs.{group_parts, registration_parts}

-- a number within a bound fits
small : (low most n : ℕ) → is_between low most n ≡ true → most < 2 ^ 64 → nat_lt n (2 ^ 64) ≡ true
small low most n h fits =
    let le : n ≤ most = leb-true n most (second_of_both (nat_le low n) (nat_le n most) h) in
    lt-ltb n (2 ^ 64) (omega arith)

number_spelled : (n : ℕ) (o : Option ℕ) → fits_if_any o ≡ true → is_spelled n (number_or_null o) ≡ true
number_spelled n None h = refl
number_spelled n (Some m) h = h

text_spelled : (n : ℕ) (o : Option Name) → is_spelled n (text_or_null o) ≡ true
text_spelled n None = refl
text_spelled n (Some s) = refl

texts_spelled : (n : ℕ) (xs : List Name) → items_spelled n (items_of (map (λ t. string t) xs)) ≡ true
texts_spelled n [] = refl
texts_spelled n (x ∷ xs) = texts_spelled n xs

-- ---- registrations

resources_spelled : (r : TaskResources) → are_quantities r ≡ true → is_spelled 2 (task_resources_json r) ≡ true
resources_spelled r h =
    let cpu = small 1 2147483647 r.cpu (first_of_both (is_quantity r.cpu) (is_quantity r.memory) h) (omega arith) in
    let memory = small 1 2147483647 r.memory (second_of_both (is_quantity r.cpu) (is_quantity r.memory) h) (omega arith) in
    rw (cpu, memory) refl

task_spelled : (t : Task) → is_good_task t ≡ true → is_spelled 3 (task_json t) ≡ true
unfolding task_json
task_spelled t h = rw (resources_spelled t.resources (second_of_both (is_name NameKind.Task t.name) (are_quantities t.resources) h)) refl

group_spelled : (g : Group) → is_good_group g ≡ true → is_spelled 5 (group_json g) ≡ true
unfolding group_json
group_spelled g h =
    let parts = group_parts g h in
    let count : nat_lt g.count (2 ^ 64) ≡ true = let le = leb-true g.count 1000 parts.count in lt-ltb g.count (2 ^ 64) (omega arith) in
    let tasks = list_spelled 3 task_json is_good_task g.tasks task_spelled parts.tasks in
    rw (count, small 1 2147483647 g.disk parts.disk (omega arith), tasks) refl

constraint_spelled : (c : Constraint) → is_good_constraint c ≡ true → is_spelled 5 (constraint_json c) ≡ true
unfolding constraint_json
constraint_spelled c h = refl

registration_spelled : (r : Registration) → is_good_registration r ≡ true → is_spelled 7 (registration_json r) ≡ true
unfolding registration_json
registration_spelled r h =
    let parts = registration_parts r h in
    let constraints = list_spelled 5 constraint_json is_good_constraint r.constraints constraint_spelled parts.constraints in
    let groups = list_spelled 5 group_json is_good_group r.groups group_spelled parts.groups in
    rw (constraints, small 1 100 r.priority parts.priority (omega arith), groups) refl

-- ---- records

allowed_spelled : (n : ℕ) (o : Option (List Name)) → is_spelled (suc n) (allowed_json o) ≡ true
allowed_spelled n None = refl
allowed_spelled n (Some xs) = texts_spelled n xs

namespace_spelled : (name : Name) (n : Namespace) → is_spelled 7 (namespace_json (record { name = name; row = n })) ≡ true
unfolding namespace_json pools_json
namespace_spelled name n = rw (allowed_spelled 4 n.allowed, texts_spelled 4 n.denied) refl

limit_spelled : (n : ℕ) (l : Limit) → is_limit l ≡ true → is_spelled n (limit_json l) ≡ true
limit_spelled n Limit.Unlimited h = refl
limit_spelled n (Limit.AtMost most) h = small 1 (2 ^ 53) most h (omega arith)
limit_spelled n Limit.Nothing h = refl

limits_spelled : (o : Option Limits) → are_limits (limits_in o) ≡ true → is_spelled 6 (limits_json o) ≡ true
limits_spelled None h = refl
limits_spelled (Some l) h =
    let spelled : (r : Resource) → is_spelled 3 (limit_json (limit_on r l)) ≡ true =
    λ r. limit_spelled 3 (limit_on r l) (true_at (λ r. is_limit (limit_on r l)) h r) in
    rw (spelled Cpu, spelled Disk, spelled Memory) refl

quota_spelled : (name : Name) (q : Quota) → is_good_quota q ≡ true → is_spelled 7 (quota_json (record { name = name; row = q })) ≡ true
unfolding quota_json
quota_spelled name q good =
    rw (limits_spelled q.limits (second_of_both (is_text q.description) (are_limits (limits_in q.limits)) good)) refl

token_spelled : (t : NewToken) → is_spelled 7 (new_token_json t) ≡ true
unfolding token_json
token_spelled t = rw (texts_spelled 5 t.policies) refl

-- ---- nodes

true_from : (b : Bool) → T b → b ≡ true
true_from true h = refl
true_from false h = absurd h

abbrev pairs : List Attribute → List (Name × Name)
pairs attributes = map (λ a. (a.key, a.value)) attributes

greater_by : (o r : Ordering) → r ≡ ordering_reverse o → is_lt o ≡ true → is_greater r ≡ true
greater_by Less r e h = ap is_greater e
greater_by Equal r e h = absurd (false≢true h)
greater_by Greater r e h = absurd (false≢true h)

turned : (l k : Name) → is_lt (name_cmp l k) ≡ true → is_greater (name_cmp k l) ≡ true
turned l k h = greater_by (name_cmp l k) (name_cmp k l) (names.antisymm k l) h

after_each : (before : List Name) (a : Attribute) (more : List Attribute) → list_all (λ l. below_all name_cmp l (pairs (a ∷ more))) before ≡ true →
    (is_after a.key before ≡ true) × (list_all (λ l. below_all name_cmp l (pairs more)) before ≡ true)
after_each [] a more h = (refl, refl)
after_each (l ∷ before) a more h =
    let here = first_of_both (below_all name_cmp l (pairs (a ∷ more))) (list_all (λ x. below_all name_cmp x (pairs (a ∷ more))) before) h in
    let rest = after_each before a more (second_of_both (below_all name_cmp l (pairs (a ∷ more))) _ h) in
    let greater = turned l a.key (first_of_both (is_lt (name_cmp l a.key)) (below_all name_cmp l (pairs more)) here) in
    let below : below_all name_cmp l (pairs more) ≡ true = second_of_both (is_lt (name_cmp l a.key)) (below_all name_cmp l (pairs more)) here in
    (rw (greater, rest.0) refl, rw (below, rest.1) refl)

members_in_order : (n : ℕ) (before : List Name) (more : List Attribute) → list_all (λ l. below_all name_cmp l (pairs more)) before ≡ true →
    is_sorted name_cmp (pairs more) ≡ true → members_spelled n before (members_of (map (λ a. (a.key, string a.value)) more)) ≡ true
members_in_order n before [] h sorted = refl
members_in_order n before (a ∷ more) h sorted =
    let both = after_each before a more h in
    let below : below_all name_cmp a.key (pairs more) ≡ true = first_of_both (below_all name_cmp a.key (pairs more)) (is_sorted name_cmp (pairs more)) sorted in
    let next : list_all (λ l. below_all name_cmp l (pairs more)) (before ++ a.key ∷ []) ≡ true =
    list_all-append (λ l. below_all name_cmp l (pairs more)) before (a.key ∷ []) ∙ rw (both.1, below) refl in
    let rest = members_in_order n (before ++ a.key ∷ []) more next
    (second_of_both (below_all name_cmp a.key (pairs more)) (is_sorted name_cmp (pairs more)) sorted) in
    rw (both.0, rest) refl

attributes_spelled : (o : Offer) → IsInOrder o → is_spelled 6 (attributes_json o.attributes) ≡ true
attributes_spelled o h =
    let sorted = subst (λ es. T (is_sorted name_cmp es)) h (entries_sorted (from_entries {R = name_cmp} (pairs o.attributes))) in
    members_in_order 5 [] o.attributes refl (true_from (is_sorted name_cmp (pairs o.attributes)) sorted)

offer_spelled : (o : Offer) → is_good_offer o ≡ true → IsInOrder o → is_spelled 7 (offer_json o) ≡ true
unfolding offer_json
offer_spelled o good order =
    let amount = second_of_both (is_text o.class && nat_le (length o.attributes) 64 && list_all (λ a. is_text a.key && is_text a.value) o.attributes)
    (is_amount o.capacity) good in
    let good = true_at (λ r. is_quantity (quantity r o.capacity)) amount in
    rw (
      attributes_spelled o order,
      small 1 2147483647 o.capacity.cpu (good Cpu) (omega arith),
      small 1 2147483647 o.capacity.disk (good Disk) (omega arith),
      small 1 2147483647 o.capacity.memory (good Memory) (omega arith),
    ) refl

-- ---- commands

asked_spelled : (c : AskCommand) → is_good_ask c ≡ true → ask_fits c ≡ true → is_spelled 8 (object_of (asked c).1) ≡ true
unfolding asked
asked_spelled (AskCommand.ListJobs prefix) h k = refl
asked_spelled (AskCommand.Register r) h k = rw (registration_spelled r h, number_spelled 7 r.enforced k) refl
asked_spelled (AskCommand.ReadJob id) h k = refl
asked_spelled (AskCommand.Deregister id purge) h k = refl
asked_spelled (AskCommand.JobAllocations id) h k = refl
asked_spelled (AskCommand.JobEvaluations id) h k = refl
asked_spelled (AskCommand.ListEvaluations prefix) h k = refl
asked_spelled (AskCommand.ReadEvaluation n) h k = rw k refl
asked_spelled (AskCommand.ListAllocations prefix) h k = refl
asked_spelled (AskCommand.ReadAllocation n) h k = rw k refl
asked_spelled (AskCommand.StopAllocation n) h k = rw k refl
asked_spelled AskCommand.ReadNamespace h k = refl
asked_spelled (AskCommand.QuotaUsage quota) h k = refl
asked_spelled (AskCommand.Events index) h k = rw k refl

administered_spelled : (c : AdminCommand) → is_good_admin c ≡ true → is_spelled 8 (object_of (administered c).1) ≡ true
unfolding administered pool_json policy_json
administered_spelled AdminCommand.ListNamespaces h = refl
administered_spelled (AdminCommand.PutNamespace name n) h = rw (namespace_spelled name n) refl
administered_spelled (AdminCommand.DeleteNamespace name) h = refl
administered_spelled AdminCommand.ListQuotas h = refl
administered_spelled (AdminCommand.ReadQuota name) h = refl
administered_spelled (AdminCommand.PutQuota name q) h =
    rw (quota_spelled name q (second_of_both (is_name NameKind.Quota name) (is_good_quota q) h)) refl
administered_spelled (AdminCommand.DeleteQuota name) h = refl
administered_spelled AdminCommand.ListPools h = refl
administered_spelled (AdminCommand.PutPool name p) h = refl
administered_spelled (AdminCommand.DeletePool name) h = refl
administered_spelled (AdminCommand.ReadPolicy name) h = refl
administered_spelled (AdminCommand.PutPolicy name p) h = refl
administered_spelled (AdminCommand.DeletePolicy name) h = refl
administered_spelled (AdminCommand.CreateToken t) h = rw (token_spelled t) refl
administered_spelled (AdminCommand.DeleteToken accessor) h = refl

node_call_spelled : (c : NodeCommand) → IsGoodNodeCommand c → node_command_fits c ≡ true → is_spelled 8 (object_of (node_call c).1) ≡ true
unfolding node_call
node_call_spelled NodeCommand.ReadPool h k = refl
node_call_spelled NodeCommand.ListNodes h k = refl
node_call_spelled (NodeCommand.PutNode name offer) h k =
    rw (offer_spelled offer (second_of_both (is_name NameKind.Node name) (is_good_offer offer) h.0) h.1) refl
node_call_spelled (NodeCommand.DeleteNode name) h k = refl
node_call_spelled (NodeCommand.SetStatus name status) h k = refl
node_call_spelled (NodeCommand.SetEligible name eligible) h k = refl
node_call_spelled (NodeCommand.Report name r) h k = rw k refl

-- ---- entries

step_spelled : (s : Step) → IsGoodStep s → step_fits s ≡ true → is_spelled 9 (object_of (step_members s)) ≡ true
unfolding step_members
step_spelled (Step.Ask ns secret command) h k = rw (asked_spelled command h k, text_spelled 8 secret) refl
step_spelled (Step.Admin secret command) h k = rw (administered_spelled command h, text_spelled 8 secret) refl
step_spelled (Step.Node pool secret command) h k = rw (node_call_spelled command h k, text_spelled 8 secret) refl
step_spelled (Step.Dequeue worker ns n) h k =
    let first : fits worker ≡ true = first_of_both (fits worker) (fits n) k in
    let second : fits n ≡ true = second_of_both (fits worker) (fits n) k in
    rw (first, second) refl
step_spelled (Step.Snap worker ns) h k = rw k refl
step_spelled (Step.Submit worker ns) h k = rw k refl
step_spelled (Step.Apply worker ns) h k = rw k refl
step_spelled (Step.Finish worker ns) h k = rw k refl
step_spelled (Step.Nack worker ns) h k = rw k refl

pub entry_spelled : (e : Entry) → IsGoodStep e.0 → step_fits e.0 ≡ true → answer_fits e.1 ≡ true → is_spelled 10 (entry_json e) ≡ true
unfolding entry_json
entry_spelled e good step answer =
    let few : nat_lt e.1.status (2 ^ 16) ≡ true = first_of_both (nat_lt e.1.status (2 ^ 16)) (fits_if_any e.1.index) answer in
    let status : nat_lt e.1.status (2 ^ 64) ≡ true = let lt = ltb-true e.1.status (2 ^ 16) few in lt-ltb e.1.status (2 ^ 64) (omega arith) in
    let index = number_spelled 9 e.1.index (second_of_both (nat_lt e.1.status (2 ^ 16)) (fits_if_any e.1.index) answer) in
    rw (index, status, step_spelled e.0 good step) refl
