-- For whom a secret stands, what its policies grant, and which right each request needs.
use Rattle.std.specs.Prelude.{◌≡◌, Bool, true, false, ◌||◌, IsFalse, List, [], flat_map, Option, Some, None}
use Rattle.std.proofs.Common.{refl, sym, ap, subst, ◌∙◌}
use Rattle.std.specs.FinMap.{get}
use Rattle.std.specs.List.{Contains}
use Rattle.std.specs.Option.{option_map_or}
use Rattle.ns_types.specs.declared.acl.Policy.{Policy}
use Rattle.ns_types.specs.declared.acl.Rights.{Rights}
use Rattle.ns_types.specs.declared.acl.PoolRights.{PoolRights}
use Rattle.ns_types.specs.declared.acl.Rule.{Rule}
use Rattle.ns_types.specs.declared.acl.RuleKind.{RuleKind}
use Rattle.ns_types.specs.declared.acl.Token.{Token}
use Rattle.ns_types.specs.declared.step.AdminCommand.{AdminCommand}
use Rattle.ns_types.specs.declared.step.AskCommand.{AskCommand}
use Rattle.ns_types.specs.declared.step.NodeCommand.{NodeCommand}
use Rattle.ns_types.specs.declared.step.Step.{Step}
use Rattle.ns_types.specs.Access.Rights.{Bearer, Unknown, Manager, Holder, bearer, bearer_with, rights_of, rights_for, pool_rights_of, pool_rights_for}
use Rattle.ns_types.specs.Access.Rights.{is_manager, is_known, is_of_kind, rules_of}
use Rattle.ns_types.specs.Asking.Policies.{may_administer}
use Rattle.ns_types.specs.Settling.Outcome.{found}
use Rattle.ns_types.specs.State.Names.{Name}
use Rattle.ns_types.specs.State.Rows.{Acl}
use Rattle.ns_types.proofs.Lists.{not_both}
use Rattle.ns_laws.specs.Secrets as law
use Rattle.ns_laws.proofs.Elements.{Has, contains_from, filter_has, flat_has, has_filter, has_flat, has_from}
use Rattle.ns_audit.proofs.RefusalLemmas.{denied_without_right}
use Rattle.ns_audit.proofs.RightsLemmas.{denied_without}

-- ---- for whom a secret stands

holds : (acl : Acl) (secret : Option Name) (policies : List Name) → law.HasPolicies acl secret policies → bearer acl secret ≡ Holder policies
holds acl secret policies law.anonymous = refl
holds acl secret policies (law.of_token own token found kind) =
    ap (λ (o : Option Token). option_map_or (λ token. bearer_with token.kind token.policies) o Unknown) found
    ∙ ap (λ k. bearer_with k token.policies) kind

manages : Bearer → Bool
manages Unknown = false
manages Manager = true
manages (Holder policies) = false

knows : Bearer → Bool
knows Unknown = false
knows Manager = true
knows (Holder policies) = true

no_manager : (acl : Acl) (secret : Option Name) → is_manager acl secret ≡ false → (command : AdminCommand) → law.is_for_all command ≡ false →
    may_administer acl secret command ≡ false
no_manager acl secret m AdminCommand.ListNamespaces e = not_both refl e
no_manager acl secret m (AdminCommand.PutNamespace name namespace) e = m
no_manager acl secret m (AdminCommand.DeleteNamespace name) e = m
no_manager acl secret m AdminCommand.ListQuotas e = m
no_manager acl secret m (AdminCommand.ReadQuota name) e = m
no_manager acl secret m (AdminCommand.PutQuota name quota) e = m
no_manager acl secret m (AdminCommand.DeleteQuota name) e = m
no_manager acl secret m AdminCommand.ListPools e = not_both refl e
no_manager acl secret m (AdminCommand.PutPool name pool) e = m
no_manager acl secret m (AdminCommand.DeletePool name) e = m
no_manager acl secret m (AdminCommand.ReadPolicy name) e = m
no_manager acl secret m (AdminCommand.PutPolicy name policy) e = m
no_manager acl secret m (AdminCommand.DeletePolicy name) e = m
no_manager acl secret m (AdminCommand.CreateToken new) e = m
no_manager acl secret m (AdminCommand.DeleteToken accessor) e = m

known_lists : (acl : Acl) (secret : Option Name) → is_known acl secret ≡ true → (command : AdminCommand) → law.is_for_all command ≡ true →
    may_administer acl secret command ≡ true
known_lists acl secret k AdminCommand.ListNamespaces e = k
known_lists acl secret k (AdminCommand.PutNamespace name namespace) e = not_both e refl
known_lists acl secret k (AdminCommand.DeleteNamespace name) e = not_both e refl
known_lists acl secret k AdminCommand.ListQuotas e = not_both e refl
known_lists acl secret k (AdminCommand.ReadQuota name) e = not_both e refl
known_lists acl secret k (AdminCommand.PutQuota name quota) e = not_both e refl
known_lists acl secret k (AdminCommand.DeleteQuota name) e = not_both e refl
known_lists acl secret k AdminCommand.ListPools e = k
known_lists acl secret k (AdminCommand.PutPool name pool) e = not_both e refl
known_lists acl secret k (AdminCommand.DeletePool name) e = not_both e refl
known_lists acl secret k (AdminCommand.ReadPolicy name) e = not_both e refl
known_lists acl secret k (AdminCommand.PutPolicy name policy) e = not_both e refl
known_lists acl secret k (AdminCommand.DeletePolicy name) e = not_both e refl
known_lists acl secret k (AdminCommand.CreateToken new) e = not_both e refl
known_lists acl secret k (AdminCommand.DeleteToken accessor) e = not_both e refl

pub only_managers_administer : law.OnlyManagersAdminister
unfolding manages
only_managers_administer s secret policies command has other =
    denied_without (Step.Admin secret command) s (no_manager s.acl secret (ap manages (holds s.acl secret policies has)) command other)

pub all_may_list : law.AllMayList
unfolding knows
all_may_list acl secret policies command has lists = known_lists acl secret (ap knows (holds acl secret policies has)) command lists

-- ---- which rights policies give

pub rights_are_granted : law.RightsAreGranted
unfolding rights_of
rights_are_granted acl secret policies ns has =
    let is = ap (rights_for acl ns) (holds acl secret policies has) in record {
      list_jobs = ap (λ (r : Rights). r.list_jobs) is;
      read_job = ap (λ (r : Rights). r.read_job) is;
      submit_job = ap (λ (r : Rights). r.submit_job) is;
      alloc_lifecycle = ap (λ (r : Rights). r.alloc_lifecycle) is;
    }

pub pool_rights_are_granted : law.PoolRightsAreGranted
unfolding pool_rights_of
pool_rights_are_granted acl secret policies pool has =
    let is = ap (pool_rights_for acl pool) (holds acl secret policies has) in
    record { read = ap (λ (r : PoolRights). r.read) is; write = ap (λ (r : PoolRights). r.write) is }

-- ---- the rules of policies

kind_is : (kind : RuleKind) (rule : Rule) → is_of_kind kind rule ≡ true → rule.kind ≡ kind
kind_is kind rule e = by kind rule.kind refl e
  where
    by : (kind its : RuleKind) → rule.kind ≡ its → is_of_kind kind rule ≡ true → rule.kind ≡ kind
    by RuleKind.Namespace RuleKind.Namespace is e = is
    by RuleKind.Pool RuleKind.Pool is e = is
    by RuleKind.Namespace RuleKind.Pool is e = not_both e (ap (λ k. elim k [ RuleKind.Namespace ↦ true | RuleKind.Pool ↦ false ]) is)
    by RuleKind.Pool RuleKind.Namespace is e = not_both e (ap (λ k. elim k [ RuleKind.Namespace ↦ false | RuleKind.Pool ↦ true ]) is)

is_kind : (kind : RuleKind) (rule : Rule) → rule.kind ≡ kind → is_of_kind kind rule ≡ true
is_kind RuleKind.Namespace rule e = ap (λ k. elim k [ RuleKind.Namespace ↦ true | RuleKind.Pool ↦ false ]) e
is_kind RuleKind.Pool rule e = ap (λ k. elim k [ RuleKind.Namespace ↦ false | RuleKind.Pool ↦ true ]) e

abbrev rules_in : Acl → Name → List Rule
rules_in acl name = option_map_or (λ policy. policy.rules) (get acl.policies name) []

in_policy : (acl : Acl) (name : Name) (rule : Rule) → Has (rules_in acl name) rule → (policy : Policy) × (get acl.policies name ≡ Some policy) ×
    Has policy.rules rule
in_policy acl name rule h = by (get acl.policies name) refl h
  where
    by : (o : Option Policy) → get acl.policies name ≡ o → Has (option_map_or (λ policy. policy.rules) o []) rule →
        (policy : Policy) × (get acl.policies name ≡ Some policy) × Has policy.rules rule
    by None is h = absurd h
    by (Some policy) is h = (policy, is, h)

pub rules_are_of_policies : law.RulesAreOfPolicies
rules_are_of_policies acl kind policies rule = (to, from)
  where
    to : Contains (rules_of acl kind policies) rule → law.StandsIn acl kind policies rule
    to h =
        let kept = has_filter (is_of_kind kind) (flat_map (rules_in acl) policies) rule (has_from (rules_of acl kind policies) rule h.0 h.1 h.2) in
        let flat = has_flat (rules_in acl) rule policies kept.0 in
        let its = in_policy acl flat.0 rule flat.2 in record {
          name = flat.0;
          named = contains_from policies flat.0 flat.1;
          policy = its.0;
          there = its.1;
          stands = contains_from its.0.rules rule its.2;
          of_kind = kind_is kind rule kept.1;
        }

    from : law.StandsIn acl kind policies rule → Contains (rules_of acl kind policies) rule
    from h = contains_from (rules_of acl kind policies) rule (filter_has (is_of_kind kind) (flat_map (rules_in acl) policies) rule
        (flat_has (rules_in acl) rule policies h.name (has_from policies h.name h.named.0 h.named.1 h.named.2)
        (subst (λ (o : Option Policy). Has (option_map_or (λ policy. policy.rules) o []) rule) (sym h.there)
        (has_from h.policy.rules rule h.stands.0 h.stands.1 h.stands.2)))
        (is_kind kind rule h.of_kind))

-- ---- which right a request needs

pub job_writes_need_submit : law.JobWritesNeedSubmit
job_writes_need_submit s secret ns id registration purge = (
  denied_without_right (Step.Ask ns secret (AskCommand.Register registration)) s,
  denied_without_right (Step.Ask ns secret (AskCommand.Deregister id purge)) s,
)

pub stop_needs_lifecycle : law.StopNeedsLifecycle
stop_needs_lifecycle s secret ns n = denied_without_right (Step.Ask ns secret (AskCommand.StopAllocation n)) s

pub list_needs_list_jobs : law.ListNeedsListJobs
list_needs_list_jobs s secret ns prefix = denied_without_right (Step.Ask ns secret (AskCommand.ListJobs prefix)) s

pub reads_need_read_job : law.ReadsNeedReadJob
reads_need_read_job s secret ns (AskCommand.ListJobs prefix) e = not_both refl e
reads_need_read_job s secret ns (AskCommand.Register r) e = not_both refl e
reads_need_read_job s secret ns (AskCommand.ReadJob id) e = denied_without_right (Step.Ask ns secret (AskCommand.ReadJob id)) s
reads_need_read_job s secret ns (AskCommand.Deregister id purge) e = not_both refl e
reads_need_read_job s secret ns (AskCommand.JobAllocations id) e = denied_without_right (Step.Ask ns secret (AskCommand.JobAllocations id)) s
reads_need_read_job s secret ns (AskCommand.JobEvaluations id) e = denied_without_right (Step.Ask ns secret (AskCommand.JobEvaluations id)) s
reads_need_read_job s secret ns (AskCommand.ListEvaluations prefix) e = denied_without_right (Step.Ask ns secret (AskCommand.ListEvaluations prefix)) s
reads_need_read_job s secret ns (AskCommand.ReadEvaluation n) e = denied_without_right (Step.Ask ns secret (AskCommand.ReadEvaluation n)) s
reads_need_read_job s secret ns (AskCommand.ListAllocations prefix) e = denied_without_right (Step.Ask ns secret (AskCommand.ListAllocations prefix)) s
reads_need_read_job s secret ns (AskCommand.ReadAllocation n) e = denied_without_right (Step.Ask ns secret (AskCommand.ReadAllocation n)) s
reads_need_read_job s secret ns (AskCommand.StopAllocation n) e = not_both refl e
reads_need_read_job s secret ns AskCommand.ReadNamespace e = not_both refl e
reads_need_read_job s secret ns (AskCommand.QuotaUsage quota) e = denied_without_right (Step.Ask ns secret (AskCommand.QuotaUsage quota)) s
reads_need_read_job s secret ns (AskCommand.Events index) e = denied_without_right (Step.Ask ns secret (AskCommand.Events index)) s

none_of_four : (a b c d : Bool) → (a || b || c || d) ≡ false → IsFalse a × IsFalse b × IsFalse c × IsFalse d
none_of_four true b c d e = not_both refl e
none_of_four false true c d e = not_both refl e
none_of_four false false true d e = not_both refl e
none_of_four false false false true e = not_both refl e
none_of_four false false false false e = (refl, refl, refl, refl)

pub namespace_needs_some : law.NamespaceNeedsSome
namespace_needs_some s secret ns =
    let rights = rights_of s.acl secret ns in
    let denied = denied_without_right (Step.Ask ns secret AskCommand.ReadNamespace) s in (
      (λ e. none_of_four rights.list_jobs rights.read_job rights.submit_job rights.alloc_lifecycle (denied.0 e)),
      (λ none. denied.1 (λ i. none.0 i || none.1 i || none.2 i || none.3 i)),
    )

pub pool_reads_need_read : law.PoolReadsNeedRead
pool_reads_need_read s secret pool NodeCommand.ReadPool e = denied_without_right (Step.Node pool secret NodeCommand.ReadPool) s
pool_reads_need_read s secret pool NodeCommand.ListNodes e = denied_without_right (Step.Node pool secret NodeCommand.ListNodes) s
pool_reads_need_read s secret pool (NodeCommand.PutNode name offer) e = not_both e refl
pool_reads_need_read s secret pool (NodeCommand.DeleteNode name) e = not_both e refl
pool_reads_need_read s secret pool (NodeCommand.SetStatus name status) e = not_both e refl
pool_reads_need_read s secret pool (NodeCommand.SetEligible name eligible) e = not_both e refl
pool_reads_need_read s secret pool (NodeCommand.Report name r) e = not_both e refl

pub pool_writes_need_write : law.PoolWritesNeedWrite
pool_writes_need_write s secret pool NodeCommand.ReadPool e = not_both refl e
pool_writes_need_write s secret pool NodeCommand.ListNodes e = not_both refl e
pool_writes_need_write s secret pool (NodeCommand.PutNode name offer) e = denied_without_right (Step.Node pool secret (NodeCommand.PutNode name offer)) s
pool_writes_need_write s secret pool (NodeCommand.DeleteNode name) e = denied_without_right (Step.Node pool secret (NodeCommand.DeleteNode name)) s
pool_writes_need_write s secret pool (NodeCommand.SetStatus name status) e = denied_without_right (Step.Node pool secret (NodeCommand.SetStatus name status)) s
pool_writes_need_write s secret pool (NodeCommand.SetEligible name eligible) e =
    denied_without_right (Step.Node pool secret (NodeCommand.SetEligible name eligible)) s
pool_writes_need_write s secret pool (NodeCommand.Report name r) e = denied_without_right (Step.Node pool secret (NodeCommand.Report name r)) s
