-- The refusals of each request: each has a reason, and the first reason counts.
use Rattle.std.specs.Prelude.{◌≡◌, ◌≤◌, ℕ, Bool, true, false, cond, not, ◌&&◌, ◌||◌, Decides, List, Option, Some, None, Ok, Err, is_some, nat_le}
use Rattle.std.proofs.Common.{◌⊎◌, inl, inr, refl, sym, ap, subst, ◌∙◌, arith}
use Rattle.std.proofs.lemmas.Bool.{and_from, false_from_ne_true, leb-true, le-leb, or_cases, or_left, or_right}
use Rattle.std.proofs.lemmas.Bool.Decides.{Decides-at, Decides-or}
use mathlib.Core.Bool.{or_assoc}
use Rattle.std.specs.FinMap.{get, len, contains_key}
use Rattle.std.specs.List.{list_all}
use Rattle.std.specs.Option.{option_map_or, option_and_then}
use Rattle.ns_types.specs.declared.acl.Token.{Token}
use Rattle.ns_types.specs.declared.allocation.Allocation.{Allocation}
use Rattle.ns_types.specs.declared.job.Job.{Job}
use Rattle.ns_types.specs.declared.job.Registration.{Registration}
use Rattle.ns_types.specs.declared.node.Node.{Node}
use Rattle.ns_types.specs.declared.records.Namespace.{Namespace}
use Rattle.ns_types.specs.declared.refusal.Member.{Member}
use Rattle.ns_types.specs.declared.refusal.Refusal.{Refusal}
use Rattle.ns_types.specs.declared.reply.Content.{Content}
use Rattle.ns_types.specs.declared.step.AdminCommand.{AdminCommand}
use Rattle.ns_types.specs.declared.step.AskCommand.{AskCommand}
use Rattle.ns_types.specs.declared.step.NewToken.{NewToken}
use Rattle.ns_types.specs.declared.step.NodeCommand.{NodeCommand}
use Rattle.ns_types.specs.declared.step.Report.{Report}
use Rattle.ns_types.specs.declared.step.Step.{Step}
use Rattle.ns_types.specs.Access.Sharing.{permits}
use Rattle.ns_types.specs.Asking.Admins.{delete_namespace, delete_pool, delete_quota, forbids_put, has_live, has_open, is_full, is_pool_in_use, lacks_allowed}
use Rattle.ns_types.specs.Asking.Admins.{lacks_pool, lacks_quota, looks_to_pool, most_rows, names_pool, put_namespace, put_pool_record, put_quota, read_quota}
use Rattle.ns_types.specs.Asking.Asks.{ask, asked_in, has_no_room, is_outdated, pool_of}
use Rattle.ns_types.specs.Asking.Nodes.{ask_pool, asked_in_pool, is_on, may_become, most_nodes, same_client}
use Rattle.ns_types.specs.Asking.Policies.{administer, bootstrap_accessor, create_token, delete_policy, delete_token, has_accessor, put_policy, read_policy}
use Rattle.ns_types.specs.Asking.Policies.{secret_of, with_acl, with_world}
use Rattle.ns_types.specs.Settling.Outcome.{Outcome, NotEnabled, Refused, Done, unless, refused_by, found, lift}
use Rattle.ns_types.specs.State.Names.{Name, default_name, has_name, same_name}
use Rattle.ns_types.specs.State.Resources.{is_within}
use Rattle.ns_types.specs.State.Rows.{State, World, Tenant, PoolRows, allocation_at, is_live, is_ready, node_at}
use Rattle.ns_types.specs.State.Sums.{names_quota, node_load, quota_use}
use Rattle.ns_types.specs.State.Tables.{any_row}
use Rattle.ns_types.specs.Steps.{act, after, concluded, is_allowed, is_past_bound, reply_of, said, settled}
use Rattle.ns_types.proofs.Lists.{not_both}
use Rattle.ns_types.proofs.Named.{names, one_name, first_of_both, second_of_both, same_name_is, same_name_refl}
use Rattle.ns_types.proofs.Registrations.{by_tests}
use Rattle.ns_types.proofs.Tests.{is_no, is_yes, not_Some, same_Some}
use Rattle.ns_audit.specs.Refusals.{SpeaksAgainst, rank, is_past_after, would_pass_bound}
use Rattle.ns_laws.specs.Reasons as law
use Rattle.ns_laws.specs.Reasons.{HasReason, IsActive, IsFullFor, IsMissing, IsNoSuccessor, IsUnknown, IsConflict, IsInUse, LacksRoom}
use Rattle.ns_laws.specs.Reasons.{KeepsNamespace, KeepsPool, NamesPool, NeedsOld, NotOnNode, NoTokenHas, MissesRecord, MissesNode, MissesRow}
use Rattle.ns_audit.proofs.RefusalLemmas.{after_allowed, never, only, same_refusal, worker_acts}
use Rattle.ns_laws.proofs.Refusal.Registration.{first_refusal_of_register, other_against, room_against}
use Rattle.ns_laws.proofs.Refusal.Tests.{Exceeds, Has, Outside, Passing, Row, decides_absent, decides_active, decides_any, decides_exceeds, decides_full}
use Rattle.ns_laws.proofs.Refusal.Tests.{decides_named, decides_names, decides_needs, decides_option, decides_outside, decides_rows, decides_same}
use Rattle.ns_laws.proofs.Refusal.Tests.{may_not_become, no_successor, same_client_is}
use Rattle.ns_audit.proofs.RightsLemmas.{denied_without}
use Rattle.ns_laws.proofs.Plans.Planning.{ready_is}
use Rattle.ns_laws.proofs.Scope.Sharing.{found_in, has_contained}
use Rattle.ns_audit.proofs.StepLemmas.{same_answer, not_refused, not_said}
use Rattle.ns_laws.proofs.Access.Tokens.{row_of_secret, secret_is}

-- ---- where an outcome is a refusal, this holds of it

abbrev Holds : {S : Type 0} → (Refusal → Type 0) → Outcome S → Type 0
Holds P NotEnabled = Unit {0}
Holds P (Refused refusal) = P refusal
Holds P (Done content x) = Unit {0}

module _ {S : Type 0} (P : Refusal → Type 0) where
  holds_unless : (b : Bool) (refusal : Refusal) (o : Outcome S) → (b ≡ true → P refusal) → (b ≡ false → Holds P o) → Holds P (unless b refusal o)
  unfolding unless
  holds_unless true refusal o h k = h refl
  holds_unless false refusal o h k = k refl

  holds_if : (b : Bool) (o p : Outcome S) → (b ≡ true → Holds P o) → (b ≡ false → Holds P p) → Holds P (cond b o p)
  holds_if true o p h k = h refl
  holds_if false o p h k = k refl

  holds_found : {A : Type 0} (x : Option A) (f : A → Outcome S) → (x ≡ None → P Refusal.NotFound) → ((a : A) → x ≡ Some a → Holds P (f a)) →
      Holds P (found x f)
  holds_found {A = A} x f h k = by x refl
    where
      by : (y : Option A) → x ≡ y → Holds P (found y f)
      by None is = h is
      by (Some a) is = k a is

holds_lift : {A B : Type 0} (P : Refusal → Type 0) (whole : A → B) (o : Outcome A) → Holds P o → Holds P (lift whole o)
holds_lift P whole NotEnabled h = tt
holds_lift P whole (Refused refusal) h = h
holds_lift P whole (Done content a) h = tt

holds_never : {S : Type 0} (P : Refusal → Type 0) (o : Outcome S) → only never o ≡ true → Holds P o
holds_never P NotEnabled e = tt
holds_never P (Refused refusal) e = not_both e refl
holds_never P (Done content x) e = tt

-- ---- an outcome is a refusal of at most that rank

abbrev Refuses : {S : Type 0} → ℕ → Outcome S → Type 0
Refuses n o = (refusal : Refusal) × (o ≡ Refused refusal) × (rank refusal ≤ n)

module _ {S : Type 0} (n : ℕ) where
  refuses_unless : (b : Bool) (refusal : Refusal) (o : Outcome S) → rank refusal ≤ n → (b ≡ false → Refuses n o) → Refuses n (unless b refusal o)
  unfolding unless
  refuses_unless true refusal o le h = (refusal, refl, le)
  refuses_unless false refusal o le h = h refl

  refuses_found : {A : Type 0} (x : Option A) (f : A → Outcome S) → 1 ≤ n → ((a : A) → x ≡ Some a → Refuses n (f a)) → Refuses n (found x f)
  refuses_found {A = A} x f le h = by x refl
    where
      by : (y : Option A) → x ≡ y → Refuses n (found y f)
      by None is = (Refusal.NotFound, refl, le)
      by (Some a) is = h a is

  refuses_else : (b : Bool) (o p : Outcome S) → b ≡ false → Refuses n p → Refuses n (cond b o p)
  refuses_else true o p e h = not_both refl e
  refuses_else false o p e h = h

refuses_lift : {A B : Type 0} (n : ℕ) (whole : A → B) (o : Outcome A) → Refuses n o → Refuses n (lift whole o)
refuses_lift n whole o r = (r.0, ap (lift whole) r.1, r.2)

-- nothing is there and something is
none_there : {A B : Type 0} {o : Option A} {x : A} → o ≡ None → o ≡ Some x → B
none_there none is = absurd (not_Some _ (sym none ∙ is))

-- ---- more tests

pub decides_quota : (quota : Name) (namespace : Namespace) → Decides (names_quota quota namespace) (namespace.quota ≡ Some quota)
decides_quota quota namespace = (by namespace.quota, (λ e. ap (λ o. option_map_or (same_name quota) o false) e ∙ same_name_refl quota))
  where
    by : (o : Option Name) → option_map_or (same_name quota) o false ≡ true → o ≡ Some quota
    by None e = not_both e refl
    by (Some q) e = ap Some (sym (same_name_is quota q e))

absent : {A : Type 0} (o : Option A) → is_some o ≡ false → o ≡ None
absent o e = (decides_absent o).0 (ap not e)

present : {A : Type 0} (o : Option A) → is_some o ≡ true → Has (λ (x : A). Unit {0}) o
present None e = not_both e refl
present (Some x) e = record { thing = x; is_thing = refl; holds = tt }

-- ---- each refusal has a reason

module _ (s : State) where
  abbrev Why : Step → Refusal → Type 0
  Why step = HasReason s step

  -- ---- in a namespace

  module _ (ns : Name) (secret : Option Name) (t : Tenant) (is : get s.world.tenants ns ≡ Some t) where
    abbrev Asked : AskCommand → Refusal → Type 0
    Asked command = Why (Step.Ask ns secret command)

    missing_row : (command : AskCommand) → MissesRow command t → Asked command Refusal.NotFound
    missing_row command e = HasReason.missing (IsMissing.no_row t is e)

    here : (n : ℕ) (a : Allocation) → get t.allocations n ≡ Some a → allocation_at s.world (ns, n) ≡ Some a
    here n a at = ap (option_and_then (λ t. get t.allocations n)) is ∙ at

    registers : (r : Registration) (a b c d : Bool) → permits t.namespace (pool_of t r) ≡ a → contains_key s.world.pools (pool_of t r) ≡ b → is_outdated r t ≡ c
        → has_no_room r t ≡ d → (content : Content) (w : World) → Holds (Asked (AskCommand.Register r)) (refused_by (by_tests a b c d) (Done content w))
    registers r false b c d e f g h content w = HasReason.registration (SpeaksAgainst.foreign_pool t is e)
    registers r true false c d e f g h content w = HasReason.registration (SpeaksAgainst.no_pool t is f)
    registers r true true true d e f g h content w = HasReason.registration (other_against s secret ns r t is g)
    registers r true true false true e f g h content w = HasReason.registration (room_against s secret ns r t is h)
    registers r true true false false e f g h content w = tt

    asked_why : (command : AskCommand) → Holds (Asked command) (asked_in ns command s.world t)
    asked_why (AskCommand.ListJobs prefix) = tt
    asked_why (AskCommand.Register r) =
        registers r (permits t.namespace (pool_of t r)) (contains_key s.world.pools (pool_of t r)) (is_outdated r t) (has_no_room r t) refl refl refl refl _ _
    asked_why (AskCommand.ReadJob id) = holds_found _ (get t.jobs id) _ (missing_row (AskCommand.ReadJob id)) (λ job there. tt)
    asked_why (AskCommand.Deregister id purge) = holds_found _ (get t.jobs id) _ (missing_row (AskCommand.Deregister id purge)) (λ job there. tt)
    asked_why (AskCommand.JobAllocations id) = tt
    asked_why (AskCommand.JobEvaluations id) = tt
    asked_why (AskCommand.ListEvaluations prefix) = tt
    asked_why (AskCommand.ReadEvaluation n) = holds_found _ (get t.evaluations n) _ (missing_row (AskCommand.ReadEvaluation n)) (λ e there. tt)
    asked_why (AskCommand.ListAllocations prefix) = tt
    asked_why (AskCommand.ReadAllocation n) = holds_found _ (get t.allocations n) _ (missing_row (AskCommand.ReadAllocation n)) (λ a there. tt)
    asked_why (AskCommand.StopAllocation n) = holds_found _ (get t.allocations n) _ (missing_row (AskCommand.StopAllocation n))
        (λ a there. holds_unless _ (not (is_live a)) Refusal.Conflict _
        (λ e. HasReason.conflict (IsConflict.not_live a (here n a there) (is_no (is_live a) e))) (λ _. tt))
    asked_why AskCommand.ReadNamespace = tt
    asked_why (AskCommand.QuotaUsage quota) = holds_if _ (names_quota quota t.namespace) _ _ (λ _. tt)
        (λ e. missing_row (AskCommand.QuotaUsage quota) (λ same. not_both ((decides_quota quota t.namespace).1 same) e))
    asked_why (AskCommand.Events index) = tt

  -- ---- in a pool

  module _ (pool : Name) (secret : Option Name) (p : PoolRows) (is : get s.world.pools pool ≡ Some p) where
    abbrev InPool : NodeCommand → Refusal → Type 0
    InPool command = Why (Step.Node pool secret command)

    missing_node : (command : NodeCommand) → MissesNode pool command s.world → InPool command Refusal.NotFound
    missing_node command e = HasReason.missing (IsMissing.no_node e)

    node_here : (name : Name) (o : Option Node) → get p.nodes name ≡ o → node_at s.world pool name ≡ o
    node_here name o at = ap (option_and_then (λ p. get p.nodes name)) is ∙ at

    elsewhere : (name : Name) (r : Report) (a : Allocation) → allocation_at s.world (r.namespace, r.number) ≡ Some a → is_on pool name a ≡ false →
        NotOnNode pool name r s.world
    elsewhere name r a there off b at own here = not_both (and_from (same_name pool b.pool) (same_name name b.node)
        ((decides_same pool b.pool).1 own) ((decides_same name b.node).1 here))
        (ap (is_on pool name) (same_Some b a (sym at ∙ there)) ∙ off)

    pool_why : (command : NodeCommand) → Holds (InPool command) (asked_in_pool pool command s.world p)
    pool_why NodeCommand.ReadPool = tt
    pool_why NodeCommand.ListNodes = tt
    pool_why (NodeCommand.PutNode name offer) = holds_unless _ (not (is_within (node_load s.world pool name) offer.capacity)) Refusal.InUse _
        (λ e. let x : Exceeds (node_load s.world pool name) offer.capacity = (decides_exceeds (node_load s.world pool name) offer.capacity).0 e in
        HasReason.in_use (IsInUse.put_node x.resource x.more))
        (λ _. holds_unless _ (not (contains_key p.nodes name) && nat_le most_nodes (len p.nodes)) Refusal.Full _
        (λ e. HasReason.no_room (LacksRoom.nodes p is ((decides_full p.nodes name most_nodes).0 e))) (λ _. tt))
    pool_why (NodeCommand.DeleteNode name) = holds_found _ (get p.nodes name) _ (λ e. missing_node (NodeCommand.DeleteNode name) (node_here name None e))
        (λ node at. holds_unless _ (is_ready node.status) Refusal.InUse _
        (λ e. HasReason.in_use (IsInUse.delete_node node (node_here name (Some node) at) (ready_is node.status e))) (λ _. tt))
    pool_why (NodeCommand.SetStatus name status) =
        holds_found _ (get p.nodes name) _ (λ e. missing_node (NodeCommand.SetStatus name status) (node_here name None e)) (λ node at. tt)
    pool_why (NodeCommand.SetEligible name eligible) =
        holds_found _ (get p.nodes name) _ (λ e. missing_node (NodeCommand.SetEligible name eligible) (node_here name None e)) (λ node at. tt)
    pool_why (NodeCommand.Report name r) = holds_found _ (get p.nodes name) _ (λ e. missing_node (NodeCommand.Report name r) (inl (node_here name None e)))
        (λ node at. holds_found _ (allocation_at s.world (r.namespace, r.number)) _
        (λ none. missing_node (NodeCommand.Report name r) (inr (λ a there. none_there none there)))
        (λ a there. holds_unless _ (not (is_on pool name a)) Refusal.NotFound _
        (λ off. missing_node (NodeCommand.Report name r) (inr (elsewhere name r a there (is_no (is_on pool name a) off))))
        (λ _. holds_if _ (same_client a.client r.client) _ _ (λ _. tt) (λ other. holds_unless _ (not (may_become a.client r.client)) Refusal.Conflict _
        (λ e. HasReason.conflict (IsConflict.no_successor a there (no_successor a.client r.client other (is_no (may_become a.client r.client) e))))
        (λ _. tt)))))

  -- ---- of administrators

  decides_no_quota : (namespace : Namespace) → Decides (lacks_quota s.world namespace) (Has (λ (q : Name). get s.world.quotas q ≡ None) namespace.quota)
  decides_no_quota namespace = decides_option (λ q. not (contains_key s.world.quotas q)) (λ q. get s.world.quotas q ≡ None)
      (λ q. decides_absent (get s.world.quotas q)) namespace.quota

  decides_no_pool : (namespace : Namespace) → Decides (lacks_allowed s.world namespace) (Has (Outside (contains_key s.world.pools)) namespace.allowed)
  decides_no_pool namespace = decides_option (λ allowed. not (list_all (contains_key s.world.pools) allowed)) (Outside (contains_key s.world.pools))
      (λ allowed. decides_outside (contains_key s.world.pools) allowed) namespace.allowed

  decides_old : (name : Name) (namespace : Namespace) →
      Decides (option_map_or (forbids_put namespace) (get s.world.tenants name) false) (Has (NeedsOld namespace) (get s.world.tenants name))
  decides_old name namespace = decides_option (forbids_put namespace) (NeedsOld namespace) (decides_needs namespace) (get s.world.tenants name)

  abbrev has_job : Tenant → Bool
  has_job t = any_row (λ _ (job : Job). true) t.jobs

  -- a namespace that has a job or is active
  decides_kept : (t : Tenant) → Decides (has_job t || has_open t || has_live t) (Row (λ id (job : Job). true ≡ true) t.jobs ⊎ IsActive t)
  decides_kept t = Decides-at (has_job t || has_open t || has_live t) (has_job t || (has_open t || has_live t))
      (or_assoc (has_job t) (has_open t) (has_live t)) (Decides-or (has_job t) (has_open t || has_live t)
      (decides_any names one_name (λ _ (job : Job). true) t.jobs) (decides_active t))

  decides_nodes : (p : PoolRows) → Decides (any_row (λ _ (node : Node). true) p.nodes) (Row (λ name (node : Node). true ≡ true) p.nodes)
  decides_nodes p = decides_any names one_name (λ _ (node : Node). true) p.nodes

  decides_quotas : (name : Name) → Decides (any_row (λ _ (t : Tenant). names_quota name t.namespace) s.world.tenants)
      (Row (λ ns (t : Tenant). t.namespace.quota ≡ Some name) s.world.tenants)
  decides_quotas name = decides_rows names one_name (λ _ (t : Tenant). names_quota name t.namespace) (λ ns t. t.namespace.quota ≡ Some name)
      (λ ns t. decides_quota name t.namespace) s.world.tenants

  abbrev TakesPool : Name → Tenant → Type 0
  TakesPool name t = ((t.namespace.default_pool ≡ name) ⊎ Has (λ (allowed : List Name). has_name allowed name ≡ true) t.namespace.allowed)
      ⊎ Passing (same_name name) (NamesPool t)

  decides_takes : (name : Name) (t : Tenant) → Decides (names_pool name t.namespace || looks_to_pool (same_name name) t) (TakesPool name t)
  decides_takes name t =
      Decides-or (names_pool name t.namespace) (looks_to_pool (same_name name) t) (decides_named name t.namespace) (decides_names (same_name name) t)

  decides_pool : (name : Name) → Decides (is_pool_in_use name s.world) (Row (λ ns (t : Tenant). TakesPool name t) s.world.tenants)
  decides_pool name = decides_rows names one_name (λ _ (t : Tenant). names_pool name t.namespace || looks_to_pool (same_name name) t) (λ ns t. TakesPool name t)
      (λ ns t. decides_takes name t) s.world.tenants

  takes_pool : (name ns : Name) (t : Tenant) → get s.world.tenants ns ≡ Some t → TakesPool name t → KeepsPool s name
  takes_pool name ns t is (inl (inl same)) = KeepsPool.default_pool ns t is same
  takes_pool name ns t is (inl (inr h)) = KeepsPool.allowed_pool ns t h.thing is h.is_thing (found_in h.thing name h.holds)
  takes_pool name ns t is (inr p) = KeepsPool.named ns t is (subst (NamesPool t) (sym (same_name_is name p.pool p.passing)) p.holds)

  decides_accessor : (accessor : Name) → Decides (has_accessor s.acl accessor) (Row (λ secret (token : Token). token.accessor ≡ accessor) s.acl.tokens)
  decides_accessor accessor = decides_rows names one_name (λ _ (token : Token). same_name accessor token.accessor) (λ secret token. token.accessor ≡ accessor)
      (λ secret token. decides_same accessor token.accessor) s.acl.tokens

  no_token : (accessor : Name) → secret_of s.acl accessor ≡ None → NoTokenHas accessor s
  no_token accessor none other row at same = none_there none (ap (secret_of s.acl) (sym same) ∙ (secret_is s.acl other row at).1)

  module _ (secret : Option Name) where
    abbrev ByAdmin : AdminCommand → Refusal → Type 0
    ByAdmin command = Why (Step.Admin secret command)

    missing_record : (command : AdminCommand) → MissesRecord command s → ByAdmin command Refusal.NotFound
    missing_record command e = HasReason.missing (IsMissing.no_record e)

    put_why : (name : Name) (namespace : Namespace) → Holds (ByAdmin (AdminCommand.PutNamespace name namespace)) (put_namespace name namespace s.world)
    unfolding put_namespace
    put_why name namespace = holds_unless _ (lacks_quota s.world namespace) (Refusal.BadField Member.Quota) _
        (λ e. let h : Has (λ (q : Name). get s.world.quotas q ≡ None) namespace.quota = (decides_no_quota namespace).0 e in
        HasReason.unknown (IsUnknown.quota h.thing h.is_thing h.holds))
        (λ _. holds_unless _ (lacks_pool s.world namespace.default_pool) (Refusal.BadField Member.Default) _
        (λ e. HasReason.unknown (IsUnknown.default_pool ((decides_absent (get s.world.pools namespace.default_pool)).0 e)))
        (λ _. holds_unless _ (lacks_allowed s.world namespace) (Refusal.BadField Member.Allowed) _
        (λ e. let h : Has (Outside (contains_key s.world.pools)) namespace.allowed = (decides_no_pool namespace).0 e in
        HasReason.unknown (IsUnknown.allowed_pool h.thing h.holds.name h.is_thing (found_in h.thing h.holds.name h.holds.listed)
        (absent (get s.world.pools h.holds.name) h.holds.fails)))
        (λ _. holds_unless _ (option_map_or (forbids_put namespace) (get s.world.tenants name) false) Refusal.InUse _
        (λ e. let h : Has (NeedsOld namespace) (get s.world.tenants name) = (decides_old name namespace).0 e in
        HasReason.in_use (IsInUse.put_namespace h.thing h.is_thing h.holds))
        (λ _. holds_unless _ (is_full s.world.tenants name) Refusal.Full _
        (λ e. HasReason.no_room (LacksRoom.namespaces ((decides_full s.world.tenants name most_rows).0 e))) (λ _. tt)))))

    keeps_namespace : (name : Name) (t : Tenant) → get s.world.tenants name ≡ Some t →
        Row (λ id (job : Job). true ≡ true) t.jobs ⊎ IsActive t → KeepsNamespace s name
    keeps_namespace name t is (inl r) = KeepsNamespace.a_job t r.key r.row is r.is_row
    keeps_namespace name t is (inr active) = KeepsNamespace.active t is active

    delete_why : (name : Name) → Holds (ByAdmin (AdminCommand.DeleteNamespace name)) (delete_namespace name s.world)
    unfolding delete_namespace
    delete_why name = holds_found _ (get s.world.tenants name) _ (missing_record (AdminCommand.DeleteNamespace name))
        (λ t is. holds_unless _ (same_name name default_name) Refusal.InUse _
        (λ e. HasReason.in_use (IsInUse.delete_namespace (KeepsNamespace.by_default (same_name_is name default_name e))))
        (λ _. holds_unless _ (any_row (λ _ (job : Job). true) t.jobs || has_open t || has_live t) Refusal.InUse _
        (λ e. HasReason.in_use (IsInUse.delete_namespace (keeps_namespace name t is ((decides_kept t).0 e))))
        (λ _. tt)))

    delete_quota_why : (name : Name) → Holds (ByAdmin (AdminCommand.DeleteQuota name)) (delete_quota name s.world)
    unfolding delete_quota
    delete_quota_why name = holds_found _ (get s.world.quotas name) _ (missing_record (AdminCommand.DeleteQuota name))
        (λ q is. holds_unless _ (any_row (λ _ (t : Tenant). names_quota name t.namespace) s.world.tenants) Refusal.InUse _
        (λ e. let r : Row (λ ns (t : Tenant). t.namespace.quota ≡ Some name) s.world.tenants = (decides_quotas name).0 e in
        HasReason.in_use (IsInUse.delete_quota r.key r.row r.is_row r.holds)) (λ _. tt))

    keeps_pool : (name : Name) (p : PoolRows) → get s.world.pools name ≡ Some p →
        (any_row (λ _ (node : Node). true) p.nodes ≡ true) ⊎ (is_pool_in_use name s.world ≡ true) → KeepsPool s name
    keeps_pool name p is (inl e) = let r : Row (λ node (row : Node). true ≡ true) p.nodes = (decides_nodes p).0 e in
        KeepsPool.a_node r.key r.row (node_here name secret p is r.key (Some r.row) r.is_row)
    keeps_pool name p is (inr e) = let r : Row (λ ns (t : Tenant). TakesPool name t) s.world.tenants = (decides_pool name).0 e in
        takes_pool name r.key r.row r.is_row r.holds

    delete_pool_why : (name : Name) → Holds (ByAdmin (AdminCommand.DeletePool name)) (delete_pool name s.world)
    unfolding delete_pool
    delete_pool_why name = holds_found _ (get s.world.pools name) _ (missing_record (AdminCommand.DeletePool name))
        (λ p is. holds_unless _ (same_name name default_name) Refusal.InUse _
        (λ e. HasReason.in_use (IsInUse.delete_pool (KeepsPool.by_default (same_name_is name default_name e))))
        (λ _. holds_unless _ (any_row (λ _ (node : Node). true) p.nodes || is_pool_in_use name s.world) Refusal.InUse _
        (λ e. HasReason.in_use (IsInUse.delete_pool (keeps_pool name p is
        (or_cases (any_row (λ _ (node : Node). true) p.nodes) (is_pool_in_use name s.world) e))))
        (λ _. tt)))

    taken : (new : NewToken) → (contains_key s.acl.tokens new.secret ≡ true) ⊎ (has_accessor s.acl new.accessor ≡ true) →
        IsConflict s (Step.Admin secret (AdminCommand.CreateToken new))
    taken new (inl e) = let h : Has (λ (token : Token). Unit {0}) (get s.acl.tokens new.secret) = present (get s.acl.tokens new.secret) e in
        IsConflict.same_secret h.thing h.is_thing
    taken new (inr e) = let r : Row (λ other (token : Token). token.accessor ≡ new.accessor) s.acl.tokens = (decides_accessor new.accessor).0 e in
        IsConflict.same_accessor r.key r.row r.is_row r.holds

    admin_why : (command : AdminCommand) → Holds (ByAdmin command) (administer secret command s)
    unfolding administer put_quota put_pool_record
    admin_why AdminCommand.ListNamespaces = tt
    admin_why (AdminCommand.PutNamespace name namespace) = holds_lift _ (with_world s.acl) (put_namespace name namespace s.world) (put_why name namespace)
    admin_why (AdminCommand.DeleteNamespace name) = holds_lift _ (with_world s.acl) (delete_namespace name s.world) (delete_why name)
    admin_why AdminCommand.ListQuotas = tt
    admin_why (AdminCommand.ReadQuota name) = holds_lift _ (with_world s.acl) (read_quota name s.world)
        (holds_found _ (get s.world.quotas name) _ (missing_record (AdminCommand.ReadQuota name)) (λ q is. tt))
    admin_why (AdminCommand.PutQuota name quota) = holds_lift _ (with_world s.acl) (put_quota name quota s.world)
        (holds_unless _ (is_full s.world.quotas name) Refusal.Full _
        (λ e. HasReason.no_room (LacksRoom.quotas ((decides_full s.world.quotas name most_rows).0 e))) (λ _. tt))
    admin_why (AdminCommand.DeleteQuota name) = holds_lift _ (with_world s.acl) (delete_quota name s.world) (delete_quota_why name)
    admin_why AdminCommand.ListPools = tt
    admin_why (AdminCommand.PutPool name pool) = holds_lift _ (with_world s.acl) (put_pool_record name pool s.world)
        (holds_unless _ (is_full s.world.pools name) Refusal.Full _
        (λ e. HasReason.no_room (LacksRoom.pools ((decides_full s.world.pools name most_rows).0 e))) (λ _. tt))
    admin_why (AdminCommand.DeletePool name) = holds_lift _ (with_world s.acl) (delete_pool name s.world) (delete_pool_why name)
    admin_why (AdminCommand.ReadPolicy name) = holds_lift _ (with_acl s.world) (read_policy name s.acl)
        (holds_found _ (get s.acl.policies name) _ (missing_record (AdminCommand.ReadPolicy name)) (λ policy is. tt))
    admin_why (AdminCommand.PutPolicy name policy) = holds_lift _ (with_acl s.world) (put_policy name policy s.acl)
        (holds_unless _ (is_full s.acl.policies name) Refusal.Full _
        (λ e. HasReason.no_room (LacksRoom.policies ((decides_full s.acl.policies name most_rows).0 e))) (λ _. tt))
    admin_why (AdminCommand.DeletePolicy name) = holds_lift _ (with_acl s.world) (delete_policy name s.acl)
        (holds_found _ (get s.acl.policies name) _ (missing_record (AdminCommand.DeletePolicy name)) (λ policy is. tt))
    admin_why (AdminCommand.CreateToken new) = holds_lift _ (with_acl s.world) (create_token new s.acl)
        (holds_unless _ (contains_key s.acl.tokens new.secret || has_accessor s.acl new.accessor) Refusal.Conflict _
        (λ e. HasReason.conflict (taken new (or_cases (contains_key s.acl.tokens new.secret) (has_accessor s.acl new.accessor) e)))
        (λ _. holds_unless _ (nat_le most_rows (len s.acl.tokens)) Refusal.Full _
        (λ e. HasReason.no_room (LacksRoom.tokens (leb-true most_rows (len s.acl.tokens) e))) (λ _. tt)))
    admin_why (AdminCommand.DeleteToken accessor) = holds_lift _ (with_acl s.world) (delete_token accessor s.acl)
        (holds_found _ (secret_of s.acl accessor) _ (λ e. missing_record (AdminCommand.DeleteToken accessor) (no_token accessor e))
        (λ k is. holds_unless _ (same_name accessor bootstrap_accessor) Refusal.InUse _
        (λ e. HasReason.in_use (IsInUse.delete_token (same_name_is accessor bootstrap_accessor e))) (λ _. tt)))

  -- ---- of each step

  act_why : (step : Step) → Holds (Why step) (act step s)
  unfolding act ask ask_pool
  act_why (Step.Ask ns secret command) = holds_lift _ (with_world s.acl) (ask ns command s.world)
      (holds_found _ (get s.world.tenants ns) (asked_in ns command s.world) (λ e. HasReason.missing (IsMissing.no_namespace e))
      (λ t is. asked_why ns secret t is command))
  act_why (Step.Admin secret command) = admin_why secret command
  act_why (Step.Node pool secret command) = holds_lift _ (with_world s.acl) (ask_pool pool command s.world)
      (holds_found _ (get s.world.pools pool) (asked_in_pool pool command s.world) (λ e. HasReason.missing (IsMissing.no_pool e))
      (λ p is. pool_why pool secret p is command))
  act_why (Step.Dequeue worker ns n) = holds_never _ _ (worker_acts (Step.Dequeue worker ns n) s refl)
  act_why (Step.Snap worker ns) = holds_never _ _ (worker_acts (Step.Snap worker ns) s refl)
  act_why (Step.Submit worker ns) = holds_never _ _ (worker_acts (Step.Submit worker ns) s refl)
  act_why (Step.Apply worker ns) = holds_never _ _ (worker_acts (Step.Apply worker ns) s refl)
  act_why (Step.Finish worker ns) = holds_never _ _ (worker_acts (Step.Finish worker ns) s refl)
  act_why (Step.Nack worker ns) = holds_never _ _ (worker_acts (Step.Nack worker ns) s refl)

concluded_why : (step : Step) (s t : State) (o : Outcome State) (refusal : Refusal) → Holds (HasReason s step) o →
    concluded step s o ≡ said (Err refusal) t → HasReason s step refusal ⊎ ((refusal ≡ Refusal.Full) × (is_past_after s o ≡ true))
concluded_why step s t NotEnabled refusal h e = not_said (Err refusal) t e
concluded_why step s t (Refused r) refusal h e = inl (subst (HasReason s step) (same_refusal r refusal s t e) h)
concluded_why step s t (Done content s') refusal h e = by (is_past_bound (settled s s').world) refl e
  where
    by : (b : Bool) → is_past_bound (settled s s').world ≡ b →
        cond b (said (Err Refusal.Full) s) (said (Ok (reply_of step content (settled s s').world)) (settled s s')) ≡ said (Err refusal) t →
        HasReason s step refusal ⊎ ((refusal ≡ Refusal.Full) × (is_past_after s (Done content s') ≡ true))
    by true is e = inr (sym (same_refusal Refusal.Full refusal s t e), is)
    by false is e = not_refused (reply_of step content (settled s s').world) refusal (same_answer _ _ (settled s s') t e)

pub refuses_for_reason : law.RefusesForReason
refuses_for_reason step s t refusal e = by (is_allowed step s.acl) refl
  where
    by : (b : Bool) → is_allowed step s.acl ≡ b → HasReason s step refusal ⊎ ((refusal ≡ Refusal.Full) × (would_pass_bound step s ≡ true))
    by true is = concluded_why step s t (act step s) refusal (act_why s step) (sym (after_allowed step s is) ∙ e)
    by false is = inl (subst (HasReason s step) (same_refusal Refusal.Denied refusal s t (sym (denied_without step s is) ∙ e)) (HasReason.no_right is))

-- ---- what a request names is missing

module _ {S : Type 0} where
  not_found : {A : Type 0} (x : Option A) (f : A → Outcome S) → ((a : A) → x ≡ Some a → f a ≡ Refused Refusal.NotFound) → found x f ≡ Refused Refusal.NotFound
  not_found {A = A} x f h = by x refl
    where
      by : (y : Option A) → x ≡ y → found y f ≡ Refused Refusal.NotFound
      by None is = refl
      by (Some a) is = h a is

  not_unless : (b : Bool) (o : Outcome S) → (b ≡ false → o ≡ Refused Refusal.NotFound) → unless b Refusal.NotFound o ≡ Refused Refusal.NotFound
  unfolding unless
  not_unless true o h = refl
  not_unless false o h = h refl

row_missing : (ns : Name) (command : AskCommand) (w : World) (t : Tenant) → MissesRow command t → asked_in ns command w t ≡ Refused Refusal.NotFound
row_missing ns (AskCommand.ListJobs prefix) w t m = absurd m
row_missing ns (AskCommand.Register r) w t m = absurd m
row_missing ns (AskCommand.ReadJob id) w t m = not_found (get t.jobs id) _ (λ job at. none_there m at)
row_missing ns (AskCommand.Deregister id purge) w t m = not_found (get t.jobs id) _ (λ job at. none_there m at)
row_missing ns (AskCommand.JobAllocations id) w t m = absurd m
row_missing ns (AskCommand.JobEvaluations id) w t m = absurd m
row_missing ns (AskCommand.ListEvaluations prefix) w t m = absurd m
row_missing ns (AskCommand.ReadEvaluation n) w t m = not_found (get t.evaluations n) _ (λ e at. none_there m at)
row_missing ns (AskCommand.ListAllocations prefix) w t m = absurd m
row_missing ns (AskCommand.ReadAllocation n) w t m = not_found (get t.allocations n) _ (λ a at. none_there m at)
row_missing ns (AskCommand.StopAllocation n) w t m = not_found (get t.allocations n) _ (λ a at. none_there m at)
row_missing ns AskCommand.ReadNamespace w t m = absurd m
row_missing ns (AskCommand.QuotaUsage quota) w t m = ap (λ b. cond b (Done (Content.Usage quota (quota_use w quota)) w) (Refused Refusal.NotFound))
    (false_from_ne_true (names_quota quota t.namespace) (λ named. m ((decides_quota quota t.namespace).0 named)))
row_missing ns (AskCommand.Events index) w t m = absurd m

record_missing : (secret : Option Name) (command : AdminCommand) (s : State) → MissesRecord command s → administer secret command s ≡ Refused Refusal.NotFound
unfolding administer delete_namespace delete_quota delete_pool
record_missing secret AdminCommand.ListNamespaces s m = absurd m
record_missing secret (AdminCommand.PutNamespace name namespace) s m = absurd m
record_missing secret (AdminCommand.DeleteNamespace name) s m = ap (lift (with_world s.acl)) (not_found (get s.world.tenants name) _ (λ t at. none_there m at))
record_missing secret AdminCommand.ListQuotas s m = absurd m
record_missing secret (AdminCommand.ReadQuota name) s m = ap (lift (with_world s.acl)) (not_found (get s.world.quotas name) _ (λ q at. none_there m at))
record_missing secret (AdminCommand.PutQuota name quota) s m = absurd m
record_missing secret (AdminCommand.DeleteQuota name) s m = ap (lift (with_world s.acl)) (not_found (get s.world.quotas name) _ (λ q at. none_there m at))
record_missing secret AdminCommand.ListPools s m = absurd m
record_missing secret (AdminCommand.PutPool name pool) s m = absurd m
record_missing secret (AdminCommand.DeletePool name) s m = ap (lift (with_world s.acl)) (not_found (get s.world.pools name) _ (λ p at. none_there m at))
record_missing secret (AdminCommand.ReadPolicy name) s m = ap (lift (with_acl s.world)) (not_found (get s.acl.policies name) _ (λ policy at. none_there m at))
record_missing secret (AdminCommand.PutPolicy name policy) s m = absurd m
record_missing secret (AdminCommand.DeletePolicy name) s m = ap (lift (with_acl s.world)) (not_found (get s.acl.policies name) _ (λ policy at. none_there m at))
record_missing secret (AdminCommand.CreateToken new) s m = absurd m
record_missing secret (AdminCommand.DeleteToken accessor) s m = ap (lift (with_acl s.world)) (not_found (secret_of s.acl accessor) _ (λ k at.
    let row = row_of_secret s.acl accessor k at in
    absurd (m k row.0 row.2 (sym (same_name_is accessor row.0.accessor row.1)))))

module _ (pool : Name) (w : World) (p : PoolRows) (is : get w.pools pool ≡ Some p) where
  node_in : (name : Name) (node : Node) → get p.nodes name ≡ Some node → node_at w pool name ≡ Some node
  node_in name node at = ap (option_and_then (λ p. get p.nodes name)) is ∙ at

  node_missing : (command : NodeCommand) → MissesNode pool command w → asked_in_pool pool command w p ≡ Refused Refusal.NotFound
  node_missing NodeCommand.ReadPool m = absurd m
  node_missing NodeCommand.ListNodes m = absurd m
  node_missing (NodeCommand.PutNode name offer) m = absurd m
  node_missing (NodeCommand.DeleteNode name) m = not_found (get p.nodes name) _ (λ node at. none_there m (node_in name node at))
  node_missing (NodeCommand.SetStatus name status) m = not_found (get p.nodes name) _ (λ node at. none_there m (node_in name node at))
  node_missing (NodeCommand.SetEligible name eligible) m = not_found (get p.nodes name) _ (λ node at. none_there m (node_in name node at))
  node_missing (NodeCommand.Report name r) (inl m) = not_found (get p.nodes name) _ (λ node at. none_there m (node_in name node at))
  node_missing (NodeCommand.Report name r) (inr off) = not_found (get p.nodes name) _ (λ node at.
      not_found (allocation_at w (r.namespace, r.number)) _ (λ a there.
      not_unless (not (is_on pool name a)) _ (λ on. absurd (off a there
      (sym (same_name_is pool a.pool (first_of_both (same_name pool a.pool) (same_name name a.node) (is_yes (is_on pool name a) on))))
      (sym (same_name_is name a.node (second_of_both (same_name pool a.pool) (same_name name a.node) (is_yes (is_on pool name a) on))))))))

missing_acts : (s : State) (step : Step) → IsMissing s step → act step s ≡ Refused Refusal.NotFound
unfolding act ask ask_pool
missing_acts s step (IsMissing.no_namespace {ns = ns} {secret = secret} {command = command} e) =
    ap (λ o. lift (with_world s.acl) (found o (asked_in ns command s.world))) e
missing_acts s step (IsMissing.no_row {ns = ns} {secret = secret} {command = command} t is m) =
    ap (lift (with_world s.acl)) (ap (λ o. found o (asked_in ns command s.world)) is ∙ row_missing ns command s.world t m)
missing_acts s step (IsMissing.no_record {secret = secret} {command = command} m) = record_missing secret command s m
missing_acts s step (IsMissing.no_pool {pool = pool} {secret = secret} {command = command} e) =
    ap (λ o. lift (with_world s.acl) (found o (asked_in_pool pool command s.world))) e
missing_acts s step (IsMissing.no_node {pool = pool} {secret = secret} {command = command} m) = ap (lift (with_world s.acl))
    (not_found (get s.world.pools pool) (asked_in_pool pool command s.world) (λ p is. node_missing pool s.world p is command m))

-- ---- the other reasons

module _ (s : State) where
  conflict_refuses : (step : Step) → IsConflict s step → Refuses 4 (act step s)
  unfolding act ask ask_pool administer
  conflict_refuses step (IsConflict.not_live {ns = ns} {secret = secret} {n = n} a at dead) =
      refuses_lift 4 (with_world s.acl) (ask ns (AskCommand.StopAllocation n) s.world)
      (refuses_found 4 (get s.world.tenants ns) (asked_in ns (AskCommand.StopAllocation n) s.world) (omega arith) (λ t is.
      refuses_found 4 (get t.allocations n) _ (omega arith) (λ b there. refuses_unless 4 (not (is_live b)) Refusal.Conflict _ (omega arith) (λ lives.
      let same : a ≡ b = same_Some a b (sym at ∙ (ap (option_and_then (λ t. get t.allocations n)) is ∙ there)) in
      not_both (is_yes (is_live b) lives) (ap is_live (sym same) ∙ dead)))))
  conflict_refuses step (IsConflict.no_successor {pool = pool} {secret = secret} {name = name} {report = r} a at next) =
      refuses_lift 4 (with_world s.acl) (ask_pool pool (NodeCommand.Report name r) s.world)
      (refuses_found 4 (get s.world.pools pool) (asked_in_pool pool (NodeCommand.Report name r) s.world) (omega arith) (λ p is.
      refuses_found 4 (get p.nodes name) _ (omega arith) (λ node there. refuses_found 4 (allocation_at s.world (r.namespace, r.number)) _ (omega arith) (λ b bt.
      refuses_unless 4 (not (is_on pool name b)) Refusal.NotFound _ (omega arith) (λ on.
      let n : IsNoSuccessor b.client r.client = subst (λ (x : Allocation). IsNoSuccessor x.client r.client) (same_Some a b (sym at ∙ bt)) next in
      refuses_else 4 (same_client b.client r.client) _ _ (same_client_is b.client r.client n.differs)
      (refuses_unless 4 (not (may_become b.client r.client)) Refusal.Conflict _ (omega arith)
      (λ e. not_both (is_yes (may_become b.client r.client) e) (may_not_become b.client r.client n.why))))))))
  conflict_refuses step (IsConflict.same_secret {secret = secret} {new = new} token at) = refuses_lift 4 (with_acl s.world) (create_token new s.acl)
      (refuses_unless 4 (contains_key s.acl.tokens new.secret || has_accessor s.acl new.accessor) Refusal.Conflict _ (omega arith)
      (λ e. not_both (or_left (contains_key s.acl.tokens new.secret) (has_accessor s.acl new.accessor) (ap is_some at)) e))
  conflict_refuses step (IsConflict.same_accessor {secret = secret} {new = new} other token at same) =
      refuses_lift 4 (with_acl s.world) (create_token new s.acl)
      (refuses_unless 4 (contains_key s.acl.tokens new.secret || has_accessor s.acl new.accessor) Refusal.Conflict _ (omega arith)
      (λ e. not_both (or_right (contains_key s.acl.tokens new.secret) (has_accessor s.acl new.accessor)
      ((decides_accessor s new.accessor).1 (record { key = other; row = token; is_row = at; holds = same }))) e))

  -- a namespace is put: what comes before the last two refusals
  put_refuses : (n : ℕ) (name : Name) (namespace : Namespace) → 3 ≤ n
      → (lacks_quota s.world namespace ≡ false → lacks_pool s.world namespace.default_pool ≡ false → lacks_allowed s.world namespace ≡ false →
      (rest : Outcome World) → Refuses n (unless (option_map_or (forbids_put namespace) (get s.world.tenants name) false) Refusal.InUse
      (unless (is_full s.world.tenants name) Refusal.Full rest))) → Refuses n (put_namespace name namespace s.world)
  unfolding put_namespace
  put_refuses n name namespace le h = refuses_unless n (lacks_quota s.world namespace) (Refusal.BadField Member.Quota) _ le (λ a.
      refuses_unless n (lacks_pool s.world namespace.default_pool) (Refusal.BadField Member.Default) _ le (λ b.
      refuses_unless n (lacks_allowed s.world namespace) (Refusal.BadField Member.Allowed) _ le (λ c. h a b c _)))

  unknown_refuses : (secret : Option Name) (name : Name) (namespace : Namespace) (member : Member) → IsUnknown s namespace member →
      Refuses 3 (act (Step.Admin secret (AdminCommand.PutNamespace name namespace)) s)
  unfolding act administer
  unknown_refuses secret name namespace member u = refuses_lift 3 (with_world s.acl) (put_namespace name namespace s.world)
      (put_refuses 3 name namespace (omega arith) (λ a b c rest. by member u a b c))
    where
      by : {A : Type 0} (member : Member) → IsUnknown s namespace member → lacks_quota s.world namespace ≡ false →
          lacks_pool s.world namespace.default_pool ≡ false → lacks_allowed s.world namespace ≡ false → A
      by member (IsUnknown.quota quota is none) a b c =
          not_both ((decides_no_quota s namespace).1 (record { thing = quota; is_thing = is; holds = none })) a
      by member (IsUnknown.default_pool none) a b c = not_both ((decides_absent (get s.world.pools namespace.default_pool)).1 none) b
      by member (IsUnknown.allowed_pool allowed pool is listed none) a b c = not_both ((decides_no_pool s namespace).1 (record {
        thing = allowed;
        is_thing = is;
        holds = record { name = pool; listed = has_contained allowed pool listed; fails = ap is_some none };
      })) c

  keeps_refuses : (name : Name) → KeepsNamespace s name → Refuses 5 (delete_namespace name s.world)
  unfolding delete_namespace
  keeps_refuses name keeps = refuses_found 5 (get s.world.tenants name) _ (omega arith) (λ t is.
      refuses_unless 5 (same_name name default_name) Refusal.InUse _ (omega arith) (λ other.
      refuses_unless 5 (any_row (λ _ (job : Job). true) t.jobs || has_open t || has_live t) Refusal.InUse _ (omega arith) (λ e. by t is other e keeps)))
    where
      by : {A : Type 0} (t : Tenant) → get s.world.tenants name ≡ Some t → same_name name default_name ≡ false →
          (any_row (λ _ (job : Job). true) t.jobs || has_open t || has_live t) ≡ false → KeepsNamespace s name → A
      by t is other e (KeepsNamespace.by_default same) = not_both ((decides_same name default_name).1 (sym same)) other
      by t is other e (KeepsNamespace.a_job x id job at there) = not_both ((decides_kept s t).1 (inl (record {
        key = id;
        row = job;
        is_row = ap (λ (x : Tenant). get x.jobs id) (same_Some t x (sym is ∙ at)) ∙ there;
        holds = refl;
      }))) e
      by t is other e (KeepsNamespace.active x at active) =
          not_both ((decides_kept s t).1 (inr (subst IsActive (same_Some x t (sym at ∙ is)) active))) e

  keeps_pool_refuses : (name : Name) → KeepsPool s name → Refuses 5 (delete_pool name s.world)
  unfolding delete_pool
  keeps_pool_refuses name keeps = refuses_found 5 (get s.world.pools name) _ (omega arith) (λ p is.
      refuses_unless 5 (same_name name default_name) Refusal.InUse _ (omega arith) (λ other.
      refuses_unless 5 (any_row (λ _ (node : Node). true) p.nodes || is_pool_in_use name s.world) Refusal.InUse _ (omega arith) (λ e. by p is other e keeps)))
    where
      taking : {A : Type 0} (p : PoolRows) (ns : Name) (t : Tenant) → get s.world.tenants ns ≡ Some t → TakesPool s name t →
          (any_row (λ _ (node : Node). true) p.nodes || is_pool_in_use name s.world) ≡ false → A
      taking p ns t at takes e = not_both (or_right (any_row (λ _ (node : Node). true) p.nodes) (is_pool_in_use name s.world)
          ((decides_pool s name).1 (record { key = ns; row = t; is_row = at; holds = takes }))) e

      by : {A : Type 0} (p : PoolRows) → get s.world.pools name ≡ Some p → same_name name default_name ≡ false →
          (any_row (λ _ (node : Node). true) p.nodes || is_pool_in_use name s.world) ≡ false → KeepsPool s name → A
      by p is other e (KeepsPool.by_default same) = not_both ((decides_same name default_name).1 (sym same)) other
      by p is other e (KeepsPool.a_node node row at) = not_both (or_left (any_row (λ _ (node : Node). true) p.nodes) (is_pool_in_use name s.world)
          ((decides_nodes s p).1 (record {
            key = node;
            row = row;
            is_row = sym (ap (option_and_then (λ p. get p.nodes node)) is) ∙ at;
            holds = refl;
          }))) e
      by p is other e (KeepsPool.default_pool ns t at same) = taking p ns t at (inl (inl same)) e
      by p is other e (KeepsPool.allowed_pool ns t allowed at lists has) =
          taking p ns t at (inl (inr (record { thing = allowed; is_thing = lists; holds = has_contained allowed name has }))) e
      by p is other e (KeepsPool.named ns t at names) = taking p ns t at (inr (record { pool = name; passing = same_name_refl name; holds = names })) e

  in_use_refuses : (step : Step) → IsInUse s step → Refuses 5 (act step s)
  unfolding act administer ask_pool delete_quota
  in_use_refuses step (IsInUse.put_namespace {secret = secret} {name = name} {namespace = namespace} t is needs) =
      refuses_lift 5 (with_world s.acl) (put_namespace name namespace s.world) (put_refuses 5 name namespace (omega arith) (λ a b c rest.
      refuses_unless 5 (option_map_or (forbids_put namespace) (get s.world.tenants name) false) Refusal.InUse _ (omega arith) (λ e.
      not_both ((decides_old s name namespace).1 (record { thing = t; is_thing = is; holds = needs })) e)))
  in_use_refuses step (IsInUse.delete_namespace {secret = secret} {name = name} keeps) =
      refuses_lift 5 (with_world s.acl) (delete_namespace name s.world) (keeps_refuses name keeps)
  in_use_refuses step (IsInUse.delete_quota {secret = secret} {name = name} ns t at has) = refuses_lift 5 (with_world s.acl) (delete_quota name s.world)
      (refuses_found 5 (get s.world.quotas name) _ (omega arith) (λ q is.
      refuses_unless 5 (any_row (λ _ (t : Tenant). names_quota name t.namespace) s.world.tenants) Refusal.InUse _ (omega arith) (λ e.
      not_both ((decides_quotas s name).1 (record { key = ns; row = t; is_row = at; holds = has })) e)))
  in_use_refuses step (IsInUse.delete_pool {secret = secret} {name = name} keeps) =
      refuses_lift 5 (with_world s.acl) (delete_pool name s.world) (keeps_pool_refuses name keeps)
  in_use_refuses step (IsInUse.delete_token {secret = secret} {accessor = accessor} same) = refuses_lift 5 (with_acl s.world) (delete_token accessor s.acl)
      (refuses_found 5 (secret_of s.acl accessor) _ (omega arith) (λ k is.
      refuses_unless 5 (same_name accessor bootstrap_accessor) Refusal.InUse _ (omega arith) (λ e.
      not_both ((decides_same accessor bootstrap_accessor).1 (sym same)) e)))
  in_use_refuses step (IsInUse.put_node {pool = pool} {secret = secret} {name = name} {offer = offer} r more) =
      refuses_lift 5 (with_world s.acl) (ask_pool pool (NodeCommand.PutNode name offer) s.world)
      (refuses_found 5 (get s.world.pools pool) (asked_in_pool pool (NodeCommand.PutNode name offer) s.world) (omega arith) (λ p is.
      refuses_unless 5 (not (is_within (node_load s.world pool name) offer.capacity)) Refusal.InUse _ (omega arith) (λ e.
      not_both ((decides_exceeds (node_load s.world pool name) offer.capacity).1 (record { resource = r; more = more })) e)))
  in_use_refuses step (IsInUse.delete_node {pool = pool} {secret = secret} {name = name} node at ready) =
      refuses_lift 5 (with_world s.acl) (ask_pool pool (NodeCommand.DeleteNode name) s.world)
      (refuses_found 5 (get s.world.pools pool) (asked_in_pool pool (NodeCommand.DeleteNode name) s.world) (omega arith) (λ p is.
      refuses_found 5 (get p.nodes name) _ (omega arith) (λ row there. refuses_unless 5 (is_ready row.status) Refusal.InUse _ (omega arith) (λ e.
      not_both (ap is_ready (ap (λ (x : Node). x.status) (same_Some row node (sym (node_in pool s.world p is name row there) ∙ at)) ∙ ready)) e))))

  no_room_refuses : (step : Step) → LacksRoom s step → Refuses 6 (act step s)
  unfolding act administer ask_pool put_quota put_pool_record
  no_room_refuses step (LacksRoom.namespaces {secret = secret} {name = name} {namespace = namespace} full) =
      refuses_lift 6 (with_world s.acl) (put_namespace name namespace s.world) (put_refuses 6 name namespace (omega arith) (λ a b c rest.
      refuses_unless 6 (option_map_or (forbids_put namespace) (get s.world.tenants name) false) Refusal.InUse _ (omega arith) (λ d.
      refuses_unless 6 (is_full s.world.tenants name) Refusal.Full _ (omega arith) (λ e.
      not_both ((decides_full s.world.tenants name most_rows).1 full) e))))
  no_room_refuses step (LacksRoom.quotas {secret = secret} {name = name} {quota = quota} full) =
      refuses_lift 6 (with_world s.acl) (put_quota name quota s.world) (refuses_unless 6 (is_full s.world.quotas name) Refusal.Full _ (omega arith) (λ e.
      not_both ((decides_full s.world.quotas name most_rows).1 full) e))
  no_room_refuses step (LacksRoom.pools {secret = secret} {name = name} {pool = pool} full) =
      refuses_lift 6 (with_world s.acl) (put_pool_record name pool s.world) (refuses_unless 6 (is_full s.world.pools name) Refusal.Full _ (omega arith) (λ e.
      not_both ((decides_full s.world.pools name most_rows).1 full) e))
  no_room_refuses step (LacksRoom.policies {secret = secret} {name = name} {policy = policy} full) =
      refuses_lift 6 (with_acl s.world) (put_policy name policy s.acl) (refuses_unless 6 (is_full s.acl.policies name) Refusal.Full _ (omega arith) (λ e.
      not_both ((decides_full s.acl.policies name most_rows).1 full) e))
  no_room_refuses step (LacksRoom.tokens {secret = secret} {new = new} most) = refuses_lift 6 (with_acl s.world) (create_token new s.acl)
      (refuses_unless 6 (contains_key s.acl.tokens new.secret || has_accessor s.acl new.accessor) Refusal.Conflict _ (omega arith) (λ _.
      refuses_unless 6 (nat_le most_rows (len s.acl.tokens)) Refusal.Full _ (omega arith) (λ e. not_both (le-leb most_rows (len s.acl.tokens) most) e)))
  no_room_refuses step (LacksRoom.nodes {pool = pool} {secret = secret} {name = name} {offer = offer} p is full) =
      refuses_lift 6 (with_world s.acl) (ask_pool pool (NodeCommand.PutNode name offer) s.world)
      (refuses_found 6 (get s.world.pools pool) (asked_in_pool pool (NodeCommand.PutNode name offer) s.world) (omega arith) (λ q at.
      refuses_unless 6 (not (is_within (node_load s.world pool name) offer.capacity)) Refusal.InUse _ (omega arith) (λ _.
      refuses_unless 6 (not (contains_key q.nodes name) && nat_le most_nodes (len q.nodes)) Refusal.Full _ (omega arith) (λ e.
      not_both ((decides_full q.nodes name most_nodes).1
      (subst (λ (r : PoolRows). IsFullFor r.nodes name most_nodes) (same_Some p q (sym is ∙ at)) full)) e))))

-- an answer for a reason that comes no later than the n-th
abbrev First : State → Step → ℕ → Type 0
First s step n = (refusal : Refusal) × HasReason s step refusal × (rank refusal ≤ n) × (after step s ≡ said (Err refusal) s)

answered : (step : Step) (s : State) (n : ℕ) → Refuses n (act step s) → First s step n
answered step s n r = by (is_allowed step s.acl) refl
  where
    by : (b : Bool) → is_allowed step s.acl ≡ b → First s step n
    by true is = (r.0, subst (Holds (HasReason s step)) r.1 (act_why s step), r.2, after_allowed step s is ∙ ap (concluded step s) r.1)
    by false is = (Refusal.Denied, HasReason.no_right is, omega arith, denied_without step s is)

pub first_refusal : law.FirstRefusal
first_refusal step s other (HasReason.registration {ns = ns} {secret = secret} {r = r} against) =
    let first = first_refusal_of_register s secret ns r other against in (first.0, HasReason.registration first.1, first.2, first.3)
first_refusal step s other (HasReason.no_right e) = (Refusal.Denied, HasReason.no_right e, omega arith, denied_without step s e)
first_refusal step s other (HasReason.missing m) = answered step s 1 (Refusal.NotFound, missing_acts s step m, omega arith)
first_refusal step s other (HasReason.unknown {secret = secret} {name = name} {namespace = namespace} {member = member} u) =
    answered (Step.Admin secret (AdminCommand.PutNamespace name namespace)) s 3 (unknown_refuses s secret name namespace member u)
first_refusal step s other (HasReason.conflict c) = answered step s 4 (conflict_refuses s step c)
first_refusal step s other (HasReason.in_use u) = answered step s 5 (in_use_refuses s step u)
first_refusal step s other (HasReason.no_room f) = answered step s 6 (no_room_refuses s step f)

abbrev is_missing : Refusal → Bool
is_missing Refusal.NotFound = true
is_missing _ = false

missing_of : (s : State) (step : Step) (refusal : Refusal) → HasReason s step refusal → is_missing refusal ≡ true → IsMissing s step
missing_of s step refusal (HasReason.registration {ns = ns} {secret = secret} {r = r} against) e = by against e
  where
    by : {refusal : Refusal} → SpeaksAgainst s secret ns r refusal → is_missing refusal ≡ true → IsMissing s (Step.Ask ns secret (AskCommand.Register r))
    by (SpeaksAgainst.no_right f) e = not_both e refl
    by (SpeaksAgainst.no_namespace none) e = IsMissing.no_namespace none
    by (SpeaksAgainst.foreign_pool t is f) e = not_both e refl
    by (SpeaksAgainst.no_pool t is f) e = not_both e refl
    by (SpeaksAgainst.other_index t index is of f) e = not_both e refl
    by (SpeaksAgainst.no_room t is f le) e = not_both e refl
missing_of s step refusal (HasReason.no_right f) e = not_both e refl
missing_of s step refusal (HasReason.missing m) e = m
missing_of s step refusal (HasReason.unknown u) e = not_both e refl
missing_of s step refusal (HasReason.conflict c) e = not_both e refl
missing_of s step refusal (HasReason.in_use u) e = not_both e refl
missing_of s step refusal (HasReason.no_room f) e = not_both e refl

pub not_found_is_missing : law.NotFoundIsMissing
not_found_is_missing step s allowed = (
  (λ e. by (refuses_for_reason step s s Refusal.NotFound e)),
  (λ m. after_allowed step s allowed ∙ ap (concluded step s) (missing_acts s step m)),
)
  where
    by : HasReason s step Refusal.NotFound ⊎ ((Refusal.NotFound ≡ Refusal.Full) × (would_pass_bound step s ≡ true)) → IsMissing s step
    by (inl reason) = missing_of s step Refusal.NotFound reason refl
    by (inr full) = not_both refl (ap is_missing full.0)

pub past_bound_is_full : law.PastBoundIsFull
past_bound_is_full step s allowed past = after_allowed step s allowed ∙ by (act step s) past
  where
    by : (o : Outcome State) → is_past_after s o ≡ true → concluded step s o ≡ said (Err Refusal.Full) s
    by NotEnabled e = not_both e refl
    by (Refused refusal) e = not_both e refl
    by (Done content s') e =
        ap (λ b. cond b (said (Err Refusal.Full) s) (said (Ok (reply_of step content (settled s s').world)) (settled s s'))) e
