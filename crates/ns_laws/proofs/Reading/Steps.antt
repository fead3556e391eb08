-- A read changes nothing, and it is answered where what it names is there.
use Rattle.std.specs.Prelude.{◌≡◌, Bool, true, false, cond, Option, Some, None, Ok, Err, is_some}
use Rattle.std.proofs.Common.{refl, ap, ◌∙◌}
use Rattle.std.specs.FinMap.{get}
use Rattle.std.specs.Option.{option_and_then, option_map_or}
use Rattle.ns_types.specs.declared.refusal.Refusal.{Refusal}
use Rattle.ns_types.specs.declared.reply.Content.{Content}
use Rattle.ns_types.specs.declared.reply.Reply.{Reply}
use Rattle.ns_types.specs.declared.step.AdminCommand.{AdminCommand}
use Rattle.ns_types.specs.declared.step.AskCommand.{AskCommand}
use Rattle.ns_types.specs.declared.step.NodeCommand.{NodeCommand}
use Rattle.ns_types.specs.declared.step.Step.{Step}
use Rattle.ns_types.specs.Asking.Asks.{ask}
use Rattle.ns_types.specs.Asking.Nodes.{ask_pool, list_nodes, read_pool}
use Rattle.ns_types.specs.Asking.Policies.{administer, with_acl, with_world, read_policy}
use Rattle.ns_types.specs.Asking.Admins.{read_quota}
use Rattle.ns_types.specs.Asking.Reads.{job_shown, list_jobs, job_allocations, job_evaluations, list_evaluations, list_allocations, read_namespace, events_from}
use Rattle.ns_types.specs.Settling.Outcome.{Outcome, NotEnabled, Refused, Done, found, lift}
use Rattle.ns_types.specs.State.Names.{Name}
use Rattle.ns_types.specs.State.Rows.{State}
use Rattle.ns_types.specs.State.Sums.{names_quota}
use Rattle.ns_types.specs.Steps.{after, act, said, concluded, is_allowed, is_past_bound, settled, reply_of}
use Rattle.ns_types.proofs.Lists.{not_both}
use Rattle.ns_laws.specs.Reads as law
use Rattle.ns_audit.proofs.RefusalLemmas.{after_allowed, same_refusal}
use Rattle.ns_audit.proofs.StepLemmas.{not_refused, same_answer}
use Rattle.ns_laws.proofs.Access.Tokens.{Leaves, idle, settled_idle}

-- ---- what a read does

-- it leaves the state and is done where what it names is there, and it is refused with `NotFound` where that is not there
abbrev Reads : {S : Type 0} → S → Bool → Outcome S → Type 0
Reads s there NotEnabled = ⊥
Reads s there (Refused refusal) = (refusal ≡ Refusal.NotFound) × (there ≡ false)
Reads s there (Done content x) = (x ≡ s) × (there ≡ true)

module _ {S : Type 0} (s : S) where
  reads_some : {A : Type 0} (o : Option A) (content : A → Content) → Reads s (is_some o) (found o (λ a. Done (content a) s))
  reads_some None content = (refl, refl)
  reads_some (Some a) content = (refl, refl)

  reads_in : {A B : Type 0} (o : Option A) (f : A → Option B) (go : A → Outcome S) → ((a : A) → Reads s (is_some (f a)) (go a)) →
      Reads s (is_some (option_and_then f o)) (found o go)
  reads_in None f go h = (refl, refl)
  reads_in (Some a) f go h = h a

  reads_test : {A : Type 0} (o : Option A) (test : A → Bool) (go : A → Outcome S) → ((a : A) → Reads s (test a) (go a)) →
      Reads s (option_map_or test o false) (found o go)
  reads_test None test go h = (refl, refl)
  reads_test (Some a) test go h = h a

  reads_if : (b : Bool) (content : Content) → Reads s b (cond b (Done content s) (Refused Refusal.NotFound))
  reads_if true content = (refl, refl)
  reads_if false content = (refl, refl)

reads_lift : {A B : Type 0} (whole : A → B) (a : A) (there : Bool) (o : Outcome A) → Reads a there o → Reads (whole a) there (lift whole o)
reads_lift whole a there NotEnabled h = h
reads_lift whole a there (Refused refusal) h = h
reads_lift whole a there (Done content x) h = (ap whole h.0, h.1)

reads_asked : (s : State) (ns : Name) (secret : Option Name) (command : AskCommand) → law.is_read (Step.Ask ns secret command) ≡ true →
    Reads s.world (law.is_there (Step.Ask ns secret command) s) (ask ns command s.world)
unfolding ask
reads_asked s ns secret (AskCommand.ListJobs prefix) e = reads_some s.world (get s.world.tenants ns) (list_jobs ns prefix)
reads_asked s ns secret (AskCommand.Register r) e = not_both e refl
reads_asked s ns secret (AskCommand.ReadJob id) e = reads_in s.world (get s.world.tenants ns) (λ t. get t.jobs id) _
    (λ t. reads_some s.world (get t.jobs id) (λ job. Content.Job (job_shown ns t id job)))
reads_asked s ns secret (AskCommand.Deregister id purge) e = not_both e refl
reads_asked s ns secret (AskCommand.JobAllocations id) e = reads_some s.world (get s.world.tenants ns) (job_allocations ns id)
reads_asked s ns secret (AskCommand.JobEvaluations id) e = reads_some s.world (get s.world.tenants ns) (job_evaluations ns id)
reads_asked s ns secret (AskCommand.ListEvaluations prefix) e = reads_some s.world (get s.world.tenants ns) (list_evaluations ns prefix)
reads_asked s ns secret (AskCommand.ReadEvaluation n) e = reads_in s.world (get s.world.tenants ns) (λ t. get t.evaluations n) _
    (λ t. reads_some s.world (get t.evaluations n) (λ e. Content.Evaluation (record { namespace = ns; number = n; row = e })))
reads_asked s ns secret (AskCommand.ListAllocations prefix) e = reads_some s.world (get s.world.tenants ns) (list_allocations ns prefix)
reads_asked s ns secret (AskCommand.ReadAllocation n) e = reads_in s.world (get s.world.tenants ns) (λ t. get t.allocations n) _
    (λ t. reads_some s.world (get t.allocations n) (λ a. Content.Allocation (record { namespace = ns; number = n; row = a })))
reads_asked s ns secret (AskCommand.StopAllocation n) e = not_both e refl
reads_asked s ns secret AskCommand.ReadNamespace e = reads_some s.world (get s.world.tenants ns) (read_namespace ns)
reads_asked s ns secret (AskCommand.QuotaUsage quota) e = reads_test s.world (get s.world.tenants ns) (λ t. names_quota quota t.namespace) _
    (λ t. reads_if s.world (names_quota quota t.namespace) _)
reads_asked s ns secret (AskCommand.Events index) e = reads_some s.world (get s.world.tenants ns) (events_from ns index)

reads_pool : (s : State) (pool : Name) (secret : Option Name) (command : NodeCommand) → law.is_read (Step.Node pool secret command) ≡ true →
    Reads s.world (law.is_there (Step.Node pool secret command) s) (ask_pool pool command s.world)
unfolding ask_pool
reads_pool s pool secret NodeCommand.ReadPool e = reads_some s.world (get s.world.pools pool) (read_pool pool)
reads_pool s pool secret NodeCommand.ListNodes e = reads_some s.world (get s.world.pools pool) (list_nodes pool s.world)
reads_pool s pool secret (NodeCommand.PutNode name offer) e = not_both e refl
reads_pool s pool secret (NodeCommand.DeleteNode name) e = not_both e refl
reads_pool s pool secret (NodeCommand.SetStatus name status) e = not_both e refl
reads_pool s pool secret (NodeCommand.SetEligible name eligible) e = not_both e refl
reads_pool s pool secret (NodeCommand.Report name r) e = not_both e refl

reads_administered : (s : State) (secret : Option Name) (command : AdminCommand) → law.is_read (Step.Admin secret command) ≡ true →
    Reads s (law.is_there (Step.Admin secret command) s) (administer secret command s)
unfolding administer
reads_administered s secret AdminCommand.ListNamespaces e = (refl, refl)
reads_administered s secret (AdminCommand.PutNamespace name namespace) e = not_both e refl
reads_administered s secret (AdminCommand.DeleteNamespace name) e = not_both e refl
reads_administered s secret AdminCommand.ListQuotas e = (refl, refl)
reads_administered s secret (AdminCommand.ReadQuota name) e = reads_lift (with_world s.acl) s.world _ (read_quota name s.world)
    (reads_some s.world (get s.world.quotas name) (λ q. Content.Quota (record { name = name; row = q.quota })))
reads_administered s secret (AdminCommand.PutQuota name quota) e = not_both e refl
reads_administered s secret (AdminCommand.DeleteQuota name) e = not_both e refl
reads_administered s secret AdminCommand.ListPools e = (refl, refl)
reads_administered s secret (AdminCommand.PutPool name pool) e = not_both e refl
reads_administered s secret (AdminCommand.DeletePool name) e = not_both e refl
reads_administered s secret (AdminCommand.ReadPolicy name) e = reads_lift (with_acl s.world) s.acl _ (read_policy name s.acl)
    (reads_some s.acl (get s.acl.policies name) (λ policy. Content.Policy (record { name = name; row = policy })))
reads_administered s secret (AdminCommand.PutPolicy name policy) e = not_both e refl
reads_administered s secret (AdminCommand.DeletePolicy name) e = not_both e refl
reads_administered s secret (AdminCommand.CreateToken new) e = not_both e refl
reads_administered s secret (AdminCommand.DeleteToken accessor) e = not_both e refl

reads : (step : Step) (s : State) → law.is_read step ≡ true → Reads s (law.is_there step s) (act step s)
unfolding act
reads (Step.Ask ns secret command) s e = reads_lift (with_world s.acl) s.world _ (ask ns command s.world) (reads_asked s ns secret command e)
reads (Step.Admin secret command) s e = reads_administered s secret command e
reads (Step.Node pool secret command) s e = reads_lift (with_world s.acl) s.world _ (ask_pool pool command s.world) (reads_pool s pool secret command e)
reads (Step.Dequeue worker ns n) s e = not_both e refl
reads (Step.Snap worker ns) s e = not_both e refl
reads (Step.Submit worker ns) s e = not_both e refl
reads (Step.Apply worker ns) s e = not_both e refl
reads (Step.Finish worker ns) s e = not_both e refl
reads (Step.Nack worker ns) s e = not_both e refl

-- ---- what a read answers

leaves_read : (s : State) (there : Bool) (o : Outcome State) → Reads s there o → Leaves s o
leaves_read s there NotEnabled h = tt
leaves_read s there (Refused refusal) h = tt
leaves_read s there (Done content x) h = h.0

pub reads_change_nothing : law.ReadsChangeNothing
reads_change_nothing step s t answer is e = idle step s t answer (λ _. leaves_read s (law.is_there step s) (act step s) (reads step s is)) e

abbrev is_missing : Refusal → Bool
is_missing Refusal.NotFound = true
is_missing _ = false

not_missing : {A : Type 0} (refusal : Refusal) (s : State) → is_missing refusal ≡ false → said (Err refusal) s ≡ said (Err Refusal.NotFound) s → A
not_missing refusal s other e = not_both (ap is_missing (same_refusal refusal Refusal.NotFound s s e) ∙ refl) other

module _ (step : Step) (s : State) (there : Bool) where
  concluded_missing : (o : Outcome State) → Reads s there o → concluded step s o ≡ said (Err Refusal.NotFound) s → there ≡ false
  concluded_missing NotEnabled h e = absurd h
  concluded_missing (Refused refusal) h e = h.1
  concluded_missing (Done content x) h e = by (is_past_bound (settled s x).world) e
    where
      by : (b : Bool) → cond b (said (Err Refusal.Full) s) (said (Ok (reply_of step content (settled s x).world)) (settled s x)) ≡
          said (Err Refusal.NotFound) s → there ≡ false
      by true e = not_missing Refusal.Full s refl e
      by false e = not_refused _ Refusal.NotFound (same_answer _ _ (settled s x) s e)

  concluded_absent : (o : Outcome State) → Reads s there o → there ≡ false → concluded step s o ≡ said (Err Refusal.NotFound) s
  concluded_absent NotEnabled h e = absurd h
  concluded_absent (Refused refusal) h e = ap (λ r. said (Err r) s) h.0
  concluded_absent (Done content x) h e = not_both h.1 e

  concluded_replies : (o : Outcome State) → Reads s there o → there ≡ true → is_past_bound s.world ≡ false →
      (reply : Reply) × (concluded step s o ≡ said (Ok reply) s)
  concluded_replies NotEnabled h e within = absurd h
  concluded_replies (Refused refusal) h e within = not_both e h.1
  concluded_replies (Done content x) h e within = (
    reply_of step content s.world,
    ap (λ (y : State). cond (is_past_bound y.world) (said (Err Refusal.Full) s) (said (Ok (reply_of step content y.world)) y)) (settled_idle s x h.0)
        ∙ ap (λ b. cond b (said (Err Refusal.Full) s) (said (Ok (reply_of step content s.world)) s)) within,
  )

pub not_found_where_missing : law.NotFoundWhereMissing
unfolding after
not_found_where_missing step s is = ((λ e. by (is_allowed step s.acl) refl e), from)
  where
    by : (b : Bool) → is_allowed step s.acl ≡ b → cond b (concluded step s (act step s)) (said (Err Refusal.Denied) s) ≡ said (Err Refusal.NotFound) s →
        (is_allowed step s.acl ≡ true) × (law.is_there step s ≡ false)
    by true allowed e = (allowed, concluded_missing step s (law.is_there step s) (act step s) (reads step s is) e)
    by false allowed e = not_missing Refusal.Denied s refl e

    from : (is_allowed step s.acl ≡ true) × (law.is_there step s ≡ false) → after step s ≡ said (Err Refusal.NotFound) s
    from h = after_allowed step s h.0 ∙ concluded_absent step s (law.is_there step s) (act step s) (reads step s is) h.1

pub reads_are_answered : law.ReadsAreAnswered
reads_are_answered step s valid is allowed there =
    let answered = concluded_replies step s (law.is_there step s) (act step s) (reads step s is) there valid.world.within in
    (answered.0, after_allowed step s allowed ∙ answered.1)
