-- What administrators ask changes no work.
use Rattle.std.specs.Prelude.{◌≡◌, ℕ, Bool, true, false, cond, [], ◌||◌, IsTrue, Option, Some, None, Result, Ok, Err, is_some}
use Rattle.std.proofs.Common.{◌⊎◌, inl, inr, refl, sym, ap, subst, ◌∙◌}
use Rattle.std.specs.FinMap.{empty, get, get-empty, get-insert, get-remove, insert, remove}
use Rattle.std.specs.Option.{option_and_then}
use Rattle.std.specs.Ordering.{nat_cmp}
use Rattle.ns_types.specs.declared.evaluation.Evaluation.{Evaluation}
use Rattle.ns_types.specs.declared.evaluation.Status.{Status}
use Rattle.ns_types.specs.declared.records.Namespace.{Namespace}
use Rattle.ns_types.specs.declared.records.Pool.{Pool}
use Rattle.ns_types.specs.declared.records.Quota.{Quota}
use Rattle.ns_types.specs.declared.refusal.Refusal.{Refusal}
use Rattle.ns_types.specs.declared.reply.Content.{Content}
use Rattle.ns_types.specs.declared.step.AdminCommand.{AdminCommand}
use Rattle.ns_types.specs.Asking.Admins.{delete_namespace, delete_pool, delete_quota, has_live, has_open, put_namespace}
use Rattle.ns_types.specs.Asking.Admins.{put_pool_record, put_quota, read_quota, with_namespace}
use Rattle.ns_types.specs.Asking.Policies.{administer, with_acl, with_world}
use Rattle.ns_types.specs.Settling.Outcome.{Changes, Outcome, lift}
use Rattle.ns_types.specs.State.Names.{ByName, Key, Name, default_name, has_key, name_cmp, same_name}
use Rattle.ns_types.specs.State.Rows.{Acl, State, Tenant, World, is_blocked, is_open, is_pending}
use Rattle.ns_types.specs.Steps.{opening, opening_tenant}
use Rattle.ns_types.specs.Validity.{IsSound}
use Rattle.ns_types.specs.Working.Looks.{worker_at}
use Rattle.ns_types.specs.Working.Worker.{Worker}
use Rattle.ns_types.proofs.Leads.{Leads, leads_found, leads_lift, leads_unless, leads_whole}
use Rattle.ns_types.proofs.Lists.{left_none, not_both, right_none}
use Rattle.ns_types.proofs.Named.{names, one_name, one_number}
use Rattle.ns_types.proofs.Tables.{none_of_any, tied}
use Rattle.ns_types.proofs.Tests.{either_of}
use Rattle.ns_queues.specs.Work.{AdministrationKeepsWork, SameWork}

-- ---- a row of a namespace, where that is there

abbrev worker_in : ℕ → Option Tenant → Option Worker
worker_in number t = option_and_then (λ t. get t.workers number) t

abbrev evaluation_in : ℕ → Option Tenant → Option Evaluation
evaluation_in n t = option_and_then (λ t. get t.evaluations n) t

module _ {Row : Type 0} (look : Option Tenant → Row) (tenants : ByName Tenant) (name : Name) where
  put_same : (t : Tenant) → look (Some t) ≡ look (get tenants name) → (ns : Name) → look (get (insert tenants name t) ns) ≡ look (get tenants ns)
  put_same t alike ns = ap look (get-insert names tenants name t ns) ∙ by (same_name ns name) refl
    where
      by : (b : Bool) → same_name ns name ≡ b → look (cond b (Some t) (get tenants ns)) ≡ look (get tenants ns)
      by true e = alike ∙ ap (λ ns. look (get tenants ns)) (sym (tied one_name ns name e))
      by false e = refl

  gone_same : (ns : Name) → (ns ≡ name → look (get tenants ns) ≡ look None) → look (get (remove tenants name) ns) ≡ look (get tenants ns)
  gone_same ns none = ap look (get-remove names tenants name ns) ∙ by (same_name ns name) refl
    where
      by : (b : Bool) → same_name ns name ≡ b → look (cond b None (get tenants ns)) ≡ look (get tenants ns)
      by true e = sym (none (tied one_name ns name e))
      by false e = refl

-- a new namespace has none
put_worker : (namespace : Namespace) (old : Option Tenant) (number : ℕ) → worker_in number (Some (with_namespace namespace old)) ≡ worker_in number old
put_worker namespace None number = get-empty nat_cmp number
put_worker namespace (Some t) number = refl

put_evaluation : (namespace : Namespace) (old : Option Tenant) (n : ℕ) → evaluation_in n (Some (with_namespace namespace old)) ≡ evaluation_in n old
put_evaluation namespace None n = get-empty nat_cmp n
put_evaluation namespace (Some t) n = refl

-- ---- what is worked on is open

pending_open : (status : Status) → IsTrue (is_pending status) → is_open status ≡ true
pending_open Status.Pending is = refl
pending_open Status.Blocked is = refl
pending_open Status.Complete is = not_both is refl
pending_open Status.Failed is = not_both is refl
pending_open Status.Canceled is = not_both is refl

blocked_open : (status : Status) → is_blocked status ≡ true → is_open status ≡ true
blocked_open Status.Pending is = refl
blocked_open Status.Blocked is = refl
blocked_open Status.Complete is = not_both is refl
blocked_open Status.Failed is = not_both is refl
blocked_open Status.Canceled is = not_both is refl

module _ (w : World) (sound : IsSound w) (ns : Name) (t : Tenant) (there : get w.tenants ns ≡ Some t) (idle : has_open t ≡ false) where
  none_open : {A : Type 0} (n : ℕ) (e : Evaluation) → get t.evaluations n ≡ Some e → is_open e.status ≡ true → A
  none_open n e at is = not_both is (none_of_any one_number (λ _ e. is_open e.status) t.evaluations n e idle at)

  no_worker : (number : ℕ) → get t.workers number ≡ None
  no_worker number = by (get t.workers number) refl
    where
      by : (r : Option Worker) → get t.workers number ≡ r → get t.workers number ≡ None
      by None at = at
      by (Some worker) at = let s = (sound.tenant ns t there).worker number worker at in
          none_open worker.evaluation s.row s.is_row (pending_open s.row.status s.pending)

  none_ready : {A : Type 0} (n : ℕ) → has_key w.ready (ns, n) ≡ true → A
  none_ready n has = let r = sound.ready (ns, n) has in
      none_open n r.row (ap (evaluation_in n) (sym there) ∙ r.is_row) (pending_open r.row.status r.pending)

  none_blocked : {A : Type 0} (n : ℕ) → has_key w.blocked (ns, n) ≡ true → A
  none_blocked {A = A} n has = by (get t.evaluations n) refl
    where
      by : (r : Option Evaluation) → get t.evaluations n ≡ r → A
      by None at = not_both (sound.blocked (ns, n) has) (ap (λ t. is_some (evaluation_in n t)) there ∙ ap is_some at)
      by (Some e) at = none_open n e at (blocked_open e.status (sym ((sound.tenant ns t there).blocked_listed n e at) ∙ has))

  none_listed : {A : Type 0} (key : Key) → key.0 ≡ ns → (has_key w.ready key || has_key w.blocked key) ≡ true → A
  none_listed {A = A} key is listed = by (either_of (has_key w.ready (ns, key.1)) (has_key w.blocked (ns, key.1))
      (ap (λ ns. has_key w.ready (ns, key.1) || has_key w.blocked (ns, key.1)) (sym is) ∙ listed))
    where
      by : (has_key w.ready (ns, key.1) ≡ true) ⊎ (has_key w.blocked (ns, key.1) ≡ true) → A
      by (inl ready) = none_ready key.1 ready
      by (inr blocked) = none_blocked key.1 blocked

-- ---- what each command leads to

pub same_work : (w : World) → SameWork w w
same_work w = record { worker = λ number ns. refl; evaluation = λ key listed. refl; ready = refl; blocked = refl }

module _ (w : World) where
  put : (name : Name) (namespace : Namespace) → Leads (SameWork w) (put_namespace name namespace w)
  unfolding put_namespace
  put name namespace = leads_unless (SameWork w) _ _ _ (λ _. leads_unless (SameWork w) _ _ _ (λ _. leads_unless (SameWork w) _ _ _ (λ _.
      leads_unless (SameWork w) _ _ _ (λ _. leads_unless (SameWork w) _ _ _ (λ _. record {
        worker = λ number ns. put_same (worker_in number) w.tenants name (with_namespace namespace (get w.tenants name))
            (put_worker namespace (get w.tenants name) number) ns;
        evaluation = λ key listed. put_same (evaluation_in key.1) w.tenants name (with_namespace namespace (get w.tenants name))
            (put_evaluation namespace (get w.tenants name) key.1) key.0;
        ready = refl;
        blocked = refl;
      })))))

  deleted : IsSound w → (name : Name) → Leads (SameWork w) (delete_namespace name w)
  unfolding delete_namespace
  deleted sound name = leads_found (SameWork w) (get w.tenants name) _ (λ t is. leads_unless (SameWork w) _ _ _ (λ _. leads_unless (SameWork w) _ _ _ (λ free.
      let idle = right_none _ (has_open t) (left_none _ (has_live t) free) in
      record {
        worker = λ number ns. gone_same (worker_in number) w.tenants name ns
            (λ here. ap (λ ns. worker_in number (get w.tenants ns)) here ∙ ap (worker_in number) is ∙ no_worker w sound name t is idle number);
        evaluation = λ key listed. gone_same (evaluation_in key.1) w.tenants name key.0 (λ here. none_listed w sound name t is idle key here listed);
        ready = refl;
        blocked = refl;
      })))

  -- the rows of namespaces, and the lists, are as they were
  quota_put : (name : Name) (quota : Quota) → Leads (SameWork w) (put_quota name quota w)
  unfolding put_quota
  quota_put name quota = leads_unless (SameWork w) _ _ _ (λ _.
      record { worker = λ number ns. refl; evaluation = λ key listed. refl; ready = refl; blocked = refl })

  quota_deleted : (name : Name) → Leads (SameWork w) (delete_quota name w)
  unfolding delete_quota
  quota_deleted name = leads_found (SameWork w) (get w.quotas name) _ (λ q _. leads_unless (SameWork w) _ _ _ (λ _.
      record { worker = λ number ns. refl; evaluation = λ key listed. refl; ready = refl; blocked = refl }))

  pool_put : (name : Name) (pool : Pool) → Leads (SameWork w) (put_pool_record name pool w)
  unfolding put_pool_record
  pool_put name pool = leads_unless (SameWork w) _ _ _ (λ _.
      record { worker = λ number ns. refl; evaluation = λ key listed. refl; ready = refl; blocked = refl })

  pool_deleted : (name : Name) → Leads (SameWork w) (delete_pool name w)
  unfolding delete_pool
  pool_deleted name = leads_found (SameWork w) (get w.pools name) _ (λ p is. leads_unless (SameWork w) _ _ _ (λ _. leads_unless (SameWork w) _ _ _ (λ _.
      record { worker = λ number ns. refl; evaluation = λ key listed. refl; ready = refl; blocked = refl })))

module _ (s : State) where
  abbrev Alike : State → Type 0
  Alike s' = SameWork s.world s'.world

  of_world : (o : Outcome World) → Leads (SameWork s.world) o → Leads Alike (lift (with_world s.acl) o)
  of_world = leads_lift Alike (with_world s.acl) (SameWork s.world) (λ w h. h)

  of_acl : (o : Outcome Acl) → Leads Alike (lift (with_acl s.world) o)
  of_acl = leads_whole Alike (with_acl s.world) (λ a. same_work s.world)

  administered : IsSound s.world → (secret : Option Name) (command : AdminCommand) → Leads Alike (administer secret command s)
  unfolding administer
  administered sound secret AdminCommand.ListNamespaces = same_work s.world
  administered sound secret (AdminCommand.PutNamespace name namespace) = of_world _ (put s.world name namespace)
  administered sound secret (AdminCommand.DeleteNamespace name) = of_world _ (deleted s.world sound name)
  administered sound secret AdminCommand.ListQuotas = same_work s.world
  administered sound secret (AdminCommand.ReadQuota name) = of_world (read_quota name s.world)
      (leads_found (SameWork s.world) (get s.world.quotas name) _ (λ q _. same_work s.world))
  administered sound secret (AdminCommand.PutQuota name quota) = of_world _ (quota_put s.world name quota)
  administered sound secret (AdminCommand.DeleteQuota name) = of_world _ (quota_deleted s.world name)
  administered sound secret AdminCommand.ListPools = same_work s.world
  administered sound secret (AdminCommand.PutPool name pool) = of_world _ (pool_put s.world name pool)
  administered sound secret (AdminCommand.DeletePool name) = of_world _ (pool_deleted s.world name)
  administered sound secret (AdminCommand.ReadPolicy name) = of_acl _
  administered sound secret (AdminCommand.PutPolicy name policy) = of_acl _
  administered sound secret (AdminCommand.DeletePolicy name) = of_acl _
  administered sound secret (AdminCommand.CreateToken new) = of_acl _
  administered sound secret (AdminCommand.DeleteToken accessor) = of_acl _

  changed_alike : (o : Outcome State) (result : Result Content Refusal) (s' : State) → Leads Alike o → Changes o s result s' → Alike s'
  changed_alike o (Ok content) s' h is = subst (Leads Alike) is h
  changed_alike o (Err Refusal.Memory) s' h is = subst Alike (sym is.1) (same_work s.world)
  changed_alike o (Err refusal) s' h is = subst Alike (sym is.1) (same_work s.world)

pub administration_keeps_work : AdministrationKeepsWork
administration_keeps_work secret command s s' result valid changes =
    changed_alike s (administer secret command s) result s' (administered s valid.world secret command) changes

-- ---- at first

pub no_worker_at_first : (secret : Name) (number : ℕ) (ns : Name) → worker_at (opening secret).world number ns ≡ None
unfolding opening
no_worker_at_first secret number ns = put_same (worker_in number) empty default_name opening_tenant none ns
    ∙ ap (worker_in number) (get-empty name_cmp ns)
  where
    none : worker_in number (Some opening_tenant) ≡ worker_in number (get (empty {X = Tenant} {R = name_cmp}) default_name)
    none = get-empty nat_cmp number ∙ sym (ap (worker_in number) (get-empty name_cmp default_name))

pub none_ready_at_first : (secret : Name) → (opening secret).world.ready ≡ []
unfolding opening
none_ready_at_first secret = refl

pub none_blocked_at_first : (secret : Name) → (opening secret).world.blocked ≡ []
unfolding opening
none_blocked_at_first secret = refl
