-- What commands of administrators, and requests in a namespace, lead to.
use Rattle.std.specs.Prelude.{◌≡◌, ℕ, ◌+◌, Bool, true, false, not, Option, Some}
use Rattle.std.specs.FinMap.{get, remove}
use Rattle.ns_types.specs.declared.allocation.Allocation.{Allocation}
use Rattle.ns_types.specs.declared.allocation.DesiredStatus.{DesiredStatus}
use Rattle.ns_types.specs.declared.evaluation.Trigger.TheVariants as Trigger
use Rattle.ns_types.specs.declared.job.Job.{Job}
use Rattle.ns_types.specs.declared.job.Registration.{Registration}
use Rattle.ns_types.specs.declared.records.Namespace.{Namespace}
use Rattle.ns_types.specs.declared.refusal.Refusal.TheVariants as Refusal
use Rattle.ns_types.specs.declared.step.AdminCommand.{AdminCommand}
use Rattle.ns_types.specs.declared.step.AskCommand.{AskCommand}
use Rattle.ns_types.specs.Asking.Admins.{has_live, has_open, with_namespace, put_namespace, delete_namespace}
use Rattle.ns_types.specs.Asking.Admins.{put_quota, delete_quota, read_quota, put_pool_record, delete_pool}
use Rattle.ns_types.specs.Asking.Asks.{asked_in, deregistered, document_of, first_refusal, registered_job}
use Rattle.ns_types.specs.Asking.Policies.{administer, with_acl, with_world}
use Rattle.ns_types.specs.Settling.Making.{evaluation_for, evaluation_of, make_in, put_tenant, with_desired, with_job}
use Rattle.ns_types.specs.Settling.Outcome.{Outcome, lift}
use Rattle.ns_types.specs.State.Names.{Name, ByName}
use Rattle.ns_types.specs.State.Rows.{State, World, Acl, Tenant, PoolRows, QuotaRows, is_live}
use Rattle.ns_types.specs.State.Sums.{names_quota}
use Rattle.ns_types.specs.State.Tables.{any_row}
use Rattle.ns_types.proofs.Leads.{Leads, leads_unless, leads_refused, leads_found, leads_if, leads_lift, leads_whole}
use Rattle.ns_types.proofs.Lists.{left_none, right_none}
use Rattle.ns_types.proofs.Tests.{is_yes}

-- ---- administrators

-- what holds with any quotas and pools, with any namespace put, and without one that may be deleted, holds of all that a command leads to
module _ (s : State) (P : AdminCommand → World → Type 0)
    (tables : (command : AdminCommand) (quotas : ByName QuotaRows) (pools : ByName PoolRows) → P command (record s.world { quotas = quotas; pools = pools }))
    (put : (name : Name) (namespace : Namespace) →
    P (AdminCommand.PutNamespace name namespace) (put_tenant name (with_namespace namespace (get s.world.tenants name)) s.world))
    (deleted : (name : Name) (t : Tenant) → get s.world.tenants name ≡ Some t → has_open t ≡ false → has_live t ≡ false →
    P (AdminCommand.DeleteNamespace name) (record s.world { tenants = remove s.world.tenants name })) where
  abbrev HoldsIn : AdminCommand → State → Type 0
  HoldsIn command x = P command x.world

  still : (command : AdminCommand) → P command s.world
  still command = tables command s.world.quotas s.world.pools

  in_world : (command : AdminCommand) (o : Outcome World) → Leads (P command) o → Leads (HoldsIn command) (lift (with_world s.acl) o)
  in_world command = leads_lift (HoldsIn command) (with_world s.acl) (P command) (λ w h. h)

  in_acl : (command : AdminCommand) (o : Outcome Acl) → Leads (HoldsIn command) (lift (with_acl s.world) o)
  in_acl command = leads_whole (HoldsIn command) (with_acl s.world) (λ acl. still command)

  pub leads_administered : (secret : Option Name) (command : AdminCommand) → Leads (HoldsIn command) (administer secret command s)
  unfolding administer put_namespace delete_namespace put_quota delete_quota put_pool_record delete_pool
  leads_administered secret AdminCommand.ListNamespaces = still _
  leads_administered secret (AdminCommand.PutNamespace name namespace) =
      in_world _ (put_namespace name namespace s.world) (leads_unless _ _ _ _ (λ _. leads_unless _ _ _ _ (λ _. leads_unless _ _ _ _ (λ _.
      leads_unless _ _ _ _ (λ _. leads_unless _ _ _ _ (λ _. put name namespace))))))
  leads_administered secret (AdminCommand.DeleteNamespace name) =
      in_world _ (delete_namespace name s.world) (leads_found _ (get s.world.tenants name) _
      (λ t is. leads_unless _ _ _ _ (λ _. leads_unless _ _ _ _ (λ idle.
      deleted name t is (right_none (any_row (λ _ job. true) t.jobs) (has_open t) (left_none _ (has_live t) idle)) (right_none _ (has_live t) idle)))))
  leads_administered secret AdminCommand.ListQuotas = still _
  leads_administered secret (AdminCommand.ReadQuota name) =
      in_world _ (read_quota name s.world) (leads_found _ (get s.world.quotas name) _ (λ q _. still _))
  leads_administered secret (AdminCommand.PutQuota name quota) =
      in_world _ (put_quota name quota s.world) (leads_unless _ _ _ _ (λ _. tables _ _ _))
  leads_administered secret (AdminCommand.DeleteQuota name) =
      in_world _ (delete_quota name s.world) (leads_found _ (get s.world.quotas name) _ (λ q _. leads_unless _ _ _ _ (λ _. tables _ _ _)))
  leads_administered secret AdminCommand.ListPools = still _
  leads_administered secret (AdminCommand.PutPool name pool) =
      in_world _ (put_pool_record name pool s.world) (leads_unless _ _ _ _ (λ _. tables _ _ _))
  leads_administered secret (AdminCommand.DeletePool name) =
      in_world _ (delete_pool name s.world) (leads_found _ (get s.world.pools name) _
      (λ p _. leads_unless _ _ _ _ (λ _. leads_unless _ _ _ _ (λ _. tables _ _ _))))
  leads_administered secret (AdminCommand.ReadPolicy name) = in_acl _ _
  leads_administered secret (AdminCommand.PutPolicy name policy) = in_acl _ _
  leads_administered secret (AdminCommand.DeletePolicy name) = in_acl _ _
  leads_administered secret (AdminCommand.CreateToken new) = in_acl _ _
  leads_administered secret (AdminCommand.DeleteToken accessor) = in_acl _ _

-- ---- requests in a namespace

-- the job that a registration makes
abbrev pub job_of : Tenant → Registration → Job
job_of t r = registered_job (t.index + 1) (document_of t r) (get t.jobs r.id)

-- what holds without a change, and of the worlds that registrations, deregistrations and stops make, holds of all that a request leads to
module _ (w : World) (ns : Name) (t : Tenant) (P : AskCommand → World → Type 0) (still : (command : AskCommand) → P command w)
    (registers : (r : Registration) →
    P (AskCommand.Register r) (make_in ns (evaluation_of r.id (job_of t r).document Trigger.JobRegister) w (with_job r.id (job_of t r) t)))
    (deregisters : (id : Name) (purge : Bool) (job : Job) → get t.jobs id ≡ Some job →
    P (AskCommand.Deregister id purge) (make_in ns (evaluation_of id job.document Trigger.JobDeregister) w (deregistered purge id job t)))
    (stops : (n : ℕ) (a : Allocation) → get t.allocations n ≡ Some a → is_live a ≡ true →
    P (AskCommand.StopAllocation n) (make_in ns (evaluation_for t a Trigger.AllocStop) w (with_desired n DesiredStatus.Stop t))) where
  pub leads_asked : (command : AskCommand) → Leads (P command) (asked_in ns command w t)
  leads_asked (AskCommand.ListJobs prefix) = still _
  leads_asked (AskCommand.Register r) = leads_refused (P (AskCommand.Register r)) (first_refusal w t r) _ (λ _. registers r)
  leads_asked (AskCommand.ReadJob id) = leads_found (P (AskCommand.ReadJob id)) (get t.jobs id) _ (λ job _. still _)
  leads_asked (AskCommand.Deregister id purge) = leads_found (P (AskCommand.Deregister id purge)) (get t.jobs id) _ (λ job at. deregisters id purge job at)
  leads_asked (AskCommand.JobAllocations id) = still _
  leads_asked (AskCommand.JobEvaluations id) = still _
  leads_asked (AskCommand.ListEvaluations prefix) = still _
  leads_asked (AskCommand.ReadEvaluation n) = leads_found (P (AskCommand.ReadEvaluation n)) (get t.evaluations n) _ (λ e _. still _)
  leads_asked (AskCommand.ListAllocations prefix) = still _
  leads_asked (AskCommand.ReadAllocation n) = leads_found (P (AskCommand.ReadAllocation n)) (get t.allocations n) _ (λ a _. still _)
  leads_asked (AskCommand.StopAllocation n) = leads_found (P (AskCommand.StopAllocation n)) (get t.allocations n) _
      (λ a at. leads_unless (P (AskCommand.StopAllocation n)) (not (is_live a)) Refusal.Conflict _ (λ live. stops n a at (is_yes _ live)))
  leads_asked AskCommand.ReadNamespace = still _
  leads_asked (AskCommand.QuotaUsage quota) =
      leads_if (P (AskCommand.QuotaUsage quota)) (names_quota quota t.namespace) _ _ (λ _. still (AskCommand.QuotaUsage quota)) (λ _. tt)
  leads_asked (AskCommand.Events index) = still _
