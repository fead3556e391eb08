-- What is asked in a namespace goes along with a choice of owners.
use Rattle.std.specs.Prelude.{◌≡◌, ℕ, ◌+◌, Bool, true, not, Some, is_some}
use Rattle.std.proofs.Common.{refl, sym, ap, ◌∙◌}
use Rattle.std.specs.FinMap.{get}
use Rattle.ns_types.specs.declared.allocation.DesiredStatus.TheVariants as DesiredStatus
use Rattle.ns_types.specs.declared.evaluation.Evaluation.{Evaluation}
use Rattle.ns_types.specs.declared.evaluation.Trigger.TheVariants as Trigger
use Rattle.ns_types.specs.declared.job.Job.{Job}
use Rattle.ns_types.specs.declared.job.Registration.{Registration}
use Rattle.ns_types.specs.declared.refusal.Refusal.TheVariants as Refusal
use Rattle.ns_types.specs.declared.reply.Content.TheVariants as Content
use Rattle.ns_types.specs.declared.step.AskCommand.{AskCommand}
use Rattle.ns_types.specs.Asking.Asks.{
  first_refusal,
  pool_of,
  document_of,
  registered_job,
  registered_with,
  register,
  deregistered,
  deregistered_index,
  deregister,
}
use Rattle.ns_types.specs.Asking.Asks.{stop_allocation, asked_in, ask}
use Rattle.ns_types.specs.Isolation.{Part, alone_in}
use Rattle.ns_types.specs.Settling.Making.{put_tenant, with_job, with_desired, evaluation_of, evaluation_for, with_evaluation, make_in, make}
use Rattle.ns_types.specs.State.Names.{Name}
use Rattle.ns_types.specs.Working.Queue.{queue}
use Rattle.ns_types.specs.Asking.Reads.{quota_usage}
use Rattle.ns_types.specs.State.Rows.{World, Tenant, is_live}
use Rattle.ns_types.specs.State.Sums.{names_quota}
use Rattle.ns_types.proofs.Lists.{cond_same}
use Rattle.ns_types.proofs.Registrations.{refusal_alike}
use Rattle.ns_audit.specs.Apart.{IsApart}
use Rattle.ns_audit.proofs.Alone.Chosen.{tenant_alone, pool_alone, GoesAlone, goes_then, goes_put, goes_with, tenant_seen}
use Rattle.ns_audit.proofs.Alone.Going.{Goes, goes_refused, goes_done, goes_by, goes_read, goes_unless, goes_refused_by, goes_found, goes_either}
use Rattle.ns_audit.proofs.Alone.Settling.{goes_queue}
use Rattle.ns_audit.proofs.Alone.Summing.{quota_use_alone, its_quota}

module _ (part : Part) (b : Bool) (ns : Name) (side : part.spaces ns ≡ b) where
  pub goes_make_in : (e : Evaluation) (t : Tenant) → GoesAlone part b (λ w. make_in ns e w t)
  goes_make_in e t = goes_then part b (put_tenant ns (with_evaluation e t)) (λ w. queue w (ns, t.evaluation_number + 1))
      (goes_put part b ns side (with_evaluation e t)) (goes_queue part b (ns, t.evaluation_number + 1) side)

  pub goes_make : (evaluation : Tenant → Evaluation) → GoesAlone part b (make ns evaluation)
  goes_make evaluation = goes_with part b (λ w. get w.tenants ns) (λ t w. make_in ns (evaluation t) w t) (tenant_seen part b ns side)
      (λ t. goes_make_in (evaluation t) t)

  module _ (w : World) (apart : IsApart part w) where
    registration_goes : (r : Registration) (t : Tenant) → get w.tenants ns ≡ Some t → Goes part w b (register ns r w t) (register ns r (alone_in part w) t)
    registration_goes r t is =
        goes_refused_by part w b (first_refusal w t r) (first_refusal (alone_in part w) t r) _ _
        (λ own. refusal_alike (alone_in part w) t r w (λ permitted. ap is_some (pool_alone part w (pool_of t r) (apart.pool ns t _ is permitted ∙ side ∙ own))))
        (λ _. with_the_job (registered_job (t.index + 1) (document_of t r) (get t.jobs r.id)))
      where
        with_the_job : (job : Job) → Goes part w b (registered_with ns r w t job) (registered_with ns r (alone_in part w) t job)
        with_the_job job = goes_by part w b (Content.Registered (t.evaluation_number + 1) (t.index + 1) job.modify_index)
            (λ x. make_in ns (evaluation_of r.id job.document Trigger.JobRegister) x (with_job r.id job t))
            (goes_make_in (evaluation_of r.id job.document Trigger.JobRegister) (with_job r.id job t))

    deregistration_goes : (id : Name) (purge : Bool) (t : Tenant) → Goes part w b (deregister ns id purge w t) (deregister ns id purge (alone_in part w) t)
    deregistration_goes id purge t = goes_found part w b (get t.jobs id) _ _ _ (λ _. refl) (λ job _.
        goes_by part w b (Content.Registered (t.evaluation_number + 1) (t.index + 1) (deregistered_index purge (t.index + 1) job))
        (λ x. make_in ns (evaluation_of id job.document Trigger.JobDeregister) x (deregistered purge id job t))
        (goes_make_in (evaluation_of id job.document Trigger.JobDeregister) (deregistered purge id job t)))

    stop_goes : (n : ℕ) (t : Tenant) → Goes part w b (stop_allocation ns n w t) (stop_allocation ns n (alone_in part w) t)
    stop_goes n t = goes_found part w b (get t.allocations n) _ _ _ (λ _. refl) (λ a _.
        goes_unless part w b (not (is_live a)) _ Refusal.Conflict _ _ (λ _. refl) (λ _.
        goes_by part w b (Content.Stopped (t.evaluation_number + 1) (t.index + 1))
        (λ x. make_in ns (evaluation_for t a Trigger.AllocStop) x (with_desired n DesiredStatus.Stop t))
        (goes_make_in (evaluation_for t a Trigger.AllocStop) (with_desired n DesiredStatus.Stop t))))

    usage_goes : (quota : Name) (t : Tenant) → get w.tenants ns ≡ Some t → Goes part w b (quota_usage quota w t) (quota_usage quota (alone_in part w) t)
    usage_goes quota t is = goes_either part w b (names_quota quota t.namespace) _ _ _ _ _ (λ _. refl)
        (λ named. goes_done part w b _ _ w (alone_in part w) (λ own. ap (Content.Usage quota) (quota_use_alone part w apart.quota quota (mine named own)))
        (sym (cond_same b (alone_in part w))))
        (λ _. goes_refused part w b Refusal.NotFound)
      where
        mine : names_quota quota t.namespace ≡ true → b ≡ true → part.quotas quota ≡ true
        mine named own = its_quota part w apart.quota ns t quota is named ∙ side ∙ own

    asked_goes : (command : AskCommand) (t : Tenant) → get w.tenants ns ≡ Some t →
        Goes part w b (asked_in ns command w t) (asked_in ns command (alone_in part w) t)
    asked_goes (AskCommand.ListJobs prefix) t is = goes_read part w b _
    asked_goes (AskCommand.Register r) t is = registration_goes r t is
    asked_goes (AskCommand.ReadJob id) t is = goes_found part w b (get t.jobs id) _ _ _ (λ _. refl) (λ job _. goes_read part w b _)
    asked_goes (AskCommand.Deregister id purge) t is = deregistration_goes id purge t
    asked_goes (AskCommand.JobAllocations id) t is = goes_read part w b _
    asked_goes (AskCommand.JobEvaluations id) t is = goes_read part w b _
    asked_goes (AskCommand.ListEvaluations prefix) t is = goes_read part w b _
    asked_goes (AskCommand.ReadEvaluation n) t is = goes_found part w b (get t.evaluations n) _ _ _ (λ _. refl) (λ e _. goes_read part w b _)
    asked_goes (AskCommand.ListAllocations prefix) t is = goes_read part w b _
    asked_goes (AskCommand.ReadAllocation n) t is = goes_found part w b (get t.allocations n) _ _ _ (λ _. refl) (λ a _. goes_read part w b _)
    asked_goes (AskCommand.StopAllocation n) t is = stop_goes n t
    asked_goes AskCommand.ReadNamespace t is = goes_read part w b _
    asked_goes (AskCommand.QuotaUsage quota) t is = usage_goes quota t is
    asked_goes (AskCommand.Events index) t is = goes_read part w b _

    pub ask_goes : (command : AskCommand) → Goes part w b (ask ns command w) (ask ns command (alone_in part w))
    unfolding ask
    ask_goes command = goes_found part w b (get w.tenants ns) (get (alone_in part w).tenants ns) (asked_in ns command w) (asked_in ns command (alone_in part w))
        (λ own. tenant_alone part w ns (side ∙ own)) (λ t is. asked_goes command t is)
