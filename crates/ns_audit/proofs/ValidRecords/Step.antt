-- Each step keeps sound what administrators and registrations write, and it is so in the opening state.
use Rattle.std.specs.Prelude.{◌≡◌, Bool, true, false, cond, Option, Ok, Err}
use Rattle.std.proofs.Common.{ap, subst}
use Rattle.std.specs.FinMap.{get}
use Rattle.ns_types.specs.declared.refusal.Refusal.TheVariants as Refusal
use Rattle.ns_types.specs.declared.step.AdminCommand.{AdminCommand}
use Rattle.ns_types.specs.declared.step.Step.{Step}
use Rattle.ns_types.specs.Asking.Policies.{with_world, with_acl, administer}
use Rattle.ns_types.specs.Asking.Admins.{read_quota}
use Rattle.ns_types.specs.State.Names.{Name}
use Rattle.ns_types.specs.Settling.Outcome.{Outcome, NotEnabled, Refused, Done, lift}
use Rattle.ns_types.specs.State.Rows.{Acl, State, World}
use Rattle.ns_types.specs.Settling.Settle.{settle}
use Rattle.ns_types.specs.Steps.{Answer, said, act, after, is_allowed, concluded, reply_of, is_past_bound}
use Rattle.ns_types.specs.Validity.{IsSoundAcl, IsSound}
use Rattle.ns_types.specs.Asking.Good.{is_good_admin}
use Rattle.ns_types.specs.Within.{IsGoodStep}
use Rattle.ns_types.proofs.Named.{first_of_both, second_of_both}
use Rattle.ns_types.proofs.Tests.{not_Some, same_Some}
use Rattle.ns_audit.specs.Orderly.{IsSteady}
use Rattle.ns_audit.proofs.ValidRecords.Statement.{HasRecords, RecordsStep}
use Rattle.ns_types.proofs.Leads.{Leads, leads_found, leads_lift}
use Rattle.ns_audit.proofs.Alone.Running.{valid_is_steady, steady_step}
use Rattle.ns_audit.proofs.ValidRecords.Sound.{IsRecorded, IsNear, near_first}
use Rattle.ns_audit.proofs.ValidRecords.Acl.{policy_read, policy_put, policy_deleted, token_created, token_deleted}
use Rattle.ns_audit.proofs.ValidRecords.Admins.{pool_put, pool_deleted, quota_put, quota_deleted, namespace_put, namespace_deleted}
use Rattle.ns_audit.proofs.ValidRecords.Asks.{ask_near}
use Rattle.ns_audit.proofs.ValidRecords.Nodes.{ask_pool_near}
use Rattle.ns_audit.proofs.ValidRecords.Settled.{settled_recorded}
use Rattle.ns_audit.proofs.ValidRecords.Work.{dequeue_near, snap_near, submit_near, nack_near, finish_near, apply_near}

-- ---- a valid state has it

valid_recorded : (w : World) → IsSound w → IsRecorded w
valid_recorded w s = record {
  few_tenants = s.few_tenants;
  few_pools = s.few_pools;
  few_quotas = s.few_quotas;
  tenant = λ ns t is. let x = s.tenant ns t is in record {
    named = x.named;
    namespace = record { good = x.namespace.good; default = x.namespace.default; allowed = x.namespace.allowed; quota = x.namespace.quota };
    few_jobs = x.few_jobs;
    job = λ id j at. let y = x.job id j at in record {
      named = y.named;
      good = y.good;
      exists = y.allowed.exists;
      created = y.created;
      modified =
          y.modified;
      versions = y.versions;
    };
    few_events = x.few_events;
    events_below = x.events_below;
  };
  pool = λ name p is. let x = s.pool name p is in record {
    named = x.named;
    described = x.described;
    few_nodes = x.few_nodes;
    node = λ n node at. let y = x.node n node at in record { named = y.named; good = y.good; in_order = y.in_order };
    classes = x.classes;
  };
  quota = s.quota;
}

-- ---- what the step itself changes

record IsNearState (s x : State) : Type 0 where
  world : IsNear s.world x.world
  acl : IsSoundAcl x.acl

module _ (s : State) (acl : IsSoundAcl s.acl) (world : IsRecorded s.world) where
  here : IsNearState s s
  here = record { world = near_first s.world world; acl = acl }

  of_world : (o : Outcome World) → Leads (IsNear s.world) o → Leads (IsNearState s) (lift (with_world s.acl) o)
  of_world = leads_lift (IsNearState s) (with_world s.acl) (IsNear s.world) (λ w h. record { world = h; acl = acl })

  of_acl : (o : Outcome Acl) → Leads IsSoundAcl o → Leads (IsNearState s) (lift (with_acl s.world) o)
  of_acl = leads_lift (IsNearState s) (with_acl s.world) IsSoundAcl (λ a h. record { world = near_first s.world world; acl = h })

  administer_near : (secret : Option Name) (command : AdminCommand) → is_good_admin command ≡ true → Leads (IsNearState s) (administer secret command s)
  unfolding administer
  administer_near secret AdminCommand.ListNamespaces good = here
  administer_near secret (AdminCommand.PutNamespace name namespace) good =
      of_world _ (namespace_put s.world world name namespace (first_of_both _ _ good) (second_of_both _ _ good))
  administer_near secret (AdminCommand.DeleteNamespace name) good = of_world _ (namespace_deleted s.world world name)
  administer_near secret AdminCommand.ListQuotas good = here
  administer_near secret (AdminCommand.ReadQuota name) good =
      of_world (read_quota name s.world) (leads_found (IsNear s.world) (get s.world.quotas name) _ (λ q _. here.world))
  administer_near secret (AdminCommand.PutQuota name quota) good =
      of_world _ (quota_put s.world world name quota (first_of_both _ _ good) (second_of_both _ _ good))
  administer_near secret (AdminCommand.DeleteQuota name) good = of_world _ (quota_deleted s.world world name)
  administer_near secret AdminCommand.ListPools good = here
  administer_near secret (AdminCommand.PutPool name pool) good =
      of_world _ (pool_put s.world world name pool (first_of_both _ _ good) (second_of_both _ _ good))
  administer_near secret (AdminCommand.DeletePool name) good = of_world _ (pool_deleted s.world world name)
  administer_near secret (AdminCommand.ReadPolicy name) good = of_acl _ (policy_read s.acl acl name)
  administer_near secret (AdminCommand.PutPolicy name policy) good = of_acl _ (policy_put s.acl acl name policy good)
  administer_near secret (AdminCommand.DeletePolicy name) good = of_acl _ (policy_deleted s.acl acl name)
  administer_near secret (AdminCommand.CreateToken new) good = of_acl _ (token_created s.acl acl new good)
  administer_near secret (AdminCommand.DeleteToken accessor) good = of_acl _ (token_deleted s.acl acl accessor)

  act_near : (step : Step) → IsGoodStep step → Leads (IsNearState s) (act step s)
  unfolding act
  act_near (Step.Ask ns secret command) good = of_world _ (ask_near s.world world ns command good)
  act_near (Step.Admin secret command) good = administer_near secret command good
  act_near (Step.Node pool secret command) good = of_world _ (ask_pool_near s.world world pool command good)
  act_near (Step.Dequeue worker ns n) good = of_world _ (dequeue_near s.world world worker ns n)
  act_near (Step.Snap worker ns) good = of_world _ (snap_near s.world world worker ns)
  act_near (Step.Submit worker ns) good = of_world _ (submit_near s.world world worker ns)
  act_near (Step.Apply worker ns) good = of_world _ (apply_near s.world world worker ns)
  act_near (Step.Finish worker ns) good = of_world _ (finish_near s.world world worker ns)
  act_near (Step.Nack worker ns) good = of_world _ (nack_near s.world world worker ns)

-- ---- a step

-- the access lists, and all else but what is permitted
pub record IsRecordedState (s : State) : Type 0 where
  pub acl : IsSoundAcl s.acl
  pub world : IsRecorded s.world

module _ (s : State) (kept : IsRecordedState s) (step : Step) (s' : State) (answer : Answer) where
  concluded_recorded : (o : Outcome State) → Leads (IsNearState s) o → concluded step s o ≡ said answer s' → IsRecordedState s'
  concluded_recorded NotEnabled h e = absurd (not_Some _ e)
  concluded_recorded (Refused refusal) h e = subst IsRecordedState (ap (λ x. x.1) (same_Some _ _ e)) kept
  concluded_recorded (Done content x) h e = by (is_past_bound (settle s.world x.world)) e
    where
      y : State
      y = record x { world = settle s.world x.world }

      by : (b : Bool) → cond b (said (Err Refusal.Full) s) (said (Ok (reply_of step content (settle s.world x.world))) y) ≡ said answer s' → IsRecordedState s'
      by true e = subst IsRecordedState (ap (λ x. x.1) (same_Some _ _ e)) kept
      by false e = subst IsRecordedState (ap (λ x. x.1) (same_Some _ _ e)) (record { acl = h.acl; world = settled_recorded s.world x.world kept.world h.world })

  after_recorded : IsGoodStep step → after step s ≡ said answer s' → IsRecordedState s'
  unfolding after
  after_recorded good e = by (is_allowed step s.acl) e
    where
      by : (b : Bool) → cond b (concluded step s (act step s)) (said (Err Refusal.Denied) s) ≡ said answer s' → IsRecordedState s'
      by true e = concluded_recorded (act step s) (act_near s kept.acl kept.world step good) e
      by false e = subst IsRecordedState (ap (λ x. x.1) (same_Some _ _ e)) kept

-- what a namespace permits, and the bounds of counters, are proved with isolation
pub has_records : (s : State) → IsRecordedState s → IsSteady s → HasRecords s
has_records s kept steady = record {
  acl = kept.acl;
  few_tenants = kept.world.few_tenants;
  few_pools = kept.world.few_pools;
  few_quotas = kept.world.few_quotas;
  tenant = λ ns t is. let k = kept.world.tenant ns t is in record {
    named = k.named;
    namespace = record { good = k.namespace.good; default = k.namespace.default; allowed = k.namespace.allowed; quota = k.namespace.quota };
    few_jobs = k.few_jobs;
    job = λ id j at. let g = k.job id j at in record {
      named = g.named;
      good = g.good;
      allowed = record { exists = g.exists; permitted = (steady.orderly.tenant ns t is).job id j at; its_quota = λ q none. absurd (not_Some _ none) };
      created = g.created;
      modified = g.modified;
      versions = g.versions;
    };
    few_events = k.few_events;
    events_below = k.events_below;
  };
  pool = kept.world.pool;
  quota = kept.world.quota;
  within = steady.within;
}

pub records_step : RecordsStep
records_step s s' step answer valid good e = has_records s'
    (after_recorded s (record { acl = valid.acl; world = valid_recorded s.world valid.world }) step s' answer good e)
    (steady_step s s' step answer (valid_is_steady s valid) e)
