-- What is said of records, evaluations, workers and allocations is all that is said of a valid state.
use Rattle.std.specs.Prelude.{◌≡◌, List, [], ◌∷◌, Some}
use Rattle.std.proofs.Common.{sym, ap, subst, ◌∙◌}
use Rattle.std.specs.FinMap.{get}
use Rattle.std.specs.Option.{option_and_then}
use Rattle.ns_types.specs.declared.node.Node.{Node}
use Rattle.ns_types.specs.declared.step.Step.{Step}
use Rattle.ns_types.specs.State.Lists.{Each}
use Rattle.ns_types.specs.State.Names.{Name}
use Rattle.ns_types.specs.State.Rows.{State, Tenant, PoolRows}
use Rattle.ns_types.specs.Steps.{Answer, opening, Run}
use Rattle.ns_types.specs.Validity.{IsSoundNode, IsSoundPool, IsSoundTenant, IsValid}
use Rattle.ns_types.specs.Within.{IsGoodStep}
use Rattle.ns_audit.proofs.ValidAllocations.Statement.{IsAllocated}
use Rattle.ns_audit.proofs.ValidRecords.Statement.{HasRecords}
use Rattle.ns_audit.specs.Valid.{ValidStep, OpeningValid, ReachedIsValid}
use Rattle.ns_audit.proofs.ValidEvaluations.Statement.{IsSoundInEvaluations}
use Rattle.ns_audit.proofs.ValidWorkers.Statement.{HasSoundWorkers}
use Rattle.ns_audit.proofs.ValidAllocations.Steps.{allocations_step, allocations_opening}
use Rattle.ns_audit.proofs.ValidEvaluations.Step.{evaluations_step, evaluations_opening}
use Rattle.ns_audit.proofs.ValidRecords.Opening.{records_opening}
use Rattle.ns_audit.proofs.ValidRecords.Step.{records_step}
use Rattle.ns_audit.proofs.ValidWorkers.Step.{workers_step, workers_opening}

module _ (s : State) (records : HasRecords s) (evaluations : IsSoundInEvaluations s.world) (workers : HasSoundWorkers s.world)
    (allocations : IsAllocated s.world) where
  sound_tenant : (ns : Name) (t : Tenant) → get s.world.tenants ns ≡ Some t → IsSoundTenant s.world ns t
  sound_tenant ns t is = let good = records.tenant ns t is in let staff = workers.tenant ns t is in record {
    named = good.named;
    namespace = good.namespace;
    few_jobs = good.few_jobs;
    job = good.job;
    evaluation = evaluations.evaluation ns t is;
    allocation = λ n a at. allocations.allocation ns t n a is at;
    worker = staff.worker;
    one_each = staff.one_each;
    one_busy = staff.one_busy;
    one_blocked = evaluations.one_blocked ns t is;
    blocked_listed = evaluations.blocked_listed ns t is;
    few_events = good.few_events;
    events_below = good.events_below;
  }

  sound_pool : (name : Name) (p : PoolRows) → get s.world.pools name ≡ Some p → IsSoundPool s.world name p
  sound_pool name p is = let good = records.pool name p is in record {
    named = good.named;
    described = good.described;
    few_nodes = good.few_nodes;
    node = sound_node;
    classes = good.classes;
  }
    where
      sound_node : (n : Name) (node : Node) → get p.nodes n ≡ Some node → IsSoundNode s.world name n node
      sound_node n node at = let good = (records.pool name p is).node n node at in record {
        named = good.named;
        good = good.good;
        in_order = good.in_order;
        within = allocations.within name n node (ap (option_and_then (λ (p : PoolRows). get p.nodes n)) is ∙ at);
      }

  all_valid : IsValid s
  all_valid = record {
    acl = records.acl;
    world = record {
      few_tenants = records.few_tenants;
      few_pools = records.few_pools;
      few_quotas = records.few_quotas;
      tenant = sound_tenant;
      pool = sound_pool;
      quota = records.quota;
      one_row = workers.one_row;
      ready = workers.ready;
      planned = workers.planned;
      blocked = evaluations.blocked;
      ready_once = workers.ready_once;
      plans_once = workers.plans_once;
      blocked_once = evaluations.blocked_once;
      one_place = allocations.one_place;
      within = records.within;
    };
  }

pub valid_step : ValidStep
valid_step s s' step answer valid good e = all_valid s' (records_step s s' step answer valid good e) (evaluations_step s s' step answer valid good e)
    (workers_step s s' step answer valid good e) (allocations_step s s' step answer valid good e)

pub opening_is_valid : OpeningValid
opening_is_valid secret named = all_valid (opening secret) (records_opening secret named) (evaluations_opening secret named) (workers_opening secret)
    (allocations_opening secret)

along : (s s' : State) (steps : List Step) (answers : List Answer) → IsValid s → Each IsGoodStep steps → Run s steps answers s' → IsValid s'
along s s' [] [] valid good run = subst IsValid (sym run) valid
along s s' [] (answer ∷ answers) valid good run = absurd run
along s s' (step ∷ steps) [] valid good run = absurd run
along s s' (step ∷ steps) (answer ∷ answers) valid good run = along run.0 s' steps answers (valid_step s run.0 step answer valid good.0 run.1) good.1 run.2

pub reached_is_valid : ReachedIsValid
reached_is_valid secret s steps answers named good run = along (opening secret) s steps answers (opening_is_valid secret named) good run
