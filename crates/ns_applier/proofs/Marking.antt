-- The worker's row and the list of plans, which a step writes last.
use Rattle.std.specs.Prelude.{ℕ}
use Rattle.std.proofs.Common.{refl}
use Rattle.ns_types.specs.declared.evaluation.Evaluation.{Evaluation}
use Rattle.ns_types.specs.State.Names.{Name}
use Rattle.ns_types.specs.Working.Commit.{Applied, applied_worker}
use Rattle.ns_types.specs.Working.Work.{with_worker}
use Rattle.ns_types.specs.Working.Worker.{Worker}
use Rattle.ns_applier.specs.Laws.{IsMarked}
use Rattle.ns_applier.specs.Parts.{applied_world}
use Rattle.ns_applier.proofs.Placing.{changed_keeps, get_changed}

pub applied_is_marked : (number : ℕ) (ns : Name) (worker : Worker) (e : Evaluation) (a : Applied) →
    IsMarked number ns worker (applied_worker a worker e) a.world (applied_world number ns worker e a)
applied_is_marked number ns worker e a = record {
  tenants = get_changed ns (with_worker number (applied_worker a worker e)) a.world;
  pools = changed_keeps (λ x. x.pools) (λ x m. refl) ns (with_worker number (applied_worker a worker e)) a.world;
  quotas = changed_keeps (λ x. x.quotas) (λ x m. refl) ns (with_worker number (applied_worker a worker e)) a.world;
  ready = changed_keeps (λ x. x.ready) (λ x m. refl) ns (with_worker number (applied_worker a worker e)) a.world;
  plans = refl;
  blocked = changed_keeps (λ x. x.blocked) (λ x m. refl) ns (with_worker number (applied_worker a worker e)) a.world;
}
