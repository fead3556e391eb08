use Rattle.std.specs.FinMap.{get}
use Rattle.std.proofs.Common.{ap, sym, ◌∙◌}
use Rattle.std.specs.Option.{option_map_or}
use Rattle.keyed.proofs.Tables.{get-rows}
use Rattle.ns_types.proofs.Named.{names}
use Rattle.ns_types.specs.Working.Snapshot.{nodes_of, own_allocations, pool_for}
use Rattle.ns_broker.proofs.snapshot.taking.snapshot.Goals as goal
use Rattle.ns_tables.specs.World.{tenant_of, world_of}

pub returns-clause-seen : goal.returns-clause-seen
returns-clause-seen c =
    let w = world_of c.args.tables.now in
    let e = c.args.evaluation.now in
    let job_is = c.get-job.ensures ∙ sym (get-rows names c.args.tenant.now.jobs e.job) in
    let pool_is = c.pool_for-pool.ensures ∙ ap (pool_for e) job_is in
    (λ i. record {
      namespace = c.in_ok-clone.ensures.cases i;
      number = c.args.number;
      evaluation = c.in_ok-clone-2.ensures.cases i;
      job = (c.in_ok-copied_job.ensures ∙ job_is) i;
      own = (c.in_ok-own_allocations.ensures ∙ ap (own_allocations (tenant_of c.args.tenant.now) e.job) job_is) i;
      pool = (c.in_ok-clone-3.ensures.cases ∙ pool_is) i;
      nodes = (c.in_ok-nodes_of.ensures.nodes ∙ ap (nodes_of w) pool_is) i;
      release = (c.release_of.ensures ∙ ap (λ pool. option_map_or (λ p. p.release) (get w.pools pool) 0) pool_is) i;
      quota = c.in_ok-quota_for.ensures i;
    })
