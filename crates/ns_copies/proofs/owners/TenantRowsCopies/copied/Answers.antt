use Rattle.std.proofs.Common.{refl}
use Rattle.ns_copies.proofs.Owned.{tenant_copied}
use Rattle.ns_copies.proofs.owners.TenantRowsCopies.copied.Goals as goal

pub returns-in-Ok : goal.returns-in-Ok
returns-in-Ok c = tenant_copied (record {
  namespace = c.in-Ok.records.namespace;
  index = c.args.self.now.index;
  evaluation_number = c.args.self.now.evaluation_number;
  allocation_number = c.args.self.now.allocation_number;
  jobs = c.in-Ok.records.jobs;
  evaluations = c.in_ok-work.work.evaluations;
  allocations = c.in_ok-work.work.allocations;
  workers = c.in_ok-work.work.workers;
  events = c.in-Ok.records.events;
}) c.args.self.now c.in-Ok.ensures.namespace refl refl refl c.in-Ok.ensures.jobs c.in_ok-work.ensures.evaluations
    c.in_ok-work.ensures.allocations c.in_ok-work.ensures.workers c.in-Ok.ensures.events
