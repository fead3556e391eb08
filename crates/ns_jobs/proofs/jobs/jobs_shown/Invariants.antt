use Rattle.std.proofs.Common.{◌≡◌, ◌++◌, length}
use Rattle.ns_tables.specs.World.{tenant_of}
use Rattle.ns_jobs.specs.Read.{jobs_shown}
use Rattle.ns_jobs.proofs.jobs.jobs_shown.Given as goal

abbrev pub invariant-loop-id : goal.invariant-loop-id
invariant-loop-id l = l.shown ++ jobs_shown l.fn.namespace l.fn.prefix (tenant_of l.fn.tenant) l.rest
    ≡ jobs_shown l.fn.namespace l.fn.prefix (tenant_of l.fn.tenant) l.fn.slots

abbrev pub decreases-loop-id : goal.decreases-loop-id
decreases-loop-id l = length l.rest
