use Rattle.ns_types.proofs.Results.{on_ok}
use Rattle.ns_change.specs.Changed.{changed_tenant}
use Rattle.ns_change.proofs.jobs.put_among.Goals as goal

pub returns : goal.returns
returns c = on_ok c.put_name.result (λ puts base i. record (changed_tenant base c.args.changed.now) { jobs = puts base.jobs i }) c.put_name.ensures
