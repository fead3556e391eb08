use Rattle.ns_types.proofs.Results.{on_ok}
use Rattle.ns_change.specs.Changed.{changed_pool}
use Rattle.ns_change.proofs.placing.put_among.Goals as goal

pub returns : goal.returns
returns c = on_ok c.put_name.result (λ puts base i. record (changed_pool base c.args.changed.now) { nodes = puts base.nodes i }) c.put_name.ensures
