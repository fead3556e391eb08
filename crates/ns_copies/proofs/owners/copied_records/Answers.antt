use Rattle.ns_copies.proofs.Owned.{all_names}
use Rattle.ns_copies.proofs.owners.copied_records.Goals as goal

pub returns-clause-jobs : goal.returns-clause-jobs
returns-clause-jobs c = all_names _ c.args.tenant.now.jobs c.in_ok-copied_names.ensures

pub returns-clause-namespace : goal.returns-clause-namespace
returns-clause-namespace c = c.in_ok-clone.ensures.cases
