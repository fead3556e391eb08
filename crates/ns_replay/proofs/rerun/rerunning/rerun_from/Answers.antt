use Rattle.ns_replay.proofs.Determined.{kept_lacks_memory}
use Rattle.ns_replay.proofs.rerun.rerunning.rerun_from.Goals as goal

pub returns-in-Err-clause-a_run : goal.returns-in-Err-clause-a_run
returns-in-Err-clause-a_run c =
    kept_lacks_memory c.in_ok-core.core c.args.first.now c.args.entries.now c.in-Err.fault c.in_ok-core.ensures c.in-Err.ensures.fault
