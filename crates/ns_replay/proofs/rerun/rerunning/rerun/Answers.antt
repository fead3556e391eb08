use Rattle.ns_replay.proofs.Kept.{kept_more, no_memory, no_run_at}
use Rattle.ns_replay.proofs.rerun.rerunning.rerun.Goals as goal

pub returns-then-not-branch-clause-fault : goal.returns-then-not-branch-clause-fault
returns-then-not-branch-clause-fault c =
    no_run_at c.args.core.now c.loop-place.core c.args.entries.now c.loop-place.place c.index-entries-place.result
    c.loop-place-test.true c.index-entries-place.is c.loop-place.invariant (c.in_ok-fit.ensures.unfit c.if-not-branch.true)

pub loop-place-preserved : goal.loop-place-preserved
loop-place-preserved c =
    kept_more c.args.core.now c.loop-place.core c.args.entries.now c.loop-place.place c.index-entries-place.result
    c.loop-place-test.true c.index-entries-place.is c.loop-place.invariant c.fit.new.core (c.in_ok-fit.ensures.fits c.if-not-branch.false)

pub returns-in_err-fit-clause-fault : goal.returns-in_err-fit-clause-fault
returns-in_err-fit-clause-fault c = no_memory c.args.core.now c.args.entries.now c.from_residual.result c.from_residual.ensures.1
