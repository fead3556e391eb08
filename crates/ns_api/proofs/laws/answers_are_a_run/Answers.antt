use Rattle.ns_work_log.specs.Logs.{IsNoted}
use Rattle.ns_core.specs.Lacking.{CoreLacks}
use Rattle.ns_work_log.specs.Lacking.{HeldLacks}
use Rattle.ns_api.specs.Cores.{NotesNothing, itself, state_of}
use Rattle.ns_api.specs.Following.{FollowsBy}
use Rattle.ns_api.specs.Lacking.{LacksNothing, LacksRoom}
use Rattle.ns_api.proofs.Runs.{runs}
use Rattle.ns_api.proofs.laws.answers_are_a_run.Goals as goal

pub returns-clause-without_log : goal.returns-clause-without_log
returns-clause-without_log g c = λ old new exchanges chain.
    runs itself NotesNothing LacksNothing g.D.Draws.draws (FollowsBy itself NotesNothing CoreLacks) old exchanges new chain

pub returns-clause-with_log : goal.returns-clause-with_log
returns-clause-with_log g c = λ old new exchanges chain.
    runs state_of IsNoted LacksRoom g.D.Draws.draws (FollowsBy state_of IsNoted HeldLacks) old exchanges new chain
