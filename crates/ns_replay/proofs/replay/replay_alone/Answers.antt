use Rattle.std.proofs.Common.{◌<◌, length, arith, sym, ◌∙◌}
use Rattle.std.proofs.lemmas.Grind.{common_steps}
use Rattle.ns_replay.specs.Replay.{IsFault}
use Rattle.ns_replay.proofs.replay.replay_alone.Goals as goal

pub returns-then-not-apart-clause-fault : goal.returns-then-not-apart-clause-fault
returns-then-not-apart-clause-fault c =
    let some : 0 < length c.args.entries.now = grind (arith, common_steps) in
    IsFault.base_shares some (sym c.apart.ensures ∙ c.if-not-apart.true)

pub returns-in-Err-clause-fault : goal.returns-in-Err-clause-fault
returns-in-Err-clause-fault c = IsFault.no_memory
