use Rattle.std.proofs.Common.{take}
use Rattle.ns_json.specs.Replies.{IsKept}
use Rattle.ns_replay.proofs.rerun.rerunning.rerun.Given as goal

abbrev pub invariant-loop-place : goal.invariant-loop-place
invariant-loop-place l = IsKept l.initial.core (take l.place l.entries) l.core
