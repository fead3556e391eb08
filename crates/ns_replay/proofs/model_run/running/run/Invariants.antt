use Rattle.std.proofs.Common.{◌≡◌, length}
use Rattle.std.specs.Vec.{vec_capacity, vec_len}
use Rattle.ns_replay.proofs.Runs.{HasRun}
use Rattle.ns_replay.proofs.model_run.running.run.Given as goal

abbrev pub invariant-loop-step : goal.invariant-loop-step
invariant-loop-step g l = record {
  far : HasRun (g.S.Steps.state l.fn.server) l.steps l.step-index l.answers.items (g.S.Steps.state l.server);
  many : vec_len l.answers ≡ l.step-index;
  room : vec_capacity l.answers ≡ length l.steps;
}
