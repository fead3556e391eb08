use Rattle.ns_command_line.proofs.Serving.{few_connections}
use Rattle.nsd.proofs.main.Goals as goal

pub conclude-ended-requires-after_bounds : goal.conclude-ended-requires-after_bounds
conclude-ended-requires-after_bounds g c κs = few_connections _ _ _ _ _ c.run_words-outcome.result _ c.run_words-outcome.ensures.ended_or_served
