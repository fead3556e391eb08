use Rattle.std.proofs.Common.{sym, ◌∙◌}
use Rattle.ns_counters.proofs.Indexes.{past_bound_is}
use Rattle.ns_tables.specs.World.{world_of}
use Rattle.ns_counters.proofs.full.is_past_bound.Goals as goal

pub returns : goal.returns
returns c = c.any_passes.ensures ∙ sym (past_bound_is (world_of c.args.tables.now) c.args.change.now c.requires)
