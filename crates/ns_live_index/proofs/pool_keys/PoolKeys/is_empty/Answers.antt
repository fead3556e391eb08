use Rattle.std.proofs.Common.{sym, ◌∙◌}
use Rattle.keyed.proofs.Levels.{no_slots}
use Rattle.ns_live_index.proofs.pool_keys.PoolKeys.is_empty.Goals as goal

pub returns : goal.returns
returns c none = no_slots c.args.self.now.nodes c.as_slice.result.now c.as_slice.ensures (sym c.is_empty.ensures ∙ none)
