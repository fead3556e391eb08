use Rattle.std.proofs.Common.{sym, ◌∙◌}
use Rattle.keyed.proofs.Levels.{no_slots}
use Rattle.ns_live_index.proofs.shown.has_none.Goals as goal

pub returns : goal.returns
returns c none = no_slots c.args.nodes.now c.as_slice.result.now c.as_slice.ensures (sym c.is_empty.ensures ∙ none)
