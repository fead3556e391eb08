use Rattle.ns_laws.proofs.Effect.Asks.{index_in_reply_is_new}
use Rattle.ns_laws.proofs.effects.index_in_reply_is_new.Goals as goal

pub returns : goal.returns
returns c = index_in_reply_is_new
