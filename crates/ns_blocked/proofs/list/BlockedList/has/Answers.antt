use Rattle.std.proofs.Common.{ap, ◌∙◌}
use Rattle.ns_blocked.specs.Blocked.{BlockedList, keys_of}
use Rattle.ns_blocked.proofs.Listed.{has_placed}
use Rattle.ns_types.specs.State.Names.{has_key}
use Rattle.ns_blocked.proofs.list.BlockedList.has.Goals as goal

pub returns : goal.returns
returns c = c.is_some.ensures
    ∙ has_placed c.self.inside.queue (c.args.namespace.now, c.args.number) c.place_of.result c.place_of.ensures
    ∙ ap (λ (b : BlockedList). has_key (keys_of b) (c.args.namespace.now, c.args.number)) c.self.view_is
