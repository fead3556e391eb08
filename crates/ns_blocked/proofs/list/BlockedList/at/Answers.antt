use Rattle.std.proofs.Common.{ap, ◌∙◌}
use Rattle.ns_blocked.specs.Blocked.{BlockedList, entry_at}
use Rattle.ns_blocked.proofs.list.BlockedList.at.Goals as goal

pub returns : goal.returns
returns c = c.row.ensures ∙ ap (λ (b : BlockedList). entry_at b c.args.place) c.self.view_is
