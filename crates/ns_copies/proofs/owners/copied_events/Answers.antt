use Rattle.std.proofs.Common.{◌∙◌}
use Rattle.ns_copies.proofs.Owned.{all_kept}
use Rattle.ns_copies.proofs.owners.copied_events.Goals as goal

pub returns : goal.returns
returns c = c.append.ensures ∙ all_kept c.in_ok-copy.copy c.in_ok-all.all c.args.events.now c.in_ok-copy.ensures c.in_ok-all.ensures c.requires
