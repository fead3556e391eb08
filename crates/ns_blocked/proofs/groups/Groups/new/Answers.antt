use Rattle.ns_blocked.proofs.Grouping.{no_group}
use Rattle.ns_blocked.proofs.groups.Groups.new.Goals as goal

pub returns : goal.returns
returns c = no_group (record { quotas = c.new.result; pools = c.new-2.result }) c.new.ensures c.new-2.ensures
