use Rattle.ns_laws.proofs.Wakes.Numbering.{quota_room_is_numbered}
use Rattle.ns_laws.proofs.waking.quota_room_is_numbered.Goals as goal

pub returns : goal.returns
returns c = quota_room_is_numbered
