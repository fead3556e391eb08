-- How contracts see a server that came out of its lock.
use Rattle.ns_work_log.specs.Logs.{History}
use Rattle.ns_work_lock.specs.declared.ended.Ended.{Ended}

-- the server with its log
abbrev pub held_of : {L : Type 0} → Ended L → History
held_of ended = ended.held
