-- A past owns nothing, so it may go to another thread.
use denote.Param.Send.{IsSend, owning_send, sendable}
use Rattle.ns_log.specs.contracts.receipts.past.Past.{the_row, the_type}

pub send : IsSend the_row
send = owning_send the_type (search sendable) (λ d. tt) (λ k x w. tt)
