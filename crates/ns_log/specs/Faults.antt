-- The faults with which settling fails.
use Rattle.std.specs.Prelude.{List}
use Rattle.ns_json.specs.Replies.{Entry}
use Rattle.ns_log.specs.declared.receipts.fault.SettleFault.{SettleFault}
use Rattle.ns_log.specs.declared.receipts.fault.SettleFault.TheVariants.{Mismatch, Memory}
use Rattle.ns_log.specs.declared.receipts.receipt.Receipt.{Receipt}
use Rattle.ns_log.specs.Settling.{IsFault}

-- the fault is the first one of the receipts and the log, and not want of memory
abbrev pub IsMismatch : List Entry → List (List Receipt) → SettleFault → Type 0
IsMismatch log seats (Mismatch seat place) = IsFault log seats seat place
IsMismatch log seats Memory = ⊥
