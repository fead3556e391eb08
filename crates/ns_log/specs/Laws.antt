-- Laws of settling.
use Rattle.std.specs.Prelude.{◌≡◌, ℕ, List}
use Rattle.ns_json.specs.Replies.{Entry}
use Rattle.ns_log.specs.declared.receipts.receipt.Receipt.{Receipt}
use Rattle.ns_log.specs.Settling.{Settles, IsFault}

-- If the receipts and the log settle, there is no first fault.
abbrev pub SettledIsNotFaulted : Type 0
SettledIsNotFaulted = (log : List Entry) (seats : List (List Receipt)) (i p : ℕ) → Settles log seats →
    IsFault log seats i p → ⊥

-- There is at most one first fault.
abbrev pub OneFault : Type 0
OneFault = (log : List Entry) (seats : List (List Receipt)) (i p h q : ℕ) → IsFault log seats i p →
    IsFault log seats h q → (i ≡ h) × (p ≡ q)
