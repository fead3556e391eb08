-- The receipts of one seat compared with the log, in which the places that earlier seats name are marked.
use Rattle.std.specs.Prelude.{◌≡◌, ◌<◌, ◌⊎◌, ◌↔◌, ℕ, Bool, true, List, Some, slice_get}
use Rattle.ns_json.specs.Replies.{Entry}
use Rattle.ns_log.specs.declared.receipts.receipt.Receipt.{Receipt}
use Rattle.ns_log.specs.Settling.{IsAt, entry_of}

abbrev pub IsMarked : List Bool → ℕ → Type 0
IsMarked marks p = slice_get marks p ≡ Some true

-- the receipt is of the entry at its place, which is not marked
abbrev pub FitsUnmarked : List Entry → List Bool → Receipt → Type 0
FitsUnmarked log marks r = (slice_get log r.place ≡ Some (entry_of r)) × (IsMarked marks r.place → ⊥)

-- the receipt at j of the seat fits: it is of the entry at its place, which is not marked and comes after the places
-- that the seat's earlier receipts name
pub record FitsSeat (log : List Entry) (marks : List Bool) (seat : List Receipt) (j : ℕ) (r : Receipt) : Type 0 where
  pub fits : FitsUnmarked log marks r
  pub rises : (k : ℕ) (q : Receipt) → k < j → slice_get seat k ≡ Some q → q.place < r.place

-- the seat's receipts before j fit
abbrev pub FitSeatBefore : List Entry → List Bool → List Receipt → ℕ → Type 0
FitSeatBefore log marks seat j = (k : ℕ) (q : Receipt) → k < j → slice_get seat k ≡ Some q →
    FitsSeat log marks seat k q

-- the seat's first receipt that does not fit names the place p
pub record IsFirstUnfit (log : List Entry) (marks : List Bool) (seat : List Receipt) (p : ℕ) : Type 0 where
  pub number : ℕ
  pub receipt : Receipt
  pub is_receipt : slice_get seat number ≡ Some receipt
  pub names : receipt.place ≡ p
  pub before : FitSeatBefore log marks seat number
  pub unfit : FitsSeat log marks seat number receipt → ⊥

-- the new marks are the old ones and the places that the seat's receipts before j name
abbrev pub MarkedBy : List Bool → List Receipt → ℕ → List Bool → Type 0
MarkedBy old seat j new = (p : ℕ) → IsMarked new p ↔ (IsMarked old p ⊎
    ((k : ℕ) × (r : Receipt) × (k < j) × (slice_get seat k ≡ Some r) × (r.place ≡ p)))

-- exactly the places that the seats before i name are marked
abbrev pub AreMarks : List (List Receipt) → ℕ → List Bool → Type 0
AreMarks seats i marks = (p : ℕ) → IsMarked marks p ↔
    ((h : ℕ) × (k : ℕ) × (r : Receipt) × (h < i) × IsAt seats h k r × (r.place ≡ p))
