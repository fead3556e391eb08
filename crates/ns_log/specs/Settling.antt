-- Receipts, a list for each seat, settled against the entries of a log.
use Rattle.std.specs.Prelude.{◌≡◌, ◌≢◌, ◌<◌, ◌⊎◌, ℕ, List, Some, length, slice_get}
use Rattle.ns_json.specs.Replies.{Entry}
use Rattle.ns_log.specs.declared.receipts.receipt.Receipt.{Receipt}

-- the entry that a receipt is of
abbrev pub entry_of : Receipt → Entry
entry_of r = (r.step, r.rendered)

-- the receipt at j of seat i
pub record IsAt (seats : List (List Receipt)) (i j : ℕ) (r : Receipt) : Type 0 where
  pub seat : List Receipt
  pub is_seat : slice_get seats i ≡ Some seat
  pub is_receipt : slice_get seat j ≡ Some r

-- some receipt names the place
abbrev pub IsNamed : List (List Receipt) → ℕ → Type 0
IsNamed seats p = (i : ℕ) × (j : ℕ) × (r : Receipt) × IsAt seats i j r × (r.place ≡ p)

-- ---- when receipts and a log settle

pub record Settles (log : List Entry) (seats : List (List Receipt)) : Type 0 where
  -- within each seat the places rise
  pub rises : (i j k : ℕ) (r q : Receipt) → IsAt seats i j r → IsAt seats i k q → j < k → r.place < q.place
  -- each receipt is of the entry at its place
  pub tells : (i j : ℕ) (r : Receipt) → IsAt seats i j r → slice_get log r.place ≡ Some (entry_of r)
  -- no two receipts name the same place
  pub once : (i j h k : ℕ) (r q : Receipt) → IsAt seats i j r → IsAt seats h k q → r.place ≡ q.place →
      (i ≡ h) × (j ≡ k)
  -- each place of the log is named
  pub all : (p : ℕ) → p < length log → IsNamed seats p

-- ---- the first fault

-- The receipt at j of seat i fits the log and the receipts before it, which are those of earlier seats and the earlier
-- ones of its seat. It is of the entry at its place. That place comes after those that its seat named before, and no
-- earlier seat names it.
pub record Fits (log : List Entry) (seats : List (List Receipt)) (i j : ℕ) (r : Receipt) : Type 0 where
  pub tells : slice_get log r.place ≡ Some (entry_of r)
  pub rises : (k : ℕ) (q : Receipt) → k < j → IsAt seats i k q → q.place < r.place
  pub once : (h k : ℕ) (q : Receipt) → h < i → IsAt seats h k q → q.place ≢ r.place

-- the receipts of the seats before i, and those before j of seat i, fit
abbrev pub FitBefore : List Entry → List (List Receipt) → ℕ → ℕ → Type 0
FitBefore log seats i j = (h k : ℕ) (q : Receipt) → IsAt seats h k q → (h < i) ⊎ ((h ≡ i) × (k < j)) →
    Fits log seats h k q

-- the first receipt that does not fit is one of seat i, and names p
pub record IsUnfit (log : List Entry) (seats : List (List Receipt)) (i p : ℕ) : Type 0 where
  pub number : ℕ
  pub receipt : Receipt
  pub is_at : IsAt seats i number receipt
  pub names : receipt.place ≡ p
  pub before : FitBefore log seats i number
  pub unfit : Fits log seats i number receipt → ⊥

-- all receipts fit, and p is the first place that none of them names
pub record IsMissing (log : List Entry) (seats : List (List Receipt)) (p : ℕ) : Type 0 where
  pub fit : FitBefore log seats (length seats) 0
  pub within : p < length log
  pub unnamed : IsNamed seats p → ⊥
  pub before : (q : ℕ) → q < p → IsNamed seats q

abbrev pub IsFault : List Entry → List (List Receipt) → ℕ → ℕ → Type 0
IsFault log seats i p = IsUnfit log seats i p ⊎ ((i ≡ length seats) × IsMissing log seats p)
