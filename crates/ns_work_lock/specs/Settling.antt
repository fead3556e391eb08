-- A log with its segments, with which receipts settle.
use Rattle.std.specs.Prelude.{◌≡◌, ◌⊎◌, ℕ, List, drop, length}
use Rattle.ns_types.specs.State.Rows.{State}
use Rattle.ns_json.specs.Replies.{Entry, IsKept}
use Rattle.ns_log.specs.declared.receipts.receipt.Receipt.{Receipt}
use Rattle.ns_log.specs.Settling.{IsFault, Settles}
use Rattle.ns_replay.specs.Rerunning.{IsNoRunAt}
use Rattle.ns_log.specs.Segments.{Follows, Given, IsGap, joined}

-- A settled log: the state in which it begins, all of its entries, how many of them were given out in segments, and the state
-- to which they lead.
pub record Settlement : Type 0 where
  pub base : State
  pub log : List Entry
  pub given : ℕ
  pub state : State

-- the entries that were not given out
abbrev pub present : Settlement → List Entry
present s = drop s.given s.log

-- the log is a run from its first state to its last
abbrev pub IsRun : Settlement → Type 0
IsRun s = IsKept s.base s.log s.state

-- there are seats whose receipts settle with the log
abbrev pub IsSettled : List Entry → Type 0
IsSettled log = (seats : List (List Receipt)) × Settles log seats

-- ---- what settles

-- the settled log is that of the segments and of the entries after them, from the first state
pub record IsOf (first : State) (segments : List Given) (start : ℕ) (log : List Entry) (s : Settlement) : Type 0 where
  pub base : s.base ≡ first
  pub joins : s.log ≡ joined segments log
  pub given : s.given ≡ start
  pub rest : present s ≡ log

-- ---- what does not settle

-- a receipt of the log is wrong, or a place has none; or all receipts settle, and an entry does not fit after those before it
abbrev pub SettlesNot : State → List Entry → List (List Receipt) → ℕ → ℕ → Type 0
SettlesNot first log seats seat place = IsFault log seats seat place
    ⊎ (Settles log seats × (seat ≡ length seats) × IsNoRunAt first log place)

-- the segments, and the log after the last, do not follow each other; or they do, and joined they do not settle
abbrev pub IsMismatch : State → List Given → ℕ → List Entry → List (List Receipt) → ℕ → ℕ → Type 0
IsMismatch first segments start log seats seat place = ((seat ≡ length seats) × IsGap 0 segments start place)
    ⊎ (Follows 0 segments start × SettlesNot first (joined segments log) seats seat place)
