-- When the log of a server settles, and what is printed then.
use Rattle.std.specs.Prelude.{◌≡◌, ℕ, List, ◌++◌, codes, decimal}
use Rattle.ns_types.specs.State.Names.{Name}
use Rattle.ns_types.specs.Steps.{opening}
use Rattle.ns_log.specs.Segments.{Follows, Given, joined}
use Rattle.ns_log.specs.declared.receipts.receipt.Receipt.{Receipt}
use Rattle.ns_work_log.specs.Logs.{History}
use Rattle.ns_work_lock.specs.Settling.{IsMismatch, IsRun, Settlement, present}

-- the log is a run of the server that the secret opens, and begins with these segments
pub record IsRunOf (secret : Name) (segments : List Given) (s : Settlement) : Type 0 where
  pub begins : s.base ≡ opening secret
  pub runs : IsRun s
  pub follow : Follows 0 segments s.given
  pub joins : s.log ≡ joined segments (present s)

-- somewhere the log of the server that the secret opens does not agree with the segments, with the receipts of the seats, or
-- with what its steps do
abbrev pub HasMismatch : Name → List Given → History → List (List Receipt) → Type 0
HasMismatch secret segments held seats =
    (seat : ℕ) × (place : ℕ) × IsMismatch (opening secret) segments held.start held.log seats seat place

-- the line that says how many entries the log has
abbrev pub settled_line : ℕ → List ℕ
settled_line entries = codes "settled " ++ decimal entries ++ codes "\n"
