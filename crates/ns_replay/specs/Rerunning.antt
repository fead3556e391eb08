-- A log whose steps are made once more.
use Rattle.std.specs.Prelude.{◌≡◌, ℕ, List, Some, slice_get, take}
use Rattle.ns_types.specs.State.Rows.{State}
use Rattle.ns_json.specs.Replies.{Entry, IsKept}
use Rattle.ns_replay.specs.Replying.{FitsIn}
use Rattle.ns_replay.specs.declared.rerun.rerunning.RerunFault.{RerunFault}
use Rattle.ns_replay.specs.declared.rerun.rerunning.RerunFault.TheVariants.{Memory, NotARun}

-- the entry at the place does not fit after those before it, which are a run from s
pub record IsNoRunAt (s : State) (entries : List Entry) (place : ℕ) : Type 0 where
  pub entry : Entry
  pub state : State
  pub is_entry : slice_get entries place ≡ Some entry
  pub before : IsKept s (take place entries) state
  pub unfit : FitsIn entry state → ⊥

-- why the entries are no run from s; nothing is known if no memory was left
abbrev pub IsRerunFault : State → List Entry → RerunFault → Type 0
IsRerunFault s entries (NotARun place) = IsNoRunAt s entries place
IsRerunFault s entries Memory = Unit {0}
