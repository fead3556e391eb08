-- The result of replaying a log for a namespace alone.
use Rattle.std.specs.Prelude.{◌≡◌, ℕ, ◌+◌, min, List, [], ◌++◌, Option, Some, None, drop, length, slice_get, take}
use Rattle.ns_types.specs.Isolation.{part_of}
use Rattle.ns_types.specs.State.Names.{Name}
use Rattle.ns_types.specs.State.Rows.{State}
use Rattle.ns_types.specs.Steps.{opening}
use Rattle.ns_json.specs.Replies.{Entry, IsKept}
use Rattle.ns_log_reader.specs.Lines as lines
use Rattle.ns_log_reader.specs.Lines.{IsLogOf}
use Rattle.ns_replay.specs.Rerunning.{IsNoRunAt}
use Rattle.ns_replay.specs.declared.fault.ReplayFault.{ReplayFault}
use Rattle.ns_replay.specs.declared.fault.ReplayFault.TheVariants as Fault
use Rattle.ns_replay.specs.Replay.{IsFault, RepliesAlone, own_entries, replies_of}
use Rattle.ns_pipe.specs.Claimed.{pools_for, quotas_for}
use Rattle.ns_pipe.specs.declared.replay.ending.ReplayEnd.{ReplayEnd}
use Rattle.ns_pipe.specs.declared.replay.replay.Replay.{Replay}
use Rattle.ns_pipe.specs.Text.{last_line, own_lines, status_of}

-- ---- the base

-- how many entries make the base: `from`, or all if there are fewer
abbrev pub base_len : ℕ → List Entry → ℕ
base_len from entries = min from (length entries)

-- why entries make no base
abbrev pub IsBaseFault : State → List Entry → ReplayFault → Type 0
IsBaseFault s entries (Fault.NotARun place) = IsNoRunAt s entries place
IsBaseFault s entries Fault.Memory = Unit {0}
IsBaseFault s entries _ = ⊥

-- ---- the replay after the base

-- the place of a fault's entry among the replayed entries
abbrev pub place_of : ReplayFault → ℕ
place_of (Fault.Premise i) = i
place_of (Fault.Differs i) = i
place_of (Fault.NotARun i) = i
place_of Fault.Memory = 0

-- how a replay ends by its fault, where the first entry stands at the place `first`
abbrev pub ending_of : ℕ → ReplayFault → Option ReplayEnd
ending_of first (Fault.Premise i) = Some (ReplayEnd.PremiseFails (first + i))
ending_of first (Fault.Differs i) = Some (ReplayEnd.Differs (first + i))
ending_of first (Fault.NotARun i) = Some (ReplayEnd.NotARun (first + i))
ending_of first Fault.Memory = None

-- the lines and the ending of entries that are replayed from the base, with these pools and these quotas
pub data ReplaysTo (ns : Name) (pools quotas : List Name) (base : State) (first : ℕ) (entries : List Entry) :
    Name → ReplayEnd → Type 0 where
  same : RepliesAlone ns pools quotas base entries (replies_of (own_entries (part_of ns pools quotas) entries)) →
      ReplaysTo ns pools quotas base first entries (own_lines (part_of ns pools quotas) first entries) ReplayEnd.Same
  fault : (fault : ReplayFault) (ending : ReplayEnd) → IsFault ns pools quotas base entries fault →
      ending_of first fault ≡ Some ending → ReplaysTo ns pools quotas base first entries
      (own_lines (part_of ns pools quotas) first (take (place_of fault) entries)) ending

-- ---- the whole log

-- the lines and the ending of a log, whose first entries make the base
pub data ComesTo (bytes : Name) (replay : Replay) : Name → ReplayEnd → Type 0 where
  bad_line : (line : ℕ) → lines.IsFault bytes line → ComesTo bytes replay [] (ReplayEnd.BadLine line)
  no_base : (secret : Name) (entries : List Entry) (place : ℕ) → IsLogOf bytes secret entries →
      IsNoRunAt (opening secret) (take (base_len replay.from entries) entries) place →
      ComesTo bytes replay [] (ReplayEnd.NotARun place)
  replayed : (secret : Name) (entries : List Entry) (base : State) (lines : Name) (ending : ReplayEnd) →
      IsLogOf bytes secret entries → IsKept (opening secret) (take (base_len replay.from entries) entries) base →
      ReplaysTo replay.namespace (pools_for replay base) (quotas_for replay base) base (base_len replay.from entries)
      (drop (base_len replay.from entries) entries) lines ending → ComesTo bytes replay lines ending

-- the text that is printed for the replay, and the exit status
pub record IsPrintout (bytes : Name) (replay : Replay) (text : Name) (status : ℕ) : Type 0 where
  pub lines : Name
  pub ending : ReplayEnd
  pub comes_to : ComesTo bytes replay lines ending
  pub is_text : text ≡ lines ++ last_line ending
  pub is_status : status ≡ status_of ending
