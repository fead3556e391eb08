-- A log that is replayed from a base: all of it by the whole server, and beside that a namespace's own steps by the
-- server that holds the namespace alone.
use Rattle.std.specs.Prelude.{◌≡◌, ◌<◌, ◌⊎◌, ℕ, true, false, List, [], ◌∷◌, Some, length, map, filter, take, slice_get}
use Rattle.ns_types.specs.declared.reply.Rendered.{Rendered}
use Rattle.ns_types.specs.declared.step.Step.{Step}
use Rattle.ns_types.specs.Isolation.{Part}
use Rattle.ns_types.specs.State.Names.{Name}
use Rattle.ns_types.specs.State.Rows.{State}
use Rattle.ns_types.specs.Steps.{Answer, Run, after, said}
use Rattle.ns_types.specs.Access.Sharing.{is_apart}
use Rattle.ns_types.specs.Isolation.{IsIsolated, alone, is_crowded_out, is_own, part_of, struck, struck_answers}
use Rattle.ns_json.specs.Replies.{Entry, rendered}
use Rattle.ns_replay.specs.Replying.{FitsIn}
use Rattle.ns_replay.specs.declared.rerun.rerunning.RerunFault.{RerunFault}
use Rattle.ns_replay.specs.declared.fault.ReplayFault.{ReplayFault}
use Rattle.ns_replay.specs.declared.fault.ReplayFault.TheVariants.{Premise, Differs, NotARun, Memory}

-- ---- entries

abbrev pub steps_of : List Entry → List Step
steps_of log = map (λ e. e.0) log

abbrev pub replies_of : List Entry → List Rendered
replies_of log = map (λ e. e.1) log

-- the entries of the namespace's own steps
abbrev pub own_entries : Part → List Entry → List Entry
own_entries part log = filter (λ e. is_own part e.0) log

-- ---- a log that is replayed

-- The premises hold all along the log. With the logged replies the log is a run from the base to s, and with the same answers
-- the namespace's own steps are a run to t of the server that holds the namespace alone.
pub record IsReplayed (ns : Name) (pools quotas : List Name) (base : State) (log : List Entry) (s t : State) : Type 0 where
  pub answers : List Answer
  pub isolated : IsIsolated ns pools quotas base (steps_of log) answers s
  pub logged : map rendered answers ≡ replies_of log
  pub run : let part = part_of ns pools quotas in
      Run (alone part base) (struck part (steps_of log)) (struck_answers part (steps_of log) answers) t

-- the log is replayed, and these are the replies of the server that holds the namespace alone
pub record Replays (ns : Name) (pools quotas : List Name) (base : State) (log : List Entry) (replies : List Rendered) : Type 0 where
  pub state : State
  pub state_alone : State
  pub is_replayed : IsReplayed ns pools quotas base log state state_alone
  pub replied : let part = part_of ns pools quotas in
      replies ≡ map rendered (struck_answers part (steps_of log) is_replayed.answers)

-- an empty log has no replies, whatever the base
abbrev pub RepliesAlone : Name → List Name → List Name → State → List Entry → List Rendered → Type 0
RepliesAlone ns pools quotas base [] replies = replies ≡ []
RepliesAlone ns pools quotas base (entry ∷ log) replies = Replays ns pools quotas base (entry ∷ log) replies

-- ---- faults at an entry: s is the state of the whole server before it, and t that of the server that holds the namespace
-- alone

-- The step is made in s, whatever is logged of it, and breaks a premise: the namespace is not apart afterwards, or the step is
-- an own put that is crowded out.
pub record Breaks (ns : Name) (pools quotas : List Name) (step : Step) (s : State) : Type 0 where
  pub answer : Answer
  pub state : State
  pub made : after step s ≡ said answer state
  pub broken : (is_apart state.world ns pools quotas ≡ false) ⊎ (is_crowded_out (part_of ns pools quotas) step s answer ≡ true)

-- the entry is an own one, and does not fit in t
pub record DiffersAt (ns : Name) (pools quotas : List Name) (entry : Entry) (s t : State) : Type 0 where
  pub premises : Breaks ns pools quotas entry.0 s → ⊥
  pub own : is_own (part_of ns pools quotas) entry.0 ≡ true
  pub unlike : FitsIn entry t → ⊥

-- the entry does not fit in s, although it fits in t if it is an own one
pub record IsNoStepAt (ns : Name) (pools quotas : List Name) (entry : Entry) (s t : State) : Type 0 where
  pub premises : Breaks ns pools quotas entry.0 s → ⊥
  pub alike : is_own (part_of ns pools quotas) entry.0 ≡ true → FitsIn entry t
  pub unfit : FitsIn entry s → ⊥

-- ---- faults of a log

-- the fault of a log that is no run of the whole server
abbrev pub replay_fault : RerunFault → ReplayFault
replay_fault (RerunFault.NotARun place) = NotARun place
replay_fault RerunFault.Memory = Memory

-- the entry at the place, and the states to which the log before it leads without a fault
pub record IsReached (ns : Name) (pools quotas : List Name) (base : State) (log : List Entry) (place : ℕ) (entry : Entry) (s t : State) : Type 0 where
  pub is_entry : slice_get log place ≡ Some entry
  pub before : IsReplayed ns pools quotas base (take place log) s t

pub data IsFault (ns : Name) (pools quotas : List Name) (base : State) (log : List Entry) : ReplayFault → Type 0 where
  base_shares : 0 < length log → is_apart base.world ns pools quotas ≡ false → IsFault ns pools quotas base log (Premise 0)
  breaks : (place : ℕ) (entry : Entry) (s t : State) → IsReached ns pools quotas base log place entry s t → Breaks ns pools quotas entry.0 s →
      IsFault ns pools quotas base log (Premise place)
  differs : (place : ℕ) (entry : Entry) (s t : State) → IsReached ns pools quotas base log place entry s t →
      DiffersAt ns pools quotas entry s t → IsFault ns pools quotas base log (Differs place)
  no_step : (place : ℕ) (entry : Entry) (s t : State) → IsReached ns pools quotas base log place entry s t →
      IsNoStepAt ns pools quotas entry s t → IsFault ns pools quotas base log (NotARun place)
  -- no memory was left, and nothing else is known
  no_memory : IsFault ns pools quotas base log Memory
