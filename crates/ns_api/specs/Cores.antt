-- How a server without a log, and one with a log, serves connections.
use Rattle.std.specs.Prelude.{ℕ, List, []}
use Rattle.ns_types.specs.declared.reply.Rendered.{Rendered}
use Rattle.ns_types.specs.declared.step.Step.{Step}
use Rattle.ns_types.specs.State.Names.{Name}
use Rattle.ns_types.specs.State.Rows.{State}
use Rattle.ns_types.specs.Steps.{Answer, opening}
use Rattle.ns_types.specs.Wire.Http.{Asked, End}
use Rattle.ns_types.specs.Wire.Responses.{Exchange}
use Rattle.ns_core.specs.Lacking.{CoreLacks}
use Rattle.ns_work_log.specs.Lacking.{HeldLacks}
use Rattle.ns_work_log.specs.Logs.{History, IsNoted}
use Rattle.ns_http.specs.Conversation.{Streams}
use Rattle.ns_api.specs.declared.following.Driver.{Driver}
use Rattle.ns_api.specs.Answering.{AnswersByServer, Holding, RunsAs}
use Rattle.ns_api.specs.Following.{FollowsBy}
use Rattle.ns_api.specs.Lacking.{LacksNothing, LacksRoom}
use Rattle.ns_api.specs.Serving.{Served, ServedInPart}

-- a new server with a log
abbrev pub history_of : Name → ℕ → History
history_of secret limit = record { base = opening secret; start = 0; log = []; state = opening secret; limit = limit }

-- ---- without a log

abbrev pub itself : State → State
itself s = s

abbrev pub NotesNothing : State → Step → Answer → State → Type 0
NotesNothing s step answer s' = Unit {0}

module _ {D : Type 0} (draws : D → List ℕ → D → Type 0) where
  -- how one request is answered, with the steps that follow it
  abbrev pub AnswersByCore : Holding State D Driver → Asked → Rendered → Holding State D Driver → Type 0
  AnswersByCore = AnswersByServer itself NotesNothing LacksNothing draws (FollowsBy itself NotesNothing CoreLacks)

  -- the run that all requests of a connection made
  abbrev pub RunsByCore : Holding State D Driver → List Exchange → Holding State D Driver → Type 0
  RunsByCore = RunsAs itself NotesNothing LacksNothing draws (FollowsBy itself NotesNothing CoreLacks)

  abbrev pub ServedByCore : Holding State D Driver → Holding State D Driver → Streams → End → Type 0
  ServedByCore = Served AnswersByCore RunsByCore

  abbrev pub ServedByCoreInPart : Holding State D Driver → Holding State D Driver → Streams → Type 0
  ServedByCoreInPart = ServedInPart AnswersByCore RunsByCore

-- ---- with a log

abbrev pub state_of : History → State
state_of h = h.state

module _ {D : Type 0} (draws : D → List ℕ → D → Type 0) where
  abbrev pub AnswersByHeld : Holding History D Driver → Asked → Rendered → Holding History D Driver → Type 0
  AnswersByHeld = AnswersByServer state_of IsNoted LacksRoom draws (FollowsBy state_of IsNoted HeldLacks)

  abbrev pub RunsByHeld : Holding History D Driver → List Exchange → Holding History D Driver → Type 0
  RunsByHeld = RunsAs state_of IsNoted LacksRoom draws (FollowsBy state_of IsNoted HeldLacks)

  abbrev pub ServedByHeld : Holding History D Driver → Holding History D Driver → Streams → End → Type 0
  ServedByHeld = Served AnswersByHeld RunsByHeld
