-- What a request wants: a step that still lacks its bearer and what is drawn for it.
use Rattle.std.specs.Prelude.{◌≡◌, Bool, true, false, not, IsTrue, Result, Ok, Err}
use Rattle.ns_types.specs.declared.refusal.Refusal.{Refusal}
use Rattle.ns_types.specs.declared.step.AdminCommand.{AdminCommand}
use Rattle.ns_types.specs.declared.step.Step.{Step}
use Rattle.ns_types.specs.Wire.Http.{Asked}
use Rattle.ns_http.specs.declared.head.Request.{Request}
use Rattle.ns_http.specs.Head.{asked}
use Rattle.ns_json.specs.Reading.{◌>>=◌}
use Rattle.ns_steps.specs.Served.{IsServed}
use Rattle.ns_endpoints.specs.declared.wanted.Bearer.{Bearer}
use Rattle.ns_endpoints.specs.declared.wanted.Draft.{Draft}
use Rattle.ns_endpoints.specs.declared.wanted.Wanted.{Wanted}
use Rattle.ns_endpoints.specs.Asking.{new_token}
use Rattle.ns_endpoints.specs.Parts.{namespace_of}
use Rattle.ns_request.specs.Gives.{Refuses}
use Rattle.ns_request.specs.Queries.{namespace_in}
use Rattle.ns_request.specs.Secrets.{secret_of}
use Rattle.ns_request.specs.Targets.{query_in}

abbrev pub bearer_of : Asked → Result Bearer Refusal
bearer_of a = do
  parameter ← namespace_in (query_in a.target)
  Ok (record { namespace = parameter; secret = secret_of a.token })

abbrev pub step_by : Bearer → Wanted → Step
step_by bearer (Wanted.Ask document command) = Step.Ask (namespace_of bearer.namespace document) bearer.secret command
step_by bearer (Wanted.AskIn namespace command) = Step.Ask namespace bearer.secret command
step_by bearer (Wanted.Admin command) = Step.Admin bearer.secret command
step_by bearer (Wanted.Token document) = Step.Admin bearer.secret (AdminCommand.CreateToken (new_token document))
step_by bearer (Wanted.Node pool command) = Step.Node pool bearer.secret command

-- the wanted step with the request's bearer
unfoldable pub step_of : Wanted → Asked → Result Step Refusal
step_of wanted a = do
  bearer ← bearer_of a
  Ok (step_by bearer wanted)

abbrev pub makes_token : AdminCommand → Bool
makes_token (AdminCommand.CreateToken new) = true
makes_token _ = false

-- a new token is wanted as its document alone, because its accessor and secret are drawn later
abbrev pub IsServedWanted : Wanted → Type 0
IsServedWanted (Wanted.Admin command) = IsTrue (not (makes_token command))
IsServedWanted _ = Unit {0}

-- the request asks for what is wanted, or gets this refusal, unless the refusal is `Memory`
abbrev pub Wants : Request → Result Wanted Refusal → (Asked → Result Step Refusal) → Type 0
Wants request (Ok wanted) asks = asks (asked request) ≡ step_of wanted (asked request)
Wants request (Err refusal) asks = Refuses refusal (asks (asked request))

-- ---- the requested step, before anything is drawn for it

abbrev pub draft_step : Draft → Step
draft_step (Draft.Step step) = step
draft_step (Draft.Token secret document) = Step.Admin secret (AdminCommand.CreateToken (new_token document))

abbrev pub draws_none : Step → Bool
draws_none (Step.Admin secret command) = not (makes_token command)
draws_none _ = true

abbrev pub IsServedDraft : Draft → Type 0
IsServedDraft (Draft.Step step) = IsServed step × IsTrue (draws_none step)
IsServedDraft (Draft.Token secret document) = Unit {0}
