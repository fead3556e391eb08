use Rattle.std.proofs.Common.{◌≡◌, ℕ, List, Option, sym, subst}
use Rattle.ns_http.specs.declared.counting.Counted.{Counted}
use Rattle.ns_pipe.specs.declared.running.EndedRun.{EndedRun}
use Rattle.ns_listener.specs.declared.service.Service.{Service}
use Rattle.nsd.specs.Hosting.{EndsHosted}
use Rattle.ns_command_line.specs.Outcome.{MatchOutcome}
use Rattle.ns_command_line.specs.declared.outcome.RunEnd.{RunEnd}
use Rattle.nsd.proofs.host.conclude.Goals as goal
use Rattle.ns_pipe.proofs.Uncounted.{uncounted_by}

-- a server is to be run
to_serve : {R W : Type 0} (outcome : RunEnd R W) (service : Service) (reader : R) (writer : W) (HasEnded : EndedRun R W → Type 0)
    (IsToServe : Service → R → W → Type 0) → outcome ≡ RunEnd.Serve service reader writer → IsToServe service reader writer →
    MatchOutcome outcome HasEnded IsToServe
to_serve outcome service reader writer HasEnded IsToServe is h = subst (λ o. MatchOutcome o HasEnded IsToServe) (sym is) h

-- by an equal writer
hosted_by : {D W E : Type 0} (draws : D → List ℕ → D → Type 0) (contents : W → Option (List ℕ)) (error_text : E → Option (List ℕ)) (service : Service)
    (status : ℕ) (w v writer' : Counted W) (errors errors' : Counted E) → w ≡ v →
    EndsHosted draws contents error_text service status w writer' errors errors' → EndsHosted draws contents error_text service status v writer' errors errors'
hosted_by draws contents error_text service status w v writer' errors errors' same h =
    subst (λ x. EndsHosted draws contents error_text service status x writer' errors errors') same h

pub returns-in-Serve : goal.returns-in-Serve
returns-in-Serve g c = to_serve _ _ _ _ _ _ c.in-Serve.is (
  uncounted_by _ _ c.new-in-Serve.ensures.inner c.new-in-Serve.ensures.counts,
  hosted_by _ _ _ _ _ _ _ _ _ _ (uncounted_by _ _ c.new.ensures.inner c.new.ensures.counts) c.host-status.ensures,
)
