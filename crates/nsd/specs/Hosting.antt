-- How a server in this process ended.
use Rattle.std.specs.Prelude.{◌≡◌, ◌≢◌, ℕ, IsNone, List, Option}
use Rattle.ns_http.specs.declared.counting.Counted.{Counted}
use Rattle.ns_http.specs.declared.engine.ConnFault.{ConnFault}
use Rattle.ns_faults.specs.Lines.{line_of, mismatch_line, status_of}
use Rattle.ns_faults.specs.declared.status.TheConstants.{SERVED, MISMATCH, WRITE_FAULT}
use Rattle.ns_listener.specs.Ending.{EndsInPart, EndsSettled, EndsUnsettled, IsEnd, IsLastLine}
use Rattle.ns_listener.specs.declared.service.Service.{Service}

-- this holds for some random generators, which draw as `draws` says
abbrev pub ForSomeDrawers : {D : Type 0} → (D → List ℕ → D → Type 0) → (List D → Type 0) → Type 0
ForSomeDrawers {D} draws Holds = (drawers : List D) × Holds drawers

-- a server with these settings ended with this status
pub record EndsHosted {D W E : Type 0} (draws : D → List ℕ → D → Type 0) (contents : W → Option (List ℕ))
    (error_text : E → Option (List ℕ)) (service : Service) (status : ℕ) (writer writer' : Counted W)
    (errors errors' : Counted E) : Type 0 where
  pub is_end : IsEnd status
  pub settled : status ≡ SERVED → ForSomeDrawers draws (λ drawers.
      EndsSettled draws contents error_text service drawers writer writer' errors errors')
  pub write_fault : status ≡ WRITE_FAULT → ForSomeDrawers draws (λ drawers.
      EndsInPart draws contents error_text service drawers writer writer')
  pub unsettled : status ≢ SERVED → status ≢ WRITE_FAULT → ForSomeDrawers draws (λ drawers.
      EndsUnsettled draws contents error_text service drawers writer writer')
  pub unprinted : IsNone service.rotate → status ≢ SERVED → status ≢ WRITE_FAULT → writer' ≡ writer
  pub last_line : (fault : ConnFault) → status ≡ status_of fault → ForSomeDrawers draws (λ drawers.
      IsLastLine draws contents error_text service drawers errors errors' (line_of fault))
  pub mismatch : status ≡ MISMATCH → ForSomeDrawers draws (λ drawers.
      IsLastLine draws contents error_text service drawers errors errors' mismatch_line)
