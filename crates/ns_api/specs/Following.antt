-- What follows a request.
use Rattle.std.specs.Prelude.{◌≡◌, List, []}
use Rattle.ns_types.specs.declared.refusal.Refusal.{Refusal}
use Rattle.ns_types.specs.declared.step.Step.{Step}
use Rattle.ns_types.specs.State.Rows.{State}
use Rattle.ns_types.specs.Steps.{Answer}
use Rattle.ns_steps.specs.Chains.{Chain}
use Rattle.ns_driver.specs.declared.kept.Kept.{Kept}
use Rattle.ns_driver.specs.declared.stopping.Stop.{Stop}
use Rattle.ns_driver.specs.Driving.{Drives}
use Rattle.ns_driver.specs.Kept.{seen_of}
use Rattle.ns_api.specs.declared.following.Driven.{Driven}
use Rattle.ns_api.specs.declared.following.Driver.{Driver}

-- nothing follows, and what takes the steps stays
abbrev pub Stays : {S F : Type 0} → F → S → S → F → Type 0
Stays old s s' new = s' ≡ s

-- these steps of a server follow, one after the other
abbrev pub FollowsInChain : {S F : Type 0} → (S → State) → (S → Step → Answer → S → Type 0) →
    (F → S → List Step → List Answer → S → F → Type 0) → F → S → S → F → Type 0
FollowsInChain state notes follows old s s' new = (steps : List Step) × (answers : List Answer) ×
    follows old s steps answers s' new × Chain state notes s steps answers s'

-- no step follows, and the server stays
abbrev pub FollowsNothing : {S : Type 0} → S → List Step → List Answer → S → Type 0
FollowsNothing s steps answers s' = (steps ≡ []) × (answers ≡ []) × (s' ≡ s)

-- nothing follows if no worker is driven; otherwise the steps of the driven worker follow, until it stops
abbrev pub FollowsBy : {S : Type 0} → (S → State) → (S → Step → Answer → S → Type 0) → (S → Step → Refusal → Type 0) →
    Driver → S → List Step → List Answer → S → Driver → Type 0
FollowsBy state notes lacks Driver.Nobody s steps answers s' driver' =
    FollowsNothing s steps answers s' × (driver' ≡ Driver.Nobody)
FollowsBy state notes lacks (Driver.Worker kept) s steps answers s' (Driver.Worker kept') =
    (stop : Stop) × Drives state notes lacks s (seen_of kept) steps answers s' (seen_of kept') stop
FollowsBy state notes lacks (Driver.Worker kept) s steps answers s' Driver.Nobody = ⊥

-- the driver at first: a driven worker keeps nothing yet
abbrev pub driver_of : Driven → Driver
driver_of Driven.Nobody = Driver.Nobody
driver_of Driven.Worker = Driver.Worker Kept.Nothing
