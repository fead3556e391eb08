use Rattle.std.proofs.Common.{◌≡◌, List, [], refl}
use Rattle.ns_types.specs.declared.refusal.Refusal.{Refusal}
use Rattle.ns_types.specs.declared.step.Step.{Step}
use Rattle.ns_types.specs.State.Rows.{State}
use Rattle.ns_types.specs.Steps.{Answer}
use Rattle.ns_steps.specs.Chains.{Chain}
use Rattle.ns_driver.specs.declared.kept.Kept.{Kept}
use Rattle.ns_api.specs.declared.following.Driver.{Driver}
use Rattle.ns_api.specs.Following.{FollowsBy}
use Rattle.ns_api.proofs.following.DriverFollows.follow.Goals as goal

-- where no worker is driven, nothing follows
nobody : {S : Type 0} (state : S → State) (notes : S → Step → Answer → S → Type 0) (lacks : S → Step → Refusal → Type 0) (driver : Driver) (s : S) →
    ((kept : Kept) → driver ≡ Driver.Worker kept → ⊥) →
    (steps : List Step) × (answers : List Answer) × FollowsBy state notes lacks driver s steps answers s driver × Chain state notes s steps answers s
nobody state notes lacks Driver.Nobody s other = ([], [], ((refl, refl, refl), refl), refl)
nobody state notes lacks (Driver.Worker kept) s other = absurd (other kept refl)

pub returns-in_default : goal.returns-in_default
returns-in_default g c = nobody g.T.Server.state g.T.Server.notes g.T.Works.lacks _ _ c.in_default.not-Worker
