-- From a request to the step that is made for it.
use Rattle.std.specs.Prelude.{◌≡◌, ◌⊎◌, ℕ, List, Ok}
use Rattle.ns_types.specs.declared.refusal.Refusal.{Refusal}
use Rattle.ns_types.specs.declared.refusal.Refusal.TheVariants.{Memory}
use Rattle.ns_types.specs.declared.step.Step.{Step}
use Rattle.ns_types.specs.Wire.Http.{Asked}
use Rattle.ns_request.specs.Gives.{Refuses}
use Rattle.ns_endpoints.specs.Asking.{asked}
use Rattle.ns_endpoints.specs.Drawing.{DrawsFor}

-- `draws` relates a draw to the source before and after it
module _ {D : Type 0} (draws : D → List ℕ → D → Type 0) where
  -- the step that the request asks for, with what is drawn for it
  abbrev pub Finds : Asked → D → D → Step → Type 0
  Finds a old new made = (wanted : Step) × (asked a ≡ Ok wanted) × DrawsFor draws wanted old made new

  -- the refusal that needs no state, or want of memory: before the draws or after them
  abbrev pub FindsNone : Asked → D → D → Refusal → Type 0
  FindsNone a old new refusal = (Refuses refusal (asked a) × (new ≡ old))
      ⊎ ((refusal ≡ Memory) × ((made : Step) × Finds a old new made))
