-- The work that the indexes of this crate hold, and when it is the same in two worlds.
use Rattle.std.specs.Prelude.{◌≡◌, ℕ, true, ◌||◌, Option, Result}
use Rattle.ns_types.specs.declared.refusal.Refusal.{Refusal}
use Rattle.ns_types.specs.declared.reply.Content.{Content}
use Rattle.ns_types.specs.declared.step.AdminCommand.{AdminCommand}
use Rattle.ns_types.specs.Asking.Policies.{administer}
use Rattle.ns_types.specs.Settling.Outcome.{Changes}
use Rattle.ns_types.specs.State.Names.{Key, Name, has_key}
use Rattle.ns_types.specs.State.Rows.{State, World, evaluation_at}
use Rattle.ns_types.specs.Validity.{IsValid}
use Rattle.ns_types.specs.Working.Looks.{worker_at}

-- the same workers are busy, both lists have the same keys, and the evaluations in them have the same rows
pub record SameWork (w w' : World) : Type 0 where
  pub worker : (number : ℕ) (ns : Name) → worker_at w' number ns ≡ worker_at w number ns
  pub evaluation : (key : Key) → (has_key w.ready key || has_key w.blocked key) ≡ true →
      evaluation_at w' key ≡ evaluation_at w key
  pub ready : w'.ready ≡ w.ready
  pub blocked : w'.blocked ≡ w.blocked

-- in a valid state, a command of an administrator changes none of this work
abbrev pub AdministrationKeepsWork : Type 0
AdministrationKeepsWork = (secret : Option Name) (command : AdminCommand) (s s' : State)
    (result : Result Content Refusal) → IsValid s → Changes (administer secret command s) s result s' →
    SameWork s.world s'.world
