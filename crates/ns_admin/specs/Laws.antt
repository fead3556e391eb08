-- What administrators' steps lead to in every world: all but a put of a quota with other limits settle as they are.
use Rattle.std.specs.Prelude.{◌≡◌, Bool, true, false, Option, None, Result, Ok, Err}
use Rattle.ns_types.specs.declared.refusal.Refusal.{Refusal}
use Rattle.ns_types.specs.declared.reply.Content.{Content}
use Rattle.ns_types.specs.declared.step.AdminCommand.{AdminCommand}
use Rattle.ns_types.specs.declared.step.Step.TheVariants as Step
use Rattle.ns_types.specs.Asking.Admins.{is_relimited}
use Rattle.ns_types.specs.Asking.Policies.{administer, may_administer}
use Rattle.ns_types.specs.Settling.Outcome.{Changes, Done}
use Rattle.ns_types.specs.Settling.Settle.{settle}
use Rattle.ns_types.specs.State.Names.{Name}
use Rattle.ns_types.specs.State.Rows.{State, World}
use Rattle.ns_types.specs.Steps.{Answer, Makes, is_past_bound}

-- a put of a quota with other limits than it has
abbrev pub relimits : AdminCommand → World → Bool
relimits (AdminCommand.PutQuota name quota) w = is_relimited name quota w
relimits _ w = false

-- the reply to a step that shows no index
abbrev pub plain : Result Content Refusal → Answer
plain (Ok content) = Ok (record { index = None; content = content })
plain (Err refusal) = Err refusal

-- a step that puts no quota with other limits releases nothing, wakes nothing, and gives no row an index
abbrev pub AdministrationSettles : Type 0
AdministrationSettles = (secret : Option Name) (command : AdminCommand) (s s' : State) (content : Content)
    → relimits command s.world ≡ false → administer secret command s ≡ Done content s'
    → settle s.world s'.world ≡ s'.world

-- no counter passes its bound by the step, whatever its command, before it settles
abbrev pub AdministrationStaysWithin : Type 0
AdministrationStaysWithin = (secret : Option Name) (command : AdminCommand) (s s' : State) (content : Content)
    → is_past_bound s.world ≡ false → administer secret command s ≡ Done content s' → is_past_bound s'.world ≡ false

-- a step that puts no quota with other limits replies what its change says, and leaves the state that its change leaves
abbrev pub AdministrationMakes : Type 0
AdministrationMakes = (s s' : State) (secret : Option Name) (command : AdminCommand) (result : Result Content Refusal)
    → may_administer s.acl secret command ≡ true → is_past_bound s.world ≡ false →
    relimits command s.world ≡ false → Changes (administer secret command s) s result s'
    → Makes (Step.Admin secret command) s (plain result) s'
