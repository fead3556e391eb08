-- What administrators' steps answer, and the states that they leave.
use Rattle.std.specs.Prelude.{◌≡◌, true, false, cond, Option, None, Result, Ok, Err}
use Rattle.std.proofs.Common.{refl, ap, subst, ◌∙◌}
use Rattle.ns_types.specs.declared.refusal.Refusal.{Refusal}
use Rattle.ns_types.specs.declared.reply.Content.{Content}
use Rattle.ns_types.specs.declared.step.AdminCommand.{AdminCommand}
use Rattle.ns_types.specs.declared.step.Step.TheVariants as Step
use Rattle.ns_types.specs.Asking.Policies.{administer, may_administer}
use Rattle.ns_types.specs.Settling.Outcome.{Changes, Outcome, NotEnabled, Refused, Done, is_done}
use Rattle.ns_types.specs.State.Names.{Name}
use Rattle.ns_types.specs.State.Rows.{State}
use Rattle.ns_types.specs.Steps.{Makes, act, after, concluded, concluded_with, is_made, is_past_bound, said}
use Rattle.ns_types.proofs.Lists.{not_both}
use Rattle.ns_admin.specs.Laws.{AdministrationMakes, AdministrationSettles, AdministrationStaysWithin, plain, relimits}
use Rattle.ns_admin.proofs.Administering.{Left, LeavesState, command_leaves, is_of_step}
use Rattle.ns_admin.proofs.Resting.{settles_so, stays_within}

left_by : (secret : Option Name) (command : AdminCommand) (s s' : State) (content : Content) → administer secret command s ≡ Done content s' →
    Left (relimits command s.world) s.world s'.world
left_by secret command s s' content is = subst (LeavesState (relimits command s.world) s) is (command_leaves secret command s)

pub administration_settles : AdministrationSettles
administration_settles secret command s s' content same is =
    let left : Left (relimits command s.world) s.world s'.world = left_by secret command s s' content is in
    settles_so s.world s'.world left.0 (left.1 same)

pub administration_stays_within : AdministrationStaysWithin
administration_stays_within secret command s s' content within is =
    let left : Left (relimits command s.world) s.world s'.world = left_by secret command s s' content is in
    stays_within s.world s'.world left.0 within

-- ---- what a step answers

module _ (s : State) (secret : Option Name) (command : AdminCommand) (allowed : may_administer s.acl secret command ≡ true) where
  concludes : (o : Outcome State) → administer secret command s ≡ o → after (Step.Admin secret command) s ≡ concluded (Step.Admin secret command) s o
  unfolding after act
  concludes o is = ap (λ b. cond b (concluded (Step.Admin secret command) s (administer secret command s)) (said (Err Refusal.Denied) s)) allowed
      ∙ ap (concluded (Step.Admin secret command) s) is

  module _ (within : is_past_bound s.world ≡ false) (same : relimits command s.world ≡ false) where
    done : (content : Content) (s' : State) → administer secret command s ≡ Done content s'
        → after (Step.Admin secret command) s ≡ said (Ok (record { index = None; content = content })) s'
    done content s' is = concludes (Done content s') is
        ∙ ap (λ x. concluded_with (Step.Admin secret command) s content (record s' { world = x })) (administration_settles secret command s s' content same is)
        ∙ ap (λ b. cond b (said (Err Refusal.Full) s) (said (Ok (record { index = None; content = content })) s'))
        (administration_stays_within secret command s s' content within is)

    made : (o : Outcome State) → administer secret command s ≡ o → is_done o ≡ true → is_made (after (Step.Admin secret command) s) ≡ true
    made NotEnabled is so = not_both so refl
    made (Refused refusal) is so = not_both so refl
    made (Done content s') is so = ap is_made (done content s' is)

    refused : (refusal : Refusal) (s' : State) → administer secret command s ≡ Refused refusal → s' ≡ s → Makes (Step.Admin secret command) s (Err refusal) s'
    refused refusal s' is stays = by refusal (subst (LeavesState (relimits command s.world) s) is (command_leaves secret command s))
        (concludes (Refused refusal) is)
      where
        by : (r : Refusal) → is_of_step r ≡ true → after (Step.Admin secret command) s ≡ said (Err r) s → Makes (Step.Admin secret command) s (Err r) s'
        by Refusal.NotEnabled named e = not_both named refl
        by Refusal.Memory named e = not_both named refl
        by _ named e = (e, stays)

    makes : (result : Result Content Refusal) (s' : State) → Changes (administer secret command s) s result s' →
        Makes (Step.Admin secret command) s (plain result) s'
    makes (Ok content) s' is = done content s' is
    makes (Err refusal) s' h = by refusal h
      where
        by : (r : Refusal) → Changes (administer secret command s) s (Err r) s' → Makes (Step.Admin secret command) s (Err r) s'
        by Refusal.Memory h = (made (administer secret command s) refl h.0, h.1)
        by r h = refused r s' h.0 h.1

pub administration_makes : AdministrationMakes
administration_makes s s' secret command result allowed within same changes = makes s secret command allowed within same result s' changes
