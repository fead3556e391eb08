-- What is asked comes to, test by test.
use Rattle.std.specs.Prelude.{◌≡◌, ℕ, ◌+◌, ◌||◌, Bool, true, false, not, Option, Some, None, Err, is_none}
use Rattle.std.proofs.Common.{refl, ap, sym, subst, ◌∙◌}
use Rattle.std.specs.Option.{option_map_or}
use Rattle.std.specs.FinMap.{contains_key, get}
use Rattle.ns_types.specs.declared.allocation.Allocation.{Allocation}
use Rattle.ns_types.specs.declared.allocation.DesiredStatus.TheVariants as DesiredStatus
use Rattle.ns_types.specs.declared.evaluation.Trigger.TheVariants as Trigger
use Rattle.ns_types.specs.declared.job.Job.{Job}
use Rattle.ns_types.specs.declared.job.Registration.{Registration}
use Rattle.ns_types.specs.declared.refusal.Member.TheVariants as Member
use Rattle.ns_types.specs.declared.refusal.Refusal.{Refusal}
use Rattle.ns_types.specs.declared.reply.Content.{Content}
use Rattle.ns_types.specs.declared.step.AskCommand.{AskCommand}
use Rattle.ns_types.specs.Access.Sharing.{permits}
use Rattle.ns_types.specs.Asking.Asks.{ask, asked_in, deregister_job, first_refusal, has_no_room, is_outdated, pool_of, registered_with}
use Rattle.ns_types.specs.Settling.Making.{evaluation_for, make_in, with_desired}
use Rattle.ns_types.specs.Settling.Outcome.{Outcome, NotEnabled, Refused, Done, found, is_done, refused_by, unless}
use Rattle.ns_types.specs.Settling.Settle.{settle}
use Rattle.ns_types.specs.State.Names.{Name}
use Rattle.ns_types.specs.State.Rows.{World, Tenant, is_live}
use Rattle.ns_types.specs.Steps.{is_past_bound}
use Rattle.ns_types.proofs.Lists.{not_both}
use Rattle.ns_types.proofs.Outcomes.{unless_not, unless_so}
use Rattle.ns_types.proofs.Registrations.{by_tests}
use Rattle.ns_types.proofs.Tests.{same_Some}
use Rattle.ns_change.specs.Prepared.{Prepares, bounded}
use Rattle.ns_change.proofs.Bounded.{done_still, refused_full, still_refused}
use Rattle.ns_tables.specs.declared.tables.Tables.{Tables}
use Rattle.ns_jobs.specs.Counted.{counted, counted_ask, passes_bound, passes_in}
use Rattle.ns_jobs.specs.Ending.{ending_passes}
use Rattle.ns_jobs.specs.Made.{job_of, stopped_with}
use Rattle.ns_jobs.proofs.Releasing.{stop_past}

counted_refused : (passes : Bool) (o : Outcome World) (r : Refusal) → o ≡ Refused r → counted passes o ≡ Refused r
counted_refused true o r is = ap (counted true) is
counted_refused false o r is = is

then_full : (o : Outcome World) → is_done o ≡ true → counted true o ≡ Refused Refusal.Full
then_full NotEnabled done = not_both done refl
then_full (Refused r) done = not_both done refl
then_full (Done content w) done = refl

module _ (w : World) (ns : Name) (command : AskCommand) where
  pub ask_nowhere : get w.tenants ns ≡ None → ask ns command w ≡ Refused Refusal.NotFound
  unfolding ask
  ask_nowhere is = ap (λ o. found o (asked_in ns command w)) is

  pub nowhere : get w.tenants ns ≡ None → counted_ask ns command w ≡ Refused Refusal.NotFound
  nowhere is = counted_refused (passes_in w ns) _ _ (ask_nowhere is)

  module _ (t : Tenant) (at : get w.tenants ns ≡ Some t) where
    pub asks : ask ns command w ≡ asked_in ns command w t
    unfolding ask
    asks = ap (λ o. found o (asked_in ns command w)) at

    passes : passes_in w ns ≡ passes_bound t
    passes = ap (λ o. option_map_or passes_bound o false) at

    pub refuses : (r : Refusal) → asked_in ns command w t ≡ Refused r → counted_ask ns command w ≡ Refused r
    refuses r is = counted_refused (passes_in w ns) _ r (asks ∙ is)

    pub full : is_done (asked_in ns command w t) ≡ true → passes_bound t ≡ true → counted_ask ns command w ≡ Refused Refusal.Full
    full done over = (λ i. counted ((passes ∙ over) i) (asks i)) ∙ then_full (asked_in ns command w t) done

    pub stands : passes_bound t ≡ false → counted_ask ns command w ≡ asked_in ns command w t
    stands fits = λ i. counted ((passes ∙ fits) i) (asks i)

-- ---- registration

module _ (w : World) (ns : Name) (r : Registration) (t : Tenant) (at : get w.tenants ns ≡ Some t) where
  abbrev registers_by : Option Refusal → Outcome World
  registers_by x = refused_by x (registered_with ns r w t (job_of r t))

  -- its first refusal is no want of memory, and it is never out of turn
  module _ (tables : Tables) (refusal : Refusal) (is : first_refusal w t r ≡ Some refusal) where
    by : (permitted there outdated full : Bool) → by_tests permitted there outdated full ≡ Some refusal →
        Prepares (counted_ask ns (AskCommand.Register r) w) tables (Err refusal)
    by permitted there outdated full e = at_tests permitted there outdated full e
      where
        says : (x : Refusal) → Some x ≡ Some refusal → (counted_ask ns (AskCommand.Register r) w ≡ Refused x →
            Prepares (counted_ask ns (AskCommand.Register r) w) tables (Err x)) → Prepares (counted_ask ns (AskCommand.Register r) w) tables (Err refusal)
        says x e prepares = subst (λ y. Prepares (counted_ask ns (AskCommand.Register r) w) tables (Err y)) (same_Some x refusal e)
            (prepares (refuses w ns (AskCommand.Register r) t at x (ap registers_by (is ∙ sym e))))

        at_tests : (permitted there outdated full : Bool) → by_tests permitted there outdated full ≡ Some refusal →
            Prepares (counted_ask ns (AskCommand.Register r) w) tables (Err refusal)
        at_tests false b c d e = says Refusal.PoolNotPermitted e (λ h. h)
        at_tests true false c d e = says (Refusal.BadField Member.NodePool) e (λ h. h)
        at_tests true true true d e = says Refusal.Conflict e (λ h. h)
        at_tests true true false true e = says Refusal.Full e (λ h. h)
        at_tests true true false false e = not_both refl (ap is_none e)

    pub register_refused : Prepares (counted_ask ns (AskCommand.Register r) w) tables (Err refusal)
    register_refused = by (permits t.namespace (pool_of t r)) (contains_key w.pools (pool_of t r)) (is_outdated r t) (has_no_room r t) is

  module _ (none : first_refusal w t r ≡ None) where
    pub register_full : passes_bound t ≡ true → counted_ask ns (AskCommand.Register r) w ≡ Refused Refusal.Full
    register_full = full w ns (AskCommand.Register r) t at (ap (λ x. is_done (registers_by x)) none)

    pub registers : passes_bound t ≡ false → counted_ask ns (AskCommand.Register r) w ≡ registered_with ns r w t (job_of r t)
    registers fits = stands w ns (AskCommand.Register r) t at fits ∙ ap registers_by none

-- ---- deregistration

module _ (w : World) (ns id : Name) (purge : Bool) (t : Tenant) (at : get w.tenants ns ≡ Some t) where
  abbrev deregisters_at : Option Job → Outcome World
  deregisters_at job = found job (deregister_job ns id purge w t)

  pub no_job : get t.jobs id ≡ None → counted_ask ns (AskCommand.Deregister id purge) w ≡ Refused Refusal.NotFound
  no_job none = refuses w ns (AskCommand.Deregister id purge) t at Refusal.NotFound (ap deregisters_at none)

  module _ (job : Job) (there : get t.jobs id ≡ Some job) where
    pub deregister_full : passes_bound t ≡ true → counted_ask ns (AskCommand.Deregister id purge) w ≡ Refused Refusal.Full
    deregister_full = full w ns (AskCommand.Deregister id purge) t at (ap (λ job. is_done (deregisters_at job)) there)

    pub deregisters : passes_bound t ≡ false → counted_ask ns (AskCommand.Deregister id purge) w ≡ deregister_job ns id purge w t job
    deregisters fits = stands w ns (AskCommand.Deregister id purge) t at fits ∙ ap deregisters_at there

-- ---- stopping an allocation

module _ (w : World) (ns : Name) (n : ℕ) (t : Tenant) (at : get w.tenants ns ≡ Some t) where
  abbrev command : AskCommand
  command = AskCommand.StopAllocation n

  abbrev stops_at : Option Allocation → Outcome World
  stops_at a = found a (λ a. unless (not (is_live a)) Refusal.Conflict (stopped_with ns n w t a))

  pub no_allocation : get t.allocations n ≡ None → bounded w (ask ns command w) ≡ Refused Refusal.NotFound
  no_allocation none = still_refused w _ Refusal.NotFound (asks w ns command t at ∙ ap stops_at none)

  module _ (a : Allocation) (there : get t.allocations n ≡ Some a) where
    pub not_live : is_live a ≡ false → bounded w (ask ns command w) ≡ Refused Refusal.Conflict
    not_live ended = still_refused w _ Refusal.Conflict
        (asks w ns command t at ∙ ap stops_at there ∙ unless_so (not (is_live a)) _ _ (ap not ended))

    module _ (live : is_live a ≡ true) (within : is_past_bound w ≡ false) where
      abbrev content : Content
      content = Content.Stopped (t.evaluation_number + 1) (t.index + 1)

      abbrev left : World
      left = make_in ns (evaluation_for t a Trigger.AllocStop) w (with_desired n DesiredStatus.Stop t)

      stop_is : ask ns command w ≡ Done content left
      stop_is = asks w ns command t at ∙ ap stops_at there ∙ unless_not (not (is_live a)) _ _ (ap not live)

      past_is : is_past_bound (settle w left) ≡ (passes_bound t || ending_passes w t a)
      past_is = stop_past w ns t at n a there live (evaluation_for t a Trigger.AllocStop) within

      pub too_few : passes_bound t ≡ true → bounded w (ask ns command w) ≡ Refused Refusal.Full
      too_few past = refused_full w _ content left stop_is (past_is ∙ ap (λ b. b || ending_passes w t a) past)

      module _ (fits : passes_bound t ≡ false) where
        pub stop_full : ending_passes w t a ≡ true → bounded w (ask ns command w) ≡ Refused Refusal.Full
        stop_full past = refused_full w _ content left stop_is (past_is ∙ (λ i. fits i || past i))

        pub stops : ending_passes w t a ≡ false → bounded w (ask ns command w) ≡ stopped_with ns n w t a
        stops passes = done_still w _ content left stop_is (past_is ∙ (λ i. fits i || passes i))
