-- Rows that a step leaves as they are keep their indexes.
use Rattle.std.specs.Prelude.{◌≡◌, ◌⊎◌, ℕ, ◌+◌, Bool, true, false, cond, not, ◌&&◌, Option, Some, None, option_map}
use Rattle.std.proofs.Common.{inl, inr, refl, sym, ap, subst, ◌∙◌, arith}
use Rattle.std.specs.FinMap.{get, insert}
use Rattle.std.specs.Option.{option_and_then, option_eq, option_map_or}
use Rattle.ns_types.specs.declared.allocation.Allocation.{Allocation}
use Rattle.ns_types.specs.declared.allocation.ClientStatus.TheVariants as ClientStatus
use Rattle.ns_types.specs.declared.allocation.DesiredStatus.{DesiredStatus}
use Rattle.ns_types.specs.declared.allocation.DesiredStatus.TheVariants as DesiredStatuses
use Rattle.ns_types.specs.declared.evaluation.Evaluation.{Evaluation}
use Rattle.ns_types.specs.declared.job.Document.{Document}
use Rattle.ns_types.specs.declared.job.Job.{Job}
use Rattle.ns_types.specs.declared.step.AskCommand.{AskCommand}
use Rattle.ns_types.specs.declared.step.Step.{Step}
use Rattle.ns_types.specs.Asking.Asks.{ask, asked_in, deregistered, document_of, registered_job, stopped_job}
use Rattle.ns_types.specs.Asking.Policies.{administer, with_world}
use Rattle.ns_types.specs.Settling.Making.{make_in, with_desired, with_job}
use Rattle.ns_types.specs.Settling.Outcome.{Outcome, lift}
use Rattle.ns_types.specs.Settling.Releases.{woken}
use Rattle.ns_types.specs.Settling.Same.{same_allocation, same_document, same_evaluation, same_flag}
use Rattle.ns_types.specs.Settling.Settle.{is_touched, pending, stamp_tenant, stamped}
use Rattle.ns_types.specs.Settling.Settle.{stamped_allocation, unblocked_in, woken_row}
use Rattle.ns_types.specs.State.Names.{Key, Name, has_key, same_name, same_number}
use Rattle.ns_types.specs.State.Resources.{same_resources}
use Rattle.ns_types.specs.State.Rows.{State, Tenant, World, allocation_at}
use Rattle.ns_types.specs.Steps.{act}
use Rattle.ns_types.specs.Wire.Words.{client_text, desired_text, kind_text, status_text, trigger_text}
use Rattle.ns_types.proofs.Alike.{same_allocation_refl, same_evaluation_refl}
use Rattle.ns_types.proofs.Gone.{evicted_row, stopped_row}
use Rattle.ns_types.proofs.Leads.{Leads, leads_of, leads_found, leads_lift}
use Rattle.ns_types.proofs.Lists.{not_both}
use Rattle.ns_types.proofs.Named.{names, one_name, numbers, one_number}
use Rattle.ns_types.proofs.TableRows.{row_of_insert, row_of_remove}
use Rattle.ns_types.proofs.Tables.{get-map_rows}
use Rattle.ns_types.proofs.Tests.{not_Some, same_Some}
use Rattle.ns_audit.proofs.Alone.Fixed.{SameIn}
use Rattle.ns_audit.proofs.Alone.Sides.{act_is, change}
use Rattle.ns_audit.proofs.ValidAllocations.Going.{Onward, onward_make_in, onward_same}
use Rattle.ns_laws.specs.Indexes as law
use Rattle.ns_laws.specs.Indexes.{WasAllocation, WasEvaluation}
use Rattle.ns_laws.proofs.CommandLemmas.{job_of, leads_asked}
use Rattle.ns_laws.proofs.Endings.Change.{Change, asks, cuts, deletes, evicts, left, loses, places, plans, reports, rests, stops}
use Rattle.ns_laws.proofs.Endings.Steps.{MovesIn, act_moves}
use Rattle.ns_laws.proofs.Index.OwnChanges.{change_fixed, is_ask}
use Rattle.ns_laws.proofs.Index.Stamps.{dated_allocation, dated_evaluation, row_kept}
use Rattle.ns_laws.proofs.Index.StepRows.{Closes, Comes, Left, LeavesIn, SameDates, WalksIn, act_walks}
use Rattle.ns_laws.proofs.Index.StepRows.{added, admin_leaves, begins, closes, goes, stayed, Leaves}

-- ---- evaluations

was_the_same : (old : Tenant) (n : ℕ) (e : Evaluation) (was : WasEvaluation old n e) → same_evaluation was.before e ≡ true
unfolding same_evaluation
was_the_same old n e was =
    let b : Evaluation = was.before in
    (λ i. same_name b.job (was.job i) && same_name (kind_text b.kind) (kind_text (was.kind i)) && same_number b.priority (was.priority i)
    && same_name b.pool (was.pool i)
    && same_name (trigger_text b.trigger) (trigger_text (was.trigger i))
    && same_name (status_text b.status) (status_text (was.status i))
    && option_eq same_number b.previous (was.previous i) && option_eq same_number b.follower (was.follower i)
    && option_eq same_name b.quota (was.quota i) && same_flag b.escapes (was.escapes i))
    ∙ same_evaluation_refl b

-- the end of a step leaves a row that is shown as it was before
evaluation_kept : (old t : Tenant) (n : ℕ) (before d e : Evaluation) → get old.evaluations n ≡ Some before → get t.evaluations n ≡ Some d →
    get (stamp_tenant (Some old) t).evaluations n ≡ Some e → same_evaluation before e ≡ true → d ≡ e
unfolding stamp_tenant same_evaluation
evaluation_kept old t n before d e was own now same = by (is_touched old t) now
  where
    by : (b : Bool) → get (cond b (stamped (old.index + 1) old t) t).evaluations n ≡ Some e → d ≡ e
    by true at = row_kept same_evaluation (λ x. x.create_index) dated_evaluation (old.index + 1) old.evaluations t.evaluations (λ _ _ _ _. refl)
        n before d e was own at same
    by false at = same_Some d e (sym own ∙ at)

pub unchanged_evaluations_keep_indexes : law.UnchangedEvaluationsKeepIndexes
unchanged_evaluations_keep_indexes step s s' ns old now n e valid h at was =
    by (closes step s s' h.answer (WalksIn s valid.world) ns now (act_walks s valid.world step) h.leads h.is_there)
  where
    Kept : Type 0
    Kept = (e.create_index ≡ was.before.create_index) × (e.modify_index ≡ was.before.modify_index)

    rested : s' ≡ s → Kept
    rested same =
        let is : old ≡ now = same_Some old now (sym h.was_there ∙ ap (λ (y : State). get y.world.tenants ns) (sym same) ∙ h.is_there) in
        let row : was.before ≡ e = same_Some was.before e (sym was.was ∙ ap (λ (t : Tenant). get t.evaluations n) is ∙ at) in
        (ap (λ (e : Evaluation). e.create_index) (sym row), ap (λ (e : Evaluation). e.modify_index) (sym row))

    closed : Closes step s s' h.answer (WalksIn s valid.world) ns now → Kept
    closed c = came (c.holds ns c.rows c.is_own)
      where
        u : Tenant
        u = unblocked_in (woken s.world c.own.world) ns c.rows

        came : Comes s.world ns c.rows → Kept
        came (begins none empty) = absurd (not_Some old (sym none ∙ h.was_there))
        came (goes t is g) =
            let b = g.rows n was.before (ap (λ (t : Tenant). get t.evaluations n) (same_Some t old (sym is ∙ h.was_there)) ∙ was.was) in
            let wakes : Bool = has_key (woken s.world c.own.world) (ns, n) in
            let d = evaluation_kept old u n was.before (cond wakes (pending b.0) b.0) e was.was
            (get-map_rows numbers one_number (woken_row (woken s.world c.own.world) ns) c.rows.evaluations n
            ∙ ap (option_map (woken_row (woken s.world c.own.world) ns n)) b.1)
            (ap (λ o. get (stamp_tenant o u).evaluations n) (sym h.was_there) ∙ ap (λ (t : Tenant). get t.evaluations n) c.is_now ∙ at)
            (was_the_same old n e was) in
            let w = woken_dates wakes b.0 in (
              ap (λ (e : Evaluation). e.create_index) (sym d) ∙ w.created ∙ b.2.created,
              ap (λ (e : Evaluation). e.modify_index) (sym d) ∙ w.modified ∙ b.2.modified,
            )
          where
            woken_dates : (c : Bool) (b : Evaluation) → SameDates b (cond c (pending b) b)
            woken_dates true b = record { created = refl; modified = refl }
            woken_dates false b = record { created = refl; modified = refl }

    by : (s' ≡ s) ⊎ Closes step s s' h.answer (WalksIn s valid.world) ns now → Kept
    by (inl same) = rested same
    by (inr c) = closed c

-- ---- allocations

was_the_same_allocation : (old : Tenant) (n : ℕ) (a : Allocation) (was : WasAllocation old n a) → same_allocation was.before a ≡ true
unfolding same_allocation
was_the_same_allocation old n a was =
    let b : Allocation = was.before in
    (λ i. same_name b.job (was.job i) && same_name b.group (was.group i) && same_number b.evaluation (was.evaluation i)
    && same_name b.pool (was.pool i) && same_name b.node (was.node i) && same_resources b.size (was.size i)
    && same_number b.priority (was.priority i)
    && same_number b.job_modify_index (was.job_modify_index i)
    && same_name (desired_text b.desired) (desired_text (was.desired i))
    && same_name (client_text b.client) (client_text (was.client i)))
    ∙ same_allocation_refl b

record SameTimes (a b : Allocation) : Type 0 where
  created : b.create_index ≡ a.create_index
  modified : b.modify_index ≡ a.modify_index

times_of : (a b : Allocation) → a ≡ b → SameTimes a b
times_of a b is = record { created = ap (λ (a : Allocation). a.create_index) (sym is); modified = ap (λ (a : Allocation). a.modify_index) (sym is) }

allocation_kept : (old t : Tenant) (n : ℕ) (before d e : Allocation) → get old.allocations n ≡ Some before → get t.allocations n ≡ Some d →
    get (stamp_tenant (Some old) t).allocations n ≡ Some e → same_allocation before e ≡ true → d ≡ e
unfolding stamp_tenant same_allocation
allocation_kept old t n before d e was own now same = by (is_touched old t) now
  where
    by : (b : Bool) → get (cond b (stamped (old.index + 1) old t) t).allocations n ≡ Some e → d ≡ e
    by true at = row_kept same_allocation (λ x. x.create_index) dated_allocation (old.index + 1) old.allocations t.allocations (λ _ _ _ _. refl)
        n before d e was own at same
    by false at = same_Some d e (sym own ∙ at)

none_stamped : (old t : Tenant) (n : ℕ) → get t.allocations n ≡ None → get (stamp_tenant (Some old) t).allocations n ≡ None
unfolding stamp_tenant
none_stamped old t n none = by (is_touched old t)
  where
    by : (touched : Bool) → get (cond touched (stamped (old.index + 1) old t) t).allocations n ≡ None
    by true = get-map_rows numbers one_number (stamped_allocation (old.index + 1) old) t.allocations n
        ∙ ap (option_map (stamped_allocation (old.index + 1) old n)) none
    by false = none

-- the step's own change leaves the indexes of an allocation
module _ (w : World) (step : Step) (key : Key) (o own : Option Allocation) (a b : Allocation) (was : o ≡ Some a) (is : own ≡ Some b) where
  -- it is a row with these indexes in the place of one that was there
  moved : (d x : Allocation) → o ≡ Some d → own ≡ Some x → SameTimes d x → SameTimes a b
  moved d x d_was x_is times = subst (λ a. SameTimes a b) (same_Some d a (sym d_was ∙ was)) (subst (SameTimes d) (same_Some x b (sym x_is ∙ is)) times)

  still : own ≡ o → SameTimes a b
  still e = times_of a b (same_Some a b (sym was ∙ sym e ∙ is))

  own_times : Change w step key o own → SameTimes a b
  own_times (rests e) = still e
  own_times (plans (cuts (left e))) = still e
  own_times (plans (cuts (stops d d_was lived e by))) = moved d (stopped_row d) d_was e (record { created = refl; modified = refl })
  own_times (plans (cuts (evicts d d_was lived e by))) = moved d (evicted_row d) d_was e (record { created = refl; modified = refl })
  own_times (plans (places d none e by)) = absurd (not_Some a (sym none ∙ was))
  own_times (asks d d_was lived e by) = moved d (stopped_row d) d_was e (record { created = refl; modified = refl })
  own_times (loses d d_was lived e by) = moved d (record d { client = ClientStatus.Lost }) d_was e (record { created = refl; modified = refl })
  own_times (reports d client d_was becomes e by) = moved d (record d { client = client }) d_was e (record { created = refl; modified = refl })
  own_times (deletes d d_was dead e by) = absurd (not_Some b (sym e ∙ is))

pub unchanged_allocations_keep_indexes : law.UnchangedAllocationsKeepIndexes
unchanged_allocations_keep_indexes step s s' ns old now n c valid h at was =
    by (closes step s s' h.answer (MovesIn s step) ns now (act_moves s valid.world step) h.leads h.is_there)
  where
    Kept : Type 0
    Kept = (c.create_index ≡ was.before.create_index) × (c.modify_index ≡ was.before.modify_index)

    rested : s' ≡ s → Kept
    rested same =
        let is : old ≡ now = same_Some old now (sym h.was_there ∙ ap (λ (y : State). get y.world.tenants ns) (sym same) ∙ h.is_there) in
        let row = times_of was.before c (same_Some was.before c (sym was.was ∙ ap (λ (t : Tenant). get t.allocations n) is ∙ at)) in
        (row.created, row.modified)

    closed : Closes step s s' h.answer (MovesIn s step) ns now → Kept
    closed k = row (get k.rows.allocations n) refl
      where
        u : Tenant
        u = unblocked_in (woken s.world k.own.world) ns k.rows

        there : get (stamp_tenant (Some old) u).allocations n ≡ Some c
        there = ap (λ o. get (stamp_tenant o u).allocations n) (sym h.was_there) ∙ ap (λ (t : Tenant). get t.allocations n) k.is_now ∙ at

        row : (o : Option Allocation) → get k.rows.allocations n ≡ o → Kept
        row None none = absurd (not_Some c (sym (none_stamped old u n none) ∙ there))
        row (Some b) is =
            let a_at : allocation_at s.world (ns, n) ≡ Some was.before =
            ap (option_and_then (λ (t : Tenant). get t.allocations n)) h.was_there ∙ was.was in
            let b_at : allocation_at k.own.world (ns, n) ≡ Some b =
            ap (option_and_then (λ (t : Tenant). get t.allocations n)) k.is_own ∙ is in
            let first = own_times s.world step (ns, n) (allocation_at s.world (ns, n)) (allocation_at k.own.world (ns, n))
            was.before b a_at b_at (k.holds (ns, n)) in
            let last = times_of b c (allocation_kept old u n was.before b c was.was is there (was_the_same_allocation old n c was)) in
            (last.created ∙ first.created, last.modified ∙ first.modified)

    by : (s' ≡ s) ⊎ Closes step s s' h.answer (MovesIn s step) ns now → Kept
    by (inl same) = rested same
    by (inr k) = closed k

-- ---- jobs

-- a job that is shown as it was, its indexes apart, is the same row
abbrev KeepsJobs : Tenant → Tenant → Type 0
KeepsJobs old t = (id : Name) (a b : Job) → get old.jobs id ≡ Some a → get t.jobs id ≡ Some b →
    b.document ≡ a.document → b.version ≡ a.version → b.stop ≡ a.stop → b ≡ a

keeps_same : (old t : Tenant) → t.jobs ≡ old.jobs → KeepsJobs old t
keeps_same old t same id a b was is document version stop = same_Some b a (sym is ∙ ap (λ m. get m id) same ∙ was)

-- the row in the place of another is the same, or is shown differently
data Differs (a b : Job) : Type 0 where
  itself : b ≡ a → Differs a b
  by_version : (b.version ≡ a.version → ⊥) → Differs a b
  by_stop : (b.stop ≡ a.stop → ⊥) → Differs a b

keeps_put : (t : Tenant) (id : Name) (new : Job) → ((a : Job) → get t.jobs id ≡ Some a → Differs a new) → KeepsJobs t (with_job id new t)
keeps_put t id new differs k a b was is document version stop = by (row_of_insert names one_name t.jobs id new k b is)
  where
    own : (b : Job) → new ≡ b → b.version ≡ a.version → b.stop ≡ a.stop → Differs a new → b ≡ a
    own b e version stop (itself same) = sym e ∙ same
    own b e version stop (by_version other) = absurd (other (ap (λ (j : Job). j.version) e ∙ version))
    own b e version stop (by_stop other) = absurd (other (ap (λ (j : Job). j.stop) e ∙ stop))

    by : ((k ≡ id) × (new ≡ b)) ⊎ (get t.jobs k ≡ Some b) → b ≡ a
    by (inl e) = own b e.1 version stop (differs a (ap (get t.jobs) (sym e.0) ∙ was))
    by (inr old) = same_Some b a (sym old ∙ was)

-- ---- requests in a namespace

keeps_still : (t : Tenant) → KeepsJobs t t
keeps_still t = keeps_same t t refl

next_version : (a b : ℕ) → b ≡ a + 1 → b ≡ a → ⊥
next_version a b e f = omega (arith, e, f)

module _ (w : World) (ns : Name) (t : Tenant) (is : get w.tenants ns ≡ Some t) where
  here : Onward KeepsJobs w w
  here = onward_same KeepsJobs keeps_still w w refl

  keeps_made : (e : Evaluation) (t' : Tenant) → KeepsJobs t t' → Onward KeepsJobs w (make_in ns e w t')
  keeps_made e t' keeps = onward_make_in KeepsJobs keeps_still w ns e t t' is keeps

  registered_differs : (document : Document) (id : Name) (o : Option Job) → get t.jobs id ≡ o → (a : Job) → get t.jobs id ≡ Some a →
      Differs a (registered_job (t.index + 1) document o)
  registered_differs document id None none a at = absurd (not_Some a (sym none ∙ at))
  registered_differs document id (Some job) has a at =
      subst (λ a. Differs a (registered_job (t.index + 1) document (Some job))) (same_Some job a (sym has ∙ at))
      (by (same_document document job.document && not job.stop))
    where
      by : (b : Bool) → Differs job (cond b job
          (record { document = document; stop = false; version = job.version + 1; create_index = job.create_index; modify_index = t.index + 1 }))
      by true = itself refl
      by false = by_version (next_version job.version (job.version + 1) refl)

  deregistered_keeps : (purge : Bool) (id : Name) (job : Job) → get t.jobs id ≡ Some job → KeepsJobs t (deregistered purge id job t)
  deregistered_keeps true id job at = λ k a b was is _ _ _. same_Some b a (sym (row_of_remove t.jobs id k b is) ∙ was)
  deregistered_keeps false id job at = keeps_put t id (stopped_job (t.index + 1) job) (λ a was.
      subst (λ a. Differs a (stopped_job (t.index + 1) job)) (same_Some job a (sym at ∙ was)) (by job.stop refl))
    where
      by : (b : Bool) → job.stop ≡ b → Differs job (cond b job (record job { stop = true; modify_index = t.index + 1 }))
      by true e = itself refl
      by false e = by_stop (λ same. not_both refl (same ∙ e))

  stopped_keeps : (n : ℕ) (desired : DesiredStatus) → KeepsJobs t (with_desired n desired t)
  stopped_keeps n desired = elim (get t.allocations n) as
      (λ (o : Option Allocation). KeepsJobs t (option_map_or (λ a. record t { allocations = insert t.allocations n (record a { desired = desired }) }) o t))
      [ Some a ↦ keeps_same t (record t { allocations = insert t.allocations n (record a { desired = desired }) }) refl | None ↦ keeps_still t ]

  asked_keeps : (command : AskCommand) → Leads (Onward KeepsJobs w) (asked_in ns command w t)
  asked_keeps = leads_asked w ns t (λ _. Onward KeepsJobs w) (λ _. here)
      (λ r. keeps_made _ (with_job r.id (job_of t r) t) (keeps_put t r.id _ (registered_differs (document_of t r) r.id (get t.jobs r.id) refl)))
      (λ id purge job at. keeps_made _ (deregistered purge id job t) (deregistered_keeps purge id job at))
      (λ n a _ _. keeps_made _ (with_desired n DesiredStatuses.Stop t) (stopped_keeps n DesiredStatuses.Stop))

ask_keeps : (w : World) (ns : Name) (command : AskCommand) → Leads (Onward KeepsJobs w) (ask ns command w)
unfolding ask
ask_keeps w ns command = leads_found (Onward KeepsJobs w) (get w.tenants ns) (asked_in ns command w) (λ t is. asked_keeps w ns t is command)

-- ---- each step

-- where a namespace is there before and after, its jobs are kept
abbrev Keeps : World → World → Type 0
Keeps w x = (ns : Name) (old t : Tenant) → get w.tenants ns ≡ Some old → get x.tenants ns ≡ Some t → KeepsJobs old t

keeps_onward : (w x : World) → Onward KeepsJobs w x → Keeps w x
keeps_onward w x h ns old t was is = let d = h ns t is in subst (λ o. KeepsJobs o t) (same_Some d.0 old (sym d.1 ∙ was)) d.2

keeps_fixed : (w x : World) → SameIn (λ (t : Tenant). t.jobs) w x → Keeps w x
keeps_fixed w x same ns old t was is = keeps_same old t
    (same_Some t.jobs old.jobs (ap (option_map (λ (t : Tenant). t.jobs)) (sym is) ∙ same ns ∙ ap (option_map (λ (t : Tenant). t.jobs)) was))

keeps_left : (w x : World) → Leaves w x → Keeps w x
keeps_left w x h ns old t was is = by (h ns t is)
  where
    by : Left w ns t → KeepsJobs old t
    by (stayed u namespace u_is e) = subst (KeepsJobs old) (ap (λ (u : Tenant). record u { namespace = namespace }) (same_Some old u (sym was ∙ u_is)) ∙ e)
        (keeps_same old (record old { namespace = namespace }) refl)
    by (added namespace none e) = absurd (not_Some old (sym none ∙ was))

module _ (s : State) where
  abbrev KeepsIn : State → Type 0
  KeepsIn x = Keeps s.world x.world

  of_world : (c : Outcome World) → Leads (Keeps s.world) c → Leads KeepsIn (lift (with_world s.acl) c)
  of_world = leads_lift KeepsIn (with_world s.acl) (Keeps s.world) (λ w h. h)

  by_change : (step : Step) → act step s ≡ lift (with_world s.acl) (change step s.world) → is_ask step ≡ false → Leads KeepsIn (act step s)
  by_change step is other = subst (Leads KeepsIn) (sym is) (of_world (change step s.world)
      (leads_of (SameIn (λ (t : Tenant). t.jobs) s.world) (Keeps s.world) (keeps_fixed s.world) (change step s.world)
      (change_fixed (λ (t : Tenant). t.jobs) (λ t n e. refl) (λ t n a. refl) (λ t v. refl) step s.world other)))

  act_keeps : (step : Step) → Leads KeepsIn (act step s)
  unfolding act
  act_keeps (Step.Ask ns secret command) = of_world (ask ns command s.world)
      (leads_of (Onward KeepsJobs s.world) (Keeps s.world) (keeps_onward s.world) (ask ns command s.world) (ask_keeps s.world ns command))
  act_keeps (Step.Admin secret command) =
      leads_of (LeavesIn s) KeepsIn (λ x. keeps_left s.world x.world) (administer secret command s) (admin_leaves s secret command)
  act_keeps (Step.Node pool secret command) = by_change (Step.Node pool secret command) (act_is (Step.Node pool secret command) s refl) refl
  act_keeps (Step.Dequeue worker ns n) = by_change (Step.Dequeue worker ns n) (act_is (Step.Dequeue worker ns n) s refl) refl
  act_keeps (Step.Snap worker ns) = by_change (Step.Snap worker ns) (act_is (Step.Snap worker ns) s refl) refl
  act_keeps (Step.Submit worker ns) = by_change (Step.Submit worker ns) (act_is (Step.Submit worker ns) s refl) refl
  act_keeps (Step.Apply worker ns) = by_change (Step.Apply worker ns) (act_is (Step.Apply worker ns) s refl) refl
  act_keeps (Step.Finish worker ns) = by_change (Step.Finish worker ns) (act_is (Step.Finish worker ns) s refl) refl
  act_keeps (Step.Nack worker ns) = by_change (Step.Nack worker ns) (act_is (Step.Nack worker ns) s refl) refl

jobs_stay : (o : Option Tenant) (t : Tenant) → (stamp_tenant o t).jobs ≡ t.jobs
unfolding stamp_tenant
jobs_stay None t = refl
jobs_stay (Some o) t = by (is_touched o t)
  where
    by : (b : Bool) → (cond b (stamped (o.index + 1) o t) t).jobs ≡ t.jobs
    by true = refl
    by false = refl

pub unchanged_jobs_keep_indexes : law.UnchangedJobsKeepIndexes
unchanged_jobs_keep_indexes step s s' ns old now id a b h was is document version stop =
    let same : b ≡ a = by (closes step s s' h.answer (KeepsIn s) ns now (act_keeps s step) h.leads h.is_there) in
    (ap (λ (j : Job). j.create_index) same, ap (λ (j : Job). j.modify_index) same)
  where
    kept : KeepsJobs old now → b ≡ a
    kept keeps = keeps id a b was is document version stop

    by : (s' ≡ s) ⊎ Closes step s s' h.answer (KeepsIn s) ns now → b ≡ a
    by (inl same) = kept (subst (KeepsJobs old) (same_Some old now (sym h.was_there ∙ ap (λ (y : State). get y.world.tenants ns) (sym same) ∙ h.is_there))
        (keeps_still old))
    by (inr c) =
        let u : Tenant = unblocked_in (woken s.world c.own.world) ns c.rows in
        c.holds ns old c.rows h.was_there c.is_own id a b was
        (sym (ap (λ m. get m id) (jobs_stay (get s.world.tenants ns) u)) ∙ ap (λ (t : Tenant). get t.jobs id) c.is_now ∙ is) document version stop
