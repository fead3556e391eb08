-- What a step's own change makes of a namespace, before the step settles.
use Rattle.std.specs.Prelude.{◌≡◌, ◌⊎◌, ℕ, ◌+◌, Bool, true, false, cond, not, ◌&&◌, List, Option, Some, None, Ok, Err}
use Rattle.std.specs.Prelude.{option_map}
use Rattle.std.proofs.Common.{refl, sym, ap, subst, ◌∙◌, inl, inr}
use Rattle.std.specs.FinMap.{get, insert, remove}
use Rattle.std.specs.Option.{option_map_or}
use Rattle.ns_types.specs.declared.allocation.Allocation.{Allocation}
use Rattle.ns_types.specs.declared.allocation.DesiredStatus.{DesiredStatus}
use Rattle.ns_types.specs.declared.evaluation.Evaluation.{Evaluation}
use Rattle.ns_types.specs.declared.event.Event.{Event}
use Rattle.ns_types.specs.declared.job.Document.{Document}
use Rattle.ns_types.specs.declared.job.Job.{Job}
use Rattle.ns_types.specs.declared.records.Namespace.{Namespace}
use Rattle.ns_types.specs.declared.step.AdminCommand.{AdminCommand}
use Rattle.ns_types.specs.declared.step.AskCommand.{AskCommand}
use Rattle.ns_types.specs.declared.step.Step.{Step}
use Rattle.ns_types.specs.Asking.Admins.{new_tenant, with_namespace}
use Rattle.ns_types.specs.Asking.Asks.{ask, asked_in, document_of, registered_job, stopped_job, deregistered}
use Rattle.ns_types.specs.Asking.Policies.{administer, with_world}
use Rattle.ns_types.specs.Settling.Making.{put_tenant, with_job, with_desired, make_in}
use Rattle.ns_types.specs.Settling.Outcome.{Outcome, NotEnabled, Refused, Done, lift}
use Rattle.ns_types.specs.Settling.Releases.{woken}
use Rattle.ns_types.specs.Settling.Same.{same_document}
use Rattle.ns_types.specs.Settling.Settle.{unblocked_in}
use Rattle.ns_types.specs.Settling.Settle.{stamp_tenant}
use Rattle.ns_types.specs.State.Names.{Name, ByName}
use Rattle.ns_types.specs.State.Rows.{State, World, Tenant}
use Rattle.ns_types.specs.Steps.{Answer, after, act, said, settled}
use Rattle.ns_types.proofs.Leads.{Leads, leads_of, leads_found, leads_lift}
use Rattle.ns_types.proofs.Named.{names, one_name}
use Rattle.ns_types.proofs.TableRows.{row_of_insert, row_of_remove}
use Rattle.ns_types.proofs.Tests.{not_Some, same_Some}
use Rattle.ns_audit.proofs.Alone.Fixed.{SameIn}
use Rattle.ns_audit.proofs.Alone.Sides.{change, act_is}
use Rattle.ns_audit.proofs.ValidAllocations.Going.{Onward, onward_same, onward_make_in}
use Rattle.ns_laws.specs.Indexes as law
use Rattle.ns_laws.specs.Indexes.{Spans}
use Rattle.ns_laws.proofs.CommandLemmas.{job_of, leads_administered, leads_asked}
use Rattle.ns_laws.proofs.Effect.Rows.{settled_rows, settled_tenant}
use Rattle.ns_laws.proofs.Index.OwnChanges.{is_ask, change_fixed, ask_fixed}
use Rattle.ns_audit.proofs.StepLemmas.{made, refusal_leaves_all}

-- ---- what the step itself changes of a namespace that is there before and after it

-- a changed job has the next index
abbrev pub IsDated : Tenant → Name → Job → Type 0
IsDated old id job = (job.modify_index ≡ old.index + 1)
    × law.KeepsCreation (option_map (λ (j : Job). j.create_index) (get old.jobs id)) (old.index + 1) job.create_index

-- a job is as it was, or has the next index
abbrev DatesJobs : Tenant → Tenant → Type 0
DatesJobs old t = (id : Name) (job : Job) → get t.jobs id ≡ Some job → (get old.jobs id ≡ Some job) ⊎ IsDated old id job

dates_same : (old t : Tenant) → t.jobs ≡ old.jobs → DatesJobs old t
dates_same old t same id job at = inl (ap (λ m. get m id) (sym same) ∙ at)

pub record Begun (old t : Tenant) : Type 0 where
  pub index : t.index ≡ old.index
  pub events : t.events ≡ old.events
  pub job : DatesJobs old t

abbrev GoesOn : World → World → Type 0
GoesOn w x = (ns : Name) (old t : Tenant) → get w.tenants ns ≡ Some old → get x.tenants ns ≡ Some t → Begun old t

-- a namespace that is new has nothing yet
abbrev Comes : World → World → Type 0
Comes w x = (ns : Name) (t : Tenant) → get w.tenants ns ≡ None → get x.tenants ns ≡ Some t → (namespace : Namespace) × (new_tenant namespace ≡ t)

abbrev Begins : World → World → Type 0
Begins w x = GoesOn w x × Comes w x

begun_still : (t : Tenant) → Begun t t
begun_still t = record { index = refl; events = refl; job = dates_same t t refl }

begins_same : (w x : World) → x.tenants ≡ w.tenants → Begins w x
begins_same w x same = (
  (λ ns old t was is. subst (Begun old) (same_Some old t (sym was ∙ ap (λ m. get m ns) (sym same) ∙ is)) (begun_still old)),
  (λ ns t none is. absurd (not_Some t (sym none ∙ ap (λ m. get m ns) (sym same) ∙ is))),
)

-- ---- a request in a namespace

abbrev index_and_events : Tenant → ℕ × List Event
index_and_events t = (t.index, t.events)

dates_still : (t : Tenant) → DatesJobs t t
dates_still t = dates_same t t refl

dates_put : (t : Tenant) (id : Name) (job : Job) → (get t.jobs id ≡ Some job) ⊎ IsDated t id job → DatesJobs t (with_job id job t)
dates_put t id job own other row at = by (row_of_insert names one_name t.jobs id job other row at)
  where
    by : ((other ≡ id) × (job ≡ row)) ⊎ (get t.jobs other ≡ Some row) → (get t.jobs other ≡ Some row) ⊎ IsDated t other row
    by (inl e) = subst (λ k. (get t.jobs k ≡ Some row) ⊎ IsDated t k row) (sym e.0)
        (subst (λ (j : Job). (get t.jobs id ≡ Some j) ⊎ IsDated t id j) e.1 own)
    by (inr was) = inl was

module _ (w : World) (ns : Name) (t : Tenant) (is : get w.tenants ns ≡ Some t) where
  here : Onward DatesJobs w w
  here = onward_same DatesJobs dates_still w w refl

  dates_made : (e : Evaluation) (t' : Tenant) → DatesJobs t t' → Onward DatesJobs w (make_in ns e w t')
  dates_made e t' dates = onward_make_in DatesJobs dates_still w ns e t t' is dates

  -- the job that the table has at the id, if it has one, tells when one that is put there was created
  creation : (id : Name) (o : Option Job) → get t.jobs id ≡ o → (create_index : ℕ) →
      law.KeepsCreation (option_map (λ (j : Job). j.create_index) o) (t.index + 1) create_index →
      law.KeepsCreation (option_map (λ (j : Job). j.create_index) (get t.jobs id)) (t.index + 1) create_index
  creation id o at create_index h = subst (λ o. law.KeepsCreation (option_map (λ (j : Job). j.create_index) o) (t.index + 1) create_index) (sym at) h

  registered_dates : (document : Document) (id : Name) (o : Option Job) → get t.jobs id ≡ o →
      (get t.jobs id ≡ Some (registered_job (t.index + 1) document o)) ⊎ IsDated t id (registered_job (t.index + 1) document o)
  registered_dates document id None at = inr (refl, creation id None at (t.index + 1) refl)
  registered_dates document id (Some job) at = by (same_document document job.document && not job.stop)
    where
      new : Job
      new = record { document = document; stop = false; version = job.version + 1; create_index = job.create_index; modify_index = t.index + 1 }

      by : (b : Bool) → (get t.jobs id ≡ Some (cond b job new)) ⊎ IsDated t id (cond b job new)
      by true = inl at
      by false = inr (refl, creation id (Some job) at job.create_index refl)

  deregistered_dates : (purge : Bool) (id : Name) (job : Job) → get t.jobs id ≡ Some job → DatesJobs t (deregistered purge id job t)
  deregistered_dates true id job at = λ other row has. inl (row_of_remove t.jobs id other row has)
  deregistered_dates false id job at = dates_put t id (stopped_job (t.index + 1) job) (by job.stop)
    where
      stops : Bool → Job
      stops b = cond b job (record job { stop = true; modify_index = t.index + 1 })

      by : (b : Bool) → (get t.jobs id ≡ Some (stops b)) ⊎ IsDated t id (stops b)
      by true = inl at
      by false = inr (refl, creation id (Some job) at job.create_index refl)

  stopped_dates : (n : ℕ) (desired : DesiredStatus) → DatesJobs t (with_desired n desired t)
  stopped_dates n desired = elim (get t.allocations n) as
      (λ (o : Option Allocation). DatesJobs t (option_map_or (λ a. record t { allocations = insert t.allocations n (record a { desired = desired }) }) o t))
      [ Some a ↦ dates_same t (record t { allocations = insert t.allocations n (record a { desired = desired }) }) refl | None ↦ dates_still t ]

  asked_dates : (command : AskCommand) → Leads (Onward DatesJobs w) (asked_in ns command w t)
  asked_dates = leads_asked w ns t (λ _. Onward DatesJobs w) (λ _. here)
      (λ r. dates_made _ (with_job r.id (job_of t r) t) (dates_put t r.id _ (registered_dates (document_of t r) r.id (get t.jobs r.id) refl)))
      (λ id purge job at. dates_made _ (deregistered purge id job t) (deregistered_dates purge id job at))
      (λ n a _ _. dates_made _ (with_desired n DesiredStatus.Stop t) (stopped_dates n DesiredStatus.Stop))

leads_both : {S : Type 0} (P Q R : S → Type 0) → ((x : S) → P x → Q x → R x) → (o : Outcome S) → Leads P o → Leads Q o → Leads R o
leads_both P Q R f NotEnabled h k = tt
leads_both P Q R f (Refused refusal) h k = tt
leads_both P Q R f (Done content x) h k = f x h k

-- where a part is the same in both worlds
part_is : {Y : Type 0} (of : Tenant → Y) (w x : World) (ns : Name) (old t : Tenant) → SameIn of w x → get w.tenants ns ≡ Some old → get x.tenants ns ≡ Some t →
    of t ≡ of old
part_is of w x ns old t same was is = same_Some (of t) (of old) (ap (option_map of) (sym is) ∙ same ns ∙ ap (option_map of) was)

none_comes : {Y : Type 0} (of : Tenant → Y) (w x : World) → SameIn of w x → Comes w x
none_comes of w x same ns t none is = absurd (not_Some (of t) (ap (option_map of) (sym none) ∙ sym (same ns) ∙ ap (option_map of) is))

ask_begins : (w : World) (ns : Name) (command : AskCommand) → Leads (Begins w) (ask ns command w)
unfolding ask
ask_begins w ns command = leads_both (SameIn index_and_events w) (Onward DatesJobs w) (Begins w) (λ x same dates. (
  (λ k old t was is. let part = part_is index_and_events w x k old t same was is in
      let d = dates k t is in record {
        index = ap (λ p. p.0) part;
        events = ap (λ p. p.1) part;
        job = subst (λ o. DatesJobs o t) (same_Some d.0 old (sym d.1 ∙ was)) d.2;
      }),
  none_comes index_and_events w x same,
)) (ask ns command w)
    (ask_fixed index_and_events (λ t n e. refl) (λ t n a. refl) (λ t v. refl) (λ t j. refl) w ns command)
    (leads_found (Onward DatesJobs w) (get w.tenants ns) (asked_in ns command w) (λ t is. asked_dates w ns t is command))

-- ---- other steps

abbrev index_events_and_jobs : Tenant → ℕ × List Event × ByName Job
index_events_and_jobs t = (t.index, t.events, t.jobs)

change_begins : (step : Step) (w : World) → is_ask step ≡ false → Leads (Begins w) (change step w)
change_begins step w e = leads_of (SameIn index_events_and_jobs w) (Begins w) (λ x same. (
  (λ k old t was is. let part = part_is index_events_and_jobs w x k old t same was is in record {
    index = ap (λ p. p.0) part;
    events = ap (λ p. p.1) part;
    job = dates_same old t (ap (λ p. p.2) part);
  }),
  none_comes index_events_and_jobs w x same,
)) (change step w) (change_fixed index_events_and_jobs (λ t n e. refl) (λ t n a. refl) (λ t v. refl) step w e)

module _ (w : World) (name : Name) where
  abbrev puts : Namespace → Tenant
  puts namespace = with_namespace namespace (get w.tenants name)

  put_begins : (namespace : Namespace) → Begins w (put_tenant name (puts namespace) w)
  put_begins namespace = (
    (λ ns old t was is. on ns old t was (row_of_insert names one_name w.tenants name (puts namespace) ns t is)),
    (λ ns t none is. new ns t none (row_of_insert names one_name w.tenants name (puts namespace) ns t is)),
  )
    where
      on : (ns : Name) (old t : Tenant) → get w.tenants ns ≡ Some old → ((ns ≡ name) × (puts namespace ≡ t)) ⊎ (get w.tenants ns ≡ Some t) → Begun old t
      on ns old t was (inl e) = subst (Begun old) (ap (with_namespace namespace) (sym was ∙ ap (get w.tenants) e.0) ∙ e.1)
          (record { index = refl; events = refl; job = dates_same old (record old { namespace = namespace }) refl })
      on ns old t was (inr at) = (begins_same w w refl).0 ns old t was at

      new : (ns : Name) (t : Tenant) → get w.tenants ns ≡ None → ((ns ≡ name) × (puts namespace ≡ t)) ⊎ (get w.tenants ns ≡ Some t) →
          (record_ : Namespace) × (new_tenant record_ ≡ t)
      new ns t none (inl e) = (namespace, ap (with_namespace namespace) (sym none ∙ ap (get w.tenants) e.0) ∙ e.1)
      new ns t none (inr at) = absurd (not_Some t (sym none ∙ at))

  delete_begins : Begins w (record w { tenants = remove w.tenants name })
  delete_begins = (
    (λ ns old t was is. (begins_same w w refl).0 ns old t was (row_of_remove w.tenants name ns t is)),
    (λ ns t none is. absurd (not_Some t (sym none ∙ row_of_remove w.tenants name ns t is))),
  )

module _ (s : State) where
  abbrev pub BeginsIn : State → Type 0
  BeginsIn x = Begins s.world x.world

  of_world : (c : Outcome World) → Leads (Begins s.world) c → Leads BeginsIn (lift (with_world s.acl) c)
  of_world = leads_lift BeginsIn (with_world s.acl) (Begins s.world) (λ w h. h)

  administer_begins : (secret : Option Name) (command : AdminCommand) → Leads BeginsIn (administer secret command s)
  administer_begins = leads_administered s (λ _. Begins s.world)
      (λ _ quotas pools. begins_same s.world (record s.world { quotas = quotas; pools = pools }) refl)
      (put_begins s.world) (λ name _ _ _ _. delete_begins s.world name)

  by_change : (step : Step) → act step s ≡ lift (with_world s.acl) (change step s.world) → is_ask step ≡ false → Leads BeginsIn (act step s)
  by_change step is other = subst (Leads BeginsIn) (sym is) (of_world (change step s.world) (change_begins step s.world other))

  pub act_begins : (step : Step) → Leads BeginsIn (act step s)
  unfolding act
  act_begins (Step.Ask ns secret command) = of_world (ask ns command s.world) (ask_begins s.world ns command)
  act_begins (Step.Admin secret command) = administer_begins secret command
  act_begins (Step.Node pool secret command) = by_change (Step.Node pool secret command) (act_is (Step.Node pool secret command) s refl) refl
  act_begins (Step.Dequeue worker ns n) = by_change (Step.Dequeue worker ns n) (act_is (Step.Dequeue worker ns n) s refl) refl
  act_begins (Step.Snap worker ns) = by_change (Step.Snap worker ns) (act_is (Step.Snap worker ns) s refl) refl
  act_begins (Step.Submit worker ns) = by_change (Step.Submit worker ns) (act_is (Step.Submit worker ns) s refl) refl
  act_begins (Step.Apply worker ns) = by_change (Step.Apply worker ns) (act_is (Step.Apply worker ns) s refl) refl
  act_begins (Step.Finish worker ns) = by_change (Step.Finish worker ns) (act_is (Step.Finish worker ns) s refl) refl
  act_begins (Step.Nack worker ns) = by_change (Step.Nack worker ns) (act_is (Step.Nack worker ns) s refl) refl

-- ---- the end of a step

-- the rows of the namespace are the old ones; or the step's own change makes t of them, and they are t once it has settled
pub data Ends (old : Tenant) : Tenant → Type 0 where
  stays : Ends old old
  goes : (t : Tenant) → Begun old t → Ends old (stamp_tenant (Some old) t)

module _ (step : Step) (s s' : State) (ns : Name) (old now : Tenant) where
  pub ends : Spans step s s' ns old now → Ends old now
  ends h = by h.answer h.leads
    where
      stay : s' ≡ s → Ends old now
      stay e = subst (Ends old) (same_Some old now (sym h.was_there ∙ ap (λ (y : State). get y.world.tenants ns) (sym e) ∙ h.is_there)) stays

      go : (x : State) → BeginsIn s x → settled s x ≡ s' → Ends old now
      go x begins e = row (get x.world.tenants ns) refl (sym (settled_tenant s.world x.world ns) ∙ ap (λ (y : State). get y.world.tenants ns) e ∙ h.is_there)
        where
          row : (o : Option Tenant) → get x.world.tenants ns ≡ o → option_map (settled_rows s.world x.world ns) o ≡ Some now → Ends old now
          row None is f = absurd (not_Some now f)
          row (Some t) is f =
              let b = begins.0 ns old t h.was_there is in
              let u : Tenant = unblocked_in (woken s.world x.world) ns t in
              subst (Ends old) (ap (λ o. stamp_tenant o u) (sym h.was_there) ∙ same_Some _ _ f)
              (goes u (record { index = b.index; events = b.events; job = b.job }))

      by : (answer : Answer) → after step s ≡ said answer s' → Ends old now
      by (Ok reply) e = let m = made step s s' reply e in
          go m.own (subst (Leads (BeginsIn s)) m.acts (act_begins s step)) m.leads
      by (Err refusal) e = stay (refusal_leaves_all step s s' refusal e)
