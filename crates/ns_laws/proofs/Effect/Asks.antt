-- What is asked in a namespace does what it says.
use Rattle.std.specs.Prelude.{◌≡◌, ℕ, ◌+◌, ◌≤◌, Bool, true, false, cond, not, ◌&&◌, Option, Some, None, Ok, option_map}
use Rattle.std.proofs.Common.{refl, sym, ap, subst, ◌∙◌, arith}
use Rattle.std.specs.FinMap.{get, insert, same_map}
use Rattle.std.specs.Option.{option_map_or}
use Rattle.ns_types.specs.declared.allocation.Allocation.{Allocation}
use Rattle.ns_types.specs.declared.allocation.DesiredStatus.TheVariants as DesiredStatus
use Rattle.ns_types.specs.declared.evaluation.Evaluation.{Evaluation}
use Rattle.ns_types.specs.declared.evaluation.Trigger.{Trigger}
use Rattle.ns_types.specs.declared.job.Document.{Document}
use Rattle.ns_types.specs.declared.job.Job.{Job}
use Rattle.ns_types.specs.declared.job.Registration.{Registration}
use Rattle.ns_types.specs.declared.refusal.Refusal.TheVariants as Refusal
use Rattle.ns_types.specs.declared.reply.Content.{Content}
use Rattle.ns_types.specs.declared.reply.Content.TheVariants as Contents
use Rattle.ns_types.specs.declared.reply.Reply.{Reply}
use Rattle.ns_types.specs.declared.step.AskCommand.{AskCommand}
use Rattle.ns_types.specs.declared.step.Step.{Step}
use Rattle.ns_types.specs.Asking.Asks.{ask, asked_in, document_of, registered_job, first_refusal, stopped_job, deregistered}
use Rattle.ns_types.specs.Asking.Policies.{with_world}
use Rattle.ns_types.specs.Settling.Making.{with_job, with_desired, evaluation_of, evaluation_for, with_evaluation, make_in}
use Rattle.ns_types.specs.Settling.Same.{same_document}
use Rattle.ns_types.specs.Settling.Settle.{settle}
use Rattle.ns_types.specs.State.Names.{Name}
use Rattle.ns_types.specs.State.Rows.{State, World, Tenant, is_live}
use Rattle.ns_types.specs.State.Sums.{names_quota}
use Rattle.ns_types.specs.Steps.{after, act, said, reply_of, index_shown}
use Rattle.ns_types.proofs.Named.{numbers, one_number, first_of_both, second_of_both}
use Rattle.ns_types.proofs.TableRows.{apart, get_put, get_other}
use Rattle.ns_types.proofs.Tests.{is_yes, is_no, not_Some, same_Some}
use Rattle.ns_audit.specs.Orderly.{IsSteady}
use Rattle.ns_laws.specs.Effects as law
use Rattle.ns_laws.specs.Effects.{HasRows, IsEvaluated, IsDocumentOf, IsRegistered, IsDeregistered, IsPurged, IsStopped, IsDated, evaluation_in_reply}
use Rattle.ns_laws.proofs.Effect.Documents.{document_is}
use Rattle.ns_laws.proofs.Effect.Evaluations.{IsMadeFor, made_of, made_for, is_evaluated, others_rest}
use Rattle.ns_laws.proofs.Effect.Rows.{Does, does_unless, does_refused, does_found, does_if, does_of, does_lift, after_does, put_there, put_elsewhere, removed}
use Rattle.ns_laws.proofs.Effect.Rows.{removed_elsewhere, settled_rows, settled_there, settled_jobs, settled_allocated, settled_former}
use Rattle.ns_laws.proofs.Effect.Rows.{made_there, number_there, settled_new}
use Rattle.ns_laws.proofs.Effect.Versions.{has_version, same_version}

-- ---- a request in a namespace

module _ (s : State) (ns : Name) (secret : Option Name) (command : AskCommand) (P : Reply → Tenant → Tenant → Type 0) where
  abbrev step : Step
  step = Step.Ask ns secret command

  -- what the change itself leaves, so that P holds once it has settled
  abbrev Leaves : Tenant → Content → World → Type 0
  Leaves t content x = (u : Tenant) × (get x.tenants ns ≡ Some u) × P (reply_of step content (settle s.world x)) t (settled_rows s.world x ns u)

  asked_does : ((t : Tenant) → get s.world.tenants ns ≡ Some t → Does (Leaves t) (asked_in ns command s.world t)) → (s' : State) (reply : Reply) →
      after step s ≡ said (Ok reply) s' → HasRows ns s s' (P reply)
  unfolding act ask
  asked_does h s' reply e = after_does step s s' reply (λ r y. HasRows ns s y (P r)) e
      (does_lift _ (with_world s.acl) (ask ns command s.world) (does_found _ (get s.world.tenants ns) (asked_in ns command s.world)
      (λ t is. does_of (Leaves t) _ (λ content x l. record {
        before = t;
        now = settled_rows s.world x ns l.0;
        was_there = is;
        is_there = settled_there s.world x ns l.0 l.1;
        holds = l.2;
      }) (asked_in ns command s.world t) (h t is))))

-- ---- an evaluation is made

-- the rows t become t', and e is made of them
module _ (w : World) (ns : Name) (secret : Option Name) (t t' : Tenant) (e : Evaluation) (is : get w.tenants ns ≡ Some t)
    (number : t'.evaluation_number ≡ t.evaluation_number) (rows : t'.evaluations ≡ t.evaluations) where
  abbrev made : World
  made = make_in ns e w t'

  abbrev now : Tenant
  now = settled_rows w made ns (with_evaluation e t')

  evaluated : {job : Name} {IsOf : Evaluation → Type 0} {trigger : Trigger} → IsMadeFor job IsOf trigger e →
      IsEvaluated job IsOf trigger (t'.evaluation_number + 1) t now
  evaluated its = is_evaluated w made ns t t' e is number rows its

  shown : (command : AskCommand) → index_shown (Step.Ask ns secret command) (settle w made) ≡ Some now.index
  shown command = ap (option_map (λ t. t.index)) (settled_there w made ns (with_evaluation e t') (made_there w ns e t'))

  jobs_now : now.jobs ≡ t'.jobs
  jobs_now = settled_jobs w made ns (with_evaluation e t')

  allocations_now : t'.allocations ≡ t.allocations → now.allocations ≡ t.allocations
  allocations_now same = same_map numbers one_number _ _
      (λ n. settled_former w made ns t (with_evaluation e t') n is (ap (λ m. get m n) same))

-- ---- registration

module _ (t : Tenant) (r : Registration) where
  same_as : (document : Document) → document_of t r ≡ document → IsDocumentOf r t.namespace.default_pool document
  same_as document e = subst (IsDocumentOf r t.namespace.default_pool) e
      (record { kind = refl; priority = refl; pool = refl; constraints = refl; groups = refl })

  -- the job as it is registered
  record GoodJob (job : Job) : Type 0 where
    to_run : job.stop ≡ false
    document : IsDocumentOf r t.namespace.default_pool job.document

  good_job : (index : ℕ) (old : Option Job) → GoodJob (registered_job index (document_of t r) old)
  good_job index None = record { to_run = refl; document = same_as (document_of t r) refl }
  good_job index (Some job) = by (same_document (document_of t r) job.document && not job.stop) refl
    where
      by : (b : Bool) → (same_document (document_of t r) job.document && not job.stop) ≡ b → GoodJob (cond b job
          (record { document = document_of t r; stop = false; version = job.version + 1; create_index = job.create_index; modify_index = index }))
      by true e = record {
        to_run = is_no job.stop (second_of_both (same_document (document_of t r) job.document) (not job.stop) e);
        document = same_as job.document (document_is (document_of t r) job.document
            (first_of_both (same_document (document_of t r) job.document) (not job.stop) e));
      }
      by false e = record { to_run = refl; document = same_as (document_of t r) refl }

pub registered_is_there : law.RegisteredIsThere
registered_is_there ns secret r s s' reply e = asked_does s ns secret (AskCommand.Register r) (IsRegistered r) leaves s' reply e
  where
    leaves : (t : Tenant) → get s.world.tenants ns ≡ Some t → Does (Leaves s ns secret (AskCommand.Register r) (IsRegistered r) t)
        (asked_in ns (AskCommand.Register r) s.world t)
    leaves t is = does_refused _ (first_refusal s.world t r) _ (
      with_evaluation x t',
      made_there s.world ns x t',
      record {
        job = job;
        is_job = ap (λ m. get m r.id) (jobs_now s.world ns secret t t' x is refl refl) ∙ put_there t.jobs r.id job;
        is_to_run = (good_job t r (t.index + 1) (get t.jobs r.id)).to_run;
        document = (good_job t r (t.index + 1) (get t.jobs r.id)).document;
        version = has_version t r (t.index + 1) (get t.jobs r.id);
        number = t.evaluation_number + 1;
        index = t.index + 1;
        replied = refl;
        index_shown = shown s.world ns secret t t' x is refl refl (AskCommand.Register r);
        evaluated = evaluated s.world ns secret t t' x is refl refl (made_of r.id job.document Trigger.JobRegister);
        other_evaluations = others_rest s.world ns t t' x is refl refl;
        other_jobs = λ other differs. ap (λ m. get m other) (jobs_now s.world ns secret t t' x is refl refl) ∙ put_elsewhere t.jobs r.id job other differs;
        allocations = allocations_now s.world ns secret t t' x is refl refl refl;
      },
    )
      where
        job : Job
        job = registered_job (t.index + 1) (document_of t r) (get t.jobs r.id)

        t' : Tenant
        t' = with_job r.id job t

        x : Evaluation
        x = evaluation_of r.id job.document Trigger.JobRegister

-- ---- deregistration

stops : (index : ℕ) (job : Job) → (stopped_job index job).stop ≡ true
stops index job = by job.stop refl
  where
    by : (b : Bool) → job.stop ≡ b → (cond b job (record job { stop = true; modify_index = index })).stop ≡ true
    by true e = e
    by false e = refl

same_written : (index : ℕ) (job : Job) → (stopped_job index job).document ≡ job.document
same_written index job = elim job.stop as (λ b. (cond b job (record job { stop = true; modify_index = index })).document ≡ job.document)
    [ true ↦ refl | false ↦ refl ]

pub deregistered_is_stopped : law.DeregisteredIsStopped
deregistered_is_stopped ns secret id s s' reply e = asked_does s ns secret (AskCommand.Deregister id false) (IsDeregistered id) leaves s' reply e
  where
    leaves : (t : Tenant) → get s.world.tenants ns ≡ Some t → Does (Leaves s ns secret (AskCommand.Deregister id false) (IsDeregistered id) t)
        (asked_in ns (AskCommand.Deregister id false) s.world t)
    leaves t is = does_found _ (get t.jobs id) _ (λ old there.
        let job : Job = stopped_job (t.index + 1) old in
        let t' : Tenant = with_job id job t in
        let x : Evaluation = evaluation_of id old.document Trigger.JobDeregister in (
          with_evaluation x t',
          made_there s.world ns x t',
          record {
            old = old;
            was_there = there;
            job = job;
            is_job = ap (λ m. get m id) (jobs_now s.world ns secret t t' x is refl refl) ∙ put_there t.jobs id job;
            is_stopped = stops (t.index + 1) old;
            document = same_written (t.index + 1) old;
            version = same_version (t.index + 1) old;
            number = t.evaluation_number + 1;
            index = t.index + 1;
            replied = refl;
            index_shown = shown s.world ns secret t t' x is refl refl (AskCommand.Deregister id false);
            evaluated = evaluated s.world ns secret t t' x is refl refl (made_of id old.document Trigger.JobDeregister);
            other_evaluations = others_rest s.world ns t t' x is refl refl;
            other_jobs = λ other differs. ap (λ m. get m other) (jobs_now s.world ns secret t t' x is refl refl) ∙ put_elsewhere t.jobs id job other differs;
            allocations = allocations_now s.world ns secret t t' x is refl refl refl;
          },
        ))

pub purged_is_gone : law.PurgedIsGone
purged_is_gone ns secret id s s' reply e = asked_does s ns secret (AskCommand.Deregister id true) (IsPurged id) leaves s' reply e
  where
    leaves : (t : Tenant) → get s.world.tenants ns ≡ Some t → Does (Leaves s ns secret (AskCommand.Deregister id true) (IsPurged id) t)
        (asked_in ns (AskCommand.Deregister id true) s.world t)
    leaves t is = does_found _ (get t.jobs id) _ (λ old there.
        let t' : Tenant = deregistered true id old t in
        let x : Evaluation = evaluation_of id old.document Trigger.JobDeregister in (
          with_evaluation x t',
          made_there s.world ns x t',
          record {
            old = old;
            was_there = there;
            is_gone = ap (λ m. get m id) (jobs_now s.world ns secret t t' x is refl refl) ∙ removed t.jobs id;
            number = t.evaluation_number + 1;
            index = t.index + 1;
            replied = refl;
            index_shown = shown s.world ns secret t t' x is refl refl (AskCommand.Deregister id true);
            evaluated = evaluated s.world ns secret t t' x is refl refl (made_of id old.document Trigger.JobDeregister);
            other_evaluations = others_rest s.world ns t t' x is refl refl;
            other_jobs = λ other differs. ap (λ m. get m other) (jobs_now s.world ns secret t t' x is refl refl) ∙ removed_elsewhere t.jobs id other differs;
            allocations = allocations_now s.world ns secret t t' x is refl refl refl;
          },
        ))

-- ---- an allocation is stopped

pub stopped_allocation : law.StoppedAllocation
stopped_allocation ns secret n s s' reply e = asked_does s ns secret (AskCommand.StopAllocation n) (IsStopped n) leaves s' reply e
  where
    leaves : (t : Tenant) → get s.world.tenants ns ≡ Some t → Does (Leaves s ns secret (AskCommand.StopAllocation n) (IsStopped n) t)
        (asked_in ns (AskCommand.StopAllocation n) s.world t)
    leaves t is = does_found _ (get t.allocations n) _ (λ old there.
        does_unless _ (not (is_live old)) Refusal.Conflict _ (λ lives. subst (λ t'. Result old t') (sym (stops_it old there))
        (result old there (is_yes (is_live old) lives))))
      where
        to_stop : Allocation → Allocation
        to_stop old = record old { desired = DesiredStatus.Stop }

        after_stop : Allocation → Tenant
        after_stop old = record t { allocations = insert t.allocations n (to_stop old) }

        stops_it : (old : Allocation) → get t.allocations n ≡ Some old → with_desired n DesiredStatus.Stop t ≡ after_stop old
        stops_it old there = ap (λ o. option_map_or (λ a. record t {
          allocations =
              insert t.allocations n (record a { desired = DesiredStatus.Stop });
        }) o t) there

        reason : Allocation → Evaluation
        reason old = evaluation_for t old Trigger.AllocStop

        Result : Allocation → Tenant → Type 0
        Result old t' = Leaves s ns secret (AskCommand.StopAllocation n) (IsStopped n) t (Contents.Stopped (t.evaluation_number + 1) (t.index + 1))
            (make_in ns (reason old) s.world t')

        result : (old : Allocation) → get t.allocations n ≡ Some old → is_live old ≡ true → Result old (after_stop old)
        result old there lives =
            let t' : Tenant = after_stop old in
            let x : Evaluation = reason old in
            let row = settled_allocated s.world (make_in ns x s.world t') ns (with_evaluation x t') n (to_stop old)
            (get_put numbers one_number t.allocations n (to_stop old)) in (
              with_evaluation x t',
              made_there s.world ns x t',
              record {
                old = old;
                was_there = there;
                was_live = lives;
                row = row.row;
                is_row = row.is_row;
                is_to_stop = row.desired;
                client = row.client;
                job = row.job;
                pool = row.pool;
                node = row.node;
                number = t.evaluation_number + 1;
                index = t.index + 1;
                replied = refl;
                index_shown = shown s.world ns secret t t' x is refl refl (AskCommand.StopAllocation n);
                evaluated = evaluated s.world ns secret t t' x is refl refl (made_for t old Trigger.AllocStop);
                other_allocations = λ m other. settled_former s.world (make_in ns x s.world t') ns t (with_evaluation x t') m is
                    (get_other numbers one_number t.allocations n (to_stop old) m (apart m n other));
                jobs = jobs_now s.world ns secret t t' x is refl refl;
              },
            )

-- ---- the index in the reply

-- the namespace has no evaluation with its next number
unused : (t : Tenant) → ((n : ℕ) (e : Evaluation) → get t.evaluations n ≡ Some e → n ≤ t.evaluation_number) →
    get t.evaluations (t.evaluation_number + 1) ≡ None
unused t numbered = by (get t.evaluations (t.evaluation_number + 1)) refl
  where
    by : (o : Option Evaluation) → get t.evaluations (t.evaluation_number + 1) ≡ o → o ≡ None
    by None is = refl
    by (Some e) is = absurd (past t.evaluation_number (numbered _ e is))
      where
        past : (n : ℕ) → n + 1 ≤ n → ⊥
        past n le = omega (arith, le)

module _ (s : State) (ns : Name) (secret : Option Name) (number index : ℕ) (steady : IsSteady s) where
  abbrev Told : Reply → Tenant → Tenant → Type 0
  Told reply before now = evaluation_in_reply reply.content ≡ Some (number, index) → IsDated number index before now

  module _ (t : Tenant) (is : get s.world.tenants ns ≡ Some t) where
    -- the rows t' get an evaluation with the next number
    dated : (x : World) (t' : Tenant) (e : Evaluation) → t'.evaluation_number ≡ t.evaluation_number
        → ◌≡◌ {A = Option (ℕ × ℕ)} (Some (t.evaluation_number + 1, t.index + 1)) (Some (number, index)) →
        IsDated number index t (settled_rows s.world x ns (with_evaluation e t'))
    dated x t' e same told =
        let both = same_Some (t.evaluation_number + 1, t.index + 1) (number, index) told in
        subst (λ (k : ℕ × ℕ). IsDated k.0 k.1 t (settled_rows s.world x ns (with_evaluation e t'))) both
        (let r = settled_new s.world x ns t (with_evaluation e t') (t.evaluation_number + 1) e is
        (unused t (steady.orderly.tenant ns t is).numbers)
        (ap (λ k. get (insert t'.evaluations k e) (t.evaluation_number + 1)) (ap (λ n. n + 1) same) ∙
        number_there (t.evaluation_number + 1) e t'.evaluations) in record {
          next = refl;
          is_now = sym r.is_now;
          row = r.row;
          is_row = r.is_row;
          is_created = r.created;
          is_modified = r.modified;
        })

    still_numbered : (n : ℕ) → (with_desired n DesiredStatus.Stop t).evaluation_number ≡ t.evaluation_number
    still_numbered n = elim (get t.allocations n) as (λ (o : Option Allocation). (option_map_or
        (λ a. record t { allocations = insert t.allocations n (record a { desired = DesiredStatus.Stop }) }) o t).evaluation_number ≡ t.evaluation_number)
        [ Some a ↦ refl | None ↦ refl ]

    still_there : (purge : Bool) (id : Name) (job : Job) → (deregistered purge id job t).evaluation_number ≡ t.evaluation_number
    still_there true id job = refl
    still_there false id job = refl

    tells : (command : AskCommand) → Does (Leaves s ns secret command Told t) (asked_in ns command s.world t)
    tells (AskCommand.ListJobs prefix) = (t, is, λ told. absurd (not_Some _ told))
    tells (AskCommand.Register r) = does_refused _ (first_refusal s.world t r) _
        (let job : Job = registered_job (t.index + 1) (document_of t r) (get t.jobs r.id) in
        let t' : Tenant = with_job r.id job t in
        let x : Evaluation = evaluation_of r.id job.document Trigger.JobRegister in
        (with_evaluation x t', made_there s.world ns x t', λ told. dated (make_in ns x s.world t') t' x refl told))
    tells (AskCommand.ReadJob id) = does_found _ (get t.jobs id) _ (λ job there. (t, is, λ told. absurd (not_Some _ told)))
    tells (AskCommand.Deregister id purge) = does_found _ (get t.jobs id) _ (λ job there.
        let t' : Tenant = deregistered purge id job t in
        let x : Evaluation = evaluation_of id job.document Trigger.JobDeregister in
        (with_evaluation x t', made_there s.world ns x t', λ told. dated (make_in ns x s.world t') t' x (still_there purge id job) told))
    tells (AskCommand.JobAllocations id) = (t, is, λ told. absurd (not_Some _ told))
    tells (AskCommand.JobEvaluations id) = (t, is, λ told. absurd (not_Some _ told))
    tells (AskCommand.ListEvaluations prefix) = (t, is, λ told. absurd (not_Some _ told))
    tells (AskCommand.ReadEvaluation n) = does_found _ (get t.evaluations n) _ (λ e there. (t, is, λ told. absurd (not_Some _ told)))
    tells (AskCommand.ListAllocations prefix) = (t, is, λ told. absurd (not_Some _ told))
    tells (AskCommand.ReadAllocation n) = does_found _ (get t.allocations n) _ (λ a there. (t, is, λ told. absurd (not_Some _ told)))
    tells (AskCommand.StopAllocation n) = does_found _ (get t.allocations n) _ (λ a there. does_unless _ (not (is_live a)) Refusal.Conflict _ (λ _.
        let t' : Tenant = with_desired n DesiredStatus.Stop t in
        let x : Evaluation = evaluation_for t a Trigger.AllocStop in
        (with_evaluation x t', made_there s.world ns x t', λ told. dated (make_in ns x s.world t') t' x (still_numbered n) told)))
    tells AskCommand.ReadNamespace = (t, is, λ told. absurd (not_Some _ told))
    tells (AskCommand.QuotaUsage quota) = does_if _ (names_quota quota t.namespace) _ _ (λ _. (t, is, λ told. absurd (not_Some _ told))) (λ _. tt)
    tells (AskCommand.Events index) = (t, is, λ told. absurd (not_Some _ told))

pub index_in_reply_is_new : law.IndexInReplyIsNew
index_in_reply_is_new ns secret command s s' reply number index steady e told =
    let h = asked_does s ns secret command (Told s ns secret number index steady) (λ t is. tells s ns secret number index steady t is command) s' reply e in
    record { before = h.before; now = h.now; was_there = h.was_there; is_there = h.is_there; holds = h.holds told }
