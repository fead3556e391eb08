-- A step of a worker stays inside its namespace, and an Apply leaves other workers as they were.
use Rattle.std.specs.Prelude.{◌≡◌, ◌≢◌, ◌⊎◌, ℕ, Bool, true, false, Option, Some, None, is_some, option_map}
use Rattle.std.proofs.Common.{refl, sym, ap, subst, ◌∙◌, inl, inr}
use Rattle.std.specs.FinMap.{get}
use Rattle.std.specs.Option.{option_map_or, option_and_then}
use Rattle.ns_types.specs.declared.reply.Reply.{Reply}
use Rattle.ns_types.specs.declared.step.Step.{Step}
use Rattle.ns_types.specs.Placing.Plan.{plan}
use Rattle.ns_types.specs.Settling.Making.{change_tenant, put_tenant}
use Rattle.ns_types.specs.Settling.Settle.{settle}
use Rattle.ns_types.specs.State.Names.{Name, ByNumber, same_name}
use Rattle.ns_types.specs.State.Rows.{State, World, Tenant}
use Rattle.ns_types.specs.Validity.{IsSound, IsValid}
use Rattle.ns_types.specs.Working.Commit.{Applied, applied_worker, commit}
use Rattle.ns_types.specs.Working.Looks.{worker_at}
use Rattle.ns_types.specs.Working.Work.{with_worker}
use Rattle.ns_types.specs.Working.Worker.{Worker}
use Rattle.ns_types.proofs.Named.{names, numbers, one_name, one_number, same_name_is, same_name_refl}
use Rattle.ns_types.proofs.Lists.{not_both}
use Rattle.ns_types.proofs.TableRows.{apart, get_other, get_put}
use Rattle.ns_types.proofs.Tests.{not_Some, same_Some}
use Rattle.ns_audit.proofs.Alone.Fixed.{fixed_commit}
use Rattle.ns_laws.specs.Effects.{IsMade}
use Rattle.ns_laws.specs.Turns.{IsIdle}
use Rattle.ns_laws.specs.Workers as law
use Rattle.ns_laws.specs.Workers.{StaysIn, works_in}
use Rattle.ns_laws.proofs.Effect.Rows.{settled_part}
use Rattle.ns_laws.proofs.Plans.ApplyStep.{after_apply, marked}
use Rattle.ns_laws.proofs.Work.Finish.{finished_is_ended}
use Rattle.ns_laws.proofs.Work.Nack.{nacked_is_given_back}
use Rattle.ns_laws.proofs.Work.Steps.{dequeued_is_taken, snapshot_is_true, submitted_waits_last}

-- ---- inside a namespace

abbrev Inside : Name → State → State → Type 0
Inside ns s s' = (before : Tenant) × (now : Tenant) × StaysIn ns s s' before now

stays_there : (step : Step) (s s' : State) (reply : Reply) → IsValid s → IsMade step s reply s' → (ns : Name) → works_in step ≡ Some ns → Inside ns s s'
stays_there (Step.Ask k secret command) s s' reply valid made ns is = absurd (not_Some ns is)
stays_there (Step.Admin secret command) s s' reply valid made ns is = absurd (not_Some ns is)
stays_there (Step.Node pool secret command) s s' reply valid made ns is = absurd (not_Some ns is)
stays_there (Step.Dequeue number k n) s s' reply valid made ns is =
    let d = dequeued_is_taken number k n s s' reply made in subst (λ k. Inside k s s') (same_Some k ns is) (d.before, d.now, d.stays)
stays_there (Step.Snap number k) s s' reply valid made ns is =
    let d = snapshot_is_true number k s s' reply valid made in subst (λ k. Inside k s s') (same_Some k ns is) (d.before, d.now, d.stays)
stays_there (Step.Submit number k) s s' reply valid made ns is =
    let d = submitted_waits_last number k s s' reply made in subst (λ k. Inside k s s') (same_Some k ns is) (d.before, d.now, d.stays)
stays_there (Step.Apply number k) s s' reply valid made ns is = absurd (not_Some ns is)
stays_there (Step.Finish number k) s s' reply valid made ns is =
    let d = finished_is_ended number k s s' reply valid made in subst (λ k. Inside k s s') (same_Some k ns is) (d.before, d.now, d.stays)
stays_there (Step.Nack number k) s s' reply valid made ns is =
    let d = nacked_is_given_back number k s s' reply made in subst (λ k. Inside k s s') (same_Some k ns is) (d.before, d.now, d.stays)

pub work_stays_inside : law.WorkStaysInside
work_stays_inside step ns s s' reply valid is made = stays_there step s s' reply valid made ns is

-- ---- idle workers

module _ (s s' : State) (ns : Name) (before now : Tenant) (number : ℕ) (worker : Worker) (sound : IsSound s.world) (stays : StaysIn ns s s' before now)
    (had : get before.workers number ≡ Some worker) (has_none : get now.workers number ≡ None) where
  none_before : (other : Name) → other ≢ ns → worker_at s.world number other ≡ None
  none_before other differs = by (get s.world.tenants other) refl
    where
      row : (t : Tenant) → get s.world.tenants other ≡ Some t → (o : Option Worker) → get t.workers number ≡ o → o ≡ None
      row t is None at = refl
      row t is (Some v) at = absurd (differs (sound.one_row other ns t before number is stays.was_there (ap is_some at) (ap is_some had)))

      by : (o : Option Tenant) → get s.world.tenants other ≡ o → option_and_then (λ (t : Tenant). get t.workers number) o ≡ None
      by None is = refl
      by (Some t) is = row t is (get t.workers number) refl

  idle_now : IsIdle s'.world number
  idle_now other = by (same_name other ns) refl
    where
      by : (b : Bool) → same_name other ns ≡ b → worker_at s'.world number other ≡ None
      by true e = ap (worker_at s'.world number) (same_name_is other ns e)
          ∙ ap (option_and_then (λ (t : Tenant). get t.workers number)) stays.is_there ∙ has_none
      by false e =
          let differs : other ≢ ns = λ same. not_both (ap (λ name. same_name name ns) same ∙ same_name_refl ns) e in
          ap (option_and_then (λ (t : Tenant). get t.workers number)) (stays.others other differs) ∙ none_before other differs

pub ended_is_idle : law.EndedIsIdle
ended_is_idle step number ns s s' reply valid which made = by which
  where
    by : (step ≡ Step.Finish number ns) ⊎ (step ≡ Step.Nack number ns) → IsIdle s'.world number
    by (inl is) =
        let d = finished_is_ended number ns s s' reply valid (subst (λ step. IsMade step s reply s') is made) in
        idle_now s s' ns d.before d.now number d.worker valid.world d.stays d.was_worker d.gives_up.idle
    by (inr is) =
        let d = nacked_is_given_back number ns s s' reply (subst (λ step. IsMade step s reply s') is made) in
        idle_now s s' ns d.before d.now number d.worker valid.world d.stays d.was_worker d.gives_up.idle

-- ---- Apply

abbrev workers_in : World → Name → Option (ByNumber Worker)
workers_in w ns = option_map (λ t. t.workers) (get w.tenants ns)

of_workers : (w : World) (m : ℕ) (ns : Name) → worker_at w m ns ≡ option_and_then (λ workers. get workers m) (workers_in w ns)
of_workers w m ns = by (get w.tenants ns)
  where
    by : (o : Option Tenant) → option_and_then (λ (t : Tenant). get t.workers m) o
        ≡ option_and_then (λ workers. get workers m) (option_map (λ (t : Tenant). t.workers) o)
    by None = refl
    by (Some t) = refl

same_workers_in : (w x : World) (m : ℕ) (ns : Name) → workers_in x ns ≡ workers_in w ns → worker_at x m ns ≡ worker_at w m ns
same_workers_in w x m ns same = of_workers x m ns ∙ ap (option_and_then (λ workers. get workers m)) same ∙ sym (of_workers w m ns)

-- the row of one worker in one namespace is written
one_written : (w : World) (ns : Name) (number : ℕ) (row : Worker) (other : Name) (m : ℕ) → (other ≡ ns → m ≢ number) →
    worker_at (change_tenant ns (with_worker number row) w) m other ≡ worker_at w m other
one_written w ns number row other m apart_from = by (get w.tenants ns) refl
  where
    at : (t : Tenant) → get w.tenants ns ≡ Some t → (b : Bool) → same_name other ns ≡ b →
        worker_at (put_tenant ns (with_worker number row t) w) m other ≡ worker_at w m other
    at t is true e =
        let k : other ≡ ns = same_name_is other ns e in
        ap (worker_at (put_tenant ns (with_worker number row t) w) m) k
        ∙ ap (option_and_then (λ (t : Tenant). get t.workers m)) (get_put names one_name w.tenants ns (with_worker number row t))
        ∙ get_other numbers one_number t.workers number row m (apart m number (apart_from k))
        ∙ sym (ap (worker_at w m) k ∙ ap (option_and_then (λ (t : Tenant). get t.workers m)) is)
    at t is false e = ap (option_and_then (λ (t : Tenant). get t.workers m)) (get_other names one_name w.tenants ns (with_worker number row t) other e)

    by : (o : Option Tenant) → get w.tenants ns ≡ o →
        worker_at (option_map_or (λ t. put_tenant ns (with_worker number row t) w) o w) m other ≡ worker_at w m other
    by None is = refl
    by (Some t) is = at t is (same_name other ns) refl

pub apply_keeps_other_workers : law.ApplyKeepsOtherWorkers
apply_keeps_other_workers number ns s s' reply made other m apart_from = after_apply number ns s s' reply
    (λ _ y. worker_at y.world m other ≡ worker_at s.world m other) made (λ u worker e kept is has keeps.
    let a : Applied = commit kept (plan kept) s.world u in
    let x : World = marked number ns worker e a in
    same_workers_in x (settle s.world x) m other (settled_part s.world x other (λ t. t.workers) (λ i o t. refl) (λ keys t. refl))
    ∙ one_written a.world ns number (applied_worker a worker e) other m apart_from
    ∙ same_workers_in s.world a.world m other (fixed_commit (λ t. t.workers) (λ t n e. refl) (λ t n a. refl) kept (plan kept) s.world u other))
