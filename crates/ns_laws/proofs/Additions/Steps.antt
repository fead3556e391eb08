-- Which evaluations each step adds.
use Rattle.std.specs.Prelude.{◌≡◌, ◌⊎◌, ℕ, ◌+◌, Bool, true, false, cond, not, T, ◌&&◌, List, []}
use Rattle.std.specs.Prelude.{◌∷◌, ◌++◌, Option, Some, None, fold, map, nat_le, nat_lt, option_map}
use Rattle.std.proofs.Common.{inl, inr, refl, sym, ap, subst, ◌∙◌}
use Rattle.std.specs.FinMap.{get, insert, entries, get-empty}
use Rattle.std.specs.Option.{option_map_or, option_and_then}
use Rattle.std.specs.Ordering.{nat_cmp}
use Rattle.ns_types.specs.declared.allocation.Allocation.{Allocation}
use Rattle.ns_types.specs.declared.allocation.ClientStatus.{ClientStatus}
use Rattle.ns_types.specs.declared.allocation.ClientStatus.TheVariants as ClientStatuses
use Rattle.ns_types.specs.declared.allocation.DesiredStatus.TheVariants as DesiredStatus
use Rattle.ns_types.specs.declared.evaluation.Evaluation.{Evaluation}
use Rattle.ns_types.specs.declared.evaluation.Status.{Status}
use Rattle.ns_types.specs.declared.evaluation.Status.TheVariants as Statuses
use Rattle.ns_types.specs.declared.evaluation.Trigger.{Trigger}
use Rattle.ns_types.specs.declared.job.Job.{Job}
use Rattle.ns_types.specs.declared.node.NodeStatus.TheVariants as NodeStatus
use Rattle.ns_types.specs.declared.refusal.Refusal.{Refusal}
use Rattle.ns_types.specs.declared.reply.Content.TheVariants as Content
use Rattle.ns_types.specs.declared.snapshot.Snapshot.{Snapshot}
use Rattle.ns_types.specs.declared.step.AskCommand.{AskCommand}
use Rattle.ns_types.specs.declared.step.NodeCommand.{NodeCommand}
use Rattle.ns_types.specs.declared.step.Report.{Report}
use Rattle.ns_types.specs.declared.step.Step.{Step}
use Rattle.ns_types.specs.declared.worker.Phase.TheVariants as Phase
use Rattle.ns_types.specs.Asking.Asks.{ask, asked_in, deregistered, document_of, first_refusal, registered_job}
use Rattle.ns_types.specs.Asking.Nodes.{ask_pool, asked_in_pool, calls_for_one, go_down, is_on, lose, losing_jobs}
use Rattle.ns_types.specs.Asking.Nodes.{losses, lost, may_become, report, report_of, reported, same_client}
use Rattle.ns_types.specs.Settling.Making.{change_tenant, evaluation_for, evaluation_of, make, make_in, put_pool}
use Rattle.ns_types.specs.Settling.Making.{put_tenant, with_client, with_desired, with_evaluation, with_job, with_node, with_status}
use Rattle.ns_types.specs.Settling.Outcome.{NotEnabled, Done, unless}
use Rattle.ns_types.specs.Settling.Releases.{missed}
use Rattle.ns_types.specs.State.Lists.{Each}
use Rattle.ns_types.specs.State.Names.{Name}
use Rattle.ns_types.specs.State.Rows.{World, Tenant, PoolRows, allocation_at, is_held, is_live, is_run}
use Rattle.ns_types.specs.State.Sums.{names_quota}
use Rattle.ns_types.specs.State.Tables.{map_rows}
use Rattle.ns_types.specs.Working.Queue.{is_served, promote}
use Rattle.ns_types.specs.Working.Snapshot.{snapshot_of}
use Rattle.ns_types.specs.Working.Work.{with_worker, without_worker, workers_end, is_idle, new_worker, taken, dequeue_in, dequeue, may_snap}
use Rattle.ns_types.specs.Working.Work.{with_snapshot, snap_for, snap, may_submit, submitted, submit_for, submit, is_submitted, most_nacks, with_nack}
use Rattle.ns_types.specs.Working.Work.{given_up, given_back, nack_for, nack, end_of, may_finish, needs_follower, follower_of, blocked_of, cancel_blocked}
use Rattle.ns_types.specs.Working.Work.{without_blocked, ended, tied_to, with_follower, followed, finished, finish_for, finish}
use Rattle.ns_types.specs.Working.Worker.{Worker}
use Rattle.ns_types.proofs.Elements.{each_flat, each_mapped, each_of}
use Rattle.ns_types.proofs.Leads.{Leads, leads_unless, leads_refused, leads_found, leads_there, leads_if, leads_at_work, leads_keeping}
use Rattle.ns_types.proofs.Named.{first_of_both, names, numbers, one_name, one_number}
use Rattle.ns_types.proofs.TableRows.{get_put, row_of_insert}
use Rattle.ns_types.proofs.Tables.{each_row}
use Rattle.ns_types.proofs.Tests.{is_yes, not_Some, same_Some}
use Rattle.ns_audit.proofs.Carries.{carries_each, carries_make}
use Rattle.ns_audit.proofs.Steady.Nodes.{held_before}
use Rattle.ns_audit.proofs.ValidAllocations.Going.{Onward, onward_change, onward_map}
use Rattle.ns_audit.proofs.ValidAllocations.Sound.{allocation_row}
use Rattle.ns_audit.proofs.ValidAllocations.Work.{unlisted_tenants}
use Rattle.ns_audit.proofs.ValidWorkers.Quiet.{Quiet, quiet_carries}
use Rattle.ns_laws.specs.Ending.{AddedFor, HasLost, for_loss, deregisters, follows, is_for_loss, registers}
use Rattle.ns_laws.proofs.Additions.Lists.{Distinct, Made, losses_distinct, made_each, made_first}
use Rattle.ns_laws.proofs.Effect.Evaluations.{made_for}
use Rattle.ns_laws.proofs.Endings.Rows.{Same, made_in_tenants, same_make}
use Rattle.ns_laws.proofs.Endings.Steps.{losses_same, lost_at}
use Rattle.ns_laws.proofs.Index.StepRows.{Left, Leaves, added, stayed}
use Rattle.ns_laws.proofs.OrderedLemmas.{losers_are_first}
use Rattle.ns_laws.proofs.QueueLemmas.{promote_tenants}
use Rattle.ns_laws.specs.Nodes.{IsFirstOfJob}

-- ---- what is added in a namespace

abbrev pub SameRows : Tenant → Tenant → Type 0
SameRows t u = u.evaluations ≡ t.evaluations

pub rows_still : (t : Tenant) → SameRows t t
rows_still t = refl

module _ (w : World) (step : Step) where
  pub record AddsIn (x : World) (ns : Name) (t u : Tenant) : Type 0 where
    pub why : (n : ℕ) (e : Evaluation) → get t.evaluations n ≡ None → get u.evaluations n ≡ Some e → AddedFor w x step ns e
    pub once : (m n : ℕ) (d e : Evaluation) → get t.evaluations m ≡ None → get t.evaluations n ≡ None → get u.evaluations m ≡ Some d →
        get u.evaluations n ≡ Some e → d.job ≡ e.job → m ≡ n

  -- a namespace that is there was there before, or has no evaluations
  pub data AddsAt (x : World) (ns : Name) (u : Tenant) : Type 0 where
    adds : (t : Tenant) → get w.tenants ns ≡ Some t → AddsIn x ns t u → AddsAt x ns u
    empty : ((n : ℕ) (e : Evaluation) → get u.evaluations n ≡ Some e → ⊥) → AddsAt x ns u

  abbrev pub Adds : World → Type 0
  Adds x = (ns : Name) (u : Tenant) → get x.tenants ns ≡ Some u → AddsAt x ns u

  -- each evaluation was there
  abbrev Back : Tenant → Tenant → Type 0
  Back t u = (n : ℕ) (e : Evaluation) → get u.evaluations n ≡ Some e → (a : Evaluation) × (get t.evaluations n ≡ Some a)

  none_added : (x : World) (ns : Name) (t u : Tenant) → Back t u → AddsIn x ns t u
  none_added x ns t u back = record {
    why = λ n e none at. absurd (not_new n e none at);
    once = λ m n d e none _ at _ _. absurd (not_new m d none at);
  }
    where
      not_new : (n : ℕ) (e : Evaluation) → get t.evaluations n ≡ None → get u.evaluations n ≡ Some e → ⊥
      not_new n e none at = let a = back n e at in not_Some a.0 (sym none ∙ a.1)

  back_same : (t u : Tenant) → u.evaluations ≡ t.evaluations → Back t u
  back_same t u same n e at = (e, ap (λ m. get m n) (sym same) ∙ at)

  back_then : (t u v : Tenant) → Back t u → Back u v → Back t v
  back_then t u v f g n e at = let b = g n e at in f n b.0 b.1

  back_row : (t : Tenant) (k : ℕ) (old new : Evaluation) → get t.evaluations k ≡ Some old → Back t (record t { evaluations = insert t.evaluations k new })
  back_row t k old new k_at n e at = by (row_of_insert numbers one_number t.evaluations k new n e at)
    where
      by : ((n ≡ k) × (new ≡ e)) ⊎ (get t.evaluations n ≡ Some e) → (a : Evaluation) × (get t.evaluations n ≡ Some a)
      by (inl is) = (old, ap (get t.evaluations) is.0 ∙ k_at)
      by (inr was) = (e, was)

  back_status : (n : ℕ) (status : Status) (t : Tenant) → Back t (with_status n status t)
  back_status n status t = by (get t.evaluations n) refl
    where
      by : (o : Option Evaluation) → get t.evaluations n ≡ o →
          Back t (option_map_or (λ e. record t { evaluations = insert t.evaluations n (record e { status = status }) }) o t)
      by None is = back_same t t refl
      by (Some e) is = back_row t n e (record e { status = status }) is

  back_cancel : (job : Name) (t : Tenant) → Back t (cancel_blocked job t)
  back_cancel job t = by (blocked_of t job)
    where
      by : (o : Option ℕ) → Back t (option_map_or (λ n. with_status n Statuses.Canceled t) o t)
      by None = back_same t t refl
      by (Some n) = back_status n Statuses.Canceled t

  back_ended : (number : ℕ) (worker : Worker) (e : Evaluation) (status : Status) (t : Tenant) → Back t (ended number worker e status t)
  back_ended number worker e status t =
      let u : Tenant = without_worker number t in
      let v : Tenant = with_status worker.evaluation status (without_worker number t) in
      back_then t v (cancel_blocked e.job v) (back_then t u v (back_same t u refl) (back_status worker.evaluation status u)) (back_cancel e.job v)

  back_tied : (n follower : ℕ) (t : Tenant) → Back t (tied_to n follower t)
  back_tied n follower t = by (get t.evaluations n) refl
    where
      by : (o : Option Evaluation) → get t.evaluations n ≡ o →
          Back t (option_map_or (λ e. record t { evaluations = insert t.evaluations n (record e { follower = Some follower }) }) o t)
      by None is = back_same t t refl
      by (Some e) is = back_row t n e (record e { follower = Some follower }) is

  -- one evaluation is new
  one_added : (x : World) (ns : Name) (t v u : Tenant) (k : ℕ) (f : Evaluation) → Back t v → u.evaluations ≡ insert v.evaluations k f → AddedFor w x step ns f →
      AddsIn x ns t u
  one_added x ns t v u k f back put why = record {
    why = λ n e none at. subst (AddedFor w x step ns) (new n e none at).1 why;
    once = λ m n d e none none_ at at_ _. (new m d none at).0 ∙ sym (new n e none_ at_).0;
  }
    where
      which : (n : ℕ) (e : Evaluation) → get t.evaluations n ≡ None → ((n ≡ k) × (f ≡ e)) ⊎ (get v.evaluations n ≡ Some e) → (n ≡ k) × (f ≡ e)
      which n e none (inl is) = is
      which n e none (inr old) = let a = back n e old in absurd (not_Some a.0 (sym none ∙ a.1))

      new : (n : ℕ) (e : Evaluation) → get t.evaluations n ≡ None → get u.evaluations n ≡ Some e → (n ≡ k) × (f ≡ e)
      new n e none at = which n e none (row_of_insert numbers one_number v.evaluations k f n e (ap (λ m. get m n) (sym put) ∙ at))

  -- ---- all namespaces

  pub adds_same : (x : World) → x.tenants ≡ w.tenants → Adds x
  adds_same x same ns u at = adds u (ap (λ m. get m ns) (sym same) ∙ at) (none_added x ns u u (back_same u u refl))

  adds_put : (x : World) (ns : Name) (t u : Tenant) → get w.tenants ns ≡ Some t → x.tenants ≡ insert w.tenants ns u → AddsIn x ns t u → Adds x
  adds_put x ns t u is put a k v at = by (row_of_insert names one_name w.tenants ns u k v (ap (λ m. get m k) (sym put) ∙ at))
    where
      by : ((k ≡ ns) × (u ≡ v)) ⊎ (get w.tenants k ≡ Some v) → AddsAt x k v
      by (inl e) = subst (AddsAt x k) e.1 (subst (λ k. AddsAt x k u) (sym e.0) (adds t is a))
      by (inr old) = adds v old (none_added x k v v (back_same v v refl))

  adds_make_in : (ns : Name) (t t' : Tenant) (e : Evaluation) → get w.tenants ns ≡ Some t → t'.evaluations ≡ t.evaluations →
      AddedFor w (make_in ns e w t') step ns e → Adds (make_in ns e w t')
  adds_make_in ns t t' e is same why = adds_put (make_in ns e w t') ns t (with_evaluation e t') is (made_in_tenants w ns e t')
      (one_added (make_in ns e w t') ns t t' (with_evaluation e t') (t'.evaluation_number + 1) e (back_same t t' same) refl why)

  -- the namespaces of y are those of w with the same evaluations, and evaluations are made there one after the other
  module _ {A : Type 0} (space job : A → Name) (reason : A → Tenant → Evaluation) (of_job : (a : A) (u : Tenant) → (reason a u).job ≡ job a) where
    pub adds_made : (y : World) (as_ : List A) (x : World) → fold (λ x a. make (space a) (reason a) x) y as_ ≡ x →
        Onward SameRows w y → Distinct space job as_ →
        ((ns : Name) → Each (λ a. space a ≡ ns → (u : Tenant) → AddedFor w x step ns (reason a u)) as_) → Adds x
    adds_made y as_ x is onward distinct fits ns u at = by (quiet.came ns u there).0 (quiet.came ns u there).1
      where
        last : World
        last = fold (λ x a. make (space a) (reason a) x) y as_

        quiet : Quiet y last
        quiet = carries_each quiet_carries (λ x a. make (space a) (reason a) x) (λ x a. carries_make quiet_carries (space a) (reason a) x) as_ y

        there : get last.tenants ns ≡ Some u
        there = ap (λ (x : World). get x.tenants ns) is ∙ at

        made : (t v : Tenant) → get y.tenants ns ≡ Some v → v.evaluations ≡ t.evaluations → Made space job reason of_job ns t (AddedFor w x step ns) last []
        made t v v_is same = made_each space job reason of_job ns t (AddedFor w x step ns) as_ y distinct (fits ns)
            (made_first space job reason of_job ns t (AddedFor w x step ns) y v v_is same as_)

        with_rows : (t : Tenant) → Made space job reason of_job ns t (AddedFor w x step ns) last [] → AddsIn x ns t u
        with_rows t m = subst (AddsIn x ns t) (same_Some m.rows u (sym m.is_there ∙ there)) (record { why = m.fits; once = m.once })

        by : (v : Tenant) → get y.tenants ns ≡ Some v → AddsAt x ns u
        by v v_is = let t = onward ns v v_is in adds t.0 t.1 (with_rows t.0 (made t.0 v v_is t.2))

-- an evaluation for a job that loses an allocation
pub for_lost : (w x : World) (step : Step) (ns : Name) (u : Tenant) (a : Allocation) (trigger : Trigger) → is_for_loss trigger ≡ true →
    HasLost w x ns a.job → AddedFor w x step ns (evaluation_for u a trigger)
for_lost w x step ns u a trigger is lost =
    let f = made_for u a trigger in for_loss (ap is_for_loss f.why ∙ is) (subst (HasLost w x ns) (sym f.of_job) lost)

-- ---- requests in a namespace

row_there : (w : World) (ns : Name) (u : Tenant) (n : ℕ) → allocation_at (put_tenant ns u w) (ns, n) ≡ get u.allocations n
row_there w ns u n = ap (option_and_then (λ (t : Tenant). get t.allocations n)) (get_put names one_name w.tenants ns u)

make_in_row : (w : World) (ns : Name) (e : Evaluation) (t : Tenant) (n : ℕ) → allocation_at (make_in ns e w t) (ns, n) ≡ get t.allocations n
make_in_row w ns e t n = ap (λ m. option_and_then (λ (t : Tenant). get t.allocations n) (get m ns)) (made_in_tenants w ns e t)
    ∙ row_there w ns (with_evaluation e t) n

module _ (w : World) (ns : Name) (secret : Option Name) (t : Tenant) (is : get w.tenants ns ≡ Some t) where
  still : (command : AskCommand) → Adds w (Step.Ask ns secret command) w
  still command = adds_same w (Step.Ask ns secret command) w refl

  desired_leaves : (n : ℕ) → (with_desired n DesiredStatus.Stop t).evaluations ≡ t.evaluations
  desired_leaves n = by (get t.allocations n)
    where
      by : (o : Option Allocation) →
          (option_map_or (λ a. record t { allocations = insert t.allocations n (record a { desired = DesiredStatus.Stop }) }) o t).evaluations ≡ t.evaluations
      by None = refl
      by (Some a) = refl

  deregistered_leaves : (purge : Bool) (id : Name) (job : Job) → (deregistered purge id job t).evaluations ≡ t.evaluations
  deregistered_leaves true id job = refl
  deregistered_leaves false id job = refl

  stop_loses : (n : ℕ) (a : Allocation) → get t.allocations n ≡ Some a → is_live a ≡ true → (e : Evaluation) →
      HasLost w (make_in ns e w (with_desired n DesiredStatus.Stop t)) ns a.job
  stop_loses n a at live e = record {
    number = n;
    before = a;
    was_live = (ap (option_and_then (λ (t : Tenant). get t.allocations n)) is ∙ at, live);
    of_job = refl;
    later = record a { desired = DesiredStatus.Stop };
    is_there = make_in_row w ns e (with_desired n DesiredStatus.Stop t) n
        ∙ ap (λ o. get (option_map_or (λ a. record t {
          allocations = insert t.allocations n (record a { desired = DesiredStatus.Stop });
        }) o t).allocations n) at
        ∙ get_put numbers one_number t.allocations n (record a { desired = DesiredStatus.Stop });
    has_ended = refl;
  }

  asked_adds : (command : AskCommand) → Leads (Adds w (Step.Ask ns secret command)) (asked_in ns command w t)
  asked_adds (AskCommand.ListJobs prefix) = still _
  asked_adds (AskCommand.Register r) = leads_refused (Adds w (Step.Ask ns secret (AskCommand.Register r))) (first_refusal w t r) _ (λ _.
      by (registered_job (t.index + 1) (document_of t r) (get t.jobs r.id)))
    where
      by : (job : Job) → Adds w (Step.Ask ns secret (AskCommand.Register r))
          (make_in ns (evaluation_of r.id job.document Trigger.JobRegister) w (with_job r.id job t))
      by job = adds_make_in w (Step.Ask ns secret (AskCommand.Register r)) ns t (with_job r.id job t)
          (evaluation_of r.id job.document Trigger.JobRegister) is refl
          (registers secret r refl refl refl)
  asked_adds (AskCommand.ReadJob id) = leads_found (Adds w (Step.Ask ns secret (AskCommand.ReadJob id))) (get t.jobs id) _ (λ job _. still _)
  asked_adds (AskCommand.Deregister id purge) = leads_found (Adds w (Step.Ask ns secret (AskCommand.Deregister id purge))) (get t.jobs id) _ (λ job at.
      adds_make_in w (Step.Ask ns secret (AskCommand.Deregister id purge)) ns t (deregistered purge id job t)
      (evaluation_of id job.document Trigger.JobDeregister) is (deregistered_leaves purge id job) (deregisters secret id purge refl refl refl))
  asked_adds (AskCommand.JobAllocations id) = still _
  asked_adds (AskCommand.JobEvaluations id) = still _
  asked_adds (AskCommand.ListEvaluations prefix) = still _
  asked_adds (AskCommand.ReadEvaluation n) = leads_found (Adds w (Step.Ask ns secret (AskCommand.ReadEvaluation n))) (get t.evaluations n) _ (λ e _. still _)
  asked_adds (AskCommand.ListAllocations prefix) = still _
  asked_adds (AskCommand.ReadAllocation n) = leads_found (Adds w (Step.Ask ns secret (AskCommand.ReadAllocation n))) (get t.allocations n) _ (λ a _. still _)
  asked_adds (AskCommand.StopAllocation n) = leads_found (Adds w (Step.Ask ns secret (AskCommand.StopAllocation n))) (get t.allocations n) _ (λ a at.
      leads_unless (Adds w (Step.Ask ns secret (AskCommand.StopAllocation n))) (not (is_live a)) Refusal.Conflict _ (λ live.
      let e : Evaluation = evaluation_for t a Trigger.AllocStop in
      adds_make_in w (Step.Ask ns secret (AskCommand.StopAllocation n)) ns t (with_desired n DesiredStatus.Stop t) e is (desired_leaves n)
      (for_lost w (make_in ns e w (with_desired n DesiredStatus.Stop t)) (Step.Ask ns secret (AskCommand.StopAllocation n)) ns t a Trigger.AllocStop refl
      (stop_loses n a at (is_yes _ live) e))))
  asked_adds AskCommand.ReadNamespace = still _
  asked_adds (AskCommand.QuotaUsage quota) = leads_if (Adds w (Step.Ask ns secret (AskCommand.QuotaUsage quota))) (names_quota quota t.namespace) _ _
      (λ _. still (AskCommand.QuotaUsage quota)) (λ _. tt)
  asked_adds (AskCommand.Events index) = still _

pub ask_adds : (w : World) (ns : Name) (secret : Option Name) (command : AskCommand) → Leads (Adds w (Step.Ask ns secret command)) (ask ns command w)
unfolding ask
ask_adds w ns secret command = leads_found (Adds w (Step.Ask ns secret command)) (get w.tenants ns) (asked_in ns command w)
    (λ t is. asked_adds w ns secret t is command)

-- ---- a node goes down

none_and : (b : Bool) → (b && false) ≡ false
none_and true = refl
none_and false = refl

module _ (w : World) (pool : Name) (secret : Option Name) (node : Name) (w' : World) (same : w'.tenants ≡ w.tenants) where
  abbrev downs : Step
  downs = Step.Node pool secret (NodeCommand.SetStatus node NodeStatus.Down)

  abbrev ls : List (Name × Allocation)
  ls = losses pool node w'

  abbrev fallen : World
  fallen = lose pool node w'

  abbrev down : World
  down = fold (λ x loss. make loss.0 (λ t. evaluation_for t loss.1 Trigger.NodeUpdate) x) fallen ls

  first_loses : (k : Name) (t : Tenant) → get w'.tenants k ≡ Some t → (a : Allocation) → IsFirstOfJob pool node t a → HasLost w down k a.job
  first_loses k t is a f = record {
    number = f.number;
    before = a;
    was_live = (ap (λ m. option_and_then (λ (t : Tenant). get t.allocations f.number) (get m k)) (sym same) ∙ there, first_of_both (is_live a) _ f.lives);
    of_job = refl;
    later = record a { client = ClientStatuses.Lost };
    is_there = losses_same ls fallen (k, f.number) ∙ lost_at pool node w' (k, f.number) ∙ ap (option_map (lost pool node)) there
        ∙ ap (λ b. Some (cond b (record a { client = ClientStatuses.Lost }) a)) f.lives;
    has_ended = none_and (is_run a.desired);
  }
    where
      there : allocation_at w' (k, f.number) ≡ Some a
      there = ap (option_and_then (λ (t : Tenant). get t.allocations f.number)) is ∙ f.there

  abbrev Fit : Name → Name × Allocation → Type 0
  Fit ns l = l.0 ≡ ns → (u : Tenant) → AddedFor w down downs ns (evaluation_for u l.1 Trigger.NodeUpdate)

  down_fits : (ns : Name) → Each (Fit ns) (losses pool node w')
  down_fits ns = each_flat (Fit ns) (λ (t : Name × Tenant). map (λ a. (t.0, a)) (losing_jobs pool node t.1)) (entries w'.tenants)
      (each_row names one_name (λ k t. Each (Fit ns) (map (λ a. (k, a)) (losing_jobs pool node t))) w'.tenants (λ k t is.
      each_mapped (Fit ns) (λ (a : Allocation). (k, a)) (losing_jobs pool node t)
      (each_of (IsFirstOfJob pool node t) (λ a. Fit ns (k, a))
      (λ a f own u. for_lost w down downs ns u a Trigger.NodeUpdate refl (subst (λ k. HasLost w down k a.job) own (first_loses k t is a f)))
      (losing_jobs pool node t) (losers_are_first pool node t))))

  fallen_rows : Onward SameRows w (lose pool node w')
  fallen_rows ns u at =
      let t = onward_map SameRows rows_still w' (λ _ t. record t { allocations = map_rows (λ _ a. lost pool node a) t.allocations }) (λ _ t. refl) ns u at in
      (t.0, ap (λ m. get m ns) (sym same) ∙ t.1, t.2)

  down_adds : Adds w downs (go_down pool node w')
  unfolding go_down
  down_adds = adds_made w downs (λ (l : Name × Allocation). l.0) (λ (l : Name × Allocation). l.1.job) (λ l t. evaluation_for t l.1 Trigger.NodeUpdate)
      (λ l t. (made_for t l.1 Trigger.NodeUpdate).of_job) (lose pool node w') (losses pool node w') (go_down pool node w') refl fallen_rows
      (losses_distinct pool node w') down_fits

-- ---- reports

-- a report that makes an evaluation ends a live allocation
called : (t : Tenant) (a : Allocation) (client : ClientStatus) → calls_for_one t a client ≡ true → (is_run a.desired ≡ true) × (is_held client ≡ false)
called t a ClientStatuses.Failed e = (e, refl)
called t a ClientStatuses.Complete e = (first_of_both (is_run a.desired) _ e, refl)
called t a ClientStatuses.Pending e = absurd (subst T (sym e) tt)
called t a ClientStatuses.Running e = absurd (subst T (sym e) tt)
called t a ClientStatuses.Lost e = absurd (subst T (sym e) tt)

module _ (w : World) (pool : Name) (secret : Option Name) (name : Name) (r : Report) (t : Tenant) (a : Allocation) (is : get w.tenants r.namespace ≡ Some t)
    (at : get t.allocations r.number ≡ Some a) (becomes : may_become a.client r.client ≡ true) where
  abbrev reports : Step
  reports = Step.Node pool secret (NodeCommand.Report name r)

  abbrev changed : World
  changed = change_tenant r.namespace (with_client r.number r.client) w

  abbrev new_row : Allocation
  new_row = record a { client = r.client }

  client_leaves : (u : Tenant) → (with_client r.number r.client u).evaluations ≡ u.evaluations
  client_leaves u = by (get u.allocations r.number)
    where
      by : (o : Option Allocation) →
          (option_map_or (λ a. record u { allocations = insert u.allocations r.number (record a { client = r.client }) }) o u).evaluations ≡ u.evaluations
      by None = refl
      by (Some a) = refl

  changed_rows : Onward SameRows w changed
  changed_rows = onward_change SameRows rows_still w r.namespace (with_client r.number r.client) (λ u _. client_leaves u)

  changed_row : allocation_at changed (r.namespace, r.number) ≡ Some new_row
  changed_row = ap (λ o. allocation_at (option_map_or (λ t. put_tenant r.namespace (with_client r.number r.client t) w) o w) (r.namespace, r.number)) is
      ∙ row_there w r.namespace (with_client r.number r.client t) r.number
      ∙ ap (λ o. get (option_map_or (λ a. record t {
        allocations = insert t.allocations r.number (record a { client = r.client });
      }) o t).allocations r.number) at
      ∙ get_put numbers one_number t.allocations r.number new_row

  report_loses : (x : World) → Same changed x → calls_for_one t a r.client ≡ true → HasLost w x r.namespace a.job
  report_loses x h calls = let c = called t a r.client calls in record {
    number = r.number;
    before = a;
    was_live = (
      ap (option_and_then (λ (t : Tenant). get t.allocations r.number)) is ∙ at,
      (λ i. c.0 i && held_before a.client r.client becomes i),
    );
    of_job = refl;
    later = new_row;
    is_there = h (r.namespace, r.number) ∙ changed_row;
    has_ended = ap (λ b. is_run a.desired && b) c.1 ∙ none_and (is_run a.desired);
  }

  reported_adds : Adds w reports (reported r a w)
  reported_adds = by (option_map_or (λ t. calls_for_one t a r.client) (get w.tenants r.namespace) false) refl
    where
      x : World
      x = make r.namespace (λ t. evaluation_for t a Trigger.AllocFailure) changed

      calls : option_map_or (λ t. calls_for_one t a r.client) (get w.tenants r.namespace) false ≡ true → calls_for_one t a r.client ≡ true
      calls e = ap (λ o. option_map_or (λ t. calls_for_one t a r.client) o false) (sym is) ∙ e

      by : (b : Bool) → option_map_or (λ t. calls_for_one t a r.client) (get w.tenants r.namespace) false ≡ b → Adds w reports (cond b x changed)
      by true e = adds_made w reports (λ (l : Name × Allocation). l.0) (λ (l : Name × Allocation). l.1.job) (λ l t. evaluation_for t l.1 Trigger.AllocFailure)
          (λ l t. (made_for t l.1 Trigger.AllocFailure).of_job) changed ((r.namespace, a) ∷ []) x refl changed_rows (tt, tt)
          (λ ns. (
            (λ own u. for_lost w x reports ns u a Trigger.AllocFailure refl (subst (λ k. HasLost w x k a.job) own
                (report_loses x (same_make r.namespace (λ t. evaluation_for t a Trigger.AllocFailure) changed) (calls e)))),
            tt,
          ))
      by false e = λ ns u u_at. let o = changed_rows ns u u_at in
          adds o.0 o.1 (none_added w reports changed ns o.0 u (back_same w reports o.0 u o.2))

module _ (w : World) (pool : Name) (secret : Option Name) where
  node_still : (command : NodeCommand) (x : World) → x.tenants ≡ w.tenants → Adds w (Step.Node pool secret command) x
  node_still command x same = adds_same w (Step.Node pool secret command) x same

  report_adds : (name : Name) (r : Report) (p : PoolRows) → Leads (Adds w (Step.Node pool secret (NodeCommand.Report name r))) (report pool name r w p)
  report_adds name r p = leads_found P (get p.nodes name) _ (λ node _. leads_found P (allocation_at w (r.namespace, r.number))
      (λ x. unless (not (is_on pool name x)) Refusal.NotFound (report_of r w x))
      (λ a at. leads_unless P (not (is_on pool name a)) Refusal.NotFound (report_of r w a) (λ on.
      leads_if P (same_client a.client r.client) (Done Content.Written w)
      (unless (not (may_become a.client r.client)) Refusal.Conflict (Done Content.Written (reported r a w)))
      (λ _. node_still (NodeCommand.Report name r) w refl) (λ _.
      leads_unless P (not (may_become a.client r.client)) Refusal.Conflict (Done Content.Written (reported r a w)) (λ becomes.
      let row = allocation_row w (r.namespace, r.number) a at in
      reported_adds w pool secret name r row.0 a row.1 row.2 (is_yes _ becomes))))))
    where
      P : World → Type 0
      P = Adds w (Step.Node pool secret (NodeCommand.Report name r))

  asked_in_pool_adds : (command : NodeCommand) (p : PoolRows) → Leads (Adds w (Step.Node pool secret command)) (asked_in_pool pool command w p)
  asked_in_pool_adds NodeCommand.ReadPool p = node_still _ w refl
  asked_in_pool_adds NodeCommand.ListNodes p = node_still _ w refl
  asked_in_pool_adds (NodeCommand.PutNode name offer) p = leads_unless (Adds w (Step.Node pool secret (NodeCommand.PutNode name offer))) _ _ _
      (λ _. leads_unless (Adds w (Step.Node pool secret (NodeCommand.PutNode name offer))) _ _ _ (λ _. node_still (NodeCommand.PutNode name offer) _ refl))
  asked_in_pool_adds (NodeCommand.DeleteNode name) p = leads_found (Adds w (Step.Node pool secret (NodeCommand.DeleteNode name))) (get p.nodes name) _
      (λ node _. leads_unless (Adds w (Step.Node pool secret (NodeCommand.DeleteNode name))) _ _ _ (λ _. node_still (NodeCommand.DeleteNode name) _ refl))
  asked_in_pool_adds (NodeCommand.SetStatus name NodeStatus.Ready) p =
      leads_found (Adds w (Step.Node pool secret (NodeCommand.SetStatus name NodeStatus.Ready))) (get p.nodes name) _
      (λ node _. node_still (NodeCommand.SetStatus name NodeStatus.Ready) _ refl)
  asked_in_pool_adds (NodeCommand.SetStatus name NodeStatus.Down) p =
      leads_found (Adds w (Step.Node pool secret (NodeCommand.SetStatus name NodeStatus.Down))) (get p.nodes name) _
      (λ node _. down_adds w pool secret name (put_pool pool (with_node name (record node { status = NodeStatus.Down }) p) w) refl)
  asked_in_pool_adds (NodeCommand.SetEligible name eligible) p =
      leads_found (Adds w (Step.Node pool secret (NodeCommand.SetEligible name eligible))) (get p.nodes name) _
      (λ node _. node_still (NodeCommand.SetEligible name eligible) _ refl)
  asked_in_pool_adds (NodeCommand.Report name r) p = report_adds name r p

  pub ask_pool_adds : (command : NodeCommand) → Leads (Adds w (Step.Node pool secret command)) (ask_pool pool command w)
  unfolding ask_pool
  ask_pool_adds command = leads_found (Adds w (Step.Node pool secret command)) (get w.pools pool) (asked_in_pool pool command w)
      (λ p _. asked_in_pool_adds command p)

-- ---- a worker's steps but Apply

module _ (w : World) (number : ℕ) where
  -- a namespace is put with no other evaluations
  rests : (step : Step) (x : World) (ns : Name) (t u : Tenant) → get w.tenants ns ≡ Some t → x.tenants ≡ insert w.tenants ns u → Back w step t u → Adds w step x
  rests step x ns t u is put back = adds_put w step x ns t u is put (none_added w step x ns t u back)

  pub dequeue_adds : (ns : Name) (n : ℕ) → Leads (Adds w (Step.Dequeue number ns n)) (dequeue number (ns, n) w)
  unfolding dequeue
  dequeue_adds ns n = leads_if P (nat_lt number workers_end && is_idle w number && is_served w w.ready (ns, n))
      (option_map_or (dequeue_in number (ns, n) w) (get w.tenants ns) NotEnabled) NotEnabled (λ _.
      leads_there P (get w.tenants ns) (dequeue_in number (ns, n) w) (λ t is. leads_there P (get t.evaluations n) _ (λ e _.
      rests (Step.Dequeue number ns n) (taken number (ns, n) w t e) ns t (with_worker number (new_worker n e) t) is refl (λ m d at. (d, at))))) (λ _. tt)
    where
      P : World → Type 0
      P = Adds w (Step.Dequeue number ns n)

  module _ (ns : Name) where
    pub snap_adds : Leads (Adds w (Step.Snap number ns)) (snap number ns w)
    unfolding snap
    snap_adds = leads_at_work (Adds w (Step.Snap number ns)) number ns w (snap_for number ns w) (λ t worker e is _ _.
        let new : Worker = with_snapshot (snapshot_of w ns t worker.evaluation e) worker in
        leads_if (Adds w (Step.Snap number ns)) (may_snap worker.tries worker.phase)
        (Done (Content.Snapped worker.evaluation) (put_tenant ns (with_worker number new t) w)) NotEnabled
        (λ _. rests (Step.Snap number ns) (put_tenant ns (with_worker number new t) w) ns t (with_worker number new t) is refl (λ m d at. (d, at))) (λ _. tt))

    pub submit_adds : Leads (Adds w (Step.Submit number ns)) (submit number ns w)
    unfolding submit
    submit_adds = leads_keeping (Adds w (Step.Submit number ns)) number ns w (λ t worker e. submit_for number ns w t worker) (λ t worker e kept is _ _ _.
        leads_if (Adds w (Step.Submit number ns)) (may_submit worker kept) (Done (Content.Queued worker.evaluation) (submitted number ns w t worker)) NotEnabled
        (λ _. rests (Step.Submit number ns) (submitted number ns w t worker) ns t (with_worker number (record worker { phase = Phase.Submitted }) t) is refl
        (λ m d at. (d, at))) (λ _. tt))

    module _ (t : Tenant) (is : get w.tenants ns ≡ Some t) (worker : Worker) (e : Evaluation) where
      abbrev finishes : Step
      finishes = Step.Finish number ns

      abbrev rest : Tenant
      rest = ended number worker e (end_of worker) t

      abbrev less : World
      less = without_blocked ns e.job t w

      module _ (has : get t.workers number ≡ Some worker) (at : get t.evaluations worker.evaluation ≡ Some e) where
        -- the world in which the follower is there
        with_one : (f : Evaluation) → f.job ≡ e.job → f.previous ≡ Some worker.evaluation → (y : World) →
            y.tenants ≡ insert w.tenants ns (with_follower worker.evaluation f rest) → Adds w finishes (promote ns e.job y)
        with_one f of_job previous y put =
            adds_put w finishes (promote ns e.job y) ns t (with_follower worker.evaluation f rest) is (promote_tenants ns e.job y ∙ put)
            (one_added w finishes (promote ns e.job y) ns t (tied_to worker.evaluation (rest.evaluation_number + 1) rest)
            (with_follower worker.evaluation f rest) (rest.evaluation_number + 1) f
            (back_then w finishes t rest (tied_to worker.evaluation (rest.evaluation_number + 1) rest) (back_ended w finishes number worker e (end_of worker) t)
            (back_tied w finishes worker.evaluation (rest.evaluation_number + 1) rest)) refl
            (follows number worker e refl (ap (option_and_then (λ (t : Tenant). get t.workers number)) is ∙ has)
            (ap (option_and_then (λ (t : Tenant). get t.evaluations worker.evaluation)) is ∙ at) of_job previous))

        followed_adds : (f : Evaluation) → f.job ≡ e.job → f.previous ≡ Some worker.evaluation → (late : Bool) →
            Adds w finishes (promote ns e.job (followed ns worker f rest late less))
        followed_adds f of_job previous true = with_one (record f { status = Statuses.Pending }) of_job previous
            (put_tenant ns (with_follower worker.evaluation (record f { status = Statuses.Pending }) rest) less)
            (ap (λ m. insert m ns (with_follower worker.evaluation (record f { status = Statuses.Pending }) rest)) (unlisted_tenants ns e.job t w))
        followed_adds f of_job previous false = with_one f of_job previous (followed ns worker f rest false less)
            (ap (λ m. insert m ns (with_follower worker.evaluation f rest)) (unlisted_tenants ns e.job t w))

        finished_adds : (kept : Snapshot) → Leads (Adds w finishes) (finished number ns w t worker e kept)
        finished_adds kept = leads_if (Adds w finishes) (needs_follower worker kept)
            (Done (Content.Finished (end_of worker) (Some (t.evaluation_number + 1)))
            (promote ns e.job (followed ns worker (follower_of e worker kept) rest (missed w kept (follower_of e worker kept)) less)))
            (Done (Content.Finished (end_of worker) None) (promote ns e.job (put_tenant ns rest less)))
            (λ _. followed_adds (follower_of e worker kept) refl refl (missed w kept (follower_of e worker kept)))
            (λ _. rests finishes (promote ns e.job (put_tenant ns rest less)) ns t rest is
            (promote_tenants ns e.job (put_tenant ns rest less) ∙ ap (λ m. insert m ns rest) (unlisted_tenants ns e.job t w))
            (back_ended w finishes number worker e (end_of worker) t))

        nack_for_adds : Leads (Adds w (Step.Nack number ns)) (nack_for number ns w t worker e)
        nack_for_adds =
            let nacks : Step = Step.Nack number ns in
            let t' : Tenant = with_nack worker.evaluation e t in
            let u : Tenant = without_worker number t' in
            let v : Tenant = with_status worker.evaluation Statuses.Failed u in
            let back : Back w nacks t u = back_then w nacks t t' u
            (back_row w nacks t worker.evaluation e (record e { nacks = e.nacks + 1 }) at) (back_same w nacks t' u refl) in
            leads_if (Adds w nacks) (is_submitted worker.phase) NotEnabled
            (cond (nat_le most_nacks (e.nacks + 1)) (given_up number ns w t' worker e) (given_back number ns w t' worker)) (λ _. tt) (λ _.
            leads_if (Adds w nacks) (nat_le most_nacks (e.nacks + 1)) (given_up number ns w t' worker e) (given_back number ns w t' worker)
            (λ _. rests nacks (promote ns e.job (put_tenant ns v w)) ns t v is (promote_tenants ns e.job (put_tenant ns v w))
            (back_then w nacks t u v back (back_status w nacks worker.evaluation Statuses.Failed u)))
            (λ _. rests nacks (record (put_tenant ns u w) { ready = w.ready ++ (ns, worker.evaluation) ∷ [] }) ns t u is refl back))

    pub finish_adds : Leads (Adds w (Step.Finish number ns)) (finish number ns w)
    unfolding finish
    finish_adds = leads_keeping (Adds w (Step.Finish number ns)) number ns w (finish_for number ns w) (λ t worker e kept is has at _.
        leads_if (Adds w (Step.Finish number ns)) (may_finish worker kept) (finished number ns w t worker e kept) NotEnabled
        (λ _. finished_adds t is worker e has at kept) (λ _. tt))

    pub nack_adds : Leads (Adds w (Step.Nack number ns)) (nack number ns w)
    unfolding nack
    nack_adds = leads_at_work (Adds w (Step.Nack number ns)) number ns w (nack_for number ns w) (λ t worker e is has at. nack_for_adds t is worker e has at)

-- ---- administrators

pub adds_left : (w : World) (step : Step) (x : World) → Leaves w x → Adds w step x
adds_left w step x h ns u at = by (h ns u at)
  where
    by : Left w ns u → AddsAt w step x ns u
    by (stayed t namespace is e) = subst (AddsAt w step x ns) e (adds t is (none_added w step x ns t (record t { namespace = namespace }) (λ n e at. (e, at))))
    by (added namespace none e) = subst (AddsAt w step x ns) e (empty (λ n d at. not_Some d (sym (get-empty nat_cmp n) ∙ at)))

-- a change that leaves evaluations and allocations
pub adds_then : (w : World) (step : Step) (x y : World) → Adds w step x → Onward SameRows x y → Same x y → Adds w step y
adds_then w step x y h onward same ns u at = let v = onward ns u at in by v.0 v.2 (h ns v.0 v.1)
  where
    lost_too : (job : Name) → HasLost w x ns job → HasLost w y ns job
    lost_too job l = record {
      number = l.number;
      before = l.before;
      was_live = l.was_live;
      of_job = l.of_job;
      later = l.later;
      is_there = same (ns, l.number) ∙ l.is_there;
      has_ended = l.has_ended;
    }

    too : (e : Evaluation) → AddedFor w x step ns e → AddedFor w y step ns e
    too e (registers secret r is job trigger) = registers secret r is job trigger
    too e (deregisters secret id purge is job trigger) = deregisters secret id purge is job trigger
    too e (follows number worker a is has at job previous) = follows number worker a is has at job previous
    too e (for_loss trigger lost) = for_loss trigger (lost_too e.job lost)

    by : (v : Tenant) → u.evaluations ≡ v.evaluations → AddsAt w step x ns v → AddsAt w step y ns u
    by v rows (adds t is a) = adds t is (record {
      why = λ n e none at. too e (a.why n e none (ap (λ m. get m n) (sym rows) ∙ at));
      once = λ m n d e none none_ at at_ job. a.once m n d e none none_ (ap (λ r. get r m) (sym rows) ∙ at) (ap (λ r. get r n) (sym rows) ∙ at_) job;
    })
    by v rows (empty none) = empty (λ n e at. none n e (ap (λ m. get m n) (sym rows) ∙ at))
