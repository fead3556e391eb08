-- How an allocation comes, what it keeps, which steps end it, and when it is gone: by what a step may make of it.
use Rattle.std.specs.Prelude.{◌≡◌, ◌⊎◌, Bool, true, false, T, ◌&&◌, Option, Some, None}
use Rattle.std.proofs.Common.{inl, inr, refl, sym, ap, subst, ◌∙◌}
use Rattle.ns_types.specs.declared.allocation.Allocation.{Allocation}
use Rattle.ns_types.specs.declared.allocation.ClientStatus.{ClientStatus}
use Rattle.ns_types.specs.declared.allocation.DesiredStatus.{DesiredStatus}
use Rattle.ns_types.specs.declared.allocation.DesiredStatus.TheVariants as DesiredStatuses
use Rattle.ns_types.specs.declared.step.Step.{Step}
use Rattle.ns_types.specs.Asking.Nodes.{may_become}
use Rattle.ns_types.specs.State.Names.{Key}
use Rattle.std.specs.FinMap.{get}
use Rattle.ns_types.specs.State.Rows.{World, is_held, is_live, is_run, allocation_at, node_at}
use Rattle.ns_types.proofs.Gone.{evicted_row, stopped_row}
use Rattle.ns_types.proofs.Lists.{not_both}
use Rattle.ns_types.proofs.Named.{first_of_both}
use Rattle.ns_types.proofs.Tests.{not_Some, same_Some}
use Rattle.ns_audit.proofs.Steady.Nodes.{held_before}
use Rattle.ns_laws.specs.Ending as law
use Rattle.ns_laws.specs.Ending.{Ends, requested, planned, evicted, reported, lost, LateClient, quiet, reports_late, IsReportOf, IsSameAllocation, IsPlacedBy}
use Rattle.ns_laws.proofs.Endings.Change.{left, stops, evicts, cuts, places, Change, rests, plans, asks, loses, reports, deletes}
use Rattle.ns_laws.proofs.Endings.Change.{Redated, Settled, nothing, redated}
use Rattle.ns_laws.proofs.Endings.Steps.{after_turns}

-- ---- the fields that stay

-- an allocation is the same as itself, and what is the same as the same is the same
pub same_allocation_then : (a b c : Allocation) → IsSameAllocation a b → IsSameAllocation b c → IsSameAllocation a c
same_allocation_then a b c p q = record {
  job = q.job ∙ p.job;
  group = q.group ∙ p.group;
  evaluation = q.evaluation ∙ p.evaluation;
  pool = q.pool ∙ p.pool;
  node = q.node ∙ p.node;
  place = q.place ∙ p.place;
  size = q.size ∙ p.size;
  priority = q.priority ∙ p.priority;
  job_modify_index = q.job_modify_index ∙ p.job_modify_index;
  create_index = q.create_index ∙ p.create_index;
}

pub same_allocation_itself : (a : Allocation) → IsSameAllocation a a
same_allocation_itself a = record {
  job = refl;
  group = refl;
  evaluation = refl;
  pool = refl;
  node = refl;
  place = refl;
  size = refl;
  priority = refl;
  job_modify_index = refl;
  create_index = refl;
}

-- ---- what settling leaves

-- the allocation that there is in the end, and what the step's own change made of it
pub record Comes (own : Option Allocation) (o : Option Allocation) (c : Allocation) : Type 0 where
  pub row : Allocation
  pub is_own : own ≡ Some row
  pub dates : Redated o row c

pub comes : (o own c' : Option Allocation) (c : Allocation) → Settled o own c' → c' ≡ Some c → Comes own o c
comes o own c' c (nothing none gone) at = absurd (not_Some _ (sym gone ∙ at))
comes o own c' c (redated b d is there dates) at =
    record { row = b; is_own = is; dates = subst (Redated o b) (same_Some d c (sym there ∙ at)) dates }

-- what was there in the step's own change is there in the end
stays : (o own c' : Option Allocation) (b : Allocation) → Settled o own c' → own ≡ Some b → (c : Allocation) × (c' ≡ Some c) × Redated o b c
stays o own c' b (nothing none gone) is = absurd (not_Some _ (sym none ∙ is))
stays o own c' b (redated x d was there dates) is = (d, there, subst (λ x. Redated o x d) (same_Some x b (sym was ∙ is)) dates)

was_gone : (o own c' : Option Allocation) → Settled o own c' → c' ≡ None → own ≡ None
was_gone o own c' (nothing none gone) at = none
was_gone o own c' (redated b d is there dates) at = absurd (not_Some _ (sym at ∙ there))

module _ (o : Option Allocation) (b c : Allocation) (r : Redated o b c) where
  live_kept : is_live c ≡ is_live b
  live_kept = ap is_live r.same

  pub desired_kept : c.desired ≡ b.desired
  desired_kept = ap (λ (a : Allocation). a.desired) r.same

  client_kept : c.client ≡ b.client
  client_kept = ap (λ (a : Allocation). a.client) r.same

module _ (w : World) (step : Step) (key : Key) where
  -- ---- how one ends

  -- a client that stops has completed or failed
  has_stopped : (a b : ClientStatus) → may_become a b ≡ true → is_held b ≡ false → law.HasStopped b
  has_stopped a ClientStatus.Complete e h = inl refl
  has_stopped a ClientStatus.Failed e h = inr refl
  has_stopped a ClientStatus.Pending e h = absurd (subst T h tt)
  has_stopped a ClientStatus.Running e h = absurd (subst T h tt)
  has_stopped ClientStatus.Pending ClientStatus.Lost e h = absurd (subst T (sym e) tt)
  has_stopped ClientStatus.Running ClientStatus.Lost e h = absurd (subst T (sym e) tt)
  has_stopped ClientStatus.Complete ClientStatus.Lost e h = absurd (subst T (sym e) tt)
  has_stopped ClientStatus.Failed ClientStatus.Lost e h = absurd (subst T (sym e) tt)
  has_stopped ClientStatus.Lost ClientStatus.Lost e h = absurd (subst T (sym e) tt)

  ends_dated : (o : Option Allocation) (a b c : Allocation) → Redated o b c → Ends w step key a b → Ends w step key a c
  ends_dated o a b c r (requested by desired client) = requested by (desired_kept o b c r ∙ desired) (client_kept o b c r ∙ client)
  ends_dated o a b c r (planned by desired client) = planned by (desired_kept o b c r ∙ desired) (client_kept o b c r ∙ client)
  ends_dated o a b c r (evicted by desired client) = evicted by (desired_kept o b c r ∙ desired) (client_kept o b c r ∙ client)
  ends_dated o a b c r (reported by desired stopped) = reported (subst (IsReportOf step key a) (sym (client_kept o b c r)) by)
      (desired_kept o b c r ∙ desired) (subst law.HasStopped (sym (client_kept o b c r)) stopped)
  ends_dated o a b c r (lost by desired client) = lost by (desired_kept o b c r ∙ desired) (client_kept o b c r ∙ client)

  -- it is live still, or has ended
  abbrev GoesOn : Allocation → Option Allocation → Type 0
  GoesOn a own = (b : Allocation) × (own ≡ Some b) × ((is_live b ≡ true) ⊎ Ends w step key a b)

  goes_on : (o own : Option Allocation) (a : Allocation) → o ≡ Some a → is_live a ≡ true → Change w step key o own → GoesOn a own
  goes_on o own a at live (rests e) = (a, e ∙ at, inl live)
  goes_on o own a at live (plans (cuts (left e))) = (a, e ∙ at, inl live)
  goes_on o own a at live (plans (cuts (stops d was lived e by))) =
      (stopped_row d, e, inr (planned by refl (ap (λ (a : Allocation). a.client) (same_Some d a (sym was ∙ at)))))
  goes_on o own a at live (plans (cuts (evicts d was lived e by))) =
      let same : d ≡ a = same_Some d a (sym was ∙ at) in
      (evicted_row d, e, inr (evicted (subst (law.IsPlannedEviction w step key) same by) refl (ap (λ (a : Allocation). a.client) same)))
  goes_on o own a at live (plans (places d none e by)) = absurd (not_Some _ (sym none ∙ at))
  goes_on o own a at live (asks d was lived e by) =
      (stopped_row d, e, inr (requested by refl (ap (λ (a : Allocation). a.client) (same_Some d a (sym was ∙ at)))))
  goes_on o own a at live (loses d was lived e by) =
      let same : d ≡ a = same_Some d a (sym was ∙ at) in
      (record d { client = ClientStatus.Lost }, e, inr (lost (subst (law.IsNodeDown step) same by) (ap (λ (a : Allocation). a.desired) same) refl))
  goes_on o own a at live (reports d client was becomes e by) = (record d { client = client }, e, which (is_held client) refl)
    where
      same : d ≡ a
      same = same_Some d a (sym was ∙ at)

      which : (b : Bool) → is_held client ≡ b → (is_live (record d { client = client }) ≡ true) ⊎ Ends w step key a (record d { client = client })
      which true h = inl ((λ i. is_run (same i).desired && h i) ∙ ap (λ r. r && true) (first_of_both (is_run a.desired) (is_held a.client) live))
      which false h = inr (reported (subst (λ a. IsReportOf step key a client) same by) (ap (λ (a : Allocation). a.desired) same)
          (has_stopped d.client client becomes h))
  goes_on o own a at live (deletes d was dead e by) = not_both live (ap is_live (sym (same_Some d a (sym was ∙ at))) ∙ dead)

  -- ---- what has ended stays so

  abbrev StaysEnded : Allocation → Allocation → Type 0
  StaysEnded a b = (is_live b ≡ false) × (b.desired ≡ a.desired) × LateClient step key a b

  not_run : (r h : Bool) → (r && h) ≡ false → h ≡ true → r ≡ false
  not_run true h dead held = not_both held dead
  not_run false h dead held = refl

  stays_ended : (o own : Option Allocation) (a b : Allocation) → o ≡ Some a → is_live a ≡ false → own ≡ Some b → Change w step key o own → StaysEnded a b
  stays_ended o own a b at dead is (rests e) = as_it_was (same_Some b a (sym is ∙ e ∙ at))
    where
      as_it_was : b ≡ a → StaysEnded a b
      as_it_was e = (ap is_live e ∙ dead, ap (λ (a : Allocation). a.desired) e, quiet (ap (λ (a : Allocation). a.client) e))
  stays_ended o own a b at dead is (plans (cuts (left e))) = as_it_was (same_Some b a (sym is ∙ e ∙ at))
    where
      as_it_was : b ≡ a → StaysEnded a b
      as_it_was e = (ap is_live e ∙ dead, ap (λ (a : Allocation). a.desired) e, quiet (ap (λ (a : Allocation). a.client) e))
  stays_ended o own a b at dead is (plans (cuts (stops d was lived e by))) = not_both lived (ap is_live (same_Some d a (sym was ∙ at)) ∙ dead)
  stays_ended o own a b at dead is (plans (cuts (evicts d was lived e by))) = not_both lived (ap is_live (same_Some d a (sym was ∙ at)) ∙ dead)
  stays_ended o own a b at dead is (plans (places d none e by)) = absurd (not_Some _ (sym none ∙ at))
  stays_ended o own a b at dead is (asks d was lived e by) = not_both lived (ap is_live (same_Some d a (sym was ∙ at)) ∙ dead)
  stays_ended o own a b at dead is (loses d was lived e by) = not_both lived (ap is_live (same_Some d a (sym was ∙ at)) ∙ dead)
  stays_ended o own a b at dead is (reports d client was becomes e by) =
      let held : is_held d.client ≡ true = held_before d.client client becomes in
      let same : d ≡ a = same_Some d a (sym was ∙ at) in
      let new : record d { client = client } ≡ b = same_Some (record d { client = client }) b (sym e ∙ is) in
      let stopped : is_run d.desired ≡ false = not_run (is_run d.desired) (is_held d.client) (ap is_live same ∙ dead) held in (
        ap is_live (sym new) ∙ ap (λ r. r && is_held client) stopped,
        ap (λ (a : Allocation). a.desired) (sym new) ∙ ap (λ (a : Allocation). a.desired) same,
        reports_late (ap (λ (a : Allocation). is_held a.client) (sym same) ∙ held)
            (subst (IsReportOf step key a) (ap (λ (a : Allocation). a.client) new) (subst (λ a. IsReportOf step key a client) same by)),
      )
  stays_ended o own a b at dead is (deletes d was _ e by) = absurd (not_Some _ (sym e ∙ is))

  -- ---- what one keeps

  -- all but its statuses
  abbrev KeepsRow : Allocation → Allocation → Type 0
  KeepsRow a b = b ≡ record a { desired = b.desired; client = b.client }

  keeps_row : (a b d : Allocation) (desired : DesiredStatus) (client : ClientStatus) → d ≡ a →
      record d { desired = desired; client = client } ≡ b → KeepsRow a b
  keeps_row a b d desired client same new = sym new ∙ (λ i. record (same i) { desired = (new i).desired; client = (new i).client })

  keeps : (o own : Option Allocation) (a b : Allocation) → o ≡ Some a → own ≡ Some b → Change w step key o own → KeepsRow a b
  keeps o own a b at is (rests e) = let same : a ≡ b = same_Some a b (sym at ∙ sym e ∙ is) in keeps_row a b a a.desired a.client refl same
  keeps o own a b at is (plans (cuts (left e))) = let same : a ≡ b = same_Some a b (sym at ∙ sym e ∙ is) in keeps_row a b a a.desired a.client refl same
  keeps o own a b at is (plans (cuts (stops d was lived e by))) =
      keeps_row a b d DesiredStatuses.Stop d.client (same_Some d a (sym was ∙ at)) (same_Some (stopped_row d) b (sym e ∙ is))
  keeps o own a b at is (plans (cuts (evicts d was lived e by))) =
      keeps_row a b d DesiredStatuses.Evict d.client (same_Some d a (sym was ∙ at)) (same_Some (evicted_row d) b (sym e ∙ is))
  keeps o own a b at is (plans (places d none e by)) = absurd (not_Some _ (sym none ∙ at))
  keeps o own a b at is (asks d was lived e by) =
      keeps_row a b d DesiredStatuses.Stop d.client (same_Some d a (sym was ∙ at)) (same_Some (stopped_row d) b (sym e ∙ is))
  keeps o own a b at is (loses d was lived e by) =
      keeps_row a b d d.desired ClientStatus.Lost (same_Some d a (sym was ∙ at)) (same_Some (record d { client = ClientStatus.Lost }) b (sym e ∙ is))
  keeps o own a b at is (reports d client was becomes e by) =
      keeps_row a b d d.desired client (same_Some d a (sym was ∙ at)) (same_Some (record d { client = client }) b (sym e ∙ is))
  keeps o own a b at is (deletes d was _ e by) = absurd (not_Some _ (sym e ∙ is))

  fixed : (o : Option Allocation) (a b c : Allocation) → o ≡ Some a → KeepsRow a b → Redated o b c → IsSameAllocation a c
  fixed o a b c at row r = record {
    job = ap (λ (a : Allocation). a.job) r.same ∙ ap (λ (a : Allocation). a.job) row;
    group = ap (λ (a : Allocation). a.group) r.same ∙ ap (λ (a : Allocation). a.group) row;
    evaluation = ap (λ (a : Allocation). a.evaluation) r.same ∙ ap (λ (a : Allocation). a.evaluation) row;
    pool = ap (λ (a : Allocation). a.pool) r.same ∙ ap (λ (a : Allocation). a.pool) row;
    node = ap (λ (a : Allocation). a.node) r.same ∙ ap (λ (a : Allocation). a.node) row;
    place = ap (λ (a : Allocation). a.place) r.same ∙ ap (λ (a : Allocation). a.place) row;
    size = ap (λ (a : Allocation). a.size) r.same ∙ ap (λ (a : Allocation). a.size) row;
    priority = ap (λ (a : Allocation). a.priority) r.same ∙ ap (λ (a : Allocation). a.priority) row;
    job_modify_index = ap (λ (a : Allocation). a.job_modify_index) r.same ∙ ap (λ (a : Allocation). a.job_modify_index) row;
    create_index = r.created a at (sym (ap (λ (a : Allocation). a.create_index) row)) ∙ ap (λ (a : Allocation). a.create_index) row;
  }

  -- ---- how one comes

  came : (o own : Option Allocation) (b : Allocation) → o ≡ None → own ≡ Some b → Change w step key o own → IsPlacedBy w step key b
  came o own b none is (rests e) = absurd (not_Some _ (sym none ∙ sym e ∙ is))
  came o own b none is (plans (cuts (left e))) = absurd (not_Some _ (sym none ∙ sym e ∙ is))
  came o own b none is (plans (cuts (stops d was lived e by))) = absurd (not_Some _ (sym none ∙ was))
  came o own b none is (plans (cuts (evicts d was lived e by))) = absurd (not_Some _ (sym none ∙ was))
  came o own b none is (plans (places d _ e by)) = subst (IsPlacedBy w step key) (same_Some d b (sym e ∙ is)) by
  came o own b none is (asks d was lived e by) = absurd (not_Some _ (sym none ∙ was))
  came o own b none is (loses d was lived e by) = absurd (not_Some _ (sym none ∙ was))
  came o own b none is (reports d client was becomes e by) = absurd (not_Some _ (sym none ∙ was))
  came o own b none is (deletes d was dead e by) = absurd (not_Some _ (sym none ∙ was))

  placed_dated : (o : Option Allocation) (b c : Allocation) → Redated o b c → IsPlacedBy w step key b → IsPlacedBy w step key c
  placed_dated o b c r p = record {
    before = p.before;
    was_there = p.was_there;
    is_new = p.is_new;
    kept = p.kept;
    applies = p.applies;
    placement = p.placement;
    is_planned = p.is_planned;
    planned = p.planned;
    is_in_snapshot = p.is_in_snapshot;
    is_of_job = ap (λ (a : Allocation). a.job) r.same ∙ p.is_of_job;
    group = ap (λ (a : Allocation). a.group) r.same ∙ p.group;
    evaluation = ap (λ (a : Allocation). a.evaluation) r.same ∙ p.evaluation;
    pool = ap (λ (a : Allocation). a.pool) r.same ∙ p.pool;
    node = ap (λ (a : Allocation). a.node) r.same ∙ p.node;
    size = ap (λ (a : Allocation). a.size) r.same ∙ p.size;
    priority = ap (λ (a : Allocation). a.priority) r.same ∙ p.priority;
    is_to_run = desired_kept o b c r ∙ p.is_to_run;
    is_pending = client_kept o b c r ∙ p.is_pending;
    job = p.job;
    is_job = ap (λ (a : Allocation). get p.before.jobs a.job) r.same ∙ p.is_job;
    is_not_stopped = p.is_not_stopped;
    version = ap (λ (a : Allocation). a.job_modify_index) r.same ∙ p.version;
    row = p.row;
    is_row = ap (λ (a : Allocation). node_at w a.pool a.node) r.same ∙ p.is_row;
    is_ready = p.is_ready;
    is_eligible = p.is_eligible;
  }

  -- ---- when one is gone

  deleted : (o own : Option Allocation) (a : Allocation) → o ≡ Some a → own ≡ None → Change w step key o own → (is_live a ≡ false) × law.IsDeletionOf step key.0
  deleted o own a at none (rests e) = absurd (not_Some _ (sym none ∙ e ∙ at))
  deleted o own a at none (plans (cuts (left e))) = absurd (not_Some _ (sym none ∙ e ∙ at))
  deleted o own a at none (plans (cuts (stops d was lived e by))) = absurd (not_Some _ (sym none ∙ e))
  deleted o own a at none (plans (cuts (evicts d was lived e by))) = absurd (not_Some _ (sym none ∙ e))
  deleted o own a at none (plans (places d _ e by)) = absurd (not_Some _ (sym none ∙ e))
  deleted o own a at none (asks d was lived e by) = absurd (not_Some _ (sym none ∙ e))
  deleted o own a at none (loses d was lived e by) = absurd (not_Some _ (sym none ∙ e))
  deleted o own a at none (reports d client was becomes e by) = absurd (not_Some _ (sym none ∙ e))
  deleted o own a at none (deletes d was dead e by) = (ap is_live (sym (same_Some d a (sym was ∙ at))) ∙ dead, by)

-- ---- the laws

pub ends_only_so : law.EndsOnlySo
ends_only_so s s' step answer key a valid made at =
    let turn = after_turns s step s' answer valid.world made key in
    let b = goes_on s.world step key (allocation_at s.world key) turn.own a at.0 at.1 turn.change in
    let c = stays (allocation_at s.world key) turn.own (allocation_at s'.world key) b.0 turn.settles b.1 in
    (c.0, c.1, dated b.0 c.0 c.2 b.2)
  where
    dated : (b c : Allocation) → Redated (allocation_at s.world key) b c → (is_live b ≡ true) ⊎ Ends s.world step key a b →
        (is_live c ≡ true) ⊎ Ends s.world step key a c
    dated b c r (inl live) = inl (live_kept (allocation_at s.world key) b c r ∙ live)
    dated b c r (inr ends) = inr (ends_dated s.world step key (allocation_at s.world key) a b c r ends)

pub ended_stays_ended : law.EndedStaysEnded
ended_stays_ended s s' step answer key a c valid made at dead there =
    let turn = after_turns s step s' answer valid.world made key in
    let b = comes (allocation_at s.world key) turn.own (allocation_at s'.world key) c turn.settles there in
    let h = stays_ended s.world step key (allocation_at s.world key) turn.own a b.row at dead b.is_own turn.change in (
      live_kept (allocation_at s.world key) b.row c b.dates ∙ h.0,
      desired_kept (allocation_at s.world key) b.row c b.dates ∙ h.1,
      dated b.row b.dates h.2,
    )
  where
    dated : (b : Allocation) → Redated (allocation_at s.world key) b c → LateClient step key a b → LateClient step key a c
    dated b r (quiet e) = quiet (client_kept (allocation_at s.world key) b c r ∙ e)
    dated b r (reports_late held by) = reports_late held (subst (IsReportOf step key a) (sym (client_kept (allocation_at s.world key) b c r)) by)

pub allocation_is_fixed : law.AllocationIsFixed
allocation_is_fixed s s' step answer key a c valid made at there =
    let turn = after_turns s step s' answer valid.world made key in
    let b = comes (allocation_at s.world key) turn.own (allocation_at s'.world key) c turn.settles there in
    fixed s.world step key (allocation_at s.world key) a b.row c at
    (keeps s.world step key (allocation_at s.world key) turn.own a b.row at b.is_own turn.change) b.dates

pub comes_only_by_plan : law.ComesOnlyByPlan
comes_only_by_plan s s' step answer key c valid made none there =
    let turn = after_turns s step s' answer valid.world made key in
    let b = comes (allocation_at s.world key) turn.own (allocation_at s'.world key) c turn.settles there in
    placed_dated s.world step key (allocation_at s.world key) b.row c b.dates
    (came s.world step key (allocation_at s.world key) turn.own b.row none b.is_own turn.change)

pub gone_with_namespace : law.GoneWithNamespace
gone_with_namespace s s' step answer key a valid made at none =
    let turn = after_turns s step s' answer valid.world made key in
    deleted s.world step key (allocation_at s.world key) turn.own a at
    (was_gone (allocation_at s.world key) turn.own (allocation_at s'.world key) turn.settles none) turn.change
