-- What an Apply does to the worker whose plan it applies.
use Rattle.std.specs.Prelude.{◌≡◌, ◌≢◌, ◌⊎◌, ℕ, ◌-◌, Bool, true, false, cond, not, ◌&&◌, ◌||◌, List, [], ◌∷◌, Option, Some, None, fold, map, option_map}
use Rattle.std.proofs.Common.{refl, sym, ap, subst, ◌∙◌, inl, inr}
use Rattle.std.specs.FinMap.{get}
use Rattle.std.specs.Option.{option_map_or}
use Rattle.ns_types.specs.declared.allocation.Allocation.{Allocation}
use Rattle.ns_types.specs.declared.evaluation.Evaluation.{Evaluation}
use Rattle.ns_types.specs.declared.job.Job.{Job}
use Rattle.ns_types.specs.declared.plan.Placement.{Placement}
use Rattle.ns_types.specs.declared.reply.Content.{Content}
use Rattle.ns_types.specs.declared.snapshot.Snapshot.{Snapshot}
use Rattle.ns_types.specs.declared.step.Step.{Step}
use Rattle.ns_types.specs.declared.worker.Phase.{Phase}
use Rattle.ns_types.specs.Placing.Plan.{plan}
use Rattle.ns_types.specs.Settling.Making.{put_tenant}
use Rattle.ns_types.specs.Settling.Outcome.{NotEnabled}
use Rattle.ns_types.specs.Settling.Releases.{woken}
use Rattle.ns_types.specs.Settling.Settle.{number_releases, settle, stamp, unblocked_in, wake}
use Rattle.ns_types.specs.State.Lists.{is_empty}
use Rattle.ns_types.specs.State.Names.{Name, has_name, same_number}
use Rattle.ns_types.specs.State.Rows.{State, World, Tenant, is_live}
use Rattle.ns_types.specs.Steps.{reply_of}
use Rattle.ns_types.specs.Working.Commit.{Applied, Commit, applied, applied_worker, apply, apply_for, begun, commit, committed_placements, decide, done}
use Rattle.ns_types.specs.Working.Commit.{done_with, has_ended, live_stops, names_in, node_name, nodes_in, numbers_after, phase_after, refused_whole}
use Rattle.ns_types.specs.Working.Commit.{same_version, still_stands, stop_all, tries_after}
use Rattle.ns_types.specs.Working.Queue.{is_served}
use Rattle.ns_types.specs.Working.Work.{is_submitted, tries_for, with_worker, without_key}
use Rattle.ns_types.specs.Working.Worker.{Worker}
use Rattle.ns_types.proofs.Lists.{not_both}
use Rattle.ns_types.proofs.Named.{first_of_both, numbers, one_number, same_name_refl, same_number_refl}
use Rattle.ns_types.proofs.Queue.{queues_keep}
use Rattle.ns_types.proofs.TableRows.{get_put}
use Rattle.ns_types.proofs.Tests.{either_of}
use Rattle.ns_audit.proofs.Alone.Sides.{act_is}
use Rattle.ns_audit.proofs.Carries.{commit_carries}
use Rattle.ns_audit.proofs.ValidWorkers.Quiet.{Quiet, quiet_carries}
use Rattle.ns_laws.specs.Ending.{HasEnded, IsUnchangedJob, runs, ended}
use Rattle.ns_laws.specs.Workers as law
use Rattle.ns_laws.specs.Workers.{CountsTries, all_again, one_less, as_many, HasCommitted, HasDropped, IsApplied, IsTakenOut, PhaseSays, some_dropped}
use Rattle.ns_laws.specs.Workers.{none_dropped, Stands, StopsLive}
use Rattle.ns_laws.proofs.Effect.Rows.{does_if, put_there, settled_rows, settled_tenant, stamp_keeps}
use Rattle.ns_laws.proofs.Elements.{Has, contains_from, filter_has, has_from, has_filter}
use Rattle.ns_laws.proofs.Endings.Apply.{stands_current}
use Rattle.ns_laws.proofs.Plans.ApplyRows.{sorted_has}
use Rattle.ns_laws.proofs.Plans.ApplyStep.{does_or, marked}
use Rattle.ns_laws.proofs.Work.Rows.{at_work_does, taken_out, work_does}
use Rattle.ns_laws.proofs.Work.Steps.{has_tries}

-- ---- whether the plan still stands

has_ended_by : (o : Option Job) → HasEnded o → has_ended o ≡ true
has_ended_by None h = refl
has_ended_by (Some j) h = h j refl

stands_by : (planned present : Option Job) → IsUnchangedJob planned present → still_stands planned present ≡ true
stands_by planned present (runs old now was is old_runs now_runs same) =
    (λ i. still_stands (was i) (is i))
    ∙ ap (λ b. cond b now.stop (not now.stop && same_version (Some old) (Some now))) old_runs
    ∙ ap (λ b. not b && same_version (Some old) (Some now)) now_runs
    ∙ ap (same_number old.modify_index) (sym same) ∙ same_number_refl old.modify_index
stands_by planned present (ended was is) =
    ap (λ b. cond b (has_ended present) (not (has_ended present) && same_version planned present)) (has_ended_by planned was) ∙ has_ended_by present is

-- ---- lists that have something

some_in : {X : Type 0} (xs : List X) (x : X) → Has xs x → not (is_empty xs) ≡ true
some_in [] x h = absurd h
some_in (y ∷ ys) x h = refl

first_in : {X : Type 0} (xs : List X) → not (is_empty xs) ≡ true → (x : X) × Has xs x
first_in [] e = not_both e refl
first_in (x ∷ xs) e = (x, inl refl)

not_cell : {X : Type 0} (x : X) (xs : List X) → x ∷ xs ≢ []
not_cell x xs e = not_both {b = true} refl (ap (λ l. not (is_empty l)) e)

-- what a test shows
abbrev Says : Type 0 → Bool → Type 0
Says P b = (b ≡ true → P) × (P → b ≡ true)

numbered : {X : Type 0} (n : ℕ) (xs : List X) → Says (numbers_after n xs ≢ []) (not (is_empty xs))
numbered n [] = ((λ e. not_both e refl), λ some. absurd (some refl))
numbered n (x ∷ xs) = ((λ _. not_cell _ _), λ _. refl)

no_name : (list : List Name) → ((q : Name) → has_name list q ≡ false) → list ≡ []
no_name [] h = refl
no_name (n ∷ ns) h = not_both (ap (λ b. b || has_name ns n) (same_name_refl n)) (h n)

named : (kept : Snapshot) (ks : List ℕ) → Says (names_in kept ks ≢ []) (not (is_empty ks))
named kept [] = ((λ e. not_both e refl), λ some. absurd (some (no_name (names_in kept []) (λ q. sorted_has [] q))))
named kept (k ∷ ks) = (
  (λ _ none. not_both (sorted_has (node_name kept k ∷ map (node_name kept) ks) (node_name kept k)
      ∙ ap (λ b. b || has_name (map (node_name kept) ks) (node_name kept k)) (same_name_refl (node_name kept k)))
      (ap (λ list. has_name list (node_name kept k)) none)),
  λ _. refl,
)

-- ---- what was committed, and what was dropped

record Shows (kept : Snapshot) (t : Tenant) (a : Applied) : Type 0 where
  committed : Says (HasCommitted kept t a.made) a.has_committed
  dropped : Says (HasDropped kept t a.dropped) a.has_dropped

module _ (kept : Snapshot) (t : Tenant) where
  abbrev lives : ℕ → Bool
  lives n = option_map_or is_live (get t.allocations n) false

  is_row : (n : ℕ) (o : Option Allocation) → get t.allocations n ≡ o → option_map_or is_live o false ≡ true →
      (a : Allocation) × (get t.allocations n ≡ Some a) × (is_live a ≡ true)
  is_row n None at e = not_both e refl
  is_row n (Some a) at e = (a, at, e)

  module _ (stands : still_stands kept.job (get t.jobs kept.evaluation.job) ≡ true) where
    is_standing : Stands kept t
    is_standing = stands_current kept.job (get t.jobs kept.evaluation.job) stands

    stops_live : not (is_empty (live_stops t (plan kept).stops)) ≡ true → StopsLive kept t
    stops_live some =
        let x = first_in (live_stops t (plan kept).stops) some in
        let has = has_filter lives (plan kept).stops x.0 x.1 in
        let row = is_row x.0 (get t.allocations x.0) refl has.1 in record {
          stands = is_standing;
          number = x.0;
          is_stop = contains_from (plan kept).stops x.0 has.0;
          row = row.0;
          is_row = row.1;
          live = row.2;
        }

    live_stop : StopsLive kept t → not (is_empty (live_stops t (plan kept).stops)) ≡ true
    live_stop h = some_in (live_stops t (plan kept).stops) h.number (filter_has lives (plan kept).stops h.number
        (has_from (plan kept).stops h.number h.is_stop.0 h.is_stop.1 h.is_stop.2)
        (ap (λ (o : Option Allocation). option_map_or is_live o false) h.is_row ∙ h.live))

    shows_done : (placed : List Placement) (ks : List ℕ) → let stops = live_stops t (plan kept).stops in
        Says (HasCommitted kept t (numbers_after t.allocation_number placed)) (not (is_empty stops) || not (is_empty placed))
        × Says (HasDropped kept t (names_in kept ks)) (not (is_empty ks))
    shows_done placed ks = ((some_done, done_some), (some_left, left_some))
      where
        by_test : (not (is_empty (live_stops t (plan kept).stops)) ≡ true) ⊎ (not (is_empty placed) ≡ true) →
            HasCommitted kept t (numbers_after t.allocation_number placed)
        by_test (inl stops) = inr (stops_live stops)
        by_test (inr places) = inl ((numbered t.allocation_number placed).0 places)

        some_done : (not (is_empty (live_stops t (plan kept).stops)) || not (is_empty placed)) ≡ true →
            HasCommitted kept t (numbers_after t.allocation_number placed)
        some_done e = by_test (either_of (not (is_empty (live_stops t (plan kept).stops))) (not (is_empty placed)) e)

        or_true : (b : Bool) → (b || true) ≡ true
        or_true true = refl
        or_true false = refl

        done_some : HasCommitted kept t (numbers_after t.allocation_number placed) →
            (not (is_empty (live_stops t (plan kept).stops)) || not (is_empty placed)) ≡ true
        done_some (inl made) = ap (λ b. not (is_empty (live_stops t (plan kept).stops)) || b) ((numbered t.allocation_number placed).1 made)
            ∙ or_true (not (is_empty (live_stops t (plan kept).stops)))
        done_some (inr stops) = ap (λ b. b || not (is_empty placed)) (live_stop stops)

        some_left : not (is_empty ks) ≡ true → HasDropped kept t (names_in kept ks)
        some_left e = inl ((named kept ks).0 e)

        left_some : HasDropped kept t (names_in kept ks) → not (is_empty ks) ≡ true
        left_some (inl names) = (named kept ks).1 names
        left_some (inr not_standing) = absurd (not_standing is_standing)

  commit_shows : (w : World) → Shows kept t (commit kept (plan kept) w t)
  unfolding commit
  commit_shows w = by (still_stands kept.job (get t.jobs kept.evaluation.job)) refl
    where
      done_shows : still_stands kept.job (get t.jobs kept.evaluation.job) ≡ true → (c : Commit) → Shows kept t (done_with kept t
          (live_stops t (plan kept).stops) (plan kept).placing.placements (stop_all kept.namespace (live_stops t (plan kept).stops) w) c)
      done_shows stands c =
          let is = shows_done stands (committed_placements c (plan kept).placing.placements) c.dropped in record { committed = is.0; dropped = is.1 }

      by : (b : Bool) → still_stands kept.job (get t.jobs kept.evaluation.job) ≡ b →
          Shows kept t (cond b (done kept (plan kept) w t) (refused_whole kept (plan kept) w))
      by true stands = done_shows stands (fold (decide kept (plan kept).placing.placements)
          (begun (stop_all kept.namespace (live_stops t (plan kept).stops) w)) (nodes_in (plan kept).placing.placements))
      by false falls = record { committed = ((λ e. not_both e refl), none_done); dropped = ((λ _. inr fallen), λ _. refl) }
        where
          fallen : Stands kept t → ⊥
          fallen stands = not_both (stands_by kept.job (get t.jobs kept.evaluation.job) stands) falls

          none_done : HasCommitted kept t [] → false ≡ true
          none_done (inl made) = absurd (made refl)
          none_done (inr stops) = absurd (fallen stops.stands)

-- ---- the worker's row

module _ (kept : Snapshot) (t : Tenant) (worker : Worker) (e : Evaluation) (a : Applied) (shows : Shows kept t a) where
  unless : {P : Type 0} {b : Bool} → Says P b → b ≡ false → P → ⊥
  unless says none p = not_both (says.1 p) none

  phase_says : PhaseSays (HasDropped kept t a.dropped) (phase_after a)
  phase_says = by a.has_dropped refl
    where
      by : (b : Bool) → a.has_dropped ≡ b → PhaseSays (HasDropped kept t a.dropped) (cond b Phase.Dropped Phase.Applied)
      by true some = some_dropped (shows.dropped.0 some) refl
      by false none = none_dropped (unless shows.dropped none) refl

  counts_tries : CountsTries e.kind (HasCommitted kept t a.made) (HasDropped kept t a.dropped) worker.tries (tries_after a worker e)
  counts_tries = by a.has_committed a.has_dropped refl refl
    where
      by : (b c : Bool) → a.has_committed ≡ b → a.has_dropped ≡ c → CountsTries e.kind (HasCommitted kept t a.made) (HasDropped kept t a.dropped) worker.tries
          (cond b (tries_for e.kind) (cond c (worker.tries - 1) worker.tries))
      by true c some left = all_again (shows.committed.0 some) (has_tries e.kind)
      by false true none left = one_less (unless shows.committed none) (shows.dropped.0 left) refl
      by false false none all = as_many (unless shows.committed none) (unless shows.dropped all) refl

submitted_is : (phase : Phase) → is_submitted phase ≡ true → phase ≡ Phase.Submitted
submitted_is Phase.Took e = not_both e refl
submitted_is Phase.Snapped e = not_both e refl
submitted_is Phase.Submitted e = refl
submitted_is Phase.Applied e = not_both e refl
submitted_is Phase.Dropped e = not_both e refl

plans_settled : (w x : World) → (settle w x).plans ≡ x.plans
unfolding settle stamp number_releases wake
plans_settled w x = queues_keep (λ y. y.plans) (λ y keys. refl) (woken w x) _

-- ---- Apply

module _ (number : ℕ) (ns : Name) (s : State) where
  abbrev Applies : Content → World → Type 0
  Applies content y = IsApplied number ns (reply_of (Step.Apply number ns) content y) s (record s { world = y })

  applied_to : (t : Tenant) (worker : Worker) (e : Evaluation) (kept : Snapshot) → get s.world.tenants ns ≡ Some t → get t.workers number ≡ Some worker →
      get t.evaluations worker.evaluation ≡ Some e → worker.kept ≡ Some kept → is_submitted worker.phase ≡ true →
      let a = commit kept (plan kept) s.world t in Applies (Content.Applied a.made a.dropped) (settle s.world (marked number ns worker e a))
  applied_to t worker e kept is has at keeps submitted = record {
    before = t;
    was_there = is;
    old = worker;
    was_worker = has;
    was_in = submitted_is worker.phase submitted;
    kept = kept;
    was_kept = keeps;
    row = e;
    is_row = at;
    made = a.made;
    dropped = a.dropped;
    replied = refl;
    now = settled_rows s.world x ns (with_worker number new there.0);
    is_there = settled_tenant s.world x ns ∙ ap (λ o. option_map (settled_rows s.world x ns) o) in_x;
    worker = new;
    is_worker = ap (λ m. get m number) (stamp_keeps (λ t. t.workers) (λ i o t. refl) (get s.world.tenants ns)
        (unblocked_in (woken s.world x) ns (with_worker number new there.0))) ∙ get_put numbers one_number there.0.workers number new;
    same_evaluation = refl;
    same_snapshot = refl;
    phase = phase_says kept t worker e a (commit_shows kept t s.world);
    tries = counts_tries kept t worker e a (commit_shows kept t s.world);
    plans = subst (IsTakenOut (ns, worker.evaluation) s.world.plans) (sym (plans_settled s.world x ∙ ap (without_key (ns, worker.evaluation)) quiet.plans))
        (taken_out (ns, worker.evaluation) s.world.plans);
  }
    where
      a : Applied
      a = commit kept (plan kept) s.world t

      new : Worker
      new = applied_worker a worker e

      x : World
      x = marked number ns worker e a

      quiet : Quiet s.world a.world
      quiet = commit_carries quiet_carries kept (plan kept) s.world t

      there : (u : Tenant) × (get a.world.tenants ns ≡ Some u)
      there = let u = quiet.goes ns t is in (u.0, u.1)

      in_x : get x.tenants ns ≡ Some (with_worker number new there.0)
      in_x = ap (λ (o : Option Tenant). get (option_map_or (λ t. put_tenant ns (with_worker number new t) a.world) o a.world).tenants ns) there.1
          ∙ put_there a.world.tenants ns (with_worker number new there.0)

pub applied_counts_tries : law.AppliedCountsTries
unfolding apply
applied_counts_tries number ns s s' reply made = work_does (Step.Apply number ns) s s' reply (λ r y. IsApplied number ns r s y)
    (apply number ns s.world) (act_is (Step.Apply number ns) s refl)
    (at_work_does number ns s.world (λ content x. Applies number ns s content (settle s.world x))
    (λ t worker e. option_map_or (apply_for number ns s.world t worker e) worker.kept NotEnabled) (λ t worker e is has at.
    does_or (λ content x. Applies number ns s content (settle s.world x)) worker.kept (apply_for number ns s.world t worker e) (λ kept keeps.
    does_if (λ content x. Applies number ns s content (settle s.world x)) (is_submitted worker.phase && is_served s.world s.world.plans (ns, worker.evaluation))
    (applied number ns worker e (commit kept (plan kept) s.world t)) NotEnabled
    (λ may. applied_to number ns s t worker e kept is has at keeps (first_of_both (is_submitted worker.phase) _ may)) (λ _. tt)))) made
