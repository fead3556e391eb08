-- A job's own allocations in a snapshot, and what an Apply stops: they are of the job, in each state that is reached.
use Rattle.std.specs.Prelude.{◌≡◌, ◌⊎◌, ℕ, Bool, true, false, ◌&&◌, ◌||◌, List, [], ◌∷◌, Option, Some, None, Ok, Err, filter}
use Rattle.std.proofs.Common.{inl, inr, refl, sym, ap, subst, ◌∙◌}
use Rattle.std.specs.FinMap.{get, entries, get-empty}
use Rattle.std.specs.Option.{option_and_then}
use Rattle.std.specs.Ordering.{nat_cmp}
use Rattle.ns_types.specs.declared.allocation.Allocation.{Allocation}
use Rattle.ns_types.specs.declared.snapshot.OwnAllocation.{OwnAllocation}
use Rattle.ns_types.specs.declared.snapshot.Snapshot.{Snapshot}
use Rattle.ns_types.specs.declared.step.Step.{Step}
use Rattle.ns_types.specs.Placing.Plan.{plan}
use Rattle.ns_types.specs.Settling.Releases.{woken}
use Rattle.ns_types.specs.Settling.Settle.{unblocked_in}
use Rattle.ns_types.specs.State.Lists.{Each}
use Rattle.ns_types.specs.State.Names.{Key, Name, default_name, same_name}
use Rattle.ns_types.specs.State.Rows.{State, Tenant, World, allocation_at, evaluation_at, is_live}
use Rattle.ns_types.specs.Steps.{Answer, Run, after, opening, opening_tenant, said}
use Rattle.ns_types.specs.Validity.{IsSoundSnapshot, IsValid}
use Rattle.ns_types.specs.Within.{IsGoodStep}
use Rattle.ns_types.specs.Working.Looks.{worker_at}
use Rattle.ns_types.specs.Working.Snapshot.{is_done_for}
use Rattle.ns_types.proofs.Elements.{each_kept, each_mapped, each_of}
use Rattle.ns_types.proofs.Lists.{not_both}
use Rattle.ns_types.proofs.Named.{first_of_both, numbers, one_number, same_name_is}
use Rattle.ns_types.proofs.Tables.{each_row}
use Rattle.ns_types.proofs.Tests.{not_Some, same_Some}
use Rattle.ns_audit.proofs.Steady.Opening.{only_row}
use Rattle.ns_audit.proofs.StepLemmas.{refusal_leaves_all}
use Rattle.ns_audit.proofs.Valid.{opening_is_valid, reached_is_valid, valid_step}
use Rattle.ns_laws.specs.Ending.{Ends, IsDeletionOf, IsPlannedStop, IsSameAllocation, evicted, lost, planned, reported, requested}
use Rattle.ns_laws.specs.Planning as law
use Rattle.ns_laws.specs.Planning.{EndsInApply, IsOwnStill, IsOwnStop, IsToStop, SnapshotsAreOwn}
use Rattle.ns_laws.proofs.Effect.Admins.{deleted_namespace_is_gone}
use Rattle.ns_laws.proofs.Elements.{each_has, has_from}
use Rattle.ns_laws.proofs.Endings.Laws.{allocation_is_fixed, ends_only_so, gone_with_namespace, same_allocation_itself, same_allocation_then}
use Rattle.ns_laws.proofs.Index.StepRows.{Closes, Comes, IsKept, IsSnapOf, WalksIn, act_walks, begins, closes, goes}
use Rattle.ns_laws.proofs.Plans.ApplyRows.{each_slice}
use Rattle.ns_laws.proofs.Plans.Planning.{stops_not_wanted}
use Rattle.ns_laws.proofs.Service.Lists.{worker_in}
use Rattle.ns_laws.proofs.Wakes.Reasons.{stamped_workers}

-- ---- a step

-- a snapshot of the namespace as it is has its allocations
own_now : (w : World) (ns : Name) (t : Tenant) (kept : Snapshot) → IsSnapOf w ns t kept → Each (IsOwnStill t kept.evaluation.job) kept.own
own_now w ns t kept snap = subst (λ (k : Snapshot). Each (IsOwnStill t k.evaluation.job) k.own) snap.is_snap
    (each_mapped (IsOwnStill t id) (λ (a : ℕ × Allocation). record { number = a.0; row = a.1 }) (filter p (entries t.allocations))
    (each_of (λ (a : ℕ × Allocation). (get t.allocations a.0 ≡ Some a.1) × (p a ≡ true))
    (λ (a : ℕ × Allocation). IsOwnStill t id (record { number = a.0; row = a.1 }))
    (λ a h. record {
      row = a.1;
      is_row = h.0;
      of_job = sym (same_name_is id a.1.job (first_of_both (same_name id a.1.job) _ h.1));
      same = same_allocation_itself a.1;
    })
    (filter p (entries t.allocations)) (each_kept (λ (a : ℕ × Allocation). get t.allocations a.0 ≡ Some a.1) p (entries t.allocations)
    (each_row numbers one_number (λ n a. get t.allocations n ≡ Some a) t.allocations (λ n a at. at)))))
  where
    id : Name
    id = snap.row.job

    p : ℕ × Allocation → Bool
    p a = same_name id a.1.job && (is_live a.1 || is_done_for (get t.jobs id) a.1)

module _ (step : Step) (s s' : State) (answer : Answer) (valid : IsValid s) (e : after step s ≡ said answer s') (ns : Name) (old now : Tenant)
    (was : get s.world.tenants ns ≡ Some old) (is : get s'.world.tenants ns ≡ Some now) where
  -- the namespace is not deleted
  not_deleted : IsDeletionOf step ns → s' ≡ s ⊎ ⊥
  not_deleted d = by answer e
    where
      by : (a : Answer) → after step s ≡ said a s' → s' ≡ s ⊎ ⊥
      by (Err refusal) e = inl (refusal_leaves_all step s s' refusal e)
      by (Ok reply) e = inr (not_Some now (sym (deleted_namespace_is_gone d.0 ns s s' reply (ap (λ step. after step s) (sym d.1) ∙ e)).0 ∙ is))

  -- an allocation stays
  allocation_on : (n : ℕ) (a : Allocation) → get old.allocations n ≡ Some a → (b : Allocation) × (get now.allocations n ≡ Some b) × IsSameAllocation a b
  allocation_on n a at = by (get now.allocations n) refl
    where
      before : allocation_at s.world (ns, n) ≡ Some a
      before = ap (option_and_then (λ (t : Tenant). get t.allocations n)) was ∙ at

      later : (o : Option Allocation) → get now.allocations n ≡ o → allocation_at s'.world (ns, n) ≡ o
      later o there = ap (option_and_then (λ (t : Tenant). get t.allocations n)) is ∙ there

      gone : get now.allocations n ≡ None → s' ≡ s ⊎ ⊥ → ⊥
      gone none (inl same) = not_Some a (sym (later None none) ∙ ap (λ (y : State). allocation_at y.world (ns, n)) same ∙ before)
      gone none (inr never) = never

      by : (o : Option Allocation) → get now.allocations n ≡ o → (b : Allocation) × (get now.allocations n ≡ Some b) × IsSameAllocation a b
      by None none = absurd (gone none (not_deleted (gone_with_namespace s s' step answer (ns, n) a valid e before (later None none)).1))
      by (Some b) there = (b, there, allocation_is_fixed s s' step answer (ns, n) a b valid e before (later (Some b) there))

  own_on : (job : Name) (own : OwnAllocation) → IsOwnStill old job own → IsOwnStill now job own
  own_on job own o =
      let b = allocation_on own.number o.row o.is_row in
      record { row = b.0; is_row = b.1; of_job = b.2.job ∙ o.of_job; same = same_allocation_then own.row o.row b.0 o.same b.2 }

snapshots_stay_own : (step : Step) (s s' : State) (answer : Answer) → IsValid s → after step s ≡ said answer s' →
    SnapshotsAreOwn s.world → SnapshotsAreOwn s'.world
snapshots_stay_own step s s' answer valid e all ns now number worker kept at has keeps =
    by (closes step s s' answer (WalksIn s valid.world) ns now (act_walks s valid.world step) e at)
  where
    on : (old : Tenant) → get s.world.tenants ns ≡ Some old → Each (IsOwnStill old kept.evaluation.job) kept.own →
        Each (IsOwnStill now kept.evaluation.job) kept.own
    on old was h = each_of (IsOwnStill old kept.evaluation.job) (IsOwnStill now kept.evaluation.job)
        (own_on step s s' answer valid e ns old now was at kept.evaluation.job) kept.own h

    kept_or_taken : (t : Tenant) → get s.world.tenants ns ≡ Some t → IsKept t kept ⊎ IsSnapOf s.world ns t kept →
        Each (IsOwnStill now kept.evaluation.job) kept.own
    kept_or_taken t is (inl k) = on t is (all ns t k.number k.worker kept is k.is_worker k.keeps)
    kept_or_taken t is (inr snap) = on t is (own_now s.world ns t kept snap)

    by : (s' ≡ s) ⊎ Closes step s s' answer (WalksIn s valid.world) ns now → Each (IsOwnStill now kept.evaluation.job) kept.own
    by (inl same) = all ns now number worker kept (ap (λ (y : State). get y.world.tenants ns) (sym same) ∙ at) has keeps
    by (inr c) = came (c.holds ns c.rows c.is_own)
      where
        k : IsKept c.rows kept
        k = record {
          number = number;
          worker = worker;
          is_worker = ap (λ m. get m number) (sym (stamped_workers (get s.world.tenants ns) (unblocked_in (woken s.world c.own.world) ns c.rows))
              ∙ ap (λ (t : Tenant). t.workers) c.is_now) ∙ has;
          keeps = keeps;
        }

        came : Comes s.world ns c.rows → Each (IsOwnStill now kept.evaluation.job) kept.own
        came (begins none empty) = absurd (empty kept k)
        came (goes t is g) = kept_or_taken t is (g.snapshots kept k)

-- ---- runs

run_stays_own : (s s' : State) (steps : List Step) (answers : List Answer) → IsValid s → Each IsGoodStep steps → Run s steps answers s' →
    SnapshotsAreOwn s.world → SnapshotsAreOwn s'.world
run_stays_own s s' [] [] valid good run all = subst (λ (y : State). SnapshotsAreOwn y.world) (sym run) all
run_stays_own s s' [] (answer ∷ answers) valid good run all = absurd run
run_stays_own s s' (step ∷ steps) [] valid good run all = absurd run
run_stays_own s s' (step ∷ steps) (answer ∷ answers) valid good run all = run_stays_own run.0 s' steps answers
    (valid_step s run.0 step answer valid good.0 run.1) good.1 run.2 (snapshots_stay_own step s run.0 answer valid run.1 all)

opening_is_own : (secret : Name) → SnapshotsAreOwn (opening secret).world
unfolding opening
opening_is_own secret ns t number worker kept is has keeps =
    absurd (not_Some worker (sym (get-empty nat_cmp number) ∙ ap (λ (t : Tenant). get t.workers number) (only_row default_name opening_tenant ns t is) ∙ has))

pub snapshots_keep_own_job : law.SnapshotsKeepOwnJob
snapshots_keep_own_job secret s steps answers named good run =
    run_stays_own (opening secret) s steps answers (opening_is_valid secret named) good run (opening_is_own secret)

-- ---- Apply

is_apply : Step → Bool
is_apply (Step.Apply number ns) = true
is_apply _ = false

applied_in : Name → Step → Name
applied_in other (Step.Apply number ns) = ns
applied_in other _ = other

applied_by : Step → ℕ
applied_by (Step.Apply number ns) = number
applied_by _ = 0

module _ (s : State) (valid : IsValid s) (all : SnapshotsAreOwn s.world) (number : ℕ) (ns : Name)
    (key : Key) (a : Allocation) (at : allocation_at s.world key ≡ Some a) where
  own_stop : IsPlannedStop s.world (Step.Apply number ns) key → IsOwnStop s.world number ns key a
  unfolding applied_in applied_by
  own_stop p =
      let in_namespace : ns ≡ key.0 = ap (applied_in ns) p.applies.is_apply in
      let by_worker : number ≡ p.applies.number = ap applied_by p.applies.is_apply in
      let t = worker_in s.world p.applies.number key.0 p.applies.worker p.applies.is_worker in
      let sound : IsSoundSnapshot s.world key.0 t.0 p.applies.worker p.kept =
      ((valid.world.tenant key.0 t.0 t.1).worker p.applies.number p.applies.worker t.2).snapshot p.kept p.applies.is_kept in
      let stop : IsToStop p.kept key.1 = each_has (IsToStop p.kept) (plan p.kept).stops key.1
      (has_from (plan p.kept).stops key.1 p.is_stop.0 p.is_stop.1 p.is_stop.2) (stops_not_wanted p.kept) in
      let own : IsOwnStill t.0 p.kept.evaluation.job stop.row =
      each_slice (IsOwnStill t.0 p.kept.evaluation.job) p.kept.own
      (all key.0 t.0 p.applies.number p.applies.worker p.kept t.1 t.2 p.applies.is_kept) stop.place stop.row stop.is_row in
      let row : own.row ≡ a = same_Some own.row a (sym own.is_row ∙ ap (get t.0.allocations) stop.number
      ∙ sym (ap (option_and_then (λ (t : Tenant). get t.allocations key.1)) t.1) ∙ at) in
      record {
        worker = p.applies.worker;
        is_worker = (λ i. worker_at s.world (by_worker i) (in_namespace i)) ∙ p.applies.is_worker;
        kept = p.kept;
        is_kept = p.applies.is_kept;
        is_stop = p.is_stop;
        in_namespace = sym in_namespace;
        evaluation = p.kept.evaluation;
        is_evaluation = ap (λ k. evaluation_at s.world (k, p.applies.worker.evaluation)) in_namespace
            ∙ ap (option_and_then (λ (t : Tenant). get t.evaluations p.applies.worker.evaluation)) t.1 ∙ sound.row;
        of_job = ap (λ (a : Allocation). a.job) (sym row) ∙ own.of_job;
      }

  ends_in_apply : (b : Allocation) → Ends s.world (Step.Apply number ns) key a b → EndsInApply s.world number ns key a b
  unfolding is_apply
  ends_in_apply b (requested by desired client) = not_both refl (ap is_apply by.1)
  ends_in_apply b (planned by desired client) = law.stopped (own_stop by) desired
  ends_in_apply b (evicted by desired client) = law.evicted by desired
  ends_in_apply b (reported by desired stops) = not_both refl (ap is_apply by.1)
  ends_in_apply b (lost by desired client) = not_both refl (ap is_apply by.1)

pub stops_own_job : law.StopsOwnJob
stops_own_job secret s s' steps answers number ns reply key a b named good run made lives there dead =
    by r.2
  where
    valid : IsValid s
    valid = reached_is_valid secret s steps answers named good run

    r : (c : Allocation) × (allocation_at s'.world key ≡ Some c) × ((is_live c ≡ true) ⊎ Ends s.world (Step.Apply number ns) key a c)
    r = ends_only_so s s' (Step.Apply number ns) (Ok reply) key a valid made lives

    same : r.0 ≡ b
    same = same_Some r.0 b (sym r.1 ∙ there)

    by : (is_live r.0 ≡ true) ⊎ Ends s.world (Step.Apply number ns) key a r.0 → EndsInApply s.world number ns key a b
    by (inl live) = not_both (ap is_live (sym same) ∙ live) dead
    by (inr ends) = subst (EndsInApply s.world number ns key a) same
        (ends_in_apply s valid (snapshots_keep_own_job secret s steps answers named good run) number ns key a lives.0 r.0 ends)
