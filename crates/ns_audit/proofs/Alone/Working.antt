-- A worker's step, but for Apply, goes along with a choice of owners.
use Rattle.std.specs.Prelude.{◌≡◌, ℕ, ◌+◌, Bool, true, false, cond, not, T, List, [], ◌∷◌, ◌++◌, Option, Some, None, ◌&&◌, nat_lt, nat_le, filter}
use Rattle.std.proofs.Common.{refl, sym, ap, subst, ◌∙◌}
use Rattle.std.specs.Option.{option_map_or}
use Rattle.std.specs.FinMap.{get, contains_key}
use Rattle.ns_types.specs.declared.evaluation.Evaluation.{Evaluation}
use Rattle.ns_types.specs.declared.evaluation.Status.TheVariants as Status
use Rattle.ns_types.specs.declared.reply.Content.TheVariants as Content
use Rattle.ns_types.specs.declared.snapshot.Snapshot.{Snapshot}
use Rattle.ns_types.specs.declared.worker.Phase.TheVariants as Phase
use Rattle.ns_types.specs.Working.Worker.{Worker}
use Rattle.ns_types.specs.Isolation.{Part, alone_in}
use Rattle.ns_types.specs.Settling.Making.{put_tenant, with_status}
use Rattle.ns_types.specs.State.Names.{Name, Key, same_key}
use Rattle.ns_types.specs.Settling.Outcome.{Outcome, NotEnabled}
use Rattle.ns_types.specs.Working.Queue.{is_busy, first_waiting, promote, priority_at, first_of_greatest, is_served}
use Rattle.ns_types.specs.Settling.Releases.{missed}
use Rattle.ns_types.specs.State.Rows.{World, Tenant}
use Rattle.ns_types.specs.Working.Snapshot.{snapshot_of}
use Rattle.ns_types.specs.Working.Work.{with_worker, without_worker, without_key, at_work, workers_end, is_idle, new_worker, taken, dequeue_in, dequeue}
use Rattle.ns_types.specs.Working.Work.{may_snap, with_snapshot, snap_for, snap, may_submit, submitted, submit_for, submit, end_of, needs_follower, follower_of}
use Rattle.ns_types.specs.Working.Work.{blocked_of, without_blocked, ended, with_follower, followed, may_finish, finished, finish_for, finish, is_submitted}
use Rattle.ns_types.specs.Working.Work.{most_nacks, with_nack, given_back, given_up, nack_for, nack}
use Rattle.ns_types.proofs.Named.{names, one_name, same_name_is, first_of_both, second_of_both}
use Rattle.ns_types.proofs.Tables.{any_row-retain-none}
use Rattle.ns_types.proofs.Tests.{is_no}
use Rattle.ns_audit.specs.Apart.{IsApart, IsKeptWith}
use Rattle.ns_audit.proofs.Alone.Chosen.{tenant_alone, evaluation_alone, GoesAlone, goes_then, goes_nowhere, goes_if, goes_with, goes_put, tenant_seen}
use Rattle.ns_audit.proofs.Alone.Chosen.{goes_ready, goes_plans, goes_blocked, goes_unready, goes_unblocked}
use Rattle.ns_audit.proofs.Alone.Going.{Goes, goes_disabled, goes_done, goes_by, goes_there, goes_where, goes_either}
use Rattle.ns_audit.proofs.Alone.Looking.{snapshot_alone, missed_alone}
use Rattle.ns_audit.proofs.Alone.Queueing.{served_alone}
use Rattle.ns_audit.proofs.Alone.Settling.{is_busy_alone}

-- who is served of all is served of the chosen
pub served_among : (part : Part) (w : World) (keys : List Key) (key : Key) → part.spaces key.0 ≡ true → is_served w keys key ≡ true →
    is_served (alone_in part w) (filter (λ k. part.spaces k.0) keys) key ≡ true
served_among part w keys key own e = by (first_of_greatest (priority_at w) keys) refl e
  where
    by : (k : Option Key) → first_of_greatest (priority_at w) keys ≡ k → option_map_or (same_key key) k false ≡ true →
        option_map_or (same_key key) (first_of_greatest (priority_at (alone_in part w)) (filter (λ k. part.spaces k.0) keys)) false ≡ true
    by None is e = absurd (subst T (sym e) tt)
    by (Some k) is e = ap (λ o. option_map_or (same_key key) o false)
        (served_alone (priority_at w) (priority_at (alone_in part w)) (λ k. part.spaces k.0) keys k
        (λ j mine. ap (λ o. option_map_or (λ e. e.priority) o 0) (sym (evaluation_alone part w j mine))) is
        (ap part.spaces (sym (same_name_is key.0 k.0 (first_of_both _ _ e))) ∙ own)) ∙ e

idle_among : (part : Part) (w : World) (number : ℕ) → is_idle w number ≡ true → is_idle (alone_in part w) number ≡ true
idle_among part w number e = ap not (any_row-retain-none names one_name (λ ns t. contains_key t.workers number) w.tenants part.spaces (is_no _ e))

module _ (part : Part) (b : Bool) (ns : Name) (side : part.spaces ns ≡ b) where
  goes_promote : (job : Name) → GoesAlone part b (promote ns job)
  unfolding promote
  goes_promote job = goes_if part b (λ w. is_busy w ns job) (λ w. w)
      (λ w. option_map_or (λ t. option_map_or (λ n. record w { ready = w.ready ++ (ns, n) ∷ [] }) (first_waiting job t) w) (get w.tenants ns) w)
      (λ w own. is_busy_alone part w ns job (side ∙ own)) (goes_nowhere part b)
      (goes_with part b (λ w. get w.tenants ns) (λ t w. option_map_or (λ n. record w { ready = w.ready ++ (ns, n) ∷ [] }) (first_waiting job t) w)
      (tenant_seen part b ns side)
      (λ t. goes_with part b (λ _. first_waiting job t) (λ n w. record w { ready = w.ready ++ (ns, n) ∷ [] }) (λ w own. refl) (goes_ready part b ns side)))

  goes_without_blocked : (job : Name) (t : Tenant) → GoesAlone part b (without_blocked ns job t)
  goes_without_blocked job t = goes_with part b (λ _. blocked_of t job) (λ n w. record w { blocked = without_key (ns, n) w.blocked }) (λ w own. refl)
      (goes_unblocked part b ns side)

  goes_followed : (worker : Worker) (follower : Evaluation) (t : Tenant) (late : Bool) → GoesAlone part b (followed ns worker follower t late)
  goes_followed worker follower t true = goes_put part b ns side (with_follower worker.evaluation (record follower { status = Status.Pending }) t)
  goes_followed worker follower t false = goes_then part b (put_tenant ns (with_follower worker.evaluation follower t))
      (λ w. record w { blocked = w.blocked ++ (ns, t.evaluation_number + 1) ∷ [] })
      (goes_put part b ns side (with_follower worker.evaluation follower t)) (goes_blocked part b ns side (t.evaluation_number + 1))

  -- what a busy worker does
  pub at_work_goes : (number : ℕ) (w : World) (act act' : Tenant → Worker → Evaluation → Outcome World)
      → ((t : Tenant) (worker : Worker) (e : Evaluation) → get w.tenants ns ≡ Some t → get t.workers number ≡ Some worker →
      get t.evaluations worker.evaluation ≡ Some e → Goes part w b (act t worker e) (act' t worker e))
      → Goes part w b (at_work number ns w act) (at_work number ns (alone_in part w) act')
  at_work_goes number w act act' h = goes_there part w b (get w.tenants ns) (get (alone_in part w).tenants ns) _ _ (λ own. tenant_alone part w ns (side ∙ own))
      (λ t is.
      goes_there part w b (get t.workers number) _ _ _ (λ _. refl) (λ worker at.
      goes_there part w b (get t.evaluations worker.evaluation) _ (act t worker) (act' t worker) (λ _. refl) (λ e row. h t worker e is at row)))

  -- with the snapshot that it keeps
  pub at_work_keeping : (number : ℕ) (w : World) (act act' : Tenant → Worker → Evaluation → Snapshot → Outcome World) → IsApart part w
      → ((t : Tenant) (worker : Worker) (e : Evaluation) (kept : Snapshot) → get w.tenants ns ≡ Some t → get t.workers number ≡ Some worker →
      get t.evaluations worker.evaluation ≡ Some e
      → IsKeptWith part ns kept → Goes part w b (act t worker e kept) (act' t worker e kept))
      → Goes part w b (at_work number ns w (λ t worker e. option_map_or (act t worker e) worker.kept NotEnabled))
      (at_work number ns (alone_in part w) (λ t worker e. option_map_or (act' t worker e) worker.kept NotEnabled))
  at_work_keeping number w act act' apart h = at_work_goes number w (λ t worker e. option_map_or (act t worker e) worker.kept NotEnabled)
      (λ t worker e. option_map_or (act' t worker e) worker.kept NotEnabled) (λ t worker e is at row.
      goes_there part w b worker.kept worker.kept (act t worker e) (act' t worker e) (λ _. refl)
      (λ kept has. h t worker e kept is at row (apart.kept ns t number worker kept is at has)))

  -- ---- Dequeue

  goes_taken : (number n : ℕ) (t : Tenant) (e : Evaluation) → GoesAlone part b (λ w. taken number (ns, n) w t e)
  goes_taken number n t e = goes_then part b (put_tenant ns (with_worker number (new_worker n e) t)) (λ w. record w { ready = without_key (ns, n) w.ready })
      (goes_put part b ns side (with_worker number (new_worker n e) t)) (goes_unready part b ns side n)

  pub dequeue_goes : (w : World) (number n : ℕ) → Goes part w b (dequeue number (ns, n) w) (dequeue number (ns, n) (alone_in part w))
  unfolding dequeue
  dequeue_goes w number n = goes_where part w b (nat_lt number workers_end && is_idle w number && is_served w w.ready (ns, n)) _ _ _
      (λ own. kept own (nat_lt number workers_end)) (λ _.
      goes_there part w b (get w.tenants ns) (get (alone_in part w).tenants ns) (dequeue_in number (ns, n) w) (dequeue_in number (ns, n) (alone_in part w))
      (λ own. tenant_alone part w ns (side ∙ own)) (λ t is.
      goes_there part w b (get t.evaluations n) _ _ _ (λ _. refl)
      (λ e row. goes_by part w b (Content.Took n) (λ x. taken number (ns, n) x t e) (goes_taken number n t e))))
    where
      kept : b ≡ true → (c : Bool) → (c && is_idle w number && is_served w w.ready (ns, n)) ≡ true →
          (c && is_idle (alone_in part w) number && is_served (alone_in part w) (alone_in part w).ready (ns, n)) ≡ true
      kept own false e = e
      kept own true e = λ i. idle_among part w number (first_of_both _ _ e) i
          && served_among part w w.ready (ns, n) (side ∙ own) (second_of_both (is_idle w number) _ e) i

  module _ (w : World) (apart : IsApart part w) where
    -- ---- Snap

    pub snap_goes : (number : ℕ) → Goes part w b (snap number ns w) (snap number ns (alone_in part w))
    unfolding snap
    snap_goes number = at_work_goes number w (snap_for number ns w) (snap_for number ns (alone_in part w)) (λ t worker e is at row.
        goes_where part w b (may_snap worker.tries worker.phase) _ _ _ (λ _ e. e)
        (λ _. goes_done part w b _ _ _ _ (λ _. refl) (by t worker e is at row b refl)))
      where
        with : World → Tenant → Worker → Evaluation → World → World
        with x t worker e y = put_tenant ns (with_worker number (with_snapshot (snapshot_of x ns t worker.evaluation e) worker) t) y

        by : (t : Tenant) (worker : Worker) (e : Evaluation) → get w.tenants ns ≡ Some t → get t.workers number ≡ Some worker →
            get t.evaluations worker.evaluation ≡ Some e → (s : Bool) → b ≡ s
            → alone_in part (with w t worker e w) ≡ cond s (with (alone_in part w) t worker e (alone_in part w)) (alone_in part w)
        by t worker e is at row s of_b = goes_put part s ns (side ∙ of_b) (with_worker number (with_snapshot (snapshot_of w ns t worker.evaluation e) worker) t)
            w ∙ seen s of_b
          where
            seen : (s : Bool) → b ≡ s → cond s (with w t worker e (alone_in part w)) (alone_in part w) ≡ cond s
                (with (alone_in part w) t worker e (alone_in part w)) (alone_in part w)
            seen true own = ap (λ kept. put_tenant ns (with_worker number (with_snapshot kept worker) t) (alone_in part w))
                (snapshot_alone part w apart ns t number worker e (side ∙ own) is at row)
            seen false other = refl

    -- ---- Submit

    pub submit_goes : (number : ℕ) → Goes part w b (submit number ns w) (submit number ns (alone_in part w))
    unfolding submit
    submit_goes number = at_work_keeping number w (λ t worker e. submit_for number ns w t worker)
        (λ t worker e. submit_for number ns (alone_in part w) t worker) apart (λ t worker e kept is at row with.
        goes_where part w b (may_submit worker kept) _ _ _ (λ _ e. e)
        (λ _. goes_by part w b (Content.Queued worker.evaluation) (λ x. submitted number ns x t worker)
        (goes_then part b (put_tenant ns (with_worker number (record worker { phase = Phase.Submitted }) t))
        (λ x. record x { plans = x.plans ++ (ns, worker.evaluation) ∷ [] }) (goes_put part b ns side _) (goes_plans part b ns side worker.evaluation))))

    -- ---- Finish

    finishing_goes : (number : ℕ) (t : Tenant) (worker : Worker) (e : Evaluation) (kept : Snapshot) → IsKeptWith part ns kept →
        Goes part w b (finished number ns w t worker e kept) (finished number ns (alone_in part w) t worker e kept)
    finishing_goes number t worker e kept with = goes_either part w b (needs_follower worker kept) _ _ _ _ _ (λ _. refl)
        (λ _. goes_done part w b _ _ _ _ (λ _. refl) (by b refl))
        (λ _. goes_by part w b (Content.Finished (end_of worker) None) (λ x. promote ns e.job (put_tenant ns t' (without_blocked ns e.job t x)))
        (goes_then part b (λ x. put_tenant ns t' (without_blocked ns e.job t x)) (promote ns e.job)
        (goes_then part b (without_blocked ns e.job t) (put_tenant ns t') (goes_without_blocked e.job t) (goes_put part b ns side t'))
        (goes_promote e.job)))
      where
        t' : Tenant
        t' = ended number worker e (end_of worker) t

        follower : Evaluation
        follower = follower_of e worker kept

        after_it : Bool → World → World
        after_it late x = promote ns e.job (followed ns worker follower t' late (without_blocked ns e.job t x))

        goes_after_it : (late : Bool) → GoesAlone part b (after_it late)
        goes_after_it late = goes_then part b (λ x. followed ns worker follower t' late (without_blocked ns e.job t x)) (promote ns e.job)
            (goes_then part b (without_blocked ns e.job t) (followed ns worker follower t' late) (goes_without_blocked e.job t)
            (goes_followed worker follower t' late)) (goes_promote e.job)

        by : (s : Bool) → b ≡ s → alone_in part (after_it (missed w kept follower) w) ≡ cond s
            (after_it (missed (alone_in part w) kept follower) (alone_in part w)) (alone_in part w)
        by s of_b = goes_after_it (missed w kept follower) w ∙ ap (λ c. cond c (after_it (missed w kept follower) (alone_in part w)) (alone_in part w)) of_b ∙
            seen s of_b
          where
            seen : (s : Bool) → b ≡ s → cond s (after_it (missed w kept follower) (alone_in part w)) (alone_in part w) ≡ cond s
                (after_it (missed (alone_in part w) kept follower) (alone_in part w)) (alone_in part w)
            seen true own = ap (λ late. after_it late (alone_in part w)) (sym (missed_alone part w ns e worker kept (side ∙ own) with))
            seen false other = refl

    pub finish_goes : (number : ℕ) → Goes part w b (finish number ns w) (finish number ns (alone_in part w))
    unfolding finish
    finish_goes number = at_work_keeping number w (finish_for number ns w) (finish_for number ns (alone_in part w)) apart (λ t worker e kept is at row with.
        goes_where part w b (may_finish worker kept) _ _ _ (λ _ e. e) (λ _. finishing_goes number t worker e kept with))

  -- ---- Nack

  pub nack_goes : (w : World) (number : ℕ) → Goes part w b (nack number ns w) (nack number ns (alone_in part w))
  unfolding nack
  nack_goes w number = at_work_goes number w (nack_for number ns w) (nack_for number ns (alone_in part w))
      (λ t worker e is at row. by t worker e (is_submitted worker.phase))
    where
      back : (t : Tenant) (worker : Worker) → Goes part w b (given_back number ns w t worker) (given_back number ns (alone_in part w) t worker)
      back t worker = goes_by part w b (Content.Nacked Status.Pending)
          (λ x. record (put_tenant ns (without_worker number t) x) { ready = x.ready ++ (ns, worker.evaluation) ∷ [] })
          (goes_then part b (put_tenant ns (without_worker number t)) (λ x. record x { ready = x.ready ++ (ns, worker.evaluation) ∷ [] })
          (goes_put part b ns side (without_worker number t)) (goes_ready part b ns side worker.evaluation))

      up : (t : Tenant) (worker : Worker) (e : Evaluation) → Goes part w b (given_up number ns w t worker e) (given_up number ns (alone_in part w) t worker e)
      up t worker e = goes_by part w b (Content.Nacked Status.Failed)
          (λ x. promote ns e.job (put_tenant ns (with_status worker.evaluation Status.Failed (without_worker number t)) x))
          (goes_then part b (put_tenant ns (with_status worker.evaluation Status.Failed (without_worker number t))) (promote ns e.job)
          (goes_put part b ns side _) (goes_promote e.job))

      by : (t : Tenant) (worker : Worker) (e : Evaluation) (c : Bool)
          → Goes part w b (cond c NotEnabled (cond (nat_le most_nacks (e.nacks + 1)) (given_up number ns w (with_nack worker.evaluation e t) worker e)
          (given_back number ns w (with_nack worker.evaluation e t) worker)))
          (cond c NotEnabled (cond (nat_le most_nacks (e.nacks + 1)) (given_up number ns (alone_in part w) (with_nack worker.evaluation e t) worker e)
          (given_back number ns (alone_in part w) (with_nack worker.evaluation e t) worker)))
      by t worker e true = goes_disabled part w b NotEnabled
      by t worker e false = goes_either part w b (nat_le most_nacks (e.nacks + 1)) _ _ _ _ _ (λ _. refl) (λ _. up (with_nack worker.evaluation e t) worker e)
          (λ _. back (with_nack worker.evaluation e t) worker)
