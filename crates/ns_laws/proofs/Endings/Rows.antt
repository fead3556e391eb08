-- Changes that leave every allocation as it is: requests but those to stop one, and a worker's steps but Apply.
use Rattle.std.specs.Prelude.{◌≡◌, ℕ, ◌+◌, Bool, true, false, cond, Option, Some, None, ◌&&◌, nat_le, nat_lt}
use Rattle.std.proofs.Common.{refl, sym, ap, subst, ◌∙◌}
use Rattle.std.specs.FinMap.{get, insert}
use Rattle.std.specs.Option.{option_map_or, option_and_then}
use Rattle.ns_types.specs.declared.allocation.Allocation.{Allocation}
use Rattle.ns_types.specs.declared.evaluation.Evaluation.{Evaluation}
use Rattle.ns_types.specs.declared.evaluation.Status.{Status}
use Rattle.ns_types.specs.declared.reply.Content.TheVariants as Content
use Rattle.ns_types.specs.declared.snapshot.Snapshot.{Snapshot}
use Rattle.ns_types.specs.declared.worker.Phase.TheVariants as Phase
use Rattle.ns_types.specs.Settling.Making.{put_tenant, with_status, with_evaluation, make_in, make}
use Rattle.ns_types.specs.Settling.Outcome.{NotEnabled, Done}
use Rattle.ns_types.specs.Settling.Releases.{missed}
use Rattle.ns_types.specs.State.Names.{Name, Key, same_name}
use Rattle.ns_types.specs.State.Rows.{World, Tenant, allocation_at}
use Rattle.ns_types.specs.Working.Queue.{promote, is_served}
use Rattle.ns_types.specs.Working.Snapshot.{snapshot_of}
use Rattle.ns_types.specs.Working.Work.{with_worker, without_worker, workers_end, is_idle, new_worker, taken, dequeue_in, dequeue}
use Rattle.ns_types.specs.Working.Work.{may_snap, with_snapshot, snap_for, snap, may_submit, submitted, submit_for, submit, may_finish, end_of, needs_follower}
use Rattle.ns_types.specs.Working.Work.{follower_of, without_blocked, ended, with_follower, followed, finished, finish_for}
use Rattle.ns_types.specs.Working.Work.{finish, is_submitted, most_nacks, with_nack, given_back, given_up, nack_for, nack}
use Rattle.ns_types.specs.Working.Worker.{Worker}
use Rattle.ns_types.proofs.Leads.{Leads, leads_there, leads_if, leads_at_work, leads_keeping}
use Rattle.ns_types.proofs.Named.{names, one_name, same_name_is}
use Rattle.ns_types.proofs.Queue.{queue_keeps}
use Rattle.ns_types.proofs.TableRows.{get_put, get_other}
use Rattle.ns_audit.proofs.ValidAllocations.Work.{unlisted_tenants}
use Rattle.ns_audit.proofs.Held.Work.{status_leaves, ended_leaves, tied_leaves}
use Rattle.ns_laws.proofs.QueueLemmas.{promote_part}

-- the allocation with that number
abbrev pub row_at : ℕ → Option Tenant → Option Allocation
row_at n o = option_and_then (λ t. get t.allocations n) o

-- ---- one namespace has other rows

module _ (P : Key → Option Allocation → Option Allocation → Type 0) (still : (key : Key) (o : Option Allocation) → P key o o) where
  pub moves_put : (w : World) (ns : Name) (t t' : Tenant) → get w.tenants ns ≡ Some t →
      ((n : ℕ) → P (ns, n) (get t.allocations n) (get t'.allocations n)) →
      (key : Key) → P key (allocation_at w key) (allocation_at (put_tenant ns t' w) key)
  moves_put w ns t t' is moves key = by (same_name key.0 ns) refl
    where
      by : (b : Bool) → same_name key.0 ns ≡ b → P key (allocation_at w key) (allocation_at (put_tenant ns t' w) key)
      by true e = subst (λ (k : Name). P (k, key.1) (allocation_at w (k, key.1)) (allocation_at (put_tenant ns t' w) (k, key.1)))
          (sym (same_name_is key.0 ns e))
          (subst (λ (q : Option Tenant × Option Tenant). P (ns, key.1) (row_at key.1 q.0) (row_at key.1 q.1))
          (λ i. (sym is i, sym (get_put names one_name w.tenants ns t') i)) (moves key.1))
      by false e = subst (λ (o : Option Tenant). P key (allocation_at w key) (row_at key.1 o))
          (sym (get_other names one_name w.tenants ns t' key.0 e)) (still key (allocation_at w key))

-- ---- every allocation is as it was

abbrev pub Same : World → World → Type 0
Same w x = (key : Key) → allocation_at x key ≡ allocation_at w key

pub same_still : (w : World) → Same w w
same_still w key = refl

pub same_tenants : (w x : World) → x.tenants ≡ w.tenants → Same w x
same_tenants w x same key = ap (λ m. option_and_then (λ (t : Tenant). get t.allocations key.1) (get m key.0)) same

pub same_then : (w x y : World) → Same w x → Same x y → Same w y
same_then w x y a b key = b key ∙ a key

pub same_put : (w x : World) (ns : Name) (t t' : Tenant) → get w.tenants ns ≡ Some t → t'.allocations ≡ t.allocations →
    x.tenants ≡ (put_tenant ns t' w).tenants → Same w x
same_put w x ns t t' is same tenants = same_then w (put_tenant ns t' w) x
    (moves_put (λ key o o'. o' ≡ o) (λ key o. refl) w ns t t' is (λ n. ap (λ m. get m n) same)) (same_tenants (put_tenant ns t' w) x tenants)

pub made_in_tenants : (w : World) (ns : Name) (e : Evaluation) (t : Tenant) → (make_in ns e w t).tenants ≡ (put_tenant ns (with_evaluation e t) w).tenants
made_in_tenants w ns e t = queue_keeps (λ x. x.tenants) (λ x keys. refl) (put_tenant ns (with_evaluation e t) w) (ns, t.evaluation_number + 1)

pub same_make_in : (w : World) (ns : Name) (e : Evaluation) (t t' : Tenant) → get w.tenants ns ≡ Some t → t'.allocations ≡ t.allocations →
    Same w (make_in ns e w t')
same_make_in w ns e t t' is same = same_put w (make_in ns e w t') ns t (with_evaluation e t') is same (made_in_tenants w ns e t')

pub same_make : (ns : Name) (evaluation : Tenant → Evaluation) (w : World) → Same w (make ns evaluation w)
same_make ns evaluation w = by (get w.tenants ns) refl
  where
    by : (o : Option Tenant) → get w.tenants ns ≡ o → Same w (option_map_or (λ t. make_in ns (evaluation t) w t) o w)
    by None is = same_still w
    by (Some t) is = same_make_in w ns (evaluation t) t t is refl

-- ---- a worker's steps

module _ (w : World) (number : ℕ) where
  pub dequeue_same : (key : Key) → Leads (Same w) (dequeue number key w)
  unfolding dequeue
  dequeue_same key = leads_if (Same w) (nat_lt number workers_end && is_idle w number && is_served w w.ready key)
      (option_map_or (dequeue_in number key w) (get w.tenants key.0) NotEnabled) NotEnabled (λ _.
      leads_there (Same w) (get w.tenants key.0) (dequeue_in number key w) (λ t is. leads_there (Same w) (get t.evaluations key.1) _ (λ e _.
      same_put w (taken number key w t e) key.0 t (with_worker number (new_worker key.1 e) t) is refl refl))) (λ _. tt)

  module _ (ns : Name) where
    pub snap_same : Leads (Same w) (snap number ns w)
    unfolding snap
    snap_same = leads_at_work (Same w) number ns w (snap_for number ns w) (λ t worker e is _ _.
        by t is worker (may_snap worker.tries worker.phase) (with_snapshot (snapshot_of w ns t worker.evaluation e) worker))
      where
        by : (t : Tenant) → get w.tenants ns ≡ Some t → (worker : Worker) (b : Bool) (new : Worker) →
            Leads (Same w) (cond b (Done (Content.Snapped worker.evaluation) (put_tenant ns (with_worker number new t) w)) NotEnabled)
        by t is worker true new = same_put w (put_tenant ns (with_worker number new t) w) ns t (with_worker number new t) is refl refl
        by t is worker false new = tt

    pub submit_same : Leads (Same w) (submit number ns w)
    unfolding submit
    submit_same = leads_keeping (Same w) number ns w (λ t worker e. submit_for number ns w t worker) (λ t worker e kept is _ _ _.
        leads_if (Same w) (may_submit worker kept) (Done (Content.Queued worker.evaluation) (submitted number ns w t worker)) NotEnabled (λ _.
        same_put w (submitted number ns w t worker) ns t (with_worker number (record worker { phase = Phase.Submitted }) t) is refl refl) (λ _. tt))

    -- the next one of the job is ready
    promote_same : (job : Name) (x : World) → Same w x → Same w (promote ns job x)
    promote_same job x c key = promote_part (λ y. allocation_at y key) (λ y keys. refl) ns job x ∙ c key

    module _ (t : Tenant) (is : get w.tenants ns ≡ Some t) (worker : Worker) (e : Evaluation) where
      followed_same : (t' : Tenant) → t'.allocations ≡ t.allocations → (follower : Evaluation) (b : Bool) →
          Same w (followed ns worker follower t' b (without_blocked ns e.job t w))
      followed_same t' same follower true =
          let u = with_follower worker.evaluation (record follower { status = Status.Pending }) t' in
          same_put w (put_tenant ns u (without_blocked ns e.job t w)) ns t u is
          (tied_leaves worker.evaluation (t'.evaluation_number + 1) t' ∙ same) (ap (λ m. insert m ns u) (unlisted_tenants ns e.job t w))
      followed_same t' same follower false =
          let u = with_follower worker.evaluation follower t' in
          same_put w (put_tenant ns u (without_blocked ns e.job t w)) ns t u is
          (tied_leaves worker.evaluation (t'.evaluation_number + 1) t' ∙ same) (ap (λ m. insert m ns u) (unlisted_tenants ns e.job t w))

      finished_same : (kept : Snapshot) → Leads (Same w) (finished number ns w t worker e kept)
      finished_same kept =
          let t' = ended number worker e (end_of worker) t in
          let same = ended_leaves number worker e (end_of worker) t in
          let x = without_blocked ns e.job t w in
          leads_if (Same w) (needs_follower worker kept)
          (Done (Content.Finished (end_of worker) (Some (t.evaluation_number + 1)))
          (promote ns e.job (followed ns worker (follower_of e worker kept) t' (missed w kept (follower_of e worker kept)) x)))
          (Done (Content.Finished (end_of worker) None) (promote ns e.job (put_tenant ns t' x)))
          (λ _. promote_same e.job _ (followed_same t' same (follower_of e worker kept) (missed w kept (follower_of e worker kept))))
          (λ _. promote_same e.job _ (same_put w (put_tenant ns t' x) ns t t' is same (ap (λ m. insert m ns t') (unlisted_tenants ns e.job t w))))

      nack_for_same : Leads (Same w) (nack_for number ns w t worker e)
      nack_for_same =
          let t' = with_nack worker.evaluation e t in
          let u = without_worker number t' in
          let v = with_status worker.evaluation Status.Failed u in
          leads_if (Same w) (is_submitted worker.phase) NotEnabled
          (cond (nat_le most_nacks (e.nacks + 1)) (given_up number ns w t' worker e) (given_back number ns w t' worker)) (λ _. tt) (λ _.
          leads_if (Same w) (nat_le most_nacks (e.nacks + 1)) (given_up number ns w t' worker e) (given_back number ns w t' worker)
          (λ _. promote_same e.job (put_tenant ns v w)
          (same_put w (put_tenant ns v w) ns t v is (status_leaves worker.evaluation Status.Failed u) refl))
          (λ _. same_put w (put_tenant ns u w) ns t u is refl refl))

    pub finish_same : Leads (Same w) (finish number ns w)
    unfolding finish
    finish_same = leads_keeping (Same w) number ns w (finish_for number ns w) (λ t worker e kept is _ _ _.
        leads_if (Same w) (may_finish worker kept) (finished number ns w t worker e kept) NotEnabled (λ _. finished_same t is worker e kept) (λ _. tt))

    pub nack_same : Leads (Same w) (nack number ns w)
    unfolding nack
    nack_same = leads_at_work (Same w) number ns w (nack_for number ns w) (λ t worker e is _ _. nack_for_same t is worker e)
