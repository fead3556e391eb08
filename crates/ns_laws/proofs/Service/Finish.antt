-- A Finish wakes no evaluation.
use Rattle.std.specs.Prelude.{◌≡◌, ◌⊎◌, ℕ, Bool, true, false, ◌&&◌, Option, Some, None, Ok, option_map}
use Rattle.std.proofs.Common.{inl, inr, refl, sym, ap, subst, ◌∙◌}
use Rattle.std.specs.FinMap.{get}
use Rattle.std.specs.Option.{option_map_or, option_and_then}
use Rattle.ns_types.specs.declared.allocation.Allocation.{Allocation}
use Rattle.ns_types.specs.declared.evaluation.Evaluation.{Evaluation}
use Rattle.ns_types.specs.declared.evaluation.Status.TheVariants as Statuses
use Rattle.ns_types.specs.declared.node.Node.{Node}
use Rattle.ns_types.specs.declared.reply.Reply.{Reply}
use Rattle.ns_types.specs.declared.snapshot.Snapshot.{Snapshot}
use Rattle.ns_types.specs.declared.step.Step.{Step}
use Rattle.ns_types.specs.Settling.Outcome.{Outcome, NotEnabled, Refused, Done}
use Rattle.ns_types.specs.Asking.Policies.{with_world}
use Rattle.ns_types.specs.Settling.Releases.{missed, woken, wakes}
use Rattle.ns_types.specs.Settling.Settle.{settle, after_quota_release}
use Rattle.ns_types.specs.Settling.Releases.{releases_quota}
use Rattle.ns_types.specs.State.Names.{Key, Name, has_key}
use Rattle.ns_types.specs.State.Resources.{limits_in}
use Rattle.ns_types.specs.State.Rows.{State, World, Tenant, PoolRows, QuotaRows, evaluation_at, node_at, is_run, is_held, is_open, is_pending, is_blocked}
use Rattle.ns_types.specs.Steps.{act, after, said}
use Rattle.ns_types.specs.Validity.{IsLiveAt, IsValid}
use Rattle.ns_types.specs.Working.Queue.{promote}
use Rattle.ns_types.specs.Working.Work.{end_of, needs_follower, follower_of, without_blocked, without_key, ended, followed, finished, finish_for, finish}
use Rattle.ns_types.specs.Working.Work.{may_finish, blocked_of}
use Rattle.ns_types.specs.Working.Worker.{Worker}
use Rattle.ns_types.proofs.Leads.{Leads, leads_if, leads_keeping, leads_lift}
use Rattle.ns_types.proofs.Lists.{not_both}
use Rattle.ns_types.proofs.Named.{second_of_both}
use Rattle.ns_types.proofs.Tests.{not_Some, same_Some}
use Rattle.ns_audit.proofs.StepLemmas.{made}
use Rattle.ns_audit.proofs.Valid.{valid_step}
use Rattle.ns_audit.proofs.ValidAllocations.Sound.{allocation_row}
use Rattle.ns_laws.specs.Serving as law
use Rattle.ns_laws.specs.Serving.{EvaluationEnds, NextStatus, GoesOn, finished as its_own, canceled, given_up, stays, wakes as woke, ends}
use Rattle.ns_laws.specs.Ending.{IsDeletionOf}
use Rattle.ns_laws.specs.Waking.{StillLives, IsOpen}
use Rattle.ns_laws.specs.Woken.{GotQuota, GotRoom, HasRoom}
use Rattle.ns_laws.proofs.Effect.Rows.{settled_allocated, settled_node, settled_there}
use Rattle.ns_laws.proofs.Endings.Rows.{Same, finish_same}
use Rattle.ns_laws.proofs.QueueLemmas.{promote_part}
use Rattle.ns_laws.proofs.Wakes.Queue.{woken_are_called}
use Rattle.ns_laws.proofs.Service.Lists.{lists_are_true, workers_have_their_own}
use Rattle.ns_laws.proofs.Service.Laws.{evaluation_goes_on, Settles, settled_to}
use Rattle.ns_laws.proofs.Service.Closing.{Passes, Leaves}
use Rattle.ns_laws.proofs.Service.Steps.{act_leaves}
use Rattle.ns_laws.proofs.Wakes.Waking.{settled_quotas}
use Rattle.ns_laws.proofs.Wakes.Reasons.{room_in, quota_in}

-- ---- what a Finish leaves

-- pools and quotas
record Tables (w x : World) : Type 0 where
  pools : x.pools ≡ w.pools
  quotas : x.quotas ≡ w.quotas

tables_promote : (ns job : Name) (w x : World) → Tables w x → Tables w (promote ns job x)
tables_promote ns job w x h = record {
  pools = promote_part (λ y. y.pools) (λ y keys. refl) ns job x ∙ h.pools;
  quotas = promote_part (λ y. y.quotas) (λ y keys. refl) ns job x ∙ h.quotas;
}

tables_less : (ns job : Name) (t : Tenant) (w : World) → Tables w (without_blocked ns job t w)
tables_less ns job t w = by (blocked_of t job)
  where
    by : (o : Option ℕ) → Tables w (option_map_or (λ n. record w { blocked = without_key (ns, n) w.blocked }) o w)
    by None = record { pools = refl; quotas = refl }
    by (Some n) = record { pools = refl; quotas = refl }

tables_followed : (ns : Name) (worker : Worker) (f : Evaluation) (t : Tenant) (late : Bool) (w x : World) → Tables w x →
    Tables w (followed ns worker f t late x)
tables_followed ns worker f t true w x h = record { pools = h.pools; quotas = h.quotas }
tables_followed ns worker f t false w x h = record { pools = h.pools; quotas = h.quotas }

finish_tables : (w : World) (number : ℕ) (ns : Name) → Leads (Tables w) (finish number ns w)
unfolding finish
finish_tables w number ns = leads_keeping (Tables w) number ns w (finish_for number ns w) (λ t worker e kept is has at _.
    leads_if (Tables w) (may_finish worker kept) (finished number ns w t worker e kept) NotEnabled
    (λ _. by t worker e kept) (λ _. tt))
  where
    by : (t : Tenant) (worker : Worker) (e : Evaluation) (kept : Snapshot) → Leads (Tables w) (finished number ns w t worker e kept)
    by t worker e kept =
        let rest : Tenant = ended number worker e (end_of worker) t in
        let less : World = without_blocked ns e.job t w in
        leads_if (Tables w) (needs_follower worker kept) _ _
        (λ _. tables_promote ns e.job w _ (tables_followed ns worker (follower_of e worker kept) rest (missed w kept (follower_of e worker kept)) w less
        (tables_less ns e.job t w)))
        (λ _. let h = tables_less ns e.job t w in tables_promote ns e.job w _ (record { pools = h.pools; quotas = h.quotas }))

-- ---- so it gives no room

module _ (w x : World) (tables : Tables w x) (same : Same w x) where
  same_node : (pool name : Name) → node_at (settle w x) pool name ≡ node_at w pool name
  same_node pool name = settled_node w x pool name ∙ ap (λ m. option_and_then (λ (p : PoolRows). get p.nodes name) (get m pool)) tables.pools

  lives : (key : Key) (a : Allocation) → IsLiveAt w key a → StillLives (settle w x) key
  lives key a at =
      let t = allocation_row x key a (same key ∙ at.0) in
      let s = settled_allocated w x key.0 t.0 key.1 a t.2 in (
        s.row,
        (
          ap (option_and_then (λ (t : Tenant). get t.allocations key.1)) (settled_there w x key.0 t.0 t.1) ∙ s.is_row,
          (λ i. is_run (s.desired i) && is_held (s.client i)) ∙ at.1,
        ),
      )

  no_room : (e : Evaluation) → HasRoom w (settle w x) e → ⊥
  no_room e h = by h.got
    where
      by : GotRoom w (settle w x) e.pool h.name h.row → ⊥
      by (GotRoom.is_new none) = not_Some h.row (sym none ∙ sym (same_node e.pool h.name) ∙ h.there)
      by (GotRoom.opened old is shut) =
          let row : h.row ≡ old = same_Some _ _ (sym h.there ∙ same_node e.pool h.name ∙ is) in shut (subst IsOpen row h.opens)
      by (GotRoom.offers old is differs) = differs (ap (λ (n : Node). n.offer) (same_Some _ _ (sym is ∙ sym (same_node e.pool h.name) ∙ h.there)))
      by (GotRoom.freed key a at pool node over) = over (lives key a at)

  no_quota : (quota : Name) → GotQuota w (settle w x) quota → ⊥
  no_quota quota (GotQuota.limits old new was is differs) = differs (ap (λ q. limits_in q.limits) (sym (record_is old new was is)))
    where
      kept : (b : Bool) (rows : QuotaRows) → (after_quota_release b rows).quota ≡ rows.quota
      kept true rows = refl
      kept false rows = refl

      record_is : (old new : QuotaRows) → get w.quotas quota ≡ Some old → get (settle w x).quotas quota ≡ Some new → new.quota ≡ old.quota
      record_is old new was is = ap (λ (q : QuotaRows). q.quota) (same_Some _ _ (sym is ∙ settled_quotas w x quota
          ∙ ap (option_map (λ q. after_quota_release (releases_quota w x quota q) q)) (ap (λ m. get m quota) tables.quotas ∙ was)))
          ∙ kept (releases_quota w x quota old) old
  no_quota quota (GotQuota.freed ns t n a is names at live over) =
      over (lives (ns, n) a (ap (option_and_then (λ (t : Tenant). get t.allocations n)) is ∙ at, live))

  none_wakes : (e : Evaluation) → wakes w x e ≡ true → ⊥
  none_wakes e awake = by e.quota refl
    where
      by : (o : Option Name) → e.quota ≡ o → ⊥
      by None is = no_room e (room_in w x e awake is)
      by (Some quota) is = no_quota quota (quota_in w x e quota awake is)

  none_woken : (key : Key) (e : Evaluation) → evaluation_at w key ≡ Some e → has_key (woken w x) key ≡ true → ⊥
  none_woken key e at has = none_wakes e (ap (λ o. option_map_or (wakes w x) o false) (sym at)
      ∙ second_of_both (has_key x.blocked key) (option_map_or (wakes w x) (evaluation_at w key) false)
      (second_of_both (has_key w.blocked key) _ (sym (woken_are_called w x key) ∙ has)))

-- ---- the law

module _ (s t : State) (number : ℕ) (ns : Name) (reply : Reply) (valid : IsValid s) (e : after (Step.Finish number ns) s ≡ said (Ok reply) t) where
  own_both : Leads (λ (x : State). Tables s.world x.world × Same s.world x.world) (act (Step.Finish number ns) s)
  unfolding act
  own_both = leads_lift (λ (x : State). Tables s.world x.world × Same s.world x.world) (with_world s.acl)
      (λ x. Tables s.world x × Same s.world x) (λ x h. h) (finish number ns s.world)
      (both (finish number ns s.world) (finish_tables s.world number ns) (finish_same s.world number ns))
    where
      both : (o : Outcome World) → Leads (Tables s.world) o → Leads (Same s.world) o → Leads (λ x. Tables s.world x × Same s.world x) o
      both NotEnabled h k = tt
      both (Refused refusal) h k = tt
      both (Done content x) h k = (h, k)

  -- one that has ended is not pending
  not_pending : (key : Key) (a b : Evaluation) → EvaluationEnds s.world (Step.Finish number ns) key a b → b.status ≡ Statuses.Pending → ⊥
  not_pending key a b (its_own m worker at is its (inl end)) p = not_both (ap is_pending p) (ap is_pending end)
  not_pending key a b (its_own m worker at is its (inr end)) p = not_both (ap is_pending p) (ap is_pending end)
  not_pending key a b (canceled m worker d at is row job was end) p = not_both (ap is_pending p) (ap is_pending end)
  not_pending key a b (given_up m worker at is its two end) p = not_both (ap is_pending p) (ap is_pending end)

  not_woken : (key : Key) (a : Evaluation) → evaluation_at s.world key ≡ Some a → a.status ≡ Statuses.Blocked → (c : Evaluation) →
      evaluation_at t.world key ≡ Some c → c.status ≡ Statuses.Pending → ⊥
  not_woken key a at blocked c c_at p =
      let m = made (Step.Finish number ns) s t reply e in
      let h = subst (Leads (λ (x : State). Tables s.world x.world × Same s.world x.world)) m.acts own_both in
      let l = subst (Leads (λ (x : State). Leaves s.world (Step.Finish number ns) x.world)) m.acts (act_leaves s valid.world (Step.Finish number ns)) in
      by m.own.world h.0 h.1 (ap (λ (y : State). evaluation_at y.world key) m.leads ∙ c_at) (l.goes key a at)
    where
      by : (x : World) → Tables s.world x → Same s.world x → evaluation_at (settle s.world x) key ≡ Some c →
          Passes s.world (Step.Finish number ns) x key a → ⊥
      by x tables same there (inr gone) = not_both (ap is_open blocked) gone.0
      by x tables same there (inl b) = woke_or (settled_to s.world x key b.0 b.1)
        where
          woke_or : (d : Evaluation) × (evaluation_at (settle s.world x) key ≡ Some d) × Settles s.world x key b.0 d → ⊥
          woke_or d = status d.2.status
            where
              is : d.0 ≡ c
              is = same_Some _ _ (sym d.1 ∙ there)

              before : (b.0.status ≡ a.status) ⊎ ((is_open a.status ≡ true) × EvaluationEnds s.world (Step.Finish number ns) key a b.0) →
                  b.0.status ≡ Statuses.Pending → ⊥
              before (inl q) pending = not_both (ap is_blocked (q ∙ blocked)) (ap is_blocked pending)
              before (inr q) pending = not_pending key a b.0 q.1 pending

              status : (d.0.status ≡ b.0.status) ⊎ ((has_key (woken s.world x) key ≡ true) × (d.0.status ≡ Statuses.Pending)) → ⊥
              status (inl q) = before b.2.status (sym q ∙ ap (λ (e : Evaluation). e.status) is ∙ p)
              status (inr q) = none_woken s.world x tables same key a at q.0

is_finish : Step → Bool
is_finish (Step.Finish number ns) = true
is_finish _ = false

pub finish_wakes_none : law.FinishWakesNone
unfolding is_finish
finish_wakes_none s t number ns reply key valid e has = by (evaluation_goes_on s t (Step.Finish number ns) (Ok reply) key a.0 valid e a.1)
  where
    a : law.HasEvaluationStatus s.world Statuses.Blocked key
    a = (lists_are_true s valid).blocked key has

    after_valid : IsValid t
    after_valid = valid_step s t (Step.Finish number ns) (Ok reply) valid tt e

    by : GoesOn s.world t.world (Step.Finish number ns) key a.0
        ⊎ ((is_open a.0.status ≡ false) × (get t.world.tenants key.0 ≡ None) × IsDeletionOf (Step.Finish number ns) key.0) →
        (has_key t.world.blocked key ≡ true) ⊎ law.HasEvaluationStatus t.world Statuses.Canceled key
    by (inr gone) = not_both (ap is_open a.2) gone.0
    by (inl g) = next g.status
      where
        next : NextStatus s.world (Step.Finish number ns) key a.0 g.row →
            (has_key t.world.blocked key ≡ true) ⊎ law.HasEvaluationStatus t.world Statuses.Canceled key
        next (stays p) = inl ((lists_are_true t after_valid).all_blocked key (g.row, g.is_row, p ∙ a.2))
        next (woke was p) = absurd (not_woken s t number ns reply valid e key a.0 a.1 a.2 g.row g.is_row p)
        next (ends open_ (its_own m worker at is same end)) = not_both has
            (ap (λ n. has_key s.world.blocked (key.0, n)) (sym same) ∙ (workers_have_their_own s key.0 m worker valid is).not_blocked)
        next (ends open_ (canceled m worker d at is row job was end)) = inr (g.row, g.is_row, end)
        next (ends open_ (given_up m worker at is its two end)) = not_both refl (ap is_finish at)
