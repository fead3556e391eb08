-- What Apply places keeps to the quota of its namespace.
use Rattle.std.specs.Prelude.{◌≡◌, ◌≢◌, ◌⊎◌, ℕ, ◌+◌, ◌≤◌, Bool, true, false, cond, List, [], ◌∷◌, ◌++◌}
use Rattle.std.specs.Prelude.{Option, Some, None, filter, fold, option_map, sum_by}
use Rattle.std.proofs.Common.{refl, sym, ap, subst, ◌∙◌, arith, inl, inr}
use Rattle.std.specs.FinMap.{entries, get, insert}
use Rattle.std.proofs.lemmas.List.Sums.{sum_by-cons}
use Rattle.std.specs.Option.{option_and_then, option_map_or}
use Rattle.ns_types.specs.Access.Sharing.{namespace_at}
use Rattle.ns_types.specs.declared.allocation.Allocation.{Allocation}
use Rattle.ns_types.specs.declared.allocation.DesiredStatus.TheVariants as DesiredStatus
use Rattle.ns_types.specs.declared.evaluation.Evaluation.{Evaluation}
use Rattle.ns_types.specs.declared.evaluation.Trigger.TheVariants as Trigger
use Rattle.ns_types.specs.declared.job.Job.{Job}
use Rattle.ns_types.specs.declared.node.Node.{Node}
use Rattle.ns_types.specs.declared.plan.Eviction.{Eviction}
use Rattle.ns_types.specs.declared.plan.Placement.{Placement}
use Rattle.ns_types.specs.declared.records.Namespace.{Namespace}
use Rattle.ns_types.specs.declared.reply.Content.TheVariants as Content
use Rattle.ns_types.specs.declared.reply.Reply.{Reply}
use Rattle.ns_types.specs.declared.resources.Limit.TheVariants.{Unlimited, AtMost, Nothing}
use Rattle.ns_types.specs.declared.resources.Limit.{Limit}
use Rattle.ns_types.specs.declared.resources.Resources.{Resources}
use Rattle.ns_types.specs.declared.snapshot.Snapshot.{Snapshot}
use Rattle.ns_types.specs.Placing.Plan.{plan}
use Rattle.ns_types.specs.Settling.Making.{change_tenant, evaluation_for, make, make_in, put_pool, put_tenant, with_desired, with_evaluation}
use Rattle.ns_types.specs.Settling.Releases.{woken}
use Rattle.ns_types.specs.Settling.Settle.{changes_allocation, created_at, is_touched, settle, stamp_tenant, stamped, stamped_allocation, unblocked_in}
use Rattle.ns_types.specs.State.Lists.{first_each}
use Rattle.ns_types.specs.State.Names.{Name, has_number, same_number}
use Rattle.ns_types.specs.State.Resources.{Resource, limit_allows, limit_on, limits_allow, limits_in, plus, quantity, unlimited}
use Rattle.ns_types.specs.State.Rows.{State, World, Tenant, PoolRows, QuotaRows, is_live, node_at}
use Rattle.ns_types.specs.State.Sums.{names_quota, quota_sum, quota_use, tenant_sum}
use Rattle.ns_types.specs.Validity.{IsValid}
use Rattle.ns_types.specs.Working.Commit.{Applied, Commit, Victim, applied_worker, begun, commit}
use Rattle.ns_types.specs.Working.Commit.{committed_placements, counted, decide, done, evict, evict_all, evicted_rows, least_of_job, live_stops, make_up}
use Rattle.ns_types.specs.Working.Commit.{new_allocation, node_name, nodes_in, numbers_after, part_of, place_all, place_one, place_with, quota_allows}
use Rattle.ns_types.specs.Working.Commit.{quota_named, refused_whole, same_victim_job, size_of, still_stands, stop_all, victims_of, with_allocation, with_place}
use Rattle.ns_types.specs.Working.Work.{with_worker}
use Rattle.ns_types.specs.Working.Worker.{Worker}
use Rattle.ns_types.proofs.Amounts.{quantity_of, true_at}
use Rattle.ns_types.proofs.Lists.{each, filter_none, not_both}
use Rattle.ns_types.proofs.Named.{names, numbers, one_name, one_number, same_number_refl}
use Rattle.ns_types.proofs.Sums.{at_most, sum_part}
use Rattle.ns_audit.proofs.Steady.Keeping.{row_of_map}
use Rattle.ns_types.proofs.Tests.{not_Some, same_Some}
use Rattle.ns_audit.proofs.Alone.Naming.{named_change, stops_same}
use Rattle.ns_audit.proofs.ValidAllocations.Going.{Onward, onward_change, onward_each, onward_make_in, onward_same}
use Rattle.ns_audit.proofs.ValidAllocations.Room.{has_number_append}
use Rattle.ns_audit.proofs.ValidAllocations.Sums.{sum_below, sum_put}
use Rattle.ns_laws.specs.Planning as law
use Rattle.ns_laws.proofs.Effect.Rows.{settled_rows, settled_tenant}
use Rattle.ns_laws.proofs.Plans.ApplyRows.{made_is}
use Rattle.ns_laws.proofs.Plans.ApplyStep.{after_apply, marked}
use Rattle.ns_laws.proofs.Plans.Deciding.{accepted, committing, decide_all, decide_either, is_accepted, left_by}
use Rattle.ns_laws.proofs.Plans.Limits.{allows_is}

-- ---- worlds that use no more

-- the namespace's record is the same, and its live allocations take no more
record Spends (t u : Tenant) : Type 0 where
  namespace : u.namespace ≡ t.namespace
  sum : (amount : Resources → ℕ) → tenant_sum is_live amount u ≤ tenant_sum is_live amount t

spends_same : (t u : Tenant) → u.namespace ≡ t.namespace → u.allocations ≡ t.allocations → Spends t u
spends_same t u named same = record {
  namespace = named;
  sum = λ amount. let e = ap (λ m. sum_by (λ e. cond (is_live e.1) (amount e.1.size) 0) (entries m)) same in omega (arith, e);
}

spends_still : (t : Tenant) → Spends t t
spends_still t = spends_same t t refl refl

spends_then : (t u v : Tenant) → Spends t u → Spends u v → Spends t v
spends_then t u v a b = record {
  namespace = b.namespace ∙ a.namespace;
  sum = λ amount. let x = a.sum amount in let y = b.sum amount in omega (arith, x, y);
}

use_below : (w x : World) → Onward Spends w x → (q : Name) (amount : Resources → ℕ) → quota_sum x q amount ≤ quota_sum w q amount
unfolding quota_sum
use_below w x on q amount = sum_below names one_name (λ _ t. cond (names_quota q t.namespace) (tenant_sum is_live amount t) 0)
    (λ _ t. cond (names_quota q t.namespace) (tenant_sum is_live amount t) 0) x.tenants w.tenants (λ ns u is.
    let o = on ns u is in
    subst (λ (t : Option Tenant). cond (names_quota q u.namespace) (tenant_sum is_live amount u) 0
    ≤ option_map_or (λ t. cond (names_quota q t.namespace) (tenant_sum is_live amount t) 0) t 0) (sym o.1)
    (subst (λ (n : Namespace). cond (names_quota q n) (tenant_sum is_live amount u) 0 ≤ cond (names_quota q o.0.namespace) (tenant_sum is_live amount o.0) 0)
    (sym o.2.namespace) (under (names_quota q o.0.namespace) _ _ (o.2.sum amount))))
  where
    under : (b : Bool) (m n : ℕ) → m ≤ n → cond b m 0 ≤ cond b n 0
    under true m n h = h
    under false m n h = omega arith

-- ---- the end of a step

stamped_spends : (o : Option Tenant) (t : Tenant) → Spends t (stamp_tenant o t)
unfolding stamp_tenant
stamped_spends None t = spends_still t
stamped_spends (Some o) t = by (is_touched o t)
  where
    row : (amount : Resources → ℕ) (n : ℕ) (a : Allocation) → cond (is_live (stamped_allocation (o.index + 1) o n a))
        (amount (stamped_allocation (o.index + 1) o n a).size) 0
        ≤ cond (is_live a) (amount a.size) 0
    row amount n a = same (changes_allocation o n a)
      where
        same : (b : Bool) → let x = cond b (record a {
          create_index = created_at (o.index + 1) (get o.allocations n) (λ (a : Allocation). a.create_index);
          modify_index = o.index + 1;
        }) a in cond (is_live x) (amount x.size) 0 ≤ cond (is_live a) (amount a.size) 0
        same true = omega arith
        same false = omega arith

    rows : (amount : Resources → ℕ) (n : ℕ) (b : Allocation) → get (stamped (o.index + 1) o t).allocations n ≡ Some b →
        cond (is_live b) (amount b.size) 0 ≤ option_map_or (λ a. cond (is_live a) (amount a.size) 0) (get t.allocations n) 0
    rows amount n b is =
        let y = row_of_map numbers one_number (stamped_allocation (o.index + 1) o) t.allocations n b is in
        subst (λ (x : Option Allocation). cond (is_live b) (amount b.size) 0 ≤ option_map_or (λ a. cond (is_live a) (amount a.size) 0) x 0) (sym y.1)
        (subst (λ (x : Allocation). cond (is_live x) (amount x.size) 0 ≤ cond (is_live y.0) (amount y.0.size) 0) y.2 (row amount n y.0))

    by : (b : Bool) → Spends t (cond b (stamped (o.index + 1) o t) t)
    by false = spends_still t
    by true = record {
      namespace = refl;
      sum = λ amount. sum_below numbers one_number (λ _ (a : Allocation). cond (is_live a) (amount a.size) 0)
          (λ _ (a : Allocation). cond (is_live a) (amount a.size) 0) (stamped (o.index + 1) o t).allocations t.allocations (rows amount);
    }

settled_spends : (w x : World) → Onward Spends x (settle w x)
settled_spends w x ns u is = by (get x.tenants ns) refl
  where
    by : (o : Option Tenant) → get x.tenants ns ≡ o → (t : Tenant) × (get x.tenants ns ≡ Some t) × Spends t u
    by None was = absurd (not_Some u (sym (settled_tenant w x ns ∙ ap (option_map (settled_rows w x ns)) was) ∙ is))
    by (Some t) was = (
      t,
      was,
      subst (Spends t) (same_Some (settled_rows w x ns t) u (sym (settled_tenant w x ns ∙ ap (option_map (settled_rows w x ns)) was) ∙ is))
          (spends_then t (unblocked_in (woken w x) ns t) (settled_rows w x ns t) (spends_same t (unblocked_in (woken w x) ns t) refl refl)
          (stamped_spends (get w.tenants ns) (unblocked_in (woken w x) ns t))),
    )

-- ---- evaluations, and the worker's row

made_spends : (ns : Name) (evaluation : Tenant → Evaluation) (w : World) → Onward Spends w (make ns evaluation w)
made_spends ns evaluation w = by (get w.tenants ns) refl
  where
    by : (o : Option Tenant) → get w.tenants ns ≡ o → Onward Spends w (option_map_or (λ t. make_in ns (evaluation t) w t) o w)
    by None is = onward_same Spends spends_still w w refl
    by (Some t) is = onward_make_in Spends spends_still w ns (evaluation t) t t is (spends_same t (with_evaluation (evaluation t) t) refl refl)

made_up_spends : (victims : List Victim) (w : World) → Onward Spends w (make_up victims w)
unfolding make_up
made_up_spends victims w = onward_each Spends spends_still spends_then (λ x v. make v.0 (λ t. evaluation_for t (least_of_job victims v) Trigger.Preemption) x)
    (λ x v. made_spends v.0 (λ t. evaluation_for t (least_of_job victims v) Trigger.Preemption) x) (first_each same_victim_job victims) w

marked_spends : (ns : Name) (number : ℕ) (row : Worker) (w : World) → Onward Spends w (change_tenant ns (with_worker number row) w)
marked_spends ns number row w = onward_change Spends spends_still w ns (with_worker number row) (λ t _. spends_same t (with_worker number row t) refl refl)

-- ---- placements

more_of_sum : (x o s c a : ℕ) → x + o ≤ s + c → c ≤ o + a → x ≤ s + a
more_of_sum x o s c a h k = omega arith

module _ (q : Name) (amount : Resources → ℕ) where
  -- a new allocation adds its size at most
  change_adds : (ns : Name) (new : Allocation) (w : World) → quota_sum (change_tenant ns (with_allocation new) w) q amount ≤ quota_sum w q
      amount + amount new.size
  unfolding quota_sum
  change_adds ns new w = by (get w.tenants ns) refl
    where
      sum : Tenant → ℕ
      sum t = cond (names_quota q t.namespace) (tenant_sum is_live amount t) 0

      under : (b : Bool) (m n a : ℕ) → m ≤ n + a → cond b m 0 ≤ cond b n 0 + a
      under true m n a h = h
      under false m n a h = omega arith

      grown : (t : Tenant) → tenant_sum is_live amount (with_allocation new t) ≤ tenant_sum is_live amount t + amount new.size
      grown t =
          let put = sum_put numbers one_number (λ _ (a : Allocation). cond (is_live a) (amount a.size) 0) t.allocations (t.allocation_number + 1) new in
          let most = at_most (is_live new) (amount new.size) in
          omega (arith, put, most)

      by : (o : Option Tenant) → get w.tenants ns ≡ o →
          sum_by (λ e. cond (names_quota q e.1.namespace) (tenant_sum is_live amount e.1) 0)
          (entries (option_map_or (λ t. put_tenant ns (with_allocation new t) w) o w).tenants)
          ≤ sum_by (λ e. cond (names_quota q e.1.namespace) (tenant_sum is_live amount e.1) 0) (entries w.tenants) + amount new.size
      by None is = omega arith
      by (Some t) is = more_of_sum _ (cond (names_quota q t.namespace) (tenant_sum is_live amount t) 0) _
          (cond (names_quota q t.namespace) (tenant_sum is_live amount (with_allocation new t)) 0) _
          (subst (λ o. sum_by (λ e. cond (names_quota q e.1.namespace) (tenant_sum is_live amount e.1) 0)
          (entries (insert w.tenants ns (with_allocation new t)))
          + option_map_or (λ (t : Tenant). cond (names_quota q t.namespace) (tenant_sum is_live amount t) 0) o 0
          ≤ sum_by (λ e. cond (names_quota q e.1.namespace) (tenant_sum is_live amount e.1) 0) (entries w.tenants)
          + cond (names_quota q t.namespace) (tenant_sum is_live amount (with_allocation new t)) 0) is
          (sum_put names one_name (λ _ (t : Tenant). cond (names_quota q t.namespace) (tenant_sum is_live amount t) 0) w.tenants ns (with_allocation new t)))
          (under (names_quota q t.namespace) _ _ _ (grown t))

  counted_same : (pool name : Name) (node : Node) (w : World) → quota_sum (counted pool name node w) q amount ≡ quota_sum w q amount
  unfolding quota_sum
  counted_same pool name node w = by (get w.pools pool)
    where
      by : (o : Option PoolRows) → quota_sum (option_map_or (λ p. put_pool pool (with_place name node p) w) o w) q amount ≡ quota_sum w q amount
      by None = refl
      by (Some p) = refl

  one_adds : (kept : Snapshot) (p : Placement) (w : World) → quota_sum (place_one kept w p) q amount ≤ quota_sum w q amount + amount p.size
  unfolding place_one
  one_adds kept p w = by kept.job (node_at w kept.pool (node_name kept p.node))
    where
      by : (o : Option Job) (n : Option Node) → quota_sum (option_map_or (λ job. option_map_or (place_with kept p w job) n w) o w) q amount ≤
          quota_sum w q amount + amount p.size
      by None n = omega arith
      by (Some j) None = omega arith
      by (Some j) (Some node) =
          let same = counted_same kept.pool (node_name kept p.node) node (change_tenant kept.namespace (with_allocation (new_allocation kept j p node)) w) in
          let more = change_adds kept.namespace (new_allocation kept j p node) w in
          omega (arith, same, more)

  all_add : (kept : Snapshot) (ps : List Placement) (w : World) →
      quota_sum (place_all kept w ps) q amount ≤ quota_sum w q amount + sum_by (λ p. amount p.size) ps
  all_add kept [] w = omega arith
  all_add kept (p ∷ ps) w =
      let first = one_adds kept p w in
      let rest = all_add kept ps (place_one kept w p) in
      let whole = sum_by-cons (λ (p : Placement). amount p.size) p ps in
      omega (arith, first, rest, whole)

-- ---- what is decided

desired_same : (n : ℕ) (t : Tenant) → (with_desired n DesiredStatus.Evict t).namespace ≡ t.namespace
desired_same n t = by (get t.allocations n)
  where
    by : (o : Option Allocation) → (option_map_or (λ a. record t {
      allocations =
          insert t.allocations n (record a { desired = DesiredStatus.Evict });
    }) o t).namespace
        ≡ t.namespace
    by None = refl
    by (Some a) = refl

change_quotas : (ns : Name) (f : Tenant → Tenant) (w : World) → (change_tenant ns f w).quotas ≡ w.quotas
change_quotas ns f w = by (get w.tenants ns)
  where
    by : (o : Option Tenant) → (option_map_or (λ t. put_tenant ns (f t) w) o w).quotas ≡ w.quotas
    by None = refl
    by (Some t) = refl

named_is : (w : World) (ns : Name) → quota_named w ns ≡ option_and_then (λ (n : Namespace). n.quota) (namespace_at w ns)
named_is w ns = by (get w.tenants ns)
  where
    by : (o : Option Tenant) → option_and_then (λ (t : Tenant). t.namespace.quota) o ≡
        option_and_then (λ (n : Namespace). n.quota) (option_map (λ t. t.namespace) o)
    by None = refl
    by (Some t) = refl

module _ (kept : Snapshot) (q : Name) (rows : QuotaRows) where
  -- the snapshot's namespace names the quota, which has these rows
  HasQuota : World → Type 0
  HasQuota w = (option_and_then (λ (n : Namespace). n.quota) (namespace_at w kept.namespace) ≡ Some q) × (get w.quotas q ≡ Some rows)

  change_has : (ns : Name) (f : Tenant → Tenant) → ((t : Tenant) → (f t).namespace ≡ t.namespace) → (w : World) → HasQuota w → HasQuota (change_tenant ns f w)
  unfolding HasQuota
  change_has ns f same w h = (
    ap (option_and_then (λ (n : Namespace). n.quota)) (named_change ns f same w kept.namespace) ∙ h.0,
    ap (λ m. get m q) (change_quotas ns f w) ∙ h.1,
  )

  evicts_has : (victims : List Eviction) (w : World) → HasQuota w → HasQuota (evict_all w victims)
  evicts_has [] w h = h
  evicts_has (e ∷ es) w h =
      evicts_has es (evict w e) (change_has e.namespace (with_desired e.number DesiredStatus.Evict) (desired_same e.number) w h)

  allowed_is : (w : World) (amount : Resources) → HasQuota w → quota_allows w kept.namespace amount ≡
      limits_allow (limits_in rows.quota.limits) (plus (quota_use w q) amount)
  unfolding HasQuota
  allowed_is w amount h = ap (λ o. option_map_or (λ q.
      limits_allow (option_map_or (λ (rows : QuotaRows). limits_in rows.quota.limits) (get w.quotas q) unlimited) (plus (quota_use w q) amount)) o true)
      (named_is w kept.namespace ∙ h.0)
      ∙ ap (λ o. limits_allow (option_map_or (λ (rows : QuotaRows). limits_in rows.quota.limits) o unlimited) (plus (quota_use w q) amount)) h.1

  module _ (ps : List Placement) where
    abbrev taken : (Resources → ℕ) → List ℕ → ℕ
    taken amount ks = sum_by (λ p. amount p.size) (filter (λ p. has_number ks p.node) ps)

    -- the quota allows what is placed, which is at least what the committed nodes take
    record Keeps (c : Commit) : Type 0 where
      has : HasQuota c.world
      within : (c.committed ≡ []) ⊎ (limits_allow (limits_in rows.quota.limits) (plus (quota_use c.world q) c.placed) ≡ true)
      covered : (r : Resource) → taken (quantity r) c.committed ≤ quantity r c.placed

    one_more : (amount : Resources → ℕ) (ks : List ℕ) (k : ℕ) (xs : List Placement) →
        sum_by (λ p. amount p.size) (filter (λ p. has_number (ks ++ k ∷ []) p.node) xs)
        ≤ sum_by (λ p. amount p.size) (filter (λ p. has_number ks p.node) xs) + sum_by (λ p. amount p.size) (part_of k xs)
    one_more amount ks k [] = omega arith
    one_more amount ks k (x ∷ xs) =
        let size = λ (p : Placement). amount p.size in
        let all = sum_part size (λ p. has_number (ks ++ k ∷ []) p.node) x xs in
        let before = sum_part size (λ p. has_number ks p.node) x xs in
        let part = sum_part size (λ p. same_number p.node k) x xs in
        let here = by (has_number (ks ++ k ∷ []) x.node) refl in
        let rest = one_more amount ks k xs in
        omega (arith, all, before, part, here, rest)
      where
        one : (b : Bool) → b ≡ true → (n c : ℕ) → n ≤ cond b n 0 + c
        one true e n c = omega arith
        one false e n c = not_both e refl

        other : (b : Bool) → b ≡ true → (n c : ℕ) → n ≤ c + cond b n 0
        other true e n c = omega arith
        other false e n c = not_both e refl

        either : (has_number ks x.node ≡ true) ⊎ (x.node ≡ k) → amount x.size ≤ cond (has_number ks x.node) (amount x.size) 0 + cond
            (same_number x.node k) (amount x.size) 0
        either (inl e) = one (has_number ks x.node) e _ _
        either (inr e) = other (same_number x.node k) (ap (λ n. same_number n k) e ∙ same_number_refl k) _ _

        by : (b : Bool) → has_number (ks ++ k ∷ []) x.node ≡ b → cond b (amount x.size) 0
            ≤ cond (has_number ks x.node) (amount x.size) 0 + cond (same_number x.node k) (amount x.size) 0
        by false e = omega arith
        by true e = either (has_number_append ks k x.node e)

    begins : (w : World) → HasQuota w → Keeps (begun w)
    begins w h = record { has = h; within = inl refl; covered = λ r. none r (filter_none (λ (p : Placement). has_number [] p.node) ps (each _ (λ _. refl) ps)) }
      where
        none : (r : Resource) → filter (λ (p : Placement). has_number [] p.node) ps ≡ [] → taken (quantity r) [] ≤ quantity r (begun w).placed
        none r e = subst (λ xs. sum_by (λ (p : Placement). quantity r p.size) xs ≤ quantity r (begun w).placed) (sym e) (omega arith)

    decide_keeps : (c : Commit) (k : ℕ) → Keeps c → Keeps (decide kept ps c k)
    decide_keeps c k h = decide_either kept ps Keeps c k commits (record { has = h.has; within = h.within; covered = h.covered })
      where
        left_has : HasQuota (left_by kept ps c k)
        left_has = evicts_has (victims_of c.world kept (part_of k ps)) c.world h.has

        commits : is_accepted kept ps c k ≡ true → Keeps (committing kept ps c k)
        commits e = record {
          has = left_has;
          within = inr (sym (allowed_is (left_by kept ps c k) (plus c.placed (size_of (part_of k ps))) left_has) ∙ (accepted kept ps c k e).3);
          covered = λ r.
              let more = one_more (quantity r) c.committed k ps in
              let before = h.covered r in
              let sum = quantity_of (λ r. quantity r c.placed + quantity r (size_of (part_of k ps))) r in
              let part = quantity_of (λ r. sum_by (λ (p : Placement). quantity r p.size) (part_of k ps)) r in
              omega (arith, more, before, sum, part);
        }

-- ---- the whole

allows_less : (limit : Limit) (m n : ℕ) → m ≤ n → law.Allows limit n → law.Allows limit m
allows_less Unlimited m n le h = tt
allows_less (AtMost most) m n le h = omega (arith, le, h)
allows_less Nothing m n le h = h

module _ (s : State) (valid : IsValid s) (ns : Name) (owner : Tenant) (is_owner : get s.world.tenants ns ≡ Some owner) (q : Name)
    (names_it : owner.namespace.quota ≡ Some q) (rows : QuotaRows) (is_quota : get s.world.quotas q ≡ Some rows) (number : ℕ) where
  -- what the law says of what an Apply says and leaves
  Fits : Reply → State → Type 0
  Fits reply t = (made : List ℕ) (dropped : List Name) → reply.content ≡ Content.Applied made dropped → made ≢ [] →
      (r : Resource) → law.Allows (limit_on r (limits_in rows.quota.limits)) (quantity r (quota_use t.world q))

  module _ (kept : Snapshot) (same_namespace : kept.namespace ≡ ns) (t : Tenant) (is : get s.world.tenants ns ≡ Some t) (worker : Worker) (e : Evaluation) where
    abbrev ps : List Placement
    ps = (plan kept).placing.placements

    abbrev stopped : World
    stopped = stop_all kept.namespace (live_stops t (plan kept).stops) s.world

    abbrev decided : Commit
    decided = fold (decide kept ps) (begun stopped) (nodes_in ps)

    abbrev placed : List Placement
    placed = committed_placements decided ps

    begun_has : HasQuota kept q rows s.world
    unfolding HasQuota
    begun_has = (
      ap (λ k. option_and_then (λ (n : Namespace). n.quota) (namespace_at s.world k)) same_namespace
          ∙ ap (λ o. option_and_then (λ (n : Namespace). n.quota) (option_map (λ (t : Tenant). t.namespace) o)) is_owner ∙ names_it,
      is_quota,
    )

    kept_quota : Keeps kept q rows ps decided
    kept_quota = decide_all kept ps (Keeps kept q rows ps) (decide_keeps kept q rows ps) (nodes_in ps) (begun stopped) (begins kept q rows ps stopped
        (change_has kept q rows kept.namespace (λ u. fold (λ x n. with_desired n DesiredStatus.Stop x) u (live_stops t (plan kept).stops))
        (λ u. stops_same (live_stops t (plan kept).stops) u) s.world begun_has))

    module _ (r : Resource) where
      abbrev final : Applied → World
      final a = settle s.world (marked number ns worker e a)

      -- after a plan that is done, the quota has no more in use than was allowed
      no_more : quota_sum (final (done kept (plan kept) s.world t)) q (quantity r) ≤ quantity r (plus (quota_use decided.world q) decided.placed)
      no_more =
          let a = done kept (plan kept) s.world t in
          let whole = place_all kept decided.world placed in
          let settles = use_below (marked number ns worker e a) (final a) (settled_spends s.world (marked number ns worker e a)) q (quantity r) in
          let marks = use_below a.world (marked number ns worker e a) (marked_spends ns number (applied_worker a worker e) a.world) q (quantity r) in
          let makes = use_below whole a.world (made_up_spends (evicted_rows stopped kept placed) whole) q (quantity r) in
          let adds = all_add q (quantity r) kept placed decided.world in
          let covers = kept_quota.covered r in
          let sum = quantity_of (λ r. quantity r (quota_use decided.world q) + quantity r decided.placed) r in
          let use_is = quantity_of (λ r. quota_sum decided.world q (quantity r)) r in
          omega (arith, settles, marks, makes, adds, covers, sum, use_is)

      allowed : (decided.committed ≡ []) ⊎ (limits_allow (limits_in rows.quota.limits) (plus (quota_use decided.world q) decided.placed) ≡ true)
          → numbers_after t.allocation_number placed ≢ []
          → law.Allows (limit_on r (limits_in rows.quota.limits)) (quantity r (quota_use (final (done kept (plan kept) s.world t)) q))
      allowed (inl none) some = absurd (some (ap (numbers_after t.allocation_number)
          (ap (λ ks. filter (λ p. has_number ks p.node) ps) none ∙ filter_none (λ p. has_number [] p.node) ps (each _ (λ _. refl) ps))))
      allowed (inr e) some =
          let use_is = quantity_of (λ r. quota_sum (final (done kept (plan kept) s.world t)) q (quantity r)) r in
          let most = no_more in
          allows_less (limit_on r (limits_in rows.quota.limits)) _ (quantity r (plus (quota_use decided.world q) decided.placed)) (omega (arith, use_is, most))
          (allows_is (limit_on r (limits_in rows.quota.limits)) _
          (true_at (λ r. limit_allows (limit_on r (limits_in rows.quota.limits)) (quantity r (plus (quota_use decided.world q) decided.placed))) e r))

    commits : (made : List ℕ) → (commit kept (plan kept) s.world t).made ≡ made → made ≢ [] → (r : Resource) →
        law.Allows (limit_on r (limits_in rows.quota.limits)) (quantity r
        (quota_use (settle s.world (marked number ns worker e (commit kept (plan kept) s.world t))) q))
    unfolding commit
    commits made same some r = by (still_stands kept.job (get t.jobs kept.evaluation.job)) same
      where
        by : (b : Bool) → (cond b (done kept (plan kept) s.world t) (refused_whole kept (plan kept) s.world)).made ≡ made
            → law.Allows (limit_on r (limits_in rows.quota.limits))
            (quantity r (quota_use (settle s.world (marked number ns worker e
            (cond b (done kept (plan kept) s.world t) (refused_whole kept (plan kept) s.world)))) q))
        by true same = allowed r kept_quota.within (λ none. some (sym same ∙ none))
        by false same = absurd (some (sym same))

pub keeps_to_quota : law.KeepsToQuota
unfolding Fits
keeps_to_quota s t number ns reply made dropped owner q rows valid is told some is_owner names_it is_quota =
    after_apply number ns s t reply (Fits s valid ns owner is_owner q names_it rows is_quota number) is
    (λ u worker e kept there has keeps made dropped told some r.
    let sound = ((valid.world.tenant ns u there).worker number worker has).snapshot kept keeps in
    commits s valid ns owner is_owner q names_it rows is_quota number kept sound.namespace u there worker e made
    (made_is (commit kept (plan kept) s.world u).made made (commit kept (plan kept) s.world u).dropped dropped told) some r)
    made dropped told some
