-- What a plan takes of a quota, less what its stops and its evictions free.
use Rattle.std.specs.Prelude.{◌≡◌, ◌≢◌, ◌⊎◌, ℕ, zero, suc, ◌+◌, ◌-◌, ◌≤◌, Bool, true, false, cond, not, ◌&&◌}
use Rattle.std.specs.Prelude.{List, [], ◌∷◌, ◌++◌, Option, Some, None, drop, filter, length, option_map, slice_get, sum_by}
use Rattle.std.specs.List.{flat_map}
use Rattle.std.specs.Option.{option_map_or, unwrap_or}
use Rattle.std.specs.Str.{bytes_eq}
use Rattle.std.proofs.Common.{refl, sym, ap, subst, ◌∙◌, arith, inl, inr}
use Rattle.std.proofs.Math.Seq.{drop-append_seam}
use Rattle.std.proofs.lemmas.Bool.{or_right}
use Rattle.std.proofs.lemmas.List.Sums.{sum_by-append, sum_by-cons, sum_by-le-sum_by, sum_by-take-drop}
use Rattle.ns_types.specs.declared.job.Group.{Group}
use Rattle.ns_types.specs.declared.job.Job.{Job}
use Rattle.ns_types.specs.declared.plan.Demand.{Demand}
use Rattle.ns_types.specs.declared.plan.Placement.{Placement}
use Rattle.ns_types.specs.declared.resources.Limit.{Limit}
use Rattle.ns_types.specs.declared.resources.Limit.TheVariants.{Unlimited, AtMost, Nothing}
use Rattle.ns_types.specs.declared.resources.Resources.{Resources}
use Rattle.ns_types.specs.declared.snapshot.LiveAllocation.{LiveAllocation}
use Rattle.ns_types.specs.declared.snapshot.OwnAllocation.{OwnAllocation}
use Rattle.ns_types.specs.declared.snapshot.PoolNode.{PoolNode}
use Rattle.ns_types.specs.declared.snapshot.QuotaSeen.{QuotaSeen}
use Rattle.ns_types.specs.declared.snapshot.Snapshot.{Snapshot}
use Rattle.ns_types.specs.Placing.Placement.{Candidate}
use Rattle.ns_types.specs.Placing.Plan.{candidate_of, no_quota, opening, placing_of, plan, quota_of, stays, staying}
use Rattle.ns_types.specs.Placing.Planning.{Choice, Site, after, choice, counts_for, ended_by_quota, place, placed_on, placement_of, then_rest, update}
use Rattle.ns_types.specs.Placing.Planning.{without_one}
use Rattle.ns_types.specs.Placing.Preemption.{evictable}
use Rattle.ns_types.specs.Placing.Wanted.{demands, demands_from, done, is_current, is_of, kept, live_ones, outdated, stopping, surplus}
use Rattle.ns_types.specs.State.Lists.{Each}
use Rattle.ns_types.specs.State.Names.{same_number}
use Rattle.ns_types.specs.State.Resources.{Resource, limit_allows, limit_on, limits_allow, plus, quantity, total}
use Rattle.ns_types.specs.State.Rows.{is_live}
use Rattle.ns_types.proofs.Amounts.{quantity_of, true_at}
use Rattle.ns_types.proofs.Elements.{any_map, each_flat, each_kept, each_true}
use Rattle.ns_types.proofs.Lists.{each, each_map}
use Rattle.ns_types.proofs.Named.{second_of_both}
use Rattle.ns_types.proofs.Sums.{sum_add, sum_filter, sum_kept, sum_map, sum_same}
use Rattle.ns_types.proofs.Tests.{not_Some, same_Some}
use Rattle.ns_audit.proofs.ValidEvaluations.Pairs.{Pairs}
use Rattle.ns_laws.specs.Placement as chosen
use Rattle.ns_laws.specs.Planning as plans
use Rattle.ns_laws.specs.Surplus as law
use Rattle.ns_laws.proofs.Choices.Placement.{room_before_victims}
use Rattle.ns_laws.proofs.PairLemmas.{pairs_from}
use Rattle.ns_laws.proofs.Plans.Planning.{same_text}
use Rattle.ns_laws.proofs.Plans.Limits.{allows_is}
use Rattle.ns_laws.proofs.Plans.Surplus.{has, has_itself, no_one}
use Rattle.ns_laws.proofs.Plans.Room.{choice_frees, evictable_sum, evicted_first}

-- ---- what the stops take

module _ (j : Job) (own : List OwnAllocation) where
  -- the live allocations of several groups, each of another name, are of the present version, each once
  groups_sum : (f : OwnAllocation → ℕ) (gs : List Group) → Pairs (λ g h. g.name ≢ h.name) gs
      → sum_by f (flat_map (kept j own) gs) ≤ sum_by (λ a. cond (is_current j a) (f a) 0) own
  groups_sum f [] once = omega arith
  groups_sum f (g ∷ gs) once =
      let parts = sum_by-append f (kept j own g) (flat_map (kept j own) gs) in
      let first = sum_filter f (λ a. is_live a.row && is_of j g a) own in
      let some = sum_by-le-sum_by (λ a. cond (is_live a.row && is_of j g a) (f a) 0)
      (λ a. cond (is_current j a) (cond (bytes_eq a.row.group g.name) (f a) 0) 0) own
      (λ a. live_less (is_live a.row) (is_current j a) (bytes_eq a.row.group g.name) (f a)) in
      let others = sum_same f (λ a. cond (bytes_eq a.row.group g.name) 0 (f a)) (flat_map (kept j own) gs) each_other in
      let rest = groups_sum (λ a. cond (bytes_eq a.row.group g.name) 0 (f a)) gs once.1 in
      let both = sum_add (λ a. cond (is_current j a) (cond (bytes_eq a.row.group g.name) (f a) 0) 0)
      (λ a. cond (is_current j a) (cond (bytes_eq a.row.group g.name) 0 (f a)) 0) own in
      let whole = sum_same (λ a. cond (is_current j a) (cond (bytes_eq a.row.group g.name) (f a) 0) 0 + cond (is_current j a)
      (cond (bytes_eq a.row.group g.name) 0 (f a)) 0)
      (λ a. cond (is_current j a) (f a) 0) own (each _ (λ a. parted (is_current j a) (bytes_eq a.row.group g.name) (f a)) own) in
      omega (arith, parts, first, some, others, rest, both, whole)
    where
      live_less : (l c b : Bool) (n : ℕ) → cond (l && (c && b)) n 0 ≤ cond c (cond b n 0) 0
      live_less true true true n = omega arith
      live_less true true false n = omega arith
      live_less true false b n = omega arith
      live_less false true true n = omega arith
      live_less false true false n = omega arith
      live_less false false b n = omega arith

      parted : (c b : Bool) (n : ℕ) → cond c (cond b n 0) 0 + cond c (cond b 0 n) 0 ≡ cond c n 0
      parted true true n = omega arith
      parted true false n = omega arith
      parted false b n = omega arith

      other : (h : Group) → g.name ≢ h.name → (a : OwnAllocation) → (is_live a.row && is_of j h a) ≡ true → f a ≡ cond (bytes_eq a.row.group g.name) 0 (f a)
      other h differ a e = sym (ap (λ b. cond b 0 (f a)) (no_one (bytes_eq a.row.group g.name) (λ same.
          differ (sym (same_text a.row.group g.name same) ∙ same_text a.row.group h.name
          (second_of_both (is_current j a) _ (second_of_both (is_live a.row) _ e))))))

      each_other : Each (λ a. f a ≡ cond (bytes_eq a.row.group g.name) 0 (f a)) (flat_map (kept j own) gs)
      each_other = each_flat (λ a. f a ≡ cond (bytes_eq a.row.group g.name) 0 (f a)) (kept j own) gs (each_map (λ h differ.
          each_map (λ a k. other h differ a k.1) (kept j own h) (each_kept (λ _. Unit {0}) (λ a. is_live a.row && is_of j h a) own (each_true own))) gs once.0)

  surplus_sum : (f : OwnAllocation → ℕ) (gs : List Group) → sum_by f (flat_map (surplus j own) gs) ≤ sum_by f (flat_map (kept j own) gs)
  surplus_sum f [] = omega arith
  surplus_sum f (g ∷ gs) =
      let some = sum_by-append f (surplus j own g) (flat_map (surplus j own) gs) in
      let all = sum_by-append f (kept j own g) (flat_map (kept j own) gs) in
      let here = sum_by-take-drop f (kept j own g) (length (kept j own g) - (length (kept j own g) + done j own g - g.count)) in
      let rest = surplus_sum f gs in
      omega (arith, some, all, here, rest)

  stops_sum : (f : OwnAllocation → ℕ) → Pairs (λ g h. g.name ≢ h.name) j.document.groups
      → sum_by f (outdated j own ++ flat_map (surplus j own) j.document.groups) ≤ sum_by f own
  stops_sum f once =
      let parts = sum_by-append f (outdated j own) (flat_map (surplus j own) j.document.groups) in
      let old = sum_filter f (λ a. is_live a.row && not (is_current j a)) own in
      let some = sum_by-le-sum_by (λ a. cond (is_live a.row && not (is_current j a)) (f a) 0) (λ a. cond (is_current j a) 0 (f a)) own
      (λ a. less (is_live a.row) (is_current j a) (f a)) in
      let over = surplus_sum f j.document.groups in
      let groups = groups_sum f j.document.groups once in
      let both = sum_add (λ a. cond (is_current j a) 0 (f a)) (λ a. cond (is_current j a) (f a) 0) own in
      let whole = sum_same (λ a. cond (is_current j a) 0 (f a) + cond (is_current j a) (f a) 0) f own (each _ (λ a. parted (is_current j a) (f a)) own) in
      omega (arith, parts, old, some, over, groups, both, whole)
    where
      less : (l c : Bool) (n : ℕ) → cond (l && not c) n 0 ≤ cond c 0 n
      less true true n = omega arith
      less true false n = omega arith
      less false true n = omega arith
      less false false n = omega arith

      parted : (c : Bool) (n : ℕ) → cond c 0 n + cond c n 0 ≡ n
      parted true n = omega arith
      parted false n = omega arith

-- what the stops take is no more than what the stopped ones of the job's allocations take
stopped_sum : (s : Snapshot) (j : Job) (f : OwnAllocation → ℕ) → law.IsOrderly s j → s.job ≡ Some j → j.stop ≡ false
    → sum_by f (stopping s.job s.own) ≤ sum_by f (filter (law.stops_own s) s.own)
unfolding plan has
stopped_sum s j f orderly is runs =
    let same = ap (sum_by f) stops in
    let marked = sum_same f (λ a. cond (law.stops_own s a) (f a) 0) (stopping s.job s.own) each_stopped in
    let again = ap (sum_by (λ a. cond (law.stops_own s a) (f a) 0)) stops in
    let some = stops_sum j s.own (λ a. cond (law.stops_own s a) (f a) 0) (pairs_from (λ g h. g.name ≢ h.name) j.document.groups orderly.one_name) in
    let whole = sum_filter f (law.stops_own s) s.own in
    omega (arith, marked, again, some, whole)
  where
    stops : stopping s.job s.own ≡ outdated j s.own ++ flat_map (surplus j s.own) j.document.groups
    stops = ap (λ o. stopping o s.own) is ∙ ap (λ b. cond b (live_ones s.own) (outdated j s.own ++ flat_map (surplus j s.own) j.document.groups)) runs

    each_stopped : Each (λ a. f a ≡ cond (law.stops_own s a) (f a) 0) (stopping s.job s.own)
    each_stopped = each_map (λ a h. sym (ap (λ b. cond b (f a) 0)
        (any_map (same_number a.number) (λ (a : OwnAllocation). a.number) (stopping s.job s.own) ∙ h)))
        (stopping s.job s.own) (has_itself (λ (a : OwnAllocation). a.number) (stopping s.job s.own))

-- ---- what the evictions take

-- a sum over a list of which one element changes
update_sum : {X : Type 0} (g : X → ℕ) (h : X → X) (d i : ℕ) (xs : List X) (x : X) → slice_get xs i ≡ Some x → g (h x) + d ≡ g x
    → sum_by g (update i h xs) + d ≡ sum_by g xs
update_sum g h d i [] x at e = absurd (not_Some x at)
update_sum g h d zero (y ∷ xs) x at e =
    let before = sum_by-cons g y xs in
    let now = sum_by-cons g (h y) xs in
    let same : g (h y) + d ≡ g y = subst (λ z. g (h z) + d ≡ g z) (sym (same_Some y x at)) e in
    omega (arith, before, now, same)
update_sum g h d (suc i) (y ∷ xs) x at e =
    let before = sum_by-cons g y xs in
    let now = sum_by-cons g y (update i h xs) in
    let rest = update_sum g h d i xs x at e in
    omega (arith, before, now, rest)

less_allowed : (limit : Limit) (m n : ℕ) → n ≤ m → plans.Allows limit m → plans.Allows limit n
less_allowed Unlimited m n le h = tt
less_allowed (AtMost most) m n le h = omega (arith, le, h)
less_allowed Nothing m n le h = h

chosen_node : (size : Resources) (cs : List Candidate) (ch : Choice) → choice size cs ≡ Some ch → (c : Candidate) × (slice_get cs ch.node ≡ Some c)
chosen_node size cs ch e = by (room_before_victims size cs ch e)
  where
    by : {ch : Choice} → chosen.IsChoice size cs ch → (c : Candidate) × (slice_get cs ch.node ≡ Some c)
    by (chosen.room k is) = (is.node, is.there)
    by (chosen.preempted k is none_fit) = (is.node, is.there)

module _ (q : QuotaSeen) (r : Resource) where
  -- what an allocation takes of the quota, if one of the placements evicts it
  abbrev freed : List Placement → LiveAllocation → ℕ
  freed ps a = cond (law.is_evicted ps a && counts_for q a) (quantity r a.size) 0

  abbrev all_freed : List Placement → List Candidate → ℕ
  all_freed ps cs = sum_by (λ c. sum_by (freed ps) c.evictable) cs

  record IsAllowed (used : Resources) (cs : List Candidate) (ps : List Placement) : Type 0 where
    out : ℕ
    within : out ≤ all_freed ps cs
    allowed : plans.Allows (limit_on r q.limits) (quantity r used + sum_by (λ p. quantity r p.size) ps - out)

  freed_more : (p : Placement) (ps : List Placement) (a : LiveAllocation) → freed ps a ≤ freed (p ∷ ps) a
  freed_more p ps a = by (law.is_evicted ps a) (counts_for q a) refl
    where
      by : (b c : Bool) → law.is_evicted ps a ≡ b → cond (b && c) (quantity r a.size) 0 ≤ cond (law.is_evicted (p ∷ ps) a && c) (quantity r a.size) 0
      by true c e =
          let same : cond (law.is_evicted (p ∷ ps) a && c) (quantity r a.size) 0 ≡ cond c (quantity r a.size) 0
          = ap (λ b. cond (b && c) (quantity r a.size) 0) (or_right _ (law.is_evicted ps a) e) in omega (arith, same)
      by false c e = omega arith

  module _ (d : Demand) (w : Site) (ch : Choice) (is : choice d.size w.candidates ≡ Some ch) where
    abbrev out_of_quota : ℕ
    out_of_quota = sum_by (λ a. quantity r a.size) (filter (counts_for q) ch.victims)

    used_after : quantity r (after q d.size ch w).used ≡ quantity r w.used + quantity r d.size - out_of_quota
    used_after =
        let less = quantity_of (λ r. quantity r (plus w.used d.size) - quantity r
        (total (λ (a : LiveAllocation). a.size) (filter (counts_for q) ch.victims))) r in
        let in_use = quantity_of (λ r. quantity r w.used + quantity r d.size) r in
        let whole = quantity_of (λ r. sum_by (λ (a : LiveAllocation). quantity r a.size) (filter (counts_for q) ch.victims)) r in
        omega (arith, less, in_use, whole)

    module _ (ps : List Placement) where
      abbrev takes : LiveAllocation → ℕ
      takes = freed (placement_of d ch ∷ ps)

      victims_take : sum_by takes ch.victims ≡ out_of_quota
      victims_take = sum_same takes (λ a. cond (counts_for q a) (quantity r a.size) 0) ch.victims
          (each_map (λ a h. ap (λ b. cond (b && counts_for q a) (quantity r a.size) 0) h) ch.victims (evicted_first (placement_of d ch) ps ch.victims refl))
          ∙ sym (sum_filter (λ a. quantity r a.size) (counts_for q) ch.victims)

      node_takes : (c : Candidate) → slice_get w.candidates ch.node ≡ Some c →
          sum_by takes (placed_on d.size ch.victims c).evictable + sum_by takes ch.victims ≡ sum_by takes c.evictable
      node_takes c at =
          let f = choice_frees d.size w.candidates ch c is at in
          let rest = ap (sum_by takes) (ap (drop (length ch.victims)) f.front ∙ drop-append_seam ch.victims f.others) in
          let whole = ap (sum_by takes) f.front in
          let parts = sum_by-append takes ch.victims f.others in
          omega (arith, rest, whole, parts)

      freed_first : all_freed ps (after q d.size ch w).candidates + out_of_quota ≤ all_freed (placement_of d ch ∷ ps) w.candidates
      freed_first =
          let node = chosen_node d.size w.candidates ch is in
          let changed = update_sum (λ c. sum_by takes c.evictable) (placed_on d.size ch.victims) (sum_by takes ch.victims) ch.node w.candidates node.0 node.1
          (node_takes node.0 node.1) in
          let more = sum_by-le-sum_by (λ c. sum_by (freed ps) c.evictable) (λ c. sum_by takes c.evictable) (after q d.size ch w).candidates
          (λ c. sum_by-le-sum_by (freed ps) takes c.evictable (freed_more (placement_of d ch) ps)) in
          let own = victims_take in
          omega (arith, changed, more, own)

      one_more : limits_allow q.limits (plus w.used d.size) ≡ true → (ps ≡ []) ⊎ IsAllowed (after q d.size ch w).used (after q d.size ch w).candidates ps
          → IsAllowed w.used w.candidates (placement_of d ch ∷ ps)
      one_more e (inl empty) = record {
        out = 0;
        within = omega arith;
        allowed =
            let whole = sum_by-cons (λ (p : Placement). quantity r p.size) (placement_of d ch) ps in
            let nothing : sum_by (λ (p : Placement). quantity r p.size) ps ≡ 0 = ap (sum_by (λ (p : Placement). quantity r p.size)) empty in
            let in_use = quantity_of (λ r. quantity r w.used + quantity r d.size) r in
            less_allowed (limit_on r q.limits) (quantity r (plus w.used d.size)) _ (omega (arith, whole, nothing, in_use))
            (allows_is (limit_on r q.limits) (quantity r (plus w.used d.size))
            (true_at (λ r. limit_allows (limit_on r q.limits) (quantity r (plus w.used d.size))) e r));
      }
      one_more e (inr h) = record {
        out = out_of_quota + h.out;
        within = let first = freed_first in let rest = h.within in omega (arith, first, rest);
        allowed =
            let whole = sum_by-cons (λ (p : Placement). quantity r p.size) (placement_of d ch) ps in
            let used = used_after in
            less_allowed (limit_on r q.limits) (quantity r (after q d.size ch w).used + sum_by (λ p. quantity r p.size) ps - h.out) _
            (omega (arith, whole, used)) h.allowed;
      }

  places_allowed : (ds : List Demand) (w : Site) → ((place q ds w).placements ≡ []) ⊎ IsAllowed w.used w.candidates (place q ds w).placements
  places_allowed [] w = inl refl
  places_allowed (d ∷ ds) w = by (limits_allow q.limits (plus w.used d.size)) refl (choice d.size w.candidates) refl (places_allowed ds)
    where
      by : (b : Bool) → limits_allow q.limits (plus w.used d.size) ≡ b → (o : Option Choice) → choice d.size w.candidates ≡ o
          → ((w : Site) → ((place q ds w).placements ≡ []) ⊎ IsAllowed w.used w.candidates (place q ds w).placements)
          → let ps = (cond b (option_map_or (λ (s : Placement × Site). then_rest s.0 (place q ds s.1))
          (option_map (λ ch. (placement_of d ch, after q d.size ch w)) o)
          (without_one (place q ds w))) ended_by_quota).placements in (ps ≡ []) ⊎ IsAllowed w.used w.candidates ps
      by false e o is later = inl refl
      by true e None is later = later w
      by true e (Some ch) is later = inr (one_more d w ch is (place q ds (after q d.size ch w)).placements e (later (after q d.size ch w)))

  -- what the candidates' allocations take is no more than what the nodes' allocations take
  nodes_take : (s : Snapshot) (j : Job) (stops : List OwnAllocation) (ps : List Placement) → all_freed ps (opening s j stops).candidates
      ≤ sum_by (λ n. sum_by (λ a. quantity r a.size) (filter (λ a. law.is_evicted ps a && counts_for q a) n.live)) s.nodes
  nodes_take s j stops ps =
      let mapped = sum_map (λ (c : Candidate). sum_by (freed ps) c.evictable) (candidate_of j s.namespace stops) s.nodes in
      let less = sum_by-le-sum_by (λ (n : PoolNode). sum_by (freed ps) (staying s.namespace stops (evictable j.document.priority n.live)))
      (λ n. sum_by (λ a. quantity r a.size) (filter (λ a. law.is_evicted ps a && counts_for q a) n.live)) s.nodes each_node in
      omega (arith, mapped, less)
    where
      each_node : (n : PoolNode) → sum_by (freed ps) (staying s.namespace stops (evictable j.document.priority n.live))
          ≤ sum_by (λ a. quantity r a.size) (filter (λ a. law.is_evicted ps a && counts_for q a) n.live)
      each_node n =
          let stay = sum_kept (freed ps) (stays s.namespace stops) (evictable j.document.priority n.live) in
          let some = evictable_sum (freed ps) j.document.priority n.live in
          let whole = sum_filter (λ a. quantity r a.size) (λ a. law.is_evicted ps a && counts_for q a) n.live in
          omega (arith, stay, some, whole)

-- ---- the whole

-- what the law says, where the plan has these placements
abbrev KeepsQuota : Snapshot → QuotaSeen → Resource → List Placement → Type 0
KeepsQuota s quota r ps = plans.Allows (limit_on r quota.limits) (quantity r quota.used + sum_by (λ p. quantity r p.size) ps
    - (law.stopped_use s r
    + sum_by (λ n. sum_by (λ a. quantity r a.size) (filter (λ a. law.is_evicted ps a && counts_for quota a) n.live)) s.nodes))

pub frees_within_quota : law.FreesWithinQuota
unfolding plan
frees_within_quota s j quota r orderly is seen some = subst (KeepsQuota s quota r) (sym placing) (running j.stop refl)
  where
    placing : (plan s).placing.placements ≡ (placing_of s (Some j) (stopping s.job s.own)).placements
    placing = ap (λ o. (placing_of s o (stopping s.job s.own)).placements) is

    used_first : quantity r (opening s j (stopping s.job s.own)).used ≡
        quantity r (quota_of s).used - sum_by (λ (a : OwnAllocation). quantity r a.row.size) (stopping s.job s.own)
    used_first =
        let less = quantity_of (λ r. quantity r (quota_of s).used - quantity r (total (λ (a : OwnAllocation). a.row.size) (stopping s.job s.own))) r in
        let whole = quantity_of (λ r. sum_by (λ (a : OwnAllocation). quantity r a.row.size) (stopping s.job s.own)) r in
        omega (arith, less, whole)

    for : j.stop ≡ false → (ps : List Placement) → IsAllowed (quota_of s) r (opening s j (stopping s.job s.own)).used
        (opening s j (stopping s.job s.own)).candidates ps
        → KeepsQuota s (quota_of s) r ps
    for runs ps h =
        let stops = stopped_sum s j (λ a. quantity r a.row.size) orderly is runs in
        let used = used_first in
        let evicts = nodes_take (quota_of s) r s j (stopping s.job s.own) ps in
        let within = h.within in
        less_allowed (limit_on r (quota_of s).limits) (quantity r (opening s j (stopping s.job s.own)).used + sum_by (λ p. quantity r p.size) ps - h.out) _
        (omega (arith, stops, used, evicts, within)) h.allowed

    allowed : j.stop ≡ false → (ps : List Placement) → (ps ≡ [] → ⊥)
        → (ps ≡ []) ⊎ IsAllowed (quota_of s) r (opening s j (stopping s.job s.own)).used (opening s j (stopping s.job s.own)).candidates ps
        → KeepsQuota s quota r ps
    allowed runs ps full (inl empty) = absurd (full empty)
    allowed runs ps full (inr h) = subst (λ q. KeepsQuota s q r ps) (ap (λ (o : Option QuotaSeen). unwrap_or o no_quota) seen) (for runs ps h)

    running : (b : Bool) → j.stop ≡ b → KeepsQuota s quota r (placing_of s (Some j) (stopping s.job s.own)).placements
    running true stops = absurd (some (placing ∙ ap (λ b. (place (quota_of s) (cond b [] (demands_from 0 j s.own j.document.groups))
        (opening s j (stopping s.job s.own))).placements) stops))
    running false runs = allowed runs (placing_of s (Some j) (stopping s.job s.own)).placements (λ empty. some (placing ∙ empty))
        (places_allowed (quota_of s) r (demands (Some j) s.own) (opening s j (stopping s.job s.own)))
