-- Where the quota ends a plan, one more allocation is over it.
use Rattle.std.specs.Prelude.{◌≡◌, ℕ, ◌+◌, ◌-◌, Bool, true, false, cond, ◌&&◌, List, [], ◌∷◌, Option, Some, None, filter, sum_by}
use Rattle.std.specs.Option.{unwrap_or}
use Rattle.std.proofs.Common.{refl, sym, ap, subst, ◌∙◌, arith}
use Rattle.std.proofs.lemmas.Bool.{le-leb}
use Rattle.std.proofs.lemmas.List.Sums.{sum_by-cons}
use Rattle.ns_types.specs.declared.job.Job.{Job}
use Rattle.ns_types.specs.declared.plan.Demand.{Demand}
use Rattle.ns_types.specs.declared.plan.Placement.{Placement}
use Rattle.ns_types.specs.declared.plan.Placing.{Placing}
use Rattle.ns_types.specs.declared.resources.Limit.{Limit}
use Rattle.ns_types.specs.declared.resources.Limit.TheVariants.{Unlimited, AtMost, Nothing}
use Rattle.ns_types.specs.declared.resources.Resources.{Resources}
use Rattle.ns_types.specs.declared.snapshot.LiveAllocation.{LiveAllocation}
use Rattle.ns_types.specs.declared.snapshot.OwnAllocation.{OwnAllocation}
use Rattle.ns_types.specs.declared.snapshot.QuotaSeen.{QuotaSeen}
use Rattle.ns_types.specs.declared.snapshot.Snapshot.{Snapshot}
use Rattle.ns_types.specs.Placing.Plan.{no_quota, opening, placing_of, plan, quota_of}
use Rattle.ns_types.specs.Placing.Planning.{Choice, Site, after, choice, counts_for, eviction_of, place, placement_of}
use Rattle.ns_types.specs.Placing.Wanted.{demands_from, stopping}
use Rattle.ns_types.specs.State.Lists.{Each}
use Rattle.ns_types.specs.State.Resources.{Resource, Cpu, Disk, Memory, in_each, limit_allows, limit_on, limits_allow, plus, quantity, total}
use Rattle.ns_types.proofs.Amounts.{quantity_of}
use Rattle.ns_types.proofs.Lists.{not_both}
use Rattle.ns_laws.specs.Planning as law
use Rattle.ns_laws.proofs.Plans.InTurn.{IsOf, group_sized, one_more}
use Rattle.ns_laws.proofs.Plans.Limits.{none_mapped}
use Rattle.ns_laws.proofs.Plans.Planning.{all_demands_of, placing_is}

-- what does not hold of each resource fails for some
fails_at : (p : Resource → Bool) → in_each p ≡ false → (r : Resource) × (p r ≡ false)
fails_at p e = by (p Cpu) (p Memory) (p Disk) refl refl refl e
  where
    by : (a b c : Bool) → p Cpu ≡ a → p Memory ≡ b → p Disk ≡ c → (a && b && c) ≡ false → (r : Resource) × (p r ≡ false)
    by false b c f g h e = (Cpu, f)
    by true false c f g h e = (Memory, g)
    by true true false f g h e = (Disk, h)
    by true true true f g h e = not_both refl e

allows_by : (limit : Limit) (n : ℕ) → law.Allows limit n → limit_allows limit n ≡ true
allows_by Unlimited n h = refl
allows_by (AtMost most) n h = le-leb n most h
allows_by Nothing n h = absurd h

module _ (q : QuotaSeen) (j : Job) where
  -- one more allocation is refused, where the placements evict nothing
  record IsOver (used : Resources) (ps : List Placement) : Type 0 where
    size : Resources
    is_size : law.IsGroupSize j size
    in_use : Resources
    amount : (r : Resource) → quantity r in_use ≡ quantity r used + sum_by (λ p. quantity r p.size) ps
    refused : limits_allow q.limits (plus in_use size) ≡ false

  used_after : (size : Resources) (ch : Choice) (w : Site) (r : Resource) → ch.victims ≡ [] →
      quantity r (after q size ch w).used ≡ quantity r w.used + quantity r size
  used_after size ch w r none =
      let sum = quantity_of (λ r. quantity r w.used + quantity r size) r in
      let less = quantity_of (λ r. quantity r (plus w.used size) - quantity r (total (λ (a : LiveAllocation). a.size) (filter (counts_for q) ch.victims))) r in
      let whole = quantity_of (λ r. sum_by (λ (a : LiveAllocation). quantity r a.size) (filter (counts_for q) ch.victims)) r in
      let nothing : sum_by (λ (a : LiveAllocation). quantity r a.size) (filter (counts_for q) ch.victims) ≡ 0
      = ap (λ xs. sum_by (λ (a : LiveAllocation). quantity r a.size) (filter (counts_for q) xs)) none in
      omega (arith, less, sum, whole, nothing)

  ends_over : (ds : List Demand) (w : Site) → Each (IsOf q j) ds → (place q ds w).quota_limited ≡ true →
      Each (λ p. p.evictions ≡ []) (place q ds w).placements → IsOver w.used (place q ds w).placements
  ends_over [] w h limited none = not_both limited refl
  ends_over (d ∷ ds) w h limited none = by (limits_allow q.limits (plus w.used d.size)) refl (choice d.size w.candidates) (ends_over ds) limited none
    where
      by : (b : Bool) → limits_allow q.limits (plus w.used d.size) ≡ b → (o : Option Choice) →
          ((w : Site) → Each (IsOf q j) ds → (place q ds w).quota_limited ≡ true → Each (λ p. p.evictions ≡ []) (place q ds w).placements →
          IsOver w.used (place q ds w).placements) → (one_more q d ds w b o).quota_limited ≡ true →
          Each (λ p. p.evictions ≡ []) (one_more q d ds w b o).placements → IsOver w.used (one_more q d ds w b o).placements
      by false refuses o rest limited none = record {
        size = d.size;
        is_size = group_sized q j d h.0;
        in_use = w.used;
        amount = λ r. omega arith;
        refused = refuses;
      }
      by true e None rest limited none = rest w h.1 limited none
      by true e (Some ch) rest limited none =
          let x = after q d.size ch w in
          let o = rest x h.1 limited none.1 in record {
            size = o.size;
            is_size = o.is_size;
            in_use = o.in_use;
            amount = λ r.
                let a = o.amount r in
                let used = used_after d.size ch w r (none_mapped eviction_of ch.victims none.0) in
                let whole = sum_by-cons (λ (p : Placement). quantity r p.size) (placement_of d ch) (place q ds x).placements in
                omega (arith, a, used, whole);
            refused = o.refused;
          }

module _ (s : Snapshot) (quota : QuotaSeen) (is : s.quota ≡ Some quota) (no_stops : (plan s).stops ≡ []) where
  quota_is : quota_of s ≡ quota
  quota_is = ap (λ (q : Option QuotaSeen). unwrap_or q no_quota) is

  used_is : (j : Job) (r : Resource) → quantity r (opening s j (stopping s.job s.own)).used ≡ quantity r quota.used
  unfolding plan
  used_is j r =
      let less = quantity_of (λ r. quantity r (quota_of s).used - quantity r (total (λ (a : OwnAllocation). a.row.size) (stopping s.job s.own))) r in
      let whole = quantity_of (λ r. sum_by (λ (a : OwnAllocation). quantity r a.row.size) (stopping s.job s.own)) r in
      let nothing : sum_by (λ (a : OwnAllocation). quantity r a.row.size) (stopping s.job s.own) ≡ 0
      = ap (sum_by (λ (a : OwnAllocation). quantity r a.row.size)) (none_mapped (λ (a : OwnAllocation). a.number) (stopping s.job s.own) no_stops) in
      let used : quantity r (quota_of s).used ≡ quantity r quota.used = ap (λ (q : QuotaSeen). quantity r q.used) quota_is in
      omega (arith, less, whole, nothing, used)

  over_is : (j : Job) → s.job ≡ Some j → IsOver (quota_of s) j (opening s j (stopping s.job s.own)).used (plan s).placing.placements → law.IsOverQuota s quota
  over_is j is_job o =
      let fails = fails_at (λ r. limit_allows (limit_on r (quota_of s).limits) (quantity r (plus o.in_use o.size))) o.refused in
      let r = fails.0 in record {
        job = j;
        is_job = is_job;
        size = o.size;
        is_size = o.is_size;
        resource = r;
        over = λ allows.
            let sum = quantity_of (λ r. quantity r o.in_use + quantity r o.size) r in
            let amount = o.amount r in
            let used = used_is j r in
            let same : quantity r quota.used + sum_by (λ p. quantity r p.size) (plan s).placing.placements + quantity r o.size
            ≡ quantity r (plus o.in_use o.size) = omega (arith, sum, amount, used) in
            not_both (allows_by (limit_on r (quota_of s).limits) (quantity r (plus o.in_use o.size))
            (subst (λ (q : QuotaSeen). law.Allows (limit_on r q.limits) (quantity r (plus o.in_use o.size))) (sym quota_is)
            (subst (law.Allows (limit_on r quota.limits)) same allows))) fails.1;
      }

pub quota_ends_plan : law.QuotaEndsPlan
unfolding plan
quota_ends_plan s quota is limited no_stops none = by s.job refl
  where
    for : (j : Job) → s.job ≡ Some j → (b : Bool) → j.stop ≡ b → law.IsOverQuota s quota
    for j at true e = not_both limited (ap (λ o. (placing_of s o (stopping s.job s.own)).quota_limited) at
        ∙ ap (λ b. (place (quota_of s) (cond b [] (demands_from 0 j s.own j.document.groups)) (opening s j (stopping s.job s.own))).quota_limited) e)
    for j at false e =
        let ds : List Demand = demands_from 0 j s.own j.document.groups in
        let w : Site = opening s j (stopping s.job s.own) in
        let same : (plan s).placing ≡ place (quota_of s) ds w = placing_is s j at e in
        over_is s quota is no_stops j at (subst (λ (p : Placing). IsOver (quota_of s) j w.used p.placements) (sym same)
        (ends_over (quota_of s) j ds w (all_demands_of j s.own) (ap (λ (p : Placing). p.quota_limited) (sym same) ∙ limited)
        (subst (λ (p : Placing). Each (λ p. p.evictions ≡ []) p.placements) same none)))

    by : (o : Option Job) → s.job ≡ o → law.IsOverQuota s quota
    by None at = not_both limited (ap (λ o. (placing_of s o (stopping s.job s.own)).quota_limited) at)
    by (Some j) at = for j at j.stop refl
