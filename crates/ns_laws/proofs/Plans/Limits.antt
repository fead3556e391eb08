-- The limits that a plan reports, and that it keeps to the quota.
use Rattle.std.specs.Prelude.{◌≡◌, ◌≢◌, ◌⊎◌, ℕ, zero, suc, ◌+◌, ◌-◌, ◌<◌, ◌==◌, Bool, true, false, cond, not, ◌&&◌}
use Rattle.std.specs.Prelude.{List, [], ◌∷◌, Option, Some, None, count_by, filter, length, map, option_map, slice_get, sum_by}
use Rattle.std.specs.Option.{option_map_or, unwrap_or}
use Rattle.std.specs.Str.{bytes_eq}
use Rattle.std.proofs.Common.{refl, sym, ap, subst, ◌∙◌, arith, inl, inr}
use Rattle.std.proofs.lemmas.Bool.{eq-eqb}
use Rattle.std.proofs.lemmas.List.Sums.{sum_by-cons}
use Rattle.ns_types.specs.declared.job.Group.{Group}
use Rattle.ns_types.specs.declared.job.Job.{Job}
use Rattle.ns_types.specs.declared.plan.Demand.{Demand}
use Rattle.ns_types.specs.declared.plan.Placement.{Placement}
use Rattle.ns_types.specs.declared.plan.Placing.{Placing}
use Rattle.ns_types.specs.declared.resources.Limit.{Limit}
use Rattle.ns_types.specs.declared.resources.Limit.TheVariants.{Unlimited, AtMost, Nothing}
use Rattle.ns_types.specs.declared.resources.Resources.{Resources}
use Rattle.ns_types.specs.declared.snapshot.LiveAllocation.{LiveAllocation}
use Rattle.ns_types.specs.declared.snapshot.OwnAllocation.{OwnAllocation}
use Rattle.ns_types.specs.declared.snapshot.QuotaSeen.{QuotaSeen}
use Rattle.ns_types.specs.declared.snapshot.Snapshot.{Snapshot}
use Rattle.ns_types.specs.Placing.Plan.{is_among, no_quota, opening, placing_of, plan, quota_of, stays}
use Rattle.ns_types.specs.Placing.Planning.{Choice, Site, after, choice, counts_for, ended_by_quota}
use Rattle.ns_types.specs.Placing.Planning.{eviction_of, place, placement_of, then_rest, update, without_one}
use Rattle.ns_types.specs.Placing.Wanted.{demands, demands_from, stopping}
use Rattle.ns_types.specs.State.Lists.{Each}
use Rattle.ns_types.specs.State.Names.{has_number, same_number}
use Rattle.ns_types.specs.State.Resources.{Resource, limit_allows, limit_on, limits_allow, plus, quantity, total}
use Rattle.ns_types.proofs.Amounts.{quantity_of, true_at}
use Rattle.ns_types.proofs.Elements.{any_map, any_same}
use Rattle.ns_types.proofs.Lists.{each_map, not_both}
use Rattle.ns_types.proofs.Named.{number_ties, one_number, other_number, same_number_refl}
use Rattle.ns_types.proofs.Tables.{tied}
use Rattle.ns_types.proofs.Tests.{not_Some, same_Some}
use Rattle.ns_audit.proofs.ValidAllocations.Sound.{le_by}
use Rattle.ns_laws.specs.Planning as law
use Rattle.ns_laws.proofs.Plans.Planning.{places_count, wanted_at, missing_is, placing_is, all_demands_of}

-- ---- limits

abbrev IsLimited : Placing → Type 0
IsLimited placing = (placing.quota_limited ≡ true) ⊎ (placing.class_limited ≡ true)

one_limit : (q : QuotaSeen) (ds : List Demand) (w : Site) → (place q ds w).quota_limited ≡ true → (place q ds w).class_limited ≡ false
one_limit q [] w e = refl
one_limit q (d ∷ ds) w e = by (limits_allow q.limits (plus w.used d.size)) (choice d.size w.candidates) (one_limit q ds) e
  where
    by : (b : Bool) (o : Option Choice) → ((w : Site) → (place q ds w).quota_limited ≡ true → (place q ds w).class_limited ≡ false)
        → (cond b (option_map_or (λ (s : Placement × Site). then_rest s.0 (place q ds s.1)) (option_map (λ ch. (placement_of d ch, after q d.size ch w)) o)
        (without_one (place q ds w))) ended_by_quota).quota_limited ≡ true
        → (cond b (option_map_or (λ (s : Placement × Site). then_rest s.0 (place q ds s.1)) (option_map (λ ch. (placement_of d ch, after q d.size ch w)) o)
        (without_one (place q ds w))) ended_by_quota).class_limited ≡ false
    by false o rest e = refl
    by true None rest e = ap not e
    by true (Some ch) rest e = rest (after q d.size ch w) e

not_by_quota : (ds : List Demand) (w : Site) → (place no_quota ds w).quota_limited ≡ false
not_by_quota [] w = refl
not_by_quota (d ∷ ds) w = by (choice d.size w.candidates) (not_by_quota ds)
  where
    by : (o : Option Choice) → ((w : Site) → (place no_quota ds w).quota_limited ≡ false)
        → (option_map_or (λ (s : Placement × Site). then_rest s.0 (place no_quota ds s.1))
        (option_map (λ ch. (placement_of d ch, after no_quota d.size ch w)) o)
        (without_one (place no_quota ds w))).quota_limited ≡ false
    by None rest = rest w
    by (Some ch) rest = rest (after no_quota d.size ch w)

-- where placing is limited, fewer are placed of some group than are missing
module _ (q : QuotaSeen) (C : ℕ → Type 0) where
  record IsShort (ds : List Demand) (placing : Placing) : Type 0 where
    group : ℕ
    is : C group
    fewer : count_by (λ p. p.group == group) placing.placements < count_by (λ d. d.group == group) ds

  places_short : (ds : List Demand) (w : Site) → Each (λ d. C d.group) ds → IsLimited (place q ds w) → IsShort ds (place q ds w)
  places_short [] w h (inl e) = not_both e refl
  places_short [] w h (inr e) = not_both e refl
  places_short (d ∷ ds) w h limited = by (limits_allow q.limits (plus w.used d.size)) (choice d.size w.candidates) (places_short ds) limited
    where
      more : (group : ℕ) → count_by (λ d. d.group == group) (d ∷ ds) ≡ cond (d.group == group) 1 0 + count_by (λ d. d.group == group) ds
      more group = sum_by-cons (λ (d : Demand). cond (d.group == group) 1 0) d ds

      own : cond {A = ℕ} (d.group == d.group) 1 0 ≡ 1
      own = ap (λ (b : Bool). cond {A = ℕ} b 1 0) (eq-eqb d.group d.group refl)

      first : (group : ℕ) (ch : Choice) (ps : List Placement) → count_by (λ p. p.group == group) (placement_of d ch ∷ ps)
          ≡ cond (d.group == group) 1 0 + count_by (λ p. p.group == group) ps
      first group ch ps = sum_by-cons (λ (p : Placement). cond (p.group == group) 1 0) (placement_of d ch) ps

      by : (b : Bool) (o : Option Choice) → ((w : Site) → Each (λ d. C d.group) ds → IsLimited (place q ds w) → IsShort ds (place q ds w))
          → IsLimited (cond b (option_map_or (λ (s : Placement × Site). then_rest s.0 (place q ds s.1))
          (option_map (λ ch. (placement_of d ch, after q d.size ch w)) o)
          (without_one (place q ds w))) ended_by_quota)
          → IsShort (d ∷ ds) (cond b (option_map_or (λ (s : Placement × Site). then_rest s.0 (place q ds s.1))
          (option_map (λ ch. (placement_of d ch, after q d.size ch w)) o)
          (without_one (place q ds w))) ended_by_quota)
      by false o rest limited = record { group = d.group; is = h.0; fewer = let m = more d.group in omega (arith, m, own) }
      by true None rest limited = record {
        group = d.group;
        is = h.0;
        fewer = let m = more d.group in let r = (places_count q (λ n. n == d.group) ds w).at_most in omega (arith, m, own, r);
      }
      by true (Some ch) rest limited =
          let x = rest (after q d.size ch w) h.1 limited in record {
            group = x.group;
            is = x.is;
            fewer =
                let m = more x.group in
                let n = first x.group ch (place q ds (after q d.size ch w)).placements in
                let f = x.fewer in
                omega (arith, m, n, f);
          }

pub limits_are_real : law.LimitsAreReal
unfolding plan
limits_are_real s = record { one = one; quota = quota; short = short }
  where
    placing : (o : Option Job) → s.job ≡ o → (plan s).placing ≡ placing_of s o (stopping s.job s.own)
    placing o is = ap (λ o. placing_of s o (stopping s.job s.own)) is

    one_of : (o : Option Job) → (placing_of s o (stopping s.job s.own)).quota_limited ≡ true → (placing_of s o (stopping s.job s.own)).class_limited ≡ false
    one_of None e = refl
    one_of (Some j) e = one_limit (quota_of s) (demands (Some j) s.own) (opening s j (stopping s.job s.own)) e

    one : (plan s).placing.quota_limited ≡ true → (plan s).placing.class_limited ≡ false
    one e = one_of s.job e

    none_of : (o : Option Job) → s.quota ≡ None → (placing_of s o (stopping s.job s.own)).quota_limited ≡ false
    none_of None none = refl
    none_of (Some j) none = ap (λ (q : Option QuotaSeen). (place (unwrap_or q no_quota) (demands (Some j) s.own)
        (opening s j (stopping s.job s.own))).quota_limited) none
        ∙ not_by_quota (demands (Some j) s.own) (opening s j (stopping s.job s.own))

    quota : (plan s).placing.quota_limited ≡ true → s.quota ≢ None
    quota e none = not_both e (none_of s.job none)

    short_for : (j : Job) → s.job ≡ Some j → (b : Bool) → j.stop ≡ b
        → IsLimited (place (quota_of s) (cond b [] (demands_from 0 j s.own j.document.groups)) (opening s j (stopping s.job s.own))) → law.StaysShort s
    short_for j is true e (inl l) = not_both l refl
    short_for j is true e (inr l) = not_both l refl
    short_for j is false e l =
        let x = places_short (quota_of s) (λ n. (g : Group) × (slice_get j.document.groups n ≡ Some g)) (demands_from 0 j s.own j.document.groups)
        (opening s j (stopping s.job s.own)) (each_map (λ d h. (h.0, h.1)) (demands_from 0 j s.own j.document.groups) (all_demands_of j s.own)) l in
        let wanted = wanted_at j s.own x.group 0 x.group j.document.groups x.is.0 (from_none x.group) x.is.1 in
        let lacks = missing_is j s.own x.is.0 in
        let fewer = x.fewer in
        let placed_same : law.placed_of s x.group ≡ count_by (λ p. p.group == x.group)
        (place (quota_of s) (demands_from 0 j s.own j.document.groups) (opening s j (stopping s.job s.own))).placements
        = ap (λ (p : Placing). count_by (λ p. p.group == x.group) p.placements) (placing_is s j is e) in record {
          job = j;
          is_job = is;
          to_run = e;
          place = x.group;
          group = x.is.0;
          is_group = x.is.1;
          short = omega (arith, wanted, lacks, fewer, placed_same);
        }
      where
        from_none : (n : ℕ) → n ≡ 0 + n
        from_none n = omega arith

    short_of : (o : Option Job) → s.job ≡ o → IsLimited (placing_of s o (stopping s.job s.own)) → law.StaysShort s
    short_of None is (inl e) = not_both e refl
    short_of None is (inr e) = not_both e refl
    short_of (Some j) is l = short_for j is j.stop refl l

    short : ((plan s).placing.quota_limited ≡ true) ⊎ ((plan s).placing.class_limited ≡ true) → law.StaysShort s
    short l = short_of s.job refl l

-- ---- what a plan changes, and what it stops

module _ {X : Type 0} where
  -- another element than the one that is changed stays
  pub other_stays : (f : X → X) (i k : ℕ) → (i ≡ k → ⊥) → (xs : List X) → slice_get (update i f xs) k ≡ slice_get xs k
  other_stays f i k ne [] = refl
  other_stays f zero zero ne (x ∷ xs) = absurd (ne refl)
  other_stays f zero (suc k) ne (x ∷ xs) = refl
  other_stays f (suc i) zero ne (x ∷ xs) = refl
  other_stays f (suc i) (suc k) ne (x ∷ xs) = other_stays f i k (λ e. ne (ap suc e)) xs

  pub this_changed : (f : X → X) (i : ℕ) (xs : List X) (x : X) → slice_get xs i ≡ Some x → slice_get (update i f xs) i ≡ Some (f x)
  this_changed f i [] x e = absurd (not_Some x e)
  this_changed f zero (y ∷ xs) x e = ap (λ z. Some (f z)) (same_Some y x e)
  this_changed f (suc i) (y ∷ xs) x e = this_changed f i xs x e

pub none_mapped : {X Y : Type 0} (f : X → Y) (xs : List X) → map f xs ≡ [] → xs ≡ []
none_mapped f [] e = refl
none_mapped f (x ∷ xs) e = absurd (some_length e)
  where
    some_length : f x ∷ map f xs ≡ [] → ⊥
    some_length e = let l = ap length e in omega (arith, l)

-- the stops are known by their numbers
pub stopped_is : (s : Snapshot) (a : LiveAllocation) → stays s.namespace (stopping s.job s.own) a ≡ not (law.is_stopped s a)
unfolding plan
stopped_is s a = ap (λ b. not (bytes_eq a.namespace s.namespace && b)) (among (stopping s.job s.own))
  where
    among : (xs : List OwnAllocation) → is_among xs a.number ≡ has_number (map (λ a. a.number) xs) a.number
    among xs = any_same (λ (x : OwnAllocation). x.number == a.number) (λ x. same_number a.number x.number)
        (λ x. number_ties x.number a.number ∙ turned x.number a.number) xs ∙ sym (any_map (same_number a.number) (λ (x : OwnAllocation). x.number) xs)
      where
        turned : (m n : ℕ) → same_number m n ≡ same_number n m
        turned m n = by (same_number n m) refl
          where
            by : (b : Bool) → same_number n m ≡ b → same_number m n ≡ b
            by true e = ap (same_number m) (tied one_number n m e) ∙ same_number_refl m
            by false e = other_number m n (λ same. not_both (ap (same_number n) same ∙ same_number_refl n) e)

-- ---- the quota

pub allows_is : (limit : Limit) (n : ℕ) → limit_allows limit n ≡ true → law.Allows limit n
allows_is Unlimited n e = tt
allows_is (AtMost most) n e = le_by n most e
allows_is Nothing n e = not_both e refl

module _ (q : QuotaSeen) (r : Resource) where
  abbrev IsAllowed : Resources → List Placement → Type 0
  IsAllowed used ps = (ps ≡ []) ⊎ law.Allows (limit_on r q.limits) (quantity r used + sum_by (λ p. quantity r p.size) ps)

  -- without evictions, the quota allows what is in use and what is placed
  places_allowed : (ds : List Demand) (w : Site) → Each (λ p. p.evictions ≡ []) (place q ds w).placements → IsAllowed w.used (place q ds w).placements
  places_allowed [] w none = inl refl
  places_allowed (d ∷ ds) w none = by (limits_allow q.limits (plus w.used d.size)) refl (choice d.size w.candidates) (places_allowed ds) none
    where
      in_use : quantity r (plus w.used d.size) ≡ quantity r w.used + quantity r d.size
      in_use = quantity_of (λ r. quantity r w.used + quantity r d.size) r

      used_after : (ch : Choice) → ch.victims ≡ [] → quantity r (after q d.size ch w).used ≡ quantity r w.used + quantity r d.size
      used_after ch none =
          let less = quantity_of (λ r. quantity r (plus w.used d.size) - quantity r
          (total (λ (a : LiveAllocation). a.size) (filter (counts_for q) ch.victims))) r in
          let whole = quantity_of (λ r. sum_by (λ (a : LiveAllocation). quantity r a.size) (filter (counts_for q) ch.victims)) r in
          let nothing : sum_by (λ (a : LiveAllocation). quantity r a.size) (filter (counts_for q) ch.victims) ≡ 0
          = ap (λ xs. sum_by (λ (a : LiveAllocation). quantity r a.size) (filter (counts_for q) xs)) none in
          omega (arith, less, in_use, whole, nothing)

      with_rest : limits_allow q.limits (plus w.used d.size) ≡ true → (ch : Choice) → ch.victims ≡ [] → (ps : List Placement) →
          IsAllowed (after q d.size ch w).used ps
          → law.Allows (limit_on r q.limits) (quantity r w.used + sum_by (λ p. quantity r p.size) (placement_of d ch ∷ ps))
      with_rest e ch none ps (inl empty) =
          let whole = sum_by-cons (λ (p : Placement). quantity r p.size) (placement_of d ch) ps in
          let nothing : sum_by (λ (p : Placement). quantity r p.size) ps ≡ 0 = ap (sum_by (λ (p : Placement). quantity r p.size)) empty in
          let same : quantity r (plus w.used d.size) ≡ quantity r w.used + sum_by (λ p. quantity r p.size) (placement_of d ch ∷ ps) =
          omega (arith, in_use, whole, nothing) in
          subst (law.Allows (limit_on r q.limits)) same (allows_is (limit_on r q.limits) (quantity r (plus w.used d.size))
          (true_at (λ r. limit_allows (limit_on r q.limits) (quantity r (plus w.used d.size))) e r))
      with_rest e ch none ps (inr h) =
          let whole = sum_by-cons (λ (p : Placement). quantity r p.size) (placement_of d ch) ps in
          let used = used_after ch none in
          let same : quantity r (after q d.size ch w).used + sum_by (λ p. quantity r p.size) ps
          ≡ quantity r w.used + sum_by (λ p. quantity r p.size) (placement_of d ch ∷ ps) = omega (arith, whole, used) in
          subst (law.Allows (limit_on r q.limits)) same h

      by : (b : Bool) → limits_allow q.limits (plus w.used d.size) ≡ b → (o : Option Choice)
          → ((w : Site) → Each (λ p. p.evictions ≡ []) (place q ds w).placements → IsAllowed w.used (place q ds w).placements)
          → Each (λ p. p.evictions ≡ []) (cond b (option_map_or (λ (s : Placement × Site). then_rest s.0 (place q ds s.1))
          (option_map (λ ch. (placement_of d ch, after q d.size ch w)) o)
          (without_one (place q ds w))) ended_by_quota).placements
          → IsAllowed w.used (cond b (option_map_or (λ (s : Placement × Site). then_rest s.0 (place q ds s.1))
          (option_map (λ ch. (placement_of d ch, after q d.size ch w)) o)
          (without_one (place q ds w))) ended_by_quota).placements
      by false e o later none = inl refl
      by true e None later none = later w none
      by true e (Some ch) later none = inr (with_rest e ch (none_mapped eviction_of ch.victims none.0) (place q ds (after q d.size ch w)).placements
          (later (after q d.size ch w) none.1))

pub plans_within_quota : law.PlansWithinQuota
unfolding plan
plans_within_quota s quota r is some no_stops none = by s.job refl
  where
    placing : (o : Option Job) → s.job ≡ o → (plan s).placing.placements ≡ (placing_of s o (stopping s.job s.own)).placements
    placing o is = ap (λ o. (placing_of s o (stopping s.job s.own)).placements) is

    same : (o : Option Job) (at : s.job ≡ o) → law.Allows (limit_on r quota.limits) (quantity r quota.used + sum_by (λ p. quantity r p.size)
        (placing_of s o (stopping s.job s.own)).placements)
        → law.Allows (limit_on r quota.limits) (quantity r quota.used + sum_by (λ p. quantity r p.size) (plan s).placing.placements)
    same o at = subst (λ ps. law.Allows (limit_on r quota.limits) (quantity r quota.used + sum_by (λ (p : Placement). quantity r p.size)
        ps)) (sym (placing o at))

    quota_is : quota_of s ≡ quota
    quota_is = ap (λ (q : Option QuotaSeen). unwrap_or q no_quota) is

    used_is : (j : Job) → quantity r (opening s j (stopping s.job s.own)).used ≡ quantity r quota.used
    used_is j =
        let less = quantity_of (λ r. quantity r (quota_of s).used - quantity r (total (λ (a : OwnAllocation). a.row.size) (stopping s.job s.own))) r in
        let whole = quantity_of (λ r. sum_by (λ (a : OwnAllocation). quantity r a.row.size) (stopping s.job s.own)) r in
        let nothing : sum_by (λ (a : OwnAllocation). quantity r a.row.size) (stopping s.job s.own) ≡ 0
        = ap (sum_by (λ (a : OwnAllocation). quantity r a.row.size)) (none_mapped (λ (a : OwnAllocation). a.number) (stopping s.job s.own) no_stops) in
        let used : quantity r (quota_of s).used ≡ quantity r quota.used = ap (λ (q : QuotaSeen). quantity r q.used) quota_is in
        omega (arith, less, whole, nothing, used)

    for : (j : Job) (ps : List Placement) → IsAllowed (quota_of s) r (opening s j (stopping s.job s.own)).used ps → (ps ≡ [] → ⊥)
        → law.Allows (limit_on r quota.limits) (quantity r quota.used + sum_by (λ p. quantity r p.size) ps)
    for j ps (inl empty) some = absurd (some empty)
    for j ps (inr h) some = subst (λ n. law.Allows (limit_on r quota.limits) (n + sum_by (λ (p : Placement). quantity r p.size) ps)) (used_is j)
        (subst (λ (q : QuotaSeen). law.Allows (limit_on r q.limits) (quantity r (opening s j (stopping s.job s.own)).used + sum_by
        (λ (p : Placement). quantity r p.size) ps))
        quota_is h)

    by : (o : Option Job) → s.job ≡ o → law.Allows (limit_on r quota.limits)
        (quantity r quota.used + sum_by (λ p. quantity r p.size) (plan s).placing.placements)
    by None at = absurd (some (placing None at))
    by (Some j) at = same (Some j) at (for j (placing_of s (Some j) (stopping s.job s.own)).placements
        (places_allowed (quota_of s) r (demands (Some j) s.own) (opening s j (stopping s.job s.own))
        (subst (Each (λ (p : Placement). p.evictions ≡ [])) (placing (Some j) at) none)) (λ empty. some (placing (Some j) at ∙ empty)))
