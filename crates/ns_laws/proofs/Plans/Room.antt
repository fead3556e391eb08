-- The room that a plan has on a node with its stops and its evictions, and without evictions.
use Rattle.std.specs.Prelude.{◌≡◌, ℕ, zero, suc, ◌+◌, ◌-◌, ◌≤◌, ◌==◌, Bool, true, false, cond, not, ◌&&◌, ◌||◌}
use Rattle.std.specs.Prelude.{List, [], ◌∷◌, ◌++◌, Option, Some, None, drop, filter, length, map, option_map, reverse, slice_get, sum_by}
use Rattle.std.specs.List.{list_any}
use Rattle.std.specs.Option.{option_map_or}
use Rattle.std.specs.Str.{bytes_eq}
use Rattle.std.proofs.Common.{refl, sym, ap, subst, ◌∙◌, arith}
use Rattle.std.proofs.Math.Seq.{drop-append_seam}
use Rattle.std.proofs.lemmas.Bool.{eq-eqb, eqb-true, eqb-false, ne_eqb, or_right}
use Rattle.std.proofs.lemmas.List.{append_assoc}
use Rattle.std.proofs.lemmas.List.Elements.{filter_agree}
use Rattle.std.proofs.lemmas.List.Filters.{sum_by-filter_both}
use Rattle.std.proofs.lemmas.List.Sorted.{IsPermutation-reverse, sum_by-IsPermutation}
use Rattle.std.proofs.lemmas.List.Sums.{sum_by-append, sum_by-cons}
use Rattle.std.proofs.lemmas.Option.{slice_get-map}
use Rattle.std.proofs.Math.Bool.{and-true}
use Rattle.ns_types.specs.declared.job.Job.{Job}
use Rattle.ns_types.specs.declared.plan.Demand.{Demand}
use Rattle.ns_types.specs.declared.plan.Eviction.{Eviction}
use Rattle.ns_types.specs.declared.plan.Placement.{Placement}
use Rattle.ns_types.specs.declared.resources.Resources.{Resources}
use Rattle.ns_types.specs.declared.snapshot.LiveAllocation.{LiveAllocation}
use Rattle.ns_types.specs.declared.snapshot.PoolNode.{PoolNode}
use Rattle.ns_types.specs.declared.snapshot.QuotaSeen.{QuotaSeen}
use Rattle.ns_types.specs.declared.snapshot.Snapshot.{Snapshot}
use Rattle.ns_types.specs.Placing.Placement.{Candidate}
use Rattle.ns_types.specs.Placing.Plan.{candidate_of, opening, placing_of, plan, quota_of, stays, staying}
use Rattle.ns_types.specs.Placing.Planning.{Choice, Site, after, choice, ended_by_quota, eviction_of, place, placed_on, placement_of, then_rest, update}
use Rattle.ns_types.specs.Placing.Planning.{without_one}
use Rattle.ns_types.specs.Placing.Preemption.{evictable}
use Rattle.ns_types.specs.Placing.Wanted.{demands, stopping}
use Rattle.ns_types.specs.State.Lists.{Each}
use Rattle.ns_types.specs.State.Resources.{Resource, limits_allow, plus, quantity, total}
use Rattle.ns_types.proofs.Amounts.{quantity_of, within_at}
use Rattle.ns_types.proofs.Elements.{each_append}
use Rattle.ns_types.proofs.Lists.{each, each_map, filter-append, filter_all}
use Rattle.ns_types.proofs.Named.{second_of_both}
use Rattle.ns_types.proofs.Sums.{sum_add, sum_filter, sum_kept, sum_same}
use Rattle.ns_types.proofs.Tests.{same_Some}
use Rattle.ns_laws.specs.Placement as chosen
use Rattle.ns_laws.specs.Planning as plans
use Rattle.ns_laws.specs.Surplus as law
use Rattle.ns_laws.proofs.Choices.Levels.{each_within, level, levels}
use Rattle.ns_laws.proofs.Choices.Placement.{room_before_victims, victims_are_fewest}
use Rattle.ns_laws.proofs.Plans.Planning.{text_same}
use Rattle.ns_laws.proofs.Plans.Limits.{other_stays, stopped_is, this_changed}

-- ---- what may be evicted is of the node's live allocations, each once

split : (b : Bool) (n : ℕ) → cond b n 0 + cond b 0 n ≡ n
split true n = omega arith
split false n = omega arith

module _ {X : Type 0} (key : X → ℕ) (xs : List X) where
  pub levels_sum : (f : X → ℕ) (a n : ℕ) → sum_by f (levels key xs a n) ≤ sum_by f xs
  levels_sum f a zero = omega arith
  levels_sum f a (suc n) =
      let parts = sum_by-append f (level key xs a) (levels key xs (a + 1) n) in
      let first = sum_filter f (λ x. key x == a) xs in
      let others = sum_same f (λ x. cond (key x == a) 0 (f x)) (levels key xs (a + 1) n) (each_map (λ x h. unlike x h.0)
      (levels key xs (a + 1) n) (each_within key xs (a + 1) n)) in
      let rest = levels_sum (λ x. cond (key x == a) 0 (f x)) (a + 1) n in
      let both = sum_add (λ x. cond (key x == a) (f x) 0) (λ x. cond (key x == a) 0 (f x)) xs in
      let whole = sum_same (λ x. cond (key x == a) (f x) 0 + cond (key x == a) 0 (f x)) f xs (each _ (λ x. split (key x == a) (f x)) xs) in
      omega (arith, parts, first, others, rest, both, whole)
    where
      unlike : (x : X) → a + 1 ≤ key x → f x ≡ cond (key x == a) 0 (f x)
      unlike x above = sym (ap (λ b. cond b 0 (f x)) (ne_eqb (key x) a (λ e. absurd (omega (arith, e, above)))))

pub evictable_sum : (f : LiveAllocation → ℕ) (priority : ℕ) (live : List LiveAllocation) → sum_by f (evictable priority live) ≤ sum_by f live
evictable_sum f priority live =
    let some = levels_sum (λ (a : LiveAllocation). a.priority) (reverse live) f 0 (priority - 9) in
    let turned = sum_by-IsPermutation f live (reverse live) (IsPermutation-reverse live) in
    omega (arith, some, turned)

-- ---- what a choice frees

-- the placement's evictions name its victims
evicts_each : (gone : List LiveAllocation)
    → Each (λ a. list_any (λ (e : Eviction). bytes_eq e.namespace a.namespace && e.number == a.number) (map eviction_of gone) ≡ true) gone
evicts_each [] = tt
evicts_each (x ∷ xs) = (
  (λ i. (text_same x.namespace x.namespace refl i && eq-eqb x.number x.number refl i)
      || list_any (λ (e : Eviction). bytes_eq e.namespace x.namespace && e.number == x.number) (map eviction_of xs)),
  each_map (λ a h. or_right (bytes_eq x.namespace a.namespace && x.number == a.number) _ h) xs (evicts_each xs),
)

pub evicted_first : (p : Placement) (ps : List Placement) (gone : List LiveAllocation) → p.evictions ≡ map eviction_of gone →
    Each (λ a. law.is_evicted (p ∷ ps) a ≡ true) gone
evicted_first p ps gone is = each_map (λ a h. ap (λ b. b || law.is_evicted ps a)
    (ap (list_any (λ (e : Eviction). bytes_eq e.namespace a.namespace && e.number == a.number)) is ∙ h)) gone (evicts_each gone)

-- the victims are the first that may be evicted on the node
pub record Frees (size : Resources) (c : Candidate) (gone : List LiveAllocation) : Type 0 where
  pub others : List LiveAllocation
  pub front : c.evictable ≡ gone ++ others
  pub room : (r : Resource) → quantity r size ≤ quantity r c.left + sum_by (λ a. quantity r a.size) gone

pub choice_frees : (size : Resources) (cs : List Candidate) (ch : Choice) (c : Candidate) → choice size cs ≡ Some ch → slice_get cs ch.node ≡ Some c
    → Frees size c ch.victims
choice_frees size cs ch c e at = by (room_before_victims size cs ch e) at
  where
    by : {ch : Choice} → chosen.IsChoice size cs ch → slice_get cs ch.node ≡ Some c → Frees size c ch.victims
    by (chosen.room k is) at = record {
      others = c.evictable;
      front = refl;
      room = λ r.
          let fits = subst (λ (c : Candidate). quantity r size ≤ quantity r c.left) (same_Some is.node c (sym is.there ∙ at))
          (within_at size is.node.left (second_of_both is.node.feasible _ is.fitting) r) in
          omega (arith, fits);
    }
    by (chosen.preempted k is none_fit) at = subst (λ c. Frees size c is.gone) (same_Some is.node c (sym is.there ∙ at))
        (let are = victims_are_fewest size is.node is.gone is.give_way in record {
          others = are.others;
          front = are.first;
          room = λ r.
              let room = within_at size (plus is.node.left (total (λ a. a.size) is.gone)) are.make_room r in
              let sum = quantity_of (λ r. quantity r is.node.left + sum_by (λ (a : LiveAllocation). quantity r a.size) is.gone) r in
              let whole = quantity_of (λ r. sum_by (λ (a : LiveAllocation). quantity r a.size) is.gone) r in
              omega (arith, room, sum, whole);
        })

module _ (q : QuotaSeen) (r : Resource) (k : ℕ) where
  abbrev on_it : List Placement → List Placement
  on_it ps = filter (λ p. p.node == k) ps

  -- what the placements on the node evict is the first that may be evicted there, and makes room for them
  record HasRoom (on : List Placement) (c : Candidate) : Type 0 where
    gone : List LiveAllocation
    others : List LiveAllocation
    front : c.evictable ≡ gone ++ others
    each_gone : Each (λ a. law.is_evicted on a ≡ true) gone
    room : sum_by (λ p. quantity r p.size) on ≤ quantity r c.left + sum_by (λ a. quantity r a.size) gone

  left_after : (size : Resources) (gone : List LiveAllocation) (c : Candidate) →
      quantity r (placed_on size gone c).left ≡ quantity r c.left + sum_by (λ a. quantity r a.size) gone - quantity r size
  left_after size gone c =
      let less = quantity_of (λ r. quantity r (plus c.left (total (λ (a : LiveAllocation). a.size) gone)) - quantity r size) r in
      let sum = quantity_of (λ r. quantity r c.left + quantity r (total (λ (a : LiveAllocation). a.size) gone)) r in
      let whole = quantity_of (λ r. sum_by (λ (a : LiveAllocation). quantity r a.size) gone) r in
      omega (arith, less, sum, whole)

  one_more : (d : Demand) (ch : Choice) (c : Candidate) (on : List Placement) → Frees d.size c ch.victims → HasRoom on (placed_on d.size ch.victims c)
      → HasRoom (placement_of d ch ∷ on) c
  one_more d ch c on f rest = record {
    gone = ch.victims ++ rest.gone;
    others = rest.others;
    front = f.front ∙ ap (λ xs. ch.victims ++ xs) (sym (ap (drop (length ch.victims)) f.front ∙ drop-append_seam ch.victims f.others) ∙ rest.front)
        ∙ sym (append_assoc ch.victims rest.gone rest.others);
    each_gone = each_append (λ a. law.is_evicted (placement_of d ch ∷ on) a ≡ true) ch.victims rest.gone (evicted_first (placement_of d ch) on ch.victims refl)
        (each_map (λ a h. or_right _ (law.is_evicted on a) h) rest.gone rest.each_gone);
    room =
        let whole = sum_by-cons (λ (p : Placement). quantity r p.size) (placement_of d ch) on in
        let parts = sum_by-append (λ (a : LiveAllocation). quantity r a.size) ch.victims rest.gone in
        let left = left_after d.size ch.victims c in
        let fits = f.room r in
        let later = rest.room in
        omega (arith, whole, parts, left, fits, later);
  }

  places_with_room : (ds : List Demand) (w : Site) (c : Candidate) → slice_get w.candidates k ≡ Some c → HasRoom (on_it (place q ds w).placements) c
  places_with_room [] w c at = record { gone = []; others = c.evictable; front = refl; each_gone = tt; room = omega arith }
  places_with_room (d ∷ ds) w c at = by (limits_allow q.limits (plus w.used d.size)) (choice d.size w.candidates) refl (places_with_room ds)
    where
      one : (ch : Choice) → choice d.size w.candidates ≡ Some ch → (b : Bool) → (ch.node == k) ≡ b
          → ((w : Site) (c : Candidate) → slice_get w.candidates k ≡ Some c → HasRoom (on_it (place q ds w).placements) c)
          → let rest = on_it (place q ds (after q d.size ch w)).placements in HasRoom (cond b (placement_of d ch ∷ rest) rest) c
      one ch is true same later =
          let here : ch.node ≡ k = eqb-true ch.node k same in
          one_more d ch c (on_it (place q ds (after q d.size ch w)).placements)
          (choice_frees d.size w.candidates ch c is (ap (slice_get w.candidates) here ∙ at))
          (later (after q d.size ch w) (placed_on d.size ch.victims c)
          (ap (λ i. slice_get (update i (placed_on d.size ch.victims) w.candidates) k) here ∙ this_changed (placed_on d.size ch.victims) k w.candidates c at))
      one ch is false other later = later (after q d.size ch w) c
          (other_stays (placed_on d.size ch.victims) ch.node k (eqb-false ch.node k other) w.candidates ∙ at)

      by : (b : Bool) (o : Option Choice) → choice d.size w.candidates ≡ o
          → ((w : Site) (c : Candidate) → slice_get w.candidates k ≡ Some c → HasRoom (on_it (place q ds w).placements) c)
          → HasRoom (on_it (cond b (option_map_or (λ (s : Placement × Site). then_rest s.0 (place q ds s.1))
          (option_map (λ ch. (placement_of d ch, after q d.size ch w)) o)
          (without_one (place q ds w))) ended_by_quota).placements) c
      by false o is later = record { gone = []; others = c.evictable; front = refl; each_gone = tt; room = omega arith }
      by true None is later = later w c at
      by true (Some ch) is later = one ch is (ch.node == k) refl later

-- ---- what stays on a node

module _ (f : LiveAllocation → ℕ) (stay out : LiveAllocation → Bool) (priority : ℕ) (live : List LiveAllocation) where
  passes_twice : (p : LiveAllocation → Bool) (xs : List LiveAllocation) → sum_by f (filter p (filter stay xs)) ≡
      sum_by (λ a. cond (stay a) (cond (p a) (f a) 0) 0) xs
  passes_twice p xs = sum_filter f p (filter stay xs) ∙ sum_filter (λ a. cond (p a) (f a) 0) stay xs

  -- what goes takes no more than what is out of those that stay
  gone_sum : (gone others : List LiveAllocation) → filter stay (evictable priority live) ≡ gone ++ others → Each (λ a. out a ≡ true) gone
      → sum_by f gone ≤ sum_by f (filter out (filter stay live))
  gone_sum gone others front all =
      let kept = ap (λ xs. sum_by f (filter out xs)) front in
      let parts = ap (sum_by f) (filter-append out gone others) in
      let sums = sum_by-append f (filter out gone) (filter out others) in
      let whole = ap (sum_by f) (filter_all out gone all) in
      let some = passes_twice out (evictable priority live) in
      let every = passes_twice out live in
      let less = evictable_sum (λ a. cond (stay a) (cond (out a) (f a) 0) 0) priority live in
      omega (arith, kept, parts, sums, whole, some, every, less)

  both_ways : sum_by f (filter out (filter stay live)) + sum_by f (filter (λ a. not (out a)) (filter stay live)) ≡ sum_by f (filter stay live)
  both_ways = sum_by-filter_both out (λ a. not (out a)) (λ a. refl) f (filter stay live)

  left_over : (p : LiveAllocation → Bool) → ((a : LiveAllocation) → stay a ≡ p a) →
      sum_by f (filter (λ a. p a && not (out a)) live) ≡ sum_by f (filter (λ a. not (out a)) (filter stay live))
  left_over p same = sum_filter f (λ a. p a && not (out a)) live
      ∙ sum_same (λ a. cond (p a && not (out a)) (f a) 0) (λ a. cond (stay a) (cond (not (out a)) (f a) 0) 0) live (each _ (λ a.
      nested (p a) (not (out a)) (f a) ∙ ap (λ b. cond b (cond (not (out a)) (f a) 0) 0) (sym (same a))) live)
      ∙ sym (passes_twice (λ a. not (out a)) live)
    where
      nested : (b c : Bool) (n : ℕ) → cond (b && c) n 0 ≡ cond b (cond c n 0) 0
      nested true c n = refl
      nested false c n = refl

-- what the law says, where the plan has these placements
abbrev FitsNode : Snapshot → ℕ → PoolNode → Resource → List Placement → Type 0
FitsNode s k node r ps =
    sum_by (λ a. quantity r a.size) (filter (λ a. not (plans.is_stopped s a) && not (law.is_evicted (filter (λ p. p.node == k) ps) a)) node.live)
    + sum_by (λ p. quantity r p.size) (filter (λ p. p.node == k) ps) ≤ quantity r node.row.offer.capacity

pub evicts_within_capacity : law.EvictsWithinCapacity
unfolding plan
evicts_within_capacity s k node r at room = by s.job refl
  where
    load : sum_by (λ a. quantity r a.size) (staying s.namespace (stopping s.job s.own) node.live) ≤ sum_by (λ a. quantity r a.size) node.live
    load = sum_kept (λ (a : LiveAllocation). quantity r a.size) (stays s.namespace (stopping s.job s.own)) node.live

    fit : (o : Option Job) → s.job ≡ o → FitsNode s k node r (placing_of s o (stopping s.job s.own)).placements
    fit None is =
        let l = sum_kept (λ (a : LiveAllocation). quantity r a.size) (λ a. not (plans.is_stopped s a) && not (law.is_evicted [] a)) node.live in
        omega (arith, l, room)
    fit (Some j) is =
        let c = candidate_of j s.namespace (stopping s.job s.own) node in
        let there = slice_get-map (candidate_of j s.namespace (stopping s.job s.own)) s.nodes k ∙
        ap (option_map (candidate_of j s.namespace (stopping s.job s.own))) at in
        let on = filter (λ (p : Placement). p.node == k) (place (quota_of s) (demands (Some j) s.own) (opening s j (stopping s.job s.own))).placements in
        let h = places_with_room (quota_of s) r k (demands (Some j) s.own) (opening s j (stopping s.job s.own)) c there in
        let goes = gone_sum (λ a. quantity r a.size) (stays s.namespace (stopping s.job s.own)) (law.is_evicted on) j.document.priority node.live
        h.gone h.others h.front h.each_gone in
        let parts = both_ways (λ a. quantity r a.size) (stays s.namespace (stopping s.job s.own)) (law.is_evicted on) j.document.priority node.live in
        let rest = left_over (λ a. quantity r a.size) (stays s.namespace (stopping s.job s.own)) (law.is_evicted on) j.document.priority node.live
        (λ a. not (plans.is_stopped s a)) (stopped_is s) in
        let fits = h.room in
        let left = quantity_of (λ r. quantity r node.row.offer.capacity - quantity r (total (λ (a : LiveAllocation). a.size)
        (staying s.namespace (stopping s.job s.own) node.live))) r in
        let sum = quantity_of (λ r. sum_by (λ (a : LiveAllocation). quantity r a.size) (staying s.namespace (stopping s.job s.own) node.live)) r in
        let l = load in
        omega (arith, goes, parts, rest, fits, left, sum, l, room)

    by : (o : Option Job) → s.job ≡ o → FitsNode s k node r (plan s).placing.placements
    by o is = subst (FitsNode s k node r) (sym (ap (λ o. (placing_of s o (stopping s.job s.own)).placements) is)) (fit o is)

-- ---- a plan without evictions on the node

none_evicted : (ps : List Placement) → Each (λ p. p.evictions ≡ []) ps → (a : LiveAllocation) → law.is_evicted ps a ≡ false
none_evicted [] none a = refl
none_evicted (p ∷ ps) none a = λ i.
    list_any (λ (e : Eviction). bytes_eq e.namespace a.namespace && e.number == a.number) (none.0 i) || none_evicted ps none.1 a i

pub plans_within_capacity : plans.PlansWithinCapacity
plans_within_capacity s k node r at room none =
    subst (λ live. sum_by (λ (a : LiveAllocation). quantity r a.size) live + sum_by (λ p. quantity r p.size) (plans.placed_at s k)
    ≤ quantity r node.row.offer.capacity)
    (filter_agree (λ a. not (plans.is_stopped s a) && not (law.is_evicted (plans.placed_at s k) a)) (λ a. not (plans.is_stopped s a)) stays_alone node.live)
    (evicts_within_capacity s k node r at room)
  where
    stays_alone : (a : LiveAllocation) → (not (plans.is_stopped s a) && not (law.is_evicted (plans.placed_at s k) a)) ≡ not (plans.is_stopped s a)
    stays_alone a = ap (λ b. not (plans.is_stopped s a) && not b) (none_evicted (plans.placed_at s k) none a) ∙ and-true (not (plans.is_stopped s a))
