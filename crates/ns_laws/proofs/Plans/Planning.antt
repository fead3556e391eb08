-- What a plan places, by induction over what is missing; and what it stops.
use Rattle.std.specs.Prelude.{◌≡◌, ◌≢◌, ◌⊎◌, ℕ, zero, suc, ◌+◌, ◌-◌, ◌*◌, ◌<◌, ◌≤◌, ◌==◌, Bool, true, false, cond, not, ◌&&◌, ◌||◌}
use Rattle.std.specs.Prelude.{List, [], ◌∷◌, ◌++◌, Option, Some, None, count_by, drop, filter, length, map, option_map, replicate, reverse, slice_get}
use Rattle.std.specs.List.{flat_map, list_all, range_with_len}
use Rattle.std.specs.Option.{option_map_or}
use Rattle.std.specs.Str.{bytes_eq}
use Rattle.std.proofs.Common.{refl, sym, ap, subst, ◌∙◌, arith, inl, inr}
use Rattle.std.proofs.Math.ListN.{drop_of_length-le}
use Rattle.std.proofs.lemmas.Bool.{eq-eqb, eqb-false, ne_eqb, cases_lt, or_right}
use Rattle.std.proofs.lemmas.List.{reverse-append}
use Rattle.std.proofs.lemmas.List.Folds.{sum_by-replicate}
use Rattle.std.proofs.lemmas.List.Sums.{length-filter, sum_by-append, sum_by-cons}
use Rattle.std.proofs.lemmas.Option.{slice_get-map}
use Rattle.std.proofs.lemmas.Slice.Eq.{bytes_eq-Decides}
use Rattle.ns_types.specs.declared.job.Constraint.{Constraint}
use Rattle.ns_types.specs.declared.job.Group.{Group}
use Rattle.ns_types.specs.declared.job.Job.{Job}
use Rattle.ns_types.specs.declared.job.JobKind.{JobKind}
use Rattle.ns_types.specs.declared.job.Operand.{Operand}
use Rattle.ns_types.specs.declared.job.Target.{Target}
use Rattle.ns_types.specs.declared.node.Node.{Node}
use Rattle.ns_types.specs.declared.node.NodeStatus.{NodeStatus}
use Rattle.ns_types.specs.declared.plan.Demand.{Demand}
use Rattle.ns_types.specs.declared.plan.Placement.{Placement}
use Rattle.ns_types.specs.declared.plan.Placing.{Placing}
use Rattle.ns_types.specs.declared.resources.Resources.{Resources}
use Rattle.ns_types.specs.declared.snapshot.LiveAllocation.{LiveAllocation}
use Rattle.ns_types.specs.declared.snapshot.OwnAllocation.{OwnAllocation}
use Rattle.ns_types.specs.declared.snapshot.PoolNode.{PoolNode}
use Rattle.ns_types.specs.declared.snapshot.QuotaSeen.{QuotaSeen}
use Rattle.ns_types.specs.declared.snapshot.Snapshot.{Snapshot}
use Rattle.ns_types.specs.Placing.Constraint.{attribute_of, compares, holds, is_feasible, target_value}
use Rattle.ns_types.specs.Placing.Placement.{Candidate}
use Rattle.ns_types.specs.Placing.Plan.{candidate_of, is_among, opening, placing_of, plan, quota_of, stays, staying}
use Rattle.ns_types.specs.Placing.Planning.{Choice, Site, after, choice, ended_by_quota, eviction_of, place, placed_on, placement_of, then_rest, update}
use Rattle.ns_types.specs.Placing.Planning.{without_one}
use Rattle.ns_types.specs.Placing.Preemption.{evictable}
use Rattle.ns_types.specs.Placing.Wanted.{demands_from, done, group_size, is_batch, is_current, is_of, kept, live_ones, missing, outdated, stopping}
use Rattle.ns_types.specs.Placing.Wanted.{surplus}
use Rattle.ns_types.specs.State.Lists.{Each}
use Rattle.ns_types.specs.State.Names.{has_number, same_number}
use Rattle.ns_types.specs.State.Resources.{limits_allow, plus}
use Rattle.ns_types.specs.State.Rows.{is_done, is_free, is_live, is_ready}
use Rattle.ns_types.proofs.Elements.{each_append, each_both, each_flat, each_flat_map, each_from_all, each_kept, each_mapped, each_still}
use Rattle.ns_types.proofs.Lists.{each_map, not_both}
use Rattle.ns_types.proofs.Named.{first_of_both, second_of_both, same_number_refl}
use Rattle.ns_types.proofs.TableRows.{each_fails}
use Rattle.ns_types.proofs.Tests.{is_no, not_Some, same_Some}
use Rattle.ns_laws.specs.Placement as chosen
use Rattle.ns_laws.specs.Planning as law
use Rattle.ns_laws.proofs.Choices.Levels.{evictable_are_lower}
use Rattle.ns_laws.proofs.Choices.Placement.{room_before_victims, victims_are_fewest}

-- ---- lists

module _ {X : Type 0} where
  -- the element is somewhere in the list
  abbrev IsAt : List X → X → Type 0
  IsAt xs x = (k : ℕ) × (slice_get xs k ≡ Some x)

  each_at : (xs : List X) → Each (IsAt xs) xs
  each_at [] = tt
  each_at (x ∷ xs) = ((0, refl), each_map (λ y h. (suc h.0, h.1)) xs (each_at xs))

  pub each_drop : (P : X → Type 0) (n : ℕ) (xs : List X) → Each P xs → Each P (drop n xs)
  each_drop P zero xs h = h
  each_drop P (suc n) [] h = tt
  each_drop P (suc n) (x ∷ xs) h = each_drop P n xs h.1

  each_front : (P : X → Type 0) (xs ys : List X) → Each P (xs ++ ys) → Each P xs
  each_front P [] ys h = tt
  each_front P (x ∷ xs) ys h = (h.0, each_front P xs ys h.1)

  each_reverse : (P : X → Type 0) (xs : List X) → Each P xs → Each P (reverse xs)
  each_reverse P [] h = tt
  each_reverse P (x ∷ xs) h =
      subst (Each P) (sym (reverse-append (x ∷ []) xs)) (each_append P (reverse xs) (x ∷ []) (each_reverse P xs h.1) (h.0, tt))

  each_again : (P : X → Type 0) (n : ℕ) (x : X) → P x → Each P (replicate n x)
  each_again P zero x h = tt
  each_again P (suc n) x h = (h, each_again P n x h)

  -- what holds of the element at each place, and lasts as one is changed
  changed : (G : ℕ → X → Type 0) (f : X → X) → ((k : ℕ) (x : X) → G k x → G k (f x)) → (i : ℕ) (xs : List X) →
      ((k : ℕ) (x : X) → slice_get xs k ≡ Some x → G k x) → (k : ℕ) (x : X) → slice_get (update i f xs) k ≡ Some x → G k x
  changed G f lasts i [] h k x e = h k x e
  changed G f lasts zero (y ∷ xs) h zero x e = subst (G zero) (same_Some (f y) x e) (lasts zero y (h zero y refl))
  changed G f lasts zero (y ∷ xs) h (suc k) x e = h (suc k) x e
  changed G f lasts (suc i) (y ∷ xs) h zero x e = h zero x e
  changed G f lasts (suc i) (y ∷ xs) h (suc k) x e =
      changed (λ k. G (suc k)) f (λ k. lasts (suc k)) i xs (λ k. h (suc k)) k x e

-- ---- what holds of each placement

-- D holds of what is missing, F of the places of fit nodes, and V of the allocations that may be evicted at a place
module _ (F : ℕ → Type 0) (V : ℕ → LiveAllocation → Type 0) where
  IsGood : ℕ → Candidate → Type 0
  IsGood k c = (c.feasible ≡ true → F k) × Each (V k) c.evictable

  AllGood : List Candidate → Type 0
  AllGood cs = (k : ℕ) (c : Candidate) → slice_get cs k ≡ Some c → IsGood k c

  good_choice : (size : Resources) (cs : List Candidate) (ch : Choice) → AllGood cs → choice size cs ≡ Some ch → F ch.node × Each (V ch.node) ch.victims
  unfolding IsGood AllGood
  good_choice size cs ch good e = by (room_before_victims size cs ch e)
    where
      by : {ch : Choice} → chosen.IsChoice size cs ch → F ch.node × Each (V ch.node) ch.victims
      by (chosen.room k is) = ((good k is.node is.there).0 (first_of_both is.node.feasible _ is.fitting), tt)
      by (chosen.preempted k is none) =
          let are = victims_are_fewest size is.node is.gone is.give_way in
          let here = good k is.node is.there in
          (here.0 are.feasible, each_front (V k) is.gone are.others (subst (Each (V k)) are.first here.1))

  still_good : (q : QuotaSeen) (size : Resources) (ch : Choice) (w : Site) → AllGood w.candidates → AllGood (after q size ch w).candidates
  unfolding IsGood AllGood
  still_good q size ch w good = changed IsGood (placed_on size ch.victims)
      (λ k c h. (h.0, each_drop (V k) (length ch.victims) c.evictable h.1)) ch.node w.candidates good

module _ (D : ℕ → Resources → Type 0) (F : ℕ → Type 0) (V : ℕ → LiveAllocation → Type 0) where
  -- a placement, with the allocations that it evicts
  record IsGoodPlacement (p : Placement) : Type 0 where
    demand : D p.group p.size
    node : F p.node
    gone : List LiveAllocation
    evicted : p.evictions ≡ map eviction_of gone
    each_gone : Each (V p.node) gone

module _ (q : QuotaSeen) (D : ℕ → Resources → Type 0) (F : ℕ → Type 0) (V : ℕ → LiveAllocation → Type 0) where
  places_good : (ds : List Demand) (w : Site) → Each (λ d. D d.group d.size) ds → AllGood F V w.candidates →
      Each (IsGoodPlacement D F V) (place q ds w).placements
  places_good [] w h good = tt
  places_good (d ∷ ds) w h good = by (limits_allow q.limits (plus w.used d.size)) (choice d.size w.candidates) refl (places_good ds)
    where
      by : (b : Bool) (o : Option Choice) → choice d.size w.candidates ≡ o
          → ((w : Site) → Each (λ d. D d.group d.size) ds → AllGood F V w.candidates → Each (IsGoodPlacement D F V) (place q ds w).placements)
          → Each (IsGoodPlacement D F V)
          (cond b (option_map_or (λ (s : Placement × Site). then_rest s.0 (place q ds s.1)) (option_map (λ ch. (placement_of d ch, after q d.size ch w)) o)
          (without_one (place q ds w))) ended_by_quota).placements
      by false o is rest = tt
      by true None is rest = rest w h.1 good
      by true (Some ch) is rest =
          let at = good_choice F V d.size w.candidates ch good is in (
            record { demand = h.0; node = at.0; gone = ch.victims; evicted = refl; each_gone = at.1 },
            rest (after q d.size ch w) h.1 (still_good F V q d.size ch w good),
          )

-- ---- how many of a group are placed

module _ (q : QuotaSeen) (f : ℕ → Bool) where
  abbrev one : ℕ → ℕ
  one group = cond (f group) 1 0

  abbrev wanted_in : List Demand → ℕ
  wanted_in ds = count_by (λ d. f d.group) ds

  abbrev placed_in : Placing → ℕ
  placed_in placing = count_by (λ p. f p.group) placing.placements

  pub record Reaches (wanted : ℕ) (placing : Placing) : Type 0 where
    pub at_most : placed_in placing ≤ wanted
    pub at_least : placing.quota_limited ≡ false → placing.class_limited ≡ false → wanted ≤ placed_in placing

  pub places_count : (ds : List Demand) (w : Site) → Reaches (wanted_in ds) (place q ds w)
  places_count [] w = record { at_most = omega arith; at_least = λ _ _. omega arith }
  places_count (d ∷ ds) w = by (limits_allow q.limits (plus w.used d.size)) (choice d.size w.candidates) (places_count ds)
    where
      more : wanted_in (d ∷ ds) ≡ one d.group + wanted_in ds
      more = sum_by-cons (λ (d : Demand). cond (f d.group) 1 0) d ds

      by : (b : Bool) (o : Option Choice) → ((w : Site) → Reaches (wanted_in ds) (place q ds w)) → Reaches (wanted_in (d ∷ ds))
          (cond b (option_map_or (λ (s : Placement × Site). then_rest s.0 (place q ds s.1)) (option_map (λ ch. (placement_of d ch, after q d.size ch w)) o)
          (without_one (place q ds w))) ended_by_quota)
      by false o rest = record { at_most = omega arith; at_least = λ limited _. not_both refl limited }
      by true None rest = let r = rest w in record {
        at_most = let m = r.at_most in omega (arith, more, m);
        at_least = λ by_quota by_class. not_both (ap not by_quota) by_class;
      }
      by true (Some ch) rest =
          let r = rest (after q d.size ch w) in
          let first : placed_in (then_rest (placement_of d ch) (place q ds (after q d.size ch w))) ≡ one d.group + placed_in (place q ds (after q d.size ch w))
          = here (place q ds (after q d.size ch w)).placements in record {
            at_most = let m = r.at_most in omega (arith, more, first, m);
            at_least = λ by_quota by_class. let m = r.at_least by_quota by_class in omega (arith, more, first, m);
          }
        where
          here : (ps : List Placement) → count_by (λ p. f p.group) (placement_of d ch ∷ ps) ≡ one d.group + count_by (λ p. f p.group) ps
          here ps = sum_by-cons (λ (p : Placement). cond (f p.group) 1 0) (placement_of d ch) ps

module _ (j : Job) (own : List OwnAllocation) (place_of : ℕ) where
  abbrev wanted_of : ℕ → List Group → ℕ
  wanted_of i gs = count_by (λ d. d.group == place_of) (demands_from i j own gs)

  wanted_more : (i : ℕ) (g : Group) (gs : List Group) → wanted_of i (g ∷ gs) ≡ missing j own g * cond (i == place_of) 1 0 + wanted_of (i + 1) gs
  wanted_more i g gs =
      let d : Demand = record { group = i; size = group_size g } in
      sum_by-append (λ (d : Demand). cond (d.group == place_of) 1 0) (replicate (missing j own g) d) (demands_from (i + 1) j own gs)
      ∙ ap (λ n. n + wanted_of (i + 1) gs) (sum_by-replicate (λ (d : Demand). cond (d.group == place_of) 1 0) (missing j own g) d)

  times_one : (n : ℕ) (b : Bool) → b ≡ true → n * cond b 1 0 ≡ n
  times_one n true e = omega arith
  times_one n false e = not_both e refl

  times_none : (n : ℕ) (b : Bool) → b ≡ false → n * cond b 1 0 ≡ 0
  times_none n true e = not_both refl e
  times_none n false e = omega arith

  none_later : (i : ℕ) (gs : List Group) → place_of < i → wanted_of i gs ≡ 0
  none_later i [] later = omega arith
  none_later i (g ∷ gs) later =
      let more = wanted_more i g gs in
      let here = times_none (missing j own g) (i == place_of) (ne_eqb i place_of (λ e. absurd (omega (arith, e, later)))) in
      let rest = none_later (i + 1) gs (omega (arith, later)) in
      omega (arith, more, here, rest)

  pub wanted_at : (i m : ℕ) (gs : List Group) (g : Group) → place_of ≡ i + m → slice_get gs m ≡ Some g → wanted_of i gs ≡ missing j own g
  wanted_at i m [] g e is = absurd (not_Some g is)
  wanted_at i zero (h ∷ gs) g e is =
      let more = wanted_more i h gs in
      let here = times_one (missing j own h) (i == place_of) (eq-eqb i place_of (omega (arith, e))) in
      let rest = none_later (i + 1) gs (omega (arith, e)) in
      let same : missing j own h ≡ missing j own g = ap (missing j own) (same_Some h g is) in
      omega (arith, more, here, rest, same)
  wanted_at i (suc m) (h ∷ gs) g e is =
      let more = wanted_more i h gs in
      let here = times_none (missing j own h) (i == place_of) (ne_eqb i place_of (λ k. absurd (omega (arith, e, k)))) in
      let rest = wanted_at (i + 1) m gs g (omega (arith, e)) is in
      omega (arith, more, here, rest)

-- ---- how many a group has

module _ (j : Job) (own : List OwnAllocation) (g : Group) where
  pub running_is : length (kept j own g) ≡ law.running j g own
  running_is = length-filter (λ (a : OwnAllocation). is_live a.row && is_of j g a) own

  pub completed_is : done j own g ≡ law.completed j.document.kind j g own
  completed_is = by j.document.kind
    where
      by : (kind : JobKind) → cond (is_batch kind) (count_by (λ a. is_done a.row && is_of j g a) own) 0 ≡ law.completed kind j g own
      by JobKind.Service = refl
      by JobKind.Batch = refl

  pub missing_is : missing j own g ≡ g.count - (law.running j g own + law.completed j.document.kind j g own)
  missing_is = λ i. g.count - (running_is i + completed_is i)

-- ---- a snapshot's plan

-- what the plan places, where the job is not stopped
pub placing_is : (s : Snapshot) (j : Job) → s.job ≡ Some j → j.stop ≡ false →
    (plan s).placing ≡ place (quota_of s) (demands_from 0 j s.own j.document.groups) (opening s j (stopping s.job s.own))
unfolding plan
placing_is s j is runs =
    ap (λ o. placing_of s o (stopping s.job s.own)) is
    ∙ ap (λ b. place (quota_of s) (cond b [] (demands_from 0 j s.own j.document.groups)) (opening s j (stopping s.job s.own))) runs

placing_none : (s : Snapshot) → ((j : Job) → s.job ≡ Some j → j.stop ≡ true) → (plan s).placing.placements ≡ []
unfolding plan
placing_none s ended = by s.job refl
  where
    by : (o : Option Job) → s.job ≡ o → (placing_of s o (stopping s.job s.own)).placements ≡ []
    by None is = refl
    by (Some j) is = ap (λ b. (place (quota_of s) (cond b [] (demands_from 0 j s.own j.document.groups))
        (opening s j (stopping s.job s.own))).placements) (ended j is)

stops_are : (s : Snapshot) → (plan s).stops ≡ map (λ a. a.number) (stopping s.job s.own)
unfolding plan
stops_are s = refl

-- a law of each placement, where the job is not stopped
each_placement : (s : Snapshot) (P : Placement → Type 0)
    → ((j : Job) → s.job ≡ Some j → j.stop ≡ false → Each P (place (quota_of s) (demands_from 0 j s.own j.document.groups)
    (opening s j (stopping s.job s.own))).placements)
    → Each P (plan s).placing.placements
unfolding plan
each_placement s P h = by s.job refl
  where
    stopped : (j : Job) → s.job ≡ Some j → (b : Bool) → j.stop ≡ b →
        Each P (place (quota_of s) (cond b [] (demands_from 0 j s.own j.document.groups)) (opening s j (stopping s.job s.own))).placements
    stopped j is true e = tt
    stopped j is false e = h j is e

    by : (o : Option Job) → s.job ≡ o → Each P (placing_of s o (stopping s.job s.own)).placements
    by None is = tt
    by (Some j) is = stopped j is j.stop refl

-- ---- what is missing is of the job's groups

abbrev IsOf : Job → ℕ → Resources → Type 0
IsOf j place size = (g : Group) × (slice_get j.document.groups place ≡ Some g) × (size ≡ group_size g)

demands_of : (j : Job) (own : List OwnAllocation) (gs : List Group) (i : ℕ) → ((m : ℕ) → slice_get gs m ≡ slice_get j.document.groups (i + m)) →
    Each (λ d. IsOf j d.group d.size) (demands_from i j own gs)
demands_of j own [] i h = tt
demands_of j own (g ∷ gs) i h = each_append (λ d. IsOf j d.group d.size) (replicate (missing j own g) (record { group = i; size = group_size g }))
    (demands_from (i + 1) j own gs)
    (each_again (λ d. IsOf j d.group d.size) (missing j own g) (record { group = i; size = group_size g })
    (g, ap (slice_get j.document.groups) (at_start i) ∙ sym (h 0), refl))
    (demands_of j own gs (i + 1) (λ m. h (suc m) ∙ ap (slice_get j.document.groups) (next m)))
  where
    at_start : (i : ℕ) → i ≡ i + 0
    at_start i = omega arith

    next : (m : ℕ) → i + suc m ≡ i + 1 + m
    next m = omega arith

pub all_demands_of : (j : Job) (own : List OwnAllocation) → Each (λ d. IsOf j d.group d.size) (demands_from 0 j own j.document.groups)
all_demands_of j own = demands_of j own j.document.groups 0 (λ m. ap (slice_get j.document.groups) (from_none m))
  where
    from_none : (m : ℕ) → m ≡ 0 + m
    from_none m = omega arith

-- ---- what a plan begins with

module _ (s : Snapshot) (j : Job) where
  stops : List OwnAllocation
  stops = stopping s.job s.own

  -- at the place is a node of the snapshot that meets the job's constraints
  IsFit : ℕ → Type 0
  IsFit k = (node : PoolNode) × (slice_get s.nodes k ≡ Some node) × (is_feasible j.document.constraints node.name node.row ≡ true)

  -- the allocation is live on the node at the place, has a lower priority, and stays
  record IsLower (node : PoolNode) (a : LiveAllocation) : Type 0 where
    there : IsAt node.live a
    lower : a.priority + 10 ≤ j.document.priority
    stays : stays s.namespace stops a ≡ true

  IsVictim : ℕ → LiveAllocation → Type 0
  IsVictim k a = (node : PoolNode) → slice_get s.nodes k ≡ Some node → IsLower node a

  evictable_at : (node : PoolNode) → Each (IsAt node.live) (evictable j.document.priority node.live)
  evictable_at node = each_flat_map (IsAt node.live) (λ p. filter (λ a. a.priority == p) (reverse node.live))
      (λ p. each_still (IsAt node.live) (λ a. a.priority == p) (reverse node.live) (each_reverse (IsAt node.live) node.live (each_at node.live)))
      (range_with_len 0 (j.document.priority - 9))

  opens_good : AllGood IsFit IsVictim (opening s j stops).candidates
  unfolding IsGood AllGood IsFit IsVictim
  opens_good k c e = by (slice_get s.nodes k) refl
    where
      at_node : (node : PoolNode) → slice_get s.nodes k ≡ Some node → c ≡ candidate_of j s.namespace stops node → IsGood IsFit IsVictim k c
      at_node node is same = (
        (λ fit. (node, is, sym (ap (λ c. c.feasible) same) ∙ fit)),
        subst (λ c. Each (IsVictim k) c.evictable) (sym same) (each_map (λ a h other other_is.
            subst (λ n. IsLower n a) (same_Some node other (sym is ∙ other_is)) (record { there = h.0.0; lower = h.0.1; stays = h.1 }))
            (staying s.namespace stops (evictable j.document.priority node.live))
            (each_kept (λ a. IsAt node.live a × (a.priority + 10 ≤ j.document.priority)) (stays s.namespace stops) (evictable j.document.priority node.live)
            (each_both (IsAt node.live) (λ a. a.priority + 10 ≤ j.document.priority) (evictable j.document.priority node.live) (evictable_at node)
            (evictable_are_lower j.document.priority node.live)))),
      )

      by : (o : Option PoolNode) → slice_get s.nodes k ≡ o → IsGood IsFit IsVictim k c
      by None is = absurd (not_Some c (sym (slice_get-map (candidate_of j s.namespace stops) s.nodes k ∙
          ap (option_map (candidate_of j s.namespace stops)) is) ∙ e))
      by (Some node) is = at_node node is (same_Some c (candidate_of j s.namespace stops node)
          (sym e ∙ (slice_get-map (candidate_of j s.namespace stops) s.nodes k ∙ ap (option_map (candidate_of j s.namespace stops)) is)))

  places_all : Each (IsGoodPlacement (IsOf j) IsFit IsVictim) (place (quota_of s) (demands_from 0 j s.own j.document.groups) (opening s j stops)).placements
  places_all = places_good (quota_of s) (IsOf j) IsFit IsVictim (demands_from 0 j s.own j.document.groups) (opening s j stops)
      (all_demands_of j s.own) opens_good

-- ---- the node of a placement

pub same_text : (a b : List ℕ) → bytes_eq a b ≡ true → a ≡ b
same_text a b e = (bytes_eq-Decides a b).0 e

pub text_same : (a b : List ℕ) → a ≡ b → bytes_eq a b ≡ true
text_same a b e = (bytes_eq-Decides a b).1 e

module _ (name : List ℕ) (node : Node) where
  pub meets_by : (operand : Operand) (target : Target) (text : List ℕ) → compares operand (target_value target name node) text ≡ true
      → law.Meets name node operand target text
  meets_by Operand.Equal Target.NodeClass text e = same_text node.offer.class text e
  meets_by Operand.Equal Target.NodeName text e = same_text name text e
  meets_by Operand.Equal (Target.Attribute key) text e = by (attribute_of node key) refl e
    where
      by : (o : Option (List ℕ)) → attribute_of node key ≡ o → compares Operand.Equal o text ≡ true → attribute_of node key ≡ Some text
      by None is e = not_both e refl
      by (Some value) is e = is ∙ ap Some (same_text value text e)
  meets_by Operand.NotEqual Target.NodeClass text e = λ same. not_both (text_same node.offer.class text same) (is_no _ e)
  meets_by Operand.NotEqual Target.NodeName text e = λ same. not_both (text_same name text same) (is_no _ e)
  meets_by Operand.NotEqual (Target.Attribute key) text e = λ same.
      not_both (text_same text text refl) (is_no _ (ap (λ o. compares Operand.NotEqual o text) (sym same) ∙ e))

  meets_each : (cs : List Constraint) → list_all (holds name node) cs ≡ true → Each (λ c. law.Meets name node c.operand c.target c.value) cs
  meets_each cs e = each_map (λ c h. meets_by c.operand c.target c.value h) cs (each_from_all (holds name node) cs e)

pub ready_is : (status : NodeStatus) → is_ready status ≡ true → status ≡ NodeStatus.Ready
ready_is NodeStatus.Ready e = refl
ready_is NodeStatus.Down e = not_both e refl

pub fit_is : (j : Job) (name : List ℕ) (node : Node) → is_feasible j.document.constraints name node ≡ true → law.IsFit j name node
fit_is j name node e =
    let free = first_of_both (is_free node) _ e in record {
      ready = ready_is node.status (first_of_both (is_ready node.status) _ free);
      eligible = second_of_both (is_ready node.status) _ free;
      constraints = meets_each name node j.document.constraints (second_of_both (is_free node) _ e);
    }

-- ---- the laws of placements

pub places_groups : law.PlacesGroups
unfolding stops
places_groups s = each_placement s (λ p. law.OfRunningJob s (λ job. law.IsOfGroup job p)) (λ j is runs.
    each_map (λ p h. record { job = j; is_job = is; to_run = runs; holds = of_group j p h.demand })
    (place (quota_of s) (demands_from 0 j s.own j.document.groups) (opening s j (stops s j))).placements (places_all s j))
  where
    of_group : (j : Job) (p : Placement) → IsOf j p.group p.size → law.IsOfGroup j p
    of_group j p h = record {
      group = h.0;
      is_group = h.1;
      cpu = ap (λ (size : Resources). size.cpu) h.2;
      memory = ap (λ (size : Resources). size.memory) h.2;
      disk = ap (λ (size : Resources). size.disk) h.2;
    }

pub places_on_fit_nodes : law.PlacesOnFitNodes
unfolding stops IsFit
places_on_fit_nodes s = each_placement s (λ p. law.OfRunningJob s (λ job. law.IsOnFitNode s job p)) (λ j is runs.
    each_map (λ p h. record { job = j; is_job = is; to_run = runs; holds = on_node j p h.node })
    (place (quota_of s) (demands_from 0 j s.own j.document.groups) (opening s j (stops s j))).placements (places_all s j))
  where
    on_node : (j : Job) (p : Placement) → IsFit s j p.node → law.IsOnFitNode s j p
    on_node j p h = record { node = h.0; is_node = h.1; fit = fit_is j h.0.name h.0.row h.2 }

not_stopped : (s : Snapshot) (stops : List OwnAllocation) (namespace : List ℕ) (number : ℕ) →
    not (bytes_eq namespace s.namespace && is_among stops number) ≡ true
    → namespace ≡ s.namespace → Each (λ n. n ≢ number) (map (λ a. a.number) stops)
not_stopped s stops namespace number e same = each_mapped (λ n. n ≢ number) (λ (a : OwnAllocation). a.number) stops
    (each_map (λ a h. eqb-false a.number number h) stops (each_fails (λ a. a.number == number) stops none))
  where
    none : is_among stops number ≡ false
    none = ap (λ b. b && is_among stops number) (sym (text_same namespace s.namespace same)) ∙ is_no _ e

pub evicts_lower_only : law.EvictsLowerOnly
unfolding plan stops IsFit IsVictim
evicts_lower_only s = each_placement s (λ p. law.OfRunningJob s (λ job. law.EvictsOutranked s job p)) (λ j is runs.
    each_map (λ p h. record { job = j; is_job = is; to_run = runs; holds = evicts j p h })
    (place (quota_of s) (demands_from 0 j s.own j.document.groups) (opening s j (stops s j))).placements (places_all s j))
  where
    outranked : (j : Job) (node : PoolNode) (a : LiveAllocation) → IsLower s j node a → law.IsOutranked s j node (eviction_of a)
    outranked j node a h = record {
      place = h.there.0;
      row = a;
      is_row = h.there.1;
      namespace = refl;
      number = refl;
      priority = refl;
      lower = h.lower;
      not_stopped = not_stopped s (stopping s.job s.own) a.namespace a.number h.stays;
    }

    evicts : (j : Job) (p : Placement) → IsGoodPlacement (IsOf j) (IsFit s j) (IsVictim s j) p → law.EvictsOutranked s j p
    evicts j p h = record {
      node = h.node.0;
      is_node = h.node.1;
      evicted = subst (Each (law.IsOutranked s j h.node.0)) (sym h.evicted) (each_mapped (law.IsOutranked s j h.node.0) eviction_of h.gone
          (each_map (λ a v. outranked j h.node.0 a (v h.node.0 h.node.1)) h.gone h.each_gone));
    }

-- ---- the law of counts

pub fills_groups : law.FillsGroups
unfolding plan
fills_groups s j place_of g is runs at_place = record {
  at_most = λ some. let m = reach.at_most in omega (arith, m, some, wanted, placed_same);
  at_least = λ by_quota by_class.
      let m = reach.at_least (ap (λ (p : Placing). p.quota_limited) (sym placing) ∙ by_quota)
      (ap (λ (p : Placing). p.class_limited) (sym placing) ∙ by_class) in
      omega (arith, m, wanted, placed_same);
}
  where
    q : QuotaSeen
    q = quota_of s

    ds : List Demand
    ds = demands_from 0 j s.own j.document.groups

    f : ℕ → Bool
    f n = n == place_of

    w : Site
    w = opening s j (stopping s.job s.own)

    placing : (plan s).placing ≡ place (quota_of s) (demands_from 0 j s.own j.document.groups) (opening s j (stopping s.job s.own))
    placing = placing_is s j is runs

    reach : Reaches q f (wanted_in q f ds) (place q ds w)
    reach = places_count q f ds w

    from_none : place_of ≡ 0 + place_of
    from_none = omega arith

    wanted : count_by (λ d. d.group == place_of) (demands_from 0 j s.own j.document.groups)
        ≡ g.count - (law.running j g s.own + law.completed j.document.kind j g s.own)
    wanted = wanted_at j s.own place_of 0 place_of j.document.groups g from_none at_place ∙ missing_is j s.own g

    placed_same : law.placed_of s place_of
        ≡ count_by (λ p. p.group == place_of)
        (place (quota_of s) (demands_from 0 j s.own j.document.groups) (opening s j (stopping s.job s.own))).placements
    placed_same = ap (λ (p : Placing). count_by (λ p. p.group == place_of) p.placements) placing

-- ---- the laws of stops

module _ (s : Snapshot) where
  -- it is live, and is one of the job's own
  IsOwn : OwnAllocation → Type 0
  IsOwn a = IsAt s.own a × (is_live a.row ≡ true)

  live_own : (f : OwnAllocation → Bool) → Each (λ a. IsAt s.own a × ((is_live a.row && f a) ≡ true)) (filter (λ a. is_live a.row && f a) s.own)
  live_own f = each_kept (IsAt s.own) (λ a. is_live a.row && f a) s.own (each_at s.own)

  abbrev NotWanted : OwnAllocation → Type 0
  NotWanted a = (job : Job) → s.job ≡ Some job → job.stop ≡ false → law.IsNotWanted s job a

  to_stop : (a : OwnAllocation) → IsOwn a → NotWanted a → law.IsToStop s a.number
  unfolding IsOwn
  to_stop a own unwanted = record {
    place = own.0.0;
    row = a;
    is_row = own.0.1;
    number = refl;
    live = own.1;
    not_wanted = unwanted;
  }

  all_live : ((job : Job) → s.job ≡ Some job → job.stop ≡ false → ⊥) → Each (λ a. law.IsToStop s a.number) (live_ones s.own)
  unfolding IsOwn
  all_live ended = each_map (λ a h. to_stop a h (λ job is runs. absurd (ended job is runs))) (live_ones s.own)
      (each_kept (IsAt s.own) (λ a. is_live a.row) s.own (each_at s.own))

  module _ (j : Job) (is : s.job ≡ Some j) where
    for_job : (a : OwnAllocation) → law.IsNotWanted s j a → NotWanted a
    for_job a h job other runs = subst (λ i. law.IsNotWanted s i a) (same_Some j job (sym is ∙ other)) h

    each_outdated : Each (λ a. law.IsToStop s a.number) (outdated j s.own)
    unfolding IsOwn
    each_outdated = each_map (λ a h. to_stop a (h.0, first_of_both (is_live a.row) _ h.1) (for_job a (law.outdated
        (eqb-false a.row.job_modify_index j.modify_index (is_no _ (second_of_both (is_live a.row) _ h.1)))))) (outdated j s.own)
        (live_own (λ a. not (is_current j a)))

    each_surplus : (g : Group) → IsAt j.document.groups g → Each (λ a. law.IsToStop s a.number) (surplus j s.own g)
    unfolding IsOwn
    each_surplus g at = by (cases_lt g.count (length ks + done j s.own g))
      where
        ks : List OwnAllocation
        ks = kept j s.own g

        over : g.count < length (kept j s.own g) + done j s.own g → g.count < law.running j g s.own + law.completed j.document.kind j g s.own
        over h = subst (λ n. g.count < n) (λ i. running_is j s.own g i + completed_is j s.own g i) h

        each_of_group : g.count < length (kept j s.own g) + done j s.own g → Each (λ a. law.IsToStop s a.number) (kept j s.own g)
        each_of_group more = each_map (λ a h. to_stop a (h.0, first_of_both (is_live a.row) _ h.1) (for_job a (law.surplus at.0 g at.1
            (same_text a.row.group g.name (second_of_both (is_current j a) _ (second_of_both (is_live a.row) _ h.1))) (over more)))) (kept j s.own g)
            (live_own (is_of j g))

        by : (g.count < length (kept j s.own g) + done j s.own g) ⊎ (length (kept j s.own g) + done j s.own g ≤ g.count) →
            Each (λ a. law.IsToStop s a.number) (surplus j s.own g)
        by (inl more) = each_drop (λ a. law.IsToStop s a.number) (length (kept j s.own g) -
            (length (kept j s.own g) + done j s.own g - g.count)) (kept j s.own g)
            (each_of_group more)
        by (inr less) = subst (Each (λ a. law.IsToStop s a.number)) (sym (drop_of_length-le (kept j s.own g)
            {i = length (kept j s.own g) - (length (kept j s.own g) + done j s.own g - g.count)} (omega (arith, less)))) tt

  each_stop : Each (λ a. law.IsToStop s a.number) (stopping s.job s.own)
  each_stop = by s.job refl
    where
      for : (j : Job) → s.job ≡ Some j → (b : Bool) → j.stop ≡ b →
          Each (λ a. law.IsToStop s a.number) (cond b (live_ones s.own) (outdated j s.own ++ flat_map (surplus j s.own) j.document.groups))
      for j is true e = all_live (λ job other runs. not_both e (ap (λ (i : Job). i.stop) (same_Some j job (sym is ∙ other)) ∙ runs))
      for j is false e = each_append (λ a. law.IsToStop s a.number) (outdated j s.own) (flat_map (surplus j s.own) j.document.groups) (each_outdated j is)
          (each_flat (λ a. law.IsToStop s a.number) (surplus j s.own) j.document.groups
          (each_map (λ g at. each_surplus j is g at) j.document.groups (each_at j.document.groups)))

      by : (o : Option Job) → s.job ≡ o → Each (λ a. law.IsToStop s a.number) (stopping o s.own)
      by None is = all_live (λ job other runs. not_Some job (sym is ∙ other))
      by (Some j) is = for j is j.stop refl

pub stops_not_wanted : law.StopsNotWanted
unfolding plan
stops_not_wanted s = each_mapped (law.IsToStop s) (λ (a : OwnAllocation). a.number) (stopping s.job s.own) (each_stop s)

pub ended_job_stops : law.EndedJobStops
unfolding plan
ended_job_stops s ended = (placing_none s ended, by s.job refl)
  where
    by : (o : Option Job) → s.job ≡ o → map (λ (a : OwnAllocation). a.number) (stopping o s.own) ≡ map (λ (a : OwnAllocation). a.number)
        (filter (λ a. is_live a.row) s.own)
    by None is = refl
    by (Some j) is = ap (λ b. map (λ (a : OwnAllocation). a.number) (cond b (live_ones s.own) (outdated j s.own ++
        flat_map (surplus j s.own) j.document.groups)))
        (ended j is)

-- ---- what must stop

module _ (s : Snapshot) where
  -- the number of an element that a filter keeps is among the numbers of what it keeps
  numbers_kept : (f : OwnAllocation → Bool) (xs : List OwnAllocation)
      → Each (λ a. f a ≡ true → has_number (map (λ a. a.number) (filter f xs)) a.number ≡ true) xs
  numbers_kept f [] = tt
  numbers_kept f (x ∷ xs) = by (f x) refl (numbers_kept f xs)
    where
      by : (b : Bool) → f x ≡ b → Each (λ a. f a ≡ true → has_number (map (λ a. a.number) (filter f xs)) a.number ≡ true) xs
          → Each (λ a. f a ≡ true → has_number (map (λ a. a.number) (cond b (x ∷ filter f xs) (filter f xs))) a.number ≡ true) (x ∷ xs)
      by true e rest = (
        (λ _. ap (λ c. c || has_number (map (λ a. a.number) (filter f xs)) x.number) (same_number_refl x.number)),
        each_map (λ a h t. or_right (same_number a.number x.number) _ (h t)) xs rest,
      )
      by false e rest = ((λ t. not_both t e), rest)

  first_numbers : (xs ys : List OwnAllocation) (n : ℕ) → has_number (map (λ a. a.number) xs) n ≡ true → has_number (map (λ a. a.number) (xs ++ ys)) n ≡ true
  first_numbers [] ys n e = not_both e refl
  first_numbers (x ∷ xs) ys n e = by (same_number n x.number) e (first_numbers xs ys n)
    where
      by : (b : Bool) → (b || has_number (map (λ a. a.number) xs) n) ≡ true
          → (has_number (map (λ a. a.number) xs) n ≡ true → has_number (map (λ a. a.number) (xs ++ ys)) n ≡ true)
          → (b || has_number (map (λ a. a.number) (xs ++ ys)) n) ≡ true
      by true e rest = refl
      by false e rest = rest e

pub stops_outdated : law.StopsOutdated
unfolding plan
stops_outdated s j is runs = each_map (λ a h live old. stopped a.number
    (first_numbers s (outdated j s.own) (flat_map (surplus j s.own) j.document.groups) a.number
    (h (λ i. live i && not (ne_eqb a.row.job_modify_index j.modify_index old i))))) s.own (numbers_kept s (λ a. is_live a.row && not (is_current j a)) s.own)
  where
    stopped : (n : ℕ) → has_number (map (λ a. a.number) (outdated j s.own ++ flat_map (surplus j s.own) j.document.groups)) n ≡ true →
        has_number (map (λ a. a.number) (stopping s.job s.own)) n ≡ true
    stopped n e = ap (λ o. has_number (map (λ a. a.number) (stopping o s.own)) n) is
        ∙ ap (λ b. has_number (map (λ a. a.number) (cond b (live_ones s.own) (outdated j s.own ++ flat_map (surplus j s.own) j.document.groups))) n) runs
        ∙ e
