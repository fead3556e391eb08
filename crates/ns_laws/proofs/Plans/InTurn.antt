-- A plan places one allocation after another, each by the choice on the nodes that the ones before it leave.
use Rattle.std.specs.Prelude.{◌≡◌, ℕ, zero, suc, ◌+◌, ◌-◌, ◌≤◌, Bool, true, false, cond, not, List, [], ◌∷◌, ◌++◌, Option, Some, None, drop, filter}
use Rattle.std.specs.Prelude.{length, option_map, replicate, slice_get, sum_by}
use Rattle.std.specs.List.{AllPairs}
use Rattle.std.specs.Option.{option_map_or}
use Rattle.std.proofs.Common.{refl, sym, ap, subst, ◌∙◌, arith}
use Rattle.std.proofs.Math.Seq.{drop-append_seam}
use Rattle.std.proofs.lemmas.List.{length-map}
use Rattle.std.proofs.lemmas.List.Elements.{filter_agree}
use Rattle.std.proofs.lemmas.List.Kept.{AllPairs-cons}
use Rattle.std.proofs.lemmas.Option.{slice_get-map}
use Rattle.ns_types.specs.declared.job.Group.{Group}
use Rattle.ns_types.specs.declared.job.Job.{Job}
use Rattle.ns_types.specs.declared.plan.Demand.{Demand}
use Rattle.ns_types.specs.declared.plan.Placement.{Placement}
use Rattle.ns_types.specs.declared.plan.Placing.{Placing}
use Rattle.ns_types.specs.declared.resources.Resources.{Resources}
use Rattle.ns_types.specs.declared.snapshot.LiveAllocation.{LiveAllocation}
use Rattle.ns_types.specs.declared.snapshot.OwnAllocation.{OwnAllocation}
use Rattle.ns_types.specs.declared.snapshot.PoolNode.{PoolNode}
use Rattle.ns_types.specs.declared.snapshot.QuotaSeen.{QuotaSeen}
use Rattle.ns_types.specs.declared.snapshot.Snapshot.{Snapshot}
use Rattle.ns_types.specs.Placing.Placement.{Candidate}
use Rattle.ns_types.specs.Placing.Plan.{candidate_of, opening, placing_of, plan, quota_of, stays, staying}
use Rattle.ns_types.specs.Placing.Planning.{Choice, Site, after, choice, ended_by_quota, place, placed_on, placement_of, then_rest, without_one}
use Rattle.ns_types.specs.Placing.Preemption.{evictable}
use Rattle.ns_types.specs.Placing.Wanted.{demands, demands_from, group_size, missing, stopping}
use Rattle.ns_types.specs.State.Lists.{Each}
use Rattle.ns_types.specs.State.Resources.{limits_allow, plus, quantity, total}
use Rattle.ns_types.proofs.Amounts.{quantity_of}
use Rattle.ns_types.proofs.Elements.{all_from}
use Rattle.ns_types.proofs.Lists.{not_both}
use Rattle.ns_types.proofs.Tests.{same_Some}
use Rattle.ns_laws.specs.Placement as chosen
use Rattle.ns_laws.specs.Planning as law
use Rattle.ns_laws.specs.Planning.{PlacesInTurn, ends, leaves_out, places}
use Rattle.ns_laws.proofs.Choices.Placement.{no_choice_of_none, room_before_victims}
use Rattle.ns_laws.proofs.Plans.Constraints.{feasible_by}
use Rattle.ns_laws.proofs.Plans.Limits.{other_stays, stopped_is, this_changed}
use Rattle.ns_laws.proofs.Plans.Planning.{all_demands_of, fit_is, placing_is}
use Rattle.ns_laws.proofs.Plans.Room.{Frees, choice_frees}

-- ---- the order of the groups

-- the groups do not fall along what is missing
IsRising : List Demand → Type 0
IsRising [] = Unit {0}
IsRising (d ∷ ds) = Each (λ e. d.group ≤ e.group) ds × IsRising ds

again_from : (n m : ℕ) (d : Demand) (ds : List Demand) → n ≤ d.group → Each (λ e. n ≤ e.group) ds → Each (λ e. n ≤ e.group) (replicate m d ++ ds)
again_from n zero d ds le h = h
again_from n (suc m) d ds le h = (le, again_from n m d ds le h)

again_rising : (m : ℕ) (d : Demand) (ds : List Demand) → Each (λ e. d.group ≤ e.group) ds → IsRising ds → IsRising (replicate m d ++ ds)
unfolding IsRising
again_rising zero d ds h rising = rising
again_rising (suc m) d ds h rising = (again_from d.group m d ds (omega arith) h, again_rising m d ds h rising)

module _ (j : Job) (own : List OwnAllocation) where
  demands_above : (n i : ℕ) (gs : List Group) → n ≤ i → Each (λ d. n ≤ d.group) (demands_from i j own gs)
  demands_above n i [] le = tt
  demands_above n i (g ∷ gs) le = again_from n (missing j own g) (record { group = i; size = group_size g }) (demands_from (i + 1) j own gs) le
      (demands_above n (i + 1) gs (omega (arith, le)))

  demands_rising : (i : ℕ) (gs : List Group) → IsRising (demands_from i j own gs)
  unfolding IsRising
  demands_rising i [] = tt
  demands_rising i (g ∷ gs) = again_rising (missing j own g) (record { group = i; size = group_size g }) (demands_from (i + 1) j own gs)
      (demands_above i (i + 1) gs (omega arith)) (demands_rising (i + 1) gs)

module _ (q : QuotaSeen) where
  -- what is placed in one more step: nothing more, the rest without this one, or this one and the rest
  abbrev pub one_more : Demand → List Demand → Site → Bool → Option Choice → Placing
  one_more d ds w b o = cond b (option_map_or (λ (s : Placement × Site). then_rest s.0 (place q ds s.1))
      (option_map (λ ch. (placement_of d ch, after q d.size ch w)) o) (without_one (place q ds w))) ended_by_quota

  places_above : (n : ℕ) (ds : List Demand) (w : Site) → Each (λ d. n ≤ d.group) ds → Each (λ p. n ≤ p.group) (place q ds w).placements
  places_above n [] w h = tt
  places_above n (d ∷ ds) w h = by (limits_allow q.limits (plus w.used d.size)) (choice d.size w.candidates) (places_above n ds)
    where
      by : (b : Bool) (o : Option Choice) → ((w : Site) → Each (λ d. n ≤ d.group) ds → Each (λ p. n ≤ p.group) (place q ds w).placements) →
          Each (λ p. n ≤ p.group) (one_more d ds w b o).placements
      by false o rest = tt
      by true None rest = rest w h.1
      by true (Some ch) rest = (h.0, rest (after q d.size ch w) h.1)

  abbrev InOrder : List Placement → Type 0
  InOrder ps = AllPairs (λ p r. p.group ≤ r.group) ps

  none_in_order : InOrder []
  none_in_order i j d lt within = absurd (omega (arith, lt, within))

  places_rising : (ds : List Demand) (w : Site) → IsRising ds → InOrder (place q ds w).placements
  unfolding IsRising
  places_rising [] w h = none_in_order
  places_rising (d ∷ ds) w h = by (limits_allow q.limits (plus w.used d.size)) (choice d.size w.candidates) (places_rising ds)
    where
      by : (b : Bool) (o : Option Choice) → ((w : Site) → IsRising ds → InOrder (place q ds w).placements) → InOrder (one_more d ds w b o).placements
      by false o rest = none_in_order
      by true None rest = rest w h.1
      by true (Some ch) rest =
          let ps = (place q ds (after q d.size ch w)).placements in
          AllPairs-cons (λ p r. p.group ≤ r.group) (placement_of d ch) ps (all_from (λ p. d.group ≤ p.group) ps
          (places_above d.group ds (after q d.size ch w) h.0)) (rest (after q d.size ch w) h.1)

pub places_in_order : law.PlacesInOrder
unfolding plan IsRising
places_in_order s = by s.job
  where
    rising : (j : Job) (b : Bool) → IsRising (cond b [] (demands_from 0 j s.own j.document.groups))
    rising j true = tt
    rising j false = demands_rising j s.own 0 j.document.groups

    by : (o : Option Job) → AllPairs (λ p r. p.group ≤ r.group) (placing_of s o (stopping s.job s.own)).placements
    by None = none_in_order (quota_of s)
    by (Some j) = places_rising (quota_of s) (demands (Some j) s.own) (opening s j (stopping s.job s.own)) (rising j j.stop)

-- ---- the nodes as the plan begins

module _ (s : Snapshot) (j : Job) where
  abbrev at_start : List Candidate
  at_start = (opening s j (stopping s.job s.own)).candidates

  abbrev begun : PoolNode → Candidate
  begun node = candidate_of j s.namespace (stopping s.job s.own) node

  stays_as : (live : List LiveAllocation) → staying s.namespace (stopping s.job s.own) live ≡ filter (λ a. not (law.is_stopped s a)) live
  stays_as live = filter_agree (stays s.namespace (stopping s.job s.own)) (λ a. not (law.is_stopped s a)) (stopped_is s) live

  is_begun : (node : PoolNode) → law.IsNodeAtFirst s j node (begun node)
  is_begun node = record {
    name = refl;
    fit = (fit_is j node.name node.row, feasible_by node.name node.row j);
    left = λ r.
        let stay = staying s.namespace (stopping s.job s.own) node.live in
        quantity_of (λ r. quantity r node.row.offer.capacity - quantity r (total (λ (a : LiveAllocation). a.size) stay)) r
        ∙ ap (λ n. quantity r node.row.offer.capacity - n) (quantity_of (λ r. sum_by (λ (a : LiveAllocation). quantity r a.size) stay) r
        ∙ ap (sum_by (λ (a : LiveAllocation). quantity r a.size)) (stays_as node.live));
    evictable = stays_as (evictable j.document.priority node.live);
  }

  at_first : law.AreNodesAtFirst s j at_start
  at_first = record {
    count = length-map s.nodes begun;
    each = λ k node c is c_is. subst (law.IsNodeAtFirst s j node) (same_Some (begun node) c
        (sym (slice_get-map begun s.nodes k ∙ ap (option_map begun) is) ∙ c_is)) (is_begun node);
  }

-- ---- one placement after another

there : {size : Resources} {cs : List Candidate} {ch : Choice} → chosen.IsChoice size cs ch → (c : Candidate) × (slice_get cs ch.node ≡ Some c)
there (chosen.room k is) = (is.node, is.there)
there (chosen.preempted k is none) = (is.node, is.there)

takes_size : (size : Resources) (c : Candidate) (gone : List LiveAllocation) → Frees size c gone → law.TakesSize size gone c (placed_on size gone c)
takes_size size c gone f = record {
  name = refl;
  feasible = refl;
  left = λ r.
      let less = quantity_of (λ r. quantity r (plus c.left (total (λ (a : LiveAllocation). a.size) gone)) - quantity r size) r in
      let sum = quantity_of (λ r. quantity r c.left + quantity r (total (λ (a : LiveAllocation). a.size) gone)) r in
      let whole = quantity_of (λ r. sum_by (λ (a : LiveAllocation). quantity r a.size) gone) r in
      let room = f.room r in
      omega (arith, less, sum, whole, room);
  evictable = f.front ∙ ap (λ xs. gone ++ xs) (sym (ap (drop (length gone)) f.front ∙ drop-append_seam gone f.others));
}

module _ (q : QuotaSeen) (j : Job) where
  leaves : (size : Resources) (ch : Choice) (w : Site) → choice size w.candidates ≡ Some ch →
      law.LeavesNodes size ch w.candidates (after q size ch w).candidates
  leaves size ch w e =
      let at = there (room_before_victims size w.candidates ch e) in record {
        was = at.0;
        was_there = at.1;
        is = placed_on size ch.victims at.0;
        is_there = this_changed (placed_on size ch.victims) ch.node w.candidates at.0 at.1;
        takes = takes_size size at.0 ch.victims (choice_frees size w.candidates ch at.0 e at.1);
        others = λ k apart. other_stays (placed_on size ch.victims) ch.node k (λ same. apart (sym same)) w.candidates;
      }

  record Walks (nodes : List Candidate) (placing : Placing) : Type 0 where
    left_out : Bool
    in_turn : PlacesInTurn j nodes placing.placements left_out
    reported : placing.quota_limited ≡ false → placing.class_limited ≡ left_out

  abbrev pub IsOf : Demand → Type 0
  IsOf d = (g : Group) × (slice_get j.document.groups d.group ≡ Some g) × (d.size ≡ group_size g)

  pub group_sized : (d : Demand) → IsOf d → law.IsGroupSize j d.size
  group_sized d h = record {
    place = d.group;
    group = h.0;
    is_group = h.1;
    cpu = ap (λ (size : Resources). size.cpu) h.2;
    memory = ap (λ (size : Resources). size.memory) h.2;
    disk = ap (λ (size : Resources). size.disk) h.2;
  }

  walks : (ds : List Demand) (w : Site) → Each IsOf ds → Walks w.candidates (place q ds w)
  walks [] w h = record { left_out = false; in_turn = ends w.candidates; reported = λ _. refl }
  walks (d ∷ ds) w h = by (limits_allow q.limits (plus w.used d.size)) (choice d.size w.candidates) refl (walks ds)
    where
      by : (b : Bool) (o : Option Choice) → choice d.size w.candidates ≡ o → ((w : Site) → Each IsOf ds → Walks w.candidates (place q ds w)) →
          Walks w.candidates (one_more q d ds w b o)
      by false o is rest = record { left_out = false; in_turn = ends w.candidates; reported = λ e. not_both refl e }
      by true None is rest =
          let r = rest w h.1 in record {
            left_out = true;
            in_turn = leaves_out w.candidates (place q ds w).placements r.left_out d.size (group_sized d h.0)
                (no_choice_of_none d.size w.candidates is) r.in_turn;
            reported = λ e. ap not e;
          }
      by true (Some ch) is rest =
          let x = after q d.size ch w in
          let r = rest x h.1 in record {
            left_out = r.left_out;
            in_turn = places w.candidates x.candidates (placement_of d ch) (place q ds x).placements r.left_out ch
                (room_before_victims d.size w.candidates ch is) refl refl (leaves d.size ch w is) r.in_turn;
            reported = r.reported;
          }

pub places_by_choice : law.PlacesByChoice
places_by_choice s j is runs =
    let walk = walks (quota_of s) j (demands_from 0 j s.own j.document.groups) (opening s j (stopping s.job s.own)) (all_demands_of j s.own) in
    let same : Walks (quota_of s) j (at_start s j) (plan s).placing =
    subst (Walks (quota_of s) j (at_start s j)) (sym (placing_is s j is runs)) walk in record {
      nodes = at_start s j;
      at_first = at_first s j;
      left_out = same.left_out;
      in_turn = same.in_turn;
      reported = same.reported;
    }
