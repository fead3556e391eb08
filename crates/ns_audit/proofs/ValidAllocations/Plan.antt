-- What a plan places is of groups of its job, and takes what they ask for.
use Rattle.std.specs.Prelude.{◌≡◌, ℕ, ◌+◌, ◌≤◌, zero, suc, Bool, true, false, cond, List, [], ◌∷◌, Option, Some, None, ◌&&◌, IsTrue, length, nat_le, replicate}
use Rattle.std.specs.Prelude.{slice_get, sum_by}
use Rattle.std.proofs.Common.{refl, sym, ap, subst, arith}
use Rattle.std.specs.List.{list_all}
use Rattle.std.specs.Option.{option_map, option_map_or}
use Rattle.ns_types.proofs.LiveSums.{least_of}
use Rattle.ns_types.proofs.Amounts.{every}
use Rattle.ns_types.specs.declared.job.Group.{Group}
use Rattle.ns_types.specs.declared.job.Job.{Job}
use Rattle.ns_types.specs.declared.job.Task.{Task}
use Rattle.ns_types.specs.declared.name.NameKind.TheVariants as NameKind
use Rattle.ns_types.specs.declared.plan.Demand.{Demand}
use Rattle.ns_types.specs.declared.plan.Placement.{Placement}
use Rattle.ns_types.specs.declared.resources.Resources.{Resources}
use Rattle.ns_types.specs.declared.snapshot.OwnAllocation.{OwnAllocation}
use Rattle.ns_types.specs.declared.snapshot.QuotaSeen.{QuotaSeen}
use Rattle.ns_types.specs.declared.snapshot.Snapshot.{Snapshot}
use Rattle.ns_types.specs.Working.Commit.{group_name}
use Rattle.ns_types.specs.State.Limits.{is_between, is_good_task, is_good_group, is_quantity, is_good_document, is_good_constraint, is_pool_name}
use Rattle.ns_types.specs.State.Lists.{Each}
use Rattle.ns_types.specs.State.Name.{is_name}
use Rattle.ns_types.specs.Placing.Plan.{plan, placing_of, quota_of, opening}
use Rattle.ns_types.specs.Placing.Planning.{Site, Choice, place, placement_of, then_rest, without_one, ended_by_quota, choice, after}
use Rattle.ns_types.specs.State.Resources.{InEach, Resource, Cpu, Memory, Disk, limits_allow, plus, quantity}
use Rattle.ns_types.specs.Placing.Wanted.{asked, missing, group_size, demands_from, demands, stopping}
use Rattle.ns_types.proofs.Documents.{good_cpu, good_disk, good_memory}
use Rattle.ns_types.proofs.Named.{first_of_both, second_of_both}
use Rattle.ns_types.proofs.Elements.{each_append}
use Rattle.ns_audit.proofs.ValidAllocations.Sound.{le_by}
use Rattle.ns_audit.proofs.ValidAllocations.Sums.{le_sum}

-- a group of an unstopped job, and no less than nothing
pub record IsPartOf (j : Job) (group : ℕ) (size : Resources) : Type 0 where
  pub running : j.stop ≡ false
  pub named : IsTrue (is_name NameKind.Group (group_name j group))
  pub least : InEach (λ r. 1 ≤ quantity r size)

-- ---- the plan places what is demanded

module _ (j : Job) (q : QuotaSeen) where
  places_parts : (ds : List Demand) (w : Site) → Each (λ d. IsPartOf j d.group d.size) ds → Each (λ p. IsPartOf j p.group p.size) (place q ds w).placements
  places_parts [] w h = tt
  places_parts (d ∷ ds) w h = by (places_parts ds) (limits_allow q.limits (plus w.used d.size)) (choice d.size w.candidates)
    where
      by : ((w : Site) → Each (λ d. IsPartOf j d.group d.size) ds → Each (λ p. IsPartOf j p.group p.size) (place q ds w).placements) →
          (b : Bool) (o : Option Choice)
          → Each (λ p. IsPartOf j p.group p.size)
          (cond b (option_map_or (λ (s : Placement × Site). then_rest s.0 (place q ds s.1)) (option_map (λ ch. (placement_of d ch, after q d.size ch w)) o)
          (without_one (place q ds w))) ended_by_quota).placements
      by rest false o = tt
      by rest true None = rest w h.1
      by rest true (Some ch) = (h.0, rest (after q d.size ch w) h.1)

-- ---- what is demanded is a part of the job

each_again : {A : Type 0} (P : A → Type 0) (n : ℕ) (x : A) → P x → Each P (replicate n x)
each_again P zero x h = tt
each_again P (suc n) x h = (h, each_again P n x h)

summed : (f : Task → ℕ) (ts : List Task) → 1 ≤ length ts → ((t : Task) → IsTrue (is_good_task t) → 1 ≤ f t) → IsTrue (list_all is_good_task ts) →
    1 ≤ sum_by f ts
summed f [] some least good = absurd (never some)
  where
    never : 1 ≤ 0 → ⊥
    never h = omega arith
summed f (t ∷ ts) some least good = le_sum f t ts 1 (more (f t) (sum_by f ts) (least t (first_of_both (is_good_task t) _ good)))
  where
    more : (a b : ℕ) → 1 ≤ a → 1 ≤ a + b
    more a b h = omega arith

module _ (j : Job) (own : List OwnAllocation) (running : j.stop ≡ false) where
  group_part : (i : ℕ) (g : Group) → slice_get j.document.groups i ≡ Some g → IsTrue (is_good_group g) → IsPartOf j i (group_size g)
  group_part i g at good = record {
    running = running;
    named = subst (λ o. IsTrue (is_name NameKind.Group (option_map_or (λ (g : Group). g.name) o []))) (sym at)
        (first_of_both (is_name NameKind.Group g.name) _ numbered);
    least = every (λ r. 1 ≤ asked r g) least;
  }
    where
      with_tasks : (is_name NameKind.Group g.name && nat_le g.count 1000 && is_quantity g.disk && is_between 1 16
          (length g.tasks) && list_all is_good_task g.tasks) ≡ true
      with_tasks = first_of_both (is_name NameKind.Group g.name && nat_le g.count 1000 && is_quantity g.disk && is_between 1 16
          (length g.tasks) && list_all is_good_task g.tasks)
          _ good

      bounded : (is_name NameKind.Group g.name && nat_le g.count 1000 && is_quantity g.disk && is_between 1 16 (length g.tasks)) ≡ true
      bounded = first_of_both (is_name NameKind.Group g.name && nat_le g.count 1000 && is_quantity g.disk && is_between 1 16 (length g.tasks)) _ with_tasks

      numbered : (is_name NameKind.Group g.name && nat_le g.count 1000) ≡ true
      numbered = first_of_both (is_name NameKind.Group g.name && nat_le g.count 1000) (is_quantity g.disk)
          (first_of_both (is_name NameKind.Group g.name && nat_le g.count 1000 && is_quantity g.disk) _ bounded)

      all_good : list_all is_good_task g.tasks ≡ true
      all_good = second_of_both (is_name NameKind.Group g.name && nat_le g.count 1000 && is_quantity g.disk && is_between 1 16 (length g.tasks)) _ with_tasks

      some : 1 ≤ length g.tasks
      some = le_by 1 (length g.tasks) (first_of_both (nat_le 1 (length g.tasks)) _
          (second_of_both (is_name NameKind.Group g.name && nat_le g.count 1000 && is_quantity g.disk) _ bounded))

      least : (r : Resource) → 1 ≤ asked r g
      least Cpu = summed (λ t. t.resources.cpu) g.tasks some (λ t h. least_of t.resources.cpu (good_cpu t h)) all_good
      least Memory = summed (λ t. t.resources.memory) g.tasks some (λ t h. least_of t.resources.memory (good_memory t h)) all_good
      least Disk = least_of g.disk (good_disk g good)

  demands_parts : (gs : List Group) (i : ℕ) → ((m k : ℕ) → k ≡ i + m → slice_get gs m ≡ slice_get j.document.groups k) → IsTrue (list_all is_good_group gs) →
      Each (λ d. IsPartOf j d.group d.size) (demands_from i j own gs)
  demands_parts [] i h good = tt
  demands_parts (g ∷ gs) i h good = each_append (λ d. IsPartOf j d.group d.size) (replicate (missing j own g) (record { group = i; size = group_size g }))
      (demands_from (i + 1) j own gs)
      (each_again (λ d. IsPartOf j d.group d.size) (missing j own g) (record { group = i; size = group_size g })
      (group_part i g (sym (h 0 i (omega arith))) (first_of_both (is_good_group g) _ good)))
      (demands_parts gs (i + 1) (λ m k e. h (suc m) k (next m k e)) (second_of_both (is_good_group g) _ good))
    where
      next : (m k : ℕ) → k ≡ i + 1 + m → k ≡ i + suc m
      next m k e = omega arith

-- ---- a good document

module _ (j : Job) (good : IsTrue (is_good_document j.document)) where
  abbrev named_pool : Bool
  named_pool = is_between 1 100 j.document.priority && is_pool_name j.document.pool

  abbrev few : Bool
  few = named_pool && nat_le (length j.document.constraints) 16

  abbrev constrained : Bool
  constrained = few && list_all is_good_constraint j.document.constraints

  abbrev some_groups : Bool
  some_groups = constrained && is_between 1 16 (length j.document.groups)

  with_groups : (some_groups && list_all is_good_group j.document.groups) ≡ true
  with_groups = first_of_both (some_groups && list_all is_good_group j.document.groups) _ good

  pub good_groups : IsTrue (list_all is_good_group j.document.groups)
  good_groups = second_of_both some_groups _ with_groups

  pub good_priority : IsTrue (is_between 1 100 j.document.priority)
  good_priority = first_of_both (is_between 1 100 j.document.priority) _
      (first_of_both named_pool _ (first_of_both few _ (first_of_both constrained _ (first_of_both some_groups _ with_groups))))

  all_parts : (own : List OwnAllocation) → Each (λ d. IsPartOf j d.group d.size) (demands (Some j) own)
  all_parts own = by j.stop refl
    where
      by : (b : Bool) → j.stop ≡ b → Each (λ d. IsPartOf j d.group d.size) (cond b [] (demands_from 0 j own j.document.groups))
      by true _ = tt
      by false running = demands_parts j own running j.document.groups 0 (λ m k e. ap (slice_get j.document.groups) (from_zero m k e)) good_groups
        where
          from_zero : (m k : ℕ) → k ≡ 0 + m → m ≡ k
          from_zero m k e = omega arith

-- the placements of a snapshot's plan
pub plan_parts : (kept : Snapshot) (j : Job) → kept.job ≡ Some j → IsTrue (is_good_document j.document) →
    Each (λ p. IsPartOf j p.group p.size) (plan kept).placing.placements
unfolding plan
plan_parts kept j is good = subst (λ o. Each (λ (p : Placement). IsPartOf j p.group p.size) (placing_of kept o (stopping kept.job kept.own)).placements)
    (sym is)
    (places_parts j (quota_of kept) (demands (Some j) kept.own) (opening kept j (stopping kept.job kept.own)) (all_parts j good kept.own))
