-- The plan of what a valid state keeps places no more than groups and their counts allow.
use Rattle.std.specs.Prelude.{◌≡◌, ℕ, ◌+◌, ◌*◌, ◌≤◌, Bool, true, false, cond, List, [], ◌∷◌, Option, Some, None, length, replicate}
use Rattle.std.specs.List.{list_all}
use Rattle.std.specs.Option.{option_map_or}
use Rattle.std.proofs.Common.{refl, arith}
use Rattle.std.proofs.lemmas.List.{length-append, length-replicate}
use Rattle.ns_types.specs.declared.job.Group.{Group}
use Rattle.ns_types.specs.declared.job.Job.{Job}
use Rattle.ns_types.specs.declared.plan.Demand.{Demand}
use Rattle.ns_types.specs.declared.plan.Placement.{Placement}
use Rattle.ns_types.specs.declared.snapshot.OwnAllocation.{OwnAllocation}
use Rattle.ns_types.specs.declared.snapshot.QuotaSeen.{QuotaSeen}
use Rattle.ns_types.specs.declared.snapshot.Snapshot.{Snapshot}
use Rattle.ns_types.specs.Placing.Plan.{opening, plan, placing_of, quota_of}
use Rattle.ns_types.specs.Placing.Planning.{Site, ended_by_quota, place, placed_one, then_rest, without_one}
use Rattle.ns_types.specs.Placing.Wanted.{demands, demands_from, group_size, missing, stopping}
use Rattle.ns_types.specs.State.Limits.{is_good_document, is_good_group}
use Rattle.ns_types.specs.State.Resources.{limits_allow, plus}
use Rattle.ns_types.proofs.Documents.{few_groups, few_missing, good_groups}
use Rattle.ns_types.proofs.Named.{first_of_both, second_of_both}
use Rattle.ns_plan.specs.Laws.{KeptIsBounded}

-- each placement is for one that is missing
placed_few : (q : QuotaSeen) (ds : List Demand) → (w : Site) → length (place q ds w).placements ≤ length ds
placed_few q [] = λ w. omega arith
placed_few q (d ∷ ds) = λ w. by w (placed_few q ds) (limits_allow q.limits (plus w.used d.size)) (placed_one q d w)
  where
    by : (w : Site) → ((x : Site) → length (place q ds x).placements ≤ length ds) → (b : Bool) (o : Option (Placement × Site)) →
        length (cond b (option_map_or (λ (s : Placement × Site). then_rest s.0 (place q ds s.1)) o (without_one (place q ds w))) ended_by_quota).placements
        ≤ length (d ∷ ds)
    by w rest false o = omega arith
    by w rest true None = let h = rest w in omega (arith, h)
    by w rest true (Some s) = let h = rest s.1 in omega (arith, h)

few_demands : (i : ℕ) (j : Job) (own : List OwnAllocation) (gs : List Group) → list_all is_good_group gs ≡ true →
    length (demands_from i j own gs) ≤ 1000 * length gs
few_demands i j own [] good = omega arith
few_demands i j own (g ∷ gs) good =
    let d : Demand = record { group = i; size = group_size g } in
    let here = few_missing g (first_of_both (is_good_group g) (list_all is_good_group gs) good) j own in
    let rest = few_demands (i + 1) j own gs (second_of_both (is_good_group g) (list_all is_good_group gs) good) in
    let all = length-append (replicate (missing j own g) d) (demands_from (i + 1) j own gs) in
    let part = length-replicate (missing j own g) d in
    omega (arith, here, rest, all, part)

job_few : (j : Job) (own : List OwnAllocation) → is_good_document j.document ≡ true → length (demands (Some j) own) ≤ 16000
job_few j own good = by j.stop
  where
    by : (b : Bool) → length (cond b [] (demands_from 0 j own j.document.groups)) ≤ 16000
    by true = omega arith
    by false =
        let all = few_demands 0 j own j.document.groups (good_groups j.document good) in
        let few = few_groups j.document good in
        omega (arith, all, few)

placing_few : (kept : Snapshot) (o : Option Job) (stops : List OwnAllocation) → ((j : Job) → o ≡ Some j → is_good_document j.document ≡ true) →
    length (placing_of kept o stops).placements ≤ 16000
placing_few kept None stops good = omega arith
placing_few kept (Some j) stops good =
    let placed = placed_few (quota_of kept) (demands (Some j) kept.own) (opening kept j stops) in
    let few = job_few j kept.own (good j refl) in
    omega (arith, placed, few)

pub kept_is_bounded : KeptIsBounded
unfolding plan
kept_is_bounded s ns t number worker kept valid is_tenant is_worker is_kept =
    let sound = ((valid.world.tenant ns t is_tenant).worker number worker is_worker).snapshot kept is_kept in
    placing_few kept kept.job (stopping kept.job kept.own) sound.job_good
