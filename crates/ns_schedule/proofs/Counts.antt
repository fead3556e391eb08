-- Sums that are checked as they are made.
use Rattle.std.specs.Prelude.{◌≡◌, ℕ, ◌+◌, ◌*◌, ◌^◌, ◌<◌, List, ◌∷◌, length, drop}
use Rattle.std.specs.Prelude.{get_or, replicate, sum_by}
use Rattle.std.proofs.Common.{sym, ap, subst, ◌∙◌, arith}
use Rattle.std.proofs.lemmas.List.Folds.{sum_by-replicate}
use Rattle.std.proofs.lemmas.List.Sums.{sum_by-append}
use Rattle.ns_types.specs.declared.job.Group.{Group}
use Rattle.ns_types.specs.declared.job.Job.{Job}
use Rattle.ns_types.specs.declared.plan.Demand.{Demand}
use Rattle.ns_types.specs.declared.resources.Resources.{Resources}
use Rattle.ns_types.specs.declared.snapshot.OwnAllocation.{OwnAllocation}
use Rattle.ns_types.specs.Placing.Wanted.{demands_from, group_size, missing}
use Rattle.ns_types.specs.State.Resources.{IsCounted, plus, quantity, total}
use Rattle.ns_types.specs.State.Resources.{times}
use Rattle.ns_schedule.proofs.Wants.{first_of_rest}
use Rattle.ns_types.proofs.Amounts.{at, every, same_of_each}

-- what the missing ones of a group take, and of those after it
pub demanded : (f : Resources → ℕ) (i : ℕ) (j : Job) (own : List OwnAllocation) (g : Group) (gs : List Group)
    → sum_by (λ d. f d.size) (demands_from i j own (g ∷ gs))
    ≡ missing j own g * f (group_size g) + sum_by (λ d. f d.size) (demands_from (i + 1) j own gs)
demanded f i j own g gs =
    let d : Demand = record { group = i; size = group_size g } in
    sum_by-append (λ (x : Demand). f x.size) (replicate (missing j own g) d) (demands_from (i + 1) j own gs)
    ∙ ap (λ n. n + sum_by (λ (x : Demand). f x.size) (demands_from (i + 1) j own gs)) (sum_by-replicate (λ (x : Demand). f x.size) (missing j own g) d)

module _ (j : Job) (own : List OwnAllocation) (gs : List Group) (i : ℕ) (g : Group) (inside : i < length gs) (reads : g ≡ get_or gs i g) where
  rest_is : (f : Resources → ℕ) → sum_by (λ d. f d.size) (demands_from i j own (drop i gs))
      ≡ missing j own g * f (group_size g) + sum_by (λ d. f d.size) (demands_from (i + 1) j own (drop (i + 1) gs))
  rest_is f =
      ap (λ hs. sum_by (λ (d : Demand). f d.size) (demands_from i j own hs)) (first_of_rest gs i g inside reads) ∙ demanded f i j own g (drop (i + 1) gs)

  abbrev with_group : Resources → Resources
  with_group sum = plus sum (times (missing j own g) (group_size g))

  same_whole : (sum : Resources) → plus (with_group sum) (total (λ d. d.size) (demands_from (i + 1) j own (drop (i + 1) gs)))
      ≡ plus sum (total (λ d. d.size) (demands_from i j own (drop i gs)))
  same_whole sum =
      same_of_each
      (λ r. (quantity r sum + missing j own g * quantity r (group_size g))
      + sum_by (λ d. quantity r d.size) (demands_from (i + 1) j own (drop (i + 1) gs)))
      (λ r. quantity r sum + sum_by (λ d. quantity r d.size) (demands_from i j own (drop i gs))) (λ r.
      let rest = rest_is (quantity r) in
      omega (arith, rest))

  pub one_more : (sum new all : Resources) → new ≡ with_group sum → plus sum (total (λ d. d.size) (demands_from i j own (drop i gs))) ≡ all
      → plus new (total (λ d. d.size) (demands_from (i + 1) j own (drop (i + 1) gs))) ≡ all
  one_more sum new all is h =
      ap (λ (r : Resources). plus r (total (λ (d : Demand). d.size) (demands_from (i + 1) j own (drop (i + 1) gs)))) is ∙ (same_whole sum ∙ h)

  pub too_much : (sum all : Resources) → (IsCounted (with_group sum) → ⊥) → plus sum (total (λ d. d.size) (demands_from i j own (drop i gs))) ≡ all
      → IsCounted all → ⊥
  too_much sum all over h counted =
      let rest = demands_from (i + 1) j own (drop (i + 1) gs) in
      let whole = subst IsCounted (sym (same_whole sum ∙ h)) counted in
      over (every (λ r. quantity r sum + missing j own g * quantity r (group_size g) < 2 ^ 64) (λ r.
      let all = at (λ r. (quantity r sum + missing j own g * quantity r (group_size g)) + sum_by (λ d. quantity r d.size) rest < 2 ^ 64) whole r in
      omega (arith, all)))
