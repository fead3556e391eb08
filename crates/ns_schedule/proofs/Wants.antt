-- One more group: its surplus, and what it lacks.
use Rattle.std.proofs.Common.{◌≡◌, ◌<◌, ◌≤◌, ◌^◌, ◌+◌, ◌++◌, ◌∷◌, [], zero, suc, ap, sym, ◌∙◌, refl, arith, subst, take, drop, length, get_or, List, ℕ}
use Rattle.std.proofs.Common.{replicate, append_assoc, sum_by}
use Rattle.std.specs.List.{flat_map}
use Rattle.std.proofs.lemmas.List.{flat_map_more, take_more, drop_more}
use Rattle.std.proofs.lemmas.List.Sums.{sum_by-append, sum_by-cons}
use Rattle.ns_types.specs.declared.job.Group.{Group}
use Rattle.ns_types.specs.declared.job.Job.{Job}
use Rattle.ns_types.specs.declared.snapshot.OwnAllocation.{OwnAllocation}
use Rattle.ns_types.specs.declared.plan.Demand.{Demand}
use Rattle.ns_types.specs.declared.resources.Resources.{Resources}
use Rattle.ns_types.specs.Placing.Wanted.{demands_from, group_size, missing}
use Rattle.ns_types.specs.State.Resources.{IsCounted, quantity, total}
use Rattle.ns_types.proofs.Amounts.{at, every}

-- what is repeated is within the whole
repeated_within : (f : Resources → ℕ) (old rest : List Demand) (d : Demand) (m : ℕ)
    → f d.size ≤ sum_by (λ x. f x.size) (old ++ (replicate (suc m) d ++ rest))
repeated_within f old rest d m =
    let whole = sum_by-append (λ (x : Demand). f x.size) old (replicate (suc m) d ++ rest) in
    let first = sum_by-cons (λ (x : Demand). f x.size) d (replicate m d ++ rest) in
    omega (arith, whole, first)

-- of none any size is right
abbrev sized : ℕ → Resources → Demand
sized i size = record { group = i; size = size }

same_repeated : (i n : ℕ) (size exact : Resources) → ((m : ℕ) → n ≡ suc m → size ≡ exact) → replicate n (sized i size) ≡ replicate n (sized i exact)
same_repeated i zero size exact h = refl
same_repeated i (suc m) size exact h = ap (λ (s : Resources). replicate (suc m) (sized i s)) (h m refl)

module _ (gs : List Group) (i : ℕ) (g : Group) (inside : i < length gs) (reads : g ≡ get_or gs i g) where
  pub stops_more : {X : Type 0} (f : Group → List X) (first old new : List X) → new ≡ old ++ f g → old ≡ first ++ flat_map f (take i gs)
      → new ≡ first ++ flat_map f (take (i + 1) gs)
  stops_more f first old new e h =
      e ∙ (ap (λ ys. ys ++ f g) h
      ∙ (flat_map_more f first (take i gs) g
      ∙ ap (λ zs. first ++ flat_map f zs) (ap (λ z. take i gs ++ z ∷ []) reads ∙ sym (take_more gs i g inside))))

  pub first_of_rest : drop i gs ≡ g ∷ drop (i + 1) gs
  first_of_rest = drop_more gs i g inside ∙ ap (λ z. z ∷ drop (i + 1) gs) (sym reads)

  pub demands_more : (j : Job) (own : List OwnAllocation) (old new whole : List Demand) (n : ℕ) (size : Resources)
      → new ≡ old ++ replicate n (sized i size) → n ≡ missing j own g → (IsCounted (group_size g) → size ≡ group_size g)
      → IsCounted (total (λ d. d.size) whole) → old ++ demands_from i j own (drop i gs) ≡ whole
      → new ++ demands_from (i + 1) j own (drop (i + 1) gs) ≡ whole
  demands_more j own old new whole n size e lacks right counted h =
      let exact = group_size g in
      let d = sized i exact in
      let rest = demands_from (i + 1) j own (drop (i + 1) gs) in
      let whole_is : old ++ (replicate n d ++ rest) ≡ whole =
      ap (λ k. old ++ (replicate k d ++ rest)) lacks ∙ (ap (λ zs. old ++ demands_from i j own zs) (sym first_of_rest) ∙ h) in
      let is_exact : (m : ℕ) → n ≡ suc m → size ≡ exact = λ m some.
      let there : old ++ (replicate (suc m) d ++ rest) ≡ whole = ap (λ k. old ++ (replicate k d ++ rest)) (sym some) ∙ whole_is in
      right (every (λ r. quantity r exact < 2 ^ 64) (λ r.
      let some = subst (λ (ys : List Demand). quantity r exact ≤ sum_by (λ x. quantity r x.size) ys) there (repeated_within (quantity r) old rest d m) in
      let all = at (λ r. sum_by (λ x. quantity r x.size) whole < 2 ^ 64) counted r in
      omega (arith, some, all))) in
      ap (λ ys. ys ++ rest) (e ∙ ap (λ ys. old ++ ys) (same_repeated i n size exact is_exact))
      ∙ (append_assoc old (replicate n d) rest ∙ whole_is)
