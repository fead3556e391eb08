-- What was placed so far, before the rest.
use Rattle.std.proofs.Common.{◌≡◌, ◌<◌, ◌+◌, ℕ, Bool, true, false, List, [], ◌∷◌, ◌++◌, Option, Some, None, length, get_or, drop}
use Rattle.std.proofs.Common.{ap, sym, ◌∙◌, refl, append_assoc}
use Rattle.std.specs.Option.{option_map_or}
use Rattle.std.proofs.lemmas.Bool.{cond-true}
use Rattle.std.proofs.lemmas.List.{drop_more}
use Rattle.ns_types.specs.declared.plan.Demand.{Demand}
use Rattle.ns_types.specs.declared.plan.Placement.{Placement}
use Rattle.ns_types.specs.declared.plan.Placing.{Placing}
use Rattle.ns_types.specs.declared.snapshot.QuotaSeen.{QuotaSeen}
use Rattle.ns_types.specs.Placing.Planning.{Site, place, placed_one, then_rest, without_one}
use Rattle.ns_types.specs.State.Resources.{plus, limits_allow}

abbrev pub left_some : Bool → Placing → Placing
left_some true rest = without_one rest
left_some false rest = rest

-- the placements so far, whether one was left, and then the rest
abbrev pub so_far : List Placement → Bool → Placing → Placing
so_far ps left rest = let r = left_some left rest in record r { placements = ps ++ r.placements }

so_far_then : (ps : List Placement) (left : Bool) (p : Placement) (r : Placing) → so_far (ps ++ p ∷ []) left r ≡ so_far ps left (then_rest p r)
so_far_then ps true p r = ap (λ (xs : List Placement). record (without_one r) { placements = xs }) (append_assoc ps (p ∷ []) r.placements)
so_far_then ps false p r = ap (λ (xs : List Placement). record r { placements = xs }) (append_assoc ps (p ∷ []) r.placements)

so_far_left : (ps : List Placement) (left : Bool) (r : Placing) → so_far ps true r ≡ so_far ps left (without_one r)
so_far_left ps true r = refl
so_far_left ps false r = refl

module _ (q : QuotaSeen) (ds : List Demand) (i : ℕ) (d : Demand) (inside : i < length ds) (w : Site)
    (allowed : limits_allow q.limits (plus w.used (get_or ds i d).size) ≡ true) (ps : List Placement) (left : Bool) where
  pub one_placed : (w' : Site) (p : Placement) → placed_one q (get_or ds i d) w ≡ Some (p, w')
      → so_far (ps ++ p ∷ []) left (place q (drop (i + 1) ds) w') ≡ so_far ps left (place q (drop i ds) w)
  one_placed w' p e =
      let rest = drop (i + 1) ds in
      so_far_then ps left p (place q rest w')
      ∙ ap (so_far ps left)
      (sym (ap (λ (xs : List Demand). place q xs w) (drop_more ds i d inside)
      ∙ (cond-true _ _ _ allowed
      ∙ ap (λ (o : Option (Placement × Site)). option_map_or (λ s. then_rest s.0 (place q rest s.1)) o (without_one (place q rest w))) e)))

  pub one_left : placed_one q (get_or ds i d) w ≡ None
      → so_far ps true (place q (drop (i + 1) ds) w) ≡ so_far ps left (place q (drop i ds) w)
  one_left e =
      let rest = drop (i + 1) ds in
      so_far_left ps left (place q rest w)
      ∙ ap (so_far ps left)
      (sym (ap (λ (xs : List Demand). place q xs w) (drop_more ds i d inside)
      ∙ (cond-true _ _ _ allowed
      ∙ ap (λ (o : Option (Placement × Site)). option_map_or (λ s. then_rest s.0 (place q rest s.1)) o (without_one (place q rest w))) e)))
