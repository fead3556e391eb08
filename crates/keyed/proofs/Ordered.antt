-- Lists of entries whose keys strictly rise: what stands above a key, and what passes a test.
use Rattle.std.specs.Prelude.{◌≡◌, Bool, true, false, cond, not, T, List, [], ◌∷◌, Some, None, refl}
use Rattle.std.proofs.Common.{ap, sym, ◌∙◌, subst}
use Rattle.std.specs.declared.cmp.Ordering.{Ordering}
use Rattle.std.specs.declared.cmp.Ordering.TheVariants.{Less, Equal}
use Rattle.std.specs.Ordering.{is_lt, is_eq}
use Rattle.std.specs.Cmp.{IsTotalOrder}
use Rattle.std.specs.List.{filter}
use Rattle.std.specs.FinMap.Entries.{find, is_sorted, below_all}
use Rattle.ns_types.proofs.Tables.{less_by}
use Rattle.ns_types.proofs.Tests.{first, second, both}
use Rattle.keyed.specs.Slots.{without}

module _ {K X : Type 0} (R : K → K → Ordering) where
  pub below-filter : (p : K × X → Bool) (k : K) (es : List (K × X)) → T (below_all R k es) → T (below_all R k (filter p es))
  below-filter p k [] h = tt
  below-filter p k (e ∷ es) h =
      let rest = below-filter p k es (second _ _ h) in
      elim (p e) as (λ b. T (below_all R k (cond b (e ∷ filter p es) (filter p es)))) [ true ↦ both _ _ (first _ _ h) rest | false ↦ rest ]

  pub is_sorted-filter : (p : K × X → Bool) (es : List (K × X)) → T (is_sorted R es) → T (is_sorted R (filter p es))
  is_sorted-filter p [] h = tt
  is_sorted-filter p (e ∷ es) h =
      let rest = is_sorted-filter p es (second _ _ h) in
      elim (p e) as (λ b. T (is_sorted R (cond b (e ∷ filter p es) (filter p es)))) [
        | true ↦ both _ _ (below-filter p e.0 es (first _ _ h)) rest
        | false ↦
            rest
      ]

  -- the entry is kept, if its key does not tie
  pub kept : (k : K) (e : K × X) (es : List (K × X)) (r : Ordering) → R k e.0 ≡ r → is_eq r ≡ false → without R k (e ∷ es) ≡ e ∷ without R k es
  kept k e es r t apart = ap (λ b. cond (not b) (e ∷ without R k es) (without R k es)) (ap is_eq t ∙ apart)

  module _ (o : IsTotalOrder R) where
    -- a key below all is not among them
    pub absent : (k : K) (es : List (K × X)) → T (below_all R k es) → (find R k es ≡ None) × (without R k es ≡ es)
    absent k [] h = (refl, refl)
    absent k (e ∷ es) h =
        let t = less_by _ (first _ _ h) in
        let rest = absent k es (second _ _ h) in
        (ap (λ r. cond (is_eq r) (Some e.1) (find R k es)) t ∙ rest.0, kept k e es Less t refl ∙ ap (λ fs. e ∷ fs) rest.1)

    pub below_less : (x y : K) (es : List (K × X)) → R x y ≡ Less → T (below_all R y es) → T (below_all R x es)
    below_less x y [] p h = tt
    below_less x y (e ∷ es) p h =
        let here : T (is_lt (R x e.0)) = subst (λ r. T (is_lt r)) (sym (o.trans x y e.0 p (less_by _ (first _ _ h)))) tt in
        both _ _ here (below_less x y es p (second _ _ h))

    pub below_tied : (x y : K) (es : List (K × X)) → R x y ≡ Equal → T (below_all R y es) → T (below_all R x es)
    below_tied x y [] p h = tt
    below_tied x y (e ∷ es) p h =
        let here : T (is_lt (R x e.0)) = subst (λ r. T (is_lt r)) (sym (o.congr x y e.0 p)) (first _ _ h) in
        both _ _ here (below_tied x y es p (second _ _ h))

    -- a key below the first of a list in order, or tied with it, is not among the rest
    pub not_there : (k : K) (e : K × X) (es : List (K × X)) → T (is_sorted R (e ∷ es)) → R k e.0 ≡ Less → (find R k es ≡ None) × (without R k es ≡ es)
    not_there k e es s t = absent k es (below_less k e.0 es t (first _ _ s))

    pub not_left : (k : K) (e : K × X) (es : List (K × X)) → T (is_sorted R (e ∷ es)) → R k e.0 ≡ Equal → (find R k es ≡ None) × (without R k es ≡ es)
    not_left k e es s t = absent k es (below_tied k e.0 es t (first _ _ s))
