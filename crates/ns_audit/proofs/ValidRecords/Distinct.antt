-- Tables whose rows differ in something.
use Rattle.std.specs.Prelude.{◌≡◌, Bool, true, false, cond, not, List, [], ◌∷◌, map, Option, Some, None}
use Rattle.std.proofs.Common.{refl, sym, subst, ◌∙◌}
use Rattle.std.specs.Cmp.{IsTotalOrder}
use Rattle.std.specs.declared.cmp.Ordering.{Ordering}
use Rattle.std.specs.declared.cmp.Ordering.TheVariants.{Less, Equal, Greater}
use Rattle.std.specs.FinMap.{FinMap, IsAntisymmetric, get, get-remove, entries, entries-insert, values, insert, remove, retain_keys, same_map, put}
use Rattle.std.specs.FinMap.Entries.{by_order}
use Rattle.std.specs.Ordering.{eq_by_cmp}
use Rattle.ns_types.specs.State.Limits.{is_distinct}
use Rattle.ns_types.specs.State.Lists.{Each}
use Rattle.ns_types.proofs.Tables.{get-retain, entries-retain, each_row}
use Rattle.ns_audit.proofs.ValidEvaluations.Pairs.{Pairs, pairs_still, pairs_mapped, pairs_of_mapped, pairs_of_distinct, distinct_of_pairs}

-- no two are the same
abbrev Apart : {A : Type 0} → (A → A → Bool) → List A → Type 0
Apart same = Pairs (λ x y. same x y ≡ false)

-- ---- tables

module _ {K X : Type 0} (R : K → K → Ordering) (same : X → X → Bool) (k : K) (v : X) where
  each_put : (P : X → Type 0) (es : List (K × X)) → P v → Each (λ e. P e.1) es → Each (λ e. P e.1) (put R k v es)
  each_put P [] new h = (new, tt)
  each_put P (e ∷ es) new h = elim (R k e.0) as (λ r. Each (λ e. P e.1) (by_order r ((k, v) ∷ e ∷ es) ((e.0, v) ∷ es) (e ∷ put R k v es))) [
    | Less ↦ (new, h)
    | Equal ↦ (new, h.1)
    | Greater ↦ (h.0, each_put P es new h.1)
  ]

  -- a new row that is like no other
  pub apart_put : (es : List (K × X)) → Each (λ e. (same v e.1 ≡ false) × (same e.1 v ≡ false)) es → Apart (λ (a b : K × X). same a.1 b.1) es →
      Apart (λ (a b : K × X). same a.1 b.1) (put R k v es)
  apart_put [] other h = (tt, tt)
  apart_put (e ∷ es) other h = elim (R k e.0) as
      (λ r. Apart (λ (a b : K × X). same a.1 b.1) (by_order r ((k, v) ∷ e ∷ es) ((e.0, v) ∷ es) (e ∷ put R k v es))) [
        | Less ↦ (unlike (e ∷ es) other, h)
        | Equal ↦ (unlike es other.1, h.1)
        | Greater ↦ (each_put (λ x. same e.1 x ≡ false) es other.0.1 h.0, apart_put es other.1 h.1)
      ]
    where
      unlike : (es : List (K × X)) → Each (λ e. (same v e.1 ≡ false) × (same e.1 v ≡ false)) es → Each (λ e. same v e.1 ≡ false) es
      unlike [] h = tt
      unlike (e ∷ es) h = (h.0.0, unlike es h.1)

module _ {K X Y : Type 0} {R : K → K → Ordering} (o : IsTotalOrder R) (one : IsAntisymmetric R) (same : Y → Y → Bool) (g : X → Y) where
  abbrev alike : K × X → K × X → Bool
  alike a b = same (g a.1) (g b.1)

  rows_apart : (m : FinMap R X) → is_distinct same (map g (values m)) ≡ true → Apart alike (entries m)
  rows_apart m e = pairs_of_mapped (λ (e : K × X). e.1) (λ a b. same (g a) (g b) ≡ false) (entries m)
      (pairs_of_mapped g (λ a b. same a b ≡ false) (values m) (pairs_of_distinct same (map g (values m)) e))

  rows_distinct : (m : FinMap R X) → Apart alike (entries m) → is_distinct same (map g (values m)) ≡ true
  rows_distinct m h = distinct_of_pairs same (map g (values m))
      (pairs_mapped g (λ a b. same a b ≡ false) (values m) (pairs_mapped (λ (e : K × X). e.1) (λ a b. same (g a) (g b) ≡ false) (entries m) h))

  pub distinct_inserted : (m : FinMap R X) (k : K) (v : X) → ((q : K) (x : X) → get m q ≡ Some x → (same (g v) (g x) ≡ false) × (same (g x) (g v) ≡ false)) →
      is_distinct same (map g (values m)) ≡ true → is_distinct same (map g (values (insert m k v))) ≡ true
  distinct_inserted m k v other e = rows_distinct (insert m k v) (subst (Apart alike) (sym (entries-insert o m k v))
      (apart_put R (λ a b. same (g a) (g b)) k v (entries m) (each_row o one (λ q x. (same (g v) (g x) ≡ false) × (same (g x) (g v) ≡ false)) m other)
      (rows_apart m e)))

  removed_is : (m : FinMap R X) (k : K) → remove m k ≡ retain_keys m (λ q. not (eq_by_cmp R q k))
  removed_is m k = same_map o one _ _ (λ q. get-remove o m k q ∙ by (eq_by_cmp R q k) (get m q) ∙ sym (get-retain o one m (λ q. not (eq_by_cmp R q k)) q))
    where
      by : (b : Bool) (x : Option X) → cond b None x ≡ cond (not b) x None
      by true x = refl
      by false x = refl

  pub distinct_removed : (m : FinMap R X) (k : K) → is_distinct same (map g (values m)) ≡ true → is_distinct same (map g (values (remove m k))) ≡ true
  distinct_removed m k e = rows_distinct (remove m k) (subst (λ m. Apart alike (entries m)) (sym (removed_is m k))
      (subst (Apart alike) (sym (entries-retain o one m (λ q. not (eq_by_cmp R q k))))
      (pairs_still (λ a b. alike a b ≡ false) (λ e. not (eq_by_cmp R e.0 k)) (entries m) (rows_apart m e))))
