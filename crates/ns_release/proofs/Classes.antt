-- The order in which a pool's classes are released does not matter.
use Rattle.std.specs.Prelude.{◌≡◌, ℕ, ◌+◌, Bool, true, false, cond, List, [], ◌∷◌, Some, ◌||◌, fold}
use Rattle.std.proofs.Common.{refl, sym, ap, ◌∙◌}
use Rattle.std.specs.List.{list_any}
use Rattle.std.specs.FinMap.{get, get-insert, insert, same_map}
use Rattle.ns_types.specs.declared.node.Class.{Class}
use Rattle.ns_types.specs.State.Names.{ByClass, same_class}
use Rattle.ns_types.specs.State.Rows.{PoolRows}
use Rattle.ns_types.specs.Settling.Settle.{after_release}
use Rattle.ns_types.proofs.Classes.{by_class, one_class}
use Rattle.ns_types.proofs.Lists.{not_both}

-- the same classes in whatever order
abbrev pub Alike : List Class → List Class → Type 0
Alike xs ys = (passes : Class → Bool) → list_any passes xs ≡ list_any passes ys

module _ (v : ℕ) where
  abbrev numbered : ByClass ℕ → List Class → ByClass ℕ
  numbered m xs = fold (λ known c. insert known c v) m xs

  get-numbered : (xs : List Class) (m : ByClass ℕ) (q : Class) → get (numbered m xs) q ≡ cond (list_any (λ c. same_class q c) xs) (Some v) (get m q)
  get-numbered [] m q = refl
  get-numbered (x ∷ xs) m q = get-numbered xs (insert m x v) q ∙ ap (cond (list_any (λ c. same_class q c) xs) (Some v)) (get-insert by_class m x v q) ∙
      by (same_class q x) (list_any (λ c. same_class q c) xs)
    where
      by : (a b : Bool) → cond b (Some v) (cond a (Some v) (get m q)) ≡ cond (a || b) (Some v) (get m q)
      by true true = refl
      by true false = refl
      by false b = refl

  numbered_alike : (m : ByClass ℕ) (xs ys : List Class) → Alike xs ys → numbered m xs ≡ numbered m ys
  numbered_alike m xs ys e = same_map by_class one_class _ _ (λ q. get-numbered xs m q ∙ ap (λ b. cond b (Some v) (get m q)) (e (λ c. same_class q c)) ∙
      sym (get-numbered ys m q))

pub release_alike : (xs ys : List Class) (p : PoolRows) → Alike xs ys → after_release xs p ≡ after_release ys p
release_alike [] [] p e = refl
release_alike [] (y ∷ ys) p e = not_both refl (sym (e (λ _. true)))
release_alike (x ∷ xs) [] p e = not_both refl (e (λ _. true))
release_alike (x ∷ xs) (y ∷ ys) p e = λ i. record p { release = p.release + 1; classes = numbered_alike (p.release + 1) p.classes (x ∷ xs) (y ∷ ys) e i }
