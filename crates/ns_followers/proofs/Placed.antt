-- A key in its place among others in their order, and the keys of a table that has one entry more.
use Rattle.std.specs.Prelude.{◌≡◌, ℕ, suc, zero, ◌<◌, List, [], ◌∷◌, length, map, refl}
use Rattle.std.proofs.Common.{ap, ◌∙◌, arith, get_or}
use Rattle.std.specs.declared.cmp.Ordering.{Ordering}
use Rattle.std.specs.declared.cmp.Ordering.TheVariants.{Less, Equal, Greater}
use Rattle.std.specs.BTreeSet.{insert_key}
use Rattle.std.specs.Ordering.{match_ordering}
use Rattle.std.specs.List.{insert}
use Rattle.std.specs.Cmp.{IsTotalOrder}
use Rattle.std.specs.FinMap.{FinMap, entries, entries-insert, keys, put}
use Rattle.std.specs.FinMap.{insert as with_entry}
use Rattle.std.specs.FinMap.Entries.{by_order}

module _ {K : Type 0} (R : K → K → Ordering) where
  -- the key is above those before n
  abbrev pub Passed : K → List K → ℕ → Type 0
  Passed k ks n = (j : ℕ) (d : K) → j < n → j < length ks → R k (get_or ks j d) ≡ Greater

  at : (k x : K) (xs : List K) (r : Ordering) → R k x ≡ r → insert_key R (x ∷ xs) k ≡ match_ordering r (k ∷ x ∷ xs) (x ∷ xs) (x ∷ insert_key R xs k)
  at k x xs r t = ap (λ o. match_ordering o (k ∷ x ∷ xs) (x ∷ xs) (x ∷ insert_key R xs k)) t

  past : (k x : K) (xs : List K) (n : ℕ) → Passed k (x ∷ xs) (suc n) → insert_key R (x ∷ xs) k ≡ x ∷ insert_key R xs k
  past k x xs n p = at k x xs Greater (p 0 x (omega arith) (omega arith))

  rest : (k x : K) (xs : List K) (n : ℕ) → Passed k (x ∷ xs) (suc n) → Passed k xs n
  rest k x xs n p = λ j d l m. p (suc j) d (omega arith) (omega arith)

  pub stands_before : (k : K) (ks : List K) (i : ℕ) (d : K) → Passed k ks i → i < length ks → R k (get_or ks i d) ≡ Less → insert_key R ks k ≡ insert ks i k
  stands_before k [] i d p l t = absurd (omega arith)
  stands_before k (x ∷ xs) zero d p l t = at k x xs Less t
  stands_before k (x ∷ xs) (suc i) d p l t = past k x xs i p ∙ ap (λ ks. x ∷ ks) (stands_before k xs i d (rest k x xs i p) (omega arith) t)

  pub stands_there : (k : K) (ks : List K) (i : ℕ) (d : K) → Passed k ks i → i < length ks → R k (get_or ks i d) ≡ Equal → insert_key R ks k ≡ ks
  stands_there k [] i d p l t = absurd (omega arith)
  stands_there k (x ∷ xs) zero d p l t = at k x xs Equal t
  stands_there k (x ∷ xs) (suc i) d p l t = past k x xs i p ∙ ap (λ ks. x ∷ ks) (stands_there k xs i d (rest k x xs i p) (omega arith) t)

  pub stands_last : (k : K) (ks : List K) → Passed k ks (length ks) → insert_key R ks k ≡ insert ks (length ks) k
  stands_last k [] p = refl
  stands_last k (x ∷ xs) p = past k x xs (length xs) p ∙ ap (λ ks. x ∷ ks) (stands_last k xs (rest k x xs (length xs) p))

  keys_put : {X : Type 0} (k : K) (v : X) (es : List (K × X)) → map (λ e. e.0) (put R k v es) ≡ insert_key R (map (λ e. e.0) es) k
  keys_put k v [] = refl
  keys_put {X} k v (e ∷ es) =
      let ks = map (λ (e : K × X). e.0) es in
      elim (R k e.0) as (λ r. map (λ (e : K × X). e.0) (by_order r ((k, v) ∷ e ∷ es) ((e.0, v) ∷ es) (e ∷ put R k v es))
      ≡ match_ordering r (k ∷ e.0 ∷ ks) (e.0 ∷ ks) (e.0 ∷ insert_key R ks k)) [
        | Less ↦ refl
        | Equal ↦ refl
        | Greater ↦ ap (λ xs. e.0 ∷ xs) (keys_put k v es)
      ]

  -- a table with one entry more
  pub keys_insert : {X : Type 0} → IsTotalOrder R → (m : FinMap R X) (k : K) (v : X) → keys (with_entry m k v) ≡ insert_key R (keys m) k
  keys_insert {X} o m k v = ap (map (λ (e : K × X). e.0)) (entries-insert o m k v) ∙ keys_put k v (entries m)
