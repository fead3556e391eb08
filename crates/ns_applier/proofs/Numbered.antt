-- Rows that are put one after another, each under the next number.
use Rattle.std.specs.Prelude.{◌≡◌, ℕ, ◌+◌, ◌≤◌, ◌<◌, zero, suc, List, [], ◌∷◌, Some, ◌⊎◌, fold, length, slice_get}
use Rattle.std.proofs.Common.{inl, inr, refl, ap, ◌∙◌, arith}
use Rattle.std.specs.FinMap.{get, insert}
use Rattle.ns_types.specs.declared.allocation.Allocation.{Allocation}
use Rattle.ns_types.specs.declared.evaluation.Evaluation.{Evaluation}
use Rattle.ns_types.specs.Settling.Making.{with_evaluation}
use Rattle.ns_types.specs.State.Names.{ByNumber}
use Rattle.ns_types.specs.State.Rows.{Tenant}
use Rattle.ns_types.specs.Working.Commit.{with_allocation}
use Rattle.ns_types.proofs.Named.{numbers, one_number}
use Rattle.ns_types.proofs.TableRows.{apart, get_other, get_put}
use Rattle.ns_types.proofs.Tests.{not_Some}

module _ {X : Type 0} where
  abbrev pub added : ℕ → List X → ByNumber X → ByNumber X
  added k [] m = m
  added k (x ∷ xs) m = added (k + 1) xs (insert m (k + 1) x)

  -- a row at no new number stays
  pub added_outside : (k : ℕ) (xs : List X) (m : ByNumber X) (n : ℕ) → (n ≤ k) ⊎ (k + length xs < n) → get (added k xs m) n ≡ get m n
  added_outside k [] m n out = refl
  added_outside k (x ∷ xs) m n out = added_outside (k + 1) xs (insert m (k + 1) x) n (later out)
      ∙ get_other numbers one_number m (k + 1) x n (apart n (k + 1) (other out))
    where
      later : (n ≤ k) ⊎ (k + length (x ∷ xs) < n) → (n ≤ k + 1) ⊎ (k + 1 + length xs < n)
      later (inl below) = inl (omega arith)
      later (inr above) = inr (omega arith)

      other : (n ≤ k) ⊎ (k + length (x ∷ xs) < n) → n ≡ k + 1 → ⊥
      other (inl below) e = omega arith
      other (inr above) e = omega arith

  -- the rows are there in their order
  pub added_row : (k : ℕ) (xs : List X) (m : ByNumber X) (i : ℕ) (x : X) → slice_get xs i ≡ Some x → (n : ℕ) → n ≡ k + (i + 1) →
      get (added k xs m) n ≡ Some x
  added_row k [] m i x is n at = absurd (not_Some x is)
  added_row k (y ∷ xs) m zero x is n at = added_outside (k + 1) xs (insert m (k + 1) y) n (inl (omega arith))
      ∙ ap (get (insert m (k + 1) y)) first ∙ get_put numbers one_number m (k + 1) y ∙ is
    where
      first : n ≡ k + 1
      first = omega arith
  added_row k (y ∷ xs) m (suc i) x is n at = added_row (k + 1) xs (insert m (k + 1) y) i x is n (omega arith)

-- ---- of a namespace

pub allocations_added : (xs : List Allocation) (t : Tenant) → fold (λ t a. with_allocation a t) t xs
    ≡ record t { allocation_number = t.allocation_number + length xs; allocations = added t.allocation_number xs t.allocations }
allocations_added [] t = λ i. record t { allocation_number = none i }
  where
    none : t.allocation_number ≡ t.allocation_number + 0
    none = omega arith
allocations_added (x ∷ xs) t = allocations_added xs (with_allocation x t)
    ∙ (λ i. record t { allocation_number = all i; allocations = added t.allocation_number (x ∷ xs) t.allocations })
  where
    all : t.allocation_number + 1 + length xs ≡ t.allocation_number + length (x ∷ xs)
    all = omega arith

pub evaluations_added : (xs : List Evaluation) (t : Tenant) → fold (λ t e. with_evaluation e t) t xs
    ≡ record t { evaluation_number = t.evaluation_number + length xs; evaluations = added t.evaluation_number xs t.evaluations }
evaluations_added [] t = λ i. record t { evaluation_number = none i }
  where
    none : t.evaluation_number ≡ t.evaluation_number + 0
    none = omega arith
evaluations_added (x ∷ xs) t = evaluations_added xs (with_evaluation x t)
    ∙ (λ i. record t { evaluation_number = all i; evaluations = added t.evaluation_number (x ∷ xs) t.evaluations })
  where
    all : t.evaluation_number + 1 + length xs ≡ t.evaluation_number + length (x ∷ xs)
    all = omega arith
