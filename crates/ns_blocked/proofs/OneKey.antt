-- Tests of one key's row.
use Rattle.std.specs.Prelude.{◌≡◌, ℕ, Bool, true, false, ◌&&◌, Option, Some, None}
use Rattle.std.proofs.Common.{refl, sym, ap, ◌∙◌}
use Rattle.std.specs.Cmp.{IsTotalOrder}
use Rattle.std.specs.declared.cmp.Ordering.{Ordering}
use Rattle.std.specs.FinMap.{FinMap, IsAntisymmetric, entries, get}
use Rattle.std.specs.List.{list_any}
use Rattle.std.specs.Option.{option_map_or}
use Rattle.std.specs.Ordering.{eq_by_cmp}
use Rattle.keyed.specs.Table.{flat, row_at}
use Rattle.ns_types.specs.State.Names.{ByNumber, same_number}
use Rattle.ns_types.specs.State.Tables.{any_row}
use Rattle.ns_types.proofs.Elements.{any_same}
use Rattle.ns_types.proofs.Named.{numbers, one_number, same_number_refl}
use Rattle.ns_types.proofs.TableRows.{some_row, turned}
use Rattle.ns_types.proofs.Tables.{any_row-none, tied}
use Rattle.ns_types.proofs.Tests.{not_Some, same_Some}

module _ {K X : Type 0} {R : K → K → Ordering} (o : IsTotalOrder R) (same : IsAntisymmetric R) (m : FinMap R X) (q : K) (f : X → Bool) where
  other_rows : (r : Option X) → get m q ≡ r → option_map_or f r false ≡ false → (k : K) (x : X) → get m k ≡ Some x → (b : Bool) → eq_by_cmp R q k ≡ b →
      (b && f x) ≡ false
  other_rows r is none k x at false t = refl
  other_rows None is none k x at true t = absurd (not_Some x (sym is ∙ ap (get m) (tied same q k t) ∙ at))
  other_rows (Some y) is none k x at true t = ap f (same_Some x y (sym at ∙ ap (get m) (sym (tied same q k t)) ∙ is)) ∙ none

  -- some row passes that has this key, where the row at the key passes
  pub any_row_at : eq_by_cmp R q q ≡ true → list_any (λ e. eq_by_cmp R q e.0 && f e.1) (entries m) ≡ option_map_or f (get m q) false
  unfolding any_row
  any_row_at here = by (option_map_or f (get m q) false) refl
    where
      found : (r : Option X) → get m q ≡ r → option_map_or f r false ≡ true → any_row (λ k x. eq_by_cmp R q k && f x) m ≡ true
      found None is t = any_row-none o same (λ k x. eq_by_cmp R q k && f x) m
          (λ k x at. other_rows None is refl k x at (eq_by_cmp R q k) refl) ∙ t
      found (Some x) is t = some_row o same (λ k x. eq_by_cmp R q k && f x) m q x is (λ i. here i && t i)

      by : (b : Bool) → option_map_or f (get m q) false ≡ b → any_row (λ k x. eq_by_cmp R q k && f x) m ≡ option_map_or f (get m q) false
      by true t = found (get m q) refl t ∙ sym t
      by false t = any_row-none o same (λ k x. eq_by_cmp R q k && f x) m
          (λ k x at. other_rows (get m q) refl t k x at (eq_by_cmp R q k) refl) ∙ sym t

module _ {K : Type 0} {R : K → K → Ordering} (o : IsTotalOrder R) where
  pub same_turned : (a b : K) → eq_by_cmp R a b ≡ eq_by_cmp R b a
  same_turned a b = by (eq_by_cmp R a b) refl (eq_by_cmp R b a) refl
    where
      by : (x : Bool) → eq_by_cmp R a b ≡ x → (y : Bool) → eq_by_cmp R b a ≡ y → eq_by_cmp R a b ≡ eq_by_cmp R b a
      by true t true u = t ∙ sym u
      by true t false u = turned o b a u ∙ sym u
      by false t y u = t ∙ sym (turned o a b t)

-- a test of the row at the key, from either side
pub at_that_key : {K X : Type 0} {R : K → K → Ordering} → IsTotalOrder R → IsAntisymmetric R → (f : K → X → Bool) (q k : K) (x : X) →
    (eq_by_cmp R k q && f k x) ≡ (eq_by_cmp R q k && f q x)
at_that_key {R = R} o same f q k x = ap (λ b. b && f k x) (same_turned o k q) ∙ by (eq_by_cmp R q k) refl
  where
    by : (b : Bool) → eq_by_cmp R q k ≡ b → (eq_by_cmp R q k && f k x) ≡ (eq_by_cmp R q k && f q x)
    by true t = ap (λ z. eq_by_cmp R q k && f z x) (sym (tied same q k t))
    by false t = ap (λ b. b && f k x) t ∙ sym (ap (λ b. b && f q x) t)

-- a slot at the number passes, where the row there passes
pub slot_found : {V : Type 0} (m : ByNumber (Option V)) (n : ℕ) (passes : ℕ → Option V → Bool) → passes n None ≡ false →
    list_any (λ slot. same_number n slot.0 && passes slot.0 slot.1) (entries m) ≡ passes n (row_at m n)
slot_found {V = V} m n passes vacant = any_same (λ (slot : ℕ × Option V). same_number n slot.0 && passes slot.0 slot.1)
    (λ slot. same_number n slot.0 && passes n slot.1) (λ slot. ap (λ b. b && passes slot.0 slot.1) (same_turned numbers n slot.0)
    ∙ at_that_key numbers one_number passes n slot.0 slot.1) (entries m)
    ∙ any_row_at numbers one_number m n (passes n) (same_number_refl n) ∙ by (get m n)
  where
    by : (r : Option (Option V)) → option_map_or (passes n) r false ≡ passes n (flat r)
    by None = sym vacant
    by (Some row) = refl
