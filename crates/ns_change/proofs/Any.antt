-- Whether some element passes, and one test or another.
use Rattle.std.specs.Prelude.{◌≡◌, ℕ, ◌+◌, ◌<◌, ◌≤◌, Bool, true, false, ◌||◌, List, length}
use Rattle.std.proofs.Common.{sym, ap, ◌∙◌, get_or, drop}
use Rattle.std.proofs.Math.ListN.{drop_of_length-le}
use Rattle.std.proofs.lemmas.List.Folds.{list_any_at}
use Rattle.std.specs.List.{list_any}
use Rattle.keyed.proofs.Queues.{from_here}

-- ---- one test or another

pub or_then : (r l m : Bool) → r ≡ true → r ≡ l → r ≡ (l || m)
or_then r l m e is = e ∙ ap (λ b. b || m) (sym e ∙ is)

pub or_else : (r s l m : Bool) → r ≡ false → r ≡ l → s ≡ m → s ≡ (l || m)
or_else r s l m e is then_is = then_is ∙ ap (λ b. b || m) (sym e ∙ is)

-- ---- a search for an element that passes

module _ {A : Type 0} (p : A → Bool) (xs : List A) (i : ℕ) where
  -- here is one
  pub any_here : (x : A) → i < length xs → x ≡ get_or xs i x → p x ≡ true → true ≡ list_any p xs
  any_here x lt is passes = sym (list_any_at p xs i x lt (ap p (sym is) ∙ passes))

  -- this one fails, so it goes on
  pub any_later : (x : A) → i < length xs → x ≡ get_or xs i x → p x ≡ false → list_any p (drop i xs) ≡ list_any p xs →
      list_any p (drop (i + 1) xs) ≡ list_any p xs
  any_later x lt is fails h = ap (λ b. b || list_any p (drop (i + 1) xs)) (sym fails) ∙ ap (list_any p) (sym (from_here xs i x lt is)) ∙ h

  -- there was none
  pub any_none : length xs ≤ i → list_any p (drop i xs) ≡ list_any p xs → false ≡ list_any p xs
  any_none le h = ap (list_any p) (sym (drop_of_length-le xs le)) ∙ h
