-- A search for the first slot that passes.
use Rattle.std.specs.Prelude.{◌≡◌, ℕ, ◌+◌, ◌<◌, ◌≤◌, Bool, true, false, cond, List, length, Some, None, find, option_map}
use Rattle.std.proofs.Common.{sym, ap, ◌∙◌, get_or, drop}
use Rattle.std.proofs.Math.ListN.{drop_of_length-le}
use Rattle.keyed.proofs.Queues.{from_here}
use Rattle.ns_change.specs.Queued.{first_slot}

module _ {Y : Type 0} (p : ℕ × Y → Bool) (xs : List (ℕ × Y)) (i : ℕ) (so_far : first_slot p (drop i xs) ≡ first_slot p xs) where
  step : (x : ℕ × Y) (b : Bool) → i < length xs → x ≡ get_or xs i x → p x ≡ b →
      option_map (λ e. e.0) (cond b (Some x) (find p (drop (i + 1) xs))) ≡ first_slot p xs
  step x b lt is e = ap (λ b. option_map (λ e. e.0) (cond b (Some x) (find p (drop (i + 1) xs)))) (sym e)
      ∙ ap (first_slot p) (sym (from_here xs i x lt is)) ∙ so_far

  -- this is the first
  pub first_here : (x : ℕ × Y) → i < length xs → x ≡ get_or xs i x → p x ≡ true → Some x.0 ≡ first_slot p xs
  first_here x = step x true

  -- this one fails, so it goes on
  pub first_later : (x : ℕ × Y) → i < length xs → x ≡ get_or xs i x → p x ≡ false → first_slot p (drop (i + 1) xs) ≡ first_slot p xs
  first_later x = step x false

  -- there was none
  pub first_none : length xs ≤ i → None ≡ first_slot p xs
  first_none le = ap (first_slot p) (sym (drop_of_length-le xs le)) ∙ so_far
