-- The accessors in a path.
use Rattle.std.proofs.Common.{◌≡◌, List, Option, Some, None, ℕ, false, refl, ap}
use Rattle.std.specs.Prelude.{IsOk, IfOk, ◌↔◌, Result, Ok, Err, is_ok, option_map, is_some}
use Rattle.std.specs.Int.{w128, from_be_bytes}
use Rattle.uuid.specs.Text.{parsed}
use Rattle.ns_types.specs.State.Id.{uuid_number}

pub accessor-read : {E : Type 0} (text : List ℕ) (read : Result (List ℕ) E) → (IsOk read ↔ ((u : List ℕ) × (parsed text ≡ Some u)))
    → IfOk read (λ u. Some u ≡ parsed text) → is_ok read ≡ is_some (uuid_number text)
accessor-read text (Ok u) some is = ap (λ o. is_some (option_map (from_be_bytes w128) o)) is
accessor-read text (Err e) some is = none (parsed text) (λ u h. let bad = some.1 (u, h) in cc)
  where
    none : (o : Option (List ℕ)) → ((u : List ℕ) → o ≡ Some u → ⊥) → false ≡ is_some (option_map (from_be_bytes w128) o)
    none None h = refl
    none (Some u) h = absurd (h u refl)
