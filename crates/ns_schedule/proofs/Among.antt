-- What stops, by number.
use Rattle.std.specs.Prelude.{◌≡◌, ◌==◌, ℕ, Bool, true, false, List, map}
use Rattle.std.proofs.Common.{refl, sym, ap, ◌∙◌}
use Rattle.std.proofs.lemmas.Bool.{eqb-false, eqb-true}
use Rattle.ns_types.specs.declared.snapshot.OwnAllocation.{OwnAllocation}
use Rattle.ns_types.specs.Placing.Plan.{is_among}
use Rattle.ns_types.specs.State.Names.{has_number, same_number}
use Rattle.ns_types.proofs.Elements.{any_map, any_same}
use Rattle.ns_types.proofs.Named.{other_number, same_number_refl}

same_either : (a b : ℕ) → (a == b) ≡ same_number b a
same_either a b = by (a == b) refl
  where
    by : (c : Bool) → (a == b) ≡ c → c ≡ same_number b a
    by true e = sym (ap (same_number b) (eqb-true a b e) ∙ same_number_refl b)
    by false e = sym (other_number b a (λ same. eqb-false a b e (sym same)))

pub among : (own : List OwnAllocation) (n : ℕ) → has_number (map (λ a. a.number) own) n ≡ is_among own n
among own n = any_map (same_number n) (λ (a : OwnAllocation). a.number) own
    ∙ sym (any_same (λ (a : OwnAllocation). a.number == n) (λ a. same_number n a.number) (λ a. same_either a.number n) own)
