-- The greatest number, and what passes it.
use Rattle.std.specs.Prelude.{◌≡◌, ℕ, ◌<◌, ◌≤◌, ◌^◌, true, false, Option, Some, None, nat_lt}
use Rattle.std.proofs.Common.{inl, inr, refl, arith}
use Rattle.std.proofs.lemmas.Bool.Decides.{leb_tells}
use Rattle.std.specs.FinMap.{get, insert}
use Rattle.std.specs.Option.{option_map_or}
use Rattle.ns_types.specs.declared.evaluation.Evaluation.{Evaluation}
use Rattle.ns_types.specs.State.Names.{Name}
use Rattle.ns_types.specs.State.Rows.{Tenant, World}
use Rattle.ns_types.specs.Steps.{greatest, is_past_bound, is_tenant_past_bound}
use Rattle.ns_types.specs.Working.Work.{tied_to}
use Rattle.ns_types.proofs.Lists.{left_none, not_both}
use Rattle.ns_types.proofs.Named.{one_name}
use Rattle.ns_types.proofs.Tables.{none_of_any}

pub past_bound : (n : ℕ) → 2 ^ 64 ≤ n → nat_lt greatest n ≡ true
past_bound n more = elim (leb_tells (2 ^ 64) n) [ inl past ↦ past.0 | inr less ↦ absurd (omega arith) ]

pub not_past : (n : ℕ) → n < 2 ^ 64 → nat_lt greatest n ≡ false
not_past n less = elim (leb_tells (2 ^ 64) n) [ inl past ↦ absurd (omega arith) | inr within ↦ within.0 ]

pub within_bound : (n : ℕ) → nat_lt greatest n ≡ false → n < 2 ^ 64
within_bound n none = elim (leb_tells (2 ^ 64) n) [ inl past ↦ not_both past.0 none | inr less ↦ less.1 ]

-- no namespace of a world that is past no bound is past one
pub tenant_within : (w : World) (ns : Name) (t : Tenant) → is_past_bound w ≡ false → get w.tenants ns ≡ Some t → is_tenant_past_bound t ≡ false
unfolding is_past_bound
tenant_within w ns t within at = none_of_any one_name (λ _ t. is_tenant_past_bound t) w.tenants ns t (left_none _ _ (left_none _ _ within)) at

-- an evaluation that names its follower takes no number
pub tied_number : (n follower : ℕ) (t : Tenant) → (tied_to n follower t).evaluation_number ≡ t.evaluation_number
tied_number n follower t = elim (get t.evaluations n) as
    (λ (o : Option Evaluation). (option_map_or (λ e. record t { evaluations = insert t.evaluations n (record e { follower = Some follower }) })
    o t).evaluation_number ≡ t.evaluation_number) [ Some e ↦ refl | None ↦ refl ]
