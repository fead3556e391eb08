-- The numbers of ids.
use Rattle.std.specs.Prelude.{◌≡◌, ℕ, ◌^◌, ◌<◌, Some}
use Rattle.std.proofs.Common.{refl, sym, ap, ◌∙◌, arith}
use Rattle.uuid.specs.Text.{by_index}
use Rattle.ns_types.specs.declared.id.IdKind.{IdKind}
use Rattle.ns_types.specs.declared.id.IdKind.TheVariants.{Evaluation, Allocation}
use Rattle.ns_types.specs.State.Id.{id_number, id_text, uuid_number}
use Rattle.ns_types.proofs.Ids.{id_text-number}
use Rattle.ns_types.proofs.Tests.{same_Some}
use Rattle.ns_laws.specs.Names as law

-- texts with the same number have the same number
number_is : (a b : IdKind) (m n : ℕ) → m < 2 ^ 64 → uuid_number (id_text a m) ≡ Some (id_number b n) → id_number a m ≡ id_number b n
number_is a b m n small e = same_Some (id_number a m) (id_number b n) (sym (id_text-number a m small) ∙ e)

pub ids_differ : law.IdsDiffer
ids_differ a b m n small_m small_n e = by a b (number_is a b m n small_m (ap uuid_number e ∙ id_text-number b n small_n))
  where
    by : (a b : IdKind) → id_number a m ≡ id_number b n → (a ≡ b) × (m ≡ n)
    by Evaluation Evaluation e = (refl, omega (arith, e))
    by Evaluation Allocation e = absurd (omega (arith, e, small_m, small_n))
    by Allocation Evaluation e = absurd (omega (arith, e, small_m, small_n))
    by Allocation Allocation e = (refl, omega (arith, e))

pub ids_read_back : law.IdsReadBack
ids_read_back n small = (id_text-number Evaluation n small, id_text-number Allocation n small)

pub ids_have_kinds : law.IdsHaveKinds
ids_have_kinds n small = (
  (λ none. none n small (id_text-number Evaluation n small)),
  (λ m small_m e. let same = number_is Evaluation Allocation n m small e in omega (arith, same, small)),
  (λ none. none n small (id_text-number Allocation n small)),
  (λ m small_m e. let same = number_is Allocation Evaluation n m small e in omega (arith, same, small_m)),
)

pub are_written_so : law.AreWrittenSo
unfolding by_index
are_written_so = record { evaluation = refl; allocation = refl; later = refl }
