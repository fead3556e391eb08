-- What the rows at keys take together, as a sum over the keys.
use Rattle.std.specs.Prelude.{◌≡◌, ℕ, Option, Some, None, sum_by}
use Rattle.std.proofs.Common.{refl, ap, ◌∙◌}
use Rattle.std.specs.FinMap.{entries}
use Rattle.keyed.specs.declared.key_set.KeySet.{KeySet}
use Rattle.keyed.proofs.KeySums.{Numbers, keys_sum, name_part, no_keys_sum, slot_part}
use Rattle.ns_types.specs.declared.allocation.Allocation.{Allocation}
use Rattle.ns_types.specs.declared.resources.Resources.{Resources}
use Rattle.ns_types.specs.State.Names.{Key, Name}
use Rattle.ns_live_index.specs.Levels.{no_keys}
use Rattle.ns_live_index.specs.Loads.{keys_amount, namespace_amount, number_amount, size_amount}

module _ (row_of : Key → Option Allocation) (amount : Resources → ℕ) where
  -- what the row under the key takes
  abbrev pub weight : Key → ℕ
  weight key = size_amount amount (row_of key)

  number_is : (ns : Name) (e : ℕ × Option Unit) → number_amount row_of amount ns e ≡ slot_part weight ns e.0 e.1
  number_is ns (n, None) = refl
  number_is ns (n, Some held) = refl

  namespace_is : (e : Name × Option Numbers) → namespace_amount row_of amount e ≡ name_part weight e.0 e.1
  namespace_is (ns, None) = refl
  namespace_is (ns, Some held) = ap (λ f. sum_by f (entries held)) (λ i e. number_is ns e i)

  pub amount_is : (keys : KeySet) → keys_amount row_of keys amount ≡ keys_sum weight keys
  amount_is keys = ap (λ f. sum_by f (entries keys.numbers)) (λ i e. namespace_is e i)

  pub no_use : keys_amount row_of no_keys amount ≡ 0
  no_use = amount_is no_keys ∙ no_keys_sum weight no_keys refl
