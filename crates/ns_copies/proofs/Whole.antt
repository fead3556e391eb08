-- Whole tables.
use Rattle.std.specs.Prelude.{◌≡◌, true, Option, Some, None, unwrap_or}
use Rattle.std.proofs.Common.{refl, sym, ap, ◌∙◌}
use Rattle.std.specs.declared.cmp.Ordering.{Ordering}
use Rattle.std.specs.Cmp.{IsTotalOrder}
use Rattle.std.specs.FinMap.{FinMap, IsAntisymmetric, empty, get, get-empty, retain_keys, same_map}
use Rattle.keyed.specs.Over.{over}
use Rattle.keyed.specs.Table.{flat, rows}
use Rattle.keyed.proofs.Over.{get-over}
use Rattle.keyed.proofs.Tables.{get-rows}
use Rattle.ns_types.proofs.Tables.{get-retain, map_rows_idle}
use Rattle.ns_copies.specs.Copied.{seen_rows}

module _ {K X : Type 0} {R : K → K → Ordering} (o : IsTotalOrder R) (same : IsAntisymmetric R) where
  pub retain_all : (m : FinMap R X) → retain_keys m (λ _. true) ≡ m
  retain_all m = same_map o same _ _ (λ q. get-retain o same m (λ _. true) q)

  -- rows that are seen as they are
  pub seen_as_they_are : (m : FinMap R (Option X)) → seen_rows (λ row. row) m ≡ rows m
  seen_as_they_are m = map_rows_idle o same (λ _ row. row) (rows m) (λ _ _ _. refl)

  -- rows that are put into a table of none
  pub over_none : (c : FinMap R (Option X)) → over empty c ≡ rows c
  over_none c = same_map o same _ _ (λ q. get-over o same empty c q ∙ ap (unwrap_or (get c q)) (get-empty R q) ∙ by (get c q) ∙ sym (get-rows o c q))
    where
      by : (r : Option (Option X)) → unwrap_or r None ≡ flat r
      by None = refl
      by (Some r) = refl
