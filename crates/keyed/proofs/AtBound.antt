-- Tables whose rows all have counters below their bound: what a write, a new slot or a slot that goes leaves of that.
use Rattle.std.specs.Prelude.{◌≡◌, Bool, true, false, cond, Option, Some, None, refl}
use Rattle.std.proofs.Common.{ap, sym, ◌∙◌}
use Rattle.std.specs.List.{list_any}
use Rattle.std.specs.Ordering.{eq_by_cmp}
use Rattle.std.specs.FinMap.{FinMap, empty, entries, get, get-empty, get-insert, get-remove, insert, remove}
use Rattle.keyed.specs.Owned.{NoneAtBound}
use Rattle.keyed.specs.Table.{at_slot, emptied, flat, row_at, rows, with_slot}
use Rattle.keyed.proofs.Tables.{get-rows, rows-emptied, rows-with_slot}
use Rattle.keyed.proofs.Viewing.{any_row-rows}
use Rattle.ns_types.specs.State.Names.{Name, name_cmp}
use Rattle.ns_types.proofs.Named.{names, one_name}
use Rattle.ns_types.proofs.Tables.{none_of_any}
use Rattle.ns_types.proofs.Tests.{not_Some, same_Some}

module _ {V : Type 0} (p : V → Bool) where
  pub none-empty : NoneAtBound p empty
  none-empty name row is = absurd (not_Some row (sym (ap flat (get-empty {X = Option V} name_cmp name)) ∙ is))

  -- as a walk over the slots tells it
  pub none-walked : (m : FinMap name_cmp (Option V)) → list_any (at_slot (λ (e : Name × V). p e.1)) (entries m) ≡ false → NoneAtBound p m
  none-walked m none name row is = none_of_any one_name (λ _ x. p x) (rows m) name row (any_row-rows (λ _ x. p x) m ∙ none) (get-rows names m name ∙ is)

-- a row that is left was there
left_row : {V : Type 0} (b : Bool) (x : Option (Option V)) (row : V) → flat (cond b None x) ≡ Some row → flat x ≡ Some row
left_row true x row is = absurd (not_Some row is)
left_row false x row is = is

module _ {V : Type 0} (p : V → Bool) (m : FinMap name_cmp (Option V)) (none : NoneAtBound p m) where
  pub none-with_slot : (k : Name) → NoneAtBound p (with_slot m k)
  none-with_slot k name row is = none name row
      (sym (get-rows names m name) ∙ ap (λ r. get r name) (sym (rows-with_slot names one_name m k)) ∙ get-rows names (with_slot m k) name ∙ is)

  pub none-remove : (k : Name) → NoneAtBound p (remove m k)
  none-remove k name row is = none name row (left_row (eq_by_cmp name_cmp name k) (get m name) row (sym (ap flat (get-remove names m k name)) ∙ is))

  pub none-emptied : (k : Name) → NoneAtBound p (emptied m k)
  none-emptied k name row is = none name row (sym (get-rows names m name) ∙ left (eq_by_cmp name_cmp name k) (get (rows m) name)
      (sym (get-remove names (rows m) k name) ∙ ap (λ r. get r name) (sym (rows-emptied names one_name m k)) ∙ get-rows names (emptied m k) name ∙ is))
    where
      left : (b : Bool) (x : Option V) → cond b None x ≡ Some row → x ≡ Some row
      left true x e = absurd (not_Some row e)
      left false x e = e

  pub none-insert : (k : Name) (v : V) → p v ≡ false → NoneAtBound p (insert m k (Some v))
  none-insert k v below name row is = by (eq_by_cmp name_cmp name k) (sym (ap flat (get-insert names m k (Some v) name)) ∙ is)
    where
      by : (b : Bool) → flat (cond b (Some (Some v)) (get m name)) ≡ Some row → p row ≡ false
      by true e = ap p (sym (same_Some v row e)) ∙ below
      by false e = none name row e
