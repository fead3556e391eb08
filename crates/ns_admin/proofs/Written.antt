-- Rows by name, found, written and taken out, as the state shows them.
use Rattle.std.specs.Prelude.{◌≡◌, not, ◌&&◌, nat_le, Option, Some, option_map, is_some}
use Rattle.std.proofs.Common.{ap, ◌∙◌}
use Rattle.std.specs.FinMap.{FinMap, empty, get, insert, len, remove}
use Rattle.keyed.specs.Table.{row_at, rows, with_slot}
use Rattle.keyed.proofs.Tables.{get-rows, row_put, rows-empty, rows-remove, rows-set}
use Rattle.ns_types.proofs.Named.{names, one_name}
use Rattle.ns_types.proofs.Tables.{get-table_of, get_mapped, len-table_of, table_of-insert, table_of-remove}
use Rattle.ns_types.specs.Asking.Admins.{is_full}
use Rattle.ns_types.specs.State.Names.{Name, name_cmp}
use Rattle.ns_types.specs.State.Tables.{table_of}

module _ {X : Type 0} where
  -- a table without room for a new row, by what is found at the key
  pub full_by : (m : FinMap name_cmp (Option X)) (k : Name) (x : Option X) → row_at m k ≡ x →
      is_full (rows m) k ≡ (not (is_some x) && nat_le 10000 (len (rows m)))
  full_by m k x e = ap (λ x. not (is_some x) && nat_le 10000 (len (rows m))) (get-rows names m k ∙ e)

  pub rows_single : (l m n : FinMap name_cmp (Option X)) (k : Name) (x : X) → l ≡ empty → m ≡ with_slot l k → n ≡ insert m k (Some x) →
      rows n ≡ insert (empty {R = name_cmp}) k x
  rows_single l m n k x e f g = row_put names one_name l m n k x f g ∙ ap (λ m. insert m k x) (ap (λ l. rows l) e ∙ rows-empty)

-- ---- as the state shows them

module _ {X Y : Type 0} (f : X → Y) where
  abbrev pub shown : FinMap name_cmp (Option X) → FinMap name_cmp Y
  shown m = table_of (λ _ x. f x) (rows m)

  pub found_at : (m : FinMap name_cmp (Option X)) (k : Name) (x : Option X) → row_at m k ≡ x → get (shown m) k ≡ option_map f x
  found_at m k x e = get-table_of names one_name (λ _ x. f x) (rows m) k ∙ ap (option_map f) (get-rows names m k ∙ e)

  pub full_at : (m : FinMap name_cmp (Option X)) (k : Name) → is_full (shown m) k ≡ is_full (rows m) k
  full_at m k = λ i. not (get_mapped names one_name (λ _ x. f x) (rows m) k i) && nat_le 10000 (len-table_of (λ _ x. f x) (rows m) i)

  shown-insert : (m n : FinMap name_cmp (Option X)) (k : Name) (x : X) → rows n ≡ insert (rows m) k x → shown n ≡ insert (shown m) k (f x)
  shown-insert m n k x e = ap (table_of (λ _ x. f x)) e ∙ table_of-insert names one_name (λ _ x. f x) (rows m) k x

  -- a row set in a slot that was made for it
  pub shown-set : (l m n : FinMap name_cmp (Option X)) (k : Name) (x : X) → m ≡ with_slot l k → n ≡ insert m k (Some x) → shown n ≡ insert (shown l) k (f x)
  shown-set l m n k x e g = shown-insert l n k x (row_put names one_name l m n k x e g)

  pub shown-remove : (m n : FinMap name_cmp (Option X)) (k : Name) → n ≡ remove m k → shown n ≡ remove (shown m) k
  shown-remove m n k e = ap shown e ∙ ap (table_of (λ _ x. f x)) (rows-remove names one_name m k) ∙ table_of-remove names one_name (λ _ x. f x) (rows m) k

  -- a row written over one that is there
  pub shown-written : (m n : FinMap name_cmp (Option X)) (k : Name) (x : X) → n ≡ insert m k (Some x) → shown n ≡ insert (shown m) k (f x)
  shown-written m n k x e = shown-insert m n k x (ap (λ n. rows n) e ∙ rows-set names one_name m k x)
