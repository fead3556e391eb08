-- What allocations take from a node and from a quota, row by row, and what an allocation that ends gives back.
use Rattle.std.specs.Prelude.{◌≡◌, ℕ, ◌+◌, Bool, true, false, cond, not, T, List, [], ◌∷◌, Option, Some, None, sum_by, ◌&&◌}
use Rattle.std.proofs.Common.{refl, sym, ap, subst, ◌∙◌, arith, Ordering, Less, Equal, Greater, is_eq, is_lt}
use Rattle.std.proofs.lemmas.List.Sums.{sum_by-cons}
use Rattle.std.specs.Cmp.{IsTotalOrder, eq_by_cmp_equiv, tied_itself}
use Rattle.std.specs.FinMap.{FinMap, IsAntisymmetric, entries, entries_sorted, get, get-entries, get-insert, get-remove, insert, remove, retain_keys, same_map}
use Rattle.std.specs.FinMap.Entries.{find, where_key, below_all, is_sorted}
use Rattle.std.specs.Option.{option_map_or}
use Rattle.std.specs.Ordering.{eq_by_cmp}
use Rattle.ns_types.specs.declared.allocation.Allocation.{Allocation}
use Rattle.ns_types.specs.declared.resources.Resources.{Resources}
use Rattle.ns_types.specs.Settling.Gone.{with_row}
use Rattle.ns_types.specs.Settling.Making.{change_tenant, put_tenant}
use Rattle.ns_types.specs.State.Names.{Name, Key, same_name}
use Rattle.ns_types.specs.State.Rows.{World, Tenant, is_live, is_live_on}
use Rattle.ns_types.specs.State.Sums.{names_quota, node_sum, quota_sum, tenant_sum}
use Rattle.ns_types.proofs.Named.{names, one_name, numbers, one_number}
use Rattle.ns_types.proofs.Tables.{entries-retain, get-retain, tied}
use Rattle.ns_types.proofs.Tests.{first, second}

-- ---- a sum over a table's rows, and one of them

pub below_unlike : (r : Ordering) → T (is_lt r) → is_eq r ≡ false
below_unlike Less p = refl
below_unlike Equal p = absurd p
below_unlike Greater p = absurd p

module _ {K X : Type 0} {R : K → K → Ordering} (o : IsTotalOrder R) (same : IsAntisymmetric R) (f : K → X → ℕ) where
  abbrev pub sum_rows : FinMap R X → ℕ
  sum_rows m = sum_by (λ e. f e.0 e.1) (entries m)

  abbrev sum : List (K × X) → ℕ
  sum es = sum_by (λ e. f e.0 e.1) es

  abbrev pub at_row : FinMap R X → K → ℕ
  at_row m k = option_map_or (f k) (get m k) 0

  abbrev elsewhere : K → K → Bool
  elsewhere k q = not (eq_by_cmp R q k)

  -- nothing of that key comes later
  none_later : (k : K) (es : List (K × X)) → T (below_all R k es) → where_key R (elsewhere k) es ≡ es
  none_later k [] h = refl
  none_later k (e ∷ es) h =
      ap (λ b. cond (not b) (e ∷ where_key R (elsewhere k) es) (where_key R (elsewhere k) es))
      ((eq_by_cmp_equiv o).symm e.0 k ∙ below_unlike (R k e.0) (first (is_lt (R k e.0)) (below_all R k es) h))
      ∙ ap (λ l. e ∷ l) (none_later k es (second (is_lt (R k e.0)) (below_all R k es) h))

  split : (k : K) (es : List (K × X)) → T (is_sorted R es) → sum es ≡ option_map_or (f k) (find R k es) 0 + sum (where_key R (elsewhere k) es)
  split k [] h = refl
  split k (e ∷ es) h = by (split k es here.1) (eq_by_cmp R k e.0) refl
    where
      here : T (below_all R e.0 es) × T (is_sorted R es)
      here = (first (below_all R e.0 es) (is_sorted R es) h, second (below_all R e.0 es) (is_sorted R es) h)

      by : sum es ≡ option_map_or (f k) (find R k es) 0 + sum (where_key R (elsewhere k) es) → (b : Bool) → eq_by_cmp R k e.0 ≡ b →
          sum (e ∷ es) ≡ option_map_or (f k) (cond b (Some e.1) (find R k es)) 0 + sum
          (cond (not (eq_by_cmp R e.0 k)) (e ∷ where_key R (elsewhere k) es) (where_key R (elsewhere k) es))
      by later true t =
          let whole = sum_by-cons (λ e. f e.0 e.1) e es in
          let is : e.0 ≡ k = sym (tied same k e.0 t) in
          let rest : sum (cond (not (eq_by_cmp R e.0 k)) (e ∷ where_key R (elsewhere k) es) (where_key R (elsewhere k) es)) ≡ sum es =
          ap (λ b. sum (cond (not b) (e ∷ where_key R (elsewhere k) es) (where_key R (elsewhere k) es))) ((eq_by_cmp_equiv o).symm e.0 k ∙ t)
          ∙ ap sum (none_later k es (subst (λ q. T (below_all R q es)) is here.0)) in
          let own : f e.0 e.1 ≡ f k e.1 = ap (λ q. f q e.1) is in
          omega (arith, whole, rest, own)
      by later false t =
          let whole = sum_by-cons (λ e. f e.0 e.1) e es in
          let kept : sum (cond (not (eq_by_cmp R e.0 k)) (e ∷ where_key R (elsewhere k) es) (where_key R (elsewhere k) es))
          ≡ sum (e ∷ where_key R (elsewhere k) es) =
          ap (λ b. sum (cond (not b) (e ∷ where_key R (elsewhere k) es) (where_key R (elsewhere k) es))) ((eq_by_cmp_equiv o).symm e.0 k ∙ t) in
          let parts = sum_by-cons (λ e. f e.0 e.1) e (where_key R (elsewhere k) es) in
          omega (arith, whole, kept, parts, later)

  pub sum_split : (m : FinMap R X) (k : K) → sum_rows m ≡ at_row m k + sum_rows (remove m k)
  sum_split m k = split k (entries m) (entries_sorted m)
      ∙ (λ i. option_map_or (f k) (sym (get-entries m k) i) 0 + sum (sym (entries-retain o same m (elsewhere k)) i))
      ∙ ap (λ n. at_row m k + sum_rows n)
      (same_map o same (retain_keys m (elsewhere k)) (remove m k)
      (λ q. get-retain o same m (elsewhere k) q ∙ turned_cond (eq_by_cmp R q k) (get m q) ∙ sym (get-remove o m k q)))
    where
      turned_cond : (b : Bool) (r : Option X) → cond (not b) r None ≡ cond b None r
      turned_cond true r = refl
      turned_cond false r = refl

  -- with a row put, and the one that was there counted again
  pub sum_set : (m : FinMap R X) (k : K) (v : X) → sum_rows (insert m k v) + at_row m k ≡ sum_rows m + f k v
  sum_set m k v =
      let before = sum_split m k in
      let after = sum_split (insert m k v) k in
      let rest : sum_rows (remove (insert m k v) k) ≡ sum_rows (remove m k) =
      ap sum_rows (same_map o same _ _
      (λ q. get-remove o (insert m k v) k q ∙ ap (cond (eq_by_cmp R q k) None) (get-insert o m k v q) ∙ twice (eq_by_cmp R q k) (get m q)
      ∙ sym (get-remove o m k q))) in
      let own : at_row (insert m k v) k ≡ f k v =
      ap (λ r. option_map_or (f k) r 0) (get-insert o m k v k ∙ ap (λ b. cond b (Some v) (get m k)) (ap is_eq (tied_itself o k))) in
      omega (arith, before, after, rest, own)
    where
      twice : (b : Bool) (r : Option X) → cond b None (cond b (Some v) r) ≡ cond b None r
      twice true r = refl
      twice false r = refl

-- ---- what rows take

-- what a row takes, where it counts
abbrev pub row_size : (Allocation → Bool) → (Resources → ℕ) → Allocation → ℕ
row_size counts amount a = cond (counts a) (amount a.size) 0

abbrev pub size_at : (Allocation → Bool) → (Resources → ℕ) → Tenant → ℕ → ℕ
size_at counts amount t n = option_map_or (row_size counts amount) (get t.allocations n) 0

-- what the allocation at a key takes from a node
abbrev pub node_part : World → Name → Name → (Resources → ℕ) → Key → ℕ
node_part w pool node amount key = option_map_or (λ t. size_at (is_live_on pool node) amount t key.1) (get w.tenants key.0) 0

-- and from a quota
abbrev pub quota_part : World → Name → (Resources → ℕ) → Key → ℕ
quota_part w quota amount key = option_map_or (λ t. cond (names_quota quota t.namespace) (size_at is_live amount t key.1) 0) (get w.tenants key.0) 0

-- ---- a namespace's part

module _ (counts : Allocation → Bool) (amount : Resources → ℕ) where
  pub tenant_put : (t : Tenant) (n : ℕ) (a : Allocation) →
      tenant_sum counts amount (record t { allocations = insert t.allocations n a }) + size_at counts amount t n
      ≡ tenant_sum counts amount t + row_size counts amount a
  tenant_put t n a = sum_set numbers one_number (λ _ a. row_size counts amount a) t.allocations n a

  -- a row that counts no longer
  pub tenant_less : (t : Tenant) (n : ℕ) (g : Allocation → Allocation) → ((a : Allocation) → counts (g a) ≡ false) →
      tenant_sum counts amount (with_row n g t) + size_at counts amount t n ≡ tenant_sum counts amount t
  tenant_less t n g gone = by (get t.allocations n) refl
    where
      by : (r : Option Allocation) → get t.allocations n ≡ r →
          tenant_sum counts amount (option_map_or (λ a. record t { allocations = insert t.allocations n (g a) }) r t) + size_at counts amount t n
          ≡ tenant_sum counts amount t
      by None is = let none : size_at counts amount t n ≡ 0 = ap (λ r. option_map_or (row_size counts amount) r 0) is in omega (arith, none)
      by (Some a) is =
          let put = tenant_put t n (g a) in
          let none : row_size counts amount (g a) ≡ 0 = ap (λ b. cond b (amount (g a).size) 0) (gone a) in
          omega (arith, put, none)

-- ---- all namespaces together

-- the part of each namespace is known: what one more or less of it makes of the whole
pub world_less : (part : Name → Tenant → ℕ) (w : World) (ns : Name) (f : Tenant → Tenant) (gone : Tenant → ℕ) →
    ((t : Tenant) → part ns (f t) + gone t ≡ part ns t)
    → sum_rows names one_name part (change_tenant ns f w).tenants + option_map_or gone (get w.tenants ns) 0 ≡ sum_rows names one_name part w.tenants
world_less part w ns f gone less = by (get w.tenants ns) refl
  where
    by : (r : Option Tenant) → get w.tenants ns ≡ r →
        sum_rows names one_name part (option_map_or (λ t. put_tenant ns (f t) w) r w).tenants + option_map_or gone r 0 ≡ sum_rows names one_name part w.tenants
    by None is = omega arith
    by (Some t) is =
        let put = sum_set names one_name part w.tenants ns (f t) in
        let old : option_map_or (part ns) (get w.tenants ns) 0 ≡ part ns t = ap (λ r. option_map_or (part ns) r 0) is in
        let here = less t in
        omega (arith, put, old, here)

-- an allocation that is not live after it takes no more
module _ (amount : Resources → ℕ) (n : ℕ) (g : Allocation → Allocation) (ended : (a : Allocation) → is_live (g a) ≡ false) (w : World) (ns : Name) where
  pub node_less : (pool node : Name) →
      node_sum (change_tenant ns (with_row n g) w) pool node amount + node_part w pool node amount (ns, n) ≡ node_sum w pool node amount
  unfolding node_sum
  node_less pool node = world_less (λ _ t. tenant_sum (is_live_on pool node) amount t) w ns (with_row n g) (λ t. size_at (is_live_on pool node) amount t n)
      (λ t. tenant_less (is_live_on pool node) amount t n g (λ a. ap (λ b. b && (same_name pool (g a).pool && same_name node (g a).node)) (ended a)))

  pub quota_less : (quota : Name) → quota_sum (change_tenant ns (with_row n g) w) quota amount + quota_part w quota amount (ns, n) ≡ quota_sum w quota amount
  unfolding quota_sum
  quota_less quota = world_less (λ _ t. cond (names_quota quota t.namespace) (tenant_sum is_live amount t) 0) w ns (with_row n g)
      (λ t. cond (names_quota quota t.namespace) (size_at is_live amount t n) 0)
      (λ t. subst (λ m. cond (names_quota quota m) (tenant_sum is_live amount (with_row n g t)) 0 + cond (names_quota quota t.namespace)
      (size_at is_live amount t n) 0 ≡ cond (names_quota quota t.namespace) (tenant_sum is_live amount t) 0)
      (sym (same_record t (get t.allocations n))) (named t (names_quota quota t.namespace)))
    where
      same_record : (t : Tenant) (r : Option Allocation) →
          (option_map_or (λ a. record t { allocations = insert t.allocations n (g a) }) r t).namespace ≡ t.namespace
      same_record t None = refl
      same_record t (Some a) = refl

      named : (t : Tenant) (b : Bool) →
          cond b (tenant_sum is_live amount (with_row n g t)) 0 + cond b (size_at is_live amount t n) 0 ≡ cond b (tenant_sum is_live amount t) 0
      named t true = tenant_less is_live amount t n g ended
      named t false = refl
