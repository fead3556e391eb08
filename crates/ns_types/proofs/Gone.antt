-- Allocations that end: row after row, or all of a table at once, and what that takes from nodes and quotas.
use Rattle.std.specs.Prelude.{◌≡◌, ℕ, ◌+◌, Bool, true, false, cond, List, [], ◌∷◌, Option, Some, None, ◌&&◌, ◌||◌, option_map, fold, map, sum_by}
use Rattle.std.proofs.Common.{refl, sym, ap, ◌∙◌, arith}
use Rattle.std.proofs.lemmas.List.Sums.{sum_by-cons}
use Rattle.std.specs.Option.{option_map_or}
use Rattle.std.specs.Cmp.{IsTotalOrder}
use Rattle.std.specs.FinMap.{FinMap, IsAntisymmetric, get, get-insert, insert, same_map}
use Rattle.std.specs.Ordering.{eq_by_cmp}
use Rattle.std.specs.declared.cmp.Ordering.{Ordering}
use Rattle.ns_types.specs.declared.allocation.Allocation.{Allocation}
use Rattle.ns_types.specs.declared.allocation.DesiredStatus.TheVariants as desires
use Rattle.ns_types.specs.declared.plan.Eviction.{Eviction}
use Rattle.ns_types.specs.declared.resources.Resources.{Resources}
use Rattle.ns_types.specs.Working.Commit.{evict_all, stop_all, victim_key}
use Rattle.ns_types.specs.State.Lists.{Each}
use Rattle.ns_types.specs.Settling.Gone.{gone_in, gone_row, row_gone, rows_gone, with_row}
use Rattle.ns_types.specs.Settling.Making.{change_tenant, put_tenant, with_desired}
use Rattle.ns_types.specs.State.Names.{Name, Key, ByName, ByNumber, same_name, same_number, same_key, has_key}
use Rattle.ns_types.specs.State.Rows.{World, Tenant, is_live, is_live_on}
use Rattle.ns_types.specs.State.Sums.{node_sum, quota_sum, names_quota}
use Rattle.ns_types.specs.State.Tables.{map_rows}
use Rattle.ns_types.proofs.Named.{names, one_name, numbers, one_number}
use Rattle.ns_types.proofs.Tables.{get-map_rows, insert_same, map_rows_idle, tied}
use Rattle.ns_types.proofs.Once.{AllApart}
use Rattle.ns_types.proofs.TableRows.{get_put}
use Rattle.ns_types.proofs.Taken.{node_part, quota_part, row_size, size_at, node_less, quota_less}

abbrev pub evicted_row : Allocation → Allocation
evicted_row a = record a { desired = desires.Evict }

abbrev pub stopped_row : Allocation → Allocation
stopped_row a = record a { desired = desires.Stop }

-- what goes, one after another: a key that comes again takes nothing
abbrev pub parts_gone : (World → Key → ℕ) → (Allocation → Allocation) → World → List Key → ℕ
parts_gone part g w [] = 0
parts_gone part g w (key ∷ keys) = part w key + parts_gone part g (row_gone g w key) keys

-- one row is changed, and then the others
module _ (g : Allocation → Allocation) (idle : (a : Allocation) → g (g a) ≡ g a) (key : Key) (keys : List Key) where
  twice : (b : Bool) (a : Allocation) → cond b (g (g a)) (g a) ≡ g a
  twice true a = idle a
  twice false a = refl

  no_namespace : (ns : Name) → same_name ns key.0 ≡ false → (n : ℕ) (e : Allocation) → gone_row g keys ns n e ≡ gone_row g (key ∷ keys) ns n e
  no_namespace ns other n e = ap (λ b. cond ((b && same_number n key.1) || has_key keys (ns, n)) (g e) e) (sym other)

  other_tenant : (ns : Name) (t : Tenant) → same_name ns key.0 ≡ false → gone_in g keys ns t ≡ gone_in g (key ∷ keys) ns t
  other_tenant ns t other i = record t { allocations = map_rows (λ n e. no_namespace ns other n e i) t.allocations }

  own_rows : (m : ByNumber Allocation) (ns : Name) → same_name ns key.0 ≡ true → (r : Option Allocation) → get m key.1 ≡ r
      → map_rows (gone_row g keys ns) (option_map_or (λ e. insert m key.1 (g e)) r m) ≡ map_rows (gone_row g (key ∷ keys) ns) m
  own_rows m ns own r is =
      same_map numbers one_number _ _
      (λ q. get-map_rows numbers one_number (gone_row g keys ns) _ q ∙ by r is q (same_number q key.1) refl
      ∙ sym (get-map_rows numbers one_number (gone_row g (key ∷ keys) ns) m q))
    where
      here : (q : ℕ) (b : Bool) → same_number q key.1 ≡ b → (e : Allocation) → gone_row g (key ∷ keys) ns q e ≡ cond (b || has_key keys (ns, q)) (g e) e
      here q b t e = λ i. cond ((own i && t i) || has_key keys (ns, q)) (g e) e

      by : (r : Option Allocation) → get m key.1 ≡ r → (q : ℕ) (b : Bool) → same_number q key.1 ≡ b
          → option_map (gone_row g keys ns q) (get (option_map_or (λ e. insert m key.1 (g e)) r m) q) ≡ option_map (gone_row g (key ∷ keys) ns q) (get m q)
      by None is q true t = ap (option_map (gone_row g keys ns q)) (ap (get m) (tied one_number q key.1 t) ∙ is)
          ∙ ap (option_map (gone_row g (key ∷ keys) ns q)) (sym (ap (get m) (tied one_number q key.1 t) ∙ is))
      by None is q false t = λ i. option_map (λ e. sym (here q false t e) i) (get m q)
      by (Some e) is q true t = ap (option_map (gone_row g keys ns q)) (get-insert numbers m key.1 (g e) q ∙ ap (λ b. cond b (Some (g e)) (get m q)) t)
          ∙ ap Some (twice (has_key keys (ns, q)) e) ∙ ap Some (sym (here q true t e))
          ∙ ap (option_map (gone_row g (key ∷ keys) ns q)) (sym (ap (get m) (tied one_number q key.1 t) ∙ is))
      by (Some e) is q false t = ap (option_map (gone_row g keys ns q)) (get-insert numbers m key.1 (g e) q ∙ ap (λ b. cond b (Some (g e)) (get m q)) t)
          ∙ (λ i. option_map (λ e. sym (here q false t e) i) (get m q))

  own_tenant : (ns : Name) (t : Tenant) → same_name ns key.0 ≡ true → gone_in g keys ns (with_row key.1 g t) ≡ gone_in g (key ∷ keys) ns t
  own_tenant ns t own = by (get t.allocations key.1) refl
    where
      by : (r : Option Allocation) → get t.allocations key.1 ≡ r →
          gone_in g keys ns (option_map_or (λ e. record t { allocations = insert t.allocations key.1 (g e) }) r t) ≡ gone_in g (key ∷ keys) ns t
      by None is i = record t { allocations = own_rows t.allocations ns own None is i }
      by (Some e) is i = record t { allocations = own_rows t.allocations ns own (Some e) is i }

  tenants_then : (w : World) → map_rows (gone_in g keys) (row_gone g w key).tenants ≡ map_rows (gone_in g (key ∷ keys)) w.tenants
  tenants_then w = same_map names one_name _ _
      (λ ns. get-map_rows names one_name (gone_in g keys) _ ns ∙ by (get w.tenants key.0) refl ns (same_name ns key.0) refl
      ∙ sym (get-map_rows names one_name (gone_in g (key ∷ keys)) w.tenants ns))
    where
      other : (ns : Name) → same_name ns key.0 ≡ false → (r : Option Tenant) → option_map (gone_in g keys ns) r ≡ option_map (gone_in g (key ∷ keys) ns) r
      other ns t None = refl
      other ns t (Some x) = ap Some (other_tenant ns x t)

      by : (r : Option Tenant) → get w.tenants key.0 ≡ r → (ns : Name) (b : Bool) → same_name ns key.0 ≡ b
          → option_map (gone_in g keys ns) (get (option_map_or (λ t. put_tenant key.0 (with_row key.1 g t) w) r w).tenants ns)
          ≡ option_map (gone_in g (key ∷ keys) ns) (get w.tenants ns)
      by None is ns true t = ap (option_map (gone_in g keys ns)) (ap (get w.tenants) (tied one_name ns key.0 t) ∙ is)
          ∙ ap (option_map (gone_in g (key ∷ keys) ns)) (sym (ap (get w.tenants) (tied one_name ns key.0 t) ∙ is))
      by None is ns false t = other ns t (get w.tenants ns)
      by (Some x) is ns true t =
          ap (option_map (gone_in g keys ns))
          (get-insert names w.tenants key.0 (with_row key.1 g x) ns ∙ ap (λ b. cond b (Some (with_row key.1 g x)) (get w.tenants ns)) t)
          ∙ ap Some (own_tenant ns x t) ∙ ap (option_map (gone_in g (key ∷ keys) ns)) (sym (ap (get w.tenants) (tied one_name ns key.0 t) ∙ is))
      by (Some x) is ns false t =
          ap (option_map (gone_in g keys ns))
          (get-insert names w.tenants key.0 (with_row key.1 g x) ns ∙ ap (λ b. cond b (Some (with_row key.1 g x)) (get w.tenants ns)) t)
          ∙ other ns t (get w.tenants ns)

  -- a change of a row leaves all but its namespace
  others_then : (w : World) (m : ByName Tenant) → record (row_gone g w key) { tenants = m } ≡ record w { tenants = m }
  others_then w m = by (get w.tenants key.0)
    where
      by : (r : Option Tenant) → record (option_map_or (λ t. put_tenant key.0 (with_row key.1 g t) w) r w) { tenants = m } ≡ record w { tenants = m }
      by None = refl
      by (Some t) = refl

pub gone_all : (g : Allocation → Allocation) (idle : (a : Allocation) → g (g a) ≡ g a) (keys : List Key) (w : World) →
    rows_gone g w keys ≡ record w { tenants = map_rows (gone_in g keys) w.tenants }
gone_all g idle [] w = λ i. record w {
  tenants =
      sym (map_rows_idle names one_name (gone_in g []) w.tenants
      (λ ns t _ i. record t { allocations = map_rows_idle numbers one_number (λ _ a. a) t.allocations (λ _ _ _. refl) i })) i;
}
gone_all g idle (key ∷ keys) w = gone_all g idle keys (row_gone g w key) ∙ others_then g idle key keys w _
    ∙ (λ i. record w { tenants = tenants_then g idle key keys w i })

-- ---- what goes from nodes and quotas

module _ (amount : Resources → ℕ) (g : Allocation → Allocation) (ended : (a : Allocation) → is_live (g a) ≡ false) where
  pub node_gone : (pool node : Name) (keys : List Key) (w : World) →
      node_sum (rows_gone g w keys) pool node amount + parts_gone (λ w. node_part w pool node amount) g w keys ≡ node_sum w pool node amount
  node_gone pool node [] w = omega arith
  node_gone pool node (key ∷ keys) w =
      let later = node_gone pool node keys (row_gone g w key) in
      let here = node_less amount key.1 g ended w key.0 pool node in
      omega (arith, later, here)

  pub quota_gone : (quota : Name) (keys : List Key) (w : World) →
      quota_sum (rows_gone g w keys) quota amount + parts_gone (λ w. quota_part w quota amount) g w keys ≡ quota_sum w quota amount
  quota_gone quota [] w = omega arith
  quota_gone quota (key ∷ keys) w =
      let later = quota_gone quota keys (row_gone g w key) in
      let here = quota_less amount key.1 g ended w key.0 quota in
      omega (arith, later, here)

-- ---- where no key comes twice

-- a namespace's record, and another row of it, stay
module _ (g : Allocation → Allocation) (w : World) (key k : Key) (other : same_key k key ≡ false) where
  kept_row : (t : Tenant) → same_name k.0 key.0 ≡ true → get (with_row key.1 g t).allocations k.1 ≡ get t.allocations k.1
  kept_row t own = by (get t.allocations key.1)
    where
      apart : same_number k.1 key.1 ≡ false
      apart = ap (λ b. b && same_number k.1 key.1) (sym own) ∙ other

      by : (r : Option Allocation) →
          get (option_map_or (λ a. record t { allocations = insert t.allocations key.1 (g a) }) r t).allocations k.1 ≡ get t.allocations k.1
      by None = refl
      by (Some a) = get-insert numbers t.allocations key.1 (g a) k.1 ∙ ap (λ b. cond b (Some (g a)) (get t.allocations k.1)) apart

  kept_record : (t : Tenant) → (with_row key.1 g t).namespace ≡ t.namespace
  kept_record t = by (get t.allocations key.1)
    where
      by : (r : Option Allocation) → (option_map_or (λ a. record t { allocations = insert t.allocations key.1 (g a) }) r t).namespace ≡ t.namespace
      by None = refl
      by (Some a) = refl

  -- what is asked of the record and of one row
  pub part_kept : (f : Name → Tenant → ℕ) → ((t u : Tenant) → t.namespace ≡ u.namespace → get t.allocations k.1 ≡ get u.allocations k.1 → f k.0 t ≡ f k.0 u)
      → option_map_or (f k.0) (get (row_gone g w key).tenants k.0) 0 ≡ option_map_or (f k.0) (get w.tenants k.0) 0
  part_kept f alike = by (get w.tenants key.0) refl (same_name k.0 key.0) refl
    where
      by : (o : Option Tenant) → get w.tenants key.0 ≡ o → (b : Bool) → same_name k.0 key.0 ≡ b
          → option_map_or (f k.0) (get (option_map_or (λ t. put_tenant key.0 (with_row key.1 g t) w) o w).tenants k.0) 0
          ≡ option_map_or (f k.0) (get w.tenants k.0) 0
      by None is b own = refl
      by (Some t) is true own =
          ap (λ r. option_map_or (f k.0) r 0)
          (get-insert names w.tenants key.0 (with_row key.1 g t) k.0 ∙ ap (λ b. cond b (Some (with_row key.1 g t)) (get w.tenants k.0)) own)
          ∙ alike (with_row key.1 g t) t (kept_record t) (kept_row t own)
          ∙ ap (λ r. option_map_or (f k.0) r 0) (sym (ap (get w.tenants) (tied one_name k.0 key.0 own) ∙ is))
      by (Some t) is false own =
          ap (λ r. option_map_or (f k.0) r 0)
          (get-insert names w.tenants key.0 (with_row key.1 g t) k.0 ∙ ap (λ b. cond b (Some (with_row key.1 g t)) (get w.tenants k.0)) own)

-- parts that are not of the row that goes
abbrev pub KeepsApart : (World → Key → ℕ) → (Allocation → Allocation) → Type 0
KeepsApart part g = (w : World) (key k : Key) → same_key k key ≡ false → part (row_gone g w key) k ≡ part w k

pub node_apart : (pool node : Name) (amount : Resources → ℕ) (g : Allocation → Allocation) → KeepsApart (λ w. node_part w pool node amount) g
node_apart pool node amount g w key k other =
    part_kept g w key k other (λ _ t. size_at (is_live_on pool node) amount t k.1)
    (λ t u _ rows. ap (λ r. option_map_or (row_size (is_live_on pool node) amount) r 0) rows)

pub quota_apart : (quota : Name) (amount : Resources → ℕ) (g : Allocation → Allocation) → KeepsApart (λ w. quota_part w quota amount) g
quota_apart quota amount g w key k other = part_kept g w key k other (λ _ t. cond (names_quota quota t.namespace) (size_at is_live amount t k.1) 0)
    (λ t u records rows i. cond (names_quota quota (records i)) (option_map_or (row_size is_live amount) (rows i) 0) 0)

module _ (part : World → Key → ℕ) (g : Allocation → Allocation) (keeps : KeepsApart part g) where
  parts_same : (w : World) (key : Key) (keys : List Key) → Each (λ k. same_key k key ≡ false) keys →
      sum_by (part (row_gone g w key)) keys ≡ sum_by (part w) keys
  parts_same w key [] h = refl
  parts_same w key (k ∷ keys) h =
      let after = sum_by-cons (part (row_gone g w key)) k keys in
      let before = sum_by-cons (part w) k keys in
      let here = keeps w key k h.0 in
      let later = parts_same w key keys h.1 in
      omega (arith, after, before, here, later)

  -- each takes what it took at first
  pub parts_apart : (keys : List Key) → AllApart keys → (w : World) → parts_gone part g w keys ≡ sum_by (part w) keys
  parts_apart [] h w = refl
  parts_apart (key ∷ keys) h w =
      let later = parts_apart keys h.1 (row_gone g w key) in
      let same = parts_same w key keys h.0 in
      let whole = sum_by-cons (part w) key keys in
      omega (arith, later, same, whole)

-- ---- stops and victims

fold_keys : {A : Type 0} (f : World → Key → World) (h : A → Key) (xs : List A) (w : World) → fold (λ w x. f w (h x)) w xs ≡ fold f w (map h xs)
fold_keys f h [] w = refl
fold_keys f h (x ∷ xs) w = fold_keys f h xs (f w (h x))

pub evicted_are : (vs : List Eviction) (w : World) → evict_all w vs ≡ rows_gone evicted_row w (map victim_key vs)
evicted_are vs w = fold_keys (row_gone evicted_row) victim_key vs w

module _ {K X : Type 0} {R : K → K → Ordering} (o : IsTotalOrder R) (same : IsAntisymmetric R) where
  pub insert_twice : (m : FinMap R X) (k : K) (u v : X) → insert (insert m k u) k v ≡ insert m k v
  insert_twice m k u v = same_map o same _ _ (λ q. get-insert o (insert m k u) k v q ∙ ap (cond (eq_by_cmp R q k) (Some v)) (get-insert o m k u q) ∙
      by (eq_by_cmp R q k) (get m q) ∙ sym (get-insert o m k v q))
    where
      by : (b : Bool) (r : Option X) → cond b (Some v) (cond b (Some u) r) ≡ cond b (Some v) r
      by true r = refl
      by false r = refl

-- a namespace changed twice
pub change_twice : (ns : Name) (f h : Tenant → Tenant) (w : World) → change_tenant ns h (change_tenant ns f w) ≡ change_tenant ns (λ t. h (f t)) w
change_twice ns f h w = by (get w.tenants ns) refl
  where
    by : (o : Option Tenant) → get w.tenants ns ≡ o →
        change_tenant ns h (option_map_or (λ t. put_tenant ns (f t) w) o w) ≡ option_map_or (λ t. put_tenant ns (h (f t)) w) o w
    by None is = ap (λ o. option_map_or (λ t. put_tenant ns (h t) w) o w) is
    by (Some t) is = ap (λ o. option_map_or (λ u. put_tenant ns (h u) (put_tenant ns (f t) w)) o (put_tenant ns (f t) w))
        (get_put names one_name w.tenants ns (f t))
        ∙ (λ i. record w { tenants = insert_twice names one_name w.tenants ns (f t) (h (f t)) i })

pub change_same : (ns : Name) (w : World) → change_tenant ns (λ t. t) w ≡ w
change_same ns w = by (get w.tenants ns) refl
  where
    by : (o : Option Tenant) → get w.tenants ns ≡ o → option_map_or (λ t. put_tenant ns t w) o w ≡ w
    by None is = refl
    by (Some t) is = λ i. record w { tenants = insert_same names one_name w.tenants ns t is i }

-- one by one, or all in one
pub change_each : {A : Type 0} (ns : Name) (f : Tenant → A → Tenant) (xs : List A) (w : World) →
    change_tenant ns (λ t. fold f t xs) w ≡ fold (λ w x. change_tenant ns (λ t. f t x) w) w xs
change_each ns f [] w = change_same ns w
change_each ns f (x ∷ xs) w = sym (change_twice ns (λ t. f t x) (λ t. fold f t xs) w) ∙ change_each ns f xs (change_tenant ns (λ t. f t x) w)

pub stopped_are : (ns : Name) (stops : List ℕ) (w : World) → stop_all ns stops w ≡ rows_gone stopped_row w (map (λ n. (ns, n)) stops)
stopped_are ns stops w = change_each ns (λ t n. with_desired n desires.Stop t) stops w ∙ fold_keys (row_gone stopped_row) (λ n. (ns, n)) stops w
