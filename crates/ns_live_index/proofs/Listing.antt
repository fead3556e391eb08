-- The rows of a node's keys are its live allocations, in the order of the keys.
use Rattle.std.specs.Prelude.{◌≡◌, ℕ, Bool, true, false, ◌&&◌, List, [], ◌∷◌, ◌++◌, Option, Some, None, filter, flat_map, is_some, map}
use Rattle.std.proofs.Common.{refl, sym, ap, ◌∙◌}
use Rattle.std.proofs.lemmas.List.{map-append}
use Rattle.std.proofs.Math.Bool.{and-true}
use Rattle.std.specs.declared.cmp.Ordering.{Ordering}
use Rattle.std.specs.Cmp.{IsTotalOrder, tied_itself}
use Rattle.std.specs.Ordering.{eq_by_cmp, is_eq}
use Rattle.std.specs.FinMap.{FinMap, IsAntisymmetric, contains_key, empty, entries, from_entries, get, keys, retain_keys, values}
use Rattle.std.specs.List.{list_any}
use Rattle.std.specs.Option.{option_and_then, option_map_or}
use Rattle.keyed.specs.Table.{row_at, row_list, rows, with_row}
use Rattle.keyed.proofs.Tables.{get-rows, rows-empty}
use Rattle.ns_types.specs.declared.allocation.Allocation.{Allocation}
use Rattle.ns_types.specs.Asking.Nodes.{losing_jobs, losses}
use Rattle.ns_types.specs.State.Lists.{Each}
use Rattle.ns_types.specs.State.Names.{Name, Key, ByNumber, has_key, has_number, name_cmp, same_key, same_name, same_number}
use Rattle.ns_types.specs.State.Rows.{World, Tenant, allocation_at, is_live_on}
use Rattle.ns_types.specs.State.Tables.{any_row}
use Rattle.ns_types.specs.Working.Snapshot.{allocations_on}
use Rattle.ns_types.proofs.Lists.{filter_all, filter_none}
use Rattle.ns_types.proofs.Named.{names, numbers, one_name, one_number}
use Rattle.ns_types.proofs.TableRows.{entries_empty, some_row}
use Rattle.ns_types.proofs.Tests.{not_Some, same_Some}
use Rattle.ns_types.proofs.Elements.{any_flat, any_map, any_same, any_under}
use Rattle.ns_types.proofs.Tables.{any_row-none, chosen, each_row, filter-retain, flat_map-retain, tied}
use Rattle.keyed.specs.declared.key_set.KeySet.{KeySet}
use Rattle.keyed.specs.Levels.{holds_key, holds_number}
use Rattle.ns_live_index.specs.Listed.{found_at, keys_in}
use Rattle.keyed.proofs.Levels.{none_there, says_nothing}
use Rattle.keyed.proofs.RowsAtKeys.{entries_looked}
use Rattle.keyed.proofs.Values.{row_there}

-- ---- lists

module _ {K X C : Type 0} (look : K → Option X) where
  found_row_list : (es : List (K × C)) → row_list (map (λ e. (e.0, look e.0)) es) ≡ found_at look (map (λ (e : K × C). e.0) es)
  found_row_list [] = refl
  found_row_list (e ∷ es) = ap (λ l. with_row e.0 (look e.0) l) (found_row_list es)

  flat_looked : {Y : Type 0} (g : K → X → List Y) (es : List (K × C)) →
      flat_map (λ e. g e.0 e.1) (row_list (map (λ e. (e.0, look e.0)) es)) ≡ flat_map (λ e. option_map_or (g e.0) (look e.0) []) es
  flat_looked g [] = refl
  flat_looked g (e ∷ es) = by (look e.0) (flat_looked g es)
    where
      by : (r : Option X) → flat_map (λ e. g e.0 e.1) (row_list (map (λ e. (e.0, look e.0)) es)) ≡ flat_map (λ e. option_map_or (g e.0) (look e.0) []) es
          → flat_map (λ e. g e.0 e.1) (with_row e.0 r (row_list (map (λ e. (e.0, look e.0)) es)))
          ≡ option_map_or (g e.0) r [] ++ flat_map (λ e. option_map_or (g e.0) (look e.0) []) es
      by None later = later
      by (Some x) later = ap (λ l. g e.0 x ++ l) later

module _ {K X C : Type 0} {R : K → K → Ordering} (o : IsTotalOrder R) (same : IsAntisymmetric R) (m : FinMap R X) (c : FinMap R C) where
  -- where just the rows at these keys pass, they are what is found there
  pub filter_at_keys : (f : K → X → Bool) → ((k : K) (x : X) → get m k ≡ Some x → f k x ≡ contains_key c k) →
      filter (λ e. f e.0 e.1) (entries m) ≡ found_at (get m) (keys c)
  filter_at_keys f passes = filter-retain o same f m (contains_key c) (λ k x is out. passes k x is ∙ out)
      ∙ filter_all (λ e. f e.0 e.1) (entries (retain_keys m (contains_key c))) (each_row o same (λ k x. f k x ≡ true) (retain_keys m (contains_key c))
      (λ k x is. let at = chosen o same m (contains_key c) k x is in passes k x at.0 ∙ at.1))
      ∙ entries_looked o same m c ∙ found_row_list (get m) (entries c)

  -- where rows at other keys make nothing, the rows at these keys are asked
  pub flat_at_keys : {Y : Type 0} (g : K → X → List Y) → ((k : K) (x : X) → get m k ≡ Some x → contains_key c k ≡ false → g k x ≡ [])
      → flat_map (λ e. g e.0 e.1) (entries m) ≡ flat_map (λ e. option_map_or (g e.0) (get m e.0) []) (entries c)
  flat_at_keys g idle = flat_map-retain o same g m (contains_key c) idle ∙ ap (flat_map (λ e. g e.0 e.1)) (entries_looked o same m c)
      ∙ flat_looked (get m) g (entries c)

module _ {K X : Type 0} (look : K → Option X) where
  found_append : (xs ys : List K) → found_at look (xs ++ ys) ≡ found_at look xs ++ found_at look ys
  found_append [] ys = refl
  found_append (x ∷ xs) ys = by (look x) (found_append xs ys)
    where
      by : (r : Option X) → found_at look (xs ++ ys) ≡ found_at look xs ++ found_at look ys
          → with_row x r (found_at look (xs ++ ys)) ≡ with_row x r (found_at look xs) ++ found_at look ys
      by None later = later
      by (Some v) later = ap (λ l. (x, v) ∷ l) later

  found_flat : {A Y : Type 0} (show : K × X → Y) (f : A → List K) (xs : List A) →
      map show (found_at look (flat_map f xs)) ≡ flat_map (λ a. map show (found_at look (f a))) xs
  found_flat show f [] = refl
  found_flat show f (a ∷ xs) = ap (map show) (found_append (f a) (flat_map f xs)) ∙ map-append show (found_at look (f a)) (found_at look (flat_map f xs))
      ∙ ap (λ l. map show (found_at look (f a)) ++ l) (found_flat show f xs)

pub flat_alike : {A Y : Type 0} (f g : A → List Y) (xs : List A) → Each (λ a. f a ≡ g a) xs → flat_map f xs ≡ flat_map g xs
flat_alike f g [] h = refl
flat_alike f g (a ∷ xs) h = λ i. h.0 i ++ flat_alike f g xs h.1 i

-- ---- a node's live allocations

abbrev pub shown : Key × Allocation → Name × (ℕ × Allocation)
shown found = (found.0.0, (found.0.1, found.1))

-- the allocations of all namespaces that pass a test
abbrev pub passing : World → (Allocation → Bool) → List (Name × (ℕ × Allocation))
passing w passes = flat_map (λ t. map (λ a. (t.0, a)) (filter (λ a. passes a.1) (entries t.1.allocations))) (entries w.tenants)

module _ (w : World) (passes : Allocation → Bool) (held : KeySet)
    (right : (key : Key) → holds_key held key ≡ option_map_or passes (allocation_at w key) false) where
  at_row : (ns : Name) (t : Tenant) (n : ℕ) (row : Allocation) → get w.tenants ns ≡ Some t → get t.allocations n ≡ Some row →
      holds_key held (ns, n) ≡ passes row
  at_row ns t n row at there = right (ns, n) ∙ ap (λ r. option_map_or passes r false)
      (ap (option_and_then (λ (x : Tenant). get x.allocations n)) at ∙ there)

  -- of a namespace, at its numbers
  pub live_rows : (ns : Name) (t : Tenant) (its : ByNumber (Option Unit)) → get w.tenants ns ≡ Some t → row_at held.numbers ns ≡ Some its →
      filter (λ a. passes a.1) (entries t.allocations) ≡ found_at (get t.allocations) (keys (rows its))
  live_rows ns t its at is = filter_at_keys numbers one_number t.allocations (rows its) (λ _ row. passes row)
      (λ n row there. sym (at_row ns t n row at there) ∙ ap (λ r. option_map_or (λ (s : ByNumber (Option Unit)). is_some (row_at s n)) r false) is
      ∙ ap is_some (sym (get-rows numbers its n)))

  -- a namespace without keys has none
  no_rows : (ns : Name) (t : Tenant) → get w.tenants ns ≡ Some t → contains_key (rows held.numbers) ns ≡ false →
      filter (λ a. passes a.1) (entries t.allocations) ≡ []
  no_rows ns t at out = filter_none (λ a. passes a.1) (entries t.allocations)
      (each_row numbers one_number (λ _ row. passes row ≡ false) t.allocations
      (λ n row there. sym (at_row ns t n row at there) ∙ ap (λ r. option_map_or (λ (s : ByNumber (Option Unit)). is_some (row_at s n)) r false)
      (sym (get-rows names held.numbers ns) ∙ none_there (get (rows held.numbers) ns) out)))

  -- those that pass are the rows at its keys, in the order of the keys: no other row is looked at
  pub passing_are : passing w passes ≡ map shown (found_at (allocation_at w) (keys_in held))
  passing_are = flat_at_keys names one_name w.tenants (rows held.numbers)
      (λ ns t. map (λ a. (ns, a)) (filter (λ a. passes a.1) (entries t.allocations)))
      (λ ns t at out. ap (map (λ a. (ns, a))) (no_rows ns t at out))
      ∙ flat_alike (λ e. option_map_or (λ (t : Tenant). map (λ a. (e.0, a)) (filter (λ a. passes a.1) (entries t.allocations)))
      (get w.tenants e.0) []) (λ e. map shown (found_at (allocation_at w) (map (λ n. (e.0, n)) (keys (rows e.1))))) (entries (rows held.numbers))
      (each_row names one_name (λ ns its. option_map_or (λ (t : Tenant). map (λ a. (ns, a)) (filter (λ a. passes a.1) (entries t.allocations)))
      (get w.tenants ns) [] ≡ map shown (found_at (allocation_at w) (map (λ n. (ns, n)) (keys (rows its))))) (rows held.numbers)
      (λ ns its is. by ns its (sym (get-rows names held.numbers ns) ∙ is) (get w.tenants ns) refl))
      ∙ sym (found_flat (allocation_at w) shown (λ e. map (λ n. (e.0, n)) (keys (rows e.1))) (entries (rows held.numbers)))
    where
      nowhere : (ns : Name) → get w.tenants ns ≡ None → (ns' : List ℕ) → found_at (allocation_at w) (map (λ n. (ns, n)) ns') ≡ []
      nowhere ns at [] = refl
      nowhere ns at (n ∷ more) = ap (λ (r : Option Tenant). with_row (ns, n) (option_and_then (λ (t : Tenant). get t.allocations n) r)
          (found_at (allocation_at w) (map (λ n. (ns, n)) more))) at ∙ nowhere ns at more

      there : (ns : Name) (t : Tenant) → get w.tenants ns ≡ Some t → (ns' : List ℕ) →
          map (λ a. (ns, a)) (found_at (get t.allocations) ns') ≡ map shown (found_at (allocation_at w) (map (λ n. (ns, n)) ns'))
      there ns t at [] = refl
      there ns t at (n ∷ more) = one (get t.allocations n) (there ns t at more)
          ∙ ap (λ (r : Option Tenant). map shown (with_row (ns, n) (option_and_then (λ (t : Tenant). get t.allocations n) r)
          (found_at (allocation_at w) (map (λ n. (ns, n)) more)))) (sym at)
        where
          one : (r : Option Allocation) → map (λ a. (ns, a)) (found_at (get t.allocations) more) ≡ map shown
              (found_at (allocation_at w) (map (λ n. (ns, n)) more)) → map (λ a. (ns, a)) (with_row n r (found_at (get t.allocations) more))
              ≡ map shown (with_row (ns, n) r (found_at (allocation_at w) (map (λ n. (ns, n)) more)))
          one None later = later
          one (Some row) later = ap (λ l. (ns, (n, row)) ∷ l) later

      by : (ns : Name) (its : ByNumber (Option Unit)) → row_at held.numbers ns ≡ Some its → (r : Option Tenant) → get w.tenants ns ≡ r
          → option_map_or (λ (t : Tenant). map (λ a. (ns, a)) (filter (λ a. passes a.1) (entries t.allocations))) r []
          ≡ map shown (found_at (allocation_at w) (map (λ n. (ns, n)) (keys (rows its))))
      by ns its is None at = sym (ap (map shown) (nowhere ns at (keys (rows its))))
      by ns its is (Some t) at = ap (map (λ a. (ns, a))) (live_rows ns t its at is) ∙ there ns t at (keys (rows its))

module _ (w : World) (pool node : Name) (held : KeySet)
    (right : (key : Key) → holds_key held key ≡ option_map_or (is_live_on pool node) (allocation_at w key) false) where
  -- the live allocations of the node
  pub allocations_are : allocations_on w pool node ≡ map shown (found_at (allocation_at w) (keys_in held))
  allocations_are = passing_are w (is_live_on pool node) held right

  -- no other namespace is looked at for the jobs that lose one with the node
  pub losses_are : losses pool node w ≡ flat_map (λ e. option_map_or (λ t. map (λ a. (e.0, a)) (losing_jobs pool node t)) (get w.tenants e.0) [])
      (entries (rows held.numbers))
  losses_are = flat_at_keys names one_name w.tenants (rows held.numbers) (λ ns t. map (λ a. (ns, a)) (losing_jobs pool node t))
      (λ ns t at out. ap (λ es. map (λ (a : Allocation). (ns, a))
      (values (from_entries {R = name_cmp} (map (λ a. (a.1.job, a.1)) es))))
      (no_rows w (is_live_on pool node) held right ns t at out)
      ∙ ap (map (λ (a : Allocation). (ns, a))) no_job)
    where
      no_job : values (from_entries {X = Allocation} {R = name_cmp} []) ≡ []
      no_job = ap (map (λ e. e.1)) (entries_empty {X = Allocation} names one_name)

-- where nothing is live
module _ (w : World) (pool node : Name) (none : (key : Key) → option_map_or (is_live_on pool node) (allocation_at w key) false ≡ false) where
  abbrev no_keys : KeySet
  no_keys = record { numbers = empty }

  right : (key : Key) → holds_key no_keys key ≡ option_map_or (is_live_on pool node) (allocation_at w key) false
  right key = says_nothing (λ (s : KeySet). s.numbers) holds_number no_keys refl key ∙ sym (none key)

  no_namespace : entries (rows no_keys.numbers) ≡ []
  no_namespace = ap entries rows-empty ∙ entries_empty names one_name

  pub no_allocations : allocations_on w pool node ≡ []
  no_allocations = allocations_are w pool node no_keys right
      ∙ ap (λ es. map shown (found_at (allocation_at w) (flat_map (λ e. map (λ n. (e.0, n)) (keys (rows e.1))) es))) no_namespace

  pub no_losses : losses pool node w ≡ []
  no_losses = losses_are w pool node no_keys right
      ∙ ap (flat_map (λ e. option_map_or (λ t. map (λ a. (e.0, a)) (losing_jobs pool node t)) (get w.tenants e.0) [])) no_namespace

-- ---- the keys in order

module _ {K X : Type 0} {R : K → K → Ordering} (o : IsTotalOrder R) (same : IsAntisymmetric R) (k : K) (f : X → Bool) where
  abbrev asks : K → X → Bool
  asks q x = eq_by_cmp R k q && f x

  -- what fails where the key is fails everywhere
  fails : (m : FinMap R X) → ((x : X) → get m k ≡ Some x → f x ≡ false) → any_row asks m ≡ false
  fails m none = any_row-none o same asks m (λ q x is. by q x is (eq_by_cmp R k q) refl)
    where
      by : (q : K) (x : X) → get m q ≡ Some x → (b : Bool) → eq_by_cmp R k q ≡ b → (eq_by_cmp R k q && f x) ≡ false
      by q x is true t = (λ i. t i && none x (ap (get m) (tied same k q t) ∙ is) i)
      by q x is false t = ap (λ b. b && f x) t

  -- a test that asks for one key asks the row there
  any_at : (m : FinMap R X) → list_any (λ e. eq_by_cmp R k e.0 && f e.1) (entries m) ≡ option_map_or f (get m k) false
  unfolding any_row
  any_at m = by (get m k) refl
    where
      at : (x : X) (b : Bool) → get m k ≡ Some x → f x ≡ b → any_row asks m ≡ b
      at x true is t = some_row o same asks m k x is (λ i. is_eq (tied_itself o k i) && t i)
      at x false is t = fails m (λ y it. ap f (same_Some y x (sym it ∙ is)) ∙ t)

      by : (r : Option X) → get m k ≡ r → any_row asks m ≡ option_map_or f r false
      by None is = fails m (λ x it. absurd (not_Some x (sym is ∙ it)))
      by (Some x) is = at x (f x) is refl

has_number-keys : {X : Type 0} (m : ByNumber X) (n : ℕ) → has_number (keys m) n ≡ contains_key m n
has_number-keys {X = X} m n = any_map (same_number n) (λ e. e.0) (entries m) ∙ any_same (λ e. same_number n e.0) (λ e. same_number n e.0 && true)
    (λ e. sym (and-true (same_number n e.0))) (entries m) ∙ any_at numbers one_number n (λ _. true) m ∙ row_there (get m n)

pub has_key-keys_in : (held : KeySet) (key : Key) → has_key (keys_in held) key ≡ holds_key held key
has_key-keys_in held key = any_flat (same_key key) (λ namespace. map (λ n. (namespace.0, n)) (keys (rows namespace.1))) (entries (rows held.numbers))
    ∙ any_same (λ e. list_any (same_key key) (map (λ n. (e.0, n)) (keys (rows e.1)))) (λ e. same_name key.0 e.0 && contains_key (rows e.1) key.1)
    (λ e. any_map (same_key key) (λ n. (e.0, n)) (keys (rows e.1)) ∙ any_under (same_name key.0 e.0) (same_number key.1) (keys (rows e.1))
    ∙ ap (λ b. same_name key.0 e.0 && b) (has_number-keys (rows e.1) key.1)) (entries (rows held.numbers))
    ∙ any_at names one_name key.0 (λ its. contains_key (rows its) key.1) (rows held.numbers)
    ∙ ap (λ r. option_map_or (λ its. contains_key (rows its) key.1) r false) (get-rows names held.numbers key.0)
    ∙ by (row_at held.numbers key.0)
  where
    by : (r : Option (ByNumber (Option Unit))) → option_map_or (λ its. contains_key (rows its) key.1) r false
        ≡ option_map_or (λ (its : ByNumber (Option Unit)). is_some (row_at its key.1)) r false
    by None = refl
    by (Some its) = ap is_some (get-rows numbers its key.1)

-- of the rows of a world the keys name those that are live on the node, and no others
pub live_set : (w : World) (pool node : Name) (held : KeySet) →
    ((key : Key) → holds_key held key ≡ option_map_or (is_live_on pool node) (allocation_at w key) false) →
    (ns : Name) (t : Tenant) (n : ℕ) (row : Allocation) → get w.tenants ns ≡ Some t → get t.allocations n ≡ Some row →
    has_key (keys_in held) (ns, n) ≡ is_live_on pool node row
live_set w pool node held right ns t n row at there = has_key-keys_in held (ns, n) ∙ at_row w (is_live_on pool node) held right ns t n row at there
