-- The row of a busy worker is the first of the rows that it has, by the names of their namespaces.
use Rattle.std.specs.Prelude.{◌≡◌, ℕ, Bool, true, false, cond, not, ◌||◌, List, [], ◌∷◌, map, Option, Some, None, find, is_some, option_map}
use Rattle.std.proofs.Common.{refl, ap, sym, ◌∙◌}
use Rattle.std.specs.List.{list_any}
use Rattle.std.specs.Option.{option_and_then, option_map_or}
use Rattle.std.specs.FinMap.{contains_key, entries, get, get-entries}
use Rattle.std.specs.FinMap.Entries as Entries
use Rattle.keyed.specs.Table.{flat, row_at, row_list, rows}
use Rattle.keyed.proofs.Over.{same_keys}
use Rattle.keyed.proofs.Tables.{entries-rows, get-rows}
use Rattle.ns_queues.specs.Busy.{IsBusyIndex, holds_name}
use Rattle.ns_queues.specs.declared.busy.BusyWorkers.{BusyWorkers}
use Rattle.ns_types.specs.State.Names.{ByName, Name, name_cmp}
use Rattle.ns_types.specs.State.Rows.{Tenant, World}
use Rattle.ns_types.specs.State.Tables.{any_row, table_of}
use Rattle.ns_types.specs.Working.Looks.{row_of, worker_at}
use Rattle.ns_types.specs.Working.Work.{is_idle}
use Rattle.ns_types.specs.Working.Worker.{Worker}
use Rattle.ns_types.proofs.Named.{names, one_name, same_name_refl}
use Rattle.ns_types.proofs.Tables.{entries-table_of, get-table_of}
use Rattle.ns_types.proofs.Tests.{not_Some, same_Some, some_mapped}

abbrev first_of : {A : Type 0} → List A → Option A
first_of [] = None
first_of (x ∷ xs) = Some x

first_map : {A B : Type 0} (f : A → B) (xs : List A) → first_of (map f xs) ≡ option_map f (first_of xs)
first_map f [] = refl
first_map f (x ∷ xs) = refl

-- the first entry stands at its key
first_there : {X : Type 0} (m : ByName X) (e : Name × X) → first_of (entries m) ≡ Some e → get m e.0 ≡ Some e.1
first_there {X = X} m e is = get-entries m e.0 ∙ by (entries m) is
  where
    by : (es : List (Name × X)) → first_of es ≡ Some e → Entries.find name_cmp e.0 es ≡ Some e.1
    by [] is = absurd (not_Some e is)
    by (f ∷ es) is = ap (λ k. Entries.find name_cmp k (f ∷ es)) (sym (ap (λ p. p.0) (same_Some f e is)))
        ∙ ap (λ b. cond b (Some f.1) (Entries.find name_cmp f.0 es)) (same_name_refl f.0) ∙ ap (λ p. Some p.1) (same_Some f e is)

-- the first slot with a row
first_row : {V : Type 0} (es : List (Name × Option V)) → option_map (λ e. e.0) (find (λ e. is_some e.1) es) ≡ option_map (λ e. e.0) (first_of (row_list es))
first_row [] = refl
first_row ((k, None) ∷ es) = first_row es
first_row ((k, Some v) ∷ es) = refl

module _ (w : World) (number : ℕ) where
  abbrev with_name : Name × Tenant → Option (Name × Worker)
  with_name t = option_map (λ worker. (t.0, worker)) (get t.1.workers number)

  abbrev is_busy : Name × Tenant → Bool
  is_busy t = contains_key t.1.workers number

  -- the worker's rows by namespace
  abbrev slots : ByName (Option Worker)
  slots = table_of (λ _ t. get t.workers number) w.tenants

  abbrev slot_of : Name × Tenant → Name × Option Worker
  slot_of t = (t.0, get t.1.workers number)

  found_among : (es : List (Name × Tenant)) → option_and_then with_name (find is_busy es) ≡ first_of (row_list (map slot_of es))
  found_among [] = refl
  found_among ((ns, t) ∷ es) = by (found_among es) (get t.workers number) refl
    where
      by : option_and_then with_name (find is_busy es) ≡ first_of (row_list (map slot_of es)) → (r : Option Worker) → get t.workers number ≡ r →
          option_and_then with_name (cond (is_some r) (Some (ns, t)) (find is_busy es)) ≡ first_of (row_list ((ns, r) ∷ map slot_of es))
      by rest None is = rest
      by rest (Some worker) is = ap (option_map (λ worker. (ns, worker))) is

  row_is : row_of w number ≡ first_of (entries (rows slots))
  row_is = found_among (entries w.tenants)
      ∙ ap (λ es. first_of (row_list es)) (sym (entries-table_of (λ (_ : Name) (t : Tenant). get t.workers number) w.tenants))
      ∙ ap first_of (sym (entries-rows slots))

  row_in : (ns : Name) → get (rows slots) ns ≡ worker_at w number ns
  row_in ns = get-rows names slots ns ∙ ap flat (get-table_of names one_name (λ _ t. get t.workers number) w.tenants ns) ∙ by (get w.tenants ns)
    where
      by : (r : Option Tenant) → flat (option_map (λ t. get t.workers number) r) ≡ option_and_then (λ t. get t.workers number) r
      by None = refl
      by (Some t) = refl

  -- the row that is found stands in its namespace
  pub row_there : (ns : Name) (worker : Worker) → row_of w number ≡ Some (ns, worker) → worker_at w number ns ≡ Some worker
  row_there ns worker is = sym (row_in ns) ∙ first_there (rows slots) (ns, worker) (sym row_is ∙ is)

  -- it can be found again by its namespace
  pub row_again : row_of w number
      ≡ option_and_then (λ ns. option_map (λ row. (ns, row)) (worker_at w number ns)) (option_map (λ r. r.0) (row_of w number))
  row_again = by (row_of w number) refl
    where
      by : (r : Option (Name × Worker)) → row_of w number ≡ r →
          r ≡ option_and_then (λ ns. option_map (λ row. (ns, row)) (worker_at w number ns)) (option_map (λ r. r.0) r)
      by None is = refl
      by (Some (ns, worker)) is = ap (option_map (λ row. (ns, row))) (sym (row_there ns worker is))

  any_among : (es : List (Name × Tenant)) → list_any is_busy es ≡ is_some (option_and_then with_name (find is_busy es))
  any_among [] = refl
  any_among ((ns, t) ∷ es) = by (any_among es) (get t.workers number) refl
    where
      by : list_any is_busy es ≡ is_some (option_and_then with_name (find is_busy es)) → (r : Option Worker) → get t.workers number ≡ r →
          (is_some r || list_any is_busy es) ≡ is_some (option_and_then with_name (cond (is_some r) (Some (ns, t)) (find is_busy es)))
      by rest None is = rest
      by rest (Some worker) is = sym (some_mapped (λ worker. (ns, worker)) (get t.workers number) ∙ ap is_some is)

  -- a worker is idle that has no row
  pub idle_is : is_idle w number ≡ not (is_some (row_of w number))
  unfolding any_row
  idle_is = ap not (any_among (entries w.tenants))

  -- ---- the namespace by the index

  -- where the names are those of the worker's rows, the first of them is that of its row
  first_named : (m : ByName (Option Unit)) → ((ns : Name) → holds_name m ns ≡ is_some (worker_at w number ns)) →
      option_map (λ e. e.0) (find (λ e. is_some e.1) (entries m)) ≡ option_map (λ r. r.0) (row_of w number)
  first_named m same = first_row (entries m) ∙ ap (λ es. option_map (λ e. e.0) (first_of es)) (sym (entries-rows m))
      ∙ sym (first_map (λ e. e.0) (entries (rows m)))
      ∙ ap first_of (same_keys names one_name (rows m) (rows slots) (λ q. ap is_some (get-rows names m q) ∙ same q ∙ ap is_some (sym (row_in q))))
      ∙ first_map (λ e. e.0) (entries (rows slots)) ∙ ap (option_map (λ r. r.0)) (sym row_is)

  module _ (b : BusyWorkers) (right : IsBusyIndex w b) where
    said : (r : Option (ByName (Option Unit))) → row_at b.workers number ≡ r → (ns : Name) →
        option_map_or (λ names. holds_name names ns) r false ≡ is_some (worker_at w number ns)
    said r is ns = ap (λ r. option_map_or (λ names. holds_name names ns) r false) (sym is) ∙ right number ns

    pub named : (m : ByName (Option Unit)) → row_at b.workers number ≡ Some m →
        option_map (λ e. e.0) (find (λ e. is_some e.1) (entries m)) ≡ option_map (λ r. r.0) (row_of w number)
    named m is = first_named m (said (Some m) is)

    pub not_named : row_at b.workers number ≡ None → None ≡ option_map (λ r. r.0) (row_of w number)
    not_named none = by (row_of w number) refl
      where
        by : (r : Option (Name × Worker)) → row_of w number ≡ r → None ≡ option_map (λ r. r.0) r
        by None is = refl
        by (Some (ns, worker)) is = absurd (not_true (said None none ns ∙ ap is_some (row_there ns worker is)))
          where
            not_true : false ≡ true → ⊥
            not_true e = cc
