-- The jobs that lose an allocation with a node, slot by slot.
use Rattle.std.specs.Prelude.{◌≡◌, ℕ, ◌+◌, Bool, true, false, cond, ◌&&◌, ◌||◌, not, List, [], ◌∷◌, Option, Some, None, filter, flat_map, fold, is_some}
use Rattle.std.specs.Prelude.{length, map, option_map, ◌<◌, ◌≤◌, ◌^◌, T}
use Rattle.std.proofs.Common.{refl, sym, ap, subst, ◌∙◌, arith}
use Rattle.std.proofs.lemmas.List.{length-map}
use Rattle.std.proofs.lemmas.List.Concat.{flat_map_single}
use Rattle.std.proofs.lemmas.List.Folds.{flat_map-map}
use Rattle.std.specs.List.{list_any}
use Rattle.std.specs.Option.{option_or}
use Rattle.std.specs.FinMap.{empty, entries, find, from_entries, get}
use Rattle.std.specs.FinMap.{get-empty, get-from_entries, get-insert, insert, len, len-empty, len-entries, len-insert}
use Rattle.std.specs.FinMap.{same_map, values}
use Rattle.keyed.specs.Table.{has_slot, row_list, with_slot}
use Rattle.ns_types.specs.declared.allocation.Allocation.{Allocation}
use Rattle.ns_types.specs.Asking.Nodes.{losing_jobs}
use Rattle.ns_types.specs.State.Names.{Name, ByName, name_cmp, same_name}
use Rattle.ns_types.specs.State.Rows.{Tenant, is_live_on}
use Rattle.ns_types.specs.State.Tables.{table_of}
use Rattle.ns_types.specs.Steps.{greatest}
use Rattle.ns_types.proofs.Elements.{map_map}
use Rattle.ns_types.proofs.Named.{names, one_name}
use Rattle.ns_types.proofs.Tables.{entries-table_of, get-table_of, tied}
use Rattle.ns_nodes.specs.Losing.{is_last_of_job, is_losing, job_keys_at, key_at, looked, losing_jobs_at}
use Rattle.ns_nodes.specs.Losing.{losing_rows, numbers_pass_at, with_losing}
use Rattle.ns_types.proofs.Bounds.{past_bound, not_past}

-- ---- tables of entries

find_mapped : {X Y : Type 0} (f : X → Y) (q : Name) (es : List (Name × X)) → find name_cmp q (map (λ e. (e.0, f e.1)) es) ≡ option_map f (find name_cmp q es)
find_mapped f q [] = refl
find_mapped f q (e ∷ es) = elim (same_name q e.0) as
    (λ b. cond b (Some (f e.1)) (find name_cmp q (map (λ e. (e.0, f e.1)) es)) ≡ option_map f (cond b (Some e.1) (find name_cmp q es))) [
      | true ↦ refl
      | false ↦ find_mapped f q es
    ]

from_mapped : {X Y : Type 0} (f : X → Y) (es : List (Name × X)) →
    from_entries {R = name_cmp} (map (λ e. (e.0, f e.1)) es) ≡ table_of (λ _ x. f x) (from_entries {R = name_cmp} es)
from_mapped f es = same_map names one_name _ _ (λ q. get-from_entries names (map (λ e. (e.0, f e.1)) es) q ∙ find_mapped f q es
    ∙ ap (option_map f) (sym (get-from_entries names es q)) ∙ sym (get-table_of names one_name (λ _ x. f x) (from_entries es) q))

values_mapped : {X Y : Type 0} (f : X → Y) (m : ByName X) → values (table_of (λ _ x. f x) m) ≡ map f (values m)
values_mapped f m = ap (map (λ e. e.1)) (entries-table_of (λ _ x. f x) m) ∙ map_map (λ e. e.1) (λ e. (e.0, f e.1)) (entries m)
    ∙ sym (map_map f (λ e. e.1) (entries m))

or_nothing : {A : Type 0} (o : Option A) → option_or o None ≡ o
or_nothing None = refl
or_nothing (Some x) = refl

module _ (pool node : Name) where
  abbrev lives : ℕ × Allocation → Bool
  lives a = is_live_on pool node a.1

  -- the live allocations among rows, each under its job
  abbrev pub jobs_in : List (ℕ × Allocation) → List (Name × (ℕ × Allocation))
  jobs_in rows = map (λ a. (a.1.job, a)) (filter lives rows)

  -- of each job the first one
  abbrev pub firsts : List (ℕ × Option Allocation) → ByName (ℕ × Allocation)
  firsts slots = from_entries {R = name_cmp} (jobs_in (row_list slots))

  -- with their numbers
  jobs_among : (rows : List (ℕ × Allocation)) → values (from_entries {R = name_cmp} (map (λ a. (a.1.job, a.1)) (filter lives rows)))
      ≡ map (λ a. a.1) (values (from_entries {R = name_cmp} (jobs_in rows)))
  jobs_among rows = ap (λ es. values (from_entries {R = name_cmp} es)) (sym (map_map (λ e. (e.0, e.1.1)) (λ a. (a.1.job, a)) (filter lives rows)))
      ∙ ap values (from_mapped (λ a. a.1) (jobs_in rows)) ∙ values_mapped (λ a. a.1) (from_entries {R = name_cmp} (jobs_in rows))

  -- the model's
  pub jobs_are : (t : Tenant) → losing_jobs pool node t ≡ map (λ a. a.1) (losing_rows pool node t)
  jobs_are t = jobs_among (entries t.allocations)

  -- ---- how many there are

  pub count : List (ℕ × Option Allocation) → ℕ
  count slots = len (firsts slots)

  found_any : (job : Name) (slots : List (ℕ × Option Allocation)) →
      is_some (find name_cmp job (jobs_in (row_list slots))) ≡ list_any (is_losing pool node job) slots
  found_any job [] = refl
  found_any job ((n, None) ∷ slots) = found_any job slots
  found_any job ((n, Some a) ∷ slots) = by (is_live_on pool node a) (same_name job a.job) refl (found_any job slots)
    where
      by : (b s : Bool) → same_name job a.job ≡ s → is_some (find name_cmp job (jobs_in (row_list slots))) ≡ list_any (is_losing pool node job) slots →
          is_some (find name_cmp job (map (λ a. (a.1.job, a)) (cond b ((n, a) ∷ filter lives (row_list slots)) (filter lives (row_list slots)))))
          ≡ ((same_name job a.job && b) || list_any (is_losing pool node job) slots)
      by true true e later = ap (λ s. is_some (cond s (Some (n, a)) (find name_cmp job (jobs_in (row_list slots))))) e
          ∙ sym (ap (λ s. (s && true) || list_any (is_losing pool node job) slots) e)
      by true false e later = ap (λ s. is_some (cond s (Some (n, a)) (find name_cmp job (jobs_in (row_list slots))))) e ∙ later
          ∙ sym (ap (λ s. (s && true) || list_any (is_losing pool node job) slots) e)
      by false true e later = later ∙ sym (ap (λ s. (s && false) || list_any (is_losing pool node job) slots) e)
      by false false e later = later ∙ sym (ap (λ s. (s && false) || list_any (is_losing pool node job) slots) e)

  pub count_step : (slot : ℕ × Option Allocation) (later : List (ℕ × Option Allocation)) →
      count (slot ∷ later) ≡ cond (is_last_of_job pool node slot later) (count later + 1) (count later)
  unfolding count
  count_step (n, None) later = refl
  count_step (n, Some a) later = by (is_live_on pool node a)
    where
      one_more : (c : Bool) (n : ℕ) → cond c n (n + 1) ≡ cond (not c) (n + 1) n
      one_more true n = refl
      one_more false n = refl

      by : (b : Bool) → len (from_entries {R = name_cmp} (map (λ a. (a.1.job, a)) (cond b ((n, a) ∷ filter lives (row_list later)) (filter lives
          (row_list later)))))
          ≡ cond (b && not (list_any (is_losing pool node a.job) later)) (len (firsts later) + 1) (len (firsts later))
      by true = len-insert names (firsts later) a.job (n, a)
          ∙ ap (λ c. cond c (len (firsts later)) (len (firsts later) + 1))
          (ap is_some (get-from_entries names (jobs_in (row_list later)) a.job) ∙ found_any a.job later)
          ∙ one_more (list_any (is_losing pool node a.job) later) (len (firsts later))
      by false = refl

  pub count_is : (t : Tenant) (slots : List (ℕ × Option Unit)) → length (losing_jobs_at pool node t slots) ≡ count (map (looked t) slots)
  unfolding count
  count_is t slots = ap length (jobs_among (row_list (map (looked t) slots)))
      ∙ length-map (values (firsts (map (looked t) slots))) (λ a. a.1)
      ∙ length-map (entries (firsts (map (looked t) slots))) (λ e. e.1)
      ∙ sym (len-entries (firsts (map (looked t) slots)))

  module _ (t : Tenant) (all : List (ℕ × Option Unit)) (number : ℕ) (rest : List (ℕ × Option Unit))
      (is : number + count (map (looked t) rest) ≡ t.evaluation_number + count (map (looked t) all)) where
    all_of : t.evaluation_number + length (losing_jobs_at pool node t all) ≡ number + count (map (looked t) rest)
    all_of = ap (λ n. t.evaluation_number + n) (count_is t all) ∙ sym is

    module _ (slot : ℕ × Option Unit) (later : List (ℕ × Option Unit)) (slots : rest ≡ slot ∷ later) where
      abbrev is_last : Bool
      is_last = is_last_of_job pool node (looked t slot) (map (looked t) later)

      counted : (b : Bool) → is_last ≡ b → count (map (looked t) rest) ≡ cond b (count (map (looked t) later) + 1) (count (map (looked t) later))
      counted b last = ap (λ rest. count (map (looked t) rest)) slots ∙ count_step (looked t slot) (map (looked t) later)
          ∙ ap (λ b. cond b (count (map (looked t) later) + 1) (count (map (looked t) later))) last

      pub next_number : is_last ≡ true → (number + 1) + count (map (looked t) later) ≡ t.evaluation_number + count (map (looked t) all)
      next_number last = let more : count (map (looked t) rest) ≡ count (map (looked t) later) + 1 = counted true last in omega arith

      pub same_number : is_last ≡ false → number + count (map (looked t) later) ≡ t.evaluation_number + count (map (looked t) all)
      same_number last = let same : count (map (looked t) rest) ≡ count (map (looked t) later) = counted false last in omega arith

      pub no_number : is_last ≡ true → number ≡ greatest → true ≡ numbers_pass_at pool node t all
      no_number last end =
          let more : count (map (looked t) rest) ≡ count (map (looked t) later) + 1 = counted true last in
          sym (past_bound _ (subst (λ n. 2 ^ 64 ≤ n) (sym all_of) (omega arith)))

    pub all_numbers : rest ≡ [] → number < 2 ^ 64 → false ≡ numbers_pass_at pool node t all
    unfolding count
    all_numbers none fits =
        let counted : count (map (looked t) rest) ≡ 0 = ap (λ rest. count (map (looked t) rest)) none ∙ len-empty name_cmp (ℕ × Allocation) in
        sym (not_past _ (subst (λ n. n < 2 ^ 64) (sym all_of) (omega arith)))

  -- ---- their keys

  get_losing : (slots : List (ℕ × Option Allocation)) (m : ByName (Option ℕ)) (q : Name) → get (fold (with_losing pool node) m slots) q
      ≡ option_or (get m q) (option_map (λ a. Some a.0) (find name_cmp q (jobs_in (row_list slots))))
  get_losing [] m q = sym (or_nothing (get m q))
  get_losing ((n, None) ∷ slots) m q = get_losing slots m q
  get_losing ((n, Some a) ∷ slots) m q = get_losing slots (with_losing pool node m (n, Some a)) q
      ∙ by (is_live_on pool node a) (has_slot m a.job) refl (same_name q a.job) refl
    where
      others : Option (ℕ × Allocation)
      others = find name_cmp q (jobs_in (row_list slots))

      asked : Bool → Option (Option ℕ)
      asked b = option_map (λ a. Some a.0)
          (find name_cmp q (map (λ a. (a.1.job, a)) (cond b ((n, a) ∷ filter lives (row_list slots)) (filter lives (row_list slots)))))

      held : (o : Option (Option ℕ)) → is_some o ≡ true → (x y : Option (Option ℕ)) → option_or o x ≡ option_or o y
      held None e x y = absurd (subst T (sym e) tt)
      held (Some v) e x y = refl

      nothing : (o : Option (Option ℕ)) → is_some o ≡ false → (x : Option (Option ℕ)) → option_or o x ≡ x
      nothing None e x = refl
      nothing (Some v) e x = absurd (subst T e tt)

      put : has_slot m a.job ≡ false → (s : Bool) → same_name q a.job ≡ s →
          get (insert (with_slot m a.job) a.job (Some n)) q ≡ cond s (Some (Some n)) (get m q)
      put out true e = get-insert names (with_slot m a.job) a.job (Some n) q ∙ ap (λ s. cond s (Some (Some n)) (get (with_slot m a.job) q)) e
      put out false e = get-insert names (with_slot m a.job) a.job (Some n) q ∙ ap (λ s. cond s (Some (Some n)) (get (with_slot m a.job) q)) e
          ∙ ap (λ h. get (cond h m (insert m a.job None)) q) out ∙ get-insert names m a.job None q ∙ ap (λ s. cond s (Some None) (get m q)) e

      by : (b h : Bool) → has_slot m a.job ≡ h → (s : Bool) → same_name q a.job ≡ s →
          option_or (get (cond (b && not (has_slot m a.job)) (insert (with_slot m a.job) a.job (Some n)) m) q) (option_map (λ a. Some a.0) others)
          ≡ option_or (get m q) (asked b)
      by false h is s e = refl
      by true true is true e = ap (λ h. option_or (get (cond (not h) (insert (with_slot m a.job) a.job (Some n)) m) q) (option_map (λ a. Some a.0) others)) is
          ∙ held (get m q) (ap (λ k. is_some (get m k)) (tied one_name q a.job e) ∙ is) _ _
      by true true is false e = ap (λ h. option_or (get (cond (not h) (insert (with_slot m a.job) a.job (Some n)) m) q) (option_map (λ a. Some a.0) others)) is
          ∙ ap (λ s. option_or (get m q) (option_map (λ a. Some a.0) (cond s (Some (n, a)) others))) (sym e)
      by true false is true e = ap (λ h. option_or (get (cond (not h) (insert (with_slot m a.job) a.job (Some n)) m) q) (option_map (λ a. Some a.0) others)) is
          ∙ ap (λ o. option_or o (option_map (λ a. Some a.0) others)) (put is true e)
          ∙ ap (λ s. option_map (λ a. Some a.0) (cond s (Some (n, a)) others)) (sym e)
          ∙ sym (nothing (get m q) (ap (λ k. is_some (get m k)) (tied one_name q a.job e) ∙ is) (asked true))
      by true false is false e = ap (λ h. option_or (get (cond (not h) (insert (with_slot m a.job) a.job (Some n)) m) q) (option_map (λ a. Some a.0) others)) is
          ∙ ap (λ o. option_or o (option_map (λ a. Some a.0) others)) (put is false e)
          ∙ ap (λ s. option_or (get m q) (option_map (λ a. Some a.0) (cond s (Some (n, a)) others))) (sym e)

  losing_is : (slots : List (ℕ × Option Allocation)) → fold (with_losing pool node) empty slots ≡ table_of (λ _ a. Some a.0) (firsts slots)
  losing_is slots = same_map names one_name _ _ (λ q. get_losing slots empty q
      ∙ ap (λ o. option_or o (option_map (λ a. Some a.0) (find name_cmp q (jobs_in (row_list slots))))) (get-empty name_cmp q)
      ∙ ap (option_map (λ a. Some a.0)) (sym (get-from_entries names (jobs_in (row_list slots)) q))
      ∙ sym (get-table_of names one_name (λ _ a. Some a.0) (firsts slots) q))

  pub keys_at : (ns : Name) (t : Tenant) (slots : List (ℕ × Option Unit)) →
      job_keys_at pool node ns t slots ≡ map (λ a. (ns, a.0)) (values (firsts (map (looked t) slots)))
  keys_at ns t slots = ap (λ m. flat_map (key_at ns) (entries m)) (losing_is (map (looked t) slots))
      ∙ ap (flat_map (key_at ns)) (entries-table_of (λ _ a. Some a.0) (firsts (map (looked t) slots)))
      ∙ flat_map-map (key_at ns) (λ e. (e.0, Some e.1.0)) (entries (firsts (map (looked t) slots)))
      ∙ flat_map_single (λ (e : Name × (ℕ × Allocation)). (ns, e.1.0)) (entries (firsts (map (looked t) slots)))
      ∙ sym (map_map (λ a. (ns, a.0)) (λ (e : Name × (ℕ × Allocation)). e.1) (entries (firsts (map (looked t) slots))))
