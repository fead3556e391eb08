-- The first entry that passes, of entries ordered by number, has the least number of those that pass.
use Rattle.std.specs.Prelude.{◌≡◌, ℕ, ◌<◌, ◌≤◌, Bool, true, false, cond, T, ◌&&◌, ◌||◌, List, [], ◌∷◌, map, filter, Option, Some, None, is_some}
use Rattle.std.specs.Prelude.{option_map, find}
use Rattle.std.proofs.Common.{refl, sym, ap, subst, ◌∙◌, arith, Ordering, Less}
use Rattle.std.specs.FinMap.{FinMap, IsAntisymmetric, get, entries, entries_sorted, get-entries, from_entries, get-from_entries}
use Rattle.std.specs.FinMap.Entries as Entries
use Rattle.std.specs.List.{list_any}
use Rattle.std.specs.Ordering.{nat_cmp}
use Rattle.std.proofs.lemmas.Cmp.{ranked}
use Rattle.std.proofs.lemmas.Option.{none-some, same_Some}
use Rattle.ns_types.specs.declared.allocation.Allocation.{Allocation}
use Rattle.ns_types.specs.declared.evaluation.Evaluation.{Evaluation}
use Rattle.ns_types.specs.State.Lists.{Each}
use Rattle.ns_types.specs.State.Names.{Name, ByNumber, name_cmp, same_name}
use Rattle.ns_types.specs.State.Rows.{Tenant, is_pending, is_live_on}
use Rattle.ns_types.proofs.Elements.{any_map, each_found, each_mapped}
use Rattle.ns_types.proofs.Tests.{first, second}
use Rattle.ns_types.proofs.Lists.{not_both, each_map}
use Rattle.ns_types.proofs.Named.{names, one_name, one_number, same_name_is, same_name_refl, first_of_both, second_of_both, numbers}
use Rattle.ns_types.proofs.TableRows.{each_fails}
use Rattle.ns_types.proofs.Tables.{each_row, less_by}
use Rattle.ns_laws.specs.Nodes as law
use Rattle.ns_laws.specs.Queue as queue

-- ---- the first element that passes

pub found_holds : {A : Type 0} (P : A → Type 0) (p : A → Bool) (es : List A) (e : A) → Each P es → find p es ≡ Some e → (p e ≡ true) × P e
found_holds P p [] e h is = absurd (none-some e is)
found_holds P p (x ∷ es) e h is = by (p x) refl is (found_holds P p es e h.1)
  where
    by : (b : Bool) → p x ≡ b → cond b (Some x) (find p es) ≡ Some e → (find p es ≡ Some e → (p e ≡ true) × P e) → (p e ≡ true) × P e
    by true f is go = let same = same_Some x e is in (ap p (sym same) ∙ f, subst P same h.0)
    by false f is go = go is

pub found_if_any : {A : Type 0} (p : A → Bool) (es : List A) → is_some (find p es) ≡ list_any p es
found_if_any p [] = refl
found_if_any p (x ∷ es) = by (p x) (found_if_any p es)
  where
    by : (b : Bool) → is_some (find p es) ≡ list_any p es → is_some (cond b (Some x) (find p es)) ≡ (b || list_any p es)
    by true rest = refl
    by false rest = rest

-- ---- entries in order

module _ {X : Type 0} where
  pub above : (k : ℕ) (es : List (ℕ × X)) → T (Entries.below_all nat_cmp k es) → Each (λ e. k < e.0) es
  above k [] h = tt
  above k (e ∷ es) h = (ranked k e.0 Less (sym (less_by _ (first _ _ h))), above k es (second _ _ h))

  first_least : (p : ℕ × X → Bool) (es : List (ℕ × X)) (e : ℕ × X) → T (Entries.is_sorted nat_cmp es) → find p es ≡ Some e →
      Each (λ x. p x ≡ true → e.0 ≤ x.0) es
  first_least p [] e sorted is = tt
  first_least p (x ∷ es) e sorted is = by (p x) refl is (first_least p es e (second _ _ sorted))
    where
      later : Each (λ y. x.0 < y.0) es
      later = above x.0 es (first _ _ sorted)

      by : (b : Bool) → p x ≡ b → cond b (Some x) (find p es) ≡ Some e → (find p es ≡ Some e → Each (λ y. p y ≡ true → e.0 ≤ y.0) es) →
          Each (λ y. p y ≡ true → e.0 ≤ y.0) (x ∷ es)
      by true f is go = let same = ap (λ (y : ℕ × X). y.0) (same_Some x e is) in
          ((λ _. omega (arith, same)), each_map (λ y less _. omega (arith, same, less)) es later)
      by false f is go = ((λ g. not_both g f), go is)

  pub none_passes : (p : ℕ × X → Bool) (es : List (ℕ × X)) → find p es ≡ None → Each (λ x. p x ≡ false) es
  none_passes p [] e = tt
  none_passes p (x ∷ es) e = by (p x) refl e (none_passes p es)
    where
      by : (b : Bool) → p x ≡ b → cond b (Some x) (find p es) ≡ None → (find p es ≡ None → Each (λ x. p x ≡ false) es) → Each (λ x. p x ≡ false) (x ∷ es)
      by true f e go = absurd (none-some x (sym e))
      by false f e go = (f, go e)

-- what holds of each entry holds of each row
module _ {K X : Type 0} {R : K → K → Ordering} (same : IsAntisymmetric R) where
  row_at : (P : K → X → Type 0) (m : FinMap R X) (k : K) (x : X) → Each (λ e. P e.0 e.1) (entries m) → get m k ≡ Some x → P k x
  row_at P m k x h is = each_found same (λ e. P e.0 e.1) (entries m) h k x (sym (get-entries m k) ∙ is)

-- the first entry that passes: it is a row, it passes, and no row that passes has a lesser number
pub first_row : {X : Type 0} (p : ℕ × X → Bool) (m : ByNumber X) (n : ℕ) (x : X) → find p (entries m) ≡ Some (n, x)
    → (get m n ≡ Some x) × (p (n, x) ≡ true) × ((k : ℕ) (y : X) → get m k ≡ Some y → p (k, y) ≡ true → n ≤ k)
first_row p m n x is =
    let found = found_holds (λ e. get m e.0 ≡ Some e.1) p (entries m) (n, x) (each_row numbers one_number (λ k y. get m k ≡ Some y) m (λ k y e. e)) is in (
      found.1,
      found.0,
      λ k y there passes. row_at one_number (λ k y. p (k, y) ≡ true → n ≤ k) m k y (first_least p (entries m) (n, x) (entries_sorted m) is)
          there passes,
    )

-- ---- who waits

waits : Name → ℕ × Evaluation → Bool
waits job e = same_name job e.1.job && is_pending e.1.status

pub first_waiting_is_least : queue.FirstWaitingIsLeast
unfolding waits
first_waiting_is_least t job n e = by (find (waits job) (entries t.evaluations)) refl e
  where
    of : (k : ℕ) (x : Evaluation) → find (waits job) (entries t.evaluations) ≡ Some (k, x) → queue.IsFirstWaiting t job k
    of k x is = let first = first_row (waits job) t.evaluations k x is in record {
      row = x;
      there = first.0;
      of_job = sym (same_name_is job x.job (first_of_both (same_name job x.job) (is_pending x.status) first.1));
      pending = second_of_both (same_name job x.job) (is_pending x.status) first.1;
      least = λ m other there same pending. first.2 m other there (ap (λ b. b && is_pending other.status) (ap (same_name job) same ∙ same_name_refl job) ∙
          pending);
    }

    by : (o : Option (ℕ × Evaluation)) → find (waits job) (entries t.evaluations) ≡ o → option_map (λ x. x.0) o ≡ Some n → queue.IsFirstWaiting t job n
    by None is f = absurd (none-some n f)
    by (Some x) is f = subst (queue.IsFirstWaiting t job) (same_Some x.0 n f) (of x.0 x.1 is)

pub none_waits_of_none : queue.NoneWaitsOfNone
unfolding waits
none_waits_of_none t job n row e there same = by (find (waits job) (entries t.evaluations)) refl e
  where
    by : (o : Option (ℕ × Evaluation)) → find (waits job) (entries t.evaluations) ≡ o → option_map (λ x. x.0) o ≡ None → is_pending row.status ≡ false
    by (Some x) is f = absurd (none-some x.0 (sym f))
    by None is f =
        ap (λ b. b && is_pending row.status) (sym (ap (same_name job) same ∙ same_name_refl job))
        ∙ row_at one_number (λ k x. waits job (k, x) ≡ false) t.evaluations n row (none_passes (waits job) (entries t.evaluations) is) there

-- ---- who loses

abbrev lives_on : Name → Name → ℕ × Allocation → Bool
lives_on pool node e = is_live_on pool node e.1

abbrev by_job : ℕ × Allocation → Name × Allocation
by_job e = (e.1.job, e.1)

-- the row of a job in a table made from a list is the first of that job in the list
find_job : (job : Name) (es : List (ℕ × Allocation)) → Entries.find name_cmp job (map by_job es) ≡ option_map (λ e. e.1) (find (λ e. same_name job e.1.job) es)
find_job job [] = refl
find_job job (e ∷ es) = by (same_name job e.1.job) (find_job job es)
  where
    by : (b : Bool) → Entries.find name_cmp job (map by_job es) ≡ option_map (λ e. e.1) (find (λ e. same_name job e.1.job) es)
        → cond b (Some e.1) (Entries.find name_cmp job (map by_job es)) ≡ option_map (λ e. e.1) (cond b (Some e) (find (λ e. same_name job e.1.job) es))
    by true rest = refl
    by false rest = rest

find_kept : {X : Type 0} (p q : X → Bool) (xs : List X) → find q (filter p xs) ≡ find (λ x. p x && q x) xs
find_kept p q [] = refl
find_kept p q (x ∷ xs) = by (p x) (find_kept p q xs)
  where
    by : (b : Bool) → find q (filter p xs) ≡ find (λ x. p x && q x) xs →
        find q (cond b (x ∷ filter p xs) (filter p xs)) ≡ cond (b && q x) (Some x) (find (λ x. p x && q x) xs)
    by true rest = ap (λ o. cond (q x) (Some x) o) rest
    by false rest = rest

unfoldable pub losers : Name → Name → Tenant → FinMap name_cmp Allocation
losers pool node t = from_entries (map by_job (filter (lives_on pool node) (entries t.allocations)))

get_loser : (pool node : Name) (t : Tenant) (job : Name)
    → get (losers pool node t) job ≡ option_map (λ e. e.1) (find (λ e. lives_on pool node e && same_name job e.1.job) (entries t.allocations))
unfolding losers
get_loser pool node t job =
    get-from_entries names (map by_job (filter (lives_on pool node) (entries t.allocations))) job ∙
    find_job job (filter (lives_on pool node) (entries t.allocations))
    ∙ ap (option_map (λ e. e.1)) (find_kept (lives_on pool node) (λ e. same_name job e.1.job) (entries t.allocations))

loser_is_first : (pool node : Name) (t : Tenant) (job : Name) (a : Allocation) → get (losers pool node t) job ≡ Some a → law.IsFirstOfJob pool node t a
loser_is_first pool node t job a is = by (find passes (entries t.allocations)) refl (sym (get_loser pool node t job) ∙ is)
  where
    passes : ℕ × Allocation → Bool
    passes e = lives_on pool node e && same_name job e.1.job

    of : (n : ℕ) (x : Allocation) → find passes (entries t.allocations) ≡ Some (n, x) → law.IsFirstOfJob pool node t x
    of n x f =
        let first = first_row passes t.allocations n x f in
        let job_is : job ≡ x.job = same_name_is job x.job (second_of_both (is_live_on pool node x) (same_name job x.job) first.1) in record {
          number = n;
          there = first.0;
          lives = first_of_both (is_live_on pool node x) (same_name job x.job) first.1;
          least = λ m other there lives same. first.2 m other there (λ i. lives i && (ap (same_name job) (same ∙ sym job_is) ∙ same_name_refl job) i);
        }

    by : (o : Option (ℕ × Allocation)) → find passes (entries t.allocations) ≡ o → option_map (λ e. e.1) o ≡ Some a → law.IsFirstOfJob pool node t a
    by None f e = absurd (none-some a e)
    by (Some x) f e = subst (law.IsFirstOfJob pool node t) (same_Some x.1 a e) (of x.0 x.1 f)

pub losers_are_first : law.LosersAreFirst
unfolding losers
losers_are_first pool node t =
    each_mapped (law.IsFirstOfJob pool node t) (λ e. e.1) (entries (losers pool node t))
    (each_row names one_name (λ job a. law.IsFirstOfJob pool node t a) (losers pool node t) (λ job a is. loser_is_first pool node t job a is))

pub each_job_loses : law.EachJobLoses
unfolding losers
each_job_loses pool node t n a there lives = any_map (λ other. same_name a.job other.job) (λ e. e.1) (entries (losers pool node t))
    ∙ by (list_any (λ e. same_name a.job e.1.job) (entries (losers pool node t))) refl
  where
    passes : ℕ × Allocation → Bool
    passes e = lives_on pool node e && same_name a.job e.1.job

    -- the row of the job is there, and of the job
    row : (o : Option (ℕ × Allocation)) → find passes (entries t.allocations) ≡ o → (x : Allocation) × (get (losers pool node t) a.job ≡ Some x) ×
        (same_name a.job x.job ≡ true)
    row None f = not_both (λ i. lives i && same_name_refl a.job i)
        (row_at one_number (λ k x. passes (k, x) ≡ false) t.allocations n a (none_passes passes (entries t.allocations) f) there)
    row (Some x) f = (
      x.1,
      get_loser pool node t a.job ∙ ap (option_map (λ e. e.1)) f,
      second_of_both (lives_on pool node x) (same_name a.job x.1.job)
          (found_holds (λ _. Unit {0}) passes (entries t.allocations) x (each_row numbers one_number (λ _ _. Unit {0}) t.allocations (λ _ _ _. tt)) f).0,
    )

    by : (b : Bool) → list_any (λ e. same_name a.job e.1.job) (entries (losers pool node t)) ≡ b →
        list_any (λ e. same_name a.job e.1.job) (entries (losers pool node t)) ≡ true
    by true e = e
    by false e =
        let found = row (find passes (entries t.allocations)) refl in
        not_both found.2 (row_at one_name (λ job x. same_name a.job x.job ≡ false) (losers pool node t) a.job found.0
        (each_fails (λ e. same_name a.job e.1.job) (entries (losers pool node t)) e) found.1)
