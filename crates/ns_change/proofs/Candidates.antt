-- Who stays in a list, by the numbers of a job's evaluations.
use Rattle.std.specs.Prelude.{◌≡◌, ℕ, Bool, true, false, cond, not, ◌&&◌, ◌||◌, List, [], ◌∷◌, Option, Some, None, is_some, unwrap_or}
use Rattle.std.proofs.Common.{refl, sym, ap, subst, ◌∙◌}
use Rattle.std.specs.List.{list_any}
use Rattle.std.specs.Option.{option_and_then, option_map_or}
use Rattle.std.specs.Ordering.{nat_cmp}
use Rattle.std.specs.FinMap.{entries, get, get-entries}
use Rattle.std.specs.FinMap.Entries.{find}
use Rattle.keyed.proofs.Over.{get-over}
use Rattle.keyed.proofs.Tables.{get-rows}
use Rattle.keyed.specs.Table.{row_at, rows}
use Rattle.ns_types.proofs.Lists.{not_both}
use Rattle.ns_types.proofs.Named.{first_of_both, numbers, one_number, same_key_refl, same_name_is, second_of_both}
use Rattle.ns_types.proofs.Tables.{tied}
use Rattle.ns_types.specs.State.Names.{Key, Name, has_key, same_key, same_name, same_number}
use Rattle.ns_types.specs.State.Rows.{evaluation_at}
use Rattle.ns_types.specs.declared.evaluation.Evaluation.{Evaluation}
use Rattle.ns_change.proofs.Seen.{changed_seen, kept_seen, none_seen}
use Rattle.ns_change.specs.Changed.{view}
use Rattle.ns_change.specs.Queued.{any_left, is_left_in, is_of}
use Rattle.ns_change.specs.declared.change.Change.{Change}
use Rattle.ns_change.specs.declared.change.TenantChange.{TenantChange}
use Rattle.ns_tables.specs.declared.tables.Tables.{Tables}
use Rattle.ns_tables.specs.declared.tables.TenantRows.{TenantRows}
use Rattle.ns_types.proofs.Once.{key_is}
use Rattle.std.proofs.lemmas.Bool.{or_right}

-- ---- both true or both false

same_truth : (a b : Bool) → (a ≡ true → b ≡ true) → (b ≡ true → a ≡ true) → a ≡ b
same_truth true b f g = sym (f refl)
same_truth false true f g = g refl
same_truth false false f g = refl

or_cases : {A : Type 0} (a b : Bool) → (a || b) ≡ true → (a ≡ true → A) → (b ≡ true → A) → A
or_cases true b is f g = f refl
or_cases false b is f g = g is

-- ---- lists of keys, and of slots

found : {A : Type 0} (h : Key → Bool) (keys : List Key) → list_any h keys ≡ true → ((key : Key) → has_key keys key ≡ true → h key ≡ true → A) → A
found h [] is k = not_both is refl
found {A = A} h (x ∷ xs) is k = by (λ is. found h xs is (λ key has e. k key (or_right (same_key key x) (has_key xs key) has) e)) (h x) refl is
  where
    by : (list_any h xs ≡ true → A) → (b : Bool) → h x ≡ b → (b || list_any h xs) ≡ true → A
    by later true e is = k x (ap (λ b. b || has_key xs x) (same_key_refl x)) e
    by later false e is = later is

holds : (h : Key → Bool) (keys : List Key) (key : Key) → has_key keys key ≡ true → h key ≡ true → list_any h keys ≡ true
holds h [] key has e = has
holds h (x ∷ xs) key has e = by (holds h xs key) (same_key key x) refl has
  where
    by : (has_key xs key ≡ true → h key ≡ true → list_any h xs ≡ true) → (s : Bool) → same_key key x ≡ s → (s || has_key xs key) ≡ true →
        (h x || list_any h xs) ≡ true
    by later true t has = ap (λ b. b || list_any h xs) (sym (ap h (key_is key x t)) ∙ e)
    by later false t has = or_right (h x) (list_any h xs) (later has e)

module _ {Y : Type 0} (g : ℕ → Bool) where
  pub in_slots : (es : List (ℕ × Y)) (n : ℕ) → is_some (find nat_cmp n es) ≡ true → g n ≡ true → list_any (λ slot. g slot.0) es ≡ true
  in_slots [] n has e = has
  in_slots (x ∷ xs) n has e = by (in_slots xs n) (same_number n x.0) refl has
    where
      by : (is_some (find nat_cmp n xs) ≡ true → g n ≡ true → list_any (λ slot. g slot.0) xs ≡ true) → (s : Bool) → same_number n x.0 ≡ s →
          is_some (cond s (Some x.1) (find nat_cmp n xs)) ≡ true → (g x.0 || list_any (λ slot. g slot.0) xs) ≡ true
      by later true t has = ap (λ b. b || list_any (λ slot. g slot.0) xs) (sym (ap g (tied one_number n x.0 t)) ∙ e)
      by later false t has = or_right (g x.0) (list_any (λ slot. g slot.0) xs) (later has e)

  pub out_slots : {A : Type 0} (es : List (ℕ × Y)) → list_any (λ slot. g slot.0) es ≡ true → ((n : ℕ) → g n ≡ true → A) → A
  out_slots [] is k = not_both is refl
  out_slots {A = A} (x ∷ xs) is k = by (λ is. out_slots xs is k) (g x.0) refl is
    where
      by : (list_any (λ slot. g slot.0) xs ≡ true → A) → (b : Bool) → g x.0 ≡ b → (b || list_any (λ slot. g slot.0) xs) ≡ true → A
      by later true e is = k x.0 e
      by later false e is = later is

-- ---- who stays

module _ (t : Tables) (c : Change) (ns job : Name) (base taken : List Key) where
  abbrev here : ℕ → Bool
  here n = is_left_in t c base taken ns job n

  abbrev anyone : Bool
  anyone = any_left (is_of t c ns job) taken base

  abbrev of_the_job : Option Evaluation → Bool
  of_the_job r = option_map_or (λ e. same_name job e.job) r false

  left_number : {A : Type 0} → anyone ≡ true → ((n : ℕ) → here n ≡ true → A) → A
  left_number {A = A} is k = found (λ key. not (has_key taken key) && is_of t c ns job key) base is (λ key has e. at key has e)
    where
      at : (key : Key) → has_key base key ≡ true → (not (has_key taken key) && is_of t c ns job key) ≡ true → A
      at key has e =
          let own = same_name_is ns key.0 (first_of_both (same_name ns key.0) (of_the_job (evaluation_at (view t c) key))
          (second_of_both (not (has_key taken key)) (is_of t c ns job key) e)) in
          k key.1 (subst (λ (key : Key). (has_key base key && (not (has_key taken key) && is_of t c ns job key)) ≡ true) (λ i. (sym own i, key.1))
          (ap (λ b. b && (not (has_key taken key) && is_of t c ns job key)) has ∙ e))

  stays_here : (n : ℕ) → here n ≡ true → (has_key base (ns, n) ≡ true) × ((not (has_key taken (ns, n)) && is_of t c ns job (ns, n)) ≡ true)
  stays_here n h = (
    first_of_both (has_key base (ns, n)) (not (has_key taken (ns, n)) && is_of t c ns job (ns, n)) h,
    second_of_both (has_key base (ns, n)) (not (has_key taken (ns, n)) && is_of t c ns job (ns, n)) h,
  )

  pub number_left : (n : ℕ) → here n ≡ true → anyone ≡ true
  number_left n h = holds (λ key. not (has_key taken key) && is_of t c ns job key) base (ns, n) (stays_here n h).0 (stays_here n h).1

  row_of : (n : ℕ) → here n ≡ true → of_the_job (evaluation_at (view t c) (ns, n)) ≡ true
  row_of n h = second_of_both (same_name ns ns) (of_the_job (evaluation_at (view t c) (ns, n)))
      (second_of_both (not (has_key taken (ns, n))) (is_of t c ns job (ns, n)) (stays_here n h).1)

  some_row : {A : Type 0} (r : Option Evaluation) → of_the_job r ≡ true → ((e : Evaluation) → r ≡ Some e → e.job ≡ job → A) → A
  some_row None is k = not_both is refl
  some_row (Some e) is k = k e refl (sym (same_name_is job e.job is))

  pub nowhere_left : row_at t.tenants ns ≡ None → false ≡ anyone
  nowhere_left is = same_truth false anyone (λ e. not_both e refl)
      (λ any. left_number any (λ n h. sym (ap of_the_job (ap (option_and_then (λ t. get t.evaluations n)) (none_seen t c ns is))) ∙ row_of n h))

  module _ (x : TenantRows) (is : row_at t.tenants ns ≡ Some x) (s : Bool) (sound : s ≡ true → anyone ≡ true)
      (complete : (n : ℕ) (e : Evaluation) → row_at x.evaluations.slots n ≡ Some e → e.job ≡ job → here n ≡ true → s ≡ true) where
    stored : (n : ℕ) → here n ≡ true → evaluation_at (view t c) (ns, n) ≡ row_at x.evaluations.slots n → s ≡ true
    stored n h at = some_row (row_at x.evaluations.slots n) (sym (ap of_the_job at) ∙ row_of n h) (λ e row of. complete n e row of h)

    pub kept_left : row_at c.tenants ns ≡ None → s ≡ anyone
    kept_left none = same_truth s anyone sound (λ any. left_number any (λ n h. stored n h
        (ap (option_and_then (λ t. get t.evaluations n)) (kept_seen t c ns x is none) ∙ get-rows numbers x.evaluations.slots n)))

    pub changed_left : (y : TenantChange) → row_at c.tenants ns ≡ Some y → (d : Bool) → d ≡ list_any (λ slot. here slot.0) (entries y.evaluations) →
        (s || d) ≡ anyone
    changed_left y some d among = same_truth (s || d) anyone
        (λ e. or_cases s d e sound (λ e. out_slots here (entries y.evaluations) (sym among ∙ e) number_left))
        (λ any. left_number any (λ n h. by n h (get y.evaluations n) refl))
      where
        by : (n : ℕ) → here n ≡ true → (r : Option (Option Evaluation)) → get y.evaluations n ≡ r → (s || d) ≡ true
        by n h (Some slot) g = or_right s d (among ∙ in_slots here (entries y.evaluations) n (ap is_some (sym (get-entries y.evaluations n) ∙ g)) h)
        by n h None g = ap (λ b. b || d) (stored n h (ap (option_and_then (λ t. get t.evaluations n)) (changed_seen t c ns x y is some)
            ∙ get-over numbers one_number (rows x.evaluations.slots) y.evaluations n ∙ ap (λ r. unwrap_or r (get (rows x.evaluations.slots) n)) g
            ∙ get-rows numbers x.evaluations.slots n))
