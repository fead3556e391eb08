-- How many jobs of a namespace lose allocations, victim by victim.
use Rattle.std.specs.Prelude.{◌≡◌, ℕ, ◌+◌, ◌<◌, ◌≤◌, ◌^◌, Bool, true, false, cond, not, ◌&&◌, ◌||◌, List, [], ◌∷◌, Option, Some, None, filter}
use Rattle.std.specs.Prelude.{length, min, nat_lt, option_map, suc, ◌-◌}
use Rattle.std.proofs.Common.{refl, sym, ap, ◌∙◌, arith}
use Rattle.ns_types.proofs.Tests.{and_turned}
use Rattle.std.specs.FinMap.{get}
use Rattle.std.specs.List.{cons_option, list_any}
use Rattle.std.specs.Option.{option_map_or}
use Rattle.ns_types.specs.declared.allocation.Allocation.{Allocation}
use Rattle.ns_types.specs.declared.plan.Eviction.{Eviction}
use Rattle.ns_types.specs.State.Lists.{Each, first_each}
use Rattle.ns_types.specs.State.Names.{Name, same_name}
use Rattle.ns_types.specs.State.Rows.{World, Tenant, allocation_at}
use Rattle.ns_types.specs.State.Tables.{any_row}
use Rattle.ns_types.specs.Steps.{greatest, is_past_bound, is_tenant_past_bound}
use Rattle.ns_types.specs.Working.Commit.{Victim, same_victim_job, victim_at}
use Rattle.ns_types.proofs.Elements.{filter_shorter, first_shorter}
use Rattle.ns_types.proofs.Lists.{left_none, not_both, right_none}
use Rattle.ns_types.proofs.Named.{first_of_both, names, one_name, same_name_is, second_of_both}
use Rattle.ns_types.proofs.TableRows.{each_fails, some_row}
use Rattle.ns_types.proofs.Tables.{any_row-none, none_of_any}
use Rattle.ns_renewal.specs.Losing.{is_last_of_job, is_of_job, losing, losing_in, numbers_pass, numbers_pass_at, numbers_pass_in, victims_at}
use Rattle.ns_renewal.proofs.Least.{same_turned}
use Rattle.ns_types.proofs.Bounds.{past_bound, not_past}

-- ---- the first of each kind, when one comes before

module _ {A : Type 0} (same : A → A → Bool) (turned : (a b : A) → same a b ≡ same b a)
    (alike : (a b c : A) → same a b ≡ true → same a c ≡ same b c) where
  abbrev count : (A → Bool) → List A → ℕ
  count q xs = length (filter q xs)

  count_first : (q : A → Bool) (x : A) (xs : List A) → count q (x ∷ xs) ≡ count q xs + cond (q x) 1 0
  count_first q x xs = elim (q x) as (λ b. length (cond b (x ∷ filter q xs) (filter q xs)) ≡ length (filter q xs) + cond b 1 0)
      [ true ↦ omega arith | false ↦ omega arith ]

  count_under : (p q : A → Bool) (xs : List A) → count q (filter p xs) ≡ count (λ y. p y && q y) xs
  count_under p q [] = refl
  count_under p q (x ∷ xs) = by (p x) (count_under p q xs)
    where
      by : (b : Bool) → length (filter q (filter p xs)) ≡ length (filter (λ y. p y && q y) xs) →
          length (filter q (cond b (x ∷ filter p xs) (filter p xs)))
          ≡ length (cond (b && q x) (x ∷ filter (λ y. p y && q y) xs) (filter (λ y. p y && q y) xs))
      by true rest = elim (q x) as (λ b. length (cond b (x ∷ filter q (filter p xs)) (filter q (filter p xs)))
          ≡ length (cond b (x ∷ filter (λ y. p y && q y) xs) (filter (λ y. p y && q y) xs))) [ true ↦ ap suc rest | false ↦ rest ]
      by false rest = rest

  count_alike : (p q : A → Bool) → ((x : A) → p x ≡ q x) → (xs : List A) → count p xs ≡ count q xs
  count_alike p q e xs = ap (λ f. count f xs) (λ i x. e x i)

  abbrev other : A → A → Bool
  other v y = not (same v y)

  -- of those like v one is taken out, if there is one
  taken_out : (v : A) (xs : List A) (q : A → Bool) → ((y : A) → same v y ≡ true → q y ≡ q v) →
      count q (first_each same xs) ≡ count q (filter (other v) (first_each same xs)) + cond (list_any (same v) xs && q v) 1 0
  taken_out v [] q like = omega arith
  taken_out v (u ∷ us) q like = by (same v u) refl (taken_out v us)
    where
      firsts : List A
      firsts = first_each same us

      rest : List A
      rest = filter (other u) firsts

      Claim : Bool → Type 0
      Claim b = count q (u ∷ rest) ≡ count q (cond (not b) (u ∷ filter (other v) rest) (filter (other v) rest))
          + cond ((b || list_any (same v) us) && q v) 1 0

      -- those like u are those like v
      no_others : same v u ≡ true → count q (filter (other v) rest) ≡ count q rest
      no_others e = count_under (other v) q rest ∙ count_under (other u) (λ y. other v y && q y) firsts
          ∙ count_alike _ _ (λ y. ap (λ b. not (same u y) && (not b && q y)) (alike v u y e) ∙ twice (same u y) (q y)) firsts
          ∙ sym (count_under (other u) q firsts)
        where
          twice : (a b : Bool) → (not a && (not a && b)) ≡ (not a && b)
          twice true b = refl
          twice false b = refl

      swapped : count (λ y. other u y && q y) (filter (other v) firsts) ≡ count q (filter (other v) rest)
      swapped = count_under (other v) (λ y. other u y && q y) firsts
          ∙ count_alike _ _ (λ y. and_turned (other v y) (other u y) (q y)) firsts
          ∙ sym (count_under (other v) q rest ∙ count_under (other u) (λ y. other v y && q y) firsts)

      by : (b : Bool) → same v u ≡ b → ((q : A → Bool) → ((y : A) → same v y ≡ true → q y ≡ q v) →
          count q firsts ≡ count q (filter (other v) firsts) + cond (list_any (same v) us && q v) 1 0) → Claim b
      by true e later = count_first q u rest ∙ (λ i. sym (no_others e) i + cond (like u e i) 1 0)
      by false e later =
          let apart : same u v ≡ false = turned u v ∙ e in
          let both : count (λ y. other u y && q y) firsts ≡ count (λ y. other u y && q y) (filter (other v) firsts)
          + cond (list_any (same v) us && (other u v && q v)) 1 0
          = later (λ y. other u y && q y) (λ y t. λ i. not (to y t i) && like y t i) in
          let here : count q rest ≡ count q (filter (other v) rest) + cond (list_any (same v) us && q v) 1 0
          = count_under (other u) q firsts ∙ both ∙ (λ i. swapped i + cond (list_any (same v) us && (not (apart i) && q v)) 1 0) in
          let first_is : count q (u ∷ rest) ≡ count q rest + cond (q u) 1 0 = count_first q u rest in
          let then_is : count q (u ∷ filter (other v) rest) ≡ count q (filter (other v) rest) + cond (q u) 1 0 = count_first q u (filter (other v) rest) in
          omega (arith, here, first_is, then_is)
        where
          to : (y : A) → same v y ≡ true → same u y ≡ same u v
          to y t = turned u y ∙ sym (alike v y u t) ∙ turned v u

-- ---- victims

pub alike_victims : (a b c : Victim) → same_victim_job a b ≡ true → same_victim_job a c ≡ same_victim_job b c
alike_victims a b c e = λ i. same_name (same_name_is a.0 b.0 (first_of_both _ _ e) i) c.0
    && same_name (same_name_is a.1.1.job b.1.1.job (second_of_both _ _ e) i) c.1.1.job

count_victim : (ns : Name) (v : Victim) (vs : List Victim) →
    losing_in ns (v ∷ vs) ≡ cond (is_last_of_job ns vs v) (losing_in ns vs + 1) (losing_in ns vs)
count_victim ns v vs = by (same_name ns v.0) (list_any (same_victim_job v) vs)
    (count_first same_victim_job same_turned alike_victims (λ v. same_name ns v.0) v (filter (λ y. not (same_victim_job v y)) (losing vs)))
    (taken_out same_victim_job same_turned alike_victims v vs (λ v. same_name ns v.0)
    (λ y t. ap (same_name ns) (sym (same_name_is v.0 y.0 (first_of_both _ _ t)))))
  where
    others : ℕ
    others = length (filter (λ v. same_name ns v.0) (filter (λ y. not (same_victim_job v y)) (losing vs)))

    by : (own later : Bool) → losing_in ns (v ∷ vs) ≡ others + cond own 1 0 → losing_in ns vs ≡ others + cond (later && own) 1 0 →
        losing_in ns (v ∷ vs) ≡ cond (own && not later) (losing_in ns vs + 1) (losing_in ns vs)
    by true true all rest = all ∙ sym rest
    by true false all rest = omega (arith, all, rest)
    by false true all rest = all ∙ sym rest
    by false false all rest = all ∙ sym rest

pub count_next : (w : World) (ns : Name) (e : Eviction) (es : List Eviction) → losing_in ns (victims_at w (e ∷ es))
    ≡ cond (option_map_or (is_last_of_job ns (victims_at w es)) (victim_at w e) false) (losing_in ns (victims_at w es) + 1) (losing_in ns (victims_at w es))
count_next w ns e es = by (victim_at w e)
  where
    by : (o : Option Victim) → losing_in ns (cons_option o (victims_at w es))
        ≡ cond (option_map_or (is_last_of_job ns (victims_at w es)) o false) (losing_in ns (victims_at w es) + 1) (losing_in ns (victims_at w es))
    by None = refl
    by (Some v) = count_victim ns v (victims_at w es)

pub last_here : (ns : Name) (later : List Victim) (v : Victim) → same_name ns v.0 ≡ true →
    not (list_any (is_of_job ns v.1.1.job) later) ≡ is_last_of_job ns later v
last_here ns later v own = ap (λ n. not (list_any (is_of_job n v.1.1.job) later)) (same_name_is ns v.0 own)
    ∙ sym (ap (λ b. b && not (list_any (same_victim_job v) later)) own)

-- ---- bounds

numbers_within : (w : World) → is_past_bound w ≡ false → (ns : Name) (t : Tenant) → get w.tenants ns ≡ Some t →
    nat_lt greatest t.evaluation_number ≡ false
unfolding is_past_bound
numbers_within w within ns t at = right_none (nat_lt greatest t.index) _ (left_none (nat_lt greatest t.index || nat_lt greatest t.evaluation_number) _
    (none_of_any one_name (λ _ t. is_tenant_past_bound t) w.tenants ns t (left_none (any_row (λ _ t. is_tenant_past_bound t) w.tenants) _
    (left_none _ _ within)) at))

-- ---- one namespace, eviction by eviction

module _ (w : World) (ns : Name) (e : Eviction) (es : List Eviction) where
  abbrev is_last : Bool
  is_last = option_map_or (is_last_of_job ns (victims_at w es)) (victim_at w e) false

  counted : (b : Bool) → is_last ≡ b → losing_in ns (victims_at w (e ∷ es)) ≡ cond b (losing_in ns (victims_at w es) + 1) (losing_in ns (victims_at w es))
  counted b last = count_next w ns e es ∙ ap (λ b. cond b (losing_in ns (victims_at w es) + 1) (losing_in ns (victims_at w es))) last

  module _ (rest : List Eviction) (is : rest ≡ e ∷ es) (number total : ℕ) (so_far : number + losing_in ns (victims_at w rest) ≡ total) where
    here : number + losing_in ns (victims_at w (e ∷ es)) ≡ total
    here = sym (ap (λ es. number + losing_in ns (victims_at w es)) is) ∙ so_far

    pub next_number : is_last ≡ true → (number + 1) + losing_in ns (victims_at w es) ≡ total
    next_number last = omega (arith, counted true last, here)

    pub same_number : is_last ≡ false → number + losing_in ns (victims_at w es) ≡ total
    same_number last = omega (arith, counted false last, here)

    pub no_number : is_last ≡ true → number ≡ greatest → true ≡ nat_lt greatest total
    no_number last end = sym (past_bound total (omega (arith, counted true last, here, end)))

pub all_numbers : (w : World) (ns : Name) (rest : List Eviction) (number total : ℕ) → number + losing_in ns (victims_at w rest) ≡ total → rest ≡ [] →
    number < 2 ^ 64 → false ≡ nat_lt greatest total
all_numbers w ns rest number total so_far none fits =
    let none_left : losing_in ns (victims_at w rest) ≡ 0 = ap (λ es. losing_in ns (victims_at w es)) none in
    sym (not_past total (omega (arith, none_left, so_far)))

-- no more jobs than evictions
found_shorter : (w : World) (es : List Eviction) → length (victims_at w es) ≤ length es
found_shorter w [] = omega arith
found_shorter w (e ∷ es) = by (victim_at w e) (found_shorter w es)
  where
    by : (o : Option Victim) → length (victims_at w es) ≤ length es → length (cons_option o (victims_at w es)) ≤ suc (length es)
    by None less = omega arith
    by (Some v) less = omega arith

few_jobs : (w : World) (ns : Name) (es : List Eviction) → losing_in ns (victims_at w es) ≤ length es
few_jobs w ns es = omega (
  arith,
  filter_shorter (λ (v : Victim). same_name ns v.0) (losing (victims_at w es)),
  first_shorter same_victim_job (victims_at w es),
  found_shorter w es,
)

pub enough : (w : World) (es : List Eviction) (ns : Name) (t : Tenant) (count : ℕ) → count ≡ min (length es) greatest →
    count < greatest - t.evaluation_number → false ≡ numbers_pass_in (victims_at w es) ns t
enough w es ns t count is less = sym (not_past _ (omega (arith, few_jobs w ns es, is, less)))

-- ---- all namespaces

module _ (w : World) (es : List Eviction) where
  abbrev victims : List Victim
  victims = victims_at w es

  abbrev passes_at : Eviction → Bool
  passes_at e = numbers_pass_at w victims e.namespace

  some_pass : (xs : List Eviction) → list_any passes_at xs ≡ true → numbers_pass victims w ≡ true
  some_pass [] e = not_both e refl
  some_pass (x ∷ xs) e = by (passes_at x) refl e (some_pass xs)
    where
      row : (o : Option Tenant) → get w.tenants x.namespace ≡ o → option_map_or (numbers_pass_in victims x.namespace) o false ≡ true →
          numbers_pass victims w ≡ true
      row None at e = not_both e refl
      row (Some t) at e = some_row names one_name (numbers_pass_in victims) w.tenants x.namespace t at e

      by : (b : Bool) → passes_at x ≡ b → (b || list_any passes_at xs) ≡ true → (list_any passes_at xs ≡ true → numbers_pass victims w ≡ true) →
          numbers_pass victims w ≡ true
      by true passes e later = row (get w.tenants x.namespace) refl passes
      by false passes e later = later e

  -- a namespace without evictions loses nothing
  none_of : (ns : Name) (xs : List Eviction) → Each (λ (e : Eviction). same_name ns e.namespace ≡ false) xs → losing_in ns (victims_at w xs) ≡ 0
  none_of ns [] all = refl
  none_of ns (x ∷ xs) all = count_next w ns x xs
      ∙ (λ i. cond (not_last i) (none_of ns xs all.1 i + 1) (none_of ns xs all.1 i))
    where
      of : (o : Option Allocation) → option_map_or (is_last_of_job ns (victims_at w xs)) (option_map (λ a. (x.namespace, (x.number, a))) o) false ≡ false
      of None = refl
      of (Some a) = ap (λ b. b && not (list_any (same_victim_job (x.namespace, (x.number, a))) (victims_at w xs))) all.0

      not_last : option_map_or (is_last_of_job ns (victims_at w xs)) (victim_at w x) false ≡ false
      not_last = of (allocation_at w (x.namespace, x.number))

  -- where those with evictions have their numbers, so have all
  rows_fit : is_past_bound w ≡ false → Each (λ e. passes_at e ≡ false) es → (ns : Name) (t : Tenant) → get w.tenants ns ≡ Some t →
      numbers_pass_in victims ns t ≡ false
  rows_fit within fits ns t at = by (list_any (λ (e : Eviction). same_name ns e.namespace) es) refl
    where
      own : (xs : List Eviction) → Each (λ e. passes_at e ≡ false) xs → list_any (λ (e : Eviction). same_name ns e.namespace) xs ≡ true →
          numbers_pass_in victims ns t ≡ false
      own [] all e = not_both e refl
      own (x ∷ xs) all e = of (same_name ns x.namespace) refl e (own xs all.1)
        where
          of : (b : Bool) → same_name ns x.namespace ≡ b → (b || list_any (λ (e : Eviction). same_name ns e.namespace) xs) ≡ true →
              (list_any (λ (e : Eviction). same_name ns e.namespace) xs ≡ true → numbers_pass_in victims ns t ≡ false) → numbers_pass_in victims ns t ≡ false
          of true own e later = sym (ap (numbers_pass_at w victims) (sym (same_name_is ns x.namespace own))
              ∙ ap (λ o. option_map_or (numbers_pass_in victims ns) o false) at) ∙ all.0
          of false own e later = later e

      by : (b : Bool) → list_any (λ (e : Eviction). same_name ns e.namespace) es ≡ b → numbers_pass_in victims ns t ≡ false
      by true e = own es fits e
      by false e = ap (λ n. nat_lt greatest (t.evaluation_number + n)) (none_of ns es (each_fails _ es e))
          ∙ ap (nat_lt greatest) (let z : t.evaluation_number + 0 ≡ t.evaluation_number = omega arith in z) ∙ numbers_within w within ns t at

  pub anywhere : is_past_bound w ≡ false → list_any passes_at es ≡ numbers_pass victims w
  anywhere within = by (list_any passes_at es) refl
    where
      by : (b : Bool) → list_any passes_at es ≡ b → b ≡ numbers_pass victims w
      by true e = sym (some_pass es e)
      by false e = sym (any_row-none names one_name (numbers_pass_in victims) w.tenants (rows_fit within (each_fails passes_at es e)))
