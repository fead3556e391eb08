-- Of each job the victim with the least number.
use Rattle.std.specs.Prelude.{◌≡◌, ℕ, Bool, true, false, cond, not, ◌&&◌, ◌||◌, List, [], ◌∷◌, ◌++◌, Option, Some, None, filter, flat_map, is_some}
use Rattle.std.specs.Prelude.{map, min, option_map, unwrap_or}
use Rattle.std.proofs.Common.{refl, sym, ap, ◌∙◌, arith}
use Rattle.std.proofs.lemmas.Bool.{or_right}
use Rattle.std.specs.Cmp.{eq_by_cmp_equiv}
use Rattle.std.specs.List.{cons_option, list_any}
use Rattle.std.specs.Option.{option_and_then, option_map_or, option_to_list}
use Rattle.std.specs.FinMap.{get}
use Rattle.keyed.specs.Table.{row_at}
use Rattle.keyed.proofs.Tables.{get-rows}
use Rattle.ns_types.specs.declared.allocation.Allocation.{Allocation}
use Rattle.ns_types.specs.declared.plan.Eviction.{Eviction}
use Rattle.ns_types.specs.State.Lists.{Each}
use Rattle.ns_types.specs.State.Names.{Name, Key}
use Rattle.ns_types.specs.State.Rows.{World, Tenant}
use Rattle.ns_types.specs.Working.Commit.{Victim, same_victim_job, victim_at}
use Rattle.ns_types.proofs.Elements.{each_first}
use Rattle.ns_types.proofs.Lists.{not_both}
use Rattle.ns_types.proofs.Named.{first_of_both, names, numbers, same_name_is, same_name_refl, second_of_both}
use Rattle.ns_change.specs.Waiting.{lesser}
use Rattle.ns_renewal.specs.Losing.{is_of_job, keys_left, least, least_key, least_of, losing, losing_keys, victims_at}
use Rattle.ns_renewal.specs.Losses.{Lowers, Puts, number_at}
use Rattle.ns_renewal.specs.declared.losses.Losses.{Losses}
use Rattle.ns_tables.specs.declared.tables.Tables.{Tables}
use Rattle.ns_tables.specs.declared.tables.TenantRows.{TenantRows}
use Rattle.ns_tables.specs.World.{tenant_of, world_of}
use Rattle.ns_tables.proofs.World.{tenant_at}

-- ---- the lesser

pub lesser_none : (a : Option ℕ) → lesser a None ≡ a
lesser_none None = refl
lesser_none (Some m) = refl

pub lesser_assoc : (a b c : Option ℕ) → lesser (lesser a b) c ≡ lesser a (lesser b c)
lesser_assoc None b c = refl
lesser_assoc (Some m) None c = refl
lesser_assoc (Some m) (Some n) None = refl
lesser_assoc (Some m) (Some n) (Some k) = ap Some (let e : min (min m n) k ≡ min m (min n k) = omega arith in e)

-- ---- the least of a job's victims

pub least_first : (v : Victim) (vs : List Victim) (ns job : Name) → least_of (v ∷ vs) ns job ≡ lesser (least_of (v ∷ []) ns job) (least_of vs ns job)
least_first v vs ns job = by (is_of_job ns job v)
  where
    by : (b : Bool) → least (map (λ (v : Victim). v.1.0) (cond b (v ∷ filter (is_of_job ns job) vs) (filter (is_of_job ns job) vs)))
        ≡ lesser (least (map (λ (v : Victim). v.1.0) (cond b (v ∷ []) []))) (least_of vs ns job)
    by true = refl
    by false = refl

pub least_next : (w : World) (e : Eviction) (es : List Eviction) (ns job : Name) →
    least_of (victims_at w (e ∷ es)) ns job ≡ lesser (least_of (victims_at w (e ∷ [])) ns job) (least_of (victims_at w es) ns job)
least_next w e es ns job = by (victim_at w e)
  where
    by : (o : Option Victim) → least_of (cons_option o (victims_at w es)) ns job
        ≡ lesser (least_of (cons_option o []) ns job) (least_of (victims_at w es) ns job)
    by None = refl
    by (Some v) = least_first v (victims_at w es) ns job

some_least : (ns job : Name) (vs : List Victim) → is_some (least_of vs ns job) ≡ list_any (is_of_job ns job) vs
some_least ns job [] = refl
some_least ns job (v ∷ vs) = by (is_of_job ns job v) (some_least ns job vs)
  where
    some : (n : ℕ) (o : Option ℕ) → is_some (lesser (Some n) o) ≡ true
    some n None = refl
    some n (Some m) = refl

    by : (b : Bool) → is_some (least_of vs ns job) ≡ list_any (is_of_job ns job) vs →
        is_some (least (map (λ (v : Victim). v.1.0) (cond b (v ∷ filter (is_of_job ns job) vs) (filter (is_of_job ns job) vs))))
        ≡ (b || list_any (is_of_job ns job) vs)
    by true rest = some v.1.0 (least_of vs ns job)
    by false rest = rest

-- ---- the keys of those jobs that have a number

module _ (h : Name → Name → Option ℕ) where
  abbrev pub key_of : Victim → Option Key
  key_of v = option_map (λ n. (v.0, n)) (h v.0 v.1.1.job)

pub same_turned : (a b : Victim) → same_victim_job a b ≡ is_of_job b.0 b.1.1.job a
same_turned a b = λ i. (eq_by_cmp_equiv names).symm a.0 b.0 i && (eq_by_cmp_equiv names).symm a.1.1.job b.1.1.job i

module _ (h h' : Name → Name → Option ℕ) (v : Victim)
    (taken : (ns job : Name) → h' ns job ≡ cond (is_of_job ns job v) None (h ns job)) where
  without : (ys : List Victim) → flat_map (λ y. option_to_list (key_of h y)) (filter (λ y. not (same_victim_job v y)) ys)
      ≡ flat_map (λ y. option_to_list (key_of h' y)) ys
  without [] = refl
  without (y ∷ ys) = by (same_victim_job v y) refl (without ys)
    where
      others : List Victim
      others = filter (λ y. not (same_victim_job v y)) ys

      left : (b : Bool) → same_victim_job v y ≡ b → h' y.0 y.1.1.job ≡ cond b None (h y.0 y.1.1.job)
      left b e = taken y.0 y.1.1.job ∙ ap (λ b. cond b None (h y.0 y.1.1.job)) (sym (same_turned v y) ∙ e)

      by : (b : Bool) → same_victim_job v y ≡ b →
          flat_map (λ y. option_to_list (key_of h y)) others ≡ flat_map (λ y. option_to_list (key_of h' y)) ys →
          flat_map (λ y. option_to_list (key_of h y)) (cond (not b) (y ∷ others) others)
          ≡ option_to_list (key_of h' y) ++ flat_map (λ y. option_to_list (key_of h' y)) ys
      by true e rest = rest ∙ ap (λ o. option_to_list (option_map (λ n. (y.0, n)) o) ++ flat_map (λ y. option_to_list (key_of h' y)) ys) (sym (left true e))
      by false e rest = ap (λ l. option_to_list (key_of h y) ++ l) rest
          ∙ ap (λ o. option_to_list (option_map (λ n. (y.0, n)) o) ++ flat_map (λ y. option_to_list (key_of h' y)) ys) (sym (left false e))

  first_key : (vs : List Victim) → keys_left h (v ∷ vs) ≡ option_to_list (key_of h v) ++ keys_left h' vs
  first_key vs = ap (λ l. option_to_list (key_of h v) ++ l) (without (losing vs))

-- one eviction after the other
pub next_key : (h h' : Name → Name → Option ℕ) (w : World) (e : Eviction) (es : List Eviction) →
    ((ns job : Name) → h' ns job ≡ cond (option_map_or (is_of_job ns job) (victim_at w e) false) None (h ns job)) →
    keys_left h (victims_at w (e ∷ es)) ≡ option_to_list (option_and_then (key_of h) (victim_at w e)) ++ keys_left h' (victims_at w es)
next_key h h' w e es = by (victim_at w e)
  where
    by : (o : Option Victim) → ((ns job : Name) → h' ns job ≡ cond (option_map_or (is_of_job ns job) o false) None (h ns job)) →
        keys_left h (cons_option o (victims_at w es)) ≡ option_to_list (option_and_then (key_of h) o) ++ keys_left h' (victims_at w es)
    by None taken = λ i. keys_left (λ ns job. sym (taken ns job) i) (victims_at w es)
    by (Some v) taken = first_key h h' v taken (victims_at w es)

-- ---- where each job has the least number of its victims

module _ (victims : List Victim) where
  abbrev HasLeast : Victim → Type 0
  HasLeast v = list_any (is_of_job v.0 v.1.1.job) victims ≡ true

  all_there : (vs : List Victim) → ((v : Victim) → list_any (is_of_job v.0 v.1.1.job) vs ≡ true → HasLeast v) → Each HasLeast vs
  all_there [] still = tt
  all_there (v ∷ vs) still = (
    still v (ap (λ b. b || list_any (is_of_job v.0 v.1.1.job) vs) itself),
    all_there vs (λ y there. still y (or_right (is_of_job y.0 y.1.1.job v) _ there)),
  )
    where
      itself : is_of_job v.0 v.1.1.job v ≡ true
      itself = λ i. same_name_refl v.0 i && same_name_refl v.1.1.job i

  each_key : (vs : List Victim) → Each HasLeast vs →
      flat_map (λ v. option_to_list (key_of (least_of victims) v)) vs ≡ map (least_key victims) vs
  each_key [] there = refl
  each_key (v ∷ vs) there = by (least_of victims v.0 v.1.1.job) (some_least v.0 v.1.1.job victims ∙ there.0) (each_key vs there.1)
    where
      by : (o : Option ℕ) → is_some o ≡ true → flat_map (λ v. option_to_list (key_of (least_of victims) v)) vs ≡ map (least_key victims) vs →
          option_to_list (option_map (λ n. (v.0, n)) o) ++ flat_map (λ v. option_to_list (key_of (least_of victims) v)) vs
          ≡ (v.0, unwrap_or o v.1.0) ∷ map (least_key victims) vs
      by None none rest = not_both none refl
      by (Some n) some rest = ap (λ l. (v.0, n) ∷ l) rest

  pub keys_are : keys_left (least_of victims) victims ≡ losing_keys victims
  keys_are = each_key (losing victims) (each_first HasLeast same_victim_job victims (all_there victims (λ v there. there)))

-- ---- numbers that are lowered

pub lower_one : (old new : Losses) (v : Victim) → Puts v.0 v.1.1.job (lesser (number_at old v.0 v.1.1.job) (Some v.1.0)) old new → Lowers (v ∷ []) old new
lower_one old new v put ns job = put ns job ∙ by (is_of_job ns job v) refl
  where
    by : (b : Bool) → is_of_job ns job v ≡ b → cond b (lesser (number_at old v.0 v.1.1.job) (Some v.1.0)) (number_at old ns job)
        ≡ lesser (number_at old ns job) (least (map (λ (v : Victim). v.1.0) (cond b (v ∷ []) [])))
    by true e = λ i. lesser (number_at old (sym (same_name_is ns v.0 (first_of_both _ _ e)) i) (sym (same_name_is job v.1.1.job (second_of_both _ _ e)) i))
        (Some v.1.0)
    by false e = sym (lesser_none (number_at old ns job))

-- ---- the rows of the tables

module _ (t : Tables) (e : Eviction) where
  abbrev victim_of : Option Allocation → Option Victim
  victim_of o = option_map (λ a. (e.namespace, (e.number, a))) o

  pub victim_nowhere : row_at t.tenants e.namespace ≡ None → victim_at (world_of t) e ≡ None
  victim_nowhere at = ap (λ o. victim_of (option_and_then (λ (t : Tenant). get t.allocations e.number) o))
      (tenant_at t e.namespace ∙ ap (option_map tenant_of) at)

  pub victim_there : (tenant : TenantRows) → row_at t.tenants e.namespace ≡ Some tenant →
      victim_at (world_of t) e ≡ victim_of (row_at tenant.allocations.slots e.number)
  victim_there tenant at = ap (λ o. victim_of (option_and_then (λ (t : Tenant). get t.allocations e.number) o))
      (tenant_at t e.namespace ∙ ap (option_map tenant_of) at) ∙ ap victim_of (get-rows numbers tenant.allocations.slots e.number)
