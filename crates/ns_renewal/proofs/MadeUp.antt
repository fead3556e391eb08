-- Evaluations of the jobs that lose allocations by preemption, by the keys of their least victims.
use Rattle.std.specs.Prelude.{◌≡◌, ℕ, ◌+◌, ◌<◌, ◌^◌, true, false, List, [], ◌∷◌, Option, Some, None, filter, find, fold}
use Rattle.std.specs.Prelude.{length, map, min, option_map, suc, unwrap_or}
use Rattle.std.proofs.Common.{inl, inr, refl, sym, ap, subst, ◌∙◌, arith}
use Rattle.std.proofs.lemmas.Bool.Decides.{eqb_tells, leb_tells}
use Rattle.std.proofs.lemmas.List.{length-map}
use Rattle.std.proofs.lemmas.List.Folds.{fold-map}
use Rattle.std.specs.declared.cmp.Ordering.{Ordering}
use Rattle.std.specs.declared.cmp.Ordering.TheVariants.{Less, Equal, Greater}
use Rattle.std.specs.Cmp.{nat_cmp_is}
use Rattle.std.specs.FinMap.Entries.{by_order}
use Rattle.std.specs.FinMap.{entries, entries-insert, from_entries, get, get-from_entries, put}
use Rattle.std.specs.List.{cons_option}
use Rattle.std.specs.Option.{option_and_then, option_map_or}
use Rattle.std.specs.Ordering.{nat_cmp}
use Rattle.ns_types.specs.declared.allocation.Allocation.{Allocation}
use Rattle.ns_types.specs.declared.evaluation.Trigger.TheVariants as Trigger
use Rattle.ns_types.specs.declared.plan.Eviction.{Eviction}
use Rattle.ns_types.specs.State.Lists.{Each}
use Rattle.ns_types.specs.State.Names.{Name, Key, same_name}
use Rattle.ns_types.specs.State.Rows.{World, Tenant}
use Rattle.ns_types.specs.Working.Commit.{Victim, least_of_job, make_up, same_victim_job, victim_at}
use Rattle.ns_types.proofs.Elements.{each_first, each_found, each_kept, each_mapped, filter_map, map_map}
use Rattle.ns_types.proofs.Lists.{each_map}
use Rattle.ns_types.proofs.Named.{first_of_both, numbers, one_name, one_number, same_name_is}
use Rattle.ns_types.proofs.TableRows.{entries_empty}
use Rattle.ns_types.proofs.Tables.{each_row, none_of_any}
use Rattle.ns_types.proofs.Tests.{not_Some, same_Some}
use Rattle.ns_change.specs.Waiting.{lesser}
use Rattle.ns_renewal.specs.Losing.{CanMakeUp, least, least_key, losing, losing_in, losing_keys, numbers_pass, numbers_pass_in, victims_at}
use Rattle.ns_renewal.specs.Renewing.{HasNumbers, SameJobs, SameNumbers, keys_in, renewed}
use Rattle.ns_renewal.proofs.Made.{IsThere, all_renewed, renewal}
use Rattle.ns_types.proofs.Bounds.{within_bound}

-- ---- the first of a table of numbers

abbrev first : List (ℕ × Allocation) → Option (ℕ × Allocation)
first rows = find (λ e. true) (entries (from_entries {R = nat_cmp} rows))

first_put : (n : ℕ) (a : Allocation) (e : ℕ × Allocation) (es : List (ℕ × Allocation)) →
    option_map (λ (e : ℕ × Allocation). e.0) (find (λ e. true) (put nat_cmp n a (e ∷ es))) ≡ Some (min n e.0)
first_put n a e es = elim (leb_tells (suc n) e.0) [
  | inl less ↦ let lt : n < e.0 = omega (arith, less.1) in ap number (sym (nat_cmp_is n e.0 Less lt)) ∙ ap Some (let m : n ≡ min n e.0 = omega arith in m)
  | inr more ↦ elim (eqb_tells n e.0) [
    | inl same ↦ ap number (sym (nat_cmp_is n e.0 Equal same.1)) ∙ ap Some (let m : e.0 ≡ min n e.0 = omega (arith, same.1) in m)
    | inr other ↦ let lt : e.0 < n = omega (arith, more.1, other.1) in
        ap number (sym (nat_cmp_is n e.0 Greater lt)) ∙ ap Some (let m : e.0 ≡ min n e.0 = omega arith in m)
  ]
]
  where
    number : Ordering → Option ℕ
    number r = option_map (λ (e : ℕ × Allocation). e.0)
        (find (λ e. true) (by_order r ((n, a) ∷ e ∷ es) ((e.0, a) ∷ es) (e ∷ put nat_cmp n a es)))

first_number : (rows : List (ℕ × Allocation)) → option_map (λ (e : ℕ × Allocation). e.0) (first rows) ≡ least (map (λ e. e.0) rows)
first_number [] = ap (λ es. option_map (λ (e : ℕ × Allocation). e.0) (find (λ e. true) es)) (entries_empty numbers one_number)
first_number (r ∷ rows) = ap (λ es. option_map (λ (e : ℕ × Allocation). e.0) (find (λ e. true) es)) (entries-insert numbers (from_entries rows) r.0 r.1)
    ∙ by (entries (from_entries {R = nat_cmp} rows)) (first_number rows)
  where
    by : (es : List (ℕ × Allocation)) → option_map (λ (e : ℕ × Allocation). e.0) (find (λ e. true) es) ≡ least (map (λ e. e.0) rows) →
        option_map (λ (e : ℕ × Allocation). e.0) (find (λ e. true) (put nat_cmp r.0 r.1 es)) ≡ lesser (Some r.0) (least (map (λ e. e.0) rows))
    by [] rest = ap (lesser (Some r.0)) rest
    by (e ∷ es) rest = first_put r.0 r.1 e es ∙ ap (lesser (Some r.0)) rest

first_holds : (P : ℕ × Allocation → Type 0) (rows : List (ℕ × Allocation)) → Each P rows → (e : ℕ × Allocation) → first rows ≡ Some e → P e
first_holds P rows all e is = by (entries (from_entries {R = nat_cmp} rows)) (each_row numbers one_number (λ n a. P (n, a)) (from_entries {R = nat_cmp} rows)
    (λ n a at. each_found one_number P rows all n a (sym (get-from_entries numbers rows n) ∙ at))) is
  where
    by : (es : List (ℕ × Allocation)) → Each (λ (e : ℕ × Allocation). P (e.0, e.1)) es → find (λ e. true) es ≡ Some e → P e
    by [] h is = absurd (not_Some e is)
    by (x ∷ xs) h is = subst P (same_Some x e is) h.0

-- ---- the least victims

module _ (w : World) where
  victim_there : (e : Eviction) (v : Victim) → victim_at w e ≡ Some v → IsThere w v
  victim_there e v is = by (get w.tenants e.namespace) refl is
    where
      of : (t : Tenant) → get w.tenants e.namespace ≡ Some t → (o : Option Allocation) → get t.allocations e.number ≡ o →
          option_map (λ a. (e.namespace, (e.number, a))) o ≡ Some v → IsThere w v
      of t at None row is = absurd (not_Some v is)
      of t at (Some a) row is = subst (IsThere w) (same_Some _ v is) (t, at, row)

      by : (o : Option Tenant) → get w.tenants e.namespace ≡ o →
          option_map (λ a. (e.namespace, (e.number, a))) (option_and_then (λ (t : Tenant). get t.allocations e.number) o) ≡ Some v → IsThere w v
      by None at is = absurd (not_Some v is)
      by (Some t) at is = of t at (get t.allocations e.number) refl is

  pub victims_there : (es : List Eviction) → Each (IsThere w) (victims_at w es)
  victims_there [] = tt
  victims_there (e ∷ es) = by (victim_at w e) refl (victims_there es)
    where
      by : (o : Option Victim) → victim_at w e ≡ o → Each (IsThere w) (victims_at w es) → Each (IsThere w) (cons_option o (victims_at w es))
      by None is rest = rest
      by (Some v) is rest = (victim_there e v is, rest)

  module _ (victims : List Victim) (there : Each (IsThere w) victims) where
    -- with the least number of its job, and the row there
    abbrev lost : Victim → Victim
    lost v = (v.0, ((least_key victims v).1, least_of_job victims v))

    lost_there : (v : Victim) → IsThere w v → IsThere w (lost v)
    lost_there v its = subst (λ o. IsThere w (v.0, (unwrap_or o v.1.0, least_of_job victims v)))
        (first_number rows ∙ ap least (map_map (λ e. e.0) (λ (u : Victim). u.1) (filter (same_victim_job v) victims)))
        (by (first rows) refl)
      where
        rows : List (ℕ × Allocation)
        rows = map (λ u. u.1) (filter (same_victim_job v) victims)

        all : Each (λ e. IsThere w (v.0, e)) rows
        all = each_mapped (λ e. IsThere w (v.0, e)) (λ (u : Victim). u.1) (filter (same_victim_job v) victims)
            (each_map (λ (u : Victim) h. subst (λ ns. IsThere w (ns, u.1)) (sym (same_name_is v.0 u.0 (first_of_both _ _ h.1))) h.0)
            (filter (same_victim_job v) victims) (each_kept (IsThere w) (same_victim_job v) victims there))

        by : (o : Option (ℕ × Allocation)) → first rows ≡ o → IsThere w (
          v.0,
          (
            unwrap_or (option_map (λ (e : ℕ × Allocation). e.0) o) v.1.0,
            option_map_or (λ a. a) (option_map (λ (e : ℕ × Allocation). e.1) o) v.1.1,
          ),
        )
        by None is = its
        by (Some e) is = first_holds (λ e. IsThere w (v.0, e)) rows all e is

    pub made_up : (x : World) → SameJobs w x → make_up victims x ≡ fold (renewed Trigger.Preemption w) x (losing_keys victims)
    unfolding make_up
    made_up x same = sym (fold-map (renewal Trigger.Preemption w) (λ v. (v.0, least_of_job victims v)) x (losing victims))
        ∙ ap (fold (renewal Trigger.Preemption w) x) (sym (map_map (λ (e : Victim). (e.0, e.1.1)) lost (losing victims)))
        ∙ all_renewed Trigger.Preemption w (map lost (losing victims)) x same
        (each_mapped (IsThere w) lost (losing victims) (each_map lost_there (losing victims) (each_first (IsThere w) same_victim_job victims there)))
        ∙ ap (fold (renewed Trigger.Preemption w) x) (map_map (λ (e : Victim). (e.0, e.1.0)) lost (losing victims))

-- ---- their numbers

keys_counted : (ns : Name) (victims : List Victim) → keys_in ns (losing_keys victims) ≡ losing_in ns victims
keys_counted ns victims = ap length (filter_map (λ (key : Key). same_name ns key.0) (least_key victims) (losing victims))
    ∙ length-map (filter (λ v. same_name ns v.0) (losing victims)) (least_key victims)

pub has_numbers : (victims : List Victim) (x : World) → CanMakeUp victims x → HasNumbers x (losing_keys victims)
has_numbers victims x can ns t at = subst (λ n. t.evaluation_number + n < 2 ^ 64) (sym (keys_counted ns victims)) (can ns t at)

-- where no number passes its bound, each of them can be given
pub can_make_up : (victims : List Victim) (w x : World) → numbers_pass victims w ≡ false → SameNumbers w x → CanMakeUp victims x
can_make_up victims w x fits same ns z at = by (get w.tenants ns) refl (ap (option_map (λ (t : Tenant). t.evaluation_number)) (sym at) ∙ same ns)
  where
    by : (o : Option Tenant) → get w.tenants ns ≡ o → Some z.evaluation_number ≡ option_map (λ (t : Tenant). t.evaluation_number) o →
        z.evaluation_number + losing_in ns victims < 2 ^ 64
    by None is e = absurd (not_Some _ (sym e))
    by (Some t) is e = subst (λ n. n + losing_in ns victims < 2 ^ 64) (sym (same_Some _ _ e))
        (within_bound _ (none_of_any one_name (numbers_pass_in victims) w.tenants ns t fits is))
