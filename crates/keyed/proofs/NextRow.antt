-- The next row of a table: what a scan of its slots leaves behind, and what it ends with.
use Rattle.std.specs.Prelude.{◌≡◌, ℕ, suc, ◌+◌, ◌<◌, ◌≤◌, Bool, true, false, cond, nat_eq, nat_lt, T, IsTrue, List, [], ◌∷◌, length}
use Rattle.std.specs.Prelude.{Option, Some, None, is_some}
use Rattle.std.proofs.Common.{refl, sym, ap, subst, ◌∙◌, arith, get_or}
use Rattle.std.proofs.lemmas.Bool.Decides.{nat_tests}
use Rattle.std.proofs.lemmas.List.{get_or_default}
use Rattle.std.specs.declared.cmp.Ordering.TheVariants.{Less, Equal, Greater}
use Rattle.std.specs.Cmp.{nat_cmp_is, tied_itself}
use Rattle.std.specs.Ordering.{is_eq, is_lt, nat_cmp}
use Rattle.std.specs.FinMap.{from_sorted, get-from_sorted}
use Rattle.std.specs.FinMap.Entries.{find, is_sorted}
use Rattle.keyed.specs.Slots.{Passed}
use Rattle.keyed.specs.Table.{IsNextRow, flat, row_at}
use Rattle.keyed.proofs.Levels.{none_there, not_true}
use Rattle.keyed.proofs.Places.{rises, stands}
use Rattle.ns_types.proofs.Named.{numbers, one_number}
use Rattle.ns_types.proofs.Tables.{tied}
use Rattle.ns_types.specs.State.Names.{same_number}

not_above : {A : Type 0} (x y : ℕ) → x ≤ y → nat_cmp x y ≡ Greater → A
not_above {A = A} x y le above = by (nat_eq x y) refl
  where
    by : (b : Bool) → nat_eq x y ≡ b → A
    by true e =
        let same : x ≡ y = grind (arith, nat_tests) in
        not_true (sym (ap is_eq (nat_cmp_is x y Equal same ∙ above)))
    by false e =
        let less : x < y = grind (arith, nat_tests) in
        not_true (sym (ap is_lt (nat_cmp_is x y Less less ∙ above)))

not_below : {A : Type 0} (x y : ℕ) → y ≤ x → nat_cmp x y ≡ Less → A
not_below {A = A} x y le below = by (nat_eq x y) refl
  where
    by : (b : Bool) → nat_eq x y ≡ b → A
    by true e =
        let same : x ≡ y = grind (arith, nat_tests) in
        not_true (ap is_lt (nat_cmp_is x y Equal same ∙ below))
    by false e =
        let less : y < x = grind (arith, nat_tests) in
        not_true (ap is_lt (nat_cmp_is x y Greater less ∙ below))

module _ {V : Type 0} where
  -- where no slot of the number has a row
  no_row : (es : List (ℕ × Option V)) (n : ℕ) →
      ((j : ℕ) (d : ℕ × Option V) → j < length es → (get_or es j d).0 ≡ n → is_some (get_or es j d).1 ≡ false) → flat (find nat_cmp n es) ≡ None
  no_row [] n h = refl
  no_row (e ∷ es) n h = by (λ t. no_row es n (λ j d lt is. h (suc j) d (omega arith) is)) (same_number n e.0) refl
    where
      by : (Unit {0} → flat (find nat_cmp n es) ≡ None) → (b : Bool) → same_number n e.0 ≡ b → flat (cond b (Some e.1) (find nat_cmp n es)) ≡ None
      by later true t = none_there e.1 (h 0 e (omega arith) (sym (tied one_number n e.0 t)))
      by later false t = later tt

  -- the slots before i have no row from the number on
  abbrev pub NoneBefore : ℕ → List (ℕ × Option V) → ℕ → Type 0
  NoneBefore from es i = (j : ℕ) (d : ℕ × Option V) → j < i → j < length es → from ≤ (get_or es j d).0 → is_some (get_or es j d).1 ≡ false

  pub none_below : (from : ℕ) (es : List (ℕ × Option V)) (i : ℕ) → Passed nat_cmp from es i → NoneBefore from es i
  none_below from es i passed j d lt in_es le = not_above from (get_or es j d).0 le (passed j d lt in_es)

  module _ (from : ℕ) (es : List (ℕ × Option V)) (i : ℕ) (none : NoneBefore from es i) where
    pub none_next : (slot : ℕ × Option V) → slot ≡ get_or es i slot → i < length es → (from ≤ slot.0 → is_some slot.1 ≡ false) →
        NoneBefore from es (i + 1)
    none_next slot is in_slots vacant j d lt in_es le = by (nat_eq j i) refl
      where
        by : (b : Bool) → nat_eq j i ≡ b → is_some (get_or es j d).1 ≡ false
        by true e =
            let at : j ≡ i = grind (arith, nat_tests) in
            let same : get_or es j d ≡ slot = ap (λ n. get_or es n d) at ∙ get_or_default es i d slot in_slots ∙ sym is in
            ap (λ (s : ℕ × Option V). is_some s.1) same ∙ vacant (subst (λ (s : ℕ × Option V). from ≤ s.0) same le)
        by false e =
            let earlier : j < i = grind (arith, nat_tests) in
            none j d earlier in_es le

    module _ (sorted : T (is_sorted nat_cmp es)) where
      pub none_left : length es ≤ i → IsNextRow (from_sorted es) from None
      none_left end n le = ap flat (get-from_sorted nat_cmp es n sorted)
          ∙ no_row es n (λ j d lt is. none j d (omega arith) lt (subst (λ k. from ≤ k) (sym is) le))

      pub row_found : (slot : ℕ × Option V) → slot ≡ get_or es i slot → i < length es → from ≤ slot.0 → is_some slot.1 ≡ true →
          IsNextRow (from_sorted es) from (Some slot.0)
      row_found slot is in_slots le there = (le, here, before)
        where
          here : IsTrue (is_some (row_at (from_sorted {R = nat_cmp} es) slot.0))
          here = ap (λ r. is_some (flat r)) (get-from_sorted nat_cmp es slot.0 sorted
              ∙ (stands nat_cmp numbers slot.0 es i slot sorted in_slots
              (ap (λ (s : ℕ × Option V). nat_cmp slot.0 s.0) (sym is) ∙ tied_itself numbers slot.0)).find_is slot)
              ∙ ap (λ (s : ℕ × Option V). is_some s.1) (sym is) ∙ there

          after : (n j : ℕ) (d : ℕ × Option V) → n < slot.0 → i ≤ j → j < length es → (get_or es j d).0 ≡ n → is_some (get_or es j d).1 ≡ false
          after n j d less from_i lt at = by (nat_eq j i) refl
            where
              by : (b : Bool) → nat_eq j i ≡ b → is_some (get_or es j d).1 ≡ false
              by true e =
                  let same : j ≡ i = grind (arith, nat_tests) in
                  let number : (get_or es j d).0 ≡ slot.0 =
                  ap (λ k. (get_or es k d).0) same ∙ ap (λ (s : ℕ × Option V). s.0) (get_or_default es i d slot in_slots ∙ sym is) in
                  absurd (omega (arith, number, at))
              by false e =
                  let further : i < j = grind (arith, nat_tests) in
                  let below = rises nat_cmp es i j slot d sorted further lt in
                  let number : (get_or es i slot).0 ≡ slot.0 = ap (λ (s : ℕ × Option V). s.0) (sym is) in
                  not_below (get_or es i slot).0 (get_or es j d).0 (omega (arith, number, at)) below

          before : (n : ℕ) → from ≤ n → n < slot.0 → row_at (from_sorted {R = nat_cmp} es) n ≡ None
          before n from_n less = ap flat (get-from_sorted nat_cmp es n sorted) ∙ no_row es n (λ j d lt at. by j d lt at (nat_lt j i) refl)
            where
              by : (j : ℕ) (d : ℕ × Option V) → j < length es → (get_or es j d).0 ≡ n → (b : Bool) → nat_lt j i ≡ b → is_some (get_or es j d).1 ≡ false
              by j d lt at true e =
                  let earlier : j < i = grind (arith, nat_tests) in
                  none j d earlier lt (subst (λ k. from ≤ k) (sym at) from_n)
              by j d lt at false e =
                  let later : i ≤ j = grind (arith, nat_tests) in
                  after n j d less later lt at
