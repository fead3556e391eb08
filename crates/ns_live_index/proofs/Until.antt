-- A list by number splits at any number: in that order come those up to it, and then those after it.
use Rattle.std.specs.Prelude.{◌≡◌, ℕ, ◌<◌, ◌≤◌, Bool, true, false, cond, not, T, List, [], ◌∷◌, ◌++◌, Option, Some, None, filter, map, nat_lt}
use Rattle.std.proofs.Common.{refl, sym, ap, ap₂, subst, ◌∙◌, arith, Less}
use Rattle.std.proofs.lemmas.Bool.{le-ltb, lt-ltb, ltb-false, ltb-true}
use Rattle.std.proofs.lemmas.List.{map-append}
use Rattle.std.specs.Cmp.{ranked}
use Rattle.std.specs.FinMap.{entries, entries_sorted, from_entries, get-from_entries, retain_keys, same_map, values}
use Rattle.std.specs.FinMap.Entries.{below_all, find-where_key, is_sorted, is_sorted-where_key, where_key}
use Rattle.std.specs.Ordering.{is_lt, nat_cmp}
use Rattle.ns_types.specs.declared.allocation.Allocation.{Allocation}
use Rattle.ns_types.specs.State.Lists.{Each, by_number}
use Rattle.ns_types.specs.State.Names.{ByNumber, Name}
use Rattle.ns_types.specs.State.Rows.{World}
use Rattle.ns_types.specs.Working.Snapshot.{allocations_on, live_on, seen_live}
use Rattle.ns_types.proofs.Elements.{each_passes, filter_map}
use Rattle.ns_types.proofs.Lists.{filter_all}
use Rattle.ns_types.proofs.Named.{numbers, one_number}
use Rattle.ns_types.proofs.TableRows.{entries_empty}
use Rattle.ns_types.proofs.Tables.{entries-retain, get-retain, less_by}
use Rattle.ns_types.proofs.Tests.{first, second}
use Rattle.ns_live_index.specs.Until.{is_past, is_until, last_number, live_after, live_until}

-- ---- numbers

below : (k m : ℕ) → T (is_lt (nat_cmp k m)) → k < m
below k m h = ranked k m Less (sym (less_by _ h))

-- a greater number is past it too
past_more : (last : Option ℕ) (k m : ℕ) → k < m → is_past last k ≡ true → is_past last m ≡ true
past_more None k m lt h = refl
past_more (Some l) k m lt h = let under = ltb-true l k h in lt-ltb l m (omega arith)

-- a smaller number is up to it too
until_less : (last : Option ℕ) (k m : ℕ) → k < m → is_until last m ≡ true → is_until last k ≡ true
until_less None k m lt h = h
until_less (Some l) k m lt h = ap not (by (nat_lt l k) refl)
  where
    by : (b : Bool) → nat_lt l k ≡ b → nat_lt l k ≡ false
    by false e = e
    by true e = absurd (no_truth (ap not (sym (past_more (Some l) k m lt e)) ∙ h))
      where
        no_truth : false ≡ true → ⊥
        no_truth e = cc

-- what is up to one number is up to another past it
until_past : (last : Option ℕ) (k m : ℕ) → is_past last k ≡ true → is_until last m ≡ true → is_until (Some k) m ≡ true
until_past None k m past until = cc
until_past (Some l) k m past until = ap not (le-ltb k m (by (nat_lt l m) refl until))
  where
    by : (b : Bool) → nat_lt l m ≡ b → not b ≡ true → m ≤ k
    by true e h = cc
    by false e h = let under = ltb-true l k past in let over = ltb-false l m e in omega arith

module _ {X : Type 0} where
  -- all that come after one that is past the number are past it
  all_past : (last : Option ℕ) (k : ℕ) (es : List (ℕ × X)) → T (below_all nat_cmp k es) → is_past last k ≡ true → Each (λ e. is_past last e.0 ≡ true) es
  all_past last k [] h past = tt
  all_past last k (e ∷ es) h past = (past_more last k e.0 (below k e.0 (first _ _ h)) past, all_past last k es (second _ _ h) past)

  none_until : (last : Option ℕ) (es : List (ℕ × X)) → Each (λ e. is_past last e.0 ≡ true) es → filter (λ e. is_until last e.0) es ≡ []
  none_until last [] h = refl
  none_until last (e ∷ es) h = ap (λ b. cond (not b) (e ∷ filter (λ e. is_until last e.0) es) (filter (λ e. is_until last e.0) es)) h.0
      ∙ none_until last es h.1

  parted : (last : Option ℕ) (es : List (ℕ × X)) → T (is_sorted nat_cmp es) →
      filter (λ e. is_until last e.0) es ++ filter (λ e. is_past last e.0) es ≡ es
  parted last [] sorted = refl
  parted last (e ∷ es) sorted = by (is_past last e.0) refl (parted last es (second _ _ sorted))
    where
      by : (b : Bool) → is_past last e.0 ≡ b →
          filter (λ e. is_until last e.0) es ++ filter (λ e. is_past last e.0) es ≡ es →
          cond (not b) (e ∷ filter (λ e. is_until last e.0) es) (filter (λ e. is_until last e.0) es)
          ++ cond b (e ∷ filter (λ e. is_past last e.0) es) (filter (λ e. is_past last e.0) es) ≡ e ∷ es
      by true past rest =
          let later = all_past last e.0 es (first _ _ sorted) past in
          ap₂ (λ xs ys. xs ++ e ∷ ys) (none_until last es later) (filter_all (λ e. is_past last e.0) es later)
      by false past rest = ap (λ xs. e ∷ xs) rest

  -- ---- the last one

  -- no number is after the last one
  rises : (k : ℕ) (es : List (ℕ × X)) → T (below_all nat_cmp k es) → T (is_sorted nat_cmp es) →
      (is_until (last_number (Some k) es) k ≡ true) × Each (λ e. is_until (last_number (Some k) es) e.0 ≡ true) es
  rises k [] h sorted = (ap not (le-ltb k k (omega arith)), tt)
  rises k (e ∷ es) h sorted =
      let later = rises e.0 es (first _ _ sorted) (second _ _ sorted) in
      (until_less (last_number (Some e.0) es) k e.0 (below k e.0 (first _ _ h)) later.0, later)

  last_up : (last : Option ℕ) (m : ℕ) (es : List (ℕ × X)) → T (is_sorted nat_cmp es) → Each (λ e. is_past last e.0 ≡ true) es → is_until last m ≡ true →
      is_until (last_number last es) m ≡ true
  last_up last m [] sorted past h = h
  last_up last m (e ∷ es) sorted past h = last_up (Some e.0) m es (second _ _ sorted)
      (all_after e.0 es (first _ _ sorted)) (until_past last e.0 m past.0 h)
    where
      all_after : (k : ℕ) (es : List (ℕ × X)) → T (below_all nat_cmp k es) → Each (λ e. is_past (Some k) e.0 ≡ true) es
      all_after k [] h = tt
      all_after k (e ∷ es) h = (lt-ltb k e.0 (below k e.0 (first _ _ h)), all_after k es (second _ _ h))

  -- up to the last of those past a number, or that number, are all
  all_until : (last : Option ℕ) (es : List (ℕ × X)) → T (is_sorted nat_cmp es) →
      Each (λ e. is_until (last_number last (filter (λ e. is_past last e.0) es)) e.0 ≡ true) es
  all_until last [] sorted = tt
  all_until last (e ∷ es) sorted = by (is_past last e.0) refl (all_until last es (second _ _ sorted))
    where
      by : (b : Bool) → is_past last e.0 ≡ b →
          Each (λ e. is_until (last_number last (filter (λ e. is_past last e.0) es)) e.0 ≡ true) es →
          Each (λ x. is_until (last_number last (cond b (e ∷ filter (λ e. is_past last e.0) es)
          (filter (λ e. is_past last e.0) es))) x.0 ≡ true) (e ∷ es)
      by true past rest = subst_list (sym (filter_all (λ e. is_past last e.0) es (all_past last e.0 es (first _ _ sorted) past)))
          (rises e.0 es (first _ _ sorted) (second _ _ sorted))
        where
          subst_list : {xs ys : List (ℕ × X)} → xs ≡ ys →
              (is_until (last_number (Some e.0) xs) e.0 ≡ true) × Each (λ x. is_until (last_number (Some e.0) xs) x.0 ≡ true) es →
              (is_until (last_number (Some e.0) ys) e.0 ≡ true) × Each (λ x. is_until (last_number (Some e.0) ys) x.0 ≡ true) es
          subst_list same h = subst (λ zs. (is_until (last_number (Some e.0) zs) e.0 ≡ true)
              × Each (λ x. is_until (last_number (Some e.0) zs) x.0 ≡ true) es) same h
      by false past rest = (
        last_up last e.0 (filter (λ e. is_past last e.0) es) (is_sorted-where_key nat_cmp (is_past last) es (second _ _ sorted))
            (each_passes (λ e. is_past last e.0) es) (ap not past),
        rest,
      )

-- ---- lists by number

module _ {X : Type 0} (number : X → ℕ) where
  abbrev pub numbered : List X → List (ℕ × X)
  numbered xs = map (λ x. (number x, x)) xs

  abbrev pub table : List X → ByNumber X
  table xs = from_entries {R = nat_cmp} (numbered xs)

  -- a choice by number can be made before or after
  pub chosen : (p : ℕ → Bool) (xs : List X) → table (filter (λ x. p (number x)) xs) ≡ retain_keys (table xs) p
  chosen p xs = ap (from_entries {R = nat_cmp}) (sym (filter_map (λ (e : ℕ × X). p e.0) (λ x. (number x, x)) xs))
      ∙ same_map numbers one_number _ _ (λ q. get-from_entries numbers (where_key nat_cmp p (numbered xs)) q
      ∙ find-where_key nat_cmp p q (λ x tie. ap p (sym (one_number q x tie))) (numbered xs)
      ∙ ap (λ r. cond (p q) r None) (sym (get-from_entries numbers (numbered xs) q))
      ∙ sym (get-retain numbers one_number (table xs) p q))

  pub by_chosen : (p : ℕ → Bool) (xs : List X) →
      by_number number (filter (λ x. p (number x)) xs) ≡ map (λ e. e.1) (filter (λ e. p e.0) (entries (table xs)))
  by_chosen p xs = ap values (chosen p xs) ∙ ap (map (λ (e : ℕ × X). e.1)) (entries-retain numbers one_number (table xs) p)

  splits : (last : Option ℕ) (xs : List X) → by_number number (filter (λ x. is_until last (number x)) xs)
      ++ by_number number (filter (λ x. is_past last (number x)) xs) ≡ by_number number xs
  splits last xs = ap₂ (λ a b. a ++ b) (by_chosen (is_until last) xs) (by_chosen (is_past last) xs)
      ∙ sym (map-append (λ (e : ℕ × X). e.1) (filter (λ e. is_until last e.0) (entries (table xs))) (filter (λ e. is_past last e.0) (entries (table xs))))
      ∙ ap (map (λ (e : ℕ × X). e.1)) (parted last (entries (table xs)) (entries_sorted (table xs)))

  -- the number of the last of those past a number, or that number
  abbrev pub last_past : Option ℕ → List X → Option ℕ
  last_past last xs = last_number last (filter (λ e. is_past last e.0) (entries (table xs)))

  all_by : (last : Option ℕ) (xs : List X) → by_number number (filter (λ x. is_until (last_past last xs) (number x)) xs) ≡ by_number number xs
  all_by last xs = by_chosen (is_until (last_past last xs)) xs
      ∙ ap (map (λ (e : ℕ × X). e.1)) (filter_all (λ e. is_until (last_past last xs) e.0) (entries (table xs))
      (all_until last (entries (table xs)) (entries_sorted (table xs))))

-- ---- a node's live allocations

module _ (w : World) (pool node : Name) where
  pub live_splits : (last : Option ℕ) → live_until w pool node last ++ live_after w pool node last ≡ live_on w pool node
  unfolding live_on live_until live_after
  live_splits last = sym (map-append seen_live _ _) ∙ ap (map seen_live) (splits (λ a. a.1.1.place) last (allocations_on w pool node))

  -- up to the last of those after a place they are all of them
  pub live_all : (last : Option ℕ) → live_until w pool node (last_past (λ a. a.1.1.place) last (allocations_on w pool node)) ≡ live_on w pool node
  unfolding live_on live_until
  live_all last = ap (map seen_live) (all_by (λ a. a.1.1.place) last (allocations_on w pool node))

  -- there are none where there is no last place
  pub none_yet : live_until w pool node None ≡ []
  unfolding live_until
  none_yet = ap (λ xs. map seen_live (by_number (λ a. a.1.1.place) xs)) (none_of (allocations_on w pool node))
      ∙ ap (λ (es : List (ℕ × (Name × (ℕ × Allocation)))). map seen_live (map (λ e. e.1) es)) (entries_empty numbers one_number)
    where
      none_of : {Y : Type 0} (xs : List Y) → filter (λ _. false) xs ≡ []
      none_of [] = refl
      none_of (x ∷ xs) = none_of xs
