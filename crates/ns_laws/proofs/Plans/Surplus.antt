-- Which allocations of a task group a plan stops.
use Rattle.std.specs.Prelude.{◌≡◌, ◌≢◌, ℕ, zero, suc, ◌+◌, ◌-◌, ◌<◌, Bool, true, false, cond, not, ◌&&◌, ◌||◌}
use Rattle.std.specs.Prelude.{IsTrue, List, T, [], ◌∷◌, ◌++◌, Some, drop, filter, length, map, nat_le, slice_get}
use Rattle.std.specs.FinMap.{entries, entries_sorted, get}
use Rattle.std.specs.FinMap.Entries.{below_all, is_sorted}
use Rattle.std.specs.List.{AllPairs, flat_map, list_all, list_any}
use Rattle.std.specs.Ordering.{nat_cmp}
use Rattle.std.proofs.Common.{refl, sym, ap, subst, ◌∙◌, arith}
use Rattle.std.proofs.lemmas.Bool.{or_right}
use Rattle.std.proofs.lemmas.List.{length-drop}
use Rattle.std.proofs.lemmas.List.Folds.{list_any-append}
use Rattle.std.proofs.lemmas.List.Kept.{AllPairs-filter}
use Rattle.ns_types.specs.declared.allocation.Allocation.{Allocation}
use Rattle.ns_types.specs.declared.job.Document.{Document}
use Rattle.ns_types.specs.declared.job.Group.{Group}
use Rattle.ns_types.specs.declared.job.Job.{Job}
use Rattle.ns_types.specs.declared.snapshot.OwnAllocation.{OwnAllocation}
use Rattle.ns_types.specs.declared.snapshot.Snapshot.{Snapshot}
use Rattle.ns_types.specs.Placing.Plan.{plan}
use Rattle.ns_types.specs.Placing.Wanted.{done, is_current, is_of, kept, live_ones, outdated, stopping, surplus}
use Rattle.ns_types.specs.State.Limits.{is_between, is_distinct, is_good_constraint, is_good_document, is_good_group, is_pool_name}
use Rattle.ns_types.specs.State.Lists.{Each}
use Rattle.ns_types.specs.State.Names.{has_number, same_name, same_number}
use Rattle.ns_types.specs.State.Rows.{Tenant, is_live}
use Rattle.ns_types.specs.Working.Snapshot.{is_done_for}
use Rattle.ns_types.proofs.Elements.{any_map, each_both, each_kept, each_true}
use Rattle.ns_types.proofs.Lists.{each_map, filter_all, not_both}
use Rattle.ns_types.proofs.Named.{first_of_both, one_number, other_number, same_name_refl, same_number_refl, second_of_both}
use Rattle.ns_types.proofs.Tables.{tied}
use Rattle.ns_types.proofs.Tests.{first, is_no, not_Some, same_Some, second}
use Rattle.ns_audit.proofs.ValidEvaluations.Pairs.{Pairs, pairs_mapped, pairs_of, pairs_of_distinct, pairs_of_mapped, pairs_still}
use Rattle.ns_laws.specs.Planning as plans
use Rattle.ns_laws.specs.Surplus as law
use Rattle.ns_laws.proofs.OrderedLemmas.{above}
use Rattle.ns_laws.proofs.PairLemmas.{all_pairs, pairs_from}
use Rattle.ns_laws.proofs.Plans.ApplyRows.{each_slice}
use Rattle.ns_laws.proofs.Plans.Planning.{completed_is, each_drop, running_is, same_text, stops_not_wanted}

-- ---- lists without repetitions

module _ {X : Type 0} where
  -- an element with the key of another is that other
  pub each_once : {K : Type 0} (key : X → K) (xs : List X) → Pairs (λ x y. key x ≢ key y) xs
      → Each (λ x. Each (λ y. key y ≡ key x → y ≡ x) xs) xs
  each_once key [] h = tt
  each_once key (x ∷ xs) h = (
    ((λ _. refl), each_map (λ y other same. absurd (other (sym same))) xs h.0),
    each_map (λ y k. ((λ same. absurd (k.0 same)), k.1)) xs
        (each_both (λ y. key x ≢ key y) (λ x. Each (λ y. key y ≡ key x → y ≡ x) xs) xs h.0 (each_once key xs h.1)),
  )

  -- a list whose later elements have higher numbers: those in a part that begins at n
  module _ (number : X → ℕ) where
    abbrev pub Rises : List X → Type 0
    Rises = Pairs (λ x y. number x < number y)

    unfoldable pub has : List X → X → Bool
    has xs x = list_any (λ y. same_number (number x) (number y)) xs

    not_among : (x : X) (xs : List X) → Each (λ y. number x < number y) xs → has xs x ≡ false
    unfolding has
    not_among x [] h = refl
    not_among x (y ∷ xs) h = ap (λ b. b || has xs x) (other_number (number x) (number y) (λ e. let lt = h.0 in omega (arith, e, lt)))
        ∙ not_among x xs h.1

    pub has_itself : (xs : List X) → Each (λ x. has xs x ≡ true) xs
    unfolding has
    has_itself [] = tt
    has_itself (x ∷ xs) = (
      ap (λ b. b || has xs x) (same_number_refl (number x)),
      each_map (λ y h. or_right (same_number (number y) (number x)) _ h) xs (has_itself xs),
    )

    pub kept_last : (n : ℕ) (xs : List X) → Rises xs → filter (has (drop n xs)) xs ≡ drop n xs
    kept_last zero xs h = filter_all (has xs) xs (has_itself xs)
    kept_last (suc n) [] h = refl
    kept_last (suc n) (x ∷ xs) h = ap (λ b. cond b (x ∷ filter (has (drop n xs)) xs) (filter (has (drop n xs)) xs))
        (not_among x (drop n xs) (each_drop (λ y. number x < number y) n xs h.0)) ∙ kept_last n xs h.1

    -- each of the last ones is above each of the others
    pub last_above : (n : ℕ) (xs : List X) → Rises xs
        → Each (λ x. Each (λ y. has (drop n xs) x ≡ true → has (drop n xs) y ≡ false → number y < number x) xs) xs
    last_above zero xs h = each_map (λ x _. each_map (λ y has _ none. not_both has none) xs (has_itself xs)) xs (each_true xs)
    last_above (suc n) [] h = tt
    last_above (suc n) (x ∷ xs) h = (
      ((λ has none. not_both has none), each_map (λ y _ has _. not_both has none_first) xs (each_true xs)),
      each_map (λ y k. ((λ _ _. k.0), k.1)) xs (each_both (λ y. number x < number y) _ xs h.0 (last_above n xs h.1)),
    )
      where
        none_first : has (drop n xs) x ≡ false
        none_first = not_among x (drop n xs) (each_drop (λ y. number x < number y) n xs h.0)

-- ---- the stops of a group

-- where a test that an element of some list passes shows that the list is the one of x
any_one : {X Y : Type 0} (p : Y → Bool) (f : X → List Y) (x : X) (xs : List X) → Each (λ y. list_any p (f y) ≡ true → y ≡ x) xs
    → list_any p (flat_map f xs) ≡ true → list_any p (f x) ≡ true
any_one p f x [] h e = not_both e refl
any_one p f x (y ∷ ys) h e = by (list_any p (f y)) refl (sym (list_any-append p (f y) (flat_map f ys)) ∙ e) (any_one p f x ys h.1)
  where
    by : (b : Bool) → list_any p (f y) ≡ b → (b || list_any p (flat_map f ys)) ≡ true
        → (list_any p (flat_map f ys) ≡ true → list_any p (f x) ≡ true) → list_any p (f x) ≡ true
    by true is e later = ap (λ y. list_any p (f y)) (sym (h.0 is)) ∙ is
    by false is e later = later e

any_at : {X Y : Type 0} (p : Y → Bool) (f : X → List Y) (x : X) (xs : List X) (k : ℕ) → slice_get xs k ≡ Some x
    → list_any p (f x) ≡ true → list_any p (flat_map f xs) ≡ true
any_at p f x [] k at e = absurd (not_Some x at)
any_at p f x (y ∷ ys) zero at e = list_any-append p (f y) (flat_map f ys)
    ∙ ap (λ b. b || list_any p (flat_map f ys)) (ap (λ y. list_any p (f y)) (same_Some y x at) ∙ e)
any_at p f x (y ∷ ys) (suc k) at e = list_any-append p (f y) (flat_map f ys) ∙ or_right (list_any p (f y)) _ (any_at p f x ys k at e)

-- some element passes, and each that passes gives C
passed : {X : Type 0} (C : Type 0) (p : X → Bool) (xs : List X) → Each (λ x. p x ≡ true → C) xs → list_any p xs ≡ true → C
passed C p [] h e = not_both e refl
passed C p (x ∷ xs) h e = by (p x) refl e (passed C p xs h.1)
  where
    by : (b : Bool) → p x ≡ b → (b || list_any p xs) ≡ true → (list_any p xs ≡ true → C) → C
    by true is e later = h.0 is
    by false is e later = later e

either_way : (a b : Bool) → (a ≡ true → b ≡ true) → (b ≡ true → a ≡ true) → a ≡ b
either_way true b to from = sym (to refl)
either_way false true to from = from refl
either_way false false to from = refl

pub no_one : (b : Bool) → (b ≡ true → ⊥) → b ≡ false
no_one true none = absurd (none refl)
no_one false none = refl

filter_alike : {X : Type 0} (f g : X → Bool) (xs : List X) → Each (λ x. f x ≡ g x) xs → filter f xs ≡ filter g xs
filter_alike f g [] h = refl
filter_alike f g (x ∷ xs) h = λ i. cond (h.0 i) (x ∷ filter_alike f g xs h.1 i) (filter_alike f g xs h.1 i)

module _ (s : Snapshot) (j : Job) (is : s.job ≡ Some j) (runs : j.stop ≡ false) (orderly : law.IsOrderly s j) where
  abbrev to_stop : List OwnAllocation
  to_stop = outdated j s.own ++ flat_map (surplus j s.own) j.document.groups

  stops_are : (plan s).stops ≡ map (λ a. a.number) (outdated j s.own ++ flat_map (surplus j s.own) j.document.groups)
  unfolding plan
  stops_are = ap (λ o. map (λ (a : OwnAllocation). a.number) (stopping o s.own)) is
      ∙ ap (λ b. map (λ (a : OwnAllocation). a.number) (cond b (live_ones s.own) (outdated j s.own ++ flat_map (surplus j s.own) j.document.groups))) runs

  abbrev IsOnly : OwnAllocation → Type 0
  IsOnly a = Each (λ y. y.number ≡ a.number → y ≡ a) s.own

  each_only : Each IsOnly s.own
  each_only = each_once (λ (a : OwnAllocation). a.number) s.own (pairs_from (λ x y. x.number ≢ y.number) s.own
      (λ m n d lt within same. let less = orderly.by_number m n d lt within in absurd (omega (arith, same, less))))

  abbrev IsUnwanted : OwnAllocation → Type 0
  IsUnwanted a = IsTrue (is_live a.row) × plans.IsNotWanted s j a

  no_other : (a : OwnAllocation) → IsOnly a → law.stops_own s a ≡ true → IsUnwanted a
  no_other a only = passed (IsUnwanted a) (same_number a.number) (plan s).stops (each_map (λ n h same.
      let one = each_slice (λ y. y.number ≡ a.number → y ≡ a) s.own only h.place h.row h.is_row (h.number ∙ sym (tied one_number a.number n same)) in
      subst IsUnwanted one (h.live, h.not_wanted j is runs)) (plan s).stops (stops_not_wanted s))

  module _ (place : ℕ) (g : Group) (there : slice_get j.document.groups place ≡ Some g) where
    abbrev ks : List OwnAllocation
    ks = kept j s.own g

    abbrev stay : ℕ
    stay = length ks - (length ks + done j s.own g - g.count)

    rises : Rises (λ (a : OwnAllocation). a.number) ks
    rises = pairs_from (λ x y. x.number < y.number) ks (AllPairs-filter (λ x y. x.number < y.number) (λ a. is_live a.row && is_of j g a)
        s.own orderly.by_number)

    one_group : Each (λ h. h.name ≡ g.name → h ≡ g) j.document.groups
    one_group = each_slice (λ g. Each (λ h. h.name ≡ g.name → h ≡ g) j.document.groups) j.document.groups
        (each_once (λ (g : Group). g.name) j.document.groups (pairs_from (λ g h. g.name ≢ h.name) j.document.groups orderly.one_name)) place g there

    -- whether the plan stops an allocation of the group
    module _ (a : OwnAllocation) (only : IsOnly a) (of_it : (is_live a.row && is_of j g a) ≡ true) where
      abbrev test : OwnAllocation → Bool
      test x = same_number a.number x.number

      found : (x : OwnAllocation) → (x.number ≡ a.number → x ≡ a) → test x ≡ true → x ≡ a
      found x only same = only (sym (tied one_number a.number x.number same))

      not_outdated : list_any test (outdated j s.own) ≡ false
      not_outdated = no_one (list_any test (outdated j s.own)) (passed ⊥ test (outdated j s.own) (each_map (λ x h same.
          not_both (ap (is_current j) (found x h.0 same) ∙ first_of_both (is_current j a) _ (second_of_both (is_live a.row) _ of_it))
          (is_no _ (second_of_both (is_live x.row) _ h.1))) (outdated j s.own)
          (each_kept (λ x. x.number ≡ a.number → x ≡ a) (λ a. is_live a.row && not (is_current j a)) s.own only)))

      name_of : (h : Group) (x : OwnAllocation) → (is_live x.row && is_of j h x) ≡ true → x.row.group ≡ h.name
      name_of h x e = same_text x.row.group h.name (second_of_both (is_current j x) _ (second_of_both (is_live x.row) _ e))

      same_group : (h : Group) → list_any test (surplus j s.own h) ≡ true → h.name ≡ g.name
      same_group h = passed (h.name ≡ g.name) test (surplus j s.own h) (each_drop (λ x. test x ≡ true → h.name ≡ g.name)
          (length (kept j s.own h) - (length (kept j s.own h) + done j s.own h - h.count)) (kept j s.own h)
          (each_map (λ x k same. sym (name_of h x k.1) ∙ ap (λ (x : OwnAllocation). x.row.group) (found x k.0 same) ∙ name_of g a of_it) (kept j s.own h)
          (each_kept (λ x. x.number ≡ a.number → x ≡ a) (λ a. is_live a.row && is_of j h a) s.own only)))

      stops_so : law.stops_own s a ≡ list_any test (surplus j s.own g)
      stops_so = ap (λ ns. has_number ns a.number) stops_are
          ∙ any_map (same_number a.number) (λ (a : OwnAllocation). a.number) to_stop
          ∙ list_any-append test (outdated j s.own) (flat_map (surplus j s.own) j.document.groups)
          ∙ ap (λ b. b || list_any test (flat_map (surplus j s.own) j.document.groups)) not_outdated
          ∙ either_way (list_any test (flat_map (surplus j s.own) j.document.groups)) (list_any test (surplus j s.own g))
          (any_one test (surplus j s.own) g j.document.groups (each_map (λ h one e. one (same_group h e)) j.document.groups one_group))
          (any_at test (surplus j s.own) g j.document.groups place there)

    each_stops_so : Each (λ a. law.stops_own s a ≡ has (λ (a : OwnAllocation). a.number) (drop stay ks) a) ks
    unfolding has
    each_stops_so = each_map (λ a h. stops_so a h.0 h.1) ks (each_kept IsOnly (λ a. is_live a.row && is_of j g a) s.own each_only)

    how_many : length (filter (law.stops_own s) ks) ≡ length ks - stay
    how_many = ap length (filter_alike (law.stops_own s) (has (λ (a : OwnAllocation). a.number) (drop stay ks)) ks each_stops_so
        ∙ kept_last (λ (a : OwnAllocation). a.number) stay ks rises) ∙ length-drop stay ks

    newest : Each (λ a. Each (λ b. law.stops_own s a ≡ true → law.stops_own s b ≡ false → b.number < a.number) ks) ks
    newest = each_map (λ a k. each_map (λ b m stops stays. m.1 (sym k.0 ∙ stops) (sym m.0 ∙ stays)) ks (each_both _ _ ks each_stops_so k.1)) ks
        (each_both _ _ ks each_stops_so (last_above (λ (a : OwnAllocation). a.number) stay ks rises))

pub stops_surplus : law.StopsSurplus
stops_surplus s j place g orderly is runs there =
    let many = how_many s j is runs orderly place g there in
    let live = running_is j s.own g in
    let over = completed_is j s.own g in
    omega (arith, many, live, over)

pub stops_newest : law.StopsNewest
stops_newest s j place g orderly is runs there = newest s j is runs orderly place g there

pub stops_no_other : law.StopsNoOther
stops_no_other s j orderly is runs = each_map (λ a only. no_other s j is runs orderly a only) s.own (each_only s j is runs orderly)

-- ---- snapshots are orderly

pub rising : {X : Type 0} (es : List (ℕ × X)) → T (is_sorted nat_cmp es) → Pairs (λ x y. x.0 < y.0) es
rising [] h = tt
rising (x ∷ es) h = (above x.0 es (first (below_all nat_cmp x.0 es) _ h), rising es (second (below_all nat_cmp x.0 es) _ h))

abbrev own_of : ℕ × Allocation → OwnAllocation
own_of a = record { number = a.0; row = a.1 }

own_rises : (t : Tenant) (p : ℕ × Allocation → Bool) → AllPairs (λ a b. a.number < b.number) (map own_of (filter p (entries t.allocations)))
own_rises t p = all_pairs (λ (a b : OwnAllocation). a.number < b.number) (map own_of (filter p (entries t.allocations)))
    (pairs_mapped own_of (λ a b. a.number < b.number) (filter p (entries t.allocations))
    (pairs_still (λ x y. x.0 < y.0) p (entries t.allocations) (rising (entries t.allocations) (entries_sorted t.allocations))))

names_differ : (d : Document) → is_good_document d ≡ true → is_distinct same_name (map (λ g. g.name) d.groups) ≡ true
names_differ d e = second_of_both (is_between 1 100 d.priority && is_pool_name d.pool && nat_le (length d.constraints) 16
    && list_all is_good_constraint d.constraints && is_between 1 16 (length d.groups) && list_all is_good_group d.groups) _ e

groups_differ : (d : Document) → is_good_document d ≡ true → AllPairs (λ g h. g.name ≢ h.name) d.groups
groups_differ d e = all_pairs (λ (g h : Group). g.name ≢ h.name) d.groups
    (pairs_of (λ g h. same_name g.name h.name ≡ false) (λ g h. g.name ≢ h.name)
    (λ g h other same. not_both (ap (same_name g.name) (sym same) ∙ same_name_refl g.name) other) d.groups
    (pairs_of_mapped (λ (g : Group). g.name) (λ a b. same_name a b ≡ false) d.groups
    (pairs_of_distinct same_name (map (λ g. g.name) d.groups) (names_differ d e))))

pub snapshots_are_orderly : law.SnapshotsAreOrderly
snapshots_are_orderly s ns t number e job valid is has = record {
  by_number = own_rises t (λ a. same_name e.job a.1.job && (is_live a.1 || is_done_for (get t.jobs e.job) a.1));
  one_name = groups_differ job.document ((valid.world.tenant ns t is).job e.job job has).good;
}
