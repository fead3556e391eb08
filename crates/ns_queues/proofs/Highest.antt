-- Of the keys with the greatest priority the first: it is the first key of the highest level that has one.
use Rattle.std.specs.Prelude.{◌≡◌, ℕ, ◌<◌, ◌≤◌, Bool, true, false, cond, T, List, [], ◌∷◌, Option, Some, None, filter, fold, nat_eq, nat_le}
use Rattle.std.proofs.Common.{Less, refl, sym, ap, subst, ◌∙◌, arith}
use Rattle.std.proofs.lemmas.Cmp.{ranked}
use Rattle.std.proofs.lemmas.Bool.{leb-false, eq-eqb, eqb-true, le-leb, leb-true, ne_eqb}
use Rattle.std.specs.FinMap.Entries.{below_all, find, is_sorted}
use Rattle.std.specs.List.{list_all, slice_get}
use Rattle.std.specs.Option.{option_or}
use Rattle.std.specs.Ordering.{nat_cmp}
use Rattle.keyed.specs.Queue.{KeyQueue}
use Rattle.keyed.specs.Table.{flat}
use Rattle.ns_types.proofs.Elements.{all_from_each, each_from_all, each_of, each_passes, each_still}
use Rattle.ns_types.proofs.Lists.{not_both}
use Rattle.ns_types.proofs.Named.{one_number, other_number}
use Rattle.ns_types.proofs.Tables.{less_by, tied}
use Rattle.ns_types.proofs.Tests.{first, second}
use Rattle.ns_types.specs.State.Lists.{Each}
use Rattle.ns_types.specs.State.Names.{Key, same_number}
use Rattle.ns_types.specs.Working.Queue.{first_of_greatest}
use Rattle.ns_queues.specs.Ready.{first_key, first_of_highest, items_of, preferred}
use Rattle.ns_queues.proofs.Grouped.{found_here, found_other}
use Rattle.ns_queues.proofs.Leveled.{at_each}

not_empty : {A : Type 0} {C : Type 0} (x : A) (xs : List A) → x ∷ xs ≡ [] → C
not_empty x xs e = cc

same_head : {A : Type 0} (x y : A) (xs ys : List A) → x ∷ xs ≡ y ∷ ys → x ≡ y
same_head x y xs ys e = cc

module _ (p : Key → ℕ) where
  abbrev pub among : ℕ → List Key → List Key
  among n keys = filter (λ key. nat_eq (p key) n) keys

  -- the key is the first of its priority, and none is of a greater one
  pub data IsFirst (keys : List Key) : Option Key → Type 0 where
    no_key : keys ≡ [] → IsFirst keys None
    one : (key : Key) (rest : List Key) → among (p key) keys ≡ key ∷ rest → Each (λ other. p other ≤ p key) keys → IsFirst keys (Some key)

  -- ---- the first in the list is such

  first_greatest : (keys : List Key) → IsFirst keys (first_of_greatest p keys)
  first_greatest [] = no_key refl
  first_greatest (k ∷ ks) = by (list_all (λ other. nat_le (p other) (p k)) ks) refl (first_greatest ks)
    where
      this : list_all (λ other. nat_le (p other) (p k)) ks ≡ true → IsFirst (k ∷ ks) (Some k)
      this all = one k (among (p k) ks) (ap (λ b. cond b (k ∷ among (p k) ks) (among (p k) ks)) (eq-eqb (p k) (p k) refl))
          (omega arith, each_of _ _ (λ other le. leb-true (p other) (p k) le) ks (each_from_all (λ other. nat_le (p other) (p k)) ks all))

      later : list_all (λ other. nat_le (p other) (p k)) ks ≡ false → (r : Option Key) → IsFirst ks r → IsFirst (k ∷ ks) r
      later some None (no_key empty) = not_both (ap (list_all (λ other. nat_le (p other) (p k))) empty) some
      later some (Some _) (one key rest at greatest) = one key rest
          (ap (λ b. cond b (k ∷ among (p key) ks) (among (p key) ks)) (ne_eqb (p k) (p key) (λ same. omega (arith, above))) ∙ at)
          (omega (arith, above), greatest)
        where
          above : p k < p key
          above = under (nat_le (p key) (p k)) refl
            where
              under : (b : Bool) → nat_le (p key) (p k) ≡ b → p k < p key
              under true le = not_both (all_from_each (λ other. nat_le (p other) (p k)) ks
                  (each_of _ _ (λ other below. le-leb (p other) (p k) (let high = leb-true (p key) (p k) le in omega arith)) ks greatest)) some
              under false gt = leb-false (p key) (p k) gt

      by : (b : Bool) → list_all (λ other. nat_le (p other) (p k)) ks ≡ b → IsFirst ks (first_of_greatest p ks) →
          IsFirst (k ∷ ks) (cond b (Some k) (first_of_greatest p ks))
      by true all among_rest = this all
      by false some among_rest = later some (first_of_greatest p ks) among_rest

  -- ---- there is but one such

  first_of_each : (P : Key → Type 0) (f : Key → Bool) (keys : List Key) (key : Key) (rest : List Key) → filter f keys ≡ key ∷ rest → Each P keys → P key
  first_of_each P f keys key rest at all = (subst (Each P) at (each_still P f keys all)).0

  only_first : (keys : List Key) (r s : Option Key) → IsFirst keys r → IsFirst keys s → r ≡ s
  only_first keys None None a b = refl
  only_first keys None (Some _) (no_key empty) (one key rest at greatest) = not_empty key rest (sym at ∙ ap (among (p key)) empty)
  only_first keys (Some _) None (one key rest at greatest) (no_key empty) = not_empty key rest (sym at ∙ ap (among (p key)) empty)
  only_first keys (Some _) (Some _) (one a xs at_a top_a) (one b ys at_b top_b) =
      let under : p a ≤ p b = first_of_each (λ k. p k ≤ p b) _ keys a xs at_a top_b in
      let over : p b ≤ p a = first_of_each (λ k. p k ≤ p a) _ keys b ys at_b top_a in
      let same : p a ≡ p b = omega arith in
      ap Some (same_head a b xs ys (sym at_a ∙ ap (λ n. among n keys) same ∙ at_b))

  -- ---- levels that rise

  abbrev pub level_in : List (ℕ × Option KeyQueue) → ℕ → List Key
  level_in es n = items_of (flat (find nat_cmp n es))

  level_here : (k : ℕ) (q : Option KeyQueue) (es : List (ℕ × Option KeyQueue)) → level_in ((k, q) ∷ es) k ≡ items_of q
  level_here k q es = ap (λ r. items_of (flat r)) (found_here k q ((k, q) ∷ es) es refl)

  level_other : (k : ℕ) (q : Option KeyQueue) (es : List (ℕ × Option KeyQueue)) (n : ℕ) → same_number n k ≡ false →
      level_in ((k, q) ∷ es) n ≡ level_in es n
  level_other k q es n e = ap (λ r. items_of (flat r)) (found_other k q ((k, q) ∷ es) es refl n e)

  -- where a key stands, the number is above those that are below all
  stands_above : (k : ℕ) (es : List (ℕ × Option KeyQueue)) (n : ℕ) (key : Key) (rest : List Key) → T (below_all nat_cmp k es) →
      level_in es n ≡ key ∷ rest → k < n
  stands_above k [] n key rest below at = not_empty key rest (sym at)
  stands_above k ((m, q) ∷ es) n key rest below at = by (same_number n m) refl (stands_above k es n key rest (second _ _ below))
    where
      by : (t : Bool) → same_number n m ≡ t → (level_in es n ≡ key ∷ rest → k < n) → k < n
      by true t later = subst (λ n. k < n) (sym (tied one_number n m t)) (ranked k m Less (sym (less_by _ (first _ _ below))))
      by false t later = later (sym (level_other m q es n t) ∙ at)

  -- what the walk finds: the first key of the highest level that has one, or none of them has one
  data Found (es : List (ℕ × Option KeyQueue)) (before : Option Key) : Option Key → Type 0 where
    nowhere : ((n : ℕ) → level_in es n ≡ []) → Found es before before
    there : (n : ℕ) (key : Key) (rest : List Key) → level_in es n ≡ key ∷ rest → ((m : ℕ) → n < m → level_in es m ≡ []) → Found es before (Some key)

  found : (es : List (ℕ × Option KeyQueue)) (before : Option Key) → T (is_sorted nat_cmp es) → Found es before (fold preferred before es)
  found [] before rises = nowhere (λ n. refl)
  found ((k, q) ∷ es) before rises = by (fold preferred (option_or (first_key q) before) es) (found es (option_or (first_key q) before) (second _ _ rises))
    where
      higher : (m : ℕ) → k < m → level_in ((k, q) ∷ es) m ≡ level_in es m
      higher m lt = level_other k q es m (other_number m k (λ same. omega arith))

      here : (items : List Key) → items_of q ≡ items → ((n : ℕ) → level_in es n ≡ []) →
          Found ((k, q) ∷ es) before (option_or (slice_get items 0) before)
      here [] is none = nowhere (at_each (λ n. level_in ((k, q) ∷ es) n ≡ []) k (level_here k q es ∙ is) (λ n e. level_other k q es n e ∙ none n))
      here (key ∷ rest) is none = there k key rest (level_here k q es ∙ is) (λ m lt. higher m lt ∙ none m)

      by : (r : Option Key) → Found es (option_or (first_key q) before) r → Found ((k, q) ∷ es) before r
      by _ (nowhere none) = here (items_of q) refl none
      by _ (there n key rest is above) =
          let lt : k < n = stands_above k es n key rest (first _ _ rises) is in
          there n key rest (higher n lt ∙ is) (λ m over. higher m (omega arith) ∙ above m over)

  -- ---- levels of the keys of each priority

  rest_none : (b : Bool) (x : Key) (xs : List Key) → cond b (x ∷ xs) xs ≡ [] → xs ≡ []
  rest_none true x xs e = not_empty x xs e
  rest_none false x xs e = e

  none_above : (n : ℕ) (keys : List Key) → ((m : ℕ) → n < m → among m keys ≡ []) → Each (λ key. p key ≤ n) keys
  none_above n [] none = tt
  none_above n (x ∷ xs) none = (here (nat_le (p x) n) refl, none_above n xs (λ m lt. rest_none (nat_eq (p x) m) x (among m xs) (none m lt)))
    where
      here : (b : Bool) → nat_le (p x) n ≡ b → p x ≤ n
      here true le = leb-true (p x) n le
      here false gt = not_empty x (among (p x) xs)
          (sym (ap (λ b. cond b (x ∷ among (p x) xs) (among (p x) xs)) (eq-eqb (p x) (p x) refl)) ∙ none (p x) (leb-false (p x) n gt))

  no_keys : (keys : List Key) → ((n : ℕ) → among n keys ≡ []) → keys ≡ []
  no_keys [] none = refl
  no_keys (x ∷ xs) none = not_empty x (among (p x) xs)
      (sym (ap (λ b. cond b (x ∷ among (p x) xs) (among (p x) xs)) (eq-eqb (p x) (p x) refl)) ∙ none (p x))

  found_first : (es : List (ℕ × Option KeyQueue)) (keys : List Key) → ((n : ℕ) → level_in es n ≡ among n keys) → (r : Option Key) → Found es None r →
      IsFirst keys r
  found_first es keys is _ (nowhere none) = no_key (no_keys keys (λ n. sym (is n) ∙ none n))
  found_first es keys is _ (there n key rest stands above) =
      let own : p key ≡ n = eqb-true (p key) n ((subst (Each (λ k. nat_eq (p k) n ≡ true)) (sym (is n) ∙ stands) (each_passes _ keys)).0) in
      one key rest (ap (λ n. among n keys) own ∙ sym (is n) ∙ stands)
      (subst (λ n. Each (λ k. p k ≤ n) keys) (sym own) (none_above n keys (λ m lt. sym (is m) ∙ above m lt)))

  pub highest_is_first : (es : List (ℕ × Option KeyQueue)) (keys : List Key) → T (is_sorted nat_cmp es) → ((n : ℕ) → level_in es n ≡ among n keys) →
      first_of_highest es ≡ first_of_greatest p keys
  highest_is_first es keys rises is = only_first keys _ _ (found_first es keys is (first_of_highest es) (found es None rises)) (first_greatest keys)
