-- Evictions that name an allocation twice.
use Rattle.std.specs.Prelude.{◌≡◌, ℕ, ◌+◌, ◌<◌, ◌^◌, Bool, true, false, cond, not, ◌&&◌, List, [], ◌∷◌, Option, Some, None, filter, fold}
use Rattle.std.specs.Prelude.{length, map, min, option_map, unwrap_or}
use Rattle.std.proofs.Common.{refl, sym, ap, subst, ◌∙◌, arith}
use Rattle.std.proofs.lemmas.Bool.{not-false}
use Rattle.std.specs.List.{cons_option, filter_map}
use Rattle.ns_types.specs.declared.evaluation.Trigger.TheVariants as Trigger
use Rattle.ns_types.specs.declared.plan.Eviction.{Eviction}
use Rattle.ns_types.specs.State.Lists.{first_each}
use Rattle.ns_types.specs.State.Names.{Name, Key, same_key, same_name}
use Rattle.ns_types.specs.State.Rows.{World, allocation_at}
use Rattle.ns_types.specs.Working.Commit.{Victim, make_up, same_victim_job, victim_at, victim_key, victim_keys}
use Rattle.ns_types.proofs.Lists.{each, filter_chosen, filter_inside}
use Rattle.ns_types.proofs.Named.{same_name_refl}
use Rattle.ns_types.proofs.Once.{key_is}
use Rattle.ns_change.specs.Waiting.{lesser}
use Rattle.ns_renewal.specs.Losing.{CanMakeUp, least_of, losing, losing_keys, victims_at}
use Rattle.ns_renewal.specs.Renewing.{SameJobs, renewed}
use Rattle.ns_renewal.proofs.Counting.{alike_victims}
use Rattle.ns_renewal.proofs.Least.{least_first, lesser_assoc, same_turned}
use Rattle.ns_renewal.proofs.MadeUp.{made_up, victims_there}

-- ---- the lesser

lesser_same : (a : Option ℕ) → lesser a a ≡ a
lesser_same None = refl
lesser_same (Some m) = ap Some (let e : min m m ≡ m = omega arith in e)

lesser_turned : (a b c : Option ℕ) → lesser a (lesser b c) ≡ lesser b (lesser a c)
lesser_turned a b c = sym (lesser_assoc a b c) ∙ ap (λ o. lesser o c) (swapped a b) ∙ lesser_assoc b a c
  where
    swapped : (a b : Option ℕ) → lesser a b ≡ lesser b a
    swapped None None = refl
    swapped None (Some n) = refl
    swapped (Some m) None = refl
    swapped (Some m) (Some n) = ap Some (let e : min m n ≡ min n m = omega arith in e)

-- ---- the first of each kind among those that pass

module _ {A : Type 0} (same : A → A → Bool) (p : A → Bool) (alike : (x y : A) → same x y ≡ true → p x ≡ p y) where
  filter_first : (xs : List A) → filter p (first_each same xs) ≡ first_each same (filter p xs)
  filter_first [] = refl
  filter_first (x ∷ xs) = by (p x) refl (filter_first xs)
    where
      others : A → Bool
      others y = not (same x y)

      fails : p x ≡ false → (y : A) → others y ≡ false → p y ≡ false
      fails e y f = sym (alike x y (not-false (same x y) f)) ∙ e

      by : (b : Bool) → p x ≡ b → filter p (first_each same xs) ≡ first_each same (filter p xs) →
          cond b (x ∷ filter p (filter others (first_each same xs))) (filter p (filter others (first_each same xs)))
          ≡ first_each same (cond b (x ∷ filter p xs) (filter p xs))
      by true e rest = ap (λ l. x ∷ l)
          (filter_chosen p others others (first_each same xs) (each _ (λ y _. refl) (first_each same xs)) ∙ ap (filter others) rest)
      by false e rest = sym (filter_inside others p (first_each same xs) (each _ (fails e) (first_each same xs))) ∙ rest

-- ---- rows by key

module _ (w : World) where
  abbrev row : Key → Option Victim
  row k = option_map (λ a. (k.0, (k.1, a))) (allocation_at w k)

  abbrev rows : List Key → List Victim
  rows keys = filter_map row keys

  abbrev once : List Key → List Key
  once keys = first_each same_key keys

  rows_are : (es : List Eviction) → victims_at w es ≡ rows (map victim_key es)
  rows_are [] = refl
  rows_are (e ∷ es) = ap (cons_option (victim_at w e)) (rows_are es)

  -- ---- their least numbers

  module _ (ns job : Name) where
    abbrev least_at : List Key → Option ℕ
    least_at keys = least_of (rows keys) ns job

    least_next : (k : Key) (keys : List Key) → least_at (k ∷ keys) ≡ lesser (least_at (k ∷ [])) (least_at keys)
    least_next k keys = by (row k)
      where
        by : (o : Option Victim) → least_of (cons_option o (rows keys)) ns job ≡ lesser (least_of (cons_option o []) ns job) (least_at keys)
        by None = refl
        by (Some v) = least_first v (rows keys) ns job

    least_without : (k : Key) (keys : List Key) →
        lesser (least_at (k ∷ [])) (least_at (filter (λ y. not (same_key k y)) keys)) ≡ lesser (least_at (k ∷ [])) (least_at keys)
    least_without k [] = refl
    least_without k (y ∷ ys) = by (same_key k y) refl (least_without k ys)
      where
        own : Option ℕ
        own = least_at (k ∷ [])

        left : List Key
        left = filter (λ y. not (same_key k y)) ys

        by : (b : Bool) → same_key k y ≡ b → lesser own (least_at left) ≡ lesser own (least_at ys) →
            lesser own (least_at (cond (not b) (y ∷ left) left)) ≡ lesser own (least_at (y ∷ ys))
        by true e rest = rest ∙ ap (λ o. lesser o (least_at ys)) (sym (lesser_same own)) ∙ lesser_assoc own own (least_at ys)
            ∙ ap (λ z. lesser own (lesser (least_at (z ∷ [])) (least_at ys))) (key_is k y e) ∙ ap (lesser own) (sym (least_next y ys))
        by false e rest = ap (lesser own) (least_next y left) ∙ lesser_turned own (least_at (y ∷ [])) (least_at left)
            ∙ ap (lesser (least_at (y ∷ []))) rest ∙ lesser_turned (least_at (y ∷ [])) own (least_at ys) ∙ ap (lesser own) (sym (least_next y ys))

    least_once : (keys : List Key) → least_at (once keys) ≡ least_at keys
    least_once [] = refl
    least_once (k ∷ keys) = least_next k (filter (λ y. not (same_key k y)) (once keys)) ∙ least_without k (once keys)
        ∙ ap (lesser (least_at (k ∷ []))) (least_once keys) ∙ sym (least_next k keys)

  -- ---- the jobs

  none_without : (k : Key) → row k ≡ None → (keys : List Key) → rows (filter (λ y. not (same_key k y)) keys) ≡ rows keys
  none_without k none [] = refl
  none_without k none (y ∷ ys) = by (same_key k y) refl (none_without k none ys)
    where
      left : List Key
      left = filter (λ y. not (same_key k y)) ys

      by : (b : Bool) → same_key k y ≡ b → rows left ≡ rows ys → rows (cond (not b) (y ∷ left) left) ≡ cons_option (row y) (rows ys)
      by true e rest = rest ∙ ap (λ o. cons_option o (rows ys)) (sym none ∙ ap row (key_is k y e))
      by false e rest = ap (cons_option (row y)) rest

  some_without : (k : Key) (v : Victim) → row k ≡ Some v → (keys : List Key) →
      filter (λ u. not (same_victim_job v u)) (rows (filter (λ y. not (same_key k y)) keys)) ≡ filter (λ u. not (same_victim_job v u)) (rows keys)
  some_without k v some [] = refl
  some_without k v some (y ∷ ys) = by (same_key k y) refl (some_without k v some ys)
    where
      left : List Key
      left = filter (λ y. not (same_key k y)) ys

      others : List Victim → List Victim
      others victims = filter (λ u. not (same_victim_job v u)) victims

      itself : same_victim_job v v ≡ true
      itself = λ i. same_name_refl v.0 i && same_name_refl v.1.1.job i

      with : (o : Option Victim) → others (rows left) ≡ others (rows ys) → others (cons_option o (rows left)) ≡ others (cons_option o (rows ys))
      with None rest = rest
      with (Some u) rest = ap (λ l. cond (not (same_victim_job v u)) (u ∷ l) l) rest

      by : (b : Bool) → same_key k y ≡ b → others (rows left) ≡ others (rows ys) →
          others (rows (cond (not b) (y ∷ left) left)) ≡ others (cons_option (row y) (rows ys))
      by true e rest = rest ∙ ap (λ b. cond (not b) (v ∷ others (rows ys)) (others (rows ys))) (sym itself)
          ∙ ap (λ o. others (cons_option o (rows ys))) (sym some ∙ ap row (key_is k y e))
      by false e rest = with (row y) rest

  losing_once : (keys : List Key) → losing (rows (once keys)) ≡ losing (rows keys)
  losing_once [] = refl
  losing_once (k ∷ keys) = by (row k) refl (losing_once keys)
    where
      left : List Key
      left = filter (λ y. not (same_key k y)) (once keys)

      by : (o : Option Victim) → row k ≡ o → losing (rows (once keys)) ≡ losing (rows keys) →
          losing (cons_option o (rows left)) ≡ losing (cons_option o (rows keys))
      by None is rest = ap losing (none_without k is (once keys)) ∙ rest
      by (Some v) is rest = ap (λ l. v ∷ l) (first (rows left) ∙ ap losing (some_without k v is (once keys)) ∙ sym (first (rows (once keys)))
          ∙ ap (filter (λ u. not (same_victim_job v u))) rest)
        where
          first : (victims : List Victim) → filter (λ u. not (same_victim_job v u)) (losing victims) ≡ losing (filter (λ u. not (same_victim_job v u)) victims)
          first = filter_first same_victim_job (λ u. not (same_victim_job v u))
              (λ x y e. ap not (same_turned v x ∙ alike_victims x y v e ∙ same_turned y v))

  keys_once : (keys : List Key) → losing_keys (rows (once keys)) ≡ losing_keys (rows keys)
  keys_once keys = λ i. map (λ v. (v.0, unwrap_or (least_once v.0 v.1.1.job keys i) v.1.0)) (losing_once keys i)

  module _ (es each : List Eviction) (keys : map victim_key each ≡ victim_keys es) where
    rows_once : victims_at w each ≡ rows (once (map victim_key es))
    rows_once = rows_are each ∙ ap rows keys

    pub made_once : (x : World) → SameJobs w x → make_up (victims_at w each) x ≡ make_up (victims_at w es) x
    made_once x same = made_up w (victims_at w each) (victims_there w each) x same
        ∙ ap (fold (renewed Trigger.Preemption w) x) (ap losing_keys rows_once ∙ keys_once (map victim_key es) ∙ ap losing_keys (sym (rows_are es)))
        ∙ sym (made_up w (victims_at w es) (victims_there w es) x same)

    pub can_once : (x : World) → CanMakeUp (victims_at w es) x → CanMakeUp (victims_at w each) x
    can_once x can ns t at = subst (λ victims. t.evaluation_number + length (filter (λ (v : Victim). same_name ns v.0) victims) < 2 ^ 64)
        (ap losing (rows_are es) ∙ sym (losing_once (map victim_key es)) ∙ ap losing (sym rows_once)) (can ns t at)
