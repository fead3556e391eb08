-- Whom a step wakes, as the program finds it.
use Rattle.std.specs.Prelude.{◌≡◌, Bool, true, false, cond, not, List, [], ◌∷◌, ◌&&◌, ◌||◌, filter, Option, Some, None}
use Rattle.std.proofs.Common.{refl, sym, ap, ◌∙◌}
use Rattle.std.specs.List.{list_any}
use Rattle.std.specs.Option.{option_map_or}
use Rattle.std.specs.FinMap.{contains_key}
use Rattle.ns_types.specs.declared.evaluation.Evaluation.{Evaluation}
use Rattle.ns_types.specs.declared.node.Class.{Class}
use Rattle.ns_types.specs.State.Names.{Name, Key, has_key, same_key, same_name, same_number}
use Rattle.ns_types.specs.State.Rows.{World, evaluation_at}
use Rattle.ns_types.proofs.Lists.{any_alike, each, filter_none}
use Rattle.ns_types.proofs.Named.{one_number, same_key_refl, same_name_is}
use Rattle.ns_types.proofs.Tables.{tied}
use Rattle.ns_types.specs.Settling.Releases.{wakes_by}
use Rattle.ns_change.specs.declared.change.Change.{Change}
use Rattle.ns_change.specs.Changed.{changed}
use Rattle.ns_release.specs.Released.{is_woken, releases_wake_at, released_of, releases_wake, woken_from}
use Rattle.std.proofs.Math.Bool.{and-false, and-true, or-true}
use Rattle.ns_change.proofs.Listed.{any_listed}

-- a filter looks at members alone
filter_members : (f g : Key → Bool) (base xs : List Key) → ((k : Key) → has_key xs k ≡ true → has_key base k ≡ true) →
    ((k : Key) → has_key base k ≡ true → f k ≡ g k) → filter f xs ≡ filter g xs
filter_members f g base [] inside h = refl
filter_members f g base (x ∷ xs) inside h =
    let rest = filter_members f g base xs (λ k is. inside k (ap (λ b. same_key k x || b) is ∙ or-true (same_key k x))) h in
    (λ i. cond (h x (inside x (ap (λ b. b || has_key xs x) (same_key_refl x))) i) (x ∷ rest i) (rest i))

module _ (taken base : List Key) (key : Key) where
  tested : (k : Key) → (not (has_key taken k) && same_key key k) ≡ (not (has_key taken key) && same_key key k)
  tested k = by (same_name key.0 k.0) (same_number key.1 k.1) refl refl
    where
      none : (a b : Bool) → (a && false) ≡ (b && false)
      none true true = refl
      none true false = refl
      none false true = refl
      none false false = refl

      by : (a b : Bool) → same_name key.0 k.0 ≡ a → same_number key.1 k.1 ≡ b → (not (has_key taken k) && (a && b)) ≡ (not (has_key taken key) && (a && b))
      by true true e f = λ i. not (has_key taken (sym (same_name_is key.0 k.0 e) i, sym (tied one_number key.1 k.1 f) i)) && true
      by true false e f = none (not (has_key taken k)) (not (has_key taken key))
      by false b e f = none (not (has_key taken k)) (not (has_key taken key))

  any_and : (b : Bool) (p : Key → Bool) (xs : List Key) → list_any (λ k. b && p k) xs ≡ (b && list_any p xs)
  any_and true p xs = refl
  any_and false p [] = refl
  any_and false p (x ∷ xs) = any_and false p xs

  left_in : has_key base key ≡ true → list_any (λ k. not (has_key taken k) && same_key key k) base ≡ not (has_key taken key)
  left_in is = any_alike _ _ base (each _ tested base) ∙ any_and (not (has_key taken key)) (same_key key) base ∙ ap (λ b. not (has_key taken key) && b) is ∙
      and-true (not (has_key taken key))

pub woken_tests : (w : World) (c : Change) (rooms : List (Name × Class)) (quotas : List Name) →
    filter (is_woken w c.blocked rooms quotas) w.blocked ≡ woken_from w c rooms quotas
unfolding changed
woken_tests w c rooms quotas = filter_members _ _ w.blocked w.blocked (λ k is. is) (λ k is.
    ap (λ b. b && option_map_or (releases_wake w rooms quotas) (evaluation_at w k) false)
    (sym (any_listed (same_key k) w.blocked c.blocked ∙ ap (λ b. b || has_key c.blocked.added k) (left_in c.blocked.taken w.blocked k is))))

-- where nothing is released, none wakes
pub wakes_nothing : (w : World) (key : Key) → releases_wake_at w [] [] key ≡ false
wakes_nothing w key = by (evaluation_at w key)
  where
    of : (e : Evaluation) (q : Option Name) → wakes_by (released_of w [] []) e q ≡ false
    of e (Some q) = and-false (contains_key w.quotas q)
    of e None = refl

    by : (o : Option Evaluation) → option_map_or (releases_wake w [] []) o false ≡ false
    by None = refl
    by (Some e) = of e e.quota

module _ (w : World) (c : Change) where
  pub woken_nothing : (rooms : List (Name × Class)) (quotas : List Name) → rooms ≡ [] → quotas ≡ [] → [] ≡ woken_from w c rooms quotas
  woken_nothing rooms quotas no_rooms no_quotas = sym ((λ i. woken_from w c (no_rooms i) (no_quotas i))
      ∙ filter_none (λ key. has_key (changed w c).blocked key && releases_wake_at w [] [] key) w.blocked
      (each _ (λ key. ap (λ b. has_key (changed w c).blocked key && b) (wakes_nothing w key) ∙ and-false (has_key (changed w c).blocked key)) w.blocked))
