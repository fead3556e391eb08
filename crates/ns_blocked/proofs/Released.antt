-- What a step releases wakes those that the model wakes.
use Rattle.std.specs.Prelude.{◌≡◌, Bool, true, false, cond, not, ◌&&◌, List, [], ◌∷◌, map, filter, Option, Some, None, option_map}
use Rattle.std.proofs.Common.{refl, sym, ap, ◌∙◌}
use Rattle.std.proofs.Math.Bool.{and-false, and-true}
use Rattle.std.specs.FinMap.{entries, get}
use Rattle.std.specs.List.{cons_option, filter_map, list_any}
use Rattle.std.specs.Option.{option_map_or}
use Rattle.ns_types.specs.declared.evaluation.Evaluation.{Evaluation}
use Rattle.ns_types.specs.declared.node.Class.{Class}
use Rattle.ns_types.specs.Settling.Releases.{can_use, classes_of, is_released_quota, released_classes, releases_quota, wakes, woken, wakes_by, released_between}
use Rattle.ns_types.specs.State.Lists.{is_empty}
use Rattle.ns_types.specs.State.Names.{Key, Name, has_key, same_name}
use Rattle.ns_types.specs.State.Rows.{PoolRows, QuotaRows, World, evaluation_at}
use Rattle.ns_types.proofs.Elements.{any_map, any_same}
use Rattle.ns_types.proofs.Named.{names, one_name, same_name_refl}
use Rattle.ns_blocked.specs.declared.entry.BlockedEvaluation.{BlockedEvaluation}
use Rattle.ns_blocked.specs.declared.entry.Waits.TheVariants.{Pool, Quota}
use Rattle.ns_blocked.specs.declared.releases.ReleasedPool.{ReleasedPool}
use Rattle.ns_blocked.specs.Waking.{entries_still_in, entry_of, is_woken, keys_of_passing, released, released_pool, woken_by}
use Rattle.ns_blocked.proofs.OneKey.{any_row_at, at_that_key}
use Rattle.ns_blocked.proofs.Passing.{any_kept}

-- a test that finds one needs no look at whether there are any
some_there : {A : Type 0} (s : Bool) (p : A → Bool) (xs : List A) → ((s && list_any p xs) && not (is_empty xs)) ≡ (s && list_any p xs)
some_there true p [] = refl
some_there false p [] = refl
some_there true p (x ∷ xs) = and-true (list_any p (x ∷ xs))
some_there false p (x ∷ xs) = refl

module _ (w w' : World) where
  -- a quota is among the released ones, where it is released
  quota_released : (quota : Name) → list_any (λ name. same_name name quota) (released w w').quotas ≡ is_released_quota w w' quota
  unfolding released
  quota_released quota = any_map (λ name. same_name name quota) (λ (e : Name × QuotaRows). e.0)
      (filter (λ e. releases_quota w w' e.0 e.1) (entries w'.quotas))
      ∙ any_kept (λ (e : Name × QuotaRows). same_name e.0 quota) (λ e. releases_quota w w' e.0 e.1) (entries w'.quotas)
      ∙ any_same (λ (e : Name × QuotaRows). same_name e.0 quota && releases_quota w w' e.0 e.1)
      (λ e. same_name quota e.0 && releases_quota w w' quota e.1)
      (λ e. at_that_key names one_name (releases_quota w w') quota e.0 e.1) (entries w'.quotas)
      ∙ any_row_at names one_name w'.quotas quota (releases_quota w w' quota) (same_name_refl quota)

  -- a class is among those of a released pool, where it is released
  classes_released : (pool : Name) (fits : Class → Bool) →
      list_any (λ p. same_name p.pool pool && list_any fits p.classes) (released w w').pools ≡ list_any fits (classes_of w w' pool)
  unfolding released
  classes_released pool fits = any_kept (λ (p : ReleasedPool). same_name p.pool pool && list_any fits p.classes) (λ p. not (is_empty p.classes))
      (map (λ e. released_pool w w' e.0 e.1) (entries w'.pools))
      ∙ any_map (λ (p : ReleasedPool). (same_name p.pool pool && list_any fits p.classes) && not (is_empty p.classes))
      (λ (e : Name × PoolRows). released_pool w w' e.0 e.1) (entries w'.pools)
      ∙ any_same (λ (e : Name × PoolRows). (same_name e.0 pool && any_of e.0 e.1) && not (is_empty (released_classes w w' e.0 e.1)))
      (λ e. same_name pool e.0 && any_of pool e.1)
      (λ e. some_there (same_name e.0 pool) fits (released_classes w w' e.0 e.1) ∙ at_that_key names one_name any_of pool e.0 e.1) (entries w'.pools)
      ∙ any_row_at names one_name w'.pools pool (any_of pool) (same_name_refl pool) ∙ by (get w'.pools pool)
    where
      any_of : Name → PoolRows → Bool
      any_of name rows = list_any fits (released_classes w w' name rows)

      by : (r : Option PoolRows) → option_map_or (any_of pool) r false ≡ list_any fits (option_map_or (released_classes w w' pool) r [])
      by None = refl
      by (Some rows) = refl

  wakes_same : (key : Key) (e : Evaluation) → is_woken (released w w') (entry_of key e) ≡ wakes w w' e
  unfolding wakes
  wakes_same key e = by e.quota
    where
      as_entry : Option Name → BlockedEvaluation
      as_entry quota = record { key = key; waits = option_map_or Quota quota (Pool e.pool); escapes = e.escapes; infeasible = e.infeasible }

      by : (quota : Option Name) → is_woken (released w w') (as_entry quota) ≡ wakes_by (released_between w w') e quota
      by (Some quota) = quota_released quota
      by None = classes_released e.pool (can_use e)

  woken_of : (keys : List Key) → keys_of_passing (is_woken (released w w')) (filter (λ e. has_key w'.blocked e.key)
      (filter_map (λ key. option_map (entry_of key) (evaluation_at w key)) keys))
      ≡ filter (λ key. has_key w'.blocked key && option_map_or (wakes w w') (evaluation_at w key) false) keys
  woken_of [] = refl
  woken_of (key ∷ keys) = by (evaluation_at w key) (woken_of keys)
    where
      passes : BlockedEvaluation → Bool
      passes = is_woken (released w w')

      still : List BlockedEvaluation
      still = filter (λ e. has_key w'.blocked e.key) (filter_map (λ key. option_map (entry_of key) (evaluation_at w key)) keys)

      rest : List Key
      rest = filter (λ key. has_key w'.blocked key && option_map_or (wakes w w') (evaluation_at w key) false) keys

      woken_too : (e : BlockedEvaluation) (b : Bool) → e.key ≡ key → keys_of_passing passes still ≡ rest →
          map (λ e. e.key) (cond b (e ∷ filter passes still) (filter passes still)) ≡ cond b (key ∷ rest) rest
      woken_too e true is later = λ i. is i ∷ later i
      woken_too e false is later = later

      there : (e : Evaluation) (b : Bool) → keys_of_passing passes still ≡ rest →
          keys_of_passing passes (cond b (entry_of key e ∷ still) still) ≡ cond (b && wakes w w' e) (key ∷ rest) rest
      there e true later = ap (λ b. map (λ e. e.key) (cond b (entry_of key e ∷ filter passes still) (filter passes still))) (wakes_same key e)
          ∙ woken_too (entry_of key e) (wakes w w' e) refl later
      there e false later = later

      by : (r : Option Evaluation) → keys_of_passing passes still ≡ rest →
          keys_of_passing passes (filter (λ e. has_key w'.blocked e.key) (cons_option (option_map (entry_of key) r)
          (filter_map (λ key. option_map (entry_of key) (evaluation_at w key)) keys)))
          ≡ cond (has_key w'.blocked key && option_map_or (wakes w w') r false) (key ∷ rest) rest
      by None later = later ∙ ap (λ b. cond b (key ∷ rest) rest) (sym (and-false (has_key w'.blocked key)))
      by (Some e) later = there e (has_key w'.blocked key) later

  pub woken_is : woken_by (released w w') (entries_still_in w w') ≡ woken w w'
  unfolding woken
  woken_is = woken_of w.blocked
