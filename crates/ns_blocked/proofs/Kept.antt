-- What a release leaves is what the model leaves.
use Rattle.std.specs.Prelude.{◌≡◌, Bool, true, false, cond, not, ◌&&◌, ◌||◌, List, [], ◌∷◌, map, filter, Option, Some, None, option_map}
use Rattle.std.proofs.Common.{refl, sym, ap, ◌∙◌}
use Rattle.std.proofs.Math.Bool.{and-false, or-true}
use Rattle.std.specs.List.{cons_option, filter_map}
use Rattle.ns_types.specs.declared.evaluation.Evaluation.{Evaluation}
use Rattle.ns_types.specs.Settling.Releases.{woken}
use Rattle.ns_types.specs.State.Lists.{Each}
use Rattle.ns_types.specs.State.Names.{Key, has_key, same_key}
use Rattle.ns_types.specs.State.Rows.{World, evaluation_at}
use Rattle.ns_types.proofs.Elements as elements
use Rattle.ns_types.proofs.Named.{same_key_refl}
use Rattle.ns_types.proofs.Tests.{same_Some}
use Rattle.ns_blocked.specs.declared.entry.BlockedEvaluation.{BlockedEvaluation}
use Rattle.ns_blocked.specs.Waking.{entries_in, entries_still_in, entry_of, is_woken, keys_of_passing, released, without_passing}
use Rattle.ns_blocked.proofs.Released.{woken_is}
use Rattle.ns_types.proofs.Once.{key_is}

same_filter : {A : Type 0} (f g : A → Bool) (xs : List A) → Each (λ x. f x ≡ g x) xs → filter f xs ≡ filter g xs
same_filter f g [] h = refl
same_filter f g (x ∷ xs) h = λ i. cond (h.0 i) (x ∷ same_filter f g xs h.1 i) (same_filter f g xs h.1 i)

keys_there : (xs : List BlockedEvaluation) → Each (λ e. has_key (map (λ e. e.key) xs) e.key ≡ true) xs
keys_there [] = tt
keys_there (x ∷ xs) = (
  ap (λ b. b || has_key (map (λ (e : BlockedEvaluation). e.key) xs) x.key) (same_key_refl x.key),
  elements.each_of (λ (e : BlockedEvaluation). has_key (map (λ e. e.key) xs) e.key ≡ true) (λ e. has_key (map (λ e. e.key) (x ∷ xs)) e.key ≡ true)
      (λ e there. ap (λ b. same_key e.key x.key || b) there ∙ or-true (same_key e.key x.key)) xs (keys_there xs),
)

module _ (w : World) where
  -- the entry is that of its key
  abbrev IsEntryOf : BlockedEvaluation → Type 0
  IsEntryOf e = option_map (entry_of e.key) (evaluation_at w e.key) ≡ Some e

  each_of_world : (keys : List Key) → Each IsEntryOf (filter_map (λ key. option_map (entry_of key) (evaluation_at w key)) keys)
  each_of_world [] = tt
  each_of_world (key ∷ keys) = by (evaluation_at w key) refl (each_of_world keys)
    where
      rest : List BlockedEvaluation
      rest = filter_map (λ key. option_map (entry_of key) (evaluation_at w key)) keys

      by : (r : Option Evaluation) → evaluation_at w key ≡ r → Each IsEntryOf rest → Each IsEntryOf (cons_option (option_map (entry_of key) r) rest)
      by None is later = later
      by (Some e) is later = (ap (option_map (entry_of key)) is, later)

  one_entry : (a b : BlockedEvaluation) → IsEntryOf a → IsEntryOf b → a.key ≡ b.key → a ≡ b
  one_entry a b of_a of_b same = same_Some a b (sym of_a ∙ ap (λ key. option_map (entry_of key) (evaluation_at w key)) same ∙ of_b)

  -- a key of the entries is among those of the passing ones, where its entry passes
  among_passing : (passes : BlockedEvaluation → Bool) (e : BlockedEvaluation) → IsEntryOf e → (xs : List BlockedEvaluation) → Each IsEntryOf xs →
      has_key (keys_of_passing passes xs) e.key ≡ (has_key (map (λ e. e.key) xs) e.key && passes e)
  among_passing passes e of_e [] h = refl
  among_passing passes e of_e (x ∷ xs) h = by (passes x) refl (same_key e.key x.key) refl (among_passing passes e of_e xs h.1)
    where
      found : Bool
      found = has_key (keys_of_passing passes xs) e.key

      others : Bool
      others = has_key (map (λ (e : BlockedEvaluation). e.key) xs) e.key

      alike : same_key e.key x.key ≡ true → passes e ≡ passes x
      alike t = ap passes (one_entry e x of_e h.0 (key_is e.key x.key t))

      by : (b : Bool) → passes x ≡ b → (s : Bool) → same_key e.key x.key ≡ s → found ≡ (others && passes e) →
          has_key (map (λ e. e.key) (cond b (x ∷ filter passes xs) (filter passes xs))) e.key ≡ ((same_key e.key x.key || others) && passes e)
      by true p true t later = ap (λ s. s || found) t ∙ sym (ap (λ s. (s || others) && passes e) t ∙ alike t ∙ p)
      by true p false t later = ap (λ s. s || found) t ∙ later ∙ sym (ap (λ s. (s || others) && passes e) t)
      by false p true t later = later ∙ ap (λ b. others && b) (alike t ∙ p) ∙ and-false others
          ∙ sym (ap (λ s. (s || others) && passes e) t ∙ alike t ∙ p)
      by false p false t later = later ∙ sym (ap (λ s. (s || others) && passes e) t)

  rest_keys : (passes : BlockedEvaluation → Bool) (xs : List BlockedEvaluation) → Each IsEntryOf xs →
      map (λ e. e.key) (without_passing passes xs) ≡ filter (λ key. not (has_key (keys_of_passing passes xs) key)) (map (λ e. e.key) xs)
  rest_keys passes xs h = ap (map (λ (e : BlockedEvaluation). e.key)) (same_filter (λ e. not (passes e))
      (λ e. not (has_key (keys_of_passing passes xs) e.key)) xs
      (elements.each_of (λ e. IsEntryOf e × (has_key (map (λ e. e.key) xs) e.key ≡ true))
      (λ e. not (passes e) ≡ not (has_key (keys_of_passing passes xs) e.key))
      (λ e is. ap not (sym (among_passing passes e is.0 xs h ∙ ap (λ b. b && passes e) is.1))) xs
      (elements.each_both IsEntryOf (λ e. has_key (map (λ e. e.key) xs) e.key ≡ true) xs h (keys_there xs))))
      ∙ sym (elements.filter_map (λ key. not (has_key (keys_of_passing passes xs) key)) (λ (e : BlockedEvaluation). e.key) xs)

pub rest_is : (w w' : World) → map (λ e. e.key) (without_passing (is_woken (released w w')) (entries_still_in w w'))
    ≡ filter (λ key. not (has_key (woken w w') key)) (map (λ e. e.key) (entries_still_in w w'))
rest_is w w' = rest_keys w (is_woken (released w w')) (entries_still_in w w')
    (elements.each_still (IsEntryOf w) (λ e. has_key w'.blocked e.key) (entries_in w) (each_of_world w w.blocked))
    ∙ ap (λ keys. filter (λ key. not (has_key keys key)) (map (λ (e : BlockedEvaluation). e.key) (entries_still_in w w'))) (woken_is w w')
