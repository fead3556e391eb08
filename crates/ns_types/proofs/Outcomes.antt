-- What a step comes to, test by test.
use Rattle.std.specs.Prelude.{◌≡◌, Bool, true, false, T, Option, Some, None, is_some, if◌then◌else◌, Result, Ok, Err}
use Rattle.std.proofs.Common.{refl, sym, ap, subst}
use Rattle.std.specs.Option.{option_map_or}
use Rattle.std.specs.Result.{IsErrAnd}
use Rattle.ns_types.specs.declared.refusal.Refusal.{Refusal}
use Rattle.ns_types.specs.declared.reply.Content.{Content}
use Rattle.ns_types.specs.Settling.Outcome.{Changes, Done, NotEnabled, Outcome, Refused, found, is_done, unless}

-- the state that an outcome leaves, where it is done
abbrev pub state_or : {S : Type 0} → S → Outcome S → S
state_or s (Done content left) = left
state_or s _ = s

-- what a refused outcome is refused with
abbrev pub refusal_of : {S : Type 0} → Refusal → Outcome S → Refusal
refusal_of other (Refused refusal) = refusal
refusal_of other _ = other

abbrev pub is_enabled : {S : Type 0} → Outcome S → Bool
is_enabled NotEnabled = false
is_enabled _ = true

module _ {S : Type 0} where
  -- want of memory, where the change would have been made
  pub memory_last : (o : Outcome S) (s s' : S) (result : Result Content Refusal) → IsErrAnd result (λ refusal. refusal ≡ Refusal.Memory)
      → is_done o ≡ true → s' ≡ s → Changes o s result s'
  memory_last o s s' (Ok content) e done same = absurd e
  memory_last o s s' (Err refusal) e done same = subst (λ refusal. Changes o s (Err refusal) s') (sym e) (done, same)

  pub unless_so : (b : Bool) (r : Refusal) (rest : Outcome S) → b ≡ true → unless b r rest ≡ Refused r
  unfolding unless
  unless_so b r rest e = ap (λ b. if b then Refused r else rest) e

  pub unless_not : (b : Bool) (r : Refusal) (rest : Outcome S) → b ≡ false → unless b r rest ≡ rest
  unfolding unless
  unless_not b r rest e = ap (λ b. if b then Refused r else rest) e

  pub found_none : {A : Type 0} (thing : Option A) (go : A → Outcome S) → thing ≡ None → found thing go ≡ Refused Refusal.NotFound
  found_none thing go e = ap (λ x. option_map_or go x (Refused Refusal.NotFound)) e

  pub found_some : {A : Type 0} (thing : Option A) (go : A → Outcome S) (x : A) → thing ≡ Some x → found thing go ≡ go x
  found_some thing go x e = ap (λ x. option_map_or go x (Refused Refusal.NotFound)) e

  pub found_absent : {A : Type 0} (thing : Option A) (go : A → Outcome S) → is_some thing ≡ false → found thing go ≡ Refused Refusal.NotFound
  found_absent None go e = refl
  found_absent (Some x) go e = absurd (subst T e tt)

  -- where what follows does not look at what was found
  pub found_there : {A : Type 0} (thing : Option A) (next : Outcome S) → is_some thing ≡ true → found thing (λ _. next) ≡ next
  found_there None next e = absurd (subst T (sym e) tt)
  found_there (Some x) next e = refl
