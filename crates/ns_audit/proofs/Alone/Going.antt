-- What a step's own change makes of a choice: on its side it is answered alike, on the other it changes nothing.
use Rattle.std.specs.Prelude.{◌≡◌, Bool, true, false, cond, Option, Some, None}
use Rattle.std.proofs.Common.{refl, sym, subst}
use Rattle.std.specs.Option.{option_map_or}
use Rattle.ns_types.specs.declared.refusal.Refusal.{Refusal}
use Rattle.ns_types.specs.declared.reply.Content.{Content}
use Rattle.ns_types.specs.Isolation.{Part, alone_in}
use Rattle.ns_types.specs.Settling.Outcome.{Outcome, NotEnabled, Refused, Done, unless, refused_by, found}
use Rattle.ns_types.specs.State.Rows.{World}
use Rattle.ns_types.proofs.Lists.{cond_same}
use Rattle.ns_audit.specs.Apart.{Leaves, Follows}
use Rattle.ns_audit.proofs.Alone.Chosen.{GoesAlone}

-- of a change on the side b of the choice: its outcome among all, and among the chosen alone
abbrev pub Goes : Part → World → Bool → Outcome World → Outcome World → Type 0
Goes part w true o o' = Follows part o o'
Goes part w false o o' = Leaves part w o

module _ (part : Part) (w : World) where
  pub goes_refused : (b : Bool) (refusal : Refusal) → Goes part w b (Refused refusal) (Refused refusal)
  unfolding Follows Leaves
  goes_refused true refusal = refl
  goes_refused false refusal = tt

  pub goes_disabled : (b : Bool) (o : Outcome World) → Goes part w b NotEnabled o
  unfolding Follows Leaves
  goes_disabled true o = tt
  goes_disabled false o = tt

  pub goes_done : (b : Bool) (c c' : Content) (x x' : World) → (b ≡ true → c' ≡ c) → alone_in part x ≡ cond b x' (alone_in part w) →
      Goes part w b (Done c x) (Done c' x')
  unfolding Follows Leaves
  goes_done true c c' x x' alike change = λ i. Done (alike refl i) (sym change i)
  goes_done false c c' x x' alike change = change

  pub goes_by : (b : Bool) (content : Content) (f : World → World) → GoesAlone part b f →
      Goes part w b (Done content (f w)) (Done content (f (alone_in part w)))
  goes_by b content f h = goes_done b content content (f w) (f (alone_in part w)) (λ _. refl) (h w)

  -- what is only read
  pub goes_read : (b : Bool) (content : Content) → Goes part w b (Done content w) (Done content (alone_in part w))
  goes_read b content = goes_done b content content w (alone_in part w) (λ _. refl) (sym (cond_same b (alone_in part w)))

  pub goes_unless : (b : Bool) (d d' : Bool) (refusal : Refusal) (o o' : Outcome World) → (b ≡ true → d' ≡ d) → (d ≡ false → Goes part w b o o') →
      Goes part w b (unless d refusal o) (unless d' refusal o')
  unfolding Follows Leaves unless
  goes_unless true d d' refusal o o' alike h = subst (λ c. Follows part (cond d (Refused refusal) o) (cond c (Refused refusal) o')) (sym (alike refl))
      (by d refl)
    where
      by : (c : Bool) → d ≡ c → Follows part (cond c (Refused refusal) o) (cond c (Refused refusal) o')
      by true _ = refl
      by false is = h is
  goes_unless false d d' refusal o o' alike h = by d refl
    where
      by : (c : Bool) → d ≡ c → Leaves part w (cond c (Refused refusal) o)
      by true _ = tt
      by false is = h is

  pub goes_refused_by : (b : Bool) (x x' : Option Refusal) (o o' : Outcome World) → (b ≡ true → x' ≡ x) → (x ≡ None → Goes part w b o o') →
      Goes part w b (refused_by x o) (refused_by x' o')
  unfolding Follows Leaves
  goes_refused_by true x x' o o' alike h = subst (λ y. Follows part (refused_by x o) (refused_by y o')) (sym (alike refl)) (by x refl)
    where
      by : (y : Option Refusal) → x ≡ y → Follows part (refused_by y o) (refused_by y o')
      by None is = h is
      by (Some refusal) is = refl
  goes_refused_by false x x' o o' alike h = by x refl
    where
      by : (y : Option Refusal) → x ≡ y → Leaves part w (refused_by y o)
      by None is = h is
      by (Some refusal) is = tt

  pub goes_found : {A : Type 0} (b : Bool) (x x' : Option A) (f f' : A → Outcome World) → (b ≡ true → x' ≡ x) →
      ((a : A) → x ≡ Some a → Goes part w b (f a) (f' a)) → Goes part w b (found x f) (found x' f')
  unfolding Follows Leaves
  goes_found {A = A} true x x' f f' alike h = subst (λ y. Follows part (found x f) (found y f')) (sym (alike refl)) (by x refl)
    where
      by : (y : Option A) → x ≡ y → Follows part (found y f) (found y f')
      by None is = refl
      by (Some a) is = h a is
  goes_found {A = A} false x x' f f' alike h = by x refl
    where
      by : (y : Option A) → x ≡ y → Leaves part w (found y f)
      by None is = tt
      by (Some a) is = h a is

  -- what is enabled only where something is there
  pub goes_there : {A : Type 0} (b : Bool) (x x' : Option A) (f f' : A → Outcome World) → (b ≡ true → x' ≡ x) →
      ((a : A) → x ≡ Some a → Goes part w b (f a) (f' a)) → Goes part w b (option_map_or f x NotEnabled) (option_map_or f' x' NotEnabled)
  unfolding Follows Leaves
  goes_there {A = A} true x x' f f' alike h = subst (λ y. Follows part (option_map_or f x NotEnabled) (option_map_or f' y NotEnabled)) (sym (alike refl))
      (by x refl)
    where
      by : (y : Option A) → x ≡ y → Follows part (option_map_or f y NotEnabled) (option_map_or f' y NotEnabled)
      by None is = tt
      by (Some a) is = h a is
  goes_there {A = A} false x x' f f' alike h = by x refl
    where
      by : (y : Option A) → x ≡ y → Leaves part w (option_map_or f y NotEnabled)
      by None is = tt
      by (Some a) is = h a is

  -- what is enabled alone where it is among all
  pub goes_where : (b : Bool) (d d' : Bool) (o o' : Outcome World) → (b ≡ true → d ≡ true → d' ≡ true) → (d ≡ true → Goes part w b o o') →
      Goes part w b (cond d o NotEnabled) (cond d' o' NotEnabled)
  unfolding Follows Leaves
  goes_where true d d' o o' kept h = by d refl
    where
      by : (c : Bool) → d ≡ c → Follows part (cond c o NotEnabled) (cond d' o' NotEnabled)
      by true is = subst (λ c. Follows part o (cond c o' NotEnabled)) (sym (kept refl is)) (h is)
      by false is = tt
  goes_where false d d' o o' kept h = by d refl
    where
      by : (c : Bool) → d ≡ c → Leaves part w (cond c o NotEnabled)
      by true is = h is
      by false is = tt

  pub goes_either : (b : Bool) (d d' : Bool) (o o' p p' : Outcome World) → (b ≡ true → d' ≡ d) → (d ≡ true → Goes part w b o o') →
      (d ≡ false → Goes part w b p p') → Goes part w b (cond d o p) (cond d' o' p')
  unfolding Follows Leaves
  goes_either true d d' o o' p p' alike h k = subst (λ c. Follows part (cond d o p) (cond c o' p')) (sym (alike refl)) (by d refl)
    where
      by : (c : Bool) → d ≡ c → Follows part (cond c o p) (cond c o' p')
      by true is = h is
      by false is = k is
  goes_either false d d' o o' p p' alike h k = by d refl
    where
      by : (c : Bool) → d ≡ c → Leaves part w (cond c o p)
      by true is = h is
      by false is = k is
