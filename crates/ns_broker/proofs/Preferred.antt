-- The one that is served, found along the list.
use Rattle.std.specs.Prelude.{◌≡◌, ℕ, ◌==◌, Bool, true, false, cond, not, ◌&&◌, if◌then◌else◌, List, [], ◌∷◌, Option, Some, None, fold, is_some, length, nat_le}
use Rattle.std.proofs.Common.{refl, ap, sym, ◌∙◌, arith}
use Rattle.std.proofs.lemmas.Bool.{le-leb, leb-true, ne_eqb}
use Rattle.std.specs.List.{list_all}
use Rattle.ns_types.proofs.Named.{first_of_both, second_of_both}
use Rattle.keyed.specs.Queue.{keys_in}
use Rattle.ns_broker.specs.Serving.{preferred, preferred_at}
use Rattle.ns_types.specs.State.Lists.{is_empty}
use Rattle.ns_types.specs.State.Names.{Key}
use Rattle.ns_types.specs.Working.Queue.{first_of_greatest}

module _ (p : Key → ℕ) where
  abbrev under : Key → List Key → Bool
  under best keys = list_all (λ other. nat_le (p other) (p best)) keys

  under_more : (k b : Key) → nat_le (p k) (p b) ≡ true → (keys : List Key) → under k keys ≡ true → under b keys ≡ true
  under_more k b le [] h = refl
  under_more k b le (o ∷ os) h =
      let low = leb-true (p o) (p k) (first_of_both _ _ h) in
      let high = leb-true (p k) (p b) le in
      let both : nat_le (p o) (p b) ≡ true = le-leb (p o) (p b) (omega (arith, low, high)) in
      λ i. both i && under_more k b le os (second_of_both _ _ h) i

  under_less : (k b : Key) → nat_le (p k) (p b) ≡ true → (keys : List Key) → under b keys ≡ false → under k keys ≡ false
  under_less k b le keys not_b = by (under k keys) refl
    where
      by : (u : Bool) → under k keys ≡ u → u ≡ false
      by false e = refl
      by true e = sym (under_more k b le keys e) ∙ not_b

  greatest_after : (b : Key) (keys : List Key) → fold (preferred p) (Some b) keys ≡ cond (under b keys) (Some b) (first_of_greatest p keys)
  greatest_after b [] = refl
  greatest_after b (k ∷ keys) = by (greatest_after b keys) (greatest_after k keys) (nat_le (p k) (p b)) refl
    where
      rest : nat_le (p k) (p b) ≡ true → (u : Bool) → under b keys ≡ u →
          cond u (Some b) (first_of_greatest p keys) ≡ cond u (Some b) (cond (under k keys) (Some k) (first_of_greatest p keys))
      rest le true e = refl
      rest le false e = sym (ap (λ u. cond u (Some k) (first_of_greatest p keys)) (under_less k b le keys e))

      by : fold (preferred p) (Some b) keys ≡ cond (under b keys) (Some b) (first_of_greatest p keys) →
          fold (preferred p) (Some k) keys ≡ cond (under k keys) (Some k) (first_of_greatest p keys) →
          (c : Bool) → nat_le (p k) (p b) ≡ c → fold (preferred p) (cond c (Some b) (Some k)) keys ≡
          cond (c && under b keys) (Some b) (cond (under k keys) (Some k) (first_of_greatest p keys))
      by kept later true le = kept ∙ rest le (under b keys) refl
      by kept later false gt = later

  pub first_is_served : (keys : List Key) → fold (preferred p) None keys ≡ first_of_greatest p keys
  first_is_served [] = refl
  first_is_served (k ∷ keys) = greatest_after k keys

-- ---- slot by slot

pub along_slots : (p : Key → ℕ) (first : Option Key) (slots : List (ℕ × Option Key)) →
    fold (preferred_at p) first slots ≡ fold (preferred p) first (keys_in slots)
along_slots p first [] = refl
along_slots p first ((n, None) ∷ slots) = along_slots p first slots
along_slots p first ((n, Some key) ∷ slots) = along_slots p (preferred p first key) slots

-- ---- whether there is one

module _ (p : Key → ℕ) where
  some_after : (b : Key) (keys : List Key) → is_some (fold (preferred p) (Some b) keys) ≡ true
  some_after b [] = refl
  some_after b (k ∷ keys) = by (some_after b keys) (some_after k keys) (nat_le (p k) (p b))
    where
      by : is_some (fold (preferred p) (Some b) keys) ≡ true → is_some (fold (preferred p) (Some k) keys) ≡ true →
          (c : Bool) → is_some (fold (preferred p) (cond c (Some b) (Some k)) keys) ≡ true
      by kept later true = kept
      by kept later false = later

  pub some_is_served : (keys : List Key) → not (is_empty keys) ≡ is_some (first_of_greatest p keys)
  some_is_served [] = refl
  some_is_served (k ∷ keys) = sym (ap is_some (sym (first_is_served p (k ∷ keys))) ∙ some_after k keys)
