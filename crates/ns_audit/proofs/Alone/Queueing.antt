-- The one that is served of a list is served of any part of the list that has it.
use Rattle.std.specs.Prelude.{◌≡◌, ℕ, Bool, true, false, cond, List, [], ◌∷◌, Some, ◌&&◌, filter, nat_le}
use Rattle.std.proofs.Common.{refl, sym, ap, subst, ◌∙◌, arith}
use Rattle.std.specs.List.{list_all}
use Rattle.ns_types.specs.State.Names.{Key}
use Rattle.ns_types.specs.Working.Queue.{first_of_greatest}
use Rattle.ns_types.specs.State.Lists.{Each}
use Rattle.ns_types.proofs.Lists.{not_both}
use Rattle.ns_types.proofs.Named.{first_of_both, second_of_both}
use Rattle.ns_types.proofs.Tests.{not_Some, same_Some}

nat_le_trans : (a b c : ℕ) → nat_le a b ≡ true → nat_le b c ≡ true → nat_le a c ≡ true
nat_le_trans a b c p q = grind arith

module _ {A : Type 0} where
  all_weaker : (f g : A → Bool) (xs : List A) → ((x : A) → f x ≡ true → g x ≡ true) → list_all f xs ≡ true → list_all g xs ≡ true
  all_weaker f g [] h e = refl
  all_weaker f g (x ∷ xs) h e = λ i. h x (first_of_both _ _ e) i && all_weaker f g xs h (second_of_both _ _ e) i

  all_at : (f : A → Bool) (p : A → Bool) (xs : List A) → list_all f xs ≡ true → list_all f (filter p xs) ≡ true
  all_at f p [] e = refl
  all_at f p (x ∷ xs) e = elim (p x) as (λ b. list_all f (cond b (x ∷ filter p xs) (filter p xs)) ≡ true) [
    | true ↦ λ i. first_of_both (f x) _ e i && all_at f p xs (second_of_both (f x) _ e) i
    | false ↦ all_at f p xs (second_of_both (f x) _ e)
  ]

nat_le_refl : (a : ℕ) → nat_le a a ≡ true
nat_le_refl a = grind arith

turned : (a b : ℕ) → nat_le a b ≡ false → nat_le b a ≡ true
turned a b e = grind arith

module _ (priority : Key → ℕ) where
  abbrev under : Key → Key → Bool
  under key other = nat_le (priority other) (priority key)

  -- what holds of all holds of the one that is served
  all_served : (f : Key → Bool) (keys : List Key) (key : Key) → first_of_greatest priority keys ≡ Some key → list_all f keys ≡ true → f key ≡ true
  all_served f [] key e h = absurd (not_Some _ e)
  all_served f (x ∷ xs) key e h = by (λ e'. all_served f xs key e' (second_of_both (f x) _ h)) (list_all (λ other. nat_le (priority other) (priority x)) xs) e
    where
      by : (first_of_greatest priority xs ≡ Some key → f key ≡ true) → (b : Bool) → cond b (Some x) (first_of_greatest priority xs) ≡ Some key → f key ≡ true
      by later true e = ap f (sym (same_Some x key e)) ∙ first_of_both (f x) _ h
      by later false e = later e

  -- none has a greater priority than the one that is served
  is_greatest : (keys : List Key) (key : Key) → first_of_greatest priority keys ≡ Some key →
      list_all (λ other. nat_le (priority other) (priority key)) keys ≡ true
  is_greatest [] key e = refl
  is_greatest (x ∷ xs) key e = by (is_greatest xs key) (list_all (λ other. nat_le (priority other) (priority x)) xs) refl e
    where
      by : (first_of_greatest priority xs ≡ Some key → list_all (λ other. nat_le (priority other) (priority key)) xs ≡ true) → (b : Bool) →
          list_all (λ other. nat_le (priority other) (priority x)) xs ≡ b → cond b (Some x) (first_of_greatest priority xs) ≡ Some key
          → (nat_le (priority x) (priority key) && list_all (λ other. nat_le (priority other) (priority key)) xs) ≡ true
      by later true h e = subst (λ k. (nat_le (priority x) (priority k) && list_all (λ other. nat_le (priority other) (priority k)) xs) ≡ true)
          (same_Some x key e) (λ i. nat_le_refl (priority x) i && h i)
      by later false h e = λ i. above (nat_le (priority x) (priority key)) refl i && rest i
        where
          rest : list_all (λ other. nat_le (priority other) (priority key)) xs ≡ true
          rest = later e

          above : (c : Bool) → nat_le (priority x) (priority key) ≡ c → nat_le (priority x) (priority key) ≡ true
          above true is = is
          above false is = not_both (all_weaker _ _ xs
              (λ other low. nat_le_trans (priority other) (priority key) (priority x) low (turned (priority x) (priority key) is)) rest) h

  served_chosen : (p : Key → Bool) (keys : List Key) (key : Key) → first_of_greatest priority keys ≡ Some key → p key ≡ true →
      first_of_greatest priority (filter p keys) ≡ Some key
  served_chosen p [] key e own = e
  served_chosen p (x ∷ xs) key e own = by (λ e'. served_chosen p xs key e' own) (list_all (under x) xs) refl e (p x) refl
    where
      by : (first_of_greatest priority xs ≡ Some key → first_of_greatest priority (filter p xs) ≡ Some key) → (b : Bool) → list_all (under x) xs ≡ b →
          cond b (Some x) (first_of_greatest priority xs) ≡ Some key → (c : Bool) → p x ≡ c →
          first_of_greatest priority (cond c (x ∷ filter p xs) (filter p xs)) ≡ Some key
      by later true h e true is = ap (λ b. cond b (Some x) (first_of_greatest priority (filter p xs))) (all_at (under x) p xs h) ∙ e
      by later true h e false is = not_both (ap p (same_Some x key e) ∙ own) is
      by later false h e false is = later e
      by later false h e true is = here (list_all (under x) (filter p xs)) refl
        where
          rest : first_of_greatest priority (filter p xs) ≡ Some key
          rest = later e

          here : (d : Bool) → list_all (under x) (filter p xs) ≡ d → cond d (Some x) (first_of_greatest priority (filter p xs)) ≡ Some key
          here false _ = rest
          here true low = not_both (all_weaker _ _ xs
              (λ other le. nat_le_trans (priority other) (priority key) (priority x) le (all_served (under x) (filter p xs) key rest low))
              (is_greatest xs key e)) h

-- priorities count where they are asked
pub served_alike : (f g : Key → ℕ) (keys : List Key) → Each (λ key. f key ≡ g key) keys → first_of_greatest f keys ≡ first_of_greatest g keys
served_alike f g [] h = refl
served_alike f g (x ∷ xs) h = λ i. cond (alike xs h.1 i) (Some x) (served_alike f g xs h.1 i)
  where
    alike : (ys : List Key) → Each (λ key. f key ≡ g key) ys → list_all (λ other. nat_le (f other) (f x)) ys ≡ list_all (λ other. nat_le (g other) (g x)) ys
    alike [] k = refl
    alike (y ∷ ys) k = λ i. nat_le (k.0 i) (h.0 i) && alike ys k.1 i

each_in : (P : Key → Type 0) (p : Key → Bool) (keys : List Key) → ((key : Key) → p key ≡ true → P key) → Each P (filter p keys)
each_in P p [] h = tt
each_in P p (x ∷ xs) h = elim (p x) as (λ b. p x ≡ b → Each P (cond b (x ∷ filter p xs) (filter p xs))) [
  | true ↦ λ is. (h x is, each_in P p xs h)
  | false ↦
      λ _. each_in P p xs h
] refl

pub served_alone : (f g : Key → ℕ) (p : Key → Bool) (keys : List Key) (key : Key) → ((k : Key) → p k ≡ true → f k ≡ g k) → first_of_greatest f keys ≡ Some key →
    p key ≡ true → first_of_greatest g (filter p keys) ≡ Some key
served_alone f g p keys key same e own = sym (served_alike f g (filter p keys) (each_in _ p keys same)) ∙ served_chosen f p keys key e own
