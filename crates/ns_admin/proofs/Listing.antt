-- Lists of what is shown, made slot by slot.
use Rattle.std.specs.Prelude.{◌≡◌, Bool, true, false, cond, List, [], ◌∷◌, ◌++◌, map, filter, Option, Some}
use Rattle.std.proofs.Common.{refl, sym, ap, ◌∙◌, append_assoc}
use Rattle.keyed.specs.Table.{row_list}

module _ {K V S : Type 0} (show : K × V → S) (passes : K → Bool) where
  abbrev shown_of : List (K × Option V) → List S
  shown_of es = map show (filter (λ e. passes e.0) (row_list es))

  at_row : (k : K) (v : V) (others : List (K × Option V)) (b : Bool) → passes k ≡ b →
      shown_of ((k, Some v) ∷ others) ≡ cond b (show (k, v) ∷ shown_of others) (shown_of others)
  at_row k v others b e = ap (λ b. map show (cond b ((k, v) ∷ filter (λ e. passes e.0) (row_list others)) (filter (λ e. passes e.0) (row_list others)))) e ∙
      by b
    where
      by : (b : Bool) → map show (cond b ((k, v) ∷ filter (λ e. passes e.0) (row_list others)) (filter (λ e. passes e.0) (row_list others))) ≡ cond b
          (show (k, v) ∷ shown_of others) (shown_of others)
      by true = refl
      by false = refl

  module _ (done whole : List S) (k : K) (v : V) (rest others : List (K × Option V)) (is : rest ≡ (k, Some v) ∷ others) (before : done ++ shown_of rest ≡ whole)
    where
      -- the row passes, and is added
      pub row_added : (after : List S) → after ≡ done ++ show (k, v) ∷ [] → passes k ≡ true → after ++ shown_of others ≡ whole
      row_added after added e = ap (λ xs. xs ++ shown_of others) added ∙ append_assoc done (show (k, v) ∷ []) (shown_of others)
          ∙ ap (λ xs. done ++ xs) (sym (ap shown_of is ∙ at_row k v others true e)) ∙ before

      -- the row does not pass, and is left out
      pub row_left_out : passes k ≡ false → done ++ shown_of others ≡ whole
      row_left_out e = ap (λ xs. done ++ xs) (sym (ap shown_of is ∙ at_row k v others false e)) ∙ before
