-- Release numbers that rise one by one, each once.
use Rattle.std.specs.Prelude.{◌≡◌, ℕ, ◌+◌, ◌<◌, ◌^◌, Bool, true, false, ◌||◌, List, [], ◌∷◌, Option, Some, None, option_map, IfSome}
use Rattle.std.proofs.Common.{refl, sym, ap, ◌∙◌, arith, ◌-◌, length, length-drop, drop, take}
use Rattle.keyed.proofs.Mapped.{take_all}
use Rattle.std.specs.List.{list_any}
use Rattle.std.specs.FinMap.{FinMap}
use Rattle.keyed.specs.Table.{row_at}
use Rattle.ns_types.specs.State.Names.{Name, name_cmp, same_name}
use Rattle.ns_types.proofs.Lists.{not_both}
use Rattle.ns_types.proofs.Named.{same_name_refl}
use Rattle.ns_settlement.specs.Committed.{CanRise}
use Rattle.ns_settlement.specs.Owners.{ChangesRow}
use Rattle.ns_settlement.proofs.Owned.{at_each, by_turn, if_there}

-- the rest of a list, from an item on
pub rest_is : {A : Type 0} (xs : List A) (i : ℕ) → take (length xs - i) (drop i xs) ≡ drop i xs
rest_is xs i = take_all (drop i xs) (length xs - i) (simp length-drop (omega arith))

module _ {E Row : Type 0} (key : E → Name) (raised : Bool → Row → Row) (release : Row → ℕ) (idle : (row : Row) → raised false row ≡ row) where
  abbrev pub among : List E → Name → Bool
  among es q = list_any (λ e. same_name q (key e)) es

  -- once those of es have risen as well, the rows are those that `all` tells
  pub record Left (m : FinMap name_cmp (Option Row)) (es : List E) (all : Name → Option Row) : Type 0 where
    pub whole : (q : Name) → option_map (raised (among es q)) (row_at m q) ≡ all q
    pub can : CanRise release (among es) m

  none_left : (r : Option Row) → option_map (raised false) r ≡ r
  none_left None = refl
  none_left (Some row) = ap Some (idle row)

  pub all_risen : (m : FinMap name_cmp (Option Row)) (es : List E) (all : Name → Option Row) → es ≡ [] → Left m es all → (q : Name) → row_at m q ≡ all q
  all_risen m es all is h q = sym (none_left (row_at m q)) ∙ ap (λ es. option_map (raised (among es q)) (row_at m q)) (sym is) ∙ h.whole q

  module _ (old new : FinMap name_cmp (Option Row)) (e : E) (es rest : List E) (all : Name → Option Row) (is : es ≡ e ∷ rest) (h : Left old es all) where
    here : among es (key e) ≡ true
    here = ap (λ es. among es (key e)) is ∙ ap (λ b. b || among rest (key e)) (same_name_refl (key e))

    other : (q : Name) → same_name q (key e) ≡ false → among es q ≡ among rest q
    other q f = ap (λ es. among es q) is ∙ ap (λ b. b || among rest q) f

    pub can_rise : IfSome (row_at old (key e)) (λ row. release row + 1 < 2 ^ 64)
    can_rise = if_there _ (row_at old (key e)) (λ row at. h.can (key e) row at here)

    pub risen : among rest (key e) ≡ false → ChangesRow (λ a b. b ≡ raised true a) (key e) old new → Left new rest all
    risen last put = record {
      whole = at_each _ (key e)
          (ap (λ b. option_map (raised b) (row_at new (key e))) last
          ∙ by_turn _ (λ r s. option_map (raised false) s ≡ option_map (raised true) r) refl (λ a b is. ap Some (idle b ∙ is)) (row_at old (key e))
          (row_at new (key e)) put.here
          ∙ ap (λ b. option_map (raised b) (row_at old (key e))) (sym here) ∙ h.whole (key e))
          (λ q f. (λ i. option_map (raised (sym (other q f) i)) (put.others q f i)) ∙ h.whole q);
      can = at_each _ (key e) (λ row at chosen. not_both chosen last)
          (λ q f row at chosen. h.can q row (sym (put.others q f) ∙ at) (other q f ∙ chosen));
    }

    pub passed : among rest (key e) ≡ true → new ≡ old → Left new rest all
    passed more stays =
        let alike : (q : Name) → among es q ≡ among rest q = at_each _ (key e) (here ∙ sym more) other in record {
          whole = λ q. (λ i. option_map (raised (sym (alike q) i)) (row_at (stays i) q)) ∙ h.whole q;
          can = λ q row at chosen. h.can q row (sym (ap (λ m. row_at m q) stays) ∙ at) (alike q ∙ chosen);
        }
