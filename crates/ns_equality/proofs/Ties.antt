-- Equality as the program tests it, and as the model says it.
use Rattle.std.specs.Prelude.{◌≡◌, ℕ, Bool, true, false, List, ◌++◌}
use Rattle.std.proofs.Common.{refl, sym, ap, ◌∙◌}
use Rattle.std.proofs.lemmas.List.{append_cancel_left, append_cancel_right}
use Rattle.ns_types.specs.State.Names.{same_name}
use Rattle.ns_types.proofs.Lists.{not_both}
use Rattle.ns_types.proofs.Named.{same_name_is, same_name_refl}

-- a text between two others is the same where the whole is
pub between : (pre post a b : List ℕ) → same_name (pre ++ a ++ post) (pre ++ b ++ post) ≡ same_name a b
between pre post a b = by (same_name a b) refl
  where
    by : (r : Bool) → same_name a b ≡ r → same_name (pre ++ a ++ post) (pre ++ b ++ post) ≡ r
    by true e = ap (λ t. same_name (pre ++ a ++ post) (pre ++ t ++ post)) (sym (same_name_is a b e)) ∙ same_name_refl (pre ++ a ++ post)
    by false e = other (same_name (pre ++ a ++ post) (pre ++ b ++ post)) refl
      where
        other : (r : Bool) → same_name (pre ++ a ++ post) (pre ++ b ++ post) ≡ r → same_name (pre ++ a ++ post) (pre ++ b ++ post) ≡ false
        other false f = f
        other true f = not_both (ap (λ t. same_name a t)
            (sym (append_cancel_left pre a b (append_cancel_right (pre ++ a) (pre ++ b) post (same_name_is _ _ f)))) ∙ same_name_refl a) e
