-- A class's number in a pool's list.
use Rattle.std.specs.Prelude.{◌≡◌, ℕ, Bool, true, false, cond, not, List, [], ◌∷◌, ◌++◌, Option, Some, None, filter}
use Rattle.std.proofs.Common.{refl, sym, ap, ◌∙◌}
use Rattle.std.specs.FinMap.{from_entries, get-from_entries, get-insert, insert, same_map}
use Rattle.std.specs.FinMap.Entries.{find}
use Rattle.std.specs.Option.{option_or}
use Rattle.ns_types.specs.declared.node.Class.{Class}
use Rattle.ns_types.specs.State.Names.{class_cmp, same_class}
use Rattle.ns_types.proofs.Classes.{by_class, one_class}
use Rattle.ns_types.proofs.Lists.{cond_same}
use Rattle.ns_types.proofs.Tables.{tied}

-- the entries of the other classes
abbrev pub others : Class → List (Class × ℕ) → List (Class × ℕ)
others class es = filter (λ e. not (same_class class e.0)) es

find_end : (q class : Class) (n : ℕ) (es : List (Class × ℕ)) →
    find class_cmp q (es ++ (class, n) ∷ []) ≡ option_or (find class_cmp q es) (cond (same_class q class) (Some n) None)
find_end q class n [] = refl
find_end q class n (e ∷ es) = elim (same_class q e.0) as
    (λ b. cond b (Some e.1) (find class_cmp q (es ++ (class, n) ∷ [])) ≡ option_or (cond b (Some e.1) (find class_cmp q es))
    (cond (same_class q class) (Some n) None)) [
      | true ↦ refl
      | false ↦ find_end q class n es
    ]

find_others : (q class : Class) (es : List (Class × ℕ)) → find class_cmp q (others class es) ≡ cond (same_class q class) None (find class_cmp q es)
find_others q class [] = sym (cond_same (same_class q class) None)
find_others q class (e ∷ es) = by (same_class class e.0) refl (same_class q class) refl (find_others q class es)
  where
    by : (a : Bool) → same_class class e.0 ≡ a → (b : Bool) → same_class q class ≡ b → find class_cmp q (others class es) ≡ cond b None (find class_cmp q es) →
        find class_cmp q (cond (not a) (e ∷ others class es) (others class es)) ≡ cond b None (cond (same_class q e.0) (Some e.1) (find class_cmp q es))
    by true t true u rest = rest
    by true t false u rest = rest ∙ ap (λ r. cond r (Some e.1) (find class_cmp q es)) (sym (ap (same_class q) (sym (tied one_class class e.0 t)) ∙ u))
    by false t true u rest =
        ap (λ r. cond r (Some e.1) (find class_cmp q (others class es))) (ap (λ c. same_class c e.0) (tied one_class q class u) ∙ t) ∙ rest
    by false t false u rest = ap (cond (same_class q e.0) (Some e.1)) rest

-- the class's entry is put anew, at the end
pub class_put : (class : Class) (n : ℕ) (es : List (Class × ℕ)) →
    from_entries {R = class_cmp} (others class es ++ (class, n) ∷ []) ≡ insert (from_entries es) class n
class_put class n es = same_map by_class one_class _ _ (λ q. get-from_entries by_class _ q ∙ find_end q class n (others class es)
    ∙ ap (λ r. option_or r (cond (same_class q class) (Some n) None)) (find_others q class es) ∙ by (same_class q class) (find class_cmp q es)
    ∙ ap (cond (same_class q class) (Some n)) (sym (get-from_entries by_class es q)) ∙ sym (get-insert by_class (from_entries es) class n q))
  where
    by : (b : Bool) (r : Option ℕ) → option_or (cond b None r) (cond b (Some n) None) ≡ cond b (Some n) r
    by true r = refl
    by false None = refl
    by false (Some x) = refl
