-- Names of one kind, text by text.
use Rattle.std.proofs.Common.{◌≡◌, ◌∙◌, ◌&&◌, ◌++◌, ◌∷◌, [], ◌+◌, ◌<◌, ap, ap₂, length, map, refl, sym, Bool, true}
use Rattle.std.proofs.Common.{false, take, List, ℕ, Some, None, if◌then◌else◌}
use Rattle.std.proofs.Math.ListN.{get_or}
use Rattle.std.proofs.lemmas.List.Folds.{list_all_at, list_all_more}
use Rattle.std.proofs.lemmas.List.{get_or-map, length-map, take_more}
use Rattle.std.specs.Borrow.{Bor}
use Rattle.std.specs.List.{list_all}
use Rattle.ns_types.specs.State.Name.{is_name, name_of}
use Rattle.ns_types.specs.declared.name.NameKind.{NameKind}
use Rattle.ns_arguments.specs.Values.{names_by}

abbrev texts : List (Bor (List ℕ)) → List (List ℕ)
texts = map (λ s. s.now)

refused : {A : Type 0} (b : Bool) (x : A) → None ≡ (if b then Some x else None) → b ≡ false
refused true x e = cc
refused false x e = refl

-- the text that passes is the one that is given
passed : {A : Type 0} (b : Bool) (x y : A) → Some y ≡ (if b then Some x else None) → (b ≡ true) × (y ≡ x)
passed true x y e = (refl, cc)
passed false x y e = cc

text_at : (given : List (Bor (List ℕ))) (i : ℕ) (d : Bor (List ℕ)) → i < length given →
    get_or (texts given) i d.now ≡ (get_or given i d).now
text_at given i d lt = get_or-map (λ s. s.now) given i d d.now lt

-- where one text is no name
pub no_name : (kind : NameKind) (given : List (Bor (List ℕ))) (i : ℕ) (d : Bor (List ℕ)) → i < length given →
    None ≡ name_of kind (get_or given i d).now → None ≡ names_by kind (texts given)
no_name kind given i d lt e =
    let bad = ap (is_name kind) (text_at given i d lt) ∙ refused _ (get_or given i d).now e in
    let none = list_all_at (is_name kind) (texts given) i d.now (rw (length-map given (λ s. s.now)) lt) bad in
    rw none refl

-- one more text that is a name
pub one_more : (kind : NameKind) (given : List (Bor (List ℕ))) (i : ℕ) (d : Bor (List ℕ)) (name : List ℕ) → i < length given →
    Some name ≡ name_of kind (get_or given i d).now → (list_all (is_name kind) (take i (texts given)) ≡ true) →
    (list_all (is_name kind) (take (i + 1) (texts given)) ≡ true) × (take (i + 1) (texts given) ≡ take i (texts given) ++ name ∷ [])
one_more kind given i d name lt e so_far =
    let good = passed _ (get_or given i d).now name e in
    let within : i < length (texts given) = rw (length-map given (λ s. s.now)) lt in
    let same = text_at given i d lt in (
      list_all_more (is_name kind) (texts given) i d.now within ∙ ap₂ (λ a b. a && b) so_far (ap (is_name kind) same ∙ good.0),
      take_more (texts given) i d.now within ∙ ap (λ t. take i (texts given) ++ t ∷ []) (same ∙ sym good.1),
    )
