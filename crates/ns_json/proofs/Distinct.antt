-- Lists in which no name stands twice.
use Rattle.std.proofs.Common.{◌≡◌, List, [], ◌∷◌, ◌++◌, length, Bool, true, false, not, map, refl, sym, ap, subst, ◌∙◌}
use Rattle.std.specs.List.{list_any}
use Rattle.std.specs.Str.{bytes_eq}
use Rattle.std.proofs.Common.{filter}
use Rattle.std.proofs.lemmas.Bool.{eq-eqb}
use Rattle.std.proofs.lemmas.List.{map-append}
use Rattle.std.proofs.lemmas.List.Folds.{list_any-append}
use Rattle.std.proofs.lemmas.Map.Text.{is_eq-slice_cmp}
use Rattle.ns_types.specs.State.Limits.{is_distinct}
use Rattle.ns_types.specs.State.Lists.{first_each}
use Rattle.ns_types.specs.State.Names.{Name, same_name}
use Rattle.ns_types.proofs.Elements.{any_map}
use Rattle.ns_types.proofs.Lists.{left_none, right_none}
use Rattle.ns_json.specs.Reading.{has_name}

abbrev pub Distinct : List Name → Type 0
Distinct [] = Unit {0}
Distinct (x ∷ xs) = (list_any (same_name x) xs ≡ false) × Distinct xs

last_other : (x y : Name) (ys : List Name) → list_any (same_name y) ys ≡ false → bytes_eq y x ≡ false → list_any (same_name y) (ys ++ x ∷ []) ≡ false
last_other x y ys h other =
    let same : same_name y x ≡ false = is_eq-slice_cmp y x ∙ other in
    list_any-append (same_name y) ys (x ∷ []) ∙ rw (h, same) refl

-- one more name that is none of them
pub distinct_more : (xs : List Name) (x : Name) → Distinct xs → list_any (λ y. bytes_eq y x) xs ≡ false → Distinct (xs ++ x ∷ [])
distinct_more [] x h new = (refl, tt)
distinct_more (y ∷ ys) x h new = (
  last_other x y ys h.0 (left_none (bytes_eq y x) (list_any (λ z. bytes_eq z x) ys) new),
  distinct_more ys x h.1
      (right_none (bytes_eq y x) (list_any (λ z. bytes_eq z x) ys) new),
)

filter_other : (p : Name → Bool) (xs : List Name) → list_any p xs ≡ false → filter (λ y. not (p y)) xs ≡ xs
filter_other p [] h = refl
filter_other p (x ∷ xs) h =
    let here : p x ≡ false = left_none (p x) (list_any p xs) h in
    let more : filter (λ y. not (p y)) xs ≡ xs = filter_other p xs (right_none (p x) (list_any p xs) h) in
    rw (here, more) refl

each_once : (xs : List Name) → Distinct xs → first_each same_name xs ≡ xs
each_once [] h = refl
each_once (x ∷ xs) h =
    let more : first_each same_name xs ≡ xs = each_once xs h.1 in
    ap (λ ys. x ∷ filter (λ y. not (same_name x y)) ys) more ∙ ap (λ ys. x ∷ ys) (filter_other (same_name x) xs h.0)

pub distinct_is : (xs : List Name) → Distinct xs → is_distinct same_name xs ≡ true
distinct_is xs h =
    let once : first_each same_name xs ≡ xs = each_once xs h in
    rw once (eq-eqb (length xs) (length xs) refl)

-- one more row whose name none of them has
pub names_more : {A : Type 0} (name_of : A → Name) (xs : List A) (x : A) → Distinct (map name_of xs) → has_name name_of xs (name_of x) ≡ false →
    Distinct (map name_of (xs ++ x ∷ []))
names_more name_of xs x h new =
    subst Distinct (sym (map-append name_of xs (x ∷ [])))
    (distinct_more (map name_of xs) (name_of x) h (any_map (λ y. bytes_eq y (name_of x)) name_of xs ∙ new))
