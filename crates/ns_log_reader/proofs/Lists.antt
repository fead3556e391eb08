-- Lists that are written, one item after the other, and read back.
use Rattle.std.proofs.Common.{◌≡◌, ℕ, suc, ◌≤◌, List, [], ◌∷◌, ◌++◌, length, map, filter, Bool, true, false, not, ◌&&◌, ◌||◌, nat_le, Ok}
use Rattle.std.proofs.Common.{refl, sym, ap, subst, ◌∙◌, arith, append_assoc, append-nil}
use Rattle.std.proofs.lemmas.Bool.{eqb-true, or_parts}
use Rattle.std.proofs.lemmas.List.{map-append}
use Rattle.std.proofs.lemmas.List.Folds.{list_any-append}
use Rattle.std.proofs.lemmas.Map.Text.{is_eq-slice_cmp}
use Rattle.std.specs.List.{list_all, list_any}
use Rattle.std.specs.Str.{bytes_eq}
use Rattle.serde_json.specs.Data.{Data}
use Rattle.serde_json.specs.Events.{items_len}
use Rattle.serde_json.specs.View.{items_of}
use Rattle.ns_types.specs.declared.refusal.Member.{Member}
use Rattle.ns_types.specs.State.Limits.{is_distinct, is_between}
use Rattle.ns_types.specs.State.Lists.{first_each}
use Rattle.ns_types.specs.State.Names.{Name, same_name}
use Rattle.ns_types.proofs.Elements.{any_map}
use Rattle.ns_types.proofs.Named.{first_of_both, second_of_both}
use Rattle.ns_json.specs.Reading.{◌>>=◌, Read, has_name, a_list, each}
use Rattle.ns_json.specs.Rendering.{list_of}
use Rattle.ns_json.proofs.Distinct.{Distinct}

-- ---- names that stand once

filter_shorter : {X : Type 0} (p : X → Bool) (xs : List X) → length (filter p xs) ≤ length xs
filter_shorter p [] = omega arith
filter_shorter {X = X} p (x ∷ xs) = by (p x) refl (filter_shorter p xs)
  where
    by : (b : Bool) → p x ≡ b → length (filter p xs) ≤ length xs → length (filter p (x ∷ xs)) ≤ length (x ∷ xs)
    by true e le = rw e (omega arith)
    by false e le = rw e (omega arith)

first_each_shorter : (xs : List Name) → length (first_each same_name xs) ≤ length xs
first_each_shorter [] = omega arith
first_each_shorter (x ∷ xs) = omega (arith, filter_shorter (λ y. not (same_name x y)) (first_each same_name xs), first_each_shorter xs)

-- a filter that leaves nothing out
abbrev KeepsAll : (Name → Bool) → List Name → Type 0
KeepsAll p xs = length (filter (λ y. not (p y)) xs) ≡ length xs → (list_any p xs ≡ false) × (filter (λ y. not (p y)) xs ≡ xs)

kept_all : (p : Name → Bool) (xs : List Name) → KeepsAll p xs
kept_all p [] h = (refl, refl)
kept_all p (x ∷ xs) h = by (p x) refl (kept_all p xs)
  where
    by : (b : Bool) → p x ≡ b → KeepsAll p xs → (list_any p (x ∷ xs) ≡ false) × (filter (λ y. not (p y)) (x ∷ xs) ≡ x ∷ xs)
    by true e more =
        let left : length (filter (λ y. not (p y)) xs) ≡ suc (length xs) = rw e at h in
        absurd (omega (arith, filter_shorter (λ y. not (p y)) xs))
    by false e more =
        let left : suc (length (filter (λ y. not (p y)) xs)) ≡ suc (length xs) = rw e at h in
        let rest = more (omega arith) in
        (rw e rest.0, rw e (ap (λ ys. x ∷ ys) rest.1))

each_once : (xs : List Name) → length (first_each same_name xs) ≡ length xs → Distinct xs × (first_each same_name xs ≡ xs)
each_once [] h = (tt, refl)
each_once (x ∷ xs) h =
    let p = λ (y : Name). same_name x y in
    let short = filter_shorter (λ y. not (p y)) (first_each same_name xs) in
    let shorter = first_each_shorter xs in
    let rest = each_once xs (omega arith) in
    let all = kept_all p (first_each same_name xs) (omega arith) in
    ((ap (list_any p) (sym rest.1) ∙ all.0, rest.0), ap (λ ys. x ∷ ys) (all.1 ∙ rest.1))

pub distinct_from : (xs : List Name) → is_distinct same_name xs ≡ true → Distinct xs
distinct_from xs h = (each_once xs (eqb-true (length (first_each same_name xs)) (length xs) h)).0

-- what stands after names that are other
other_before : (ys : List Name) (x : Name) (zs : List Name) → Distinct (ys ++ x ∷ zs) → list_any (λ y. bytes_eq y x) ys ≡ false
other_before [] x zs h = refl
other_before (y ∷ ys) x zs h =
    let apart : (list_any (same_name y) ys || (same_name y x || list_any (same_name y) zs)) ≡ false = sym (list_any-append (same_name y) ys (x ∷ zs)) ∙ h.0 in
    let here = (or_parts (same_name y x) (list_any (same_name y) zs) (or_parts (list_any (same_name y) ys) _ apart).1).0 in
    let is : bytes_eq y x ≡ false = sym (is_eq-slice_cmp y x) ∙ here in
    rw (is, other_before ys x zs h.1) refl

-- ---- lists of documents

-- so is each element after those before it
abbrev pub EachAfter : {A : Type 0} → (List A → A → Type 0) → List A → List A → Type 0
EachAfter R before [] = Unit {0}
EachAfter R before (x ∷ xs) = R before x × EachAfter R (before ++ x ∷ []) xs

each_named : {A : Type 0} (name_of : A → Name) (good : A → Bool) (R : List A → A → Type 0) →
    ((before : List A) (x : A) → good x ≡ true → has_name name_of before (name_of x) ≡ false → R before x) →
    (before xs : List A) → list_all good xs ≡ true → Distinct (map name_of (before ++ xs)) → EachAfter R before xs
each_named name_of good R one before [] h d = tt
each_named name_of good R one before (x ∷ xs) h d =
    let split = subst Distinct (map-append name_of before (x ∷ xs)) d in
    let new = sym (any_map (λ y. bytes_eq y (name_of x)) name_of before) ∙ other_before (map name_of before) (name_of x) (map name_of xs) split in (
      one before x (first_of_both (good x) (list_all good xs) h) new,
      each_named name_of good R one (before ++ x ∷ []) xs (second_of_both (good x) (list_all good xs) h)
          (subst (λ ys. Distinct (map name_of ys)) (sym (append_assoc before (x ∷ []) xs)) d),
    )

-- of rows whose names are distinct
pub each_distinct : {A : Type 0} (name_of : A → Name) (good : A → Bool) (R : List A → A → Type 0) →
    ((before : List A) (x : A) → good x ≡ true → has_name name_of before (name_of x) ≡ false → R before x) →
    (xs : List A) → list_all good xs ≡ true → is_distinct same_name (map name_of xs) ≡ true → EachAfter R [] xs
each_distinct name_of good R one xs h d = each_named name_of good R one [] xs h (distinct_from (map name_of xs) d)

pub each_good : {A : Type 0} (good : A → Bool) (R : List A → A → Type 0) → ((before : List A) (x : A) → good x ≡ true → R before x) →
    (before xs : List A) → list_all good xs ≡ true → EachAfter R before xs
each_good good R one before [] h = tt
each_good good R one before (x ∷ xs) h = (
  one before x (first_of_both (good x) (list_all good xs) h),
  each_good good R one (before ++ x ∷ []) xs (second_of_both (good x) (list_all good xs) h),
)

-- the item is read back after those that were
abbrev pub ReadBack : {A : Type 0} → (List A → Data → Read A) → (A → Data) → List A → A → Type 0
ReadBack read json before x = read before (json x) ≡ Ok x

each_back : {A : Type 0} (read : List A → Data → Read A) (json : A → Data) (before xs : List A) → EachAfter (ReadBack read json) before xs →
    each read before (items_of (map json xs)) ≡ Ok (before ++ xs)
unfolding each
each_back read json before [] h = ap Ok (sym (append-nil before))
each_back read json before (x ∷ xs) h = rw h.0 (each_back read json (before ++ x ∷ []) xs h.1 ∙ ap Ok (append_assoc before (x ∷ []) xs))

items_length : {A : Type 0} (json : A → Data) (xs : List A) → items_len (items_of (map json xs)) ≡ length xs
items_length json [] = refl
items_length json (x ∷ xs) = omega (arith, items_length json xs)

-- a list of so many is read back
pub list_back : {A : Type 0} (m : Member) (low high : ℕ) (read : List A → Data → Read A) (json : A → Data) (xs : List A) →
    is_between low high (length xs) ≡ true → EachAfter (ReadBack read json) [] xs → (a_list m low high (list_of json xs) >>= λ ds. each read [] ds) ≡ Ok xs
unfolding a_list
list_back m low high read json xs fits h =
    let counted : (nat_le low (items_len (items_of (map json xs))) && nat_le (items_len (items_of (map json xs))) high) ≡ true =
    ap (λ n. nat_le low n && nat_le n high) (items_length json xs) ∙ fits in
    rw counted (each_back read json [] xs h)
