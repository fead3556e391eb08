-- Attributes, one after the other; they stand by key.
use Rattle.std.proofs.Common.{◌≡◌, List, [], ◌∷◌, ◌++◌, length, map, Bool, true, false, ◌||◌, not, Option, Some}
use Rattle.std.proofs.Common.{None, Result, Ok, Err, String, Global, Less, refl, sym, ap, subst, ◌∙◌, append_assoc, string_bytes, string_cmp, nat_le}
use Rattle.std.specs.FinMap.{entries, from_entries, entries-insert, put}
use Rattle.std.specs.List.{AllByRecursion}
use Rattle.std.specs.List.Sorted.{IsStrictlySortedBy}
use Rattle.std.specs.Map.{keys_of}
use Rattle.std.proofs.lemmas.List.{map-append}
use Rattle.serde_json.specs.Data.{Data}
use Rattle.serde_json.specs.View.{view, members_view}
use Rattle.serde_json.specs.declared.value.Value.{Value}
use Rattle.ns_types.specs.declared.node.Attribute.{Attribute}
use Rattle.ns_types.specs.declared.refusal.Member.{Member}
use Rattle.ns_types.specs.declared.refusal.Refusal.{Refusal}
use Rattle.ns_types.specs.State.Limits.{is_text}
use Rattle.ns_types.specs.State.Names.{Name, name_cmp}
use Rattle.ns_types.proofs.Named.{names, one_name}
use Rattle.ns_types.proofs.TableRows.{entries_empty}
use Rattle.ns_json.specs.Reading.{◌>>=◌, Read, Fails, a_text, unless, unless_null}
use Rattle.ns_json.proofs.Items.{fails_on}
use Rattle.ns_documents.specs.Nodes.{max_attributes, AreByKey, with_value, with_attribute, each_attribute}

abbrev Entry : Type 0
Entry = String Global × Value

-- ---- one after the other

turn : (done : List Attribute) (left rest : List Entry) (e : Entry) → left ≡ e ∷ rest
    → each_attribute done (members_view left) ≡ (with_attribute done (string_bytes e.0) (view e.1) >>= λ more. each_attribute more (members_view rest))
unfolding each_attribute
turn done left rest e is = rw is refl

pub goes_on : (done more : List Attribute) (left rest : List Entry) (e : Entry) (total : Read (List Attribute)) → left ≡ e ∷ rest →
    with_attribute done (string_bytes e.0) (view e.1) ≡ Ok more → each_attribute done (members_view left) ≡ total →
    each_attribute more (members_view rest) ≡ total
goes_on done more left rest e total is one so_far = sym (turn done left rest e is ∙ rw one refl) ∙ so_far

pub ends : (refusal : Refusal) (done : List Attribute) (left rest : List Entry) (e : Entry) (total : Read (List Attribute)) → left ≡ e ∷ rest →
    Fails refusal (with_attribute done (string_bytes e.0) (view e.1)) → each_attribute done (members_view left) ≡ total → Fails refusal total
ends refusal done left rest e total is bad so_far =
    subst (Fails refusal) (sym (turn done left rest e is) ∙ so_far) (fails_on refusal (with_attribute done (string_bytes e.0) (view e.1)) _ bad)

pub is_done : (done : List Attribute) (left : List Entry) (total : Read (List Attribute)) → left ≡ [] → each_attribute done (members_view left) ≡ total →
    total ≡ Ok done
unfolding each_attribute
is_done done left total is so_far = sym so_far ∙ rw is refl

-- ---- by key

abbrev keys_in : List Attribute → List Name
keys_in attributes = map (λ a. a.key) attributes

abbrev Ascend : List Name → Type 0
Ascend = IsStrictlySortedBy name_cmp

-- the texts of the keys
abbrev texts : List Entry → List Name
texts es = map (λ e. string_bytes e.0) es

below_texts : (k : String Global) (es : List Entry) → AllByRecursion (λ y. string_cmp k y ≡ Less) (keys_of es) →
    AllByRecursion (λ y. name_cmp (string_bytes k) y ≡ Less) (texts es)
below_texts k [] h = tt
below_texts k (e ∷ es) h = (h.0, below_texts k es h.1)

pub texts_ascend : (es : List Entry) → IsStrictlySortedBy string_cmp (keys_of es) → Ascend (texts es)
unfolding IsStrictlySortedBy
texts_ascend [] h = tt
texts_ascend (e ∷ es) h = (below_texts e.0 es h.0, texts_ascend es h.1)

all_but : (P : Name → Type 0) (xs : List Name) (y : Name) (ys : List Name) → AllByRecursion P (xs ++ y ∷ ys) → AllByRecursion P (xs ++ ys)
all_but P [] y ys h = h.1
all_but P (x ∷ xs) y ys h = (h.0, all_but P xs y ys h.1)

-- one of them is left out
ascend_but : (xs : List Name) (y : Name) (ys : List Name) → Ascend (xs ++ y ∷ ys) → Ascend (xs ++ ys)
unfolding IsStrictlySortedBy
ascend_but [] y ys h = h.1
ascend_but (x ∷ xs) y ys h = (all_but _ xs y ys h.0, ascend_but xs y ys h.1)

all_first : (P : Name → Type 0) (xs ys : List Name) → AllByRecursion P (xs ++ ys) → AllByRecursion P xs
all_first P [] ys h = tt
all_first P (x ∷ xs) ys h = (h.0, all_first P xs ys h.1)

ascend_first : (xs ys : List Name) → Ascend (xs ++ ys) → Ascend xs
unfolding IsStrictlySortedBy
ascend_first [] ys h = tt
ascend_first (x ∷ xs) ys h = (all_first _ xs ys h.0, ascend_first xs ys h.1)

pub same_Ok : {A E : Type 0} (x y : A) → ◌≡◌ {A = Result A E} (Ok x) (Ok y) → x ≡ y
same_Ok x y e = cc

err_is_no_ok : {A : Type 0} (r : Refusal) (y : A) → ◌≡◌ {A = Read A} (Err r) (Ok y) → ⊥
err_is_no_ok r y e = cc

abbrev one_more : List Attribute → Name → Name → List Attribute
one_more done key value = done ++ record { key = key; value = value } ∷ []

ascend_more : (done : List Attribute) (key value : Name) (later : List Name) → Ascend (keys_in done ++ key ∷ later) →
    Ascend (keys_in (one_more done key value) ++ later)
ascend_more done key value later h =
    subst (λ xs. Ascend (xs ++ later)) (sym (map-append (λ a. a.key) done (record { key = key; value = value } ∷ [])))
    (subst Ascend (sym (append_assoc (keys_in done) (key ∷ []) later)) h)

-- what is added has that key, or nothing is added
keeps : (done more : List Attribute) (key : Name) (o : Option Data) (later : List Name) → with_value done key o ≡ Ok more →
    Ascend (keys_in done ++ key ∷ later) → Ascend (keys_in more ++ later)
keeps done more key None later is h = subst (λ xs. Ascend (keys_in xs ++ later)) (same_Ok done more is) (ascend_but (keys_in done) key later h)
keeps done more key (Some d) later is h = read (a_text Member.Attributes d) is
  where
    is_bad : Bool
    is_bad = not (is_text key) || nat_le max_attributes (length done)

    added : (bad : Bool) (value : Name) → unless bad Member.Attributes (one_more done key value) ≡ Ok more → Ascend (keys_in more ++ later)
    added true value is = absurd (err_is_no_ok _ more is)
    added false value is = subst (λ xs. Ascend (keys_in xs ++ later)) (same_Ok _ more is) (ascend_more done key value later h)

    read : (r : Read Name) → (r >>= λ value. unless is_bad Member.Attributes (one_more done key value)) ≡ Ok more → Ascend (keys_in more ++ later)
    read (Ok value) is = added is_bad value is
    read (Err e) is = absurd (err_is_no_ok e more is)

pub stand_by_key : (done : List Attribute) (es : List Entry) (all : List Attribute) → Ascend (keys_in done ++ texts es) →
    each_attribute done (members_view es) ≡ Ok all → AreByKey all
unfolding each_attribute with_attribute
stand_by_key done [] all h is = subst AreByKey (same_Ok done all is) (ascend_first (keys_in done) [] h)
stand_by_key done (e ∷ es) all h is = by (with_attribute done (string_bytes e.0) (view e.1)) refl is
    (λ more k. stand_by_key more es all k)
  where
    by : (r : Read (List Attribute)) → with_attribute done (string_bytes e.0) (view e.1) ≡ r →
        (r >>= λ more. each_attribute more (members_view es)) ≡ Ok all →
        ((more : List Attribute) → Ascend (keys_in more ++ texts es) → each_attribute more (members_view es) ≡ Ok all → AreByKey all) → AreByKey all
    by (Ok more) one is later = later more (keeps done more (string_bytes e.0) (unless_null (view e.1)) (texts es) one h) is
    by (Err r) one is later = absurd (err_is_no_ok r all is)

pub none_stand_by_key : AreByKey []
unfolding IsStrictlySortedBy
none_stand_by_key = tt

-- ---- a table of them

abbrev pairs : List Attribute → List (Name × Name)
pairs attributes = map (λ a. (a.key, a.value)) attributes

put_first : (k v : Name) (es : List (Name × Name)) → AllByRecursion (λ y. name_cmp k y ≡ Less) (map (λ e. e.0) es) → put name_cmp k v es ≡ (k, v) ∷ es
put_first k v [] h = refl
put_first k v (e ∷ es) h = rw h.0 refl

keys_of_pairs : (attributes : List Attribute) → map (λ e. e.0) (pairs attributes) ≡ keys_in attributes
keys_of_pairs [] = refl
keys_of_pairs (a ∷ attributes) = ap (λ xs. a.key ∷ xs) (keys_of_pairs attributes)

pub table_of : (attributes : List Attribute) → AreByKey attributes → entries (from_entries {R = name_cmp} (pairs attributes)) ≡ pairs attributes
unfolding IsStrictlySortedBy
table_of [] h = entries_empty names one_name
table_of (a ∷ attributes) h =
    entries-insert names _ a.key a.value ∙ ap (put name_cmp a.key a.value) (table_of attributes h.1) ∙
    put_first a.key a.value (pairs attributes) (subst (AllByRecursion (λ y. name_cmp a.key y ≡ Less)) (sym (keys_of_pairs attributes)) h.0)
