-- JSON values whose compact text is read back as themselves.
use Rattle.std.proofs.Common.{◌≡◌, ℕ, zero, suc, ◌+◌, ◌^◌, ◌<◌, ◌≤◌, pos, negsuc, List, [], ◌∷◌, ◌++◌, map, Bool, true, false, ◌&&◌, nat_lt}
use Rattle.std.proofs.Common.{Option, Some, option_map, option_and_then, Ordering, Less, Equal, Greater, refl, sym}
use Rattle.std.proofs.Common.{ap, ◌∙◌, arith, append-nil}
use Rattle.std.proofs.lemmas.Bool.{ltb-true, false≢true}
use Rattle.std.specs.List.{list_all}
use Rattle.json.specs.Lex.{tokens}
use Rattle.json.specs.Token.{Token}
use Rattle.json.specs.Json as json
use Rattle.json.specs.Tree as tree
use Rattle.json.specs.Tree.{json_tokens, HasNumbers, ItemsHaveNumbers, MembersHaveNumbers}
use Rattle.json.proofs.Printed.Decimals.{IsNumber-decimal, IsNumber-signed_decimal}
use Rattle.json.proofs.Printed.Tokens.{tokens-print}
use Rattle.json.proofs.Printed.Trees.{value-json_tokens, ArePrintable-json_tokens}
use Rattle.serde_json.specs.Data.{Num, unsigned, negative, float, Data, null, boolean, number, string, array}
use Rattle.serde_json.specs.Data.{object, Items, no_items, item, Members, no_members}
use Rattle.serde_json.specs.Data.{member, put}
use Rattle.serde_json.specs.Read.{read, max_depth, of_json, of_items, of_members}
use Rattle.serde_json.specs.Written.{outline, items_outline, members_outline, compact_text}
use Rattle.serde_json.proofs.Numbers.{number_of-decimal, number_of-negative}
use Rattle.serde_json.proofs.Texts.{print-outline}
use Rattle.serde_json.specs.View.{items_of}
use Rattle.ns_types.specs.State.Names.{Name, name_cmp}
use Rattle.ns_types.proofs.Named.{first_of_both, second_of_both}

abbrev pub is_greater : Ordering → Bool
is_greater Less = false
is_greater Equal = false
is_greater Greater = true

-- the key comes after each of these
abbrev pub is_after : Name → List Name → Bool
is_after k keys = list_all (λ l. is_greater (name_cmp k l)) keys

abbrev pub is_spelled_number : Num → Bool
is_spelled_number (unsigned n) = nat_lt n (2 ^ 64)
is_spelled_number (negative (pos n)) = false
is_spelled_number (negative (negsuc n)) = nat_lt (n + 1) (2 ^ 63)
is_spelled_number (float x) = false

-- The value nests so deep at most, its numbers fit and are whole, and members stand by their keys.
abbrev mutual
  pub is_spelled : ℕ → Data → Bool
  is_spelled n null = true
  is_spelled n (boolean b) = true
  is_spelled n (number x) = is_spelled_number x
  is_spelled n (string s) = true
  is_spelled zero (array ds) = false
  is_spelled (suc n) (array ds) = items_spelled n ds
  is_spelled zero (object ms) = false
  is_spelled (suc n) (object ms) = members_spelled n [] ms

  pub items_spelled : ℕ → Items → Bool
  items_spelled n no_items = true
  items_spelled n (item d ds) = is_spelled n d && items_spelled n ds

  -- after those keys
  pub members_spelled : ℕ → List Name → Members → Bool
  members_spelled n before no_members = true
  members_spelled n before (member k d ms) = is_after k before && (is_spelled n d && members_spelled n (before ++ k ∷ []) ms)

abbrev whole : Option (json.Json × List Token) → Option Data
whole o = option_and_then of_json (option_and_then (λ p. json.if_last p.0 p.1) o)

-- ---- members one after the other

abbrev keys : Members → List Name
keys no_members = []
keys (member k d ms) = k ∷ keys ms

abbrev append : Members → Members → Members
append no_members more = more
append (member k d ms) more = member k d (append ms more)

append_none : (ms : Members) → append ms no_members ≡ ms
append_none no_members = refl
append_none (member k d ms) = ap (member k d) (append_none ms)

append_one : (ms : Members) (k : Name) (d : Data) (more : Members) → append (append ms (member k d no_members)) more ≡ append ms (member k d more)
append_one no_members k d more = refl
append_one (member l e ms) k d more = ap (member l e) (append_one ms k d more)

keys_one : (ms : Members) (k : Name) (d : Data) → keys (append ms (member k d no_members)) ≡ keys ms ++ k ∷ []
keys_one no_members k d = refl
keys_one (member l e ms) k d = ap (λ ks. l ∷ ks) (keys_one ms k d)

greater : (o : Ordering) → is_greater o ≡ true → o ≡ Greater
greater Less h = cc
greater Equal h = cc
greater Greater h = refl

put_last : (k : Name) (d : Data) (ms : Members) → is_after k (keys ms) ≡ true → put k d ms ≡ append ms (member k d no_members)
put_last k d no_members h = refl
put_last k d (member l e ms) h =
    let here : name_cmp k l ≡ Greater = greater (name_cmp k l) (first_of_both _ (is_after k (keys ms)) h) in
    let more : put k d ms ≡ append ms (member k d no_members) = put_last k d ms (second_of_both (is_greater (name_cmp k l)) _ h) in
    rw here (ap (member l e) more)

-- ---- what the value reads as

below : (n m : ℕ) → nat_lt n m ≡ true → n < m
below n m h = ltb-true n m h

mutual
  of_json-outline : (n : ℕ) (d : Data) → is_spelled n d ≡ true → of_json (outline d) ≡ Some d
  of_json-outline n null h = refl
  of_json-outline n (boolean b) h = refl
  of_json-outline n (number (unsigned m)) h = ap (option_map number) (number_of-decimal m (below m (2 ^ 64) h))
  of_json-outline n (number (negative (pos m))) h = absurd (false≢true h)
  of_json-outline n (number (negative (negsuc m))) h =
      let fits : m + 1 < 2 ^ 63 = below (m + 1) (2 ^ 63) h in
      ap (option_map number) (number_of-negative m (omega arith))
  of_json-outline n (number (float x)) h = absurd (false≢true h)
  of_json-outline n (string s) h = refl
  of_json-outline zero (array ds) h = absurd (false≢true h)
  of_json-outline (suc n) (array ds) h = ap (option_map array) (of_items-outline n ds h)
  of_json-outline zero (object ms) h = absurd (false≢true h)
  of_json-outline (suc n) (object ms) h = ap (option_map object) (of_members-outline n no_members ms h)

  of_items-outline : (n : ℕ) (ds : Items) → items_spelled n ds ≡ true → of_items (items_outline ds) ≡ Some ds
  of_items-outline n no_items h = refl
  of_items-outline n (item d ds) h =
      let first : of_json (outline d) ≡ Some d = of_json-outline n d (first_of_both _ (items_spelled n ds) h) in
      let rest : of_items (items_outline ds) ≡ Some ds = of_items-outline n ds (second_of_both (is_spelled n d) _ h) in
      rw (first, rest) refl

  of_members-outline : (n : ℕ) (found ms : Members) → members_spelled n (keys found) ms ≡ true → of_members (members_outline ms) found ≡ Some (append found ms)
  of_members-outline n found no_members h = ap Some (sym (append_none found))
  of_members-outline n found (member k d ms) h =
      let both = second_of_both (is_after k (keys found)) _ h in
      let here : put k d found ≡ append found (member k d no_members) = put_last k d found (first_of_both _ _ h) in
      let first : of_json (outline d) ≡ Some d = of_json-outline n d (first_of_both _ _ both) in
      let next : members_spelled n (keys (append found (member k d no_members))) ms ≡ true =
      ap (λ ks. members_spelled n ks ms) (keys_one found k d) ∙ second_of_both (is_spelled n d) _ both in
      ap (option_and_then (λ e. of_members (members_outline ms) (put k e found))) first ∙ ap (of_members (members_outline ms)) here
      ∙ of_members-outline n (append found (member k d no_members)) ms next ∙ ap Some (append_one found k d ms)

-- ---- its tokens

mutual
  numbers : (n : ℕ) (d : Data) → is_spelled n d ≡ true → HasNumbers (outline d)
  numbers n null h = tt
  numbers n (boolean b) h = tt
  numbers n (number (unsigned m)) h = IsNumber-decimal m (below m (2 ^ 64) h)
  numbers n (number (negative (pos m))) h = absurd (false≢true h)
  numbers n (number (negative (negsuc m))) h = let fits : m + 1 < 2 ^ 63 = below (m + 1) (2 ^ 63) h in IsNumber-signed_decimal (negsuc m) (omega arith)
  numbers n (number (float x)) h = absurd (false≢true h)
  numbers n (string s) h = tt
  numbers zero (array ds) h = absurd (false≢true h)
  numbers (suc n) (array ds) h = items_numbers n ds h
  numbers zero (object ms) h = absurd (false≢true h)
  numbers (suc n) (object ms) h = members_numbers n [] ms h

  items_numbers : (n : ℕ) (ds : Items) → items_spelled n ds ≡ true → ItemsHaveNumbers (items_outline ds)
  items_numbers n no_items h = tt
  items_numbers n (item d ds) h =
      (numbers n d (first_of_both _ (items_spelled n ds) h), items_numbers n ds (second_of_both (is_spelled n d) _ h))

  members_numbers : (n : ℕ) (before : List Name) (ms : Members) → members_spelled n before ms ≡ true → MembersHaveNumbers (members_outline ms)
  members_numbers n before no_members h = tt
  members_numbers n before (member k d ms) h =
      let both = second_of_both (is_after k before) _ h in
      (numbers n d (first_of_both _ _ both), members_numbers n (before ++ k ∷ []) ms (second_of_both (is_spelled n d) _ both))

mutual
  nests : (n : ℕ) (d : Data) → is_spelled n d ≡ true → tree.depth (outline d) ≤ n
  nests n null h = omega arith
  nests n (boolean b) h = omega arith
  nests n (number x) h = omega arith
  nests n (string s) h = omega arith
  nests zero (array ds) h = absurd (false≢true h)
  nests (suc n) (array ds) h = omega (arith, items_nest n ds h)
  nests zero (object ms) h = absurd (false≢true h)
  nests (suc n) (object ms) h = omega (arith, members_nest n [] ms h)

  items_nest : (n : ℕ) (ds : Items) → items_spelled n ds ≡ true → tree.items_depth (items_outline ds) ≤ n
  items_nest n no_items h = omega arith
  items_nest n (item d ds) h =
      omega (arith, nests n d (first_of_both _ (items_spelled n ds) h), items_nest n ds (second_of_both (is_spelled n d) _ h))

  members_nest : (n : ℕ) (before : List Name) (ms : Members) → members_spelled n before ms ≡ true → tree.members_depth (members_outline ms) ≤ n
  members_nest n before no_members h = omega arith
  members_nest n before (member k d ms) h =
      let both = second_of_both (is_after k before) _ h in
      omega (arith, nests n d (first_of_both _ _ both), members_nest n (before ++ k ∷ []) ms (second_of_both (is_spelled n d) _ both))

spelled_tokens : (n : ℕ) (d : Data) → is_spelled n d ≡ true → tokens (compact_text d) ≡ json_tokens (outline d)
spelled_tokens n d h = ap tokens (sym (print-outline d)) ∙ tokens-print (json_tokens (outline d)) (ArePrintable-json_tokens (outline d) (numbers n d h))

-- its compact text is read as the value
pub read_spelled : (n : ℕ) (d : Data) → n ≤ max_depth → is_spelled n d ≡ true → read (compact_text d) ≡ Some d
read_spelled n d le h =
    let shallow : tree.depth (outline d) ≤ max_depth = omega (arith, nests n d h) in
    ap whole (ap (json.value max_depth) (spelled_tokens n d h ∙ sym (append-nil _)) ∙ value-json_tokens (outline d) max_depth [] shallow)
    ∙ of_json-outline n d h

-- ---- lists

-- a list is spelled where each of its items is
pub list_spelled : {A : Type 0} (n : ℕ) (json : A → Data) (good : A → Bool) (xs : List A) → ((x : A) → good x ≡ true → is_spelled n (json x) ≡ true) →
    list_all good xs ≡ true → items_spelled n (items_of (map json xs)) ≡ true
list_spelled n json good [] each h = refl
list_spelled n json good (x ∷ xs) each h =
    let first : is_spelled n (json x) ≡ true = each x (first_of_both _ (list_all good xs) h) in
    let rest : items_spelled n (items_of (map json xs)) ≡ true = list_spelled n json good xs each (second_of_both (good x) _ h) in
    rw (first, rest) refl
