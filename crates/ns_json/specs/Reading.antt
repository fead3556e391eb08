-- Reading a document: the value, or the first refusal.
use Rattle.std.specs.Prelude.{◌≡◌, ℕ, ◌&&◌, nat_le, List, [], ◌∷◌, ◌++◌, length, Bool, Option, Some, None}
use Rattle.std.specs.Prelude.{option_and_then, Result, Ok, Err, if◌then◌else◌}
use Rattle.std.specs.List.{list_any}
use Rattle.std.specs.Str.{bytes_eq, is_utf8}
use Rattle.serde_json.specs.Data.{Data, null, boolean, number, string, array, object, Items, no_items, item}
use Rattle.serde_json.specs.Read.{read}
use Rattle.serde_json.specs.Events.{items_len}
use Rattle.serde_json.specs.Find.{get, as_number, as_u64, as_str, as_bool, as_array, as_object}
use Rattle.ns_types.specs.declared.refusal.Member.{Member}
use Rattle.ns_types.specs.declared.refusal.Refusal.{Refusal}
use Rattle.ns_types.specs.declared.refusal.Refusal.TheVariants.{BadJson, BadField, Memory}
use Rattle.ns_types.specs.declared.id.IdKind.{IdKind}
use Rattle.ns_types.specs.declared.name.NameKind.{NameKind}
use Rattle.ns_types.specs.State.Name.{is_name}
use Rattle.ns_types.specs.Wire.Member.{member_name}
use Rattle.ns_json.specs.Ids.{id_of}

abbrev pub Read : Type 0 → Type 0
Read A = Result A Refusal

infixl 10 ◌>>=◌
abbrev pub ◌>>=◌ : {A B : Type 0} → Read A → (A → Read B) → Read B
(Ok x) >>= f = f x
(Err e) >>= f = Err e

-- the refusals of the readers of documents
abbrev pub IsOfDocument : Refusal → Type 0
IsOfDocument BadJson = Unit {0}
IsOfDocument (BadField m) = Unit {0}
IsOfDocument Memory = Unit {0}
IsOfDocument _ = ⊥

-- What a function returned, seen by `view`, is the value or the refusal that the definition gives, unless memory ran
-- out.
abbrev pub Fails : {Y : Type 0} → Refusal → Read Y → Type 0
Fails Memory read = Unit {0}
Fails BadJson read = read ≡ Err BadJson
Fails (BadField m) read = read ≡ Err (BadField m)
Fails _ read = ⊥

abbrev pub Gives : {X Y : Type 0} → (X → Y) → Read X → Read Y → Type 0
Gives view (Ok x) read = read ≡ Ok (view x)
Gives view (Err e) read = Fails e read

abbrev pub same : {A : Type 0} → A → A
same x = x

-- the value, or the refusal that names the member
abbrev pub or_refuse : {A : Type 0} → Member → Option A → Read A
or_refuse m None = Err (BadField m)
or_refuse m (Some x) = Ok x

-- a member that is null counts as absent
abbrev pub unless_null : Data → Option Data
unless_null null = None
unless_null (boolean b) = Some (boolean b)
unless_null (number n) = Some (number n)
unless_null (string s) = Some (string s)
unless_null (array ds) = Some (array ds)
unless_null (object ms) = Some (object ms)

unfoldable pub present : Member → Data → Option Data
present m d = option_and_then unless_null (get (member_name m) d)

unfoldable pub demanded : Member → Data → Read Data
demanded m d = or_refuse m (present m d)

-- the default if the member is absent, else what it is read as
abbrev pub or_else : {A : Type 0} → A → (Data → Read A) → Option Data → Read A
or_else default read None = Ok default
or_else default read (Some d) = read d

abbrev pub some : {A : Type 0} → Read A → Read (Option A)
some read = read >>= λ x. Ok (Some x)

-- ---- bodies

-- the JSON value of a body
abbrev pub or_bad_json : Option Data → Read Data
or_bad_json None = Err BadJson
or_bad_json (Some d) = Ok d

unfoldable pub json_in : List ℕ → Read Data
json_in body = if is_utf8 body then or_bad_json (read body) else Err BadJson

unfoldable pub body_in : {A : Type 0} → (Data → Read A) → List ℕ → Read A
body_in document body = json_in body >>= document

-- ---- values of each kind

-- the top of a document, which has to be an object
unfoldable pub top : Data → Read Data
top d = elim (as_object d) [ None ↦ Err BadJson | Some ms ↦ Ok (object ms) ]

unfoldable pub an_object : Member → Data → Read Data
an_object m d = or_refuse m (as_object d) >>= λ ms. Ok (object ms)

unfoldable pub a_flag : Member → Data → Read Bool
a_flag m d = or_refuse m (as_bool d)

-- the value, which has to be a whole number from `low` to `high`
unfoldable pub a_number : Member → ℕ → ℕ → Data → Read ℕ
a_number m low high d = do
  n ← or_refuse m (option_and_then as_u64 (as_number d))
  if nat_le low n && nat_le n high then Ok n else Err (BadField m)

abbrev pub max_text : ℕ
max_text = 256

unfoldable pub a_text : Member → Data → Read (List ℕ)
a_text m d = do
  s ← or_refuse m (as_str d)
  if nat_le (length s) max_text then Ok s else Err (BadField m)

unfoldable pub a_name : Member → NameKind → Data → Read (List ℕ)
a_name m kind d = do
  s ← or_refuse m (as_str d)
  if is_name kind s then Ok s else Err (BadField m)

-- the number of the value, which has to be an id of that kind
unfoldable pub an_id : Member → IdKind → Data → Read ℕ
an_id m kind d = do
  s ← or_refuse m (as_str d)
  or_refuse m (id_of kind s)

-- whether an element of the list has the name
abbrev pub has_name : {A : Type 0} → (A → List ℕ) → List A → List ℕ → Bool
has_name name_of xs name = list_any (λ x. bytes_eq (name_of x) name) xs

abbrev pub unless : {A : Type 0} → Bool → Member → A → Read A
unless bad m x = if bad then Err (BadField m) else Ok x

-- the value, which has to be a list of `low` to `high` items
unfoldable pub a_list : Member → ℕ → ℕ → Data → Read Items
a_list m low high d = do
  ds ← or_refuse m (as_array d)
  if nat_le low (items_len ds) && nat_le (items_len ds) high then Ok ds else Err (BadField m)

-- the elements that were read before, and behind them the items, read one after the other
unfoldable pub each : {A : Type 0} → (List A → Data → Read A) → List A → Items → Read (List A)
each read done no_items = Ok done
each read done (item d ds) = read done d >>= λ x. each read (done ++ x ∷ []) ds
