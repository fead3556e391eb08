-- Members that several documents have.
use Rattle.std.specs.Prelude.{ℕ, List, [], Bool, true, Option, Some, None, IsTrue, not}
use Rattle.std.specs.Option.{option_map_or}
use Rattle.std.specs.Str.{bytes_eq}
use Rattle.serde_json.specs.Data.{Data}
use Rattle.serde_json.specs.Find.{as_str}
use Rattle.ns_types.specs.declared.name.NameKind.{NameKind}
use Rattle.ns_types.specs.declared.refusal.Member.{Member}
use Rattle.ns_types.specs.State.Limits.{is_pool_name}
use Rattle.ns_types.specs.State.Name.{is_name}
use Rattle.ns_json.specs.Reading.{◌>>=◌, Read, same, present, demanded, or_else, or_refuse, a_text, a_name, has_name}
use Rattle.ns_json.specs.Reading.{unless, a_list, each}

-- the path has no name, or a name of that kind
abbrev pub is_path_name : NameKind → Option (List ℕ) → Bool
is_path_name kind path = option_map_or (is_name kind) path true

-- if the path has no name or a good name of that kind, then the name that was read is good
abbrev pub IsNamedWell : NameKind → Option (List ℕ) → List ℕ → Type 0
IsNamedWell kind path name = IsTrue (is_path_name kind path) → IsTrue (is_name kind name)

abbrev pub IsPoolNamedWell : Option (List ℕ) → List ℕ → Type 0
IsPoolNamedWell path name = IsTrue (is_path_name NameKind.Pool path) → IsTrue (is_pool_name name)

-- the path's name, which the document's name has to repeat
unfoldable pub repeated : List ℕ → Data → Read (List ℕ)
repeated path d = do
  name ← or_refuse Member.Name (as_str d)
  unless (not (bytes_eq name path)) Member.Name path

-- the name of the row to write: the path's, which the document may repeat, or the document's if the path has none
unfoldable pub named : NameKind → Option (List ℕ) → Data → Read (List ℕ)
named kind None d = do
  name ← demanded Member.Name d
  a_name Member.Name kind name
named kind (Some path) d = or_else path (repeated path) (present Member.Name d)

-- the member, which has to be present and a text
unfoldable pub word_in : Member → Data → Read (List ℕ)
word_in m d = demanded m d >>= a_text m

unfoldable pub description_in : Data → Read (List ℕ)
description_in d = or_else [] (a_text Member.Description) (present Member.Description d)

-- a name of a list, which must not be among the names before it
unfoldable pub listed_name : Member → NameKind → List (List ℕ) → Data → Read (List ℕ)
listed_name m kind before d = do
  name ← a_name m kind d
  unless (has_name same before name) m name

-- a list of at most `most` names, none of them twice
unfoldable pub names_in : Member → NameKind → ℕ → Data → Read (List (List ℕ))
names_in m kind most d = do
  ds ← a_list m 0 most d
  each (listed_name m kind) [] ds
