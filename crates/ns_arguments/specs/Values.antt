-- What the values of the program's arguments mean. None: the value is not allowed.
use Rattle.std.specs.Prelude.{ℕ, ◌^◌, ◌-◌, ◌&&◌, List, Option, Some, None, nat_le, option_map, if◌then◌else◌}
use Rattle.std.specs.List.{list_all}
use Rattle.std.specs.Str.Parse.{digits_value}
use Rattle.ns_request.specs.Queries.{is_number}
use Rattle.ns_types.specs.declared.name.NameKind.{NameKind}
use Rattle.ns_types.specs.State.Name.{is_name}

-- ---- numbers

-- the number that the text writes, if it lies between `first` and `last`
abbrev pub number_between : ℕ → ℕ → List ℕ → Option ℕ
number_between first last text =
    if is_number text && (nat_le first (digits_value 10 text) && nat_le (digits_value 10 text) last)
    then Some (digits_value 10 text) else None

-- the number that the given text writes, if it lies between `first` and `last`; without a text, the default
abbrev pub number_by : ℕ → ℕ → ℕ → Option (List ℕ) → Option ℕ
number_by default first last None = Some default
number_by default first last (Some text) = number_between first last text

-- ---- names

-- the given texts, if each follows the rule for names of that kind
abbrev pub names_by : NameKind → List (List ℕ) → Option (List (List ℕ))
names_by kind texts = if list_all (is_name kind) texts then Some texts else None

-- ---- arguments of `alone`

-- the number of entries at the front of the log that set up the server: 0 by default
abbrev pub count_by : Option (List ℕ) → Option ℕ
count_by = number_by 0 0 (2 ^ 64 - 1)

-- ---- arguments of `serve`

-- the given secret, if it follows the rule for secrets: no secret by default
abbrev pub secret_by : Option (List ℕ) → Option (Option (List ℕ))
secret_by None = Some None
secret_by (Some text) = if is_name NameKind.Secret text then Some (Some text) else None

-- the number of workers: 2 by default
abbrev pub workers_by : Option (List ℕ) → Option ℕ
workers_by = number_by 2 1 63

-- the number of connections that are served at once: 4 by default
abbrev pub connections_by : Option (List ℕ) → Option ℕ
connections_by = number_by 4 1 64

-- the number of connections after which the server ends: no end by default
abbrev pub accept_by : Option (List ℕ) → Option (Option ℕ)
accept_by None = Some None
accept_by (Some text) = option_map Some (number_between 1 (2 ^ 64 - 1) text)

-- the seconds that a connection may be idle, at most a day: no limit by default
abbrev pub idle_by : Option (List ℕ) → Option (Option ℕ)
idle_by None = Some None
idle_by (Some text) = option_map Some (number_between 1 86400 text)

-- the most entries that the log may have: a million by default
abbrev pub log_limit_by : Option (List ℕ) → Option ℕ
log_limit_by = number_by 1000000 1 (2 ^ 64 - 1)

-- the number of entries at which the log is rotated, below the limit: never by default
abbrev pub rotate_by : ℕ → Option (List ℕ) → Option (Option ℕ)
rotate_by limit None = Some None
rotate_by limit (Some text) = option_map Some (number_between 1 (limit - 1) text)

-- the bytes of text beyond which the log is rotated as well, allowed only where it is rotated by entries: no limit by default
abbrev pub rotate_bytes_by : Option ℕ → Option (List ℕ) → Option (Option ℕ)
rotate_bytes_by rotate None = Some None
rotate_bytes_by None (Some text) = None
rotate_bytes_by (Some entries) (Some text) = option_map Some (number_between 1 (2 ^ 64 - 1) text)
