-- The parameters of a query, which is form data.
use Rattle.std.specs.Prelude.{ℕ, List, Option, option_map, find, bytes_eq}
use Rattle.std.specs.Str.Lossy.{utf8_lossy}
use Rattle.form_urlencoded.specs.Form.{raw_pairs, decode}

-- a name or a value as text, with U+FFFD for what is not UTF-8
abbrev pub text_of : List ℕ → List ℕ
text_of encoded = utf8_lossy (decode encoded)

-- the value of the first parameter with that name
abbrev pub value_in : List ℕ → List (List ℕ × List ℕ) → Option (List ℕ)
value_in name pairs = option_map (λ pair. text_of pair.1) (find (λ pair. bytes_eq (text_of pair.0) name) pairs)

unfoldable pub parameter : List ℕ → List ℕ → Option (List ℕ)
parameter name query = value_in name (raw_pairs query)
