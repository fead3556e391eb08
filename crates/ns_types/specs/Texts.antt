-- The bytes of a text, wherever they stand.
use Rattle.std.specs.Prelude.{ℕ, List}
use Rattle.std.specs.String.{string_bytes}
use Rattle.ns_types.specs.declared.text.Letters.{Letters}

abbrev pub letters_bytes : Letters → List ℕ
letters_bytes (Letters.Short text) = text.bytes
letters_bytes (Letters.Long text) = string_bytes text
