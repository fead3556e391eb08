-- The tokens of a rules text.
use Rattle.std.specs.Prelude.{ℕ, ◌==◌, ◌&&◌, ◌||◌, nat_le, not, List, [], ◌∷◌, take, drop, Bool, true, false, Option}
use Rattle.std.specs.Prelude.{Some, None, if◌then◌else◌}
use Rattle.std.specs.List.{prefix_len}

pub data RulesToken : Type 0 where
  open_block : RulesToken
  close_block : RulesToken
  begin_list : RulesToken
  end_list : RulesToken
  comma : RulesToken
  equals : RulesToken
  word : List ℕ → RulesToken
  string : List ℕ → RulesToken
  number : RulesToken

abbrev pub is_blank : ℕ → Bool
is_blank b = (b == 32) || (b == 9) || (b == 13) || (b == 10)

abbrev pub is_letter : ℕ → Bool
is_letter b = (nat_le 65 b && nat_le b 90) || (nat_le 97 b && nat_le b 122)

abbrev pub is_digit : ℕ → Bool
is_digit b = nat_le 48 b && nat_le b 57

-- a word begins with a letter or `_`, and goes on with these, digits and `-`
abbrev pub begins_word : ℕ → Bool
begins_word b = is_letter b || (b == 95)

abbrev pub is_word_byte : ℕ → Bool
is_word_byte b = is_letter b || is_digit b || (b == 95) || (b == 45)

-- bytes of a string: no quote, no backslash and no line feed
abbrev pub is_string_byte : ℕ → Bool
is_string_byte b = not ((b == 34) || (b == 92) || (b == 10))

abbrev pub begins_with : ℕ → List ℕ → Bool
begins_with b [] = false
begins_with b (x ∷ xs) = x == b

-- whether a text has `${`
unfoldable pub has_template : List ℕ → Bool
has_template [] = false
has_template (x ∷ xs) = ((x == 36) && begins_with 123 xs) || has_template xs

-- what follows the blanks and comments; a comment goes to the end of its line
unfoldable pub skip : Bool → List ℕ → List ℕ
skip in_comment [] = []
skip true (x ∷ xs) = skip (not (x == 10)) xs
skip false (x ∷ xs) =
    if (x == 35) || ((x == 47) && begins_with 47 xs) then skip true xs
    else if is_blank x then skip false xs
    else x ∷ xs

-- the longest front whose bytes all pass the test, and the rest
abbrev pub front : (ℕ → Bool) → List ℕ → List ℕ
front test s = take (prefix_len test s) s

abbrev pub after : (ℕ → Bool) → List ℕ → List ℕ
after test s = drop (prefix_len test s) s

-- the string whose opening quote was read, and the text behind it
unfoldable pub string_at : List ℕ → Option (RulesToken × List ℕ)
string_at s =
    if begins_with 34 (after is_string_byte s) && not (has_template (front is_string_byte s))
    then Some (string (front is_string_byte s), drop 1 (after is_string_byte s)) else None

unfoldable pub token_at : List ℕ → Option (RulesToken × List ℕ)
token_at [] = None
token_at (x ∷ xs) =
    if x == 123 then Some (open_block, xs)
    else if x == 125 then Some (close_block, xs)
    else if x == 91 then Some (begin_list, xs)
    else if x == 93 then Some (end_list, xs)
    else if x == 44 then Some (comma, xs)
    else if x == 61 then Some (equals, xs)
    else if x == 34 then string_at xs
    else if begins_word x then Some (word (front is_word_byte (x ∷ xs)), after is_word_byte (x ∷ xs))
    else if is_digit x then Some (number, after is_digit (x ∷ xs))
    else None

-- a text is JSON if its first byte that is not blank is `{`
abbrev pub is_json : List ℕ → Bool
is_json s = begins_with 123 (after is_blank s)
