-- How a text is made of tokens, blanks and comments.
use Rattle.std.specs.Prelude.{◌≡◌, ℕ, ◌==◌, List, [], ◌∷◌, ◌++◌, Bool, true, false, not, codes}
use Rattle.std.specs.List.{list_all}
use Rattle.ns_policy.specs.Lex.{RulesToken, open_block, close_block, begin_list, end_list, comma, equals, word, string}
use Rattle.ns_policy.specs.Lex.{number, is_blank, is_digit, begins_word, is_word_byte, is_string_byte, has_template}

pub data Piece : Type 0 where
  blank : ℕ → Piece
  -- a comment after `#`, or after `//` if the flag is set, up to the end of the line
  comment : Bool → List ℕ → Piece
  part : RulesToken → List ℕ → Piece

abbrev pub mark : Bool → List ℕ
mark true = codes "//"
mark false = codes "#"

abbrev pub spelling : Piece → List ℕ
spelling (blank b) = b ∷ []
spelling (comment slashes line) = mark slashes ++ line
spelling (part t s) = s

abbrev pub text_of : List Piece → List ℕ
text_of [] = []
text_of (p ∷ ps) = spelling p ++ text_of ps

abbrev pub tokens_of : List Piece → List RulesToken
tokens_of [] = []
tokens_of (blank b ∷ ps) = tokens_of ps
tokens_of (comment slashes line ∷ ps) = tokens_of ps
tokens_of (part t s ∷ ps) = t ∷ tokens_of ps

abbrev pub first_is : (ℕ → Bool) → List ℕ → Bool
first_is test [] = false
first_is test (x ∷ xs) = test x

abbrev pub in_line : ℕ → Bool
in_line b = not (b == 10)

-- how a token is spelled
abbrev pub Spells : RulesToken → List ℕ → Type 0
Spells open_block s = s ≡ codes "{"
Spells close_block s = s ≡ codes "}"
Spells begin_list s = s ≡ codes "["
Spells end_list s = s ≡ codes "]"
Spells comma s = s ≡ codes ","
Spells equals s = s ≡ codes "="
Spells (word w) s = (s ≡ w) × (first_is begins_word w ≡ true) × (list_all is_word_byte w ≡ true)
Spells (string w) s = (s ≡ 34 ∷ (w ++ 34 ∷ [])) × (list_all is_string_byte w ≡ true) × (has_template w ≡ false)
Spells number s = (first_is is_digit s ≡ true) × (list_all is_digit s ≡ true)

-- a word or number ends where the next byte could not go on with it
abbrev pub Apart : RulesToken → List ℕ → Type 0
Apart (word w) rest = first_is is_word_byte rest ≡ false
Apart number rest = first_is is_digit rest ≡ false
Apart _ rest = Unit {0}

-- the piece may stand in front of that text
abbrev pub Stands : Piece → List ℕ → Type 0
Stands (blank b) rest = is_blank b ≡ true
Stands (comment slashes line) rest = (list_all in_line line ≡ true) × (first_is in_line rest ≡ false)
Stands (part t s) rest = Spells t s × Apart t rest

abbrev pub Layout : List Piece → Type 0
Layout [] = Unit {0}
Layout (p ∷ ps) = Stands p (text_of ps) × Layout ps
