-- The tokens of a layout are read one after the other.
use Rattle.std.proofs.Common.{◌≡◌, ℕ, zero, suc, ◌<◌, ◌≤◌, List, [], ◌∷◌, ◌++◌, length, take, drop, Bool, true, false, not, ◌==◌, Option, Ok, Err, Some}
use Rattle.std.proofs.Common.{refl, sym, ap, ◌∙◌, arith, append_assoc, length-append, true≢false}
use Rattle.std.specs.List.{prefix_len, list_all}
use Rattle.std.proofs.Math.Seq.{take-append_seam, drop-append_seam}
use Rattle.std.proofs.lemmas.Bool.{and_parts, eqb-true}
use Rattle.std.proofs.lemmas.Bool.Decides.{nat_tests}
use Rattle.ns_policy.specs.declared.parser.State.{State}
use Rattle.ns_policy.specs.Lex.{RulesToken, open_block, close_block, begin_list, end_list, comma, equals, word, string, number, is_blank, is_digit, begins_word}
use Rattle.ns_policy.specs.Lex.{is_word_byte, is_string_byte, has_template, skip, front, after, string_at, token_at}
use Rattle.ns_policy.specs.Rules.{Read, ◌>>=◌}
use Rattle.ns_policy.specs.Grammar.{step, next, read_on}
use Rattle.ns_policy.specs.Tree.{run}
use Rattle.ns_policy.specs.Layout.{Piece, blank, comment, part, mark, text_of, tokens_of, first_is, in_line, Spells, Apart, Layout}
use Rattle.ns_types.proofs.Tests.{is_yes}

no_eq : (test : ℕ → Bool) (x k : ℕ) → test x ≡ true → test k ≡ false → (c : Bool) → (x == k) ≡ c → c ≡ false
no_eq test x k holds fails true e = absurd (true≢false (sym holds ∙ ap test (eqb-true x k e) ∙ fails))
no_eq test x k holds fails false e = refl

-- a byte that passes is not one that fails
pub differs : (test : ℕ → Bool) (x k : ℕ) → test x ≡ true → test k ≡ false → (x == k) ≡ false
differs test x k holds fails = no_eq test x k holds fails (x == k) refl

prefix_is : (test : ℕ → Bool) (w rest : List ℕ) → list_all test w ≡ true → first_is test rest ≡ false → prefix_len test (w ++ rest) ≡ length w
prefix_is test [] [] all stop = refl
prefix_is test [] (x ∷ xs) all stop = rw stop refl
prefix_is test (x ∷ w) rest all stop =
    let p = and_parts (test x) (list_all test w) all in
    let here : test x ≡ true = p.0 in
    let more : prefix_len test (w ++ rest) ≡ length w = prefix_is test w rest p.1 stop in
    rw (here, more) (omega arith)

front_is : (test : ℕ → Bool) (w rest : List ℕ) → list_all test w ≡ true → first_is test rest ≡ false → front test (w ++ rest) ≡ w
front_is test w rest all stop = ap (λ (n : ℕ). take n (w ++ rest)) (prefix_is test w rest all stop) ∙ take-append_seam w rest

after_is : (test : ℕ → Bool) (w rest : List ℕ) → list_all test w ≡ true → first_is test rest ≡ false → after test (w ++ rest) ≡ rest
after_is test w rest all stop = ap (λ (n : ℕ). drop n (w ++ rest)) (prefix_is test w rest all stop) ∙ drop-append_seam w rest

same_word : (a b c d : List ℕ) → a ≡ b → c ≡ d → ◌≡◌ {A = Option (RulesToken × List ℕ)} (Some (word a, c)) (Some (word b, d))
same_word a b c d p q = rw (p, q) refl

same_number : (c d : List ℕ) → c ≡ d → ◌≡◌ {A = Option (RulesToken × List ℕ)} (Some (number, c)) (Some (number, d))
same_number c d q = rw q refl

pub word_at : (x : ℕ) (xs : List ℕ) → begins_word x ≡ true → token_at (x ∷ xs) ≡ Some (word (front is_word_byte (x ∷ xs)), after is_word_byte (x ∷ xs))
unfolding token_at
word_at x xs holds =
    rw (
      differs begins_word x 123 holds refl,
      differs begins_word x 125 holds refl,
      differs begins_word x 91 holds refl,
      differs begins_word x 93 holds refl,
      differs begins_word x 44 holds refl,
      differs begins_word x 61 holds refl,
      differs begins_word x 34 holds refl,
      holds,
    ) refl

pub digit_no_word : (x : ℕ) → is_digit x ≡ true → begins_word x ≡ false
digit_no_word x holds = grind (arith, nat_tests)

pub number_at : (x : ℕ) (xs : List ℕ) → is_digit x ≡ true → token_at (x ∷ xs) ≡ Some (number, after is_digit (x ∷ xs))
unfolding token_at
number_at x xs holds =
    rw (
      differs is_digit x 123 holds refl,
      differs is_digit x 125 holds refl,
      differs is_digit x 91 holds refl,
      differs is_digit x 93 holds refl,
      differs is_digit x 44 holds refl,
      differs is_digit x 61 holds refl,
      differs is_digit x 34 holds refl,
      digit_no_word x holds,
      holds,
    ) refl

a_word : (w rest : List ℕ) → first_is begins_word w ≡ true → list_all is_word_byte w ≡ true → first_is is_word_byte rest ≡ false →
    token_at (w ++ rest) ≡ Some (word w, rest)
a_word [] rest first all stop = absurd (true≢false (sym first))
a_word (x ∷ w) rest first all stop = word_at x (w ++ rest) first ∙
    same_word _ _ _ _ (front_is is_word_byte (x ∷ w) rest all stop) (after_is is_word_byte (x ∷ w) rest all stop)

a_number : (s rest : List ℕ) → first_is is_digit s ≡ true → list_all is_digit s ≡ true → first_is is_digit rest ≡ false →
    token_at (s ++ rest) ≡ Some (number, rest)
a_number [] rest first all stop = absurd (true≢false (sym first))
a_number (x ∷ s) rest first all stop = number_at x (s ++ rest) first ∙ same_number _ _ (after_is is_digit (x ∷ s) rest all stop)

string_is : (s w rest : List ℕ) → front is_string_byte s ≡ w → after is_string_byte s ≡ 34 ∷ rest → has_template w ≡ false → string_at s ≡ Some (string w, rest)
unfolding string_at
string_is s w rest f a h = rw (f, a, h) refl

a_string : (w rest : List ℕ) → list_all is_string_byte w ≡ true → has_template w ≡ false → token_at ((34 ∷ (w ++ 34 ∷ [])) ++ rest) ≡ Some (string w, rest)
unfolding token_at
a_string w rest all h =
    ap string_at (append_assoc w (34 ∷ []) rest) ∙ string_is (w ++ 34 ∷ rest) w rest (front_is is_string_byte w (34 ∷ rest) all refl)
    (after_is is_string_byte w (34 ∷ rest) all refl) h

-- ---- what a token's spelling gives

pub token_is : (t : RulesToken) (s rest : List ℕ) → Spells t s → Apart t rest → token_at (s ++ rest) ≡ Some (t, rest)
unfolding token_at
token_is open_block s rest h apart = rw h refl
token_is close_block s rest h apart = rw h refl
token_is begin_list s rest h apart = rw h refl
token_is end_list s rest h apart = rw h refl
token_is comma s rest h apart = rw h refl
token_is equals s rest h apart = rw h refl
token_is (word w) s rest h apart = ap (λ x. token_at (x ++ rest)) h.0 ∙ a_word w rest h.1 h.2 apart
token_is (string w) s rest h apart = ap (λ x. token_at (x ++ rest)) h.0 ∙ a_string w rest h.1 h.2
token_is number s rest h apart = a_number s rest h.0 h.1 apart

stays : (test : ℕ → Bool) (x : ℕ) (xs : List ℕ) → test x ≡ true → test 35 ≡ false → test 47 ≡ false → test 32 ≡ false → test 9 ≡ false → test 13 ≡ false →
    test 10 ≡ false → skip false (x ∷ xs) ≡ x ∷ xs
unfolding skip
stays test x xs holds a b c d e f = rw (
  differs test x 35 holds a,
  differs test x 47 holds b,
  differs test x 32 holds c,
  differs test x 9 holds d,
  differs test x 13 holds e,
  differs test x 10 holds f,
) refl

starts : (test : ℕ → Bool) (s rest : List ℕ) → first_is test s ≡ true → test 35 ≡ false → test 47 ≡ false → test 32 ≡ false → test 9 ≡ false → test 13 ≡ false →
    test 10 ≡ false → skip false (s ++ rest) ≡ s ++ rest
starts test [] rest first a b c d e f = absurd (true≢false (sym first))
starts test (x ∷ s) rest first a b c d e f = stays test x (s ++ rest) first a b c d e f

skip_token : (t : RulesToken) (s rest : List ℕ) → Spells t s → skip false (s ++ rest) ≡ s ++ rest
unfolding skip
skip_token open_block s rest h = rw h refl
skip_token close_block s rest h = rw h refl
skip_token begin_list s rest h = rw h refl
skip_token end_list s rest h = rw h refl
skip_token comma s rest h = rw h refl
skip_token equals s rest h = rw h refl
skip_token (word w) s rest h = rw h.0 (starts begins_word w rest h.1 refl refl refl refl refl refl)
skip_token (string w) s rest h = rw h.0 refl
skip_token number s rest h = starts is_digit s rest h.0 refl refl refl refl refl refl

-- ---- blanks and comments

blank_no_mark : (b : ℕ) → is_blank b ≡ true → ((b == 35) ≡ false) × ((b == 47) ≡ false)
blank_no_mark b holds = (differs is_blank b 35 holds refl, differs is_blank b 47 holds refl)

skip_blank : (b : ℕ) (rest : List ℕ) → is_blank b ≡ true → skip false (b ∷ rest) ≡ skip false rest
unfolding skip
skip_blank b rest holds = let p = blank_no_mark b holds in rw (p.0, p.1, holds) refl

line_end : (x : ℕ) (xs : List ℕ) → x ≡ 10 → skip true (x ∷ xs) ≡ skip false (x ∷ xs)
unfolding skip
line_end x xs h = rw h refl

skip_line : (line rest : List ℕ) → list_all in_line line ≡ true → first_is in_line rest ≡ false → skip true (line ++ rest) ≡ skip false rest
unfolding skip
skip_line [] [] all stop = refl
skip_line [] (x ∷ xs) all stop = line_end x xs (eqb-true x 10 (is_yes (x == 10) stop))
skip_line (x ∷ line) rest all stop =
    let p = and_parts (in_line x) (list_all in_line line) all in
    let here : not (x == 10) ≡ true = p.0 in
    ap (λ c. skip c (line ++ rest)) here ∙ skip_line line rest p.1 stop

skip_comment : (slashes : Bool) (line rest : List ℕ) → list_all in_line line ≡ true → first_is in_line rest ≡ false →
    skip false ((mark slashes ++ line) ++ rest) ≡ skip false rest
unfolding skip
skip_comment true line rest all stop = skip_line line rest all stop
skip_comment false line rest all stop = skip_line line rest all stop

-- ---- layouts

nothing_there : (t : RulesToken) (rest : List ℕ) → token_at [] ≡ Some (t, rest) → ⊥
unfolding token_at
nothing_there t rest h = cc

first_some : (test : ℕ → Bool) (s : List ℕ) → first_is test s ≡ true → 0 < length s
first_some test [] h = absurd (true≢false (sym h))
first_some test (x ∷ s) h = omega arith

turn_is : (n : ℕ) (s : State) (xs rest : List ℕ) (t : RulesToken) → token_at xs ≡ Some (t, rest) →
    read_on (suc n) s xs ≡ (step s t >>= λ a. read_on n a (skip false rest))
unfolding read_on next
turn_is n s [] rest t h = absurd (nothing_there t rest h)
turn_is n s (x ∷ xs) rest t h = rw h refl

bind_same : (r : Read State) (f g : State → Read State) → ((a : State) → f a ≡ g a) → (r >>= f) ≡ (r >>= g)
bind_same (Ok a) f g h = h a
bind_same (Err e) f g h = refl

spelled_some : (t : RulesToken) (s : List ℕ) → Spells t s → 0 < length s
spelled_some open_block s h = rw h (omega arith)
spelled_some close_block s h = rw h (omega arith)
spelled_some begin_list s h = rw h (omega arith)
spelled_some end_list s h = rw h (omega arith)
spelled_some comma s h = rw h (omega arith)
spelled_some equals s h = rw h (omega arith)
spelled_some (word w) s h = rw h.0 (first_some begins_word w h.1)
spelled_some (string w) s h = rw h.0 (omega arith)
spelled_some number s h = first_some is_digit s h.0

-- as many turns as the text has bytes are enough
pub laid_read : (ps : List Piece) (n : ℕ) (s : State) → Layout ps → length (text_of ps) ≤ n → read_on n s (skip false (text_of ps)) ≡ run s (tokens_of ps)
unfolding read_on run skip
laid_read [] n s laid fits = refl
laid_read (blank b ∷ ps) n s laid fits = ap (read_on n s) (skip_blank b (text_of ps) laid.0) ∙ laid_read ps n s laid.1 (omega arith)
laid_read (comment slashes line ∷ ps) n s laid fits =
    ap (read_on n s) (skip_comment slashes line (text_of ps) laid.0.0 laid.0.1) ∙
    laid_read ps n s laid.1 (omega (arith, length-append (mark slashes ++ line) (text_of ps)))
laid_read (part t sp ∷ ps) zero s laid fits =
    let some = spelled_some t sp laid.0.0 in
    absurd (omega (arith, some, length-append sp (text_of ps)))
laid_read (part t sp ∷ ps) (suc n) s laid fits =
    let some = spelled_some t sp laid.0.0 in
    let fewer : length (text_of ps) ≤ n = omega (arith, some, length-append sp (text_of ps)) in
    ap (read_on (suc n) s) (skip_token t sp (text_of ps) laid.0.0)
    ∙ turn_is n s (sp ++ text_of ps) (text_of ps) t (token_is t sp (text_of ps) laid.0.0 laid.0.1)
    ∙ bind_same (step s t) (λ a. read_on n a (skip false (text_of ps))) (λ a. run a (tokens_of ps)) (λ a. laid_read ps n a laid.1 fewer)

pub fewer_tokens : (ps : List Piece) → Layout ps → length (tokens_of ps) ≤ length (text_of ps)
fewer_tokens [] laid = omega arith
fewer_tokens (blank b ∷ ps) laid = omega (arith, fewer_tokens ps laid.1)
fewer_tokens (comment slashes line ∷ ps) laid = omega (arith, fewer_tokens ps laid.1, length-append (mark slashes ++ line) (text_of ps))
fewer_tokens (part t sp ∷ ps) laid = omega (arith, fewer_tokens ps laid.1, spelled_some t sp laid.0.0, length-append sp (text_of ps))
