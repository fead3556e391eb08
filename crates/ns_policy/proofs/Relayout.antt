-- A text whose tokens are read has a layout.
use Rattle.std.proofs.Common.{◌≡◌, ℕ, zero, suc, ◌+◌, List, [], ◌∷◌, ◌++◌, drop, Bool, true, false, not, ◌&&◌, ◌||◌, ◌==◌, Option, Ok, Err, Some, None, refl}
use Rattle.std.proofs.Common.{sym, ap, ◌∙◌, subst, arith, append_assoc, true≢false, if◌then◌else◌, codes}
use Rattle.std.specs.List.{prefix_len, list_all}
use Rattle.std.proofs.lemmas.List.{take-append-drop}
use Rattle.std.proofs.lemmas.Bool.{and_parts, eqb-true}
use Rattle.ns_policy.specs.declared.parser.State.{State}
use Rattle.ns_policy.specs.Lex.{RulesToken, word, number, is_blank, is_letter, is_digit, begins_word, is_word_byte}
use Rattle.ns_policy.specs.Lex.{is_string_byte, begins_with, has_template, skip}
use Rattle.ns_policy.specs.Lex.{front, after, string_at, token_at}
use Rattle.ns_policy.specs.Rules.{Read, ◌>>=◌}
use Rattle.ns_policy.specs.Grammar.{step, next, or_syntax, read_on}
use Rattle.ns_policy.specs.Layout.{Piece, blank, comment, part, text_of, tokens_of, first_is, in_line, Spells, Apart, Layout}
use Rattle.ns_types.proofs.Tests.{is_no}

-- ---- fronts

front_step : (test : ℕ → Bool) (x : ℕ) (xs : List ℕ) → test x ≡ true → front test (x ∷ xs) ≡ x ∷ front test xs
front_step test x xs h =
    let n : 1 + prefix_len test xs ≡ suc (prefix_len test xs) = omega arith in
    rw (h, n) refl

after_step : (test : ℕ → Bool) (x : ℕ) (xs : List ℕ) → test x ≡ true → after test (x ∷ xs) ≡ after test xs
after_step test x xs h =
    let n : 1 + prefix_len test xs ≡ suc (prefix_len test xs) = omega arith in
    rw (h, n) refl

front_none : (test : ℕ → Bool) (x : ℕ) (xs : List ℕ) → test x ≡ false → front test (x ∷ xs) ≡ []
front_none test x xs h = rw h refl

after_none : (test : ℕ → Bool) (x : ℕ) (xs : List ℕ) → test x ≡ false → after test (x ∷ xs) ≡ x ∷ xs
after_none test x xs h = rw h refl

all_cons : (test : ℕ → Bool) (x : ℕ) (xs : List ℕ) → test x ≡ true → list_all test xs ≡ true → list_all test (x ∷ xs) ≡ true
all_cons test x xs h k = rw (h, k) refl

all_step : (test : ℕ → Bool) (x : ℕ) (xs : List ℕ) (c : Bool) → test x ≡ c → list_all test (front test xs) ≡ true → list_all test (front test (x ∷ xs)) ≡ true
all_step test x xs true e rest = ap (list_all test) (front_step test x xs e) ∙ all_cons test x (front test xs) e rest
all_step test x xs false e rest = ap (list_all test) (front_none test x xs e)

front_all : (test : ℕ → Bool) (s : List ℕ) → list_all test (front test s) ≡ true
front_all test [] = refl
front_all test (x ∷ xs) = all_step test x xs (test x) refl (front_all test xs)

stop_step : (test : ℕ → Bool) (x : ℕ) (xs : List ℕ) (c : Bool) → test x ≡ c → first_is test (after test xs) ≡ false →
    first_is test (after test (x ∷ xs)) ≡ false
stop_step test x xs true e rest = ap (first_is test) (after_step test x xs e) ∙ rest
stop_step test x xs false e rest = ap (first_is test) (after_none test x xs e) ∙ e

after_stops : (test : ℕ → Bool) (s : List ℕ) → first_is test (after test s) ≡ false
after_stops test [] = refl
after_stops test (x ∷ xs) = stop_step test x xs (test x) refl (after_stops test xs)

parts : (test : ℕ → Bool) (s : List ℕ) → s ≡ front test s ++ after test s
parts test s = sym (take-append-drop (prefix_len test s) s)

-- ---- tokens

abbrev Backs : List ℕ → Option (RulesToken × List ℕ) → Type 0
Backs xs None = Unit {0}
Backs xs (Some p) = (sp : List ℕ) × (xs ≡ sp ++ p.1) × Spells p.0 sp × Apart p.0 p.1

backs_if : (xs : List ℕ) (c : Bool) (r q : Option (RulesToken × List ℕ)) → (c ≡ true → Backs xs r) → (c ≡ false → Backs xs q) → Backs xs (if c then r else q)
backs_if xs true r q h k = h refl
backs_if xs false r q h k = k refl

first_byte : (x k : ℕ) (xs : List ℕ) → (x == k) ≡ true → x ∷ xs ≡ k ∷ xs
first_byte x k xs e = ap (λ (y : ℕ). y ∷ xs) (eqb-true x k e)

a_word_byte : (letter digit low dash : Bool) → (letter || low) ≡ true → (letter || digit || low || dash) ≡ true
a_word_byte true d l m h = refl
a_word_byte false true l m h = refl
a_word_byte false false true m h = refl
a_word_byte false false false m h = absurd (true≢false (sym h))

begins_is_word : (x : ℕ) → begins_word x ≡ true → is_word_byte x ≡ true
begins_is_word x h = a_word_byte (is_letter x) (is_digit x) (x == 95) (x == 45) h

quoted : (s : List ℕ) → begins_with 34 s ≡ true → s ≡ 34 ∷ drop 1 s
quoted [] h = absurd (true≢false (sym h))
quoted (x ∷ xs) h = first_byte x 34 xs h

string_backs : (x : ℕ) (s : List ℕ) → (x == 34) ≡ true → Backs (x ∷ s) (string_at s)
unfolding string_at
string_backs x s e =
    backs_if (x ∷ s) _ _ _
    (λ c. let p = and_parts (begins_with 34 (after is_string_byte s)) (not (has_template (front is_string_byte s))) c in
    let w = front is_string_byte s in
    let rest = drop 1 (after is_string_byte s) in
    let tail : s ≡ (w ++ 34 ∷ []) ++ rest = parts is_string_byte s ∙ ap (λ us. w ++ us) (quoted (after is_string_byte s) p.0) ∙
    sym (append_assoc w (34 ∷ []) rest) in
    (34 ∷ (w ++ 34 ∷ []), first_byte x 34 s e ∙ ap (λ us. 34 ∷ us) tail, (refl, front_all is_string_byte s, is_no (has_template w) p.1), tt))
    (λ c. tt)

word_backs : (x : ℕ) (xs : List ℕ) → begins_word x ≡ true → Backs (x ∷ xs) (Some (word (front is_word_byte (x ∷ xs)), after is_word_byte (x ∷ xs)))
word_backs x xs e = (
  front is_word_byte (x ∷ xs),
  parts is_word_byte (x ∷ xs),
  (
    refl,
    ap (first_is begins_word) (front_step is_word_byte x xs (begins_is_word x e)) ∙
        e,
    front_all is_word_byte (x ∷ xs),
  ),
  after_stops is_word_byte (x ∷ xs),
)

number_backs : (x : ℕ) (xs : List ℕ) → is_digit x ≡ true → Backs (x ∷ xs) (Some (number, after is_digit (x ∷ xs)))
number_backs x xs e = (
  front is_digit (x ∷ xs),
  parts is_digit (x ∷ xs),
  (ap (first_is is_digit) (front_step is_digit x xs e) ∙ e, front_all is_digit (x ∷ xs)),
  after_stops is_digit (x ∷ xs),
)

token_backs : (xs : List ℕ) → Backs xs (token_at xs)
unfolding token_at
token_backs [] = tt
token_backs (x ∷ xs) =
    backs_if (x ∷ xs) (x == 123) _ _ (λ e. (codes "{", first_byte x 123 xs e, refl, tt)) (λ n1.
    backs_if (x ∷ xs) (x == 125) _ _ (λ e. (codes "}", first_byte x 125 xs e, refl, tt)) (λ n2.
    backs_if (x ∷ xs) (x == 91) _ _ (λ e. (codes "[", first_byte x 91 xs e, refl, tt)) (λ n3.
    backs_if (x ∷ xs) (x == 93) _ _ (λ e. (codes "]", first_byte x 93 xs e, refl, tt)) (λ n4.
    backs_if (x ∷ xs) (x == 44) _ _ (λ e. (codes ",", first_byte x 44 xs e, refl, tt)) (λ n5.
    backs_if (x ∷ xs) (x == 61) _ _ (λ e. (codes "=", first_byte x 61 xs e, refl, tt)) (λ n6.
    backs_if (x ∷ xs) (x == 34) _ _ (λ e. string_backs x xs e) (λ n7.
    backs_if (x ∷ xs) (begins_word x) _ _ (λ e. word_backs x xs e) (λ n8.
    backs_if (x ∷ xs) (is_digit x) _ _ (λ e. number_backs x xs e) (λ n9. tt)))))))))

-- ---- blanks and comments

abbrev Regap : List Piece → List ℕ → Type 0
Regap ps s = (qs : List Piece) × Layout qs × (s ≡ text_of qs) × (tokens_of qs ≡ tokens_of ps)

abbrev Reline : List Piece → List ℕ → Type 0
Reline ps s = (line : List ℕ) × (qs : List Piece) × (list_all in_line line ≡ true) × (first_is in_line (text_of qs) ≡ false) × Layout qs ×
    (s ≡ line ++ text_of qs) × (tokens_of qs ≡ tokens_of ps)

line_step : (x : ℕ) (xs : List ℕ) (ps : List Piece) (c : Bool) → (x == 10) ≡ c → skip (not c) xs ≡ text_of ps → (skip false xs ≡ text_of ps → Regap ps xs) →
    (skip true xs ≡ text_of ps → Reline ps xs) → Reline ps (x ∷ xs)
line_step x xs ps true e h gap line =
    let r = gap h in
    let ends : is_blank x ≡ true = ap is_blank (eqb-true x 10 e) in
    ([], blank x ∷ r.0, refl, ap not e, (ends, r.1), ap (λ us. x ∷ us) r.2, r.3)
line_step x xs ps false e h gap line =
    let r = line h in
    (x ∷ r.0, r.1, all_cons in_line x r.0 (ap not e) r.2, r.3, r.4, ap (λ us. x ∷ us) r.5, r.6)

hashed : (x : ℕ) (xs : List ℕ) (ps : List Piece) → (x == 35) ≡ true → Reline ps xs → Regap ps (x ∷ xs)
hashed x xs ps e r = (comment false r.0 ∷ r.1, ((r.2, r.3), r.4), first_byte x 35 xs e ∙ ap (λ us. 35 ∷ us) r.5, r.6)

no_line : (xs us : List ℕ) → begins_with 47 xs ≡ true → xs ≡ us → first_is in_line us ≡ false → (A : Type 0) → A
no_line [] us b e f A = absurd (true≢false (sym b))
no_line (y ∷ ys) us b e f A =
    let one : in_line y ≡ true = ap in_line (eqb-true y 47 b) in
    absurd (true≢false (sym one ∙ ap (first_is in_line) e ∙ f))

slashed_line : (x : ℕ) (xs : List ℕ) (ps : List Piece) → (x == 47) ≡ true → begins_with 47 xs ≡ true → (line : List ℕ) (qs : List Piece) →
    list_all in_line line ≡ true → first_is in_line (text_of qs) ≡ false → Layout qs → xs ≡ line ++ text_of qs → tokens_of qs ≡ tokens_of ps → Regap ps (x ∷ xs)
slashed_line x xs ps e b [] qs all stop laid is same = no_line xs (text_of qs) b is stop _
slashed_line x xs ps e b (z ∷ line) qs all stop laid is same =
    let p = and_parts (in_line z) (list_all in_line line) all in
    let second : (z == 47) ≡ true = sym (ap (begins_with 47) is) ∙ b in
    (comment true line ∷ qs, ((p.1, stop), laid), first_byte x 47 xs e ∙ ap (λ us. 47 ∷ us) (is ∙ first_byte z 47 (line ++ text_of qs) second), same)

slashed : (x : ℕ) (xs : List ℕ) (ps : List Piece) → (x == 47) ≡ true → begins_with 47 xs ≡ true → Reline ps xs → Regap ps (x ∷ xs)
slashed x xs ps e b r = slashed_line x xs ps e b r.0 r.1 r.2 r.3 r.4 r.5 r.6

spaced : (x : ℕ) (xs : List ℕ) (ps : List Piece) → is_blank x ≡ true → Regap ps xs → Regap ps (x ∷ xs)
spaced x xs ps b r = (blank x ∷ r.0, (b, r.1), ap (λ us. x ∷ us) r.2, r.3)

gap_step : (x : ℕ) (xs : List ℕ) (ps : List Piece) → Layout ps → (hash slash next space : Bool) → (x == 35) ≡ hash → (x == 47) ≡ slash →
    begins_with 47 xs ≡ next → is_blank x ≡ space
    → (if hash || (slash && next) then skip true xs else if space then skip false xs else x ∷ xs) ≡ text_of ps
    → (skip false xs ≡ text_of ps → Regap ps xs) → (skip true xs ≡ text_of ps → Reline ps xs) → Regap ps (x ∷ xs)
gap_step x xs ps laid true slash next space e f g b h gap line = hashed x xs ps e (line h)
gap_step x xs ps laid false true true space e f g b h gap line = slashed x xs ps f g (line h)
gap_step x xs ps laid false true false true e f g b h gap line = spaced x xs ps b (gap h)
gap_step x xs ps laid false true false false e f g b h gap line = (ps, laid, h, refl)
gap_step x xs ps laid false false next true e f g b h gap line = spaced x xs ps b (gap h)
gap_step x xs ps laid false false next false e f g b h gap line = (ps, laid, h, refl)

mutual
  unfolding skip

  regap : (s : List ℕ) (ps : List Piece) → Layout ps → skip false s ≡ text_of ps → Regap ps s
  regap [] ps laid h = (ps, laid, h, refl)
  regap (x ∷ xs) ps laid h = gap_step x xs ps laid (x == 35) (x == 47) (begins_with 47 xs) (is_blank x) refl refl refl refl h (λ k. regap xs ps laid k)
      (λ k. reline xs ps laid k)

  reline : (s : List ℕ) (ps : List Piece) → Layout ps → skip true s ≡ text_of ps → Reline ps s
  reline [] ps laid h = ([], ps, refl, ap (first_is in_line) (sym h), laid, h, refl)
  reline (x ∷ xs) ps laid h = line_step x xs ps (x == 10) refl h (λ k. regap xs ps laid k) (λ k. reline xs ps laid k)

-- ---- texts

abbrev pub Laid : List ℕ → Type 0
Laid s = (ps : List Piece) × Layout ps × (s ≡ text_of ps)

after_token : (xs : List ℕ) (n : ℕ) (s end : State) (t : RulesToken) (us : List ℕ) (r : Read State) (sp : List ℕ) → xs ≡ sp ++ us → Spells t sp → Apart t us →
    (r >>= λ a. read_on n a (skip false us)) ≡ Ok end
    → ((vs : List ℕ) (a : State) → read_on n a vs ≡ Ok end → Laid vs) → Laid xs
after_token xs n s end t us (Err e) sp is spells apart h rest = cc
after_token xs n s end t us (Ok a) sp is spells apart h rest =
    let l = rest (skip false us) a h in
    let r = regap us l.0 l.1 l.2 in
    (part t sp ∷ r.0, ((spells, subst (Apart t) r.2 apart), r.1), is ∙ ap (λ vs. sp ++ vs) r.2)

then_laid : (xs : List ℕ) (n : ℕ) (s end : State) (r : Option (RulesToken × List ℕ)) → Backs xs r →
    (or_syntax r >>= λ t. step s t.0 >>= λ a. read_on n a (skip false t.1)) ≡ Ok end
    → ((us : List ℕ) (a : State) → read_on n a us ≡ Ok end → Laid us) → Laid xs
then_laid xs n s end None b h rest = cc
then_laid xs n s end (Some p) b h rest = after_token xs n s end p.0 p.1 (step s p.0) b.0 b.1 b.2 b.3 h rest

relaid : (n : ℕ) (xs : List ℕ) (s end : State) → read_on n s xs ≡ Ok end → Laid xs
unfolding read_on next
relaid n [] s end h = ([], tt, refl)
relaid zero (x ∷ xs) s end h = cc
relaid (suc n) (x ∷ xs) s end h = then_laid (x ∷ xs) n s end (token_at (x ∷ xs)) (token_backs (x ∷ xs)) h (λ us a k. relaid n us a end k)

pub text_laid : (n : ℕ) (xs : List ℕ) (s end : State) → read_on n s (skip false xs) ≡ Ok end → Laid xs
text_laid n xs s end h =
    let l = relaid n (skip false xs) s end h in
    let r = regap xs l.0 l.1 l.2 in
    (r.0, r.1, r.2)
