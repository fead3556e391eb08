-- What a path spells, by its segments and by the tokens of a route.
use Rattle.std.proofs.Common.{◌≡◌, inl, inr, ℕ, ◌<◌, List, [], ◌∷◌, ◌++◌, length, Bool, true, false, ◌&&◌, ◌||◌, not, cond, ltb, eqb, MatchBool, refl, sym}
use Rattle.std.proofs.Common.{ap, subst, ◌∙◌, arith, true≢false}
use Rattle.std.proofs.lemmas.Bool.{and_from, and_parts, eqb-true}
use Rattle.std.proofs.lemmas.Bool.Decides.{nat_tests}
use Rattle.std.proofs.lemmas.Slice.Eq.{bytes_eq-Decides}
use Rattle.std.specs.Prelude.{bytes_eq}
use Rattle.std.specs.List.{onto_first}
use Rattle.std.specs.Cmp.Lexicographic.{pointwise}
use Rattle.matchit.specs.Rows.{param_token}
use Rattle.matchit.specs.Seek.{has_slash}
use Rattle.ns_request.specs.Parts.{slash, segments_of}
use Rattle.ns_request.specs.Endpoints.{fits}
use Rattle.ns_request.proofs.Seeking.{Cuts, plain, cut, cuts_of, Matches, Opens, IsWhole, matches-byte, matches-part, append_nil}
use Rattle.ns_types.proofs.Tests.{either_of, is_no}
use Rattle.ns_types.proofs.Named.{second_of_both}

-- ---- the tokens of a pattern's segments

abbrev pub token_of : List ℕ → List ℕ
token_of [] = []
token_of (b ∷ word) = cond (eqb b 123) (param_token ∷ []) (b ∷ word)

abbrev pub rest_of : List (List ℕ) → List ℕ
rest_of [] = []
rest_of (word ∷ words) = slash ∷ token_of word ++ rest_of words

abbrev pub tokens_of : List (List ℕ) → List ℕ
tokens_of [] = []
tokens_of (word ∷ words) = token_of word ++ rest_of words

-- bytes without a slash
abbrev pub is_plain : List ℕ → Bool
is_plain [] = true
is_plain (b ∷ word) = ltb b 256 && (not (eqb b slash) && is_plain word)

abbrev pub are_plain : List (List ℕ) → Bool
are_plain [] = true
are_plain (word ∷ words) = is_plain word && are_plain words

has_slash-plain : (word : List ℕ) → is_plain word ≡ true → has_slash word ≡ false
has_slash-plain [] h = refl
has_slash-plain (b ∷ word) h =
    let p = and_parts (ltb b 256) (not (eqb b slash) && is_plain word) h in
    let q = and_parts (not (eqb b slash)) (is_plain word) p.1 in
    subst (λ v. cond v true (has_slash word) ≡ false) (sym (is_no (eqb b slash) q.0)) (has_slash-plain word q.1)

-- ---- one segment

matches-word : (word t rest : List ℕ) → Matches t rest → Matches (word ++ t) (word ++ rest)
matches-word [] t rest m = m
matches-word (b ∷ word) t rest m = matches-byte b (word ++ t) (word ++ rest) (matches-word word t rest m)

word-matches : (word t path : List ℕ) → is_plain word ≡ true → Matches (word ++ t) path → (rest : List ℕ) × (path ≡ word ++ rest) × Matches t rest
word-matches [] t path h m = (path, refl, m)
word-matches (b ∷ word) t path h m =
    let p = and_parts (ltb b 256) (not (eqb b slash) && is_plain word) h in
    let small = p.0 in
    let byte : eqb b param_token ≡ false = grind (arith, nat_tests) in
    let n = subst (λ v. MatchBool v
    ((part : List ℕ) × (rest : List ℕ) × (path ≡ part ++ rest) × (0 < length part) × (has_slash part ≡ false) × Matches (word ++ t) rest)
    ((rest : List ℕ) × (path ≡ b ∷ rest) × Matches (word ++ t) rest)) byte m in
    let f = word-matches word t n.0 (and_parts (not (eqb b slash)) (is_plain word) p.1).1 n.2 in
    (f.0, n.1 ∙ ap (λ x. b ∷ x) f.1, f.2)

nil_from_zero : (s : List ℕ) → eqb (length s) 0 ≡ true → s ≡ []
nil_from_zero [] h = refl
nil_from_zero (b ∷ s) h = let z : length (b ∷ s) ≡ 0 = eqb-true (length (b ∷ s)) 0 h in absurd (omega arith)

fits-matches : (word part t rest : List ℕ) → fits word part ≡ true → has_slash part ≡ false → Matches t rest → Matches (token_of word ++ t) (part ++ rest)
fits-matches [] part t rest f h m = subst (λ x. Matches t (x ++ rest)) (sym (nil_from_zero part f)) m
fits-matches (b ∷ word) part t rest f h m =
    elim (eqb b 123) as (λ v. cond v (ltb 0 (length part)) (bytes_eq part (b ∷ word)) ≡ true →
    Matches (cond v (param_token ∷ []) (b ∷ word) ++ t) (part ++ rest)) [
      | true ↦ λ g. let some : 0 < length part = grind (arith, nat_tests) in matches-part part rest t (part ++ rest) refl some h m
      | false ↦ λ g. subst (λ x. Matches ((b ∷ word) ++ t) (x ++ rest)) (sym ((bytes_eq-Decides part (b ∷ word)).0 g)) (matches-word (b ∷ word) t rest m)
    ] f

matches-fits : (word t path : List ℕ) → is_plain word ≡ true → Matches (token_of word ++ t) path
    → (part : List ℕ) × (rest : List ℕ) × (path ≡ part ++ rest) × (has_slash part ≡ false) × (fits word part ≡ true) × Matches t rest
matches-fits [] t path h m = ([], path, refl, refl, refl, m)
matches-fits (b ∷ word) t path h m =
    elim (eqb b 123) as (λ v. Matches (cond v (param_token ∷ []) (b ∷ word) ++ t) path → (part : List ℕ) × (rest : List ℕ) × (path ≡ part ++ rest) ×
    (has_slash part ≡ false)
    × (cond v (ltb 0 (length part)) (bytes_eq part (b ∷ word)) ≡ true) × Matches t rest) [
      | true ↦ λ n. let some = n.3 in let long : ltb 0 (length n.0) ≡ true = grind (arith, nat_tests) in (n.0, n.1, n.2, n.4, long, n.5)
      | false ↦ λ n.
          let f = word-matches (b ∷ word) t path h n in
          (b ∷ word, f.0, f.1, has_slash-plain (b ∷ word) h, (bytes_eq-Decides (b ∷ word) (b ∷ word)).1 refl, f.2)
    ] m

-- ---- segments

segments-plain : (path : List ℕ) → has_slash path ≡ false → segments_of path ≡ path ∷ []
segments-plain [] h = refl
segments-plain (b ∷ p) h =
    elim (eqb b slash) as (λ v. cond v true (has_slash p) ≡ false → cond v ([] ∷ segments_of p) (onto_first b (segments_of p)) ≡ (b ∷ p) ∷ []) [
      | true ↦ λ e. absurd (true≢false e)
      | false ↦ λ e. ap (λ x. onto_first b x) (segments-plain p e)
    ] h

segments-cut : (part rest : List ℕ) → has_slash part ≡ false → segments_of (part ++ slash ∷ rest) ≡ part ∷ segments_of rest
segments-cut [] rest h = refl
segments-cut (b ∷ part) rest h =
    elim (eqb b slash) as (λ v. cond v true (has_slash part) ≡ false
    → cond v ([] ∷ segments_of (part ++ slash ∷ rest)) (onto_first b (segments_of (part ++ slash ∷ rest))) ≡ (b ∷ part) ∷ segments_of rest) [
      | true ↦ λ e. absurd (true≢false e)
      | false ↦ λ e. ap (λ x. onto_first b x) (segments-cut part rest e)
    ] h

some_segments : (path : List ℕ) → Cuts path → (first : List ℕ) × (others : List (List ℕ)) × (segments_of path ≡ first ∷ others)
some_segments path (plain p) = (path, [], segments-plain path p)
some_segments path (cut part rest q p) = (part, segments_of rest, ap (λ x. segments_of x) q ∙ segments-cut part rest p)

pub segments_some : (path : List ℕ) → (first : List ℕ) × (others : List (List ℕ)) × (segments_of path ≡ first ∷ others)
segments_some path = some_segments path (cuts_of path)

abbrev Spelled : List (List ℕ) → List ℕ → Type 0
Spelled words path = pointwise fits words (segments_of path) ≡ true

nil-spelled : (path : List ℕ) → Spelled [] path → ⊥
nil-spelled path h = by (cuts_of path)
  where
    by : Cuts path → ⊥
    by (plain p) = true≢false (sym (subst (λ s. pointwise fits [] s ≡ true) (segments-plain path p) h))
    by (cut part rest q p) = true≢false (sym (subst (λ s. pointwise fits [] s ≡ true) (ap (λ x. segments_of x) q ∙ segments-cut part rest p) h))

spelled-plain : (word : List ℕ) (words : List (List ℕ)) (path : List ℕ) → has_slash path ≡ false → Spelled (word ∷ words) path →
    Matches (tokens_of (word ∷ words)) path
spelled-plain word [] path p h =
    let s = subst (λ x. pointwise fits (word ∷ []) x ≡ true) (segments-plain path p) h in
    subst (λ x. Matches (token_of word ++ []) x) (sym (append_nil path)) (fits-matches word path [] [] (and_parts (fits word path) true s).0 p refl)
spelled-plain word (next ∷ words) path p h =
    let s = subst (λ x. pointwise fits (word ∷ next ∷ words) x ≡ true) (segments-plain path p) h in
    absurd (true≢false (sym (second_of_both (fits word path) false s)))

spelled-cut : (word next : List ℕ) (words : List (List ℕ)) (part rest : List ℕ) → has_slash part ≡ false → fits word part ≡ true
    → Matches (tokens_of (next ∷ words)) rest → Matches (tokens_of (word ∷ next ∷ words)) (part ++ slash ∷ rest)
spelled-cut word next words part rest p f m =
    fits-matches word part (slash ∷ tokens_of (next ∷ words)) (slash ∷ rest) f p (matches-byte slash (tokens_of (next ∷ words)) rest m)

-- the first part of a cut path, and the others
spelled_parts : (word : List ℕ) (words : List (List ℕ)) (path part rest : List ℕ) → path ≡ part ++ slash ∷ rest → has_slash part ≡ false
    → Spelled (word ∷ words) path → (fits word part ≡ true) × Spelled words rest
spelled_parts word words path part rest q p h =
    and_parts (fits word part) (pointwise fits words (segments_of rest))
    (subst (λ x. pointwise fits (word ∷ words) x ≡ true) (ap (λ x. segments_of x) q ∙ segments-cut part rest p) h)

spelled-last : (word : List ℕ) (path : List ℕ) → Cuts path → Spelled (word ∷ []) path → Matches (tokens_of (word ∷ [])) path
spelled-last word path (plain p) h = spelled-plain word [] path p h
spelled-last word path (cut part rest q p) h = absurd (nil-spelled rest (spelled_parts word [] path part rest q p h).1)

spelled-more : (word next : List ℕ) (words : List (List ℕ)) (path : List ℕ)
    → ((rest : List ℕ) → Spelled (next ∷ words) rest → Matches (tokens_of (next ∷ words)) rest)
    → Cuts path → Spelled (word ∷ next ∷ words) path → Matches (tokens_of (word ∷ next ∷ words)) path
spelled-more word next words path ih (plain p) h = spelled-plain word (next ∷ words) path p h
spelled-more word next words path ih (cut part rest q p) h =
    let s = spelled_parts word (next ∷ words) path part rest q p h in
    subst (λ x. Matches (tokens_of (word ∷ next ∷ words)) x) (sym q) (spelled-cut word next words part rest p s.0 (ih rest s.1))

pub spelled-matches : (words : List (List ℕ)) (path : List ℕ) → Spelled words path → Matches (tokens_of words) path
spelled-matches [] path h = absurd (nil-spelled path h)
spelled-matches (word ∷ []) path h = spelled-last word path (cuts_of path) h
spelled-matches (word ∷ next ∷ words) path h =
    spelled-more word next words path (λ rest s. spelled-matches (next ∷ words) rest s) (cuts_of path) h

pub matches-spelled : (word : List ℕ) (words : List (List ℕ)) (path : List ℕ) → are_plain (word ∷ words) ≡ true
    → Matches (tokens_of (word ∷ words)) path → Spelled (word ∷ words) path
matches-spelled word [] path a m =
    let f = matches-fits word [] path (and_parts (is_plain word) true a).0 m in
    let whole : path ≡ f.0 = f.2 ∙ ap (λ x. f.0 ++ x) f.5 ∙ sym (append_nil f.0) in
    subst (λ x. pointwise fits (word ∷ []) x ≡ true) (sym (ap (λ x. segments_of x) whole ∙ segments-plain f.0 f.3))
    (and_from (fits word f.0) true f.4 refl)
matches-spelled word (next ∷ words) path a m =
    let p = and_parts (is_plain word) (are_plain (next ∷ words)) a in
    let f = matches-fits word (rest_of (next ∷ words)) path p.0 m in
    let n = f.5 in
    let whole : path ≡ f.0 ++ slash ∷ n.0 = f.2 ∙ ap (λ x. f.0 ++ x) n.1 in
    subst (λ x. pointwise fits (word ∷ next ∷ words) x ≡ true) (sym (ap (λ x. segments_of x) whole ∙ segments-cut f.0 n.0 f.3))
    (and_from (fits word f.0) (pointwise fits (next ∷ words) (segments_of n.0)) f.4 (matches-spelled next words n.0 p.1 n.2))

-- ---- the tokens of segments are whole

IsWhole-word : (word t : List ℕ) → is_plain word ≡ true → IsWhole t → IsWhole (word ++ t)
IsWhole-word [] t h w = w
IsWhole-word (b ∷ word) t h w =
    let p = and_parts (ltb b 256) (not (eqb b slash) && is_plain word) h in
    let small = p.0 in
    let low : b < 256 = grind (arith, nat_tests) in
    (λ e. omega arith, λ e. absurd (omega arith), IsWhole-word word t (and_parts (not (eqb b slash)) (is_plain word) p.1).1 w)

IsWhole-token : (word t : List ℕ) → is_plain word ≡ true → Opens t → IsWhole t → IsWhole (token_of word ++ t)
IsWhole-token [] t h o w = w
IsWhole-token (b ∷ word) t h o w =
    elim (eqb b 123) as (λ v. IsWhole (cond v (param_token ∷ []) (b ∷ word) ++ t)) [
      | true ↦ (λ e. omega arith, λ _. o, w)
      | false ↦ IsWhole-word (b ∷ word) t h w
    ]

Opens-rest : (words : List (List ℕ)) → Opens (rest_of words)
Opens-rest [] = tt
Opens-rest (word ∷ words) = refl

IsWhole-rest : (words : List (List ℕ)) → are_plain words ≡ true → IsWhole (rest_of words)
IsWhole-rest [] a = tt
IsWhole-rest (word ∷ words) a =
    let p = and_parts (is_plain word) (are_plain words) a in
    (λ e. omega arith, λ e. absurd (omega arith), IsWhole-token word (rest_of words) p.0 (Opens-rest words) (IsWhole-rest words p.1))

pub IsWhole-tokens : (words : List (List ℕ)) → are_plain words ≡ true → IsWhole (tokens_of words)
IsWhole-tokens [] a = tt
IsWhole-tokens (word ∷ words) a =
    let p = and_parts (is_plain word) (are_plain words) a in
    IsWhole-token word (rest_of words) p.0 (Opens-rest words) (IsWhole-rest words p.1)

-- ---- patterns that no path spells both

abbrev is_word : List ℕ → Bool
is_word [] = true
is_word (b ∷ word) = not (eqb b 123)

abbrev pub differ : List (List ℕ) → List (List ℕ) → Bool
differ [] [] = false
differ [] (w ∷ ws) = true
differ (v ∷ vs) [] = true
differ (v ∷ vs) (w ∷ ws) = (is_word v && (is_word w && not (bytes_eq v w))) || differ vs ws

fits-word : (word segment : List ℕ) → is_word word ≡ true → fits word segment ≡ true → segment ≡ word
fits-word [] segment w f = nil_from_zero segment f
fits-word (b ∷ word) segment w f =
    (bytes_eq-Decides segment (b ∷ word)).0 (subst (λ v. cond v (ltb 0 (length segment)) (bytes_eq segment (b ∷ word)) ≡ true) (is_no (eqb b 123) w) f)

pub differ-spelled : (vs ws segments : List (List ℕ)) → differ vs ws ≡ true → pointwise fits vs segments ≡ true → pointwise fits ws segments ≡ true → ⊥
differ-spelled [] [] segments d f g = true≢false (sym d)
differ-spelled [] (w ∷ ws) [] d f g = true≢false (sym g)
differ-spelled [] (w ∷ ws) (s ∷ segments) d f g = true≢false (sym f)
differ-spelled (v ∷ vs) [] [] d f g = true≢false (sym f)
differ-spelled (v ∷ vs) [] (s ∷ segments) d f g = true≢false (sym g)
differ-spelled (v ∷ vs) (w ∷ ws) [] d f g = true≢false (sym f)
differ-spelled (v ∷ vs) (w ∷ ws) (s ∷ segments) d f g =
    let p = and_parts (fits v s) (pointwise fits vs segments) f in
    let q = and_parts (fits w s) (pointwise fits ws segments) g in
    elim (either_of (is_word v && (is_word w && not (bytes_eq v w))) (differ vs ws) d) [
      | inl here ↦
          let a = and_parts (is_word v) (is_word w && not (bytes_eq v w)) here in
          let b = and_parts (is_word w) (not (bytes_eq v w)) a.1 in
          let same : v ≡ w = sym (fits-word v s a.0 p.0) ∙ fits-word w s b.0 q.0 in
          true≢false (sym ((bytes_eq-Decides v w).1 same) ∙ is_no (bytes_eq v w) b.1)
      | inr later ↦ differ-spelled vs ws segments later p.1 q.1
    ]
