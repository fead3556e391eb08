-- Which route a router finds, where each parameter takes a whole segment.
use Rattle.std.proofs.Common.{◌≡◌, ◌≢◌, ◌⊎◌, inl, inr, ℕ, zero, suc, ◌-◌, ◌<◌, List, [], ◌∷◌, ◌++◌, length, drop, Option, Some, None, true, false, ◌&&◌}
use Rattle.std.proofs.Common.{cond, ltb, eqb, MatchBool, refl, sym, ap, subst, ◌∙◌, arith, length-append, true≢false}
use Rattle.std.proofs.Math.Seq.{drop-append_seam}
use Rattle.std.proofs.lemmas.Bool.{eqb-true, eqb-false}
use Rattle.std.proofs.lemmas.Bool.Decides.{nat_tests}
use Rattle.matchit.specs.Rows.{RowsOf, param_token, catch_all_token}
use Rattle.matchit.specs.Seek.{own, step, or_else, seek, param_step, has_slash, slash, segment, better, cuts, longest_from, with_suffix, same_text}
use Rattle.std.proofs.Math.Bool.{and-false}

-- ---- the first segment of a text

pub data Cuts (path : List ℕ) : Type 0 where
  plain : has_slash path ≡ false → Cuts path
  cut : (part rest : List ℕ) → path ≡ part ++ slash ∷ rest → has_slash part ≡ false → Cuts path

has_slash-cons : (b : ℕ) (p : List ℕ) → eqb b slash ≡ false → has_slash p ≡ false → has_slash (b ∷ p) ≡ false
has_slash-cons b p e h = rw e h

cuts-cons : (b : ℕ) (p : List ℕ) → eqb b slash ≡ false → Cuts p → Cuts (b ∷ p)
cuts-cons b p e (plain h) = plain (has_slash-cons b p e h)
cuts-cons b p e (cut part rest q h) = cut (b ∷ part) rest (ap (λ x. b ∷ x) q) (has_slash-cons b part e h)

pub cuts_of : (path : List ℕ) → Cuts path
cuts_of [] = plain refl
cuts_of (b ∷ p) =
    elim (eqb b slash) as (λ v. eqb b slash ≡ v → Cuts (b ∷ p)) [
      | true ↦ λ e. cut [] p (ap (λ x. x ∷ p) (eqb-true b slash e)) refl
      | false ↦ λ e. cuts-cons b p e (cuts_of p)
    ] refl

-- ---- patterns whose parameters take whole segments

-- the tokens match the path
abbrev pub Matches : List ℕ → List ℕ → Type 0
Matches [] path = path ≡ []
Matches (x ∷ t) path =
    MatchBool (eqb x param_token)
    ((part : List ℕ) × (rest : List ℕ) × (path ≡ part ++ rest) × (0 < length part) × (has_slash part ≡ false) × Matches t rest)
    ((rest : List ℕ) × (path ≡ x ∷ rest) × Matches t rest)

-- the tokens end, or go on with a slash
abbrev pub Opens : List ℕ → Type 0
Opens [] = Unit {0}
Opens (x ∷ t) = x ≡ slash

-- each parameter ends its segment, and nothing catches all
abbrev pub IsWhole : List ℕ → Type 0
IsWhole [] = Unit {0}
IsWhole (x ∷ t) = (x ≢ catch_all_token) × (x ≡ param_token → Opens t) × IsWhole t

module _ {K : Type 0} where
  -- the rows have this one
  abbrev pub In : List ℕ → K → RowsOf K → Type 0
  In t k [] = ⊥
  In t k ((u, l) ∷ rest) = ((u ≡ t) × (l ≡ k)) ⊎ In t k rest

  abbrev pub AreWhole : RowsOf K → Type 0
  AreWhole [] = Unit {0}
  AreWhole ((t, k) ∷ rest) = IsWhole t × AreWhole rest

  abbrev AllOpen : RowsOf K → Type 0
  AllOpen [] = Unit {0}
  AllOpen ((t, k) ∷ rest) = Opens t × AllOpen rest

  -- one of the rows matches
  abbrev pub Found : RowsOf K → K → List ℕ → Type 0
  Found rs k path = (t : List ℕ) × In t k rs × Matches t path

-- ---- equations of lists

head_eq : (x b : ℕ) (u t : List ℕ) → x ∷ u ≡ b ∷ t → x ≡ b
head_eq x b u t e = cc

tail_eq : (x b : ℕ) (u t : List ℕ) → x ∷ u ≡ b ∷ t → u ≡ t
tail_eq x b u t e = cc

cons_eq : (x b : ℕ) (u t : List ℕ) → x ≡ b → u ≡ t → x ∷ u ≡ b ∷ t
cons_eq x b u t p q = cc

nil_cons : (b : ℕ) (t : List ℕ) → [] ≡ b ∷ t → ⊥
nil_cons b t e = cc

cons_nil : (b : ℕ) (t : List ℕ) → b ∷ t ≡ [] → ⊥
cons_nil b t e = cc

none_some : {K : Type 0} (k : K) → None ≡ Some k → ⊥
none_some k e = cc

some_eq : {K : Type 0} (j k : K) → Some j ≡ Some k → j ≡ k
some_eq j k e = cc

-- ---- rows that go on with a token

in_step : {K : Type 0} (b : ℕ) (rs : RowsOf K) (t : List ℕ) (k : K) → In t k (step b rs) → In (b ∷ t) k rs
in_step b [] t k h = h
in_step b (([], key) ∷ rest) t k h = inr (in_step b rest t k h)
in_step b ((x ∷ u, key) ∷ rest) t k h =
    elim (eqb x b) as (λ v. eqb x b ≡ v → In t k (cond v ((u, key) ∷ step b rest) (step b rest)) → In (b ∷ t) k ((x ∷ u, key) ∷ rest)) [
      | true ↦ λ e g. elim g [ inl p ↦ inl (cons_eq x b u t (eqb-true x b e) p.0, p.1) | inr q ↦ inr (in_step b rest t k q) ]
      | false ↦ λ e g. inr (in_step b rest t k g)
    ] refl h

step_in : {K : Type 0} (b : ℕ) (rs : RowsOf K) (t : List ℕ) (k : K) → In (b ∷ t) k rs → In t k (step b rs)
step_in b [] t k h = h
step_in b (([], key) ∷ rest) t k h = elim h [ inl p ↦ absurd (nil_cons b t p.0) | inr q ↦ step_in b rest t k q ]
step_in b ((x ∷ u, key) ∷ rest) t k h =
    elim (eqb x b) as (λ v. eqb x b ≡ v → In t k (cond v ((u, key) ∷ step b rest) (step b rest))) [
      | true ↦ λ e. elim h [ inl p ↦ inl (tail_eq x b u t p.0, p.1) | inr q ↦ inr (step_in b rest t k q) ]
      | false ↦ λ e. elim h [ inl p ↦ absurd (eqb-false x b e (head_eq x b u t p.0)) | inr q ↦ step_in b rest t k q ]
    ] refl

AreWhole-step : {K : Type 0} (b : ℕ) (rs : RowsOf K) → AreWhole rs → AreWhole (step b rs)
AreWhole-step b [] w = tt
AreWhole-step b (([], key) ∷ rest) w = AreWhole-step b rest w.1
AreWhole-step b ((x ∷ u, key) ∷ rest) w =
    elim (eqb x b) as (λ v. AreWhole (cond v ((u, key) ∷ step b rest) (step b rest))) [
      | true ↦ (w.0.2, AreWhole-step b rest w.1)
      | false ↦ AreWhole-step b rest w.1
    ]

AllOpen-step : {K : Type 0} (rs : RowsOf K) → AreWhole rs → AllOpen (step param_token rs)
AllOpen-step [] w = tt
AllOpen-step (([], key) ∷ rest) w = AllOpen-step rest w.1
AllOpen-step ((x ∷ u, key) ∷ rest) w =
    elim (eqb x param_token) as (λ v. eqb x param_token ≡ v → AllOpen (cond v ((u, key) ∷ step param_token rest) (step param_token rest))) [
      | true ↦ λ e. (w.0.1 (eqb-true x param_token e), AllOpen-step rest w.1)
      | false ↦ λ e. AllOpen-step rest w.1
    ] refl

whole_of : {K : Type 0} (rs : RowsOf K) (t : List ℕ) (k : K) → AreWhole rs → In t k rs → IsWhole t
whole_of [] t k w h = absurd h
whole_of ((u, key) ∷ rest) t k w h = elim h [ inl p ↦ subst IsWhole p.0 w.0 | inr q ↦ whole_of rest t k w.1 q ]

own_some : {K : Type 0} (rs : RowsOf K) (k : K) → own rs ≡ Some k → In [] k rs
own_some [] k e = absurd (none_some k e)
own_some (([], key) ∷ rest) k e = inl (refl, some_eq key k e)
own_some ((x ∷ t, key) ∷ rest) k e = inr (own_some rest k e)

own_in : {K : Type 0} (rs : RowsOf K) (k : K) → In [] k rs → (j : K) × (own rs ≡ Some j)
own_in [] k h = absurd h
own_in (([], key) ∷ rest) k h = (key, refl)
own_in ((x ∷ t, key) ∷ rest) k h = elim h [ inl p ↦ absurd (cons_nil x t p.0) | inr q ↦ own_in rest k q ]

-- ---- the segment that a parameter takes

has_slash-drop : (p : List ℕ) (n : ℕ) → has_slash p ≡ false → has_slash (drop n p) ≡ false
has_slash-drop p zero h = h
has_slash-drop [] (suc n) h = refl
has_slash-drop (b ∷ p) (suc n) h =
    elim (eqb b slash) as (λ v. cond v true (has_slash p) ≡ false → has_slash (drop n p) ≡ false) [
      | true ↦ λ e. absurd (true≢false e)
      | false ↦ λ e. has_slash-drop p n e
    ] h

has_slash-cut : (part rest : List ℕ) → has_slash (part ++ slash ∷ rest) ≡ true
has_slash-cut [] rest = refl
has_slash-cut (b ∷ part) rest =
    elim (eqb b slash) as (λ v. cond v true (has_slash (part ++ slash ∷ rest)) ≡ true) [ true ↦ refl | false ↦ has_slash-cut part rest ]

segment-plain : (p : List ℕ) → has_slash p ≡ false → segment p ≡ p
segment-plain [] h = refl
segment-plain (b ∷ p) h =
    elim (eqb b slash) as (λ v. cond v true (has_slash p) ≡ false → cond v (b ∷ []) (b ∷ segment p) ≡ b ∷ p) [
      | true ↦ λ e. absurd (true≢false e)
      | false ↦ λ e. ap (λ x. b ∷ x) (segment-plain p e)
    ] h

segment-cut : (part rest : List ℕ) → has_slash part ≡ false → segment (part ++ slash ∷ rest) ≡ part ++ slash ∷ []
segment-cut [] rest h = refl
segment-cut (b ∷ part) rest h =
    elim (eqb b slash) as (λ v. cond v true (has_slash part) ≡ false → cond v (b ∷ []) (b ∷ segment (part ++ slash ∷ rest)) ≡ b ∷ (part ++ slash ∷ [])) [
      | true ↦ λ e. absurd (true≢false e)
      | false ↦ λ e. ap (λ x. b ∷ x) (segment-cut part rest e)
    ] h

no_slash : (ys : List ℕ) → has_slash ys ≡ false → same_text (slash ∷ []) ys ≡ false
no_slash [] h = refl
no_slash (y ∷ ys) h =
    elim (eqb slash y) as (λ v. eqb slash y ≡ v → (v && same_text [] ys) ≡ false) [
      | true ↦ λ e. absurd (true≢false (subst (λ z. has_slash (z ∷ ys) ≡ false) (sym (eqb-true slash y e)) h))
      | false ↦ λ e. refl
    ] refl

cuts-plain : (p : List ℕ) → has_slash p ≡ false → cuts p (slash ∷ []) ≡ false
cuts-plain p h =
    subst (λ v. (ltb 1 (length p) && v) ≡ false)
    (sym (no_slash (drop (length p - 1) p) (has_slash-drop p (length p - 1) h)))
    (and-false (ltb 1 (length p)))

cuts-cut : (part : List ℕ) → 0 < length part → cuts (part ++ slash ∷ []) (slash ∷ []) ≡ true
cuts-cut part some =
    let n : length (part ++ slash ∷ []) - 1 ≡ length part = omega (arith, length-append part (slash ∷ [])) in
    let last : drop (length (part ++ slash ∷ []) - 1) (part ++ slash ∷ []) ≡ slash ∷ [] =
    subst (λ k. drop k (part ++ slash ∷ []) ≡ slash ∷ []) (sym n) (drop-append_seam part (slash ∷ [])) in
    let two : 1 < length (part ++ slash ∷ []) = omega (arith, length-append part (slash ∷ [])) in
    let long : ltb 1 (length (part ++ slash ∷ [])) ≡ true = grind (arith, nat_tests) in
    subst (λ v. (v && same_text (slash ∷ []) (drop (length (part ++ slash ∷ []) - 1) (part ++ slash ∷ []))) ≡ true) (sym long)
    (subst (λ d. same_text (slash ∷ []) d ≡ true) (sym last) refl)

-- ---- the suffix after a parameter: none, or a slash

longest-plain : {K : Type 0} (seg : List ℕ) (rs : RowsOf K) → cuts seg (slash ∷ []) ≡ false → AllOpen rs → longest_from seg [] rs ≡ []
longest-plain seg [] h o = refl
longest-plain seg (([], k) ∷ rest) h o = longest-plain seg rest h o.1
longest-plain seg ((x ∷ t, k) ∷ rest) h o =
    subst (λ y. longest_from seg (better seg [] (segment (y ∷ t))) rest ≡ []) (sym o.0)
    (subst (λ v. longest_from seg (cond v (slash ∷ []) []) rest ≡ []) (sym h) (longest-plain seg rest h o.1))

longest-kept : {K : Type 0} (seg : List ℕ) (rs : RowsOf K) → AllOpen rs → longest_from seg (slash ∷ []) rs ≡ slash ∷ []
longest-kept seg [] o = refl
longest-kept seg (([], k) ∷ rest) o = longest-kept seg rest o.1
longest-kept seg ((x ∷ t, k) ∷ rest) o =
    subst (λ y. longest_from seg (better seg (slash ∷ []) (segment (y ∷ t))) rest ≡ slash ∷ []) (sym o.0) (longest-kept seg rest o.1)

longest-cut : {K : Type 0} (seg : List ℕ) (rs : RowsOf K) (t : List ℕ) (k : K)
    → cuts seg (slash ∷ []) ≡ true → AllOpen rs → In (slash ∷ t) k rs → longest_from seg [] rs ≡ slash ∷ []
longest-cut seg [] t k h o i = absurd i
longest-cut seg (([], key) ∷ rest) t k h o i = elim i [ inl p ↦ absurd (nil_cons slash t p.0) | inr q ↦ longest-cut seg rest t k h o.1 q ]
longest-cut seg ((x ∷ u, key) ∷ rest) t k h o i =
    subst (λ y. longest_from seg (better seg [] (segment (y ∷ u))) rest ≡ slash ∷ []) (sym o.0)
    (subst (λ v. longest_from seg (cond v (slash ∷ []) []) rest ≡ slash ∷ []) (sym h) (longest-kept seg rest o.1))

longest-cases : {K : Type 0} (seg : List ℕ) (rs : RowsOf K) → AllOpen rs → (longest_from seg [] rs ≡ []) ⊎ (longest_from seg [] rs ≡ slash ∷ [])
longest-cases seg [] o = inl refl
longest-cases seg (([], key) ∷ rest) o = longest-cases seg rest o.1
longest-cases seg ((x ∷ u, key) ∷ rest) o =
    subst (λ y. (longest_from seg (better seg [] (segment (y ∷ u))) rest ≡ []) ⊎ (longest_from seg (better seg [] (segment (y ∷ u))) rest ≡ slash ∷ []))
    (sym o.0)
    (elim (cuts seg (slash ∷ [])) as (λ v. (longest_from seg (cond v (slash ∷ []) []) rest ≡ [])
    ⊎ (longest_from seg (cond v (slash ∷ []) []) rest ≡ slash ∷ [])) [
      | true ↦ inr (longest-kept seg rest o.1)
      | false ↦ longest-cases seg rest o.1
    ])

in_with : {K : Type 0} (s : List ℕ) (rs : RowsOf K) (t : List ℕ) (k : K) → In t k (with_suffix s rs) → In t k rs
in_with s [] t k h = h
in_with s ((u, key) ∷ rest) t k h =
    elim (same_text (segment u) s) as (λ v. In t k (cond v ((u, key) ∷ with_suffix s rest) (with_suffix s rest)) → In t k ((u, key) ∷ rest)) [
      | true ↦ λ g. elim g [ inl p ↦ inl p | inr q ↦ inr (in_with s rest t k q) ]
      | false ↦ λ g. inr (in_with s rest t k g)
    ] h

with_in : {K : Type 0} (rs : RowsOf K) (t : List ℕ) (k : K) → In (slash ∷ t) k rs → In (slash ∷ t) k (with_suffix (slash ∷ []) rs)
with_in [] t k h = h
with_in ((u, key) ∷ rest) t k h =
    elim h [
      | inl p ↦ subst (λ w. In (slash ∷ t) k (cond (same_text (segment w) (slash ∷ [])) ((w, key) ∷ with_suffix (slash ∷ []) rest)
          (with_suffix (slash ∷ []) rest))) (sym p.0) (inl (refl, p.1))
      | inr q ↦ elim (same_text (segment u) (slash ∷ [])) as
          (λ v. In (slash ∷ t) k (cond v ((u, key) ∷ with_suffix (slash ∷ []) rest) (with_suffix (slash ∷ []) rest))) [
            | true ↦ inr (with_in rest t k q)
            | false ↦ with_in rest t k q
          ]
    ]

AreWhole-with : {K : Type 0} (s : List ℕ) (rs : RowsOf K) → AreWhole rs → AreWhole (with_suffix s rs)
AreWhole-with s [] w = tt
AreWhole-with s ((u, key) ∷ rest) w =
    elim (same_text (segment u) s) as (λ v. AreWhole (cond v ((u, key) ∷ with_suffix s rest) (with_suffix s rest))) [
      | true ↦ (w.0, AreWhole-with s rest w.1)
      | false ↦ AreWhole-with s rest w.1
    ]

-- ---- what a parameter takes

abbrev After : {K : Type 0} → RowsOf K → List ℕ → List ℕ → ℕ × RowsOf K
After {K} rs path longest =
    cond {A = ℕ × RowsOf K} (ltb 0 (length longest)) (length (segment path) - length longest, with_suffix longest rs)
    (cond {A = ℕ × RowsOf K} (has_slash path) (0, []) (length path, rs))

param_step-is : {K : Type 0} (rs : RowsOf K) (path : List ℕ) → param_step rs path ≡ After rs path (longest_from (segment path) [] rs)
unfolding param_step
param_step-is rs path = refl

param_step-plain : {K : Type 0} (rs : RowsOf K) (path : List ℕ) → AllOpen rs → has_slash path ≡ false → param_step rs path ≡ (length path, rs)
param_step-plain {K} rs path o h =
    let none : longest_from (segment path) [] rs ≡ [] =
    subst (λ s. longest_from s [] rs ≡ []) (sym (segment-plain path h)) (longest-plain path rs (cuts-plain path h) o) in
    param_step-is rs path ∙ ap (λ l. After rs path l) none ∙ ap (λ v. cond {A = ℕ × RowsOf K} v (0, []) (length path, rs)) h

param_step-none : {K : Type 0} (rs : RowsOf K) (path : List ℕ) → has_slash path ≡ true → longest_from (segment path) [] rs ≡ [] → param_step rs path ≡ (0, [])
param_step-none {K} rs path h none =
    param_step-is rs path ∙ ap (λ l. After rs path l) none ∙ ap (λ v. cond {A = ℕ × RowsOf K} v (0, []) (length path, rs)) h

param_step-cut : {K : Type 0} (rs : RowsOf K) (part rest : List ℕ) → has_slash part ≡ false
    → longest_from (segment (part ++ slash ∷ rest)) [] rs ≡ slash ∷ []
    → param_step rs (part ++ slash ∷ rest) ≡ (length part, with_suffix (slash ∷ []) rs)
param_step-cut {K} rs part rest h slashed =
    let n : length (segment (part ++ slash ∷ rest)) - 1 ≡ length part =
    subst (λ s. length s - 1 ≡ length part) (sym (segment-cut part rest h)) (omega (arith, length-append part (slash ∷ []))) in
    param_step-is rs (part ++ slash ∷ rest) ∙ ap (λ l. After rs (part ++ slash ∷ rest) l) slashed
    ∙ ap (λ k. let r : ℕ × RowsOf K = (k, with_suffix (slash ∷ []) rs) in r) n

-- ---- a walk

seek-all : {K : Type 0} (p : List ℕ) (rs : RowsOf K) → seek (length p) rs p ≡ own rs
unfolding seek
seek-all [] rs = refl
seek-all (b ∷ p) rs = seek-all p rs

or_else_cases : {K : Type 0} (a b : Option K) (k : K) → or_else a b ≡ Some k → (a ≡ Some k) ⊎ (b ≡ Some k)
or_else_cases None b k h = inr h
or_else_cases (Some j) b k h = inl h

or_else_some : {K : Type 0} (a b : Option K) (j : K) → b ≡ Some j → (i : K) × (or_else a b ≡ Some i)
or_else_some None b j h = (j, h)
or_else_some (Some i) b j h = (i, refl)

or_else_first : {K : Type 0} (a b : Option K) (j : K) → a ≡ Some j → or_else a b ≡ Some j
or_else_first None b j h = absurd (none_some j h)
or_else_first (Some i) b j h = h

param_step-empty : {K : Type 0} (path : List ℕ) → (param_step {K = K} [] path).1 ≡ []
param_step-empty {K} path =
    ap (λ r. r.1) (param_step-is {K = K} [] path)
    ∙ elim (has_slash path) as (λ v. (cond {A = ℕ × RowsOf K} v (0, []) (length path, [])).1 ≡ []) [ true ↦ refl | false ↦ refl ]

seek-none : {K : Type 0} (p : List ℕ) (n : ℕ) (k : K) → seek n [] p ≡ Some k → ⊥
unfolding seek
seek-none [] n k h = none_some k h
seek-none (b ∷ p) (suc n) k h = seek-none p n k h
seek-none {K} (b ∷ p) zero k h =
    let rest = param_step {K = K} [] (b ∷ p) in
    elim (or_else_cases (seek 0 [] p) (or_else (seek (rest.0 - 1) rest.1 p) None) k h) [
      | inl at_once ↦ seek-none p 0 k at_once
      | inr second ↦ elim (or_else_cases (seek (rest.0 - 1) rest.1 p) None k second) [
        | inl after ↦ seek-none p (rest.0 - 1) k (subst (λ rs. seek (rest.0 - 1) rs p ≡ Some k) (param_step-empty {K = K} (b ∷ p)) after)
        | inr none ↦ none_some k none
      ]
    ]

-- ---- the route that is found matches

pub matches-byte : (b : ℕ) (t p : List ℕ) → Matches t p → Matches (b ∷ t) (b ∷ p)
matches-byte b t p m =
    elim (eqb b param_token) as (λ v. eqb b param_token ≡ v → MatchBool v
    ((part : List ℕ) × (rest : List ℕ) × (b ∷ p ≡ part ++ rest) × (0 < length part) × (has_slash part ≡ false) × Matches t rest)
    ((rest : List ℕ) × (b ∷ p ≡ b ∷ rest) × Matches t rest)) [
      | true ↦ λ e. (b ∷ [], p, refl, omega arith, subst (λ x. has_slash (x ∷ []) ≡ false) (sym (eqb-true b param_token e)) refl, m)
      | false ↦ λ e. (p, refl, m)
    ] refl

pub matches-part : (part rest t path : List ℕ) → path ≡ part ++ rest → 0 < length part → has_slash part ≡ false → Matches t rest →
    Matches (param_token ∷ t) path
matches-part part rest t path e some h m = (part, rest, e, some, h, m)

found-byte : {K : Type 0} (b : ℕ) (p : List ℕ) (rs : RowsOf K) (k : K) → Found (step b rs) k p → Found rs k (b ∷ p)
found-byte b p rs k f = (b ∷ f.0, in_step b rs f.0 k f.1, matches-byte b f.0 p f.2)

nonempty : {A : Type 0} (b : A) (p : List A) → 0 < length (b ∷ p)
nonempty b p = omega arith

less_one : (b : ℕ) (p : List ℕ) → length (b ∷ p) - 1 ≡ length p
less_one b p = omega arith

pub append_nil : (p : List ℕ) → p ≡ p ++ []
append_nil [] = refl
append_nil (b ∷ p) = ap (λ x. b ∷ x) (append_nil p)

-- the rest of the path is the part
found-plain : {K : Type 0} (b : ℕ) (p : List ℕ) (rs : RowsOf K) (k : K) → has_slash (b ∷ p) ≡ false → In [] k (step param_token rs) → Found rs k (b ∷ p)
found-plain b p rs k h i =
    (param_token ∷ [], in_step param_token rs [] k i, matches-part (b ∷ p) [] [] (b ∷ p) (append_nil (b ∷ p)) (nonempty b p) h refl)

-- what a walk answers after a parameter
abbrev Walk : {K : Type 0} → ℕ × RowsOf K → List ℕ → K → Type 0
Walk r p k = seek (r.0 - 1) r.1 p ≡ Some k

abbrev Sound : Type 0 → List ℕ → Type 0
Sound K p = (n : ℕ) (rs : RowsOf K) → AreWhole rs → (k : K) → seek n rs p ≡ Some k → Found rs k (drop n p)

sound-plain : {K : Type 0} (b : ℕ) (p : List ℕ) (rs : RowsOf K) (k : K) → AreWhole rs → has_slash (b ∷ p) ≡ false
    → Walk (param_step (step param_token rs) (b ∷ p)) p k → Found rs k (b ∷ p)
sound-plain b p rs k w h s =
    let all = subst (λ r. Walk r p k) (param_step-plain (step param_token rs) (b ∷ p) (AllOpen-step rs w) h) s in
    let all = subst (λ n. seek n (step param_token rs) p ≡ Some k) (less_one b p) all in
    let own_is : own (step param_token rs) ≡ Some k = sym (seek-all p (step param_token rs)) ∙ all in
    found-plain b p rs k h (own_some (step param_token rs) k own_is)

sound-cut : {K : Type 0} (b : ℕ) (part rest : List ℕ) (rs : RowsOf K) (k : K) → AreWhole rs → has_slash (b ∷ part) ≡ false
    → Sound K (part ++ slash ∷ rest)
    → Walk (param_step (step param_token rs) (b ∷ part ++ slash ∷ rest)) (part ++ slash ∷ rest) k → Found rs k (b ∷ part ++ slash ∷ rest)
sound-cut {K} b part rest rs k w h ih s =
    let rows = step param_token rs in
    let p = part ++ slash ∷ rest in
    elim (longest-cases (segment (b ∷ p)) rows (AllOpen-step rs w)) [
      | inl none ↦ absurd (seek-none p 0 k (subst (λ r. Walk r p k) (param_step-none rows (b ∷ p) (has_slash-cut (b ∷ part) rest) none) s))
      | inr slashed ↦
          let after = subst (λ r. Walk r p k) (param_step-cut rows (b ∷ part) rest h slashed) s in
          let f = ih (length part) (with_suffix (slash ∷ []) rows) (AreWhole-with (slash ∷ []) rows (AreWhole-step param_token rs w)) k
          (subst (λ n. seek n (with_suffix (slash ∷ []) rows) p ≡ Some k) (less_one b part) after) in (
            param_token ∷ f.0,
            in_step param_token rs f.0 k (in_with (slash ∷ []) rows f.0 k f.1),
            matches-part (b ∷ part) (slash ∷ rest) f.0 (b ∷ p) refl (nonempty b part) h (subst (Matches f.0) (drop-append_seam part (slash ∷ rest)) f.2),
          )
    ]

-- a parameter is not empty
sound-empty : {K : Type 0} (rest : List ℕ) (rs : RowsOf K) (k : K) → AreWhole rs
    → Walk (param_step (step param_token rs) (slash ∷ rest)) rest k → ⊥
sound-empty rest rs k w s =
    seek-none rest 0 k (subst (λ r. Walk r rest k) (param_step-none (step param_token rs) (slash ∷ rest) refl
    (longest-plain (slash ∷ []) (step param_token rs) refl (AllOpen-step rs w))) s)

sound-param : {K : Type 0} (b : ℕ) (p : List ℕ) (rs : RowsOf K) (k : K) → AreWhole rs → Sound K p
    → Walk (param_step (step param_token rs) (b ∷ p)) p k → Found rs k (b ∷ p)
sound-param {K} b p rs k w ih s = by (cuts_of (b ∷ p))
  where
    by : Cuts (b ∷ p) → Found rs k (b ∷ p)
    by (plain h) = sound-plain b p rs k w h s
    by (cut [] rest q h) =
        let same : p ≡ rest = tail_eq b slash p rest q in
        let head : b ≡ slash = head_eq b slash p rest q in
        absurd (sound-empty rest rs k w
        (subst (λ x. Walk (param_step (step param_token rs) x) rest k) (cons_eq b slash rest rest head refl)
        (subst (λ x. Walk (param_step (step param_token rs) (b ∷ x)) x k) same s)))
    by (cut (c ∷ part) rest q h) =
        let same : p ≡ part ++ slash ∷ rest = tail_eq b c p (part ++ slash ∷ rest) q in
        let head : c ≡ b = sym (head_eq b c p (part ++ slash ∷ rest) q) in
        subst (λ x. Found rs k (b ∷ x)) (sym same)
        (sound-cut b part rest rs k w (subst (λ x. has_slash (x ∷ part) ≡ false) head h)
        (subst (λ x. Sound K x) same ih)
        (subst (λ x. Walk (param_step (step param_token rs) (b ∷ x)) x k) same s))

sound-zero : {K : Type 0} (b : ℕ) (p : List ℕ) (rs : RowsOf K) (k : K) → AreWhole rs → Sound K p → seek 0 rs (b ∷ p) ≡ Some k → Found rs k (b ∷ p)
unfolding seek
sound-zero b p rs k w ih h =
    let rest = param_step (step param_token rs) (b ∷ p) in
    elim (or_else_cases (seek 0 (step b rs) p) (or_else (seek (rest.0 - 1) rest.1 p) (own (step catch_all_token rs))) k h) [
      | inl at_once ↦ found-byte b p rs k (ih 0 (step b rs) (AreWhole-step b rs w) k at_once)
      | inr second ↦ elim (or_else_cases (seek (rest.0 - 1) rest.1 p) (own (step catch_all_token rs)) k second) [
        | inl after ↦ sound-param b p rs k w ih after
        | inr caught ↦ absurd ((whole_of rs (catch_all_token ∷ []) k w (in_step catch_all_token rs [] k (own_some (step catch_all_token rs) k caught))).0 refl)
      ]
    ]

drop_nil : (n : ℕ) → drop {A = ℕ} n [] ≡ []
drop_nil zero = refl
drop_nil (suc n) = refl

pub sound : {K : Type 0} (path : List ℕ) (n : ℕ) (rs : RowsOf K) → AreWhole rs → (k : K) → seek n rs path ≡ Some k → Found rs k (drop n path)
unfolding seek
sound [] n rs w k h = ([], own_some rs k h, drop_nil n)
sound (b ∷ p) (suc n) rs w k h = sound p n rs w k h
sound (b ∷ p) zero rs w k h = sound-zero b p rs k w (λ n rs w k h. sound p n rs w k h) h

-- ---- a route that matches is found

abbrev Complete : Type 0 → List ℕ → Type 0
Complete K p =
    (n : ℕ) (rs : RowsOf K) → AreWhole rs → (t : List ℕ) (k : K) → In t k rs → Matches t (drop n p) → (j : K) × (seek n rs p ≡ Some j)

complete-plain : {K : Type 0} (b : ℕ) (p : List ℕ) (rs : RowsOf K) (k : K) → AreWhole rs → has_slash (b ∷ p) ≡ false
    → In [] k (step param_token rs) → (j : K) × Walk (param_step (step param_token rs) (b ∷ p)) p j
complete-plain b p rs k w h i =
    let o = own_in (step param_token rs) k i in
    let all = subst (λ n. seek n (step param_token rs) p ≡ Some o.0) (sym (less_one b p)) (seek-all p (step param_token rs) ∙ o.1) in
    (o.0, subst (λ r. Walk r p o.0) (sym (param_step-plain (step param_token rs) (b ∷ p) (AllOpen-step rs w) h)) all)

complete-cut : {K : Type 0} (b : ℕ) (part rest : List ℕ) (rs : RowsOf K) (t : List ℕ) (k : K) → AreWhole rs → has_slash (b ∷ part) ≡ false
    → Complete K (part ++ slash ∷ rest) → In (slash ∷ t) k (step param_token rs) → Matches (slash ∷ t) (slash ∷ rest)
    → (j : K) × Walk (param_step (step param_token rs) (b ∷ part ++ slash ∷ rest)) (part ++ slash ∷ rest) j
complete-cut b part rest rs t k w h ih i m =
    let rows = step param_token rs in
    let p = part ++ slash ∷ rest in
    let here : cuts (segment (b ∷ p)) (slash ∷ []) ≡ true =
    subst (λ s. cuts s (slash ∷ []) ≡ true) (sym (segment-cut (b ∷ part) rest h)) (cuts-cut (b ∷ part) (nonempty b part)) in
    let slashed = longest-cut (segment (b ∷ p)) rows t k here (AllOpen-step rs w) i in
    let f = ih (length part) (with_suffix (slash ∷ []) rows) (AreWhole-with (slash ∷ []) rows (AreWhole-step param_token rs w)) (slash ∷ t) k
    (with_in rows t k i) (subst (Matches (slash ∷ t)) (sym (drop-append_seam part (slash ∷ rest))) m) in
    let after = subst (λ n. seek n (with_suffix (slash ∷ []) rows) p ≡ Some f.0) (sym (less_one b part)) f.1 in
    (f.0, subst (λ r. Walk r p f.0) (sym (param_step-cut rows (b ∷ part) rest h slashed)) after)

complete-param : {K : Type 0} (b : ℕ) (p part rest : List ℕ) (rs : RowsOf K) (t : List ℕ) (k : K) → AreWhole rs → Complete K p → Opens t
    → In t k (step param_token rs) → b ∷ p ≡ part ++ rest → 0 < length part → has_slash part ≡ false → Matches t rest
    → (j : K) × Walk (param_step (step param_token rs) (b ∷ p)) p j
complete-param b p [] rest rs t k w ih o i e some h m = absurd (omega arith)
complete-param b p (c ∷ part) rest rs [] k w ih o i e some h m =
    let whole : b ∷ p ≡ c ∷ part = e ∙ ap (λ x. (c ∷ part) ++ x) m ∙ sym (append_nil (c ∷ part)) in
    complete-plain b p rs k w (subst (λ x. has_slash x ≡ false) (sym whole) h) i
complete-param {K} b p (c ∷ part) rest rs (x ∷ t) k w ih o i e some h m =
    let go = subst (λ y. Matches (y ∷ t) rest) o m in
    let tail : p ≡ part ++ slash ∷ go.0 = tail_eq b c p (part ++ rest) e ∙ ap (λ y. part ++ y) go.1 in
    let head : c ≡ b = sym (head_eq b c p (part ++ rest) e) in
    subst (λ y. (j : K) × Walk (param_step (step param_token rs) (b ∷ y)) y j) (sym tail)
    (complete-cut b part go.0 rs t k w (subst (λ y. has_slash (y ∷ part) ≡ false) head h)
    (subst (Complete K) tail ih) (subst (λ y. In (y ∷ t) k (step param_token rs)) o i) (subst (λ y. Matches (slash ∷ t) y) go.1 go))

complete-zero : {K : Type 0} (b : ℕ) (p : List ℕ) (rs : RowsOf K) (t : List ℕ) (k : K) → AreWhole rs → Complete K p → In t k rs → Matches t (b ∷ p)
    → (j : K) × (seek 0 rs (b ∷ p) ≡ Some j)
unfolding seek
complete-zero b p rs [] k w ih i m = absurd (cons_nil b p m)
complete-zero {K} b p rs (x ∷ t) k w ih i m =
    let rest = param_step (step param_token rs) (b ∷ p) in
    let after = or_else (seek (rest.0 - 1) rest.1 p) (own (step catch_all_token rs)) in
    elim (eqb x param_token) as (λ v. eqb x param_token ≡ v → MatchBool v
    ((part : List ℕ) × (rest : List ℕ) × (b ∷ p ≡ part ++ rest) × (0 < length part) × (has_slash part ≡ false) × Matches t rest)
    ((rest : List ℕ) × (b ∷ p ≡ x ∷ rest) × Matches t rest) → (j : K) × (or_else (seek 0 (step b rs) p) after ≡ Some j)) [
      | true ↦ λ e m.
          let is : x ≡ param_token = eqb-true x param_token e in
          let f = complete-param b p m.0 m.1 rs t k w ih ((whole_of rs (x ∷ t) k w i).1 is)
          (step_in param_token rs t k (subst (λ y. In (y ∷ t) k rs) is i)) m.2 m.3 m.4 m.5 in
          or_else_some (seek 0 (step b rs) p) after f.0 (or_else_first (seek (rest.0 - 1) rest.1 p) (own (step catch_all_token rs)) f.0 f.1)
      | false ↦ λ e m.
          let head : x ≡ b = sym (head_eq b x p m.0 m.1) in
          let tail : m.0 ≡ p = sym (tail_eq b x p m.0 m.1) in
          let f = ih 0 (step b rs) (AreWhole-step b rs w) t k (step_in b rs t k (subst (λ y. In (y ∷ t) k rs) head i)) (subst (Matches t) tail m.2) in
          (f.0, or_else_first (seek 0 (step b rs) p) after f.0 f.1)
    ] refl m

complete-nil : {K : Type 0} (rs : RowsOf K) (t : List ℕ) (k : K) → In t k rs → Matches t [] → (j : K) × (own rs ≡ Some j)
complete-nil rs [] k i m = own_in rs k i
complete-nil {K} rs (x ∷ t) k i m =
    elim (eqb x param_token) as (λ v. MatchBool v
    ((part : List ℕ) × (rest : List ℕ) × ([] ≡ part ++ rest) × (0 < length part) × (has_slash part ≡ false) × Matches t rest)
    ((rest : List ℕ) × ([] ≡ x ∷ rest) × Matches t rest) → (j : K) × (own rs ≡ Some j)) [
      | true ↦ λ m. absurd (omega (arith, ap length m.2, length-append m.0 m.1, m.3))
      | false ↦ λ m. absurd (nil_cons x m.0 m.1)
    ] m

pub complete : {K : Type 0} (path : List ℕ) (n : ℕ) (rs : RowsOf K) → AreWhole rs → (t : List ℕ) (k : K) → In t k rs → Matches t (drop n path)
    → (j : K) × (seek n rs path ≡ Some j)
unfolding seek
complete [] n rs w t k i m = complete-nil rs t k i (subst (Matches t) (drop_nil n) m)
complete (b ∷ p) (suc n) rs w t k i m = complete p n rs w t k i m
complete (b ∷ p) zero rs w t k i m = complete-zero b p rs t k w (λ n rs w t k i m. complete p n rs w t k i m) i m
