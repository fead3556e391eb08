-- What the router of the table finds.
use Rattle.std.proofs.Common.{◌≡◌, ◌⊎◌, inl, inr, ℕ, zero, suc, ◌+◌, ◌≤◌, ◌<◌, List, [], ◌∷◌, ◌++◌, length, take, get_or, Option, Some, None, Result, Ok, Err}
use Rattle.std.proofs.Common.{Bool, true, false, ◌&&◌, cond, refl, sym, ap, subst, ◌∙◌, arith, add-one, true≢false}
use Rattle.std.proofs.Math.Seq.{take-suc}
use Rattle.std.proofs.lemmas.Bool.{and_parts}
use Rattle.std.specs.Prelude.{find, option_map}
use Rattle.std.specs.Cmp.Lexicographic.{pointwise}
use Rattle.std.proofs.lemmas.Slice.Eq.{bytes_eq-Decides}
use Rattle.std.specs.Prelude.{bytes_eq}
use Rattle.matchit.specs.Rows.{RowsOf, comes_before}
use Rattle.matchit.specs.Router.{RouteOf, InsertsRead, route_from}
use Rattle.matchit.specs.Order.{placed}
use Rattle.matchit.specs.Route.{Scan, parse_route}
use Rattle.matchit.specs.Seek.{first}
use Rattle.matchit.specs.declared.error.InsertError.{InsertError}
use Rattle.matchit.proofs.OnLiterals.{matchit_on_literals}
use Rattle.ns_request.specs.declared.endpoint.Endpoint.{Endpoint}
use Rattle.ns_request.specs.Parts.{segments_of}
use Rattle.ns_request.specs.Endpoints.{pattern_of, every_endpoint, is_spelled, endpoint_of, fits}
use Rattle.ns_request.specs.Routes.{Serves}
use Rattle.ns_request.proofs.Seeking.{In, AreWhole, IsWhole, Matches, sound, complete}
use Rattle.ns_request.proofs.Spelling.{tokens_of, are_plain, spelled-matches, matches-spelled, IsWhole-tokens, differ, differ-spelled, segments_some}

-- ---- the table's patterns

abbrev words_of : Endpoint → List (List ℕ)
words_of e = segments_of (pattern_of e)

-- the tokens of an endpoint's pattern
abbrev row_of : Endpoint → List ℕ
row_of e = tokens_of (words_of e)

abbrev reads_as : Result Scan InsertError → List ℕ → Bool
reads_as (Ok s) tokens = bytes_eq s.pattern tokens
reads_as (Err e) tokens = false

reads : (e : Endpoint) → reads_as (parse_route (pattern_of e)) (row_of e) ≡ true
unfolding matchit_on_literals
reads Endpoint.Jobs = refl
reads Endpoint.Job = refl
reads Endpoint.JobAllocations = refl
reads Endpoint.JobEvaluations = refl
reads Endpoint.Evaluations = refl
reads Endpoint.Evaluation = refl
reads Endpoint.Allocations = refl
reads Endpoint.Allocation = refl
reads Endpoint.AllocationStop = refl
reads Endpoint.Namespaces = refl
reads Endpoint.NewNamespace = refl
reads Endpoint.Namespace = refl
reads Endpoint.Quotas = refl
reads Endpoint.NewQuota = refl
reads Endpoint.Quota = refl
reads Endpoint.QuotaUsage = refl
reads Endpoint.EventStream = refl
reads Endpoint.Pools = refl
reads Endpoint.Pool = refl
reads Endpoint.PoolNodes = refl
reads Endpoint.Node = refl
reads Endpoint.NodeStatus = refl
reads Endpoint.NodeEligibility = refl
reads Endpoint.NodeReport = refl
reads Endpoint.Policy = refl
reads Endpoint.NewToken = refl
reads Endpoint.Token = refl

plain : (e : Endpoint) → are_plain (words_of e) ≡ true
plain Endpoint.Jobs = refl
plain Endpoint.Job = refl
plain Endpoint.JobAllocations = refl
plain Endpoint.JobEvaluations = refl
plain Endpoint.Evaluations = refl
plain Endpoint.Evaluation = refl
plain Endpoint.Allocations = refl
plain Endpoint.Allocation = refl
plain Endpoint.AllocationStop = refl
plain Endpoint.Namespaces = refl
plain Endpoint.NewNamespace = refl
plain Endpoint.Namespace = refl
plain Endpoint.Quotas = refl
plain Endpoint.NewQuota = refl
plain Endpoint.Quota = refl
plain Endpoint.QuotaUsage = refl
plain Endpoint.EventStream = refl
plain Endpoint.Pools = refl
plain Endpoint.Pool = refl
plain Endpoint.PoolNodes = refl
plain Endpoint.Node = refl
plain Endpoint.NodeStatus = refl
plain Endpoint.NodeEligibility = refl
plain Endpoint.NodeReport = refl
plain Endpoint.Policy = refl
plain Endpoint.NewToken = refl
plain Endpoint.Token = refl

abbrev apart_from : Endpoint → List Endpoint → Bool
apart_from e [] = true
apart_from e (f ∷ others) = differ (words_of e) (words_of f) && apart_from e others

abbrev all_apart : List Endpoint → Bool
all_apart [] = true
all_apart (e ∷ others) = apart_from e others && all_apart others

every_apart : all_apart every_endpoint ≡ true
every_apart = refl

-- ---- of two endpoints no path is both

abbrev pub Has : Endpoint → List Endpoint → Type 0
Has e [] = ⊥
Has e (f ∷ others) = (e ≡ f) ⊎ Has e others

apart-spelled : (e f : Endpoint) (others : List Endpoint) (path : List ℕ) → apart_from e others ≡ true → Has f others
    → is_spelled (pattern_of e) path ≡ true → is_spelled (pattern_of f) path ≡ true → ⊥
apart-spelled e f [] path a h p q = h
apart-spelled e f (g ∷ others) path a h p q =
    let b = and_parts (differ (words_of e) (words_of g)) (apart_from e others) a in
    elim h [
      | inl same ↦ differ-spelled (words_of e) (words_of g) (segments_of path) b.0 p (subst (λ x. is_spelled (pattern_of x) path ≡ true) same q)
      | inr later ↦ apart-spelled e f others path b.1 later p q
    ]

find-spelled : (e : Endpoint) (list : List Endpoint) (path : List ℕ) → all_apart list ≡ true → Has e list → is_spelled (pattern_of e) path ≡ true
    → find (λ f. is_spelled (pattern_of f) path) list ≡ Some e
find-spelled e [] path a h p = absurd h
find-spelled e (f ∷ others) path a h p =
    let b = and_parts (apart_from f others) (all_apart others) a in
    elim (is_spelled (pattern_of f) path) as (λ v. is_spelled (pattern_of f) path ≡ v →
    cond v (Some f) (find (λ g. is_spelled (pattern_of g) path) others) ≡ Some e) [
      | true ↦ λ q. elim h [
        | inl same ↦ ap (λ x. let o : Option Endpoint = Some x in o) (sym same)
        | inr later ↦ absurd (apart-spelled f e others path b.0 later q p)
      ]
      | false ↦ λ q. elim h [
        | inl same ↦ absurd (true≢false (sym p ∙ ap (λ x. is_spelled (pattern_of x) path) same ∙ q))
        | inr later ↦ find-spelled e others path b.1 later p
      ]
    ] refl

spelled-find : (e : Endpoint) (list : List Endpoint) (path : List ℕ) → find (λ f. is_spelled (pattern_of f) path) list ≡ Some e
    → Has e list × (is_spelled (pattern_of e) path ≡ true)
spelled-find e [] path h = let bad : ⊥ = cc in absurd bad
spelled-find e (f ∷ others) path h =
    elim (is_spelled (pattern_of f) path) as (λ v. is_spelled (pattern_of f) path ≡ v →
    cond v (Some f) (find (λ g. is_spelled (pattern_of g) path) others) ≡ Some e
    → Has e (f ∷ others) × (is_spelled (pattern_of e) path ≡ true)) [
      | true ↦ λ q g. let same : f ≡ e = cc in (inl (sym same), subst (λ x. is_spelled (pattern_of x) path ≡ true) same q)
      | false ↦ λ q g. let r = spelled-find e others path g in (inr r.0, r.1)
    ] refl h

-- ---- the rows of a router that has these endpoints

abbrev pub Row : Type 0
Row = RouteOf Endpoint

pub record IsBuilt (rows : RowsOf Row) (done : List Endpoint) : Type 0 where
  pub from_table : (t : List ℕ) (r : Row) → In t r rows → (t ≡ row_of r.value) × Has r.value every_endpoint
  pub has_each : (e : Endpoint) → Has e done → (r : Row) × In (row_of e) r rows × (r.value ≡ e)

pub built-none : (rows : RowsOf Row) → rows ≡ [] → IsBuilt rows []
built-none rows e = subst (λ x. IsBuilt x []) (sym e) (record { from_table = λ t r i. absurd i; has_each = λ e h. absurd h })

in_placed : (p : List ℕ) (r : Row) (rows : RowsOf Row) (t : List ℕ) (s : Row) → In t s (placed (p, r) rows) → ((p ≡ t) × (r ≡ s)) ⊎ In t s rows
in_placed p r [] t s i = i
in_placed p r ((u, key) ∷ rest) t s i =
    elim (comes_before p u) as (λ v. In t s (cond v ((p, r) ∷ (u, key) ∷ rest) ((u, key) ∷ placed (p, r) rest)) → ((p ≡ t) × (r ≡ s))
    ⊎ In t s ((u, key) ∷ rest)) [
      | true ↦ λ j. j
      | false ↦ λ j. elim j [
        | inl here ↦ inr (inl here)
        | inr later ↦ elim (in_placed p r rest t s later) [ inl new ↦ inl new | inr old ↦ inr (inr old) ]
      ]
    ] i

placed_new : (p : List ℕ) (r : Row) (rows : RowsOf Row) → In p r (placed (p, r) rows)
placed_new p r [] = inl (refl, refl)
placed_new p r ((u, key) ∷ rest) =
    elim (comes_before p u) as (λ v. In p r (cond v ((p, r) ∷ (u, key) ∷ rest) ((u, key) ∷ placed (p, r) rest))) [
      | true ↦ inl (refl, refl)
      | false ↦ inr (placed_new p r rest)
    ]

placed_old : (p : List ℕ) (r : Row) (rows : RowsOf Row) (t : List ℕ) (s : Row) → In t s rows → In t s (placed (p, r) rows)
placed_old p r [] t s i = absurd i
placed_old p r ((u, key) ∷ rest) t s i =
    elim (comes_before p u) as (λ v. In t s (cond v ((p, r) ∷ (u, key) ∷ rest) ((u, key) ∷ placed (p, r) rest))) [
      | true ↦ inr i
      | false ↦ elim i [ inl here ↦ inl here | inr later ↦ inr (placed_old p r rest t s later) ]
    ]

has_last : (e f : Endpoint) (done : List Endpoint) → Has e (done ++ f ∷ []) → Has e done ⊎ (e ≡ f)
has_last e f [] h = elim h [ inl same ↦ inr same | inr none ↦ absurd none ]
has_last e f (g ∷ done) h = elim h [ inl same ↦ inl (inl same) | inr later ↦ elim (has_last e f done later) [ inl old ↦ inl (inr old) | inr new ↦ inr new ] ]

built-placed : (rows : RowsOf Row) (done : List Endpoint) (e : Endpoint) (r : Row) → IsBuilt rows done → Has e every_endpoint → r.value ≡ e
    → IsBuilt (placed (row_of e, r) rows) (done ++ e ∷ [])
built-placed rows done e r b h v = record {
  from_table = λ t s i. elim (in_placed (row_of e) r rows t s i) [
    | inl new ↦ (
      sym new.0 ∙ ap (λ x. row_of x) (sym v ∙ ap (λ x. x.value) new.1),
      subst (λ x. Has x every_endpoint) (sym v ∙ ap (λ x. x.value) new.1) h,
    )
    | inr old ↦ b.from_table t s old
  ];
  has_each = λ f g. elim (has_last f e done g) [
    | inl old ↦ let x = b.has_each f old in (x.0, placed_old (row_of e) r rows (row_of f) x.0 x.1, x.2)
    | inr new ↦ (r, subst (λ x. In (row_of x) r (placed (row_of e, r) rows)) (sym new) (placed_new (row_of e) r rows), v ∙ sym new)
  ];
}

built-inserted : (read : Result Scan InsertError) (rows new : RowsOf Row) (done : List Endpoint) (e : Endpoint) (u : Unit {0}) → reads_as read (row_of e) ≡ true
    → InsertsRead read e rows new (Ok u) → IsBuilt rows done → Has e every_endpoint → IsBuilt new (done ++ e ∷ [])
built-inserted (Err x) rows new done e u k i b h = absurd (true≢false (sym k))
built-inserted (Ok s) rows new done e u k i b h =
    let same : s.pattern ≡ row_of e = (bytes_eq-Decides s.pattern (row_of e)).0 k in
    subst (λ x. IsBuilt x (done ++ e ∷ [])) (sym (i.1 ∙ ap (λ p. placed (p, route_from s e) rows) same))
    (built-placed rows done e (route_from s e) b h refl)

pub built-more : (rows new : RowsOf Row) (done : List Endpoint) (e : Endpoint) (u : Unit {0}) → InsertsRead (parse_route (pattern_of e)) e rows new (Ok u)
    → IsBuilt rows done → Has e every_endpoint → IsBuilt new (done ++ e ∷ [])
built-more rows new done e u i b h = built-inserted (parse_route (pattern_of e)) rows new done e u (reads e) i b h

-- ---- such a router serves

AreWhole-from : (rows : RowsOf Row) → ((t : List ℕ) (r : Row) → In t r rows → IsWhole t) → AreWhole rows
AreWhole-from [] h = tt
AreWhole-from ((t, r) ∷ rest) h = (h t r (inl (refl, refl)), AreWhole-from rest (λ u s i. h u s (inr i)))

whole : (rows : RowsOf Row) → IsBuilt rows every_endpoint → AreWhole rows
whole rows b = AreWhole-from rows (λ t r i. subst IsWhole (sym (b.from_table t r i).0) (IsWhole-tokens (words_of r.value) (plain r.value)))

matches_endpoint : (e : Endpoint) (path : List ℕ) → Matches (row_of e) path → is_spelled (pattern_of e) path ≡ true
matches_endpoint e path m =
    let some = segments_some (pattern_of e) in
    subst (λ words. pointwise fits words (segments_of path) ≡ true) (sym some.2)
    (matches-spelled some.0 some.1 path (subst (λ words. are_plain words ≡ true) some.2 (plain e)) (subst (λ words. Matches (tokens_of words) path) some.2 m))

serves_some : (rows : RowsOf Row) (path : List ℕ) (r : Row) → IsBuilt rows every_endpoint → first rows path ≡ Some r → Some r.value ≡ endpoint_of path
unfolding endpoint_of
serves_some rows path r b e =
    let f = sound path 0 rows (whole rows b) r e in
    let t = b.from_table f.0 r f.1 in
    sym (find-spelled r.value every_endpoint path every_apart t.1 (matches_endpoint r.value path (subst (λ x. Matches x path) t.0 f.2)))

serves_none : (rows : RowsOf Row) (path : List ℕ) (o : Option Endpoint) → IsBuilt rows every_endpoint → first rows path ≡ None → endpoint_of path ≡ o → None ≡ o
unfolding endpoint_of
serves_none rows path None b e h = refl
serves_none rows path (Some f) b e h =
    let s = spelled-find f every_endpoint path h in
    let r = b.has_each f s.0 in
    let c = complete path 0 rows (whole rows b) (row_of f) r.0 r.1 (spelled-matches (words_of f) path s.1) in
    let none = sym e ∙ c.1 in
    let bad : ⊥ = cc in absurd bad

pub serves : (rows : RowsOf Row) → IsBuilt rows every_endpoint → Serves rows
serves rows b path = by (first rows path) refl
  where
    by : (o : Option Row) → first rows path ≡ o → option_map (λ route. route.value) o ≡ endpoint_of path
    by None e = serves_none rows path (endpoint_of path) b e refl
    by (Some r) e = serves_some rows path r b e

at_place : (e : Endpoint) (i : ℕ) (list : List Endpoint) → i < length list → Has (get_or list i e) list
at_place e i [] h = absurd (omega arith)
at_place e zero (f ∷ others) h = inl refl
at_place e (suc i) (f ∷ others) h = inr (at_place e i others (omega arith))

get_or-same : (d e : Endpoint) (i : ℕ) (list : List Endpoint) → i < length list → get_or list i d ≡ get_or list i e
get_or-same d e i [] h = absurd (omega arith)
get_or-same d e zero (f ∷ others) h = refl
get_or-same d e (suc i) (f ∷ others) h = get_or-same d e i others (omega arith)

-- what is read at a place is there
pub same_place : (i : ℕ) → i < 27 → get_or every_endpoint i Endpoint.Jobs ≡ get_or every_endpoint i (get_or every_endpoint i Endpoint.Jobs)
same_place i h = get_or-same Endpoint.Jobs (get_or every_endpoint i Endpoint.Jobs) i every_endpoint h

take_next : (e : Endpoint) (i : ℕ) (list : List Endpoint) → i < length list → take (i + 1) list ≡ take i list ++ get_or list i e ∷ []
take_next e i list h = rw add-one (take-suc list i e h)

take_all : (i : ℕ) (list : List Endpoint) → length list ≤ i → take i list ≡ list
take_all zero [] h = refl
take_all zero (f ∷ others) h = absurd (omega arith)
take_all (suc i) [] h = refl
take_all (suc i) (f ∷ others) h = ap (λ x. f ∷ x) (take_all i others (omega arith))

-- the next endpoint of the table
pub built-next : (rows new : RowsOf Row) (i : ℕ) (text : List ℕ) (e : Endpoint) (r : Result (Unit {0}) InsertError) (u : Unit {0})
    → InsertsRead (parse_route text) e rows new r → text ≡ pattern_of e → r ≡ Ok u → i < 27 → e ≡ get_or every_endpoint i e
    → IsBuilt rows (take i every_endpoint) → IsBuilt new (take (i + 1) every_endpoint)
built-next rows new i text e r u inserts is_text ok within is b =
    let inserted = subst (λ x. InsertsRead (parse_route x) e rows new (Ok u)) is_text (subst (λ x. InsertsRead (parse_route text) e rows new x) ok inserts) in
    let has = subst (λ x. Has x every_endpoint) (sym is) (at_place e i every_endpoint within) in
    let more = built-more rows new (take i every_endpoint) e u inserted b has in
    subst (λ done. IsBuilt new done) (ap (λ x. take i every_endpoint ++ x ∷ []) is ∙ sym (take_next e i every_endpoint within)) more

pub built_all : (rows : RowsOf Row) (i : ℕ) → 27 ≤ i → IsBuilt rows (take i every_endpoint) → Serves rows
built_all rows i all b = serves rows (subst (λ done. IsBuilt rows done) (take_all i every_endpoint all) b)
