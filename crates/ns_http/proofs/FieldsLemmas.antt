-- What one more field of a head changes.
use Rattle.std.proofs.Common.{
  ◌≡◌,
  ℕ,
  Bool,
  true,
  false,
  ◌&&◌,
  ◌||◌,
  List,
  [],
  ◌∷◌,
  ◌++◌,
  map,
  length,
  get_or,
  take,
  refl,
  sym,
  ap,
  ◌∙◌,
  subst,
  inl,
  inr,
  ◌+◌,
  ◌<◌,
  arith,
}
use Rattle.std.specs.Prelude.{codes, ◌==◌, ◌≢◌}
use Rattle.std.specs.Char.{to_ascii_lowercase}
use Rattle.std.specs.List.{list_any}
use Rattle.std.proofs.lemmas.Bool.{cases_Bool, cond-true, cond-false, ne_eqb}
use Rattle.std.proofs.lemmas.List.{append-nil, length-map, map-append, take_more}
use Rattle.std.proofs.lemmas.List.Folds.{list_any-append}
use Rattle.std.proofs.lemmas.Slice.Eq.{bytes_eq-Decides}
use Rattle.httparse.specs.declared.spans.HeaderSpan.{HeaderSpan}
use Rattle.httparse.specs.Spans.{header_bytes}
use Rattle.ns_types.specs.Wire.Http.{Header, eq_ignore_case, lists_close, values_named}
use Rattle.ns_http.specs.declared.header.Fields.{Fields}
use Rattle.ns_http.specs.declared.header.HeaderValues.{HeaderValues}
use Rattle.ns_http.specs.Fields.{AreFieldsOf, is_closing}
use Rattle.ns_http.specs.Values.{IsSummaryOf}
use Rattle.ns_http.proofs.TextLemmas.{values_named-push}

-- texts that are equal without regard to case are of one length
same_length : (t name : List ℕ) → eq_ignore_case t name ≡ true → length t ≡ length name
unfolding eq_ignore_case
same_length t name is =
    sym (length-map t to_ascii_lowercase)
    ∙ ap length ((bytes_eq-Decides (map to_ascii_lowercase t) (map to_ascii_lowercase name)).0 is) ∙ length-map name to_ascii_lowercase

-- so what has one name has no name of another length
pub other_name : (t name other : List ℕ) → eq_ignore_case t name ≡ true → (length name ≡ length other → ⊥) → eq_ignore_case t other ≡ false
other_name t name other is apart = elim (cases_Bool (eq_ignore_case t other)) [
  | inl same ↦ absurd (apart (sym (same_length t name is) ∙ same_length t other same))
  | inr not ↦ not
]

or_false : (b : Bool) → (b || false) ≡ b
or_false true = refl
or_false false = refl

-- what a value of a name, or another field, changes of the values of that name
abbrev pub Adds : Bool → HeaderValues → HeaderValues → List ℕ → Type 0
Adds true old new value = (values : List (List ℕ)) → IsSummaryOf old values → IsSummaryOf new (values ++ value ∷ [])
Adds false old new value = new ≡ old

summary_more : (name : List ℕ) (hs : List Header) (h : Header) (b : Bool) (old new : HeaderValues) → eq_ignore_case h.0 name ≡ b → Adds b old new h.1 →
    IsSummaryOf old (values_named name hs) → IsSummaryOf new (values_named name (hs ++ h ∷ []))
summary_more name hs h true old new is adds kept =
    subst (IsSummaryOf new) (sym (values_named-push name hs h ∙ ap (λ l. values_named name hs ++ l) (cond-true _ _ _ is))) (adds (values_named name hs) kept)
summary_more name hs h false old new is same kept =
    subst (IsSummaryOf new) (sym (values_named-push name hs h ∙ ap (λ l. values_named name hs ++ l) (cond-false _ _ _ is) ∙ append-nil (values_named name hs)))
    (subst (λ v. IsSummaryOf v (values_named name hs)) (sym same) kept)

-- one more field, by whether it has each of the names
pub fields_more : (old new : Fields) (h : Header) (length_test coding_test token_test : Bool) →
    eq_ignore_case h.0 (codes "content-length") ≡ length_test → eq_ignore_case h.0 (codes "transfer-encoding") ≡ coding_test →
    eq_ignore_case h.0 (codes "x-nomad-token") ≡ token_test →
    Adds length_test old.lengths new.lengths h.1 → Adds coding_test old.codings new.codings h.1 → Adds token_test old.tokens new.tokens h.1 →
    new.closes ≡ (old.closes || is_closing h) → (headers : List Header) → AreFieldsOf old headers → AreFieldsOf new (headers ++ h ∷ [])
fields_more old new h t u v is_length is_coding is_token lengths codings tokens closes headers kept = record {
  lengths = summary_more (codes "content-length") headers h t old.lengths new.lengths is_length lengths kept.lengths;
  codings = summary_more (codes "transfer-encoding") headers h u old.codings new.codings is_coding codings kept.codings;
  tokens = summary_more (codes "x-nomad-token") headers h v old.tokens new.tokens is_token tokens kept.tokens;
  closes = closes ∙ ap (λ b. b || is_closing h) kept.closes
      ∙ sym (list_any-append is_closing headers (h ∷ []) ∙ ap (λ b. list_any is_closing headers || b) (or_false (is_closing h)));
}

-- a field with another name closes nothing
pub closes_as_before : (h : Header) (b : Bool) → eq_ignore_case h.0 (codes "connection") ≡ false → b ≡ (b || is_closing h)
closes_as_before h b not = sym (ap (λ t. b || (t && lists_close h.1)) not ∙ or_false b)

-- a head of HTTP/1.1
pub closes_by_fields : (minor : ℕ) (b any : Bool) → minor ≢ 0 → b ≡ any → b ≡ ((minor == 0) || any)
closes_by_fields minor b any not is = is ∙ ap (λ t. t || any) (sym (ne_eqb minor 0 not))

-- the fields up to the next
pub next_field : (buf : List ℕ) (headers : List HeaderSpan) (i : ℕ) (d : HeaderSpan) → i < length headers →
    map (header_bytes buf) (take (i + 1) headers) ≡ map (header_bytes buf) (take i headers) ++ header_bytes buf (get_or headers i d) ∷ []
next_field buf headers i d inside =
    ap (map (header_bytes buf)) (take_more headers i d inside) ∙ map-append (header_bytes buf) (take i headers) (get_or headers i d ∷ [])

-- ---- one more field, by its name

pub one_length : (old : Fields) (values : HeaderValues) (name value : List ℕ) → eq_ignore_case name (codes "content-length") ≡ true →
    Adds true old.lengths values value → (headers : List Header) → AreFieldsOf old headers →
    AreFieldsOf (record old { lengths = values }) (headers ++ (name, value) ∷ [])
one_length old values name value is adds =
    let h : Header = (name, value) in
    let coding : 14 ≡ 17 → ⊥ = λ (e : 14 ≡ 17). omega (arith, e) in
    let token : 14 ≡ 13 → ⊥ = λ (e : 14 ≡ 13). omega (arith, e) in
    let connection : 14 ≡ 10 → ⊥ = λ (e : 14 ≡ 10). omega (arith, e) in
    let named = codes "content-length" in
    fields_more old (record old { lengths = values }) h true false false is (other_name name named (codes "transfer-encoding") is coding)
    (other_name name named (codes "x-nomad-token") is token) adds refl refl
    (closes_as_before h old.closes (other_name name named (codes "connection") is connection))

pub one_coding : (old : Fields) (values : HeaderValues) (name value : List ℕ) → eq_ignore_case name (codes "content-length") ≡ false →
    eq_ignore_case name (codes "transfer-encoding") ≡ true → Adds true old.codings values value → (headers : List Header) → AreFieldsOf old headers →
    AreFieldsOf (record old { codings = values }) (headers ++ (name, value) ∷ [])
one_coding old values name value no_length is adds =
    let h : Header = (name, value) in
    let token : 17 ≡ 13 → ⊥ = λ (e : 17 ≡ 13). omega (arith, e) in
    let connection : 17 ≡ 10 → ⊥ = λ (e : 17 ≡ 10). omega (arith, e) in
    let named = codes "transfer-encoding" in
    fields_more old (record old { codings = values }) h false true false no_length is
    (other_name name named (codes "x-nomad-token") is token) refl adds refl
    (closes_as_before h old.closes (other_name name named (codes "connection") is connection))

pub one_token : (old : Fields) (values : HeaderValues) (name value : List ℕ) → eq_ignore_case name (codes "content-length") ≡ false →
    eq_ignore_case name (codes "transfer-encoding") ≡ false → eq_ignore_case name (codes "x-nomad-token") ≡ true →
    Adds true old.tokens values value → (headers : List Header) → AreFieldsOf old headers →
    AreFieldsOf (record old { tokens = values }) (headers ++ (name, value) ∷ [])
one_token old values name value no_length no_coding is adds =
    let h : Header = (name, value) in
    let connection : 13 ≡ 10 → ⊥ = λ (e : 13 ≡ 10). omega (arith, e) in
    fields_more old (record old { tokens = values }) h false false true no_length no_coding is refl refl adds
    (closes_as_before h old.closes (other_name name (codes "x-nomad-token") (codes "connection") is connection))

pub one_connection : (old : Fields) (listed : Bool) (name value : List ℕ) → eq_ignore_case name (codes "content-length") ≡ false →
    eq_ignore_case name (codes "transfer-encoding") ≡ false → eq_ignore_case name (codes "x-nomad-token") ≡ false →
    eq_ignore_case name (codes "connection") ≡ true → listed ≡ lists_close value → (headers : List Header) → AreFieldsOf old headers →
    AreFieldsOf (record old { closes = old.closes || listed }) (headers ++ (name, value) ∷ [])
one_connection old listed name value no_length no_coding no_token is lists =
    let h : Header = (name, value) in
    fields_more old (record old { closes = old.closes || listed }) h false false false no_length no_coding no_token refl refl refl
    (ap (λ b. old.closes || b) (lists ∙ ap (λ t. t && lists_close value) (sym is)))

pub no_field : (old : Fields) (name value : List ℕ) → eq_ignore_case name (codes "content-length") ≡ false →
    eq_ignore_case name (codes "transfer-encoding") ≡ false → eq_ignore_case name (codes "x-nomad-token") ≡ false →
    eq_ignore_case name (codes "connection") ≡ false → (headers : List Header) → AreFieldsOf old headers →
    AreFieldsOf old (headers ++ (name, value) ∷ [])
no_field old name value no_length no_coding no_token no_connection =
    let h : Header = (name, value) in
    fields_more old old h false false false no_length no_coding no_token refl refl refl (closes_as_before h old.closes no_connection)
