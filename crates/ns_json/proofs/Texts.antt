-- Bodies that are JSON, and texts without what they begin or end with.
use Rattle.std.proofs.Common.{
  ◌≡◌,
  ℕ,
  ◌≤◌,
  Bool,
  true,
  false,
  eqb,
  List,
  [],
  ◌∷◌,
  ◌++◌,
  length,
  Option,
  Some,
  None,
  option_map,
  Ok,
  Err,
  Bor,
  refl,
  sym,
  ap,
  ◌∙◌,
  arith,
  true≢false,
}
use Rattle.std.specs.Prelude.{MatchOption, IsTrue, IsUtf8, ◌≢◌, unwrap_or}
use Rattle.std.specs.List.{starts_with, ends_with}
use Rattle.std.specs.Str.{is_utf8}
use Rattle.std.specs.Str.Pattern.{FindsCharPrefix, FindsCharSuffix, FindsTextPrefix, FindsTextSuffix, StripsPrefix, StripsSuffix}
use Rattle.std.proofs.lemmas.Str.{IsUtf8-from_is_utf8, is_utf8-from_IsUtf8}
use Rattle.std.proofs.lemmas.List.{append_cancel_right}
use Rattle.std.proofs.lemmas.Str.Pattern.{starts_text, ends_text, strip_prefix_char, strip_suffix_char}
use Rattle.serde_json.specs.Data.{Data}
use Rattle.serde_json.specs.Read.{read}
use Rattle.ns_types.specs.declared.refusal.Refusal.TheVariants.{BadJson}
use Rattle.ns_json.specs.Reading.{json_in}
use Rattle.ns_json.specs.Registration.{without_prefix, without_suffix}

pub json_ok : (body : List ℕ) (d : Data) → IsUtf8 body × (read body ≡ Some d) → json_in body ≡ Ok d
unfolding json_in
json_ok body d h = rw (is_utf8-from_IsUtf8 body h.0, h.1) refl

bad_at : (body : List ℕ) (b : Bool) → is_utf8 body ≡ b → (IsUtf8 body → read body ≡ None) → json_in body ≡ Err BadJson
unfolding json_in
bad_at body true e h = rw (e, h (IsUtf8-from_is_utf8 body e)) refl
bad_at body false e h = rw e refl

pub json_bad : (body : List ℕ) → (IsUtf8 body → read body ≡ None) → json_in body ≡ Err BadJson
json_bad body h = bad_at body (is_utf8 body) refl h

pub has_prefix : (p s x : List ℕ) → StripsPrefix (FindsTextPrefix p) s x → without_prefix p s ≡ Some x
has_prefix p s x (k, finds, is, len) =
    let yes : true ≡ starts_with eqb s p = starts_text true p s (k, finds, rw finds.0 finds.2) in
    rw (← yes, ← finds.0, is) refl

pub suffix_is : (p s : List ℕ) (r : Option (Bor (List ℕ))) → MatchOption r (FindsTextSuffix p s None) (λ x. StripsSuffix (FindsTextSuffix p) s x.now) →
    option_map (λ x. x.now) r ≡ without_suffix p s
suffix_is p s None h = rw (← ends_text false p s h) refl
suffix_is p s (Some x) (k, finds, is, len) =
    let le : k ≤ length s = omega arith in
    let yes : true ≡ ends_with eqb s p = ends_text true p s (k, finds, le, rw finds.0 finds.2) in
    rw (← yes, ← finds.0, is) refl

pub not_true : (b : Bool) → b ≡ false → IsTrue b → ⊥
not_true true e h = true≢false e
not_true false e h = true≢false (sym h)

-- what is left behind a quote in front, and before one at the end
behind_quote : (text rest : List ℕ) (o : Option (Bor (List ℕ))) (other r : Bor (List ℕ)) →
    MatchOption o ((x : List ℕ) → text ≢ 34 ∷ x) (λ x. text ≡ 34 ∷ x.now) →
    text ≡ 34 ∷ rest → r ≡ unwrap_or o other → r.now ≡ rest
behind_quote text rest None other r none is e = absurd (none rest is)
behind_quote text rest (Some x) other r some is e = let same : x.now ≡ rest = cc in ap (λ (b : Bor (List ℕ)). b.now) e ∙ same

before_quote : (text rest : List ℕ) (o : Option (Bor (List ℕ))) (other r : Bor (List ℕ)) →
    MatchOption o ((x : List ℕ) → text ≢ x ++ 34 ∷ []) (λ x. text ≡ x.now ++ 34 ∷ []) →
    text ≡ rest ++ 34 ∷ [] → r ≡ unwrap_or o other → r.now ≡ rest
before_quote text rest None other r none is e = absurd (none rest is)
before_quote text rest (Some x) other r some is e =
    ap (λ (b : Bor (List ℕ)). b.now) e ∙ append_cancel_right x.now rest (34 ∷ []) (sym some ∙ is)

-- the text between its quotes
pub unquoted : (text inner : List ℕ) (front back : Option (Bor (List ℕ))) (other last rest result : Bor (List ℕ)) →
    MatchOption front (FindsCharPrefix 34 text None) (λ x. StripsPrefix (FindsCharPrefix 34) text x.now) →
    MatchOption back (FindsCharSuffix 34 rest.now None) (λ x. StripsSuffix (FindsCharSuffix 34) rest.now x.now) →
    rest ≡ unwrap_or front other → result ≡ unwrap_or back last → text ≡ 34 ∷ (inner ++ 34 ∷ []) → result.now ≡ inner
unquoted text inner front back other last rest result begins ends rest_is result_is is =
    before_quote rest.now inner back last result (strip_suffix_char 34 rest.now back ends (omega arith))
    (behind_quote text (inner ++ 34 ∷ []) front other rest (strip_prefix_char 34 text front begins (omega arith)) is rest_is) result_is
