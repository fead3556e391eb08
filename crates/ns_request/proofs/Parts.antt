-- Segments and parts.
use Rattle.std.proofs.Common.{◌≡◌, ℕ, ◌<◌, List, length, [], Option, Some, None, Bor, Bool, true, false, ◌&&◌, refl, sym, ap, ◌∙◌, arith}
use Rattle.std.specs.Prelude.{option_map, unwrap_or, slice_get, IsUtf8}
use Rattle.std.specs.Str.{is_utf8}
use Rattle.std.proofs.lemmas.Str.{IsUtf8-from_is_utf8, is_utf8-from_IsUtf8}
use Rattle.std.proofs.lemmas.Bool.{and_parts}
use Rattle.percent_encoding.specs.Percent.{percent_decode}
use Rattle.std.specs.Prelude.{if◌then◌else◌, IsAscii, nat_lt, nat_le, slice_index_or}
use Rattle.std.proofs.lemmas.Bool.Decides.{nat_tests}
use Rattle.std.proofs.lemmas.List.Sums.{AllPass-from_list_all}
use Rattle.std.proofs.lemmas.Str.Ascii.{IsAscii-from_all}
use Rattle.std.specs.List.{list_all}
use Rattle.std.proofs.lemmas.Str.{IsUtf8-from_ascii}
use Rattle.ns_types.specs.declared.name.NameKind.TheVariants as NameKind
use Rattle.ns_types.specs.State.Name.{is_name, is_name_byte}
use Rattle.ns_request.specs.Secrets.{known, unknown}
use Rattle.ns_request.specs.declared.part.PathPart.{PathPart}
use Rattle.ns_request.specs.Judging.{part_of}
use Rattle.ns_request.specs.Parts.{segments_of, segment_at, is_part, is_good}

pub segment_some : (bytes path : List ℕ) (place : ℕ) (r : Option (Bor (List ℕ))) (s : Bor (List ℕ)) → bytes ≡ path
    → option_map (λ x. x.now) r ≡ slice_get (segments_of bytes) place → r ≡ Some s → s.now ≡ segment_at place path
segment_some bytes path place r s same found is =
    ap (λ o. unwrap_or (option_map (λ (x : Bor (List ℕ)). x.now) o) []) (sym is) ∙ ap (λ o. unwrap_or o []) found ∙ ap (λ b. segment_at place b) same

pub segment_none : (bytes path : List ℕ) (place : ℕ) (r : Option (Bor (List ℕ))) → bytes ≡ path
    → option_map (λ x. x.now) r ≡ slice_get (segments_of bytes) place → r ≡ None → [] ≡ segment_at place path
segment_none bytes path place r same found is =
    ap (λ o. unwrap_or (option_map (λ (x : Bor (List ℕ)). x.now) o) []) (sym is) ∙ ap (λ o. unwrap_or o []) found ∙ ap (λ b. segment_at place b) same

part-good : (part : PathPart) (segment text : List ℕ) → text ≡ percent_decode segment → IsUtf8 (percent_decode segment) →
    is_good part text ≡ is_part part segment
unfolding is_part
part-good part segment text same utf8 =
    ap (λ x. is_good part x) same
    ∙ ap (λ v. v && is_good part (percent_decode segment)) (sym (is_utf8-from_IsUtf8 (percent_decode segment) utf8))

part-bad : (part : PathPart) (segment : List ℕ) → (IsUtf8 (percent_decode segment) → ⊥) → is_part part segment ≡ false
unfolding is_part
part-bad part segment bad = by (is_utf8 (percent_decode segment)) (λ e. bad (IsUtf8-from_is_utf8 (percent_decode segment) e))
  where
    by : (b : Bool) → (b ≡ true → ⊥) → (b && is_good part (percent_decode segment)) ≡ false
    by true h = absurd (h refl)
    by false h = refl

-- the text of a part
pub good_part : (part : PathPart) (segment text : List ℕ) → is_good part text ≡ true → text ≡ percent_decode segment → IsUtf8 (percent_decode segment) →
    Some text ≡ part_of part segment
good_part part segment text good same utf8 =
    ap (λ x. let o : Option (List ℕ) = Some x in o) same
    ∙ ap (λ v. if v then Some (percent_decode segment) else None) (sym good ∙ part-good part segment text same utf8)

pub no_part : (part : PathPart) (segment text : List ℕ) → is_good part text ≡ false → text ≡ percent_decode segment → IsUtf8 (percent_decode segment) →
    None ≡ part_of part segment
no_part part segment text good same utf8 =
    ap (λ v. if v then Some (percent_decode segment) else None) (sym good ∙ part-good part segment text same utf8)

pub no_text : (part : PathPart) (segment : List ℕ) → (IsUtf8 (percent_decode segment) → ⊥) → None ≡ part_of part segment
no_text part segment bad = ap (λ v. if v then Some (percent_decode segment) else None) (sym (part-bad part segment bad))

-- a secret is text
IsAscii-printable : (bytes : List ℕ) → list_all (is_name_byte NameKind.Secret) bytes ≡ true → IsAscii bytes
IsAscii-printable bytes h =
    IsAscii-from_all bytes (λ k d l.
    let byte : ℕ = slice_index_or bytes k d in
    let low = (and_parts (nat_lt 32 byte) (nat_lt byte 127) (AllPass-from_list_all (is_name_byte NameKind.Secret) bytes h k d l)).1 in
    let small : byte < 127 = grind (arith, nat_tests) in
    omega arith)

pub known-no_text : (token : List ℕ) → (IsUtf8 token → ⊥) → unknown ≡ known token
known-no_text token bad = by (is_name NameKind.Secret token) refl
  where
    by : (b : Bool) → is_name NameKind.Secret token ≡ b → unknown ≡ (if b then token else unknown)
    by true e = absurd (bad (IsUtf8-from_ascii token (IsAscii-printable token
        (and_parts (nat_lt 0 (length token) && nat_le (length token) 64) (list_all (is_name_byte NameKind.Secret) token) e).1)))
    by false e = refl
