-- How long heads may be, and two requests that are read.
use Rattle.std.specs.Prelude.{◌≡◌, ℕ, ◌<◌, Bool, true, List, [], ◌∷◌, IsTrue, IsUtf8, codes, length, nat_lt}
use Rattle.std.specs.List.{list_all}
use Rattle.std.proofs.Common.{refl, arith, lit≤}
use Rattle.std.proofs.lemmas.Bool.Decides.{Decides-by_and, Decides-ltb}
use Rattle.std.proofs.lemmas.List.Elements.{All-cons, All-nil}
use Rattle.std.proofs.lemmas.Str.{IsUtf8-from_ascii}
use Rattle.std.proofs.lemmas.Str.Ascii.{IsAscii-from_all}
use Rattle.httparse.specs.Grammar.{AllPass, Field, IsField, IsRequestHead, IsToken, RequestHead, crlf, is_token_byte, is_uri_byte, is_value_byte}
use Rattle.httparse.specs.Grammar.{print_request, trim_ows}
use Rattle.ns_types.specs.Wire.Http.{IsMessage, Message, asks_close, body_len, eq_ignore_case, length_of, lists_close, token_of, too_long}
use Rattle.ns_laws.specs.Requests as law

pub head_limits : law.HeadLimits
head_limits h grammar = (
  (λ is. (is.len, is.headers)),
  (λ w. record { grammar = grammar; len = w.0; headers = w.1 }),
)

pub long_heads_are_refused : law.LongHeadsAreRefused
long_heads_are_refused bytes long none may = too_long long none may

-- ---- heads that are written out

passes : (test : ℕ → Bool) (bytes : List ℕ) → list_all test bytes ≡ true → AllPass test bytes
passes test bytes e = (Decides-by_and test (λ b. IsTrue (test b)) (list_all test) (λ b. ((λ e. e), (λ e. e))) refl (λ _ _. refl) bytes).0 e

ascii : (bytes : List ℕ) → list_all (λ b. nat_lt b 128) bytes ≡ true → IsUtf8 bytes
ascii bytes e = IsUtf8-from_ascii bytes (IsAscii-from_all bytes
    ((Decides-by_and (λ b. nat_lt b 128) (λ b. b < 128) (list_all (λ b. nat_lt b 128)) (λ b. Decides-ltb b 128) refl (λ _ _. refl) bytes).0 e))

a_token : (bytes : List ℕ) → 0 < length bytes → list_all is_token_byte bytes ≡ true → IsToken bytes
a_token bytes some e = (some, passes is_token_byte bytes e)

a_field : (f : Field) → IsToken f.name → list_all is_value_byte f.raw ≡ true → IsField f
a_field f name e = record { name = name; raw = passes is_value_byte f.raw e }

abbrev field_of : List ℕ → List ℕ → Field
field_of name raw = record { name = name; raw = raw; end = crlf }

abbrev head_of : List ℕ → List ℕ → List Field → RequestHead
head_of method target fields =
    record { blank = []; method = method; target = target; minor = 1; line_end = crlf; fields = fields; last = crlf }

-- ---- a read

abbrev get : Message
get = record { head = head_of (codes "GET") (codes "/v1/jobs") (field_of (codes "x-nomad-token") (codes "  root ") ∷ []); body = [] }

is_get : IsRequestHead get.head
unfolding is_token_byte
is_get = record {
  method = a_token (codes "GET") (omega arith) refl;
  target = (omega arith, passes is_uri_byte (codes "/v1/jobs") refl);
  target_text = ascii (codes "/v1/jobs") refl;
  minor = omega arith;
  fields = All-cons IsField (field_of (codes "x-nomad-token") (codes "  root ")) []
      (a_field (field_of (codes "x-nomad-token") (codes "  root ")) (a_token (codes "x-nomad-token") (omega arith) refl) refl) (All-nil IsField);
}

get_message : IsMessage get
unfolding print_request body_len eq_ignore_case trim_ows
get_message = record { head = record { grammar = is_get; len = lit≤ tt; headers = lit≤ tt }; framed = refl }

-- ---- a write

abbrev length_field : Field
length_field = field_of (codes "Content-Length") (codes " 2")

abbrev close_field : Field
close_field = field_of (codes "Connection") (codes " Close")

abbrev put : Message
put = record { head = head_of (codes "PUT") (codes "/v1/quota/qa") (length_field ∷ close_field ∷ []); body = codes "{}" }

is_put : IsRequestHead put.head
unfolding is_token_byte
is_put = record {
  method = a_token (codes "PUT") (omega arith) refl;
  target = (omega arith, passes is_uri_byte (codes "/v1/quota/qa") refl);
  target_text = ascii (codes "/v1/quota/qa") refl;
  minor = omega arith;
  fields = All-cons IsField length_field (close_field ∷ []) (a_field length_field (a_token (codes "Content-Length") (omega arith) refl) refl)
      (All-cons IsField close_field [] (a_field close_field (a_token (codes "Connection") (omega arith) refl) refl) (All-nil IsField));
}

put_message : IsMessage put
unfolding print_request body_len eq_ignore_case trim_ows length_of
put_message = record { head = record { grammar = is_put; len = lit≤ tt; headers = lit≤ tt }; framed = refl }

pub are_read_so : law.AreReadSo
unfolding print_request asks_close eq_ignore_case lists_close trim_ows token_of
are_read_so = record {
  reads = record { message = get; one = ([], (get_message, [], refl, (refl, refl)), refl); asked = refl };
  writes = record { message = put; one = (codes "GET /", (put_message, codes "GET /", refl, (refl, refl, refl)), tt); asked = refl };
}
