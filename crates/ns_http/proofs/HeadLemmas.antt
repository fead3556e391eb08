-- What the front of some bytes says of all of them.
use Rattle.std.proofs.Common.{◌≡◌, ℕ, ◌+◌, ◌<◌, ◌≤◌, min, Bool, inl, inr, List, [], ◌∷◌, ◌++◌, map, length, take, drop, sym, ap, ◌∙◌, subst, append_assoc}
use Rattle.std.proofs.Common.{arith}
use Rattle.std.specs.Prelude.{Ok}
use Rattle.std.proofs.lemmas.List.Elements.{All-weaker}
use Rattle.std.proofs.lemmas.List.{take-append-drop, drop_at, drop-drop, length-map, length-take-le, length-append, length-take, length-drop}
use Rattle.std.proofs.lemmas.Bool.{cases_Bool, cases_lt}
use Rattle.std.specs.Str.Parse.{digits_value}
use Rattle.httparse.specs.declared.spans.HeaderSpan.{HeaderSpan}
use Rattle.httparse.specs.declared.spans.RequestSpans.{RequestSpans}
use Rattle.httparse.specs.Grammar.{RequestHead, print_request, ReadsRequest, HasNoRequest, NeverHasRequest, MayBecomeRequest}
use Rattle.httparse.specs.Spans.{IsRequestAt, IsRequestWithin, IsHeaderWithin, RequestExceeds, RequestOverflows, name_and_value, header_bytes, span_bytes}
use Rattle.ns_types.specs.declared.reply.HeadFault.TheVariants.{BadHead, TooLarge}
use Rattle.ns_types.specs.Wire.Http.{Header, IsHead, RefusesHead, malformed, too_long, too_many, in_body, token_of, asks_close, length_of, is_length}
use Rattle.ns_types.specs.Wire.Http.{body_len_of, body_len}
use Rattle.std.specs.Option.{option_copied}
use Rattle.ns_http.specs.HeadStands.{HeadStands}
use Rattle.ns_http.specs.Head.{Waits, FindsWhole}
use Rattle.ns_http.specs.declared.head.Request.{Request}
use Rattle.ns_http.proofs.TextLemmas.{length_of-bad, length_of-large, length_of-ok}

-- the bytes and more, by their front
front_and : (k : ℕ) (bytes more : List ℕ) → bytes ++ more ≡ take k bytes ++ (drop k bytes ++ more)
front_and k bytes more = ap (λ l. l ++ more) (sym (take-append-drop k bytes)) ∙ append_assoc (take k bytes) (drop k bytes) more

pub malformed_front : (k : ℕ) (bytes : List ℕ) → NeverHasRequest (take k bytes) → RefusesHead bytes BadHead
malformed_front k bytes never =
    malformed (λ more h rest reads. never (drop k bytes ++ more) h rest (subst (λ b. ReadsRequest b h rest) (front_and k bytes more) reads))

pub many_front : (k : ℕ) (bytes : List ℕ) → RequestExceeds 64 (take k bytes) → RequestOverflows 64 (take k bytes) → RefusesHead bytes TooLarge
many_front k bytes x over =
    too_many (x.0, x.1 ++ drop k bytes, sym (take-append-drop k bytes) ∙ ap (λ l. l ++ drop k bytes) x.2 ∙ append_assoc x.0 x.1 (drop k bytes), x.3, x.4, x.5)
    (λ more h rest reads. over (drop k bytes ++ more) h rest (subst (λ b. ReadsRequest b h rest) (front_and k bytes more) reads))

pub long_front : (bytes : List ℕ) → length (take (min (length bytes) 16384) bytes) ≡ 16384 → HasNoRequest (take (min (length bytes) 16384) bytes) →
    MayBecomeRequest (take (min (length bytes) 16384) bytes) → RefusesHead bytes TooLarge
long_front bytes full none may =
    let long : 16384 ≤ length bytes = omega (arith, length-take (min (length bytes) 16384) bytes) in
    let k : min (length bytes) 16384 ≡ 16384 = omega arith in
    too_long long (subst (λ n. HasNoRequest (take n bytes)) k none) (subst (λ n. MayBecomeRequest (take n bytes)) k may)

-- a head that was found in the front stands there
pub stands_front : (k : ℕ) (bytes : List ℕ) (headers : List HeaderSpan) (r : RequestSpans) (h : RequestHead) → k ≤ 16384 → length headers ≡ 64 →
    IsRequestAt (take k bytes) headers r h → IsRequestWithin (take k bytes) headers r → HeadStands bytes (take k bytes) (take r.headers headers) r
stands_front k bytes headers r h small room at within =
    let split : bytes ≡ print_request h ++ (drop r.len (take k bytes) ++ drop k bytes) = sym (take-append-drop k bytes) ∙ ap (λ l. l ++ drop k bytes) at.reads.1
    ∙ append_assoc (print_request h) _ _ in
    let rest : drop r.len bytes ≡ drop r.len (take k bytes) ++ drop k bytes = ap (drop r.len) split ∙ drop_at (print_request h) _ r.len (sym at.len) in
    let fits : r.len ≤ length (take k bytes) = within.section.len_fits in
    record {
      head = h;
      is_head = record {
        grammar = at.reads.0;
        len = omega (arith, length-take k bytes, at.len);
        headers =
            omega (
              arith,
              ap length at.fields,
              length-map (take r.headers headers) (header_bytes (take k bytes)),
              length-map h.fields name_and_value,
              length-take r.headers headers,
            );
      };
      reads = split ∙ ap (λ l. print_request h ++ l) (sym rest);
      len = at.len;
      len_fits = omega (arith, length-take k bytes);
      method_fits = (within.method.0, omega (arith, within.method.1));
      path_fits = (within.path.0, omega (arith, within.path.1));
      headers_fit = All-weaker (IsHeaderWithin r.len) (IsHeaderWithin (length (take k bytes)))
          (λ x w. ((w.0.0, omega (arith, w.0.1)), (w.1.0, omega (arith, w.1.1)))) _ within.section.headers_fit;
      method = at.method;
      path = at.path;
      version = at.version;
      fields = at.fields;
    }

length_of-max : (v : List ℕ) (n : ℕ) → length_of v ≡ Ok n → n ≤ 1048576
length_of-max v n e = elim (cases_Bool (is_length v)) [
  | inl good ↦ elim (cases_lt 1048576 (digits_value 10 v)) [
    | inl large ↦ let no = sym (length_of-large v good large) ∙ e in absurd (cc)
    | inr fits ↦ let yes = sym (length_of-ok v good fits) ∙ e in let same : digits_value 10 v ≡ n = cc in omega arith
  ]
  | inr bad ↦ let no = sym (length_of-bad v bad) ∙ e in absurd (cc)
]

body_len_of-max : (ls cs : List (List ℕ)) (n : ℕ) → body_len_of ls cs ≡ Ok n → n ≤ 1048576
body_len_of-max [] [] n e = let zero : 0 ≡ n = cc in omega arith
body_len_of-max [] (c ∷ cs) n e = absurd (cc)
body_len_of-max (v ∷ []) [] n e = length_of-max v n e
body_len_of-max (v ∷ w ∷ ls) [] n e = absurd (cc)
body_len_of-max (v ∷ []) (c ∷ cs) n e = absurd (cc)
body_len_of-max (v ∷ w ∷ ls) (c ∷ cs) n e = absurd (cc)

-- no body is longer than the limit
pub body_len-max : (hs : List Header) (n : ℕ) → body_len hs ≡ Ok n → n ≤ 1048576
unfolding body_len
body_len-max hs n e = body_len_of-max _ _ n e

-- the bytes begin with a whole request, by what was read of it
pub finds_whole : (bytes text : List ℕ) (headers : List HeaderSpan) (r : RequestSpans) (request : Request) (len : ℕ) (close : Bool)
    (s : HeadStands bytes text headers r) → body_len (map (header_bytes text) headers) ≡ Ok len → r.len + len ≤ length bytes →
    request.method.now ≡ span_bytes text r.method → request.target.now ≡ span_bytes text r.path →
    option_copied request.token ≡ token_of (map (header_bytes text) headers) → request.body.now ≡ take len (drop r.len bytes) →
    close ≡ asks_close r.version (map (header_bytes text) headers) → FindsWhole bytes request (r.len + len) close
finds_whole bytes text headers r request len close s framed fits method target token body closes =
    let rest = drop r.len bytes in
    let size : length (take len rest) ≡ len = length-take-le len rest (omega (arith, length-drop r.len bytes)) in
    record {
      message = record { head = s.head; body = take len rest };
      is_message = record { head = s.is_head; framed = sym (ap body_len s.fields) ∙ framed ∙ ap Ok (sym size) };
      reads = s.reads ∙ ap (λ l. print_request s.head ++ l) (sym (take-append-drop len rest) ∙ ap (λ l. take len rest ++ l) (drop-drop len r.len bytes)) ∙
          sym (append_assoc (print_request s.head) (take len rest) _);
      len_is = omega (arith, length-append (print_request s.head) (take len rest), s.len, size);
      shows = λ i. record { method = (method ∙ s.method) i; target = (target ∙ s.path) i; token = (token ∙ ap token_of s.fields) i; body = body i };
      close_is = closes ∙ ap (asks_close r.version) s.fields ∙ ap (λ v. asks_close v (map name_and_value s.head.fields)) s.version;
    }

-- a head takes some bytes
pub length-print_request : (h : RequestHead) → IsHead h → 0 < length (print_request h)
unfolding print_request
length-print_request h is = simp length-append (omega (arith, is.grammar.method.0))

-- a head whose body is short: more bytes leave it so, until all of the body is there
pub waits_for_body : (h : RequestHead) (bytes rest : List ℕ) (n : ℕ) {len : ℕ} → IsHead h → bytes ≡ print_request h ++ rest →
    body_len (map name_and_value h.fields) ≡ Ok n → len ≡ length (print_request h) → length rest < n → Waits bytes (len + n)
waits_for_body h bytes rest n {len} is_head reads framed size short =
    let most = body_len-max (map name_and_value h.fields) n framed in
    let all : length bytes ≡ length (print_request h) + length rest = ap length reads ∙ length-append (print_request h) rest in
    record {
      partial = in_body h rest n is_head reads framed short;
      room = omega (arith, most, all, is_head.len, short);
      stays = λ more small. in_body h (rest ++ more) n is_head (ap (λ l. l ++ more) reads ∙ append_assoc (print_request h) rest more) framed
          (omega (arith, small, all, size, length-append bytes more, length-append rest more));
      wanted_fits = omega (arith, most, is_head.len, size);
    }
