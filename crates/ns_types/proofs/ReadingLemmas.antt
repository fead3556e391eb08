-- A byte string has one reading, but for the two freedoms.
use Rattle.std.proofs.Common.{take-add, ◌≡◌, ℕ, ◌+◌, ◌-◌, ◌<◌, ◌⊎◌, inl, inr, Bool, true, false, List, [], ◌∷◌, ◌++◌, map, length, take, drop, sym, refl, ap}
use Rattle.std.proofs.Common.{◌∙◌, subst, append_assoc, arith}
use Rattle.std.specs.Prelude.{Ok, MatchBool}
use Rattle.std.proofs.lemmas.Bool.{false≢true}
use Rattle.std.proofs.lemmas.List.{append-nil, length-append, take_at, drop_at, take-append-le}
use Rattle.httparse.specs.Grammar.{RequestHead, IsRequestHead, print_request, ReadsRequest, HasNoRequest, NeverHasRequest, MayBecomeRequest}
use Rattle.httparse.specs.Spans.{RequestOverflows, name_and_value}
use Rattle.httparse.proofs.GrammarLemmas.{request_unique}
use Rattle.ns_types.specs.declared.reply.HeadFault.{HeadFault}
use Rattle.ns_types.specs.Wire.Http.{IsHead, Message, print_message, IsMessage, closes, body_len, RefusesHead, malformed, framing, too_long, too_many}
use Rattle.ns_types.specs.Wire.Http.{IsPartial, in_head, in_body, Received, Whole, Refused, Takes, End, Clean, Partial, Closed, is_closed, IsRest}
use Rattle.ns_types.specs.Wire.Http.{IsFaultyAndOver, faulty_long, faulty_many, ReadAlike}

-- a head takes some bytes
length-print_request : (h : RequestHead) → IsRequestHead h → 0 < length (print_request h)
unfolding print_request
length-print_request h is = simp length-append (omega (arith, is.method.0))

nothing_reads : (bytes : List ℕ) (h : RequestHead) (rest : List ℕ) → bytes ≡ [] → ReadsRequest bytes h rest → ⊥
nothing_reads bytes h rest empty reads =
    omega (arith, length-print_request h reads.0, ap length empty, ap length reads.1, length-append (print_request h) rest)

few_fields : (bytes : List ℕ) (h : RequestHead) (rest : List ℕ) → IsHead h → bytes ≡ print_request h ++ rest → RequestOverflows 64 bytes → ⊥
few_fields bytes h rest is e over =
    omega (arith, over [] h rest (subst (λ b. ReadsRequest b h rest) (sym (append-nil bytes)) (is.grammar, e)), is.headers)

-- the head of a whole request, and what follows it
head_reads : (bytes : List ℕ) (m : Message) (rest : List ℕ) → IsMessage m → bytes ≡ print_message m ++ rest → ReadsRequest bytes m.head (m.body ++ rest)
head_reads bytes m rest is e = (is.head.grammar, e ∙ append_assoc (print_request m.head) m.body rest)

never_now : (bytes : List ℕ) (h : RequestHead) (rest : List ℕ) → NeverHasRequest bytes → ReadsRequest bytes h rest → ⊥
never_now bytes h rest never reads = never [] h rest (subst (λ b. ReadsRequest b h rest) (sym (append-nil bytes)) reads)

-- a head that is within the limit stands in the first bytes
stands_early : (bytes : List ℕ) (h : RequestHead) (rest : List ℕ) → IsHead h → bytes ≡ print_request h ++ rest → HasNoRequest (take 16384 bytes) → ⊥
stands_early bytes h rest is e none =
    let n = length (print_request h) in
    let split : 16384 ≡ n + (16384 - n) = omega (arith, is.len) in
    let front : take 16384 bytes ≡ print_request h ++ take (16384 - n) rest =
    ap (λ k. take k bytes) split ∙ take-add n (16384 - n) bytes
    ∙ ap (λ l. l ++ take (16384 - n) (drop n bytes)) (ap (take n) e ∙ take_at (print_request h) rest n refl)
    ∙ ap (λ l. print_request h ++ take (16384 - n) l) (ap (drop n) e ∙ drop_at (print_request h) rest n refl) in
    none h _ (is.grammar, front)

-- a head within the limits that states a length is not refused
not_refused : (bytes : List ℕ) (h : RequestHead) (rest : List ℕ) (len : ℕ) (fault : HeadFault) → IsHead h → bytes ≡ print_request h ++ rest →
    body_len (map name_and_value h.fields) ≡ Ok len → RefusesHead bytes fault → ⊥
not_refused bytes h rest len fault is e framed (malformed never) = never_now bytes h rest never (is.grammar, e)
not_refused bytes h rest len fault is e framed (framing k other fault' is' e' framed') =
    let same = request_unique bytes h k rest other (is.grammar, e) (is'.grammar, e') in
    let clash = sym framed ∙ ap (λ (x : RequestHead). body_len (map name_and_value x.fields)) same.0 ∙ framed' in absurd (cc)
not_refused bytes h rest len fault is e framed (too_long long none may) = stands_early bytes h rest is e none
not_refused bytes h rest len fault is e framed (too_many exceeds over) = few_fields bytes h rest is e over

-- two whole requests at the front are one
whole_unique : (bytes : List ℕ) (m n : Message) (r q : List ℕ) → IsMessage m → IsMessage n → bytes ≡ print_message m ++ r → bytes ≡ print_message n ++ q →
    (m ≡ n) × (r ≡ q)
whole_unique bytes m n r q is is' e e' =
    let same = request_unique bytes m.head n.head (m.body ++ r) (n.body ++ q) (head_reads bytes m r is e) (head_reads bytes n q is' e') in
    let framed = sym is.framed ∙ ap (λ (x : RequestHead). body_len (map name_and_value x.fields)) same.0 ∙ is'.framed in
    let size : length m.body ≡ length n.body = cc in
    let body : m.body ≡ n.body = sym (take_at m.body r (length n.body) size) ∙ ap (take (length n.body)) same.1 ∙ take_at n.body q (length n.body) refl in
    let rest : r ≡ q = sym (drop_at m.body r (length n.body) size) ∙ ap (drop (length n.body)) same.1 ∙ drop_at n.body q (length n.body) refl in
    (λ i. record { head = same.0 i; body = body i }, rest)

-- a whole request is no rest
not_rest : (bytes : List ℕ) (m : Message) (rest : List ℕ) (end : End) → IsMessage m → bytes ≡ print_message m ++ rest → is_closed end ≡ false →
    IsRest end bytes → ⊥
not_rest bytes m rest Clean is e f r = nothing_reads bytes m.head (m.body ++ rest) r (head_reads bytes m rest is e)
not_rest bytes m rest Partial is e f r = not_partial bytes m rest is e r.0
  where
    not_partial : (bytes : List ℕ) (m : Message) (rest : List ℕ) → IsMessage m → bytes ≡ print_message m ++ rest → IsPartial bytes → ⊥
    not_partial bytes m rest is e (in_head none may) = none m.head (m.body ++ rest) (head_reads bytes m rest is e)
    not_partial bytes m rest is e (in_body h body len ish e' framed short) =
        let same = request_unique bytes m.head h (m.body ++ rest) body (head_reads bytes m rest is e) (ish.grammar, e') in
        let framed'' = sym is.framed ∙ ap (λ (x : RequestHead). body_len (map name_and_value x.fields)) same.0 ∙ framed in
        let size : length m.body ≡ len = cc in
        omega (arith, size, short, ap length same.1, length-append m.body rest)
not_rest bytes m rest Closed is e f r = false≢true (sym f)

-- two refusals of one head are the same, or the head is both faulty and over a limit
refusals_agree : (bytes : List ℕ) (a b : HeadFault) → RefusesHead bytes a → RefusesHead bytes b → (a ≡ b) ⊎ IsFaultyAndOver bytes
refusals_agree bytes a b (malformed never) (malformed never') = inl refl
refusals_agree bytes a b (malformed never) (framing h rest fault is e framed) = absurd (never_now bytes h rest never (is.grammar, e))
refusals_agree bytes a b (malformed never) (too_long long none may) = inr (faulty_long never none long)
refusals_agree bytes a b (malformed never) (too_many exceeds over) = inr (faulty_many never exceeds)
refusals_agree bytes a b (framing h rest fault is e framed) (malformed never) = absurd (never_now bytes h rest never (is.grammar, e))
refusals_agree bytes a b (framing h rest fault is e framed) (framing k other fault' is' e' framed') =
    let same = request_unique bytes h k rest other (is.grammar, e) (is'.grammar, e') in
    let faults = sym framed ∙ ap (λ (x : RequestHead). body_len (map name_and_value x.fields)) same.0 ∙ framed' in
    let one : fault ≡ fault' = cc in inl one
refusals_agree bytes a b (framing h rest fault is e framed) (too_long long none may) = absurd (stands_early bytes h rest is e none)
refusals_agree bytes a b (framing h rest fault is e framed) (too_many exceeds over) = absurd (few_fields bytes h rest is e over)
refusals_agree bytes a b (too_long long none may) (malformed never) = inr (faulty_long never none long)
refusals_agree bytes a b (too_long long none may) (framing h rest fault is e framed) = absurd (stands_early bytes h rest is e none)
refusals_agree bytes a b (too_long long none may) (too_long long' none' may') = inl refl
refusals_agree bytes a b (too_long long none may) (too_many exceeds over) = inl refl
refusals_agree bytes a b (too_many exceeds over) (malformed never) = inr (faulty_many never exceeds)
refusals_agree bytes a b (too_many exceeds over) (framing h rest fault is e framed) = absurd (few_fields bytes h rest is e over)
refusals_agree bytes a b (too_many exceeds over) (too_long long none may) = inl refl
refusals_agree bytes a b (too_many exceeds over) (too_many exceeds' over') = inl refl

-- where a head is refused and the bytes are a rest, no whole head is there
refused_rest : (bytes : List ℕ) (fault : HeadFault) (end : End) → RefusesHead bytes fault → is_closed end ≡ false → IsRest end bytes → HasNoRequest bytes
refused_rest bytes fault Clean r f empty = λ h rest reads. nothing_reads bytes h rest empty reads
refused_rest bytes fault Partial r f p = by_rest p.0
  where
    by_rest : IsPartial bytes → HasNoRequest bytes
    by_rest (in_head none may) = none
    by_rest (in_body h body len is e framed short) = absurd (not_refused bytes h body len fault is e framed r)
refused_rest bytes fault Closed r f p = absurd (false≢true (sym f))

same_end : (bytes : List ℕ) (e f : End) → is_closed e ≡ false → is_closed f ≡ false → IsRest e bytes → IsRest f bytes → e ≡ f
same_end bytes Clean Clean p q r s = refl
same_end bytes Clean Partial p q r s = absurd (omega (arith, ap length r, s.1))
same_end bytes Partial Clean p q r s = absurd (omega (arith, ap length s, r.1))
same_end bytes Partial Partial p q r s = refl
same_end bytes Closed f p q r s = absurd (false≢true (sym p))
same_end bytes Clean Closed p q r s = absurd (false≢true (sym q))
same_end bytes Partial Closed p q r s = absurd (false≢true (sym q))

closed_end : (e f : End) → is_closed e ≡ true → is_closed f ≡ true → e ≡ f
closed_end Closed Closed p q = refl
closed_end Closed Clean p q = absurd (false≢true q)
closed_end Closed Partial p q = absurd (false≢true q)
closed_end Clean f p q = absurd (false≢true p)
closed_end Partial f p q = absurd (false≢true p)

-- what follows a whole request is read in one way
after_whole : (b : Bool) (after : List ℕ) (xs ys : List Received) (e f : End) (r q : List ℕ) →
    MatchBool b ((xs ≡ []) × (is_closed e ≡ true) × (after ≡ r)) (Takes after xs (is_closed e) r) →
    MatchBool b ((ys ≡ []) × (is_closed f ≡ true) × (after ≡ q)) (Takes after ys (is_closed f) q) →
    (Takes after xs (is_closed e) r → Takes after ys (is_closed f) q → ReadAlike after xs e ys f) →
    MatchBool b ((xs ≡ []) × (ys ≡ []) × (e ≡ f)) (ReadAlike after xs e ys f)
after_whole true after xs ys e f r q x y agree = (x.0, y.0, closed_end e f x.1 y.1)
after_whole false after xs ys e f r q x y agree = agree x y

pub one_reading : (xs ys : List Received) (bytes : List ℕ) (e f : End) (r q : List ℕ) → Takes bytes xs (is_closed e) r → IsRest e r →
    Takes bytes ys (is_closed f) q → IsRest f q → ReadAlike bytes xs e ys f
one_reading [] [] bytes e f r q t i u j = same_end bytes e f t.0 u.0 (subst (IsRest e) (sym t.1) i) (subst (IsRest f) (sym u.1) j)
one_reading [] (Refused b ∷ ys) bytes e f r q t i u j = (refused_rest bytes b e u.0 t.0 (subst (IsRest e) (sym t.1) i), t.0)
one_reading [] (Whole n ∷ ys) bytes e f r q t i u j = not_rest bytes n u.1 e u.0 u.2 t.0 (subst (IsRest e) (sym t.1) i)
one_reading (Refused a ∷ xs) [] bytes e f r q t i u j = (refused_rest bytes a f t.0 u.0 (subst (IsRest f) (sym u.1) j), u.0)
one_reading (Refused a ∷ xs) (Refused b ∷ ys) bytes e f r q t i u j = refusals_agree bytes a b t.0 u.0
one_reading (Refused a ∷ xs) (Whole n ∷ ys) bytes e f r q t i u j =
    not_refused bytes n.head (n.body ++ u.1) _ a u.0.head (head_reads bytes n u.1 u.0 u.2).1 u.0.framed t.0
one_reading (Whole m ∷ xs) [] bytes e f r q t i u j = not_rest bytes m t.1 f t.0 t.2 u.0 (subst (IsRest f) (sym u.1) j)
one_reading (Whole m ∷ xs) (Refused b ∷ ys) bytes e f r q t i u j =
    not_refused bytes m.head (m.body ++ t.1) _ b t.0.head (head_reads bytes m t.1 t.0 t.2).1 t.0.framed u.0
one_reading (Whole m ∷ xs) (Whole n ∷ ys) bytes e f r q t i u j =
    let same = whole_unique bytes m n t.1 u.1 t.0 u.0 t.2 u.2 in
    let there : MatchBool (closes m) ((ys ≡ []) × (is_closed f ≡ true) × (t.1 ≡ q)) (Takes t.1 ys (is_closed f) q) =
    subst (λ k. MatchBool (closes k) ((ys ≡ []) × (is_closed f ≡ true) × (t.1 ≡ q)) (Takes t.1 ys (is_closed f) q)) (sym same.0)
    (subst (λ l. MatchBool (closes n) ((ys ≡ []) × (is_closed f ≡ true) × (l ≡ q)) (Takes l ys (is_closed f) q)) (sym same.1) u.3) in
    (same.0, t.1, t.2, after_whole (closes m) t.1 xs ys e f r q t.3 there (λ x y. one_reading xs ys t.1 e f r q x i y j))

-- a refusal stands whatever follows
RefusesHead-more : (bytes more : List ℕ) (fault : HeadFault) → RefusesHead bytes fault → RefusesHead (bytes ++ more) fault
RefusesHead-more bytes more fault (malformed never) =
    malformed (λ later h rest reads. never (more ++ later) h rest (subst (λ b. ReadsRequest b h rest) (append_assoc bytes more later) reads))
RefusesHead-more bytes more fault (framing h rest fault' is e framed) =
    framing h (rest ++ more) fault is (ap (λ l. l ++ more) e ∙ append_assoc (print_request h) rest more) framed
RefusesHead-more bytes more fault (too_long long none may) =
    let front : take 16384 bytes ≡ take 16384 (bytes ++ more) = sym (take-append-le 16384 bytes more long) in
    too_long (omega (arith, long, length-append bytes more)) (subst HasNoRequest front none) (subst MayBecomeRequest front may)
RefusesHead-more bytes more fault (too_many x over) =
    too_many (x.0, x.1 ++ more, ap (λ l. l ++ more) x.2 ∙ append_assoc x.0 x.1 more, x.3, x.4, x.5)
    (λ later h rest reads. over (more ++ later) h rest (subst (λ b. ReadsRequest b h rest) (append_assoc bytes more later) reads))

pub MatchBool-map : {P Q R T : Type 0} (b : Bool) → (P → R) → (Q → T) → MatchBool b P Q → MatchBool b R T
MatchBool-map true f g x = f x
MatchBool-map false f g x = g x

-- a closed connection is the same whatever follows
pub Takes-closed-more : (xs : List Received) (bytes rest more : List ℕ) → Takes bytes xs true rest → Takes (bytes ++ more) xs true (rest ++ more)
Takes-closed-more [] bytes rest more t = absurd (false≢true (sym t.0))
Takes-closed-more (Refused a ∷ xs) bytes rest more t = (RefusesHead-more bytes more a t.0, t.1, t.2, ap (λ l. l ++ more) t.3)
Takes-closed-more (Whole m ∷ xs) bytes rest more t = (
  t.0,
  t.1 ++ more,
  ap (λ l. l ++ more) t.2 ∙ append_assoc (print_message m) t.1 more,
  MatchBool-map (closes m) (λ x. (x.0, x.1, ap (λ l. l ++ more) x.2))
      (λ x. Takes-closed-more xs t.1 rest more x) t.3,
)
