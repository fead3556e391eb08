-- Requests that are taken and answered one after another.
use Rattle.std.proofs.Common.{◌≡◌, ℕ, ◌+◌, ◌<◌, ◌≤◌, Bool, true, false, List, [], ◌∷◌, ◌++◌, length, drop, sym, refl, ap, ◌∙◌, subst, append_assoc, arith}
use Rattle.std.specs.Prelude.{MatchBool, Option}
use Rattle.std.specs.Io.KnownBytes.{Appends}
use Rattle.std.proofs.lemmas.Bool.{false≢true}
use Rattle.std.proofs.lemmas.List.{map-append, append-nil, length-append}
use Rattle.ns_types.specs.declared.reply.HeadFault.{HeadFault}
use Rattle.ns_types.specs.Wire.Http.{Message, print_message, IsMessage, closes, RefusesHead, Received, Whole, Refused, Takes, is_last, Asked, IsPartial, End}
use Rattle.ns_types.specs.Wire.Http.{Clean, Partial, is_closed, IsRest}
use Rattle.ns_types.specs.declared.reply.Rendered.{Rendered}
use Rattle.ns_types.specs.Wire.Responses.{refusal_of, wire, Exchange, wires, Answers}
use Rattle.ns_types.proofs.ReadingLemmas.{MatchBool-map}
use Rattle.ns_http.specs.declared.head.Request.{Request}
use Rattle.ns_http.specs.Head.{asked, FindsWhole}
use Rattle.ns_http.specs.Output.{WritesSome, Queues}
use Rattle.ns_http.specs.Conversation.{requests_of, Serves}
use Rattle.ns_http.specs.Steps.{Makes, Queued, CutsShort}
use Rattle.httparse.specs.Grammar.{print_request}
use Rattle.ns_http.proofs.HeadLemmas.{length-print_request}
use Rattle.ns_http.proofs.StreamLemmas.{Appends-then, Appends-none, WritesSome-then}

-- requests and then others
pub Takes-then : (bytes : List ℕ) (xs ys : List Received) (middle rest : List ℕ) (closed : Bool) → Takes bytes xs false middle → Takes middle ys closed rest →
    Takes bytes (xs ++ ys) closed rest
Takes-then bytes [] ys middle rest closed t u = subst (λ b. Takes b ys closed rest) (sym t.1) u
Takes-then bytes (Refused fault ∷ xs) ys middle rest closed t u = absurd (false≢true t.2)
Takes-then bytes (Whole m ∷ xs) ys middle rest closed t u =
    (t.0, t.1, t.2, MatchBool-map (closes m) (λ x. absurd (false≢true x.1)) (λ x. Takes-then t.1 xs ys middle rest closed x u) t.3)

-- more bytes come
pub Takes-more : (bytes : List ℕ) (xs : List Received) (rest more : List ℕ) → Takes bytes xs false rest → Takes (bytes ++ more) xs false (rest ++ more)
Takes-more bytes [] rest more t = (refl, ap (λ l. l ++ more) t.1)
Takes-more bytes (Refused fault ∷ xs) rest more t = absurd (false≢true t.2)
Takes-more bytes (Whole m ∷ xs) rest more t = (
  t.0,
  t.1 ++ more,
  ap (λ l. l ++ more) t.2 ∙ append_assoc (print_message m) t.1 more,
  MatchBool-map (closes m) (λ x. absurd (false≢true x.1))
      (λ x. Takes-more t.1 xs rest more x) t.3,
)

one_closed : (none : List Received) (b : Bool) (rest : List ℕ) → MatchBool b ((none ≡ none) × (b ≡ true) × (rest ≡ rest)) ((b ≡ false) × (rest ≡ rest))
one_closed none true rest = (refl, refl, refl)
one_closed none false rest = (refl, refl)

pub Takes-one : (bytes : List ℕ) (m : Message) (rest : List ℕ) → IsMessage m → bytes ≡ print_message m ++ rest → Takes bytes (Whole m ∷ []) (closes m) rest
Takes-one bytes m rest is e = (is, rest, e, one_closed [] (closes m) rest)

pub Answers-then : {S : Type 0} (answers : S → Asked → Rendered → S → Type 0) (old middle new : S) (xs ys : List Exchange) → Answers answers old xs middle →
    Answers answers middle ys new → Answers answers old (xs ++ ys) new
Answers-then answers old middle new [] ys a b = subst (λ s. Answers answers s ys new) a b
Answers-then answers old middle new ((Whole m, reply) ∷ xs) ys a b = (a.0, a.1, Answers-then answers a.0 middle new xs ys a.2 b)
Answers-then answers old middle new ((Refused fault, reply) ∷ xs) ys a b = (a.0, Answers-then answers old middle new xs ys a.1 b)

pub wires-append : (xs ys : List Exchange) → wires (xs ++ ys) ≡ wires xs ++ wires ys
wires-append [] ys = refl
wires-append (x ∷ xs) ys = ap (λ l. wire x.1 (is_last x.0) ++ l) (wires-append xs ys) ∙ sym (append_assoc (wire x.1 (is_last x.0)) (wires xs) (wires ys))

pub Serves-then : {S : Type 0} (answers : S → Asked → Rendered → S → Type 0) (old middle new : S) (bytes : List ℕ) (xs ys : List Exchange)
    (between rest : List ℕ) (closed : Bool) → Serves answers old middle bytes xs false between → Serves answers middle new between ys closed rest →
    Serves answers old new bytes (xs ++ ys) closed rest
Serves-then answers old middle new bytes xs ys between rest closed a b = record {
  takes = subst (λ l. Takes bytes l closed rest) (sym (map-append (λ (x : Exchange). x.0) xs ys))
      (Takes-then bytes (requests_of xs) (requests_of ys) between rest closed a.takes b.takes);
  answered = Answers-then answers old middle new xs ys a.answered b.answered;
}

pub Queues-then : (u v w : Option (List ℕ)) (p q r a b : List ℕ) → Queues u v p q a → Queues v w q r b → Queues u w p r (a ++ b)
Queues-then u v w p q r a b x y = (
  x.0 ++ y.0,
  Appends-then u v w x.0 y.0 x.1 y.1,
  sym (append_assoc p a b) ∙ ap (λ l. l ++ b) x.2 ∙ append_assoc x.0 q b ∙ ap (λ l. x.0 ++ l) y.2 ∙
      sym (append_assoc x.0 y.0 r),
)

pub Queued-then : {S : Type 0} (answers : S → Asked → Rendered → S → Type 0) (old middle new : S) (bytes : List ℕ) (xs ys : List Exchange)
    (between rest : List ℕ) (closed : Bool) (u v w : Option (List ℕ)) (p q r : List ℕ) (n o m : ℕ) →
    Queued answers old middle bytes between u v p q n o xs false → Queued answers middle new between rest v w q r o m ys closed →
    Queued answers old new bytes rest u w p r n m (xs ++ ys) closed
Queued-then answers old middle new bytes xs ys between rest closed u v w p q r n o m a b = record {
  serves = Serves-then answers old middle new bytes xs ys between rest closed a.serves b.serves;
  writes = subst (Queues u w p r) (sym (wires-append xs ys)) (Queues-then u v w p q r (wires xs) (wires ys) a.writes b.writes);
  count = omega (arith, a.count, b.count, length-append xs ys);
}

-- nothing was made yet
pub queued_none : {S : Type 0} (answers : S → Asked → Rendered → S → Type 0) (s : S) (bytes : List ℕ) (u : Option (List ℕ)) (p : List ℕ) (n : ℕ) →
    Queued answers s s bytes bytes u u p p n n [] false
queued_none answers s bytes u p n = record {
  serves = record { takes = (refl, refl); answered = refl };
  writes = ([], Appends-none u, append-nil p);
  count =
      omega arith;
}

-- once what waited is written, all is written
pub queued_done : {S : Type 0} (answers : S → Asked → Rendered → S → Type 0) (old new : S) (bytes rest : List ℕ) (u v w : Option (List ℕ)) (p : List ℕ)
    (n o : ℕ) (xs : List Exchange) (closed : Bool) → Queued answers old new bytes rest u v [] p n o xs closed → Appends v w p →
    Makes answers old new bytes rest u w n o xs closed
queued_done answers old new bytes rest u v w p n o xs closed a flushed = record {
  serves = a.serves;
  writes = subst (Appends u w) (sym a.writes.2) (Appends-then u v w a.writes.0 p a.writes.1 flushed);
  count = a.count;
}

-- all was answered, and a part of what waited is written
pub queued_cut : {S : Type 0} (answers : S → Asked → Rendered → S → Type 0) (old new : S) (bytes rest : List ℕ) (u v w : Option (List ℕ)) (p q : List ℕ)
    (n o : ℕ) (xs : List Exchange) (closed : Bool) → Queued answers old new bytes rest u v p q n o xs closed → WritesSome v w q →
    CutsShort answers old new bytes u w p
queued_cut answers old new bytes rest u v w p q n o xs closed a cut =
    (xs, closed, rest, a.serves, subst (WritesSome u w) (sym a.writes.2) (WritesSome-then u v w a.writes.0 q a.writes.1 cut))

-- one whole request
serves_whole : {S : Type 0} (answers : S → Asked → Rendered → S → Type 0) (old new : S) (input : List ℕ) (request : Request) (len : ℕ) (close : Bool)
    (f : FindsWhole input request len close) (reply : Rendered) → answers old (asked request) reply new →
    Serves answers old new input ((Whole f.message, reply) ∷ []) close (drop len input)
serves_whole answers old new input request len close f reply a = record {
  takes = subst (λ b. Takes input (Whole f.message ∷ []) b (drop len input)) (sym f.close_is) (Takes-one input f.message (drop len input) f.is_message f.reads);
  answered = (new, subst (λ q. answers old q reply new) f.shows a, refl);
}

pub queued_whole : {S : Type 0} (answers : S → Asked → Rendered → S → Type 0) (old new : S) (input : List ℕ) (request : Request) (len : ℕ) (close : Bool)
    (f : FindsWhole input request len close) (reply : Rendered) (u v : Option (List ℕ)) (p q : List ℕ) (n : ℕ) → answers old (asked request) reply new →
    Queues u v p q (wire reply close) → Queued answers old new input (drop len input) u v p q n (n + 1) ((Whole f.message, reply) ∷ []) close
queued_whole answers old new input request len close f reply u v p q n a w = record {
  serves = serves_whole answers old new input request len close f reply a;
  writes = subst (Queues u v p q) (ap (wire reply) f.close_is ∙ sym (append-nil _)) w;
  count = omega arith;
}

pub cut_whole : {S : Type 0} (answers : S → Asked → Rendered → S → Type 0) (old new : S) (input : List ℕ) (request : Request) (len : ℕ) (close : Bool)
    (f : FindsWhole input request len close) (reply : Rendered) (u v : Option (List ℕ)) (p : List ℕ) → answers old (asked request) reply new →
    WritesSome u v (p ++ wire reply close) → CutsShort answers old new input u v p
cut_whole answers old new input request len close f reply u v p a w = (
  (Whole f.message, reply) ∷ [],
  close,
  drop len input,
  serves_whole answers old new input request len close f reply a,
  subst (λ l. WritesSome u v (p ++ l))
      (ap (wire reply) f.close_is ∙ sym (append-nil _)) w,
)

-- a refused head
serves_refused : {S : Type 0} (answers : S → Asked → Rendered → S → Type 0) (s : S) (input : List ℕ) (fault : HeadFault) → RefusesHead input fault →
    Serves answers s s input ((Refused fault, refusal_of fault) ∷ []) true input
serves_refused answers s input fault r = record { takes = (r, refl, refl, refl); answered = (refl, refl) }

pub queued_refused : {S : Type 0} (answers : S → Asked → Rendered → S → Type 0) (s : S) (input : List ℕ) (fault : HeadFault) (u v : Option (List ℕ))
    (p q : List ℕ) (n : ℕ) → RefusesHead input fault → Queues u v p q (wire (refusal_of fault) true) →
    Queued answers s s input input u v p q n (n + 1) ((Refused fault, refusal_of fault) ∷ []) true
queued_refused answers s input fault u v p q n r w = record {
  serves = serves_refused answers s input fault r;
  writes = subst (Queues u v p q) (sym (append-nil _)) w;
  count = omega arith;
}

pub cut_refused : {S : Type 0} (answers : S → Asked → Rendered → S → Type 0) (s : S) (input : List ℕ) (fault : HeadFault) (u v : Option (List ℕ)) (p : List ℕ) →
    RefusesHead input fault → WritesSome u v (p ++ wire (refusal_of fault) true) → CutsShort answers s s input u v p
cut_refused answers s input fault u v p r w =
    ((Refused fault, refusal_of fault) ∷ [], true, input, serves_refused answers s input fault r, subst (λ l. WritesSome u v (p ++ l)) (sym (append-nil _)) w)

-- a whole request takes some bytes, and they are there
pub length-whole : (input : List ℕ) (request : Request) (len : ℕ) (close : Bool) (f : FindsWhole input request len close) → (0 < len) × (len ≤ length input)
length-whole input request len close f = (
  omega (arith, f.len_is, length-append (print_request f.message.head) f.message.body, length-print_request f.message.head f.is_message.head),
  omega
      (arith, ap length f.reads, length-append (print_message f.message) (drop len input), f.len_is),
)

-- exchanges, and then a cut
pub CutsShort-then : {S : Type 0} (answers : S → Asked → Rendered → S → Type 0) (old middle new : S) (bytes : List ℕ) (xs : List Exchange) (between : List ℕ)
    (u v w : Option (List ℕ)) (p q : List ℕ) (n o : ℕ) → Queued answers old middle bytes between u v p q n o xs false →
    CutsShort answers middle new between v w q → CutsShort answers old new bytes u w p
CutsShort-then answers old middle new bytes xs between u v w p q n o a b =
    let text : p ++ wires (xs ++ b.0) ≡ a.writes.0 ++ (q ++ wires b.0) =
    ap (λ l. p ++ l) (wires-append xs b.0) ∙ sym (append_assoc p (wires xs) (wires b.0)) ∙ ap (λ l. l ++ wires b.0) a.writes.2 ∙
    append_assoc a.writes.0 q (wires b.0) in (
      xs ++ b.0,
      b.1,
      b.2,
      Serves-then answers old middle new bytes xs b.0 between b.2 b.1 a.serves b.3,
      subst (WritesSome u w) (sym text)
          (WritesSome-then u v w a.writes.0 (q ++ wires b.0) a.writes.1 b.4),
    )

-- more bytes come behind what was taken
pub Serves-more : {S : Type 0} (answers : S → Asked → Rendered → S → Type 0) (old new : S) (bytes : List ℕ) (xs : List Exchange) (rest more : List ℕ) →
    Serves answers old new bytes xs false rest → Serves answers old new (bytes ++ more) xs false (rest ++ more)
Serves-more answers old new bytes xs rest more s =
    record { takes = Takes-more bytes (requests_of xs) rest more s.takes; answered = s.answered }

-- a connection that goes on ends between two requests or inside one
pub end_of : (rest : List ℕ) → (0 < length rest → IsPartial rest) → (end : End) × (is_closed end ≡ false) × IsRest end rest
end_of [] p = (Clean, refl, refl)
end_of (b ∷ bs) p = let some : 0 < length (b ∷ bs) = omega arith in (Partial, refl, (p some, some))

-- nothing came after the exchanges, and a part of what waited is written
pub waits_cut : {S : Type 0} (answers : S → Asked → Rendered → S → Type 0) (old new new' : S) (bytes rest : List ℕ) (u v v' w : Option (List ℕ)) (q q' : List ℕ)
    (n o : ℕ) (xs : List Exchange) → Queued answers old new bytes rest u v [] q n o xs false → new' ≡ new → v' ≡ v → q' ≡ q → WritesSome v' w q' →
    CutsShort answers old new' bytes u w []
waits_cut answers old new new' bytes rest u v v' w q q' n o xs a es ev eq cut =
    let there = subst (λ x. WritesSome x w q) ev (subst (WritesSome v' w) eq cut) in
    subst (λ s. CutsShort answers old s bytes u w []) (sym es) (queued_cut answers old new bytes rest u v w [] q n o xs false a there)
