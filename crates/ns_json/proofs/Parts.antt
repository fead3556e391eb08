-- Writing on after some parts.
use Rattle.std.proofs.Common.{◌≡◌, ℕ, ◌+◌, ◌<◌, List, [], ◌∷◌, ◌++◌, length, get_or, take, drop, map, Result, Ok, Err, refl, sym, ap, ◌∙◌, arith, append_assoc}
use Rattle.std.specs.declared.alloc.AllocError.{AllocError}
use Rattle.std.proofs.lemmas.List.{append-nil, take_more, take-append-drop, map-append}
use Rattle.ns_json.specs.declared.part.Part.{Part}
use Rattle.json.specs.Token.{Token}
use Rattle.json.specs.Tree.{room}
use Rattle.json.specs.Written.{Written}
use Rattle.std.specs.Prelude.{OnOk}
use Rattle.std.specs.List.{flat_map}
use Rattle.std.proofs.lemmas.List.Concat.{flat_map-cons, flat_map-append}
use Rattle.json.specs.Token.{end_array}
use Rattle.json.specs.Tree.{items_tokens}
use Rattle.serde_json.specs.Data.{Data}
use Rattle.serde_json.specs.View.{items_of}
use Rattle.serde_json.specs.Written.{items_outline}
use Rattle.ns_json.specs.Part.{Adds, Follows, token_of, tokens_of}

abbrev pub added : Result (Unit {0}) AllocError
added = Ok tt

pub room-append : (ts us : List Token) → room (ts ++ us) ≡ room ts + room us
room-append [] us = omega arith
room-append (t ∷ ts) us = omega (arith, room-append ts us)

-- what is written after the first tokens
pub adds_more : {r : Result (Unit {0}) AllocError} (a b c : Written) (ts us : List Token) → Adds added a b ts → Adds r b c us → Adds r a c (ts ++ us)
adds_more {r = Ok u} a b c ts us first second =
    record {
      ok = second.ok ∙ ap (λ x. x ++ us) first.ok ∙ append_assoc a.tokens ts us;
      before = second.before ∙ first.before;
      room =
          omega (arith, room-append ts us, first.room, second.room);
    }
adds_more {r = Err e} a b c ts us first second =
    record { ok = tt; before = second.before ∙ first.before; room = omega (arith, room-append ts us, first.room, second.room) }

-- a failure leaves no room for what would have come after
pub adds_no_more : (e : AllocError) (a b : Written) (ts us : List Token) → Adds (Err e) a b ts → Adds (Err e) a b (ts ++ us)
adds_no_more e a b ts us first = record { ok = tt; before = first.before; room = omega (arith, room-append ts us, first.room) }

-- one more part
pub adds_part : (a b c : Written) (ps : List Part) (i : ℕ) (d : Part) → i < length ps → Adds added a b (map token_of (take i ps)) →
    Adds added b c (token_of (get_or ps i d) ∷ [])
    → Adds added a c (map token_of (take (i + 1) ps))
adds_part a b c ps i d lt first second =
    let e : map token_of (take (i + 1) ps) ≡ map token_of (take i ps) ++ token_of (get_or ps i d) ∷ [] = ap (map token_of) (take_more ps i d lt) ∙
    map-append token_of (take i ps) (get_or ps i d ∷ []) in
    rw e (adds_more a b c (map token_of (take i ps)) (token_of (get_or ps i d) ∷ []) first second)

pub adds_no_part : (e : AllocError) (a b c : Written) (ps : List Part) (i : ℕ) (d : Part) → i < length ps → Adds added a b (map token_of (take i ps)) →
    Adds (Err e) b c (token_of (get_or ps i d) ∷ [])
    → Adds (Err e) a c (map token_of ps)
adds_no_part e a b c ps i d lt first second =
    let x = get_or ps i d in
    let parts : map token_of ps ≡ (map token_of (take i ps) ++ token_of x ∷ []) ++ map token_of (drop (i + 1) ps) =
    ap (map token_of) (sym (take-append-drop (i + 1) ps) ∙ ap (λ y. y ++ drop (i + 1) ps) (take_more ps i d lt)) ∙
    map-append token_of (take i ps ++ x ∷ []) (drop (i + 1) ps) ∙ ap (λ y. y ++ map token_of (drop (i + 1) ps)) (map-append token_of (take i ps) (x ∷ []))
    in
    rw parts (adds_no_more e a c (map token_of (take i ps) ++ token_of x ∷ []) (map token_of (drop (i + 1) ps))
    (adds_more a b c (map token_of (take i ps)) (token_of x ∷ []) first second))

-- ---- where nothing is said of a failure

pub follows : {E : Type 0} (r : Result (Unit {0}) E) (a b : Written) (ts us : List Token) → ts ≡ us → Adds r a b ts → OnOk r (Follows a b us)
follows (Ok u) a b ts us e h = record { tokens = h.ok ∙ ap (λ x. a.tokens ++ x) e; before = h.before }
follows (Err x) a b ts us e h = tt

pub follows_more : (a b c : Written) (ts us : List Token) → Follows a b ts → Follows b c us → Follows a c (ts ++ us)
follows_more a b c ts us p q = record { tokens = q.tokens ∙ ap (λ x. x ++ us) p.tokens ∙ append_assoc a.tokens ts us; before = q.before ∙ p.before }

-- one more item of a list
pub follows_item : {X : Type 0} (f : X → List Token) (a b c : Written) (xs : List X) (i : ℕ) (x : X) → i < length xs → x ≡ get_or xs i x →
    Follows a b (flat_map f (take i xs)) → Follows b c (f x)
    → Follows a c (flat_map f (take (i + 1) xs))
follows_item f a b c xs i x lt is p q =
    let e : flat_map f (take (i + 1) xs) ≡ flat_map f (take i xs) ++ f x = ap (flat_map f) (take_more xs i x lt ∙ rw (← is) refl) ∙
    flat_map-append f (take i xs) (x ∷ []) ∙ ap (λ y. flat_map f (take i xs) ++ y) (flat_map-cons f x [] ∙ append-nil (f x)) in
    rw e (follows_more a b c (flat_map f (take i xs)) (f x) p q)

-- the tokens of a list
pub list_tokens : {X : Type 0} (json : X → Data) (xs : List X) → items_tokens (items_outline (items_of (map json xs))) ≡ flat_map (λ x. tokens_of (json x)) xs
    ++ end_array ∷ []
list_tokens json [] = refl
list_tokens json (x ∷ xs) =
    ap (λ t. tokens_of (json x) ++ t) (list_tokens json xs) ∙ sym (append_assoc (tokens_of (json x)) (flat_map (λ y. tokens_of (json y)) xs) (end_array ∷ [])) ∙
    ap (λ t. t ++ end_array ∷ []) (sym (flat_map-cons (λ y. tokens_of (json y)) x xs))

pub follows_last : {E : Type 0} (r : Result (Unit {0}) E) (a b c : Written) (ts us all : List Token) → ts ++ us ≡ all → Follows a b ts → Adds r b c us →
    OnOk r (Follows a c all)
follows_last (Ok u) a b c ts us all e p q = let f = follows_more a b c ts us p (follows (Ok u) b c us us refl q) in
    record { tokens = f.tokens ∙ ap (λ x. a.tokens ++ x) e; before = f.before }
follows_last (Err x) a b c ts us all e p q = tt

pub follows_ok : {E : Type 0} (u : Unit {0}) (a b : Written) (ts : List Token) → Adds {E = E} (Ok u) a b ts → Follows a b ts
follows_ok u a b ts h = record { tokens = h.ok; before = h.before }
