-- What parts of a body take, and what writing them one after the other leaves.
use Rattle.std.proofs.Common.{◌≡◌, ℕ, ◌+◌, ◌*◌, ◌<◌, ◌≤◌, ◌^◌, Bool, true, false, cond, ◌&&◌, List, [], ◌∷◌, ◌++◌, length, get_or, take, drop}
use Rattle.std.proofs.Common.{Result, Ok, Err, refl, sym, ap, subst, ◌∙◌, arith, codes, decimal, length-append}
use Rattle.std.specs.declared.alloc.AllocError.{AllocError}
use Rattle.std.specs.List.{flat_map}
use Rattle.std.specs.Option.{option_map_or}
use Rattle.std.specs.Prelude.{Option, None, Some, sum_by}
use Rattle.std.proofs.lemmas.List.{append-nil, take_more, take-append-drop}
use Rattle.std.proofs.lemmas.List.Concat.{flat_map-cons, flat_map-append}
use Rattle.std.proofs.lemmas.List.Sums.{sum_by-cons}
use Rattle.json.specs.Print.{begins, ends, escape, escape_byte, print_from, quoted, separator, token_text}
use Rattle.json.specs.Token.{Token, begin_object, end_object, begin_array, end_array, key, string, number}
use Rattle.json.specs.Tree.{room}
use Rattle.json.specs.Written.{Written}
use Rattle.serde_json.specs.Data as Data
use Rattle.ns_types.specs.declared.evaluation.Status.{Status}
use Rattle.ns_types.specs.declared.id.IdKind.TheVariants as IdKind
use Rattle.ns_types.specs.State.Id.{id_text}
use Rattle.ns_types.specs.State.Names.{Name}
use Rattle.ns_types.specs.Wire.Words.{status_text}
use Rattle.ns_json.specs.Part.{Adds, tokens_of}
use Rattle.ns_json.specs.Replies.{applied_json}
use Rattle.ns_json.proofs.JobParts.{list_then, regroup}
use Rattle.ns_json.proofs.Parts.{added, adds_more, adds_no_more, room-append}
use Rattle.ns_json.proofs.Replies.{length-escaped_id, length-number}
use Rattle.ns_replies.specs.Bodies.{WritesIn, id_tokens, text_bytes, text_tokens}

-- ---- one write after another

module _ {E : Type 0} (n : ℕ) where
  -- a single write
  pub writes_in : (r : Result (Unit {0}) E) (a b : Written) (ts us : List Token) → ts ≡ us → room ts ≤ n → Adds r a b ts → WritesIn n r a b us
  writes_in (Ok u) a b ts us e small h = record {
    follows = record { tokens = h.ok ∙ ap (λ x. a.tokens ++ x) e; before = h.before };
    fits = subst (λ x. room x ≤ n) e small;
    room = tt;
  }
  writes_in (Err x) a b ts us e small h = record { follows = tt; fits = tt; room = omega (arith, h.room, small) }

  -- the first of several writes fails
  pub writes_none : (e : E) (a b : Written) (ts all : List Token) → room ts ≤ n → Adds (Err e) a b ts → WritesIn n (Err e) a b all
  writes_none e a b ts all small h = record { follows = tt; fits = tt; room = omega (arith, h.room, small) }

-- a write that fails after others
pub writes_no_more : (n : ℕ) (e : AllocError) (a b c : Written) (ts us all : List Token) → room ts + room us ≤ n → Adds added a b ts → Adds (Err e) b c us →
    WritesIn n (Err e) a c all
writes_no_more n e a b c ts us all small first second = record { follows = tt; fits = tt; room = omega (arith, small, first.room, second.room) }

-- the last of several writes
pub writes_last : {r : Result (Unit {0}) AllocError} (n : ℕ) (a b c : Written) (ts us all : List Token) → ts ++ us ≡ all → room ts + room us ≤ n →
    Adds added a b ts → Adds r b c us → WritesIn n r a c all
writes_last {r = r} n a b c ts us all e small first second =
    writes_in n r a c (ts ++ us) all e (omega (arith, room-append ts us, small)) (adds_more a b c ts us first second)

-- ---- items

more_items : {X A : Type 0} (f : X → List A) (xs : List X) (i : ℕ) (d : X) → i < length xs → flat_map f (take (i + 1) xs) ≡ flat_map f (take i xs)
    ++ f (get_or xs i d)
more_items f xs i d lt = ap (flat_map f) (take_more xs i d lt) ∙ flat_map-append f (take i xs) (get_or xs i d ∷ []) ∙
    ap (λ y. flat_map f (take i xs) ++ y) (flat_map-cons f (get_or xs i d) [] ∙ append-nil (f (get_or xs i d)))

module _ {X : Type 0} (f : X → List Token) where
  -- one more item
  pub adds_item : (a b c : Written) (xs : List X) (i : ℕ) (d : X) → i < length xs → Adds added a b (flat_map f (take i xs)) →
      Adds added b c (f (get_or xs i d)) → Adds added a c (flat_map f (take (i + 1) xs))
  adds_item a b c xs i d lt first second =
      subst (λ ts. Adds added a c ts) (sym (more_items f xs i d lt)) (adds_more a b c (flat_map f (take i xs)) (f (get_or xs i d)) first second)

  -- the item fails
  pub adds_no_item : (e : AllocError) (a b c : Written) (xs : List X) (i : ℕ) (d : X) → i < length xs → Adds added a b (flat_map f (take i xs)) →
      Adds (Err e) b c (f (get_or xs i d)) → Adds (Err e) a c (flat_map f xs)
  adds_no_item e a b c xs i d lt first second =
      let all : flat_map f xs ≡ (flat_map f (take i xs) ++ f (get_or xs i d)) ++ flat_map f (drop (i + 1) xs) =
      ap (flat_map f) (sym (take-append-drop (i + 1) xs)) ∙ flat_map-append f (take (i + 1) xs) (drop (i + 1) xs) ∙
      ap (λ y. y ++ flat_map f (drop (i + 1) xs)) (more_items f xs i d lt) in
      subst (λ ts. Adds (Err e) a c ts) (sym all) (adds_no_more e a c (flat_map f (take i xs) ++ f (get_or xs i d)) (flat_map f (drop (i + 1) xs))
      (adds_more a b c (flat_map f (take i xs)) (f (get_or xs i d)) first second))

  -- the same of an item that is known by another name
  pub adds_item_at : (a b c : Written) (xs : List X) (i : ℕ) (x : X) → i < length xs → x ≡ get_or xs i x → Adds added a b (flat_map f (take i xs)) →
      Adds added b c (f x) → Adds added a c (flat_map f (take (i + 1) xs))
  adds_item_at a b c xs i x lt is first second = adds_item a b c xs i x lt first (subst (λ y. Adds added b c (f y)) is second)

  pub adds_no_item_at : (e : AllocError) (a b c : Written) (xs : List X) (i : ℕ) (x : X) → i < length xs → x ≡ get_or xs i x →
      Adds added a b (flat_map f (take i xs)) → Adds (Err e) b c (f x) → Adds (Err e) a c (flat_map f xs)
  adds_no_item_at e a b c xs i x lt is first second = adds_no_item e a b c xs i x lt first (subst (λ y. Adds (Err e) b c (f y)) is second)

-- ---- tokens take their room at most

length-separator-le : (after : Bool) (t : Token) → length (separator after t) ≤ 1
length-separator-le after t = by (after && begins t)
  where
    by : (b : Bool) → length {A = ℕ} (cond b (44 ∷ []) []) ≤ 1
    by true = omega arith
    by false = omega arith

pub length-print_from-le : (after : Bool) (ts : List Token) → length (print_from after ts) ≤ room ts
unfolding print_from
length-print_from-le after [] = omega arith
length-print_from-le after (t ∷ ts) =
    omega (
      arith,
      length-append (separator after t) (token_text t ++ print_from (ends t) ts),
      length-append (token_text t) (print_from (ends t) ts),
      length-separator-le after t,
      length-print_from-le (ends t) ts,
    )

-- ---- the room of an id and of a status

length-quoted : (s : List ℕ) → length (quoted s) ≡ length (escape s) + 2
length-quoted s = omega (arith, length-append (escape s) (34 ∷ []))

pub escaped_status : (status : Status) → length (escape (status_text status)) ≤ 8
unfolding escape_byte
escaped_status Status.Pending = omega arith
escaped_status Status.Blocked = omega arith
escaped_status Status.Complete = omega arith
escaped_status Status.Failed = omega arith
escaped_status Status.Canceled = omega arith

pub escaped_follower : (follower : Option ℕ) → length (escape (option_map_or (id_text IdKind.Evaluation) follower [])) ≤ 36
escaped_follower None = omega arith
escaped_follower (Some n) = omega (arith, length-escaped_id IdKind.Evaluation n)

-- ---- the room of bodies

pub registered_room : (a b : ℕ) (id : List ℕ) → a < 2 ^ 64 → b < 2 ^ 64 → length (escape id) ≤ 36
    → room (begin_object ∷ key (codes "EvalCreateIndex") ∷ number (decimal a) ∷ key (codes "EvalID") ∷ string id ∷ key (codes "JobModifyIndex") ∷ number
    (decimal b) ∷ end_object ∷ []) ≤ 132
unfolding escape_byte
registered_room a b id p q r = omega (arith, length-number a p, length-number b q, length-append (escape id) (34 ∷ []), r)

pub stopped_room : (index : ℕ) (id : List ℕ) → index < 2 ^ 64 → length (escape id) ≤ 36
    → room (begin_object ∷ key (codes "EvalID") ∷ string id ∷ key (codes "Index") ∷ number (decimal index) ∷ end_object ∷ []) ≤ 83
unfolding escape_byte
stopped_room index id small len = omega (arith, length-number index small, length-append (escape id) (34 ∷ []), len)

pub one_id_room : (name id : List ℕ) → text_bytes name ≤ 10 → length (escape id) ≤ 36 → room (begin_object ∷ key name ∷ string id ∷ end_object ∷ []) ≤ 54
one_id_room name id short len = omega (arith, length-append (quoted name) (58 ∷ []), length-append (escape id) (34 ∷ []), short, len)

pub finished_room : (id status : List ℕ) → length (escape id) ≤ 36 → length (escape status) ≤ 8
    → room (begin_object ∷ key (codes "Follower") ∷ string id ∷ key (codes "Status") ∷ string status ∷ end_object ∷ []) ≤ 76
unfolding escape_byte
finished_room id status a b = omega (arith, length-append (escape id) (34 ∷ []), length-append (escape status) (34 ∷ []), a, b)

pub nacked_room : (status : List ℕ) → length (escape status) ≤ 8 → room (begin_object ∷ key (codes "Status") ∷ string status ∷ end_object ∷ []) ≤ 25
unfolding escape_byte
nacked_room status h = omega (arith, length-append (escape status) (34 ∷ []), h)

-- ---- the body of an Apply

pub room-ids : (numbers : List ℕ) → room (id_tokens numbers) ≡ length numbers * 39
room-ids [] = refl
room-ids (n ∷ ns) = omega (arith, length-quoted (id_text IdKind.Allocation n), length-escaped_id IdKind.Allocation n, room-ids ns)

pub room-texts : (texts : List Name) → room (text_tokens texts) ≡ sum_by text_bytes texts
room-texts [] = refl
room-texts (text ∷ texts) = omega (arith, sum_by-cons text_bytes text texts, room-texts texts)

abbrev pub first_tokens : List Token
first_tokens = begin_object ∷ key (codes "Committed") ∷ begin_array ∷ []

abbrev pub middle_tokens : List Token
middle_tokens = end_array ∷ key (codes "Dropped") ∷ begin_array ∷ []

abbrev pub last_tokens : List Token
last_tokens = end_array ∷ end_object ∷ []

pub room-first : room first_tokens ≡ 17
unfolding escape_byte
room-first = refl

pub room-middle : room middle_tokens ≡ 15
unfolding escape_byte
room-middle = refl

pub room-last : room last_tokens ≡ 4
room-last = refl

pub applied_tokens : (made : List ℕ) (dropped : List Name) → (((first_tokens ++ id_tokens made) ++ middle_tokens) ++ text_tokens dropped) ++ last_tokens
    ≡ tokens_of (applied_json made dropped)
applied_tokens made dropped =
    regroup first_tokens (id_tokens made) middle_tokens (text_tokens dropped) last_tokens
    ∙ ap (λ ts. first_tokens ++ (id_tokens made ++ (end_array ∷ key (codes "Dropped") ∷ begin_array ∷ ts)))
    (list_then (λ text. Data.string text) dropped (end_object ∷ []))
    ∙ ap (λ ts. first_tokens ++ ts) (list_then (λ n. Data.string (id_text IdKind.Allocation n)) made _)

-- ---- the bytes of a text

pub escape_more : (text : List ℕ) (i : ℕ) → i < length text → length (escape (take (i + 1) text)) ≡ length (escape (take i text))
    + length (escape_byte (get_or text i 0))
escape_more text i lt = ap length (more_items escape_byte text i 0 lt) ∙ length-append (escape (take i text)) (escape_byte (get_or text i 0))

pub text_bytes_is : (text : List ℕ) → text_bytes text ≡ length (escape text) + 3
text_bytes_is text = omega (arith, length-append (escape text) (34 ∷ []))
