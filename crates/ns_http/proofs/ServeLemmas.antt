-- What follows from how far a connection has come.
use Rattle.std.proofs.Common.{◌≡◌, ℕ, ◌+◌, ◌-◌, ◌^◌, min, ◌<◌, ◌≤◌, ◌⊎◌, inl, inr, true, false, List, [], ◌∷◌, ◌++◌, length, sym, refl, ap, ◌∙◌, subst}
use Rattle.std.proofs.Common.{append_assoc, arith}
use Rattle.std.specs.Prelude.{Option, Some, None}
use Rattle.std.specs.Io.KnownBytes.{Consumes, Appends, Keeps}
use Rattle.std.proofs.lemmas.Bool.{cases_lt}
use Rattle.std.proofs.lemmas.List.{length-append}
use Rattle.ns_types.specs.Wire.Http.{Asked, IsPartial, Takes, End, Clean, Partial, Closed, is_closed, IsRest}
use Rattle.ns_types.specs.declared.reply.Rendered.{Rendered}
use Rattle.ns_types.specs.Wire.Responses.{wires}
use Rattle.ns_http.specs.declared.counting.Counts.{Counts}
use Rattle.ns_http.specs.Counts.{IsOpen, HasGrown}
use Rattle.ns_http.specs.Output.{WritesSome}
use Rattle.ns_http.specs.Conversation.{requests_of, Serves, streams_of, Conversation, CutShort}
use Rattle.ns_http.specs.Steps.{Advances, CutsShort}
use Rattle.ns_http.proofs.Progress.{Progress}
use Rattle.ns_http.proofs.CountsLemmas.{HasGrown-none, HasGrown-then}
use Rattle.ns_http.proofs.StreamLemmas.{Appends-then, Consumes-then, Consumes-kept, Consumes-none, Appends-none, WritesSome-then}
use Rattle.ns_http.proofs.EngineLemmas.{Serves-then, Serves-more, wires-append, end_of}

-- a connection before its first read
pub progress_first : {S : Type 0} (answers : S → Asked → Rendered → S → Type 0) (s : S) (r c : Option (List ℕ)) (unread : List ℕ) (k w : Counts) → unread ≡ [] →
    Progress answers s s r r c c unread 0 0 0 k k w w
progress_first answers s r c unread k w e = record {
  read = [];
  exchanges = [];
  consumes = Consumes-none r;
  serves = record { takes = (refl, sym e); answered = refl };
  writes = Appends-none c;
  count = refl;
  few = omega arith;
  partial = λ some. absurd (omega (arith, ap length e));
  room = omega (arith, ap length e);
  stays = λ more short. absurd (omega (arith, short));
  wanted_fits = omega arith;
  calls_most = omega arith;
  calls_least = inl (omega arith);
  read_faults = omega arith;
  room_given = omega arith;
  writer_grows = HasGrown-none w;
  keeps_open = λ o. o;
  writer_keeps_open = λ o. o;
}

pub calls_more : (k i a b : ℕ) → (k + i ≤ a) ⊎ (a ≡ 2 ^ 64 - 1) → b ≡ min (a + 1) (2 ^ 64 - 1) → (k + (i + 1) ≤ b) ⊎ (b ≡ 2 ^ 64 - 1)
calls_more k i a b (inl least) e = elim (cases_lt a (2 ^ 64 - 1)) [ inl below ↦ inl (omega arith) | inr above ↦ inr (omega arith) ]
calls_more k i a b (inr most) e = inr (omega arith)

-- it goes on after a read whose requests were answered
pub progress_more : {S : Type 0} {answers : S → Asked → Rendered → S → Type 0} {s t : S} {r0 r1 c0 c1 : Option (List ℕ)} {unread : List ℕ} {wanted n i : ℕ}
    {k0 k1 w0 w1 : Counts} (p : Progress answers s t r0 r1 c0 c1 unread wanted n i k0 k1 w0 w1) (u : S) (r2 c2 : Option (List ℕ))
    (more unread' unread'' : List ℕ) (wanted' n' : ℕ) (k2 w2 : Counts) → Consumes r1 r2 more → unread' ≡ unread ++ more → length unread' ≤ 1130496 →
    Advances answers t u unread' unread'' c1 c2 n n' (Some wanted') → k2.calls ≡ min (k1.calls + 1) (2 ^ 64 - 1) → k1.faults ≤ k2.faults →
    min k1.least_room 65536 ≤ k2.least_room →
    HasGrown w1 w2 → (IsOpen k1 → IsOpen k2) → (IsOpen w1 → IsOpen w2) → Progress answers s u r0 r2 c0 c2 unread'' wanted' n' (i + 1) k0 k2 w0 w2
progress_more {S} {answers} {s} {t} {r0} {r1} {c0} {c1} {unread} {wanted} {n} {i} {k0} {k1} {w0} {w1}
    p u r2 c2 more unread' unread'' wanted' n' k2 w2 consumes joined fits a calls read_faults room write_grows stays writer_stays =
    let all = Serves-more answers s t p.read p.exchanges unread more p.serves in record {
      read = p.read ++ more;
      exchanges = p.exchanges ++ a.0;
      consumes = Consumes-then r0 r1 r2 p.read more p.consumes consumes;
      serves = Serves-then answers s t u (p.read ++ more) p.exchanges a.0 unread' unread'' false
          (subst (Serves answers s t (p.read ++ more) p.exchanges false) (sym joined) all) a.1.serves;
      writes = subst (Appends c0 c2) (sym (wires-append p.exchanges a.0)) (Appends-then c0 c1 c2 (wires p.exchanges) (wires a.0) p.writes a.1.writes);
      count = omega (arith, p.count, a.1.count, length-append p.exchanges a.0);
      few = omega (arith, p.few, a.3);
      partial = λ _. a.2.partial;
      room = a.2.room;
      stays = a.2.stays;
      wanted_fits = a.2.wanted_fits;
      calls_most = omega (arith, p.calls_most);
      calls_least = calls_more k0.calls i k1.calls k2.calls p.calls_least calls;
      read_faults = omega (arith, p.read_faults);
      room_given = omega (arith, p.room_given, room);
      writer_grows = HasGrown-then w0 w1 w2 p.writer_grows write_grows;
      keeps_open = λ o. stays (p.keeps_open o);
      writer_keeps_open = λ o. writer_stays (p.writer_keeps_open o);
    }

-- it goes on after a read that leaves the request short
pub progress_short : {S : Type 0} {answers : S → Asked → Rendered → S → Type 0} {s t : S} {r0 r1 c0 c1 : Option (List ℕ)} {unread : List ℕ} {wanted n i : ℕ}
    {k0 k1 w0 w1 : Counts} (p : Progress answers s t r0 r1 c0 c1 unread wanted n i k0 k1 w0 w1) (r2 : Option (List ℕ)) (more unread' : List ℕ) (k2 : Counts) →
    Consumes r1 r2 more → unread' ≡ unread ++ more → length unread' < wanted → k2.calls ≡ min (k1.calls + 1) (2 ^ 64 - 1) →
    k1.faults ≤ k2.faults → min k1.least_room 65536 ≤ k2.least_room →
    (IsOpen k1 → IsOpen k2) → Progress answers s t r0 r2 c0 c1 unread' wanted n (i + 1) k0 k2 w0 w1
progress_short {S} {answers} {s} {t} {r0} {r1} {c0} {c1} {unread} {wanted} {n} {i} {k0} {k1} {w0} {w1}
    p r2 more unread' k2 consumes joined short calls read_faults room stays = record {
      read = p.read ++ more;
      exchanges = p.exchanges;
      consumes = Consumes-then r0 r1 r2 p.read more p.consumes consumes;
      serves = subst (Serves answers s t (p.read ++ more) p.exchanges false) (sym joined) (Serves-more answers s t p.read p.exchanges unread more p.serves);
      writes = p.writes;
      count = p.count;
      few = omega (arith, p.few);
      partial = λ _. subst IsPartial (sym joined) (p.stays more (omega (arith, short, ap length joined)));
      room = omega (arith, short, p.wanted_fits);
      stays = λ after small. let text : unread' ++ after ≡ unread ++ (more ++ after) = ap (λ l. l ++ after) joined ∙ append_assoc unread more after in
          subst IsPartial (sym text) (p.stays (more ++ after) (omega (arith, small, ap length text)));
      wanted_fits = p.wanted_fits;
      calls_most = omega (arith, p.calls_most);
      calls_least = calls_more k0.calls i k1.calls k2.calls p.calls_least calls;
      read_faults = omega (arith, p.read_faults);
      room_given = omega (arith, p.room_given, room);
      writer_grows = p.writer_grows;
      keeps_open = λ o. stays (p.keeps_open o);
      writer_keeps_open = p.writer_keeps_open;
    }

-- it goes on after a read that gave nothing
pub progress_kept : {S : Type 0} {answers : S → Asked → Rendered → S → Type 0} {s t : S} {r0 r1 c0 c1 : Option (List ℕ)} {unread : List ℕ} {wanted n i : ℕ}
    {k0 k1 w0 w1 : Counts} (p : Progress answers s t r0 r1 c0 c1 unread wanted n i k0 k1 w0 w1) (r2 : Option (List ℕ)) (unread' : List ℕ) (k2 : Counts) →
    Keeps r1 r2 → unread' ≡ unread → k2.calls ≡ min (k1.calls + 1) (2 ^ 64 - 1) → k1.faults ≤ k2.faults →
    min k1.least_room 65536 ≤ k2.least_room → (IsOpen k1 → IsOpen k2) →
    Progress answers s t r0 r2 c0 c1 unread' wanted n (i + 1) k0 k2 w0 w1
progress_kept {S} {answers} {s} {t} {r0} {r1} {c0} {c1} {unread} {wanted} {n} {i} {k0} {k1} {w0} {w1} p r2 unread' k2 keeps same calls read_faults room stays =
    subst (λ l. Progress answers s t r0 r2 c0 c1 l wanted n (i + 1) k0 k2 w0 w1) (sym same) (record {
      read = p.read;
      exchanges = p.exchanges;
      consumes = Consumes-kept r0 r1 r2 p.read p.consumes keeps;
      serves = p.serves;
      writes = p.writes;
      count = p.count;
      few = omega (arith, p.few);
      partial = p.partial;
      room = p.room;
      stays = p.stays;
      wanted_fits = p.wanted_fits;
      calls_most = omega (arith, p.calls_most);
      calls_least = calls_more k0.calls i k1.calls k2.calls p.calls_least calls;
      read_faults = omega (arith, p.read_faults);
      room_given = omega (arith, p.room_given, room);
      writer_grows = p.writer_grows;
      keeps_open = λ o. stays (p.keeps_open o);
      writer_keeps_open = p.writer_keeps_open;
    })

-- it ends here, with nothing more read
ends_at : {S : Type 0} {answers : S → Asked → Rendered → S → Type 0} {s t : S} {r0 r1 c0 c1 : Option (List ℕ)} {unread : List ℕ} {wanted n i : ℕ}
    {k0 k1 w0 w1 : Counts} (p : Progress answers s t r0 r1 c0 c1 unread wanted n i k0 k1 w0 w1) (r2 : Option (List ℕ)) (end : End) → Keeps r1 r2 →
    is_closed end ≡ false → IsRest end unread → Conversation answers s t (streams_of r0 r2 c0 c1) end
ends_at {r0} {r1} {unread} p r2 end keeps is_open rest = record {
  read = p.read;
  exchanges = p.exchanges;
  consumes = Consumes-kept r0 r1 r2 p.read p.consumes keeps;
  requests = (unread, subst (λ b. Takes p.read (requests_of p.exchanges) b unread) (sym is_open) p.serves.takes, rest);
  answered = p.serves.answered;
  writes = p.writes;
}

-- between two requests or inside one
pub ends_open : {S : Type 0} {answers : S → Asked → Rendered → S → Type 0} {s t : S} {r0 r1 c0 c1 : Option (List ℕ)} {unread : List ℕ} {wanted n i : ℕ}
    {k0 k1 w0 w1 : Counts} (p : Progress answers s t r0 r1 c0 c1 unread wanted n i k0 k1 w0 w1) (r2 : Option (List ℕ)) → Keeps r1 r2 → (end : End) ×
    Conversation answers s t (streams_of r0 r2 c0 c1) end × (is_closed end ≡ false)
ends_open {unread} p r2 keeps =
    let e = end_of unread p.partial in (e.0, ends_at p r2 e.0 keeps e.1 e.2, e.1)

-- between two requests
pub ends_clean : {S : Type 0} {answers : S → Asked → Rendered → S → Type 0} {s t : S} {r0 r1 c0 c1 : Option (List ℕ)} {unread : List ℕ} {wanted n i : ℕ}
    {k0 k1 w0 w1 : Counts} (p : Progress answers s t r0 r1 c0 c1 unread wanted n i k0 k1 w0 w1) (r2 : Option (List ℕ)) → Keeps r1 r2 → unread ≡ [] →
    (c : Conversation answers s t (streams_of r0 r2 c0 c1) Clean) × (n ≡ length c.exchanges)
unfolding ends_at
ends_clean p r2 keeps empty = (ends_at p r2 Clean keeps refl empty, p.count)

-- inside a request
pub ends_partial : {S : Type 0} {answers : S → Asked → Rendered → S → Type 0} {s t : S} {r0 r1 c0 c1 : Option (List ℕ)} {unread : List ℕ} {wanted n i : ℕ}
    {k0 k1 w0 w1 : Counts} (p : Progress answers s t r0 r1 c0 c1 unread wanted n i k0 k1 w0 w1) (r2 : Option (List ℕ)) → Keeps r1 r2 → 0 < length unread →
    Conversation answers s t (streams_of r0 r2 c0 c1) Partial
ends_partial p r2 keeps some = ends_at p r2 Partial keeps refl (p.partial some, some)

-- by a request that closes the connection
pub ends_closed : {S : Type 0} {answers : S → Asked → Rendered → S → Type 0} {s t : S} {r0 r1 c0 c1 : Option (List ℕ)} {unread : List ℕ} {wanted n i : ℕ}
    {k0 k1 w0 w1 : Counts} (p : Progress answers s t r0 r1 c0 c1 unread wanted n i k0 k1 w0 w1) (u : S) (r2 c2 : Option (List ℕ))
    (more unread' unread'' : List ℕ) (n' : ℕ) → Consumes r1 r2 more → unread' ≡ unread ++ more → Advances answers t u unread' unread'' c1 c2 n n' None →
    (c : Conversation answers s u (streams_of r0 r2 c0 c2) Closed) × (n' ≡ length c.exchanges)
ends_closed {S} {answers} {s} {t} {r0} {r1} {c0} {c1} {unread} p u r2 c2 more unread' unread'' n' consumes joined a =
    let all = Serves-more answers s t p.read p.exchanges unread more p.serves in
    let served = Serves-then answers s t u (p.read ++ more) p.exchanges a.0 unread' a.1 true
    (subst (Serves answers s t (p.read ++ more) p.exchanges false) (sym joined) all) a.2.serves in (
      record {
        read = p.read ++ more;
        exchanges = p.exchanges ++ a.0;
        consumes = Consumes-then r0 r1 r2 p.read more p.consumes consumes;
        requests = (a.1, served.takes, tt);
        answered = served.answered;
        writes = subst (Appends c0 c2) (sym (wires-append p.exchanges a.0)) (Appends-then c0 c1 c2 (wires p.exchanges) (wires a.0) p.writes a.2.writes);
      },
      omega (arith, p.count, a.2.count, length-append p.exchanges a.0),
    )

-- by a fault of the writer
pub ends_cut : {S : Type 0} {answers : S → Asked → Rendered → S → Type 0} {s t : S} {r0 r1 c0 c1 : Option (List ℕ)} {unread : List ℕ} {wanted n i : ℕ}
    {k0 k1 w0 w1 : Counts} (p : Progress answers s t r0 r1 c0 c1 unread wanted n i k0 k1 w0 w1) (u : S) (r2 c2 : Option (List ℕ)) (more unread' : List ℕ) →
    Consumes r1 r2 more → unread' ≡ unread ++ more → CutsShort answers t u unread' c1 c2 [] → CutShort answers s u (streams_of r0 r2 c0 c2)
ends_cut {S} {answers} {s} {t} {r0} {r1} {c0} {c1} {unread} p u r2 c2 more unread' consumes joined a =
    let all = Serves-more answers s t p.read p.exchanges unread more p.serves in record {
      read = p.read ++ more;
      exchanges = p.exchanges ++ a.0;
      closed = a.1;
      rest = a.2;
      consumes = Consumes-then r0 r1 r2 p.read more p.consumes consumes;
      serves = Serves-then answers s t u (p.read ++ more) p.exchanges a.0 unread' a.2 a.1
          (subst (Serves answers s t (p.read ++ more) p.exchanges false) (sym joined) all) a.3;
      writes = subst (WritesSome c0 c2) (sym (wires-append p.exchanges a.0)) (WritesSome-then c0 c1 c2 (wires p.exchanges) (wires a.0) p.writes a.4);
    }

pub nil_from_length : (xs : List ℕ) → length xs ≡ 0 → xs ≡ []
nil_from_length [] e = refl
nil_from_length (x ∷ xs) e = absurd (omega arith)

-- a read of no byte keeps what is left
pub Keeps_from_none : (r1 r2 : Option (List ℕ)) (more : List ℕ) → Consumes r1 r2 more → length more ≡ 0 → Keeps r1 r2
Keeps_from_none None r2 more c e = tt
Keeps_from_none (Some xs) None more c e = c
Keeps_from_none (Some xs) (Some ys) more c e = sym (c ∙ ap (λ l. l ++ ys) (nil_from_length more e))

pub Keeps-same : (r : Option (List ℕ)) → Keeps r r
Keeps-same None = tt
Keeps-same (Some xs) = refl
