use Rattle.std.proofs.Common.{◌≡◌, ◌≢◌, ◌<◌, inl, inr, length, refl, sym, ap, ◌∙◌, subst, arith}
use Rattle.std.specs.Prelude.{Ok}
use Rattle.std.proofs.lemmas.List.{length-append}
use Rattle.std.proofs.lemmas.Bool.{eqb-true, eqb-false, false≢true}
use Rattle.ns_types.specs.Wire.Http.{Clean, Partial, Closed}
use Rattle.ns_http.specs.Counts.{CountsRead}
use Rattle.ns_http.specs.Input.{unread}
use Rattle.ns_http.proofs.ServeLemmas.{progress_first, progress_more, progress_short, progress_kept, ends_open, ends_clean, ends_partial, ends_closed, ends_cut}
use Rattle.ns_http.proofs.ServeLemmas.{nil_from_length, Keeps_from_none, Keeps-same}
use Rattle.ns_http.proofs.CountsLemmas.{last_read, no_break, open_after_some, open_after_interruption, ended_after, calls_after, room_after, failed_read}
use Rattle.ns_http.proofs.CountsLemmas.{HasFailed-after, IsWriteFault-after}
use Rattle.ns_http.proofs.engine.serve.Goals as goal

pub loop-init : goal.loop-init
loop-init g c = (
  progress_first g.H.Answer.answers c.args.handler.now _ _ (unread c.in_ok-new.field-0)
      c.args.reader.now.counts c.args.writer.now.counts c.in_ok-new.ensures,
  c.in_ok-new-2.ensures,
)

pub returns-in-Err-2-clause-read : goal.returns-in-Err-2-clause-read
returns-in-Err-2-clause-read g c = λ _.
    let p = c.loop.invariant.0 in
    let e = ends_open p (g.R.Read.remaining c.fill.new.reader.inner) c.in-Err-2.ensures.err.1 in (
      e.0,
      e.1,
      (
        e.2,
        inl (HasFailed-after c.args.reader.now.counts c.loop.reader.counts c.fill.new.reader.counts p.read_faults
            (failed_read _ _ c.in-Err.error c.in-Err.ensures.counts (sym c.is_interruption.ensures ∙ c.if-is_interruption.false))),
      ),
    )

pub returns-then-is_empty-clause-ok : goal.returns-then-is_empty-clause-ok
returns-then-is_empty-clause-ok g c =
    let p = c.loop.invariant.0 in
    let ok = c.in-Ok.ensures.ok in
    let none = Keeps_from_none _ _ ok.0 ok.3 (ok.1 ∙ c.if-count-eq0.true) in
    let size : length (unread c.fill.new.self) ≡ 0 = ap length (sym c.unread.ensures.value) ∙ eqb-true _ _ (sym c.is_empty.ensures ∙ c.if-is_empty.true) in
    let empty = nil_from_length (unread c.loop.connection.input) (omega (arith, size, ap length ok.2, length-append (unread c.loop.connection.input) ok.0)) in
    let e = ends_clean p (g.R.Read.remaining c.fill.new.reader.inner) none empty in
    let last = ap Ok c.if-count-eq0.true in (
      Clean,
      e.0,
      (
        c.in-Ok.ensures.end last,
        ended_after _ _
            (subst (CountsRead c.loop.reader.counts c.fill.new.reader.counts) (c.in-Ok.is ∙ last) c.fill.ensures.counts),
      ),
      e.1,
    )

pub returns-then-count-eq0-clause-read : goal.returns-then-count-eq0-clause-read
returns-then-count-eq0-clause-read g c = λ _.
    let p = c.loop.invariant.0 in
    let ok = c.in-Ok.ensures.ok in
    let zero : length ok.0 ≡ 0 = ok.1 ∙ c.if-count-eq0.true in
    let none = Keeps_from_none _ _ ok.0 ok.3 zero in
    let size : length c.unread.result.now ≢ 0 = eqb-false _ _ (sym c.is_empty.ensures ∙ c.if-is_empty.false) in
    let same : length c.unread.result.now ≡ length (unread c.fill.new.self) = ap length c.unread.ensures.value in
    let some : 0 < length (unread c.loop.connection.input) =
    omega (arith, size, same, zero, ap length ok.2, length-append (unread c.loop.connection.input) ok.0) in
    let last = ap Ok c.if-count-eq0.true in (
      Partial,
      ends_partial p (g.R.Read.remaining c.fill.new.reader.inner) none some,
      (
        refl,
        inr (inl (
          c.in-Ok.ensures.end last,
          ended_after _ _
              (subst (CountsRead c.loop.reader.counts c.fill.new.reader.counts) (c.in-Ok.is ∙ last) c.fill.ensures.counts),
        )),
      ),
    )

pub returns-in_err-next-clause-write : goal.returns-in_err-next-clause-write
returns-in_err-next-clause-write g c = λ _.
    let p = c.loop.invariant.0 in
    let ok = c.in-Ok.ensures.ok in (
      ends_cut p c.advance.new.handler (g.R.Read.remaining c.fill.new.reader.inner) (g.W.Write.contents c.advance.new.writer.inner) ok.0
          (unread c.fill.new.self)
          ok.3 ok.2 c.in_err-next.ensures.err,
      IsWriteFault-after c.args.writer.now.counts c.loop.writer.counts c.advance.new.writer.counts p.writer_grows c.in_err-next.ensures.failed,
    )

pub returns-in-None-clause-ok : goal.returns-in-None-clause-ok
returns-in-None-clause-ok g c =
    let p = c.loop.invariant.0 in
    let ok = c.in-Ok.ensures.ok in
    let done = rw c.in-None.is at c.in_ok-next.ensures.ok in
    let e = ends_closed p c.advance.new.handler (g.R.Read.remaining c.fill.new.reader.inner) (g.W.Write.contents c.advance.new.writer.inner) ok.0
    (unread c.fill.new.self) (unread c.advance.new.self.input) c.advance.new.self.answered ok.3 ok.2 done in
    (Closed, e.0, tt, e.1)

pub loop-preserved-then-unread-wanted : goal.loop-preserved-then-unread-wanted
loop-preserved-then-unread-wanted g c =
    let p = c.loop.invariant.0 in
    let ok = c.in-Ok.ensures.ok in
    let same : length c.unread-in-loop.result.now ≡ length (unread c.fill.new.self) = ap length c.unread-in-loop.ensures.value in
    let short : length (unread c.fill.new.self) < c.loop.wanted = omega (arith, same, c.if-unread-wanted.true) in
    let some = open_after_some _ _ c.in-Ok.count c.in-Ok.ensures.counts c.if-count-eq0.false in (
      progress_short p (g.R.Read.remaining c.fill.new.reader.inner) ok.0 (unread c.fill.new.self)
          c.fill.new.reader.counts ok.3 ok.2 short (calls_after _ _ _ c.fill.ensures.counts) c.fill.ensures.grows.faults
          (room_after _ _ _ c.fill.ensures.counts) some,
      c.loop.invariant.1,
    )

pub loop-preserved-in-Err : goal.loop-preserved-in-Err
loop-preserved-in-Err g c =
    let err = c.in-Err.ensures.err in (
      progress_kept c.loop.invariant.0 (g.R.Read.remaining c.fill.new.reader.inner) (unread c.fill.new.self)
          c.fill.new.reader.counts err.1 err.0 (calls_after _ _ _ c.fill.ensures.counts) c.fill.ensures.grows.faults (room_after _ _ _ c.fill.ensures.counts)
          (open_after_interruption _ _ c.in-Err.error c.in-Err.ensures.counts (sym c.is_interruption.ensures ∙ c.if-is_interruption.true)),
      c.loop.invariant.1,
    )

pub loop-preserved : goal.loop-preserved
loop-preserved g c =
    let p = c.loop.invariant.0 in
    let ok = c.in-Ok.ensures.ok in
    let done = rw c.in-Some.is at c.in_ok-next.ensures.ok in
    let some = open_after_some _ _ c.in-Ok.count c.in-Ok.ensures.counts c.if-count-eq0.false in (
      progress_more p c.advance.new.handler (g.R.Read.remaining c.fill.new.reader.inner) (g.W.Write.contents c.advance.new.writer.inner) ok.0
          (unread c.fill.new.self) (unread c.advance.new.self.input)
          _ c.advance.new.self.answered c.fill.new.reader.counts c.advance.new.writer.counts ok.3 ok.2
          c.fill.ensures.len done (calls_after _ _ _ c.fill.ensures.counts) c.fill.ensures.grows.faults (room_after _ _ _ c.fill.ensures.counts)
          c.advance.ensures.grows some c.in_ok-next.ensures.open,
      c.in_ok-next.ensures.sent,
    )

pub returns-clause-read : goal.returns-clause-read
returns-clause-read g c = λ _.
    let p = c.loop.invariant.0 in
    let e = ends_open p (g.R.Read.remaining c.loop.reader.inner) (Keeps-same _) in
    let least : c.loop.counter ≡ 16777216 = omega arith in
    (e.0, e.1, (e.2, inr (inr (elim p.calls_least [ inl some ↦ inl (omega arith) | inr most ↦ inr most ]))))

pub returns-in-Err-2-clause-stops : goal.returns-in-Err-2-clause-stops
returns-in-Err-2-clause-stops g c = λ was_open. last_read _ _ c.fill.result c.fill.ensures.counts (c.loop.invariant.0.keeps_open was_open)

pub returns-then-is_empty-clause-stops : goal.returns-then-is_empty-clause-stops
returns-then-is_empty-clause-stops g c = λ was_open. last_read _ _ c.fill.result c.fill.ensures.counts (c.loop.invariant.0.keeps_open was_open)

pub returns-then-count-eq0-clause-stops : goal.returns-then-count-eq0-clause-stops
returns-then-count-eq0-clause-stops g c = λ was_open. last_read _ _ c.fill.result c.fill.ensures.counts (c.loop.invariant.0.keeps_open was_open)

pub returns-in_err-next-clause-stops : goal.returns-in_err-next-clause-stops
returns-in_err-next-clause-stops g c = λ was_open. last_read _ _ c.fill.result c.fill.ensures.counts (c.loop.invariant.0.keeps_open was_open)

pub returns-in-None-clause-stops : goal.returns-in-None-clause-stops
returns-in-None-clause-stops g c = λ was_open. last_read _ _ c.fill.result c.fill.ensures.counts (c.loop.invariant.0.keeps_open was_open)

pub returns-then-is_empty-clause-broken : goal.returns-then-is_empty-clause-broken
returns-then-is_empty-clause-broken g c = λ was_open broken. absurd
    (false≢true (sym (no_break _ _ c.in-Ok.count c.in-Ok.ensures.counts (c.loop.invariant.0.keeps_open was_open)) ∙ broken))

pub returns-in_err-next-clause-broken : goal.returns-in_err-next-clause-broken
returns-in_err-next-clause-broken g c = λ was_open broken. absurd
    (false≢true (sym (no_break _ _ c.in-Ok.count c.in-Ok.ensures.counts (c.loop.invariant.0.keeps_open was_open)) ∙ broken))

pub returns-in-None-clause-broken : goal.returns-in-None-clause-broken
returns-in-None-clause-broken g c = λ was_open broken. absurd
    (false≢true (sym (no_break _ _ c.in-Ok.count c.in-Ok.ensures.counts (c.loop.invariant.0.keeps_open was_open)) ∙ broken))

pub returns-clause-stops : goal.returns-clause-stops
returns-clause-stops g c = λ was_open. (c.loop.invariant.0.keeps_open was_open).went_on
