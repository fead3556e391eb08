use Rattle.std.proofs.Common.{◌≡◌, ◌++◌, take, refl, sym, ap, ◌∙◌, subst, arith}
use Rattle.std.specs.Prelude.{Ok}
use Rattle.std.specs.Io.KnownBytes.{ReadConsumes}
use Rattle.std.proofs.lemmas.Bool.{false≢true}
use Rattle.ns_http.specs.Counts.{CountsRead}
use Rattle.ns_http.proofs.CountsLemmas.{ended_after, last_read, no_break, open_after_interruption, open_after_some}
use Rattle.ns_http.proofs.WholeLemmas.{all_read, counts_read, more_read, none_read, read_fails, reads_out, same_read, whole_buffer}
use Rattle.ns_http.proofs.whole.read_to_end.Goals as goal
use Rattle.ns_http.proofs.whole.read_to_end.Goals.{in-Ok+in_ok-extend_from_slice-in-Ok, in-Err}

pub loop-init : goal.loop-init
loop-init g c = record {
  room = c.in_ok-room.ensures.len;
  has_read = none_read _ _ c.args.reader.now.counts c.new-bytes.ensures.items;
}

pub returns-in-Ok-eq0-clause-ok : goal.returns-in-Ok-eq0-clause-ok
returns-in-Ok-eq0-clause-ok g c =
    let buf = c.read.new.buf in
    let left = g.R.Read.remaining c.read.new.self.inner in
    let none : c.read.result ≡ Ok 0 = c.in-Ok-eq0.is ∙ ap Ok c.in-Ok-eq0.field-0-test in
    let read = subst (λ r. ReadConsumes (g.R.Read.remaining c.loop.reader.inner) left r buf) none c.read.ensures.bytes in
    let wide = c.deref_mut.ensures.len ∙ c.loop.invariant.room in
    let counts = counts_read c.loop.reader.counts c.read.new.self.counts _ c.read.result wide c.read.ensures.counts in
    record {
      consumes = all_read c.loop.invariant.has_read left (take 0 buf) read.0 refl;
      at_end = read.1 refl (omega (arith, wide, c.read.auto.buf));
      ended = ended_after _ _ (subst (CountsRead c.loop.reader.counts c.read.new.self.counts) none counts);
    }

pub returns-in-Ok-eq0-clause-stops : goal.returns-in-Ok-eq0-clause-stops
returns-in-Ok-eq0-clause-stops g c = λ was_open.
    let wide = c.deref_mut.ensures.len ∙ c.loop.invariant.room in
    let counts = counts_read c.loop.reader.counts c.read.new.self.counts _ c.read.result wide c.read.ensures.counts in
    last_read _ _ c.read.result counts (c.loop.invariant.has_read.keeps_open was_open)

pub returns-in-Ok-eq0-clause-broken : goal.returns-in-Ok-eq0-clause-broken
returns-in-Ok-eq0-clause-broken g c = λ was_open broken.
    let wide = c.deref_mut.ensures.len ∙ c.loop.invariant.room in
    let counts = counts_read c.loop.reader.counts c.read.new.self.counts _ c.read.result wide c.read.ensures.counts in
    let given = subst (CountsRead c.loop.reader.counts c.read.new.self.counts) c.in-Ok-eq0.is counts in
    absurd (false≢true (sym (no_break _ _ _ given (c.loop.invariant.has_read.keeps_open was_open)) ∙ broken))

pub returns-in_err-extend_from_slice-in-Ok-clause-stops : goal.returns-in_err-extend_from_slice-in-Ok-clause-stops
returns-in_err-extend_from_slice-in-Ok-clause-stops g c = λ was_open.
    let wide = c.deref_mut.ensures.len ∙ c.loop.invariant.room in
    let counts = counts_read c.loop.reader.counts c.read.new.self.counts _ c.read.result wide c.read.ensures.counts in
    last_read _ _ c.read.result counts (c.loop.invariant.has_read.keeps_open was_open)

pub returns-in_err-extend_from_slice-in-Ok-clause-broken : goal.returns-in_err-extend_from_slice-in-Ok-clause-broken
returns-in_err-extend_from_slice-in-Ok-clause-broken g c = λ was_open broken.
    let wide = c.deref_mut.ensures.len ∙ c.loop.invariant.room in
    let counts = counts_read c.loop.reader.counts c.read.new.self.counts _ _ wide c.in-Ok.ensures.counts in
    absurd (false≢true (sym (no_break _ _ c.in-Ok.count counts (c.loop.invariant.has_read.keeps_open was_open)) ∙ broken))

pub returns-in-Err-2-clause-read : goal.returns-in-Err-2-clause-read
returns-in-Err-2-clause-read g c = λ _.
    let wide = c.deref_mut.ensures.len ∙ c.loop.invariant.room in
    let counts = counts_read c.loop.reader.counts c.read.new.self.counts _ _ wide c.in-Err.ensures.counts in
    read_fails c.loop.invariant.has_read _ c.in-Err.error counts (sym c.is_interruption.ensures ∙ c.if-is_interruption.false)

pub returns-in-Err-2-clause-stops : goal.returns-in-Err-2-clause-stops
returns-in-Err-2-clause-stops g c = λ was_open.
    let wide = c.deref_mut.ensures.len ∙ c.loop.invariant.room in
    let counts = counts_read c.loop.reader.counts c.read.new.self.counts _ c.read.result wide c.read.ensures.counts in
    last_read _ _ c.read.result counts (c.loop.invariant.has_read.keeps_open was_open)

pub loop-preserved : goal.loop-preserved
loop-preserved g c =
    let h = c.loop.invariant.has_read in
    let left = g.R.Read.remaining c.read.new.self.inner in
    let wide = c.deref_mut.ensures.len ∙ c.loop.invariant.room in
    let whole = whole_buffer c.loop.room.len c.read.new.buf _ (c.read.auto.buf ∙ c.deref_mut.ensures.len) in
    elim c.match-read.branch [
      | in-Ok+in_ok-extend_from_slice-in-Ok w ↦
          let counts = counts_read c.loop.reader.counts c.read.new.self.counts _ _ wide w.in-Ok.ensures.counts in
          let more = take w.in-Ok.count c.read.new.buf in
          let pushed = ap (λ l. c.loop.bytes.items ++ take w.in-Ok.count l) (w.deref.ensures.value ∙ whole) in
          record {
            room = c.loop.invariant.room;
            has_read = more_read h left more c.match-read.bytes.items _ _ w.in-Ok.ensures.bytes.0
                (ap (λ v. v.items) w.bytes-is ∙ w.in_ok-extend_from_slice-in-Ok.ensures.items ∙ pushed) counts
                c.read.ensures.grows.faults (open_after_some _ _ _ counts w.in-Ok.count-test.1);
          }
      | in-Err w ↦
          let counts = counts_read c.loop.reader.counts c.read.new.self.counts _ _ wide w.in-Err.ensures.counts in
          record {
            room = c.loop.invariant.room;
            has_read = same_read h left c.match-read.bytes.items _ _ w.in-Err.ensures.bytes (ap (λ v. v.items) w.bytes-is) counts
                c.read.ensures.grows.faults
                (open_after_interruption _ _ w.in-Err.error counts (sym w.is_interruption.ensures ∙ w.if-is_interruption.true));
          }
    ]

pub returns-clause-read : goal.returns-clause-read
returns-clause-read g c = λ _. reads_out c.loop.invariant.has_read (omega arith)

pub returns-clause-stops : goal.returns-clause-stops
returns-clause-stops g c = λ was_open. (c.loop.invariant.has_read.keeps_open was_open).went_on
