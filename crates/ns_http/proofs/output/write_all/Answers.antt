use Rattle.std.proofs.Common.{◌≡◌, ◌+◌, ◌-◌, true, subst, [], ◌++◌, refl, take, sym, ap, ◌∙◌, append_assoc, arith}
use Rattle.std.proofs.lemmas.List.{take-append-drop, take_rest}
use Rattle.ns_http.specs.Counts.{is_interruption}
use Rattle.ns_http.proofs.StreamLemmas.{Appends-none, Appends-kept, Appends-then}
use Rattle.ns_http.proofs.CountsLemmas.{AreInterrupted, open_after_taken, open_after_interrupted, HasGrown-none, HasGrown-then, interrupted_none}
use Rattle.ns_http.proofs.CountsLemmas.{interrupted_same, interrupted_more}
use Rattle.ns_http.proofs.output.write_all.Goals as goal

pub loop-rest-preserved-in-Ok : goal.loop-rest-preserved-in-Ok
loop-rest-preserved-in-Ok g c =
    let done = c.loop-rest.invariant in
    let rest = c.loop-rest.rest.now in
    let n = c.in-Ok.count in
    let tail = sym (take-append-drop n rest) ∙ ap (λ l. take n rest ++ l) (sym (take_rest rest n)) in (
      done.0 ++ take n rest,
      done.1 ∙ ap (λ l. done.0 ++ l) tail ∙ sym (append_assoc done.0 (take n rest) _),
      Appends-then _ _ _ _ _ done.2 c.in-Ok.ensures.bytes,
      HasGrown-then _ _ _ done.3 c.write.ensures.grows,
      λ was_open. open_after_taken _ _ _ n c.in-Ok.ensures.counts c.in-Ok.count-test.1 (done.4 was_open),
      done.5,
      interrupted_same c.args.writer.now.counts c.loop-rest.writer.counts c.write.new.self.counts _ _ n done.6 c.in-Ok.ensures.counts,
    )

pub loop-rest-init : goal.loop-rest-init
loop-rest-init g c =
    let k = c.args.writer.now.counts in
    ([], refl, Appends-none _, HasGrown-none k, (λ was_open. was_open), omega arith, interrupted_none k)

pub loop-rest-preserved : goal.loop-rest-preserved
loop-rest-preserved g c =
    let done = c.loop-rest.invariant in
    let k = c.loop-rest.writer.counts in
    let l = c.write.new.self.counts in
    let interrupted : is_interruption c.in-Err.error ≡ true = sym c.is_interruption.ensures ∙ c.if-not-is_interruption.false in
    let count : (65536 - c.loop-rest.tries) + 1 ≡ 65536 - (c.loop-rest.tries - 1) = omega (arith, c.if-tries-eq0.false, done.5) in (
      done.0,
      done.1,
      Appends-kept _ _ _ done.0 done.2 c.in-Err.ensures.bytes,
      HasGrown-then c.args.writer.now.counts k l done.3 c.write.ensures.grows,
      λ was_open. open_after_interrupted k l true c.in-Err.error c.in-Err.ensures.counts interrupted (done.4 was_open),
      omega (arith, done.5),
      subst (AreInterrupted c.args.writer.now.counts l) count
          (interrupted_more c.args.writer.now.counts k l true (65536 - c.loop-rest.tries)
          c.in-Err.error done.6 c.in-Err.ensures.counts interrupted),
    )
