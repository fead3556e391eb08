use Rattle.std.proofs.Common.{ap, subst, ◌∙◌, ◌++◌}
use Rattle.ns_http.specs.Counts.{HasGrown}
use Rattle.ns_listener.proofs.Written.{closes, took}
use Rattle.ns_listener.proofs.serving.run_threads.Goals as goal

pub returns-clause-written : goal.returns-clause-written
returns-clause-written g c =
    let contents = g.W.Write.contents in
    let old = c.new-keeper.result in
    let new = c.host-seats.result.1 in
    let given = c.host-seats.ensures.takes.0 in
    let became = took contents given old new c.host-seats.ensures.takes.1 in
    record {
      segments = given;
      same_secret = became.secret ∙ c.new-keeper.ensures.secret;
      writes = closes contents c.args.opened.secret given old new c.args.writer c.new-keeper.ensures.secret c.new-keeper.ensures.writer
          c.new-keeper.ensures.fault became;
      grows = subst (λ (w : _). HasGrown w.counts new.writer.counts) c.new-keeper.ensures.writer became.grows;
      kept = λ whole. (became.kept whole).1 ∙ ap (λ s. s ++ given) c.new-keeper.ensures.segments;
    }
