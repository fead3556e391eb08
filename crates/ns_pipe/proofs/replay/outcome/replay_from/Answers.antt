use Rattle.std.proofs.Common.{ap, sym, subst, ◌∙◌, length, string_bytes, take, arith}
use Rattle.std.proofs.lemmas.List.{take_all}
use Rattle.ns_types.specs.Isolation.{part_of}
use Rattle.ns_pipe.specs.Outcome.{ReplaysTo}
use Rattle.ns_pipe.specs.Text.{own_lines}
use Rattle.ns_pipe.proofs.Outcomes.{replays_fault, replays_same}
use Rattle.ns_pipe.proofs.replay.outcome.replay_from.Goals as goal
use Rattle.ns_pipe.proofs.replay.outcome.replay_from.Goals.{in-Ok, in-Err+in-Some}

pub returns : goal.returns
returns c =
    let ns = c.args.namespace.now in
    let pools = c.args.pools.now in
    let quotas = c.args.quotas.now in
    let part = part_of ns pools quotas in
    let base = c.args.base.now in
    let first = c.args.first in
    let entries = c.args.entries.now in
    let text = string_bytes c.in_ok-lines.lines in
    elim c.match-replay_alone.branch [
      | in-Ok w ↦
          subst (λ e. ReplaysTo ns pools quotas base first entries text e.1) (sym w.end-is)
          (replays_same ns pools quotas base first entries w.in-Ok.replies.items text w.in-Ok.ensures.replies w.in-Ok.ensures.logged
          (c.in_ok-lines.ensures ∙ ap (λ e. own_lines part first (take e.0 entries)) w.end-is
          ∙ ap (own_lines part first) (take_all (length entries) entries (omega arith))))
      | in-Err+in-Some w ↦
          subst (λ e. ReplaysTo ns pools quotas base first entries text e.1) (sym w.end-is)
          (replays_fault ns pools quotas base first entries w.in-Err.fault w.in-Some.ending text w.in-Err.ensures.fault (sym w.ending_of.ensures ∙ w.in-Some.is)
          (c.in_ok-lines.ensures ∙ ap (λ e. own_lines part first (take e.0 entries)) w.end-is
          ∙ ap (λ n. own_lines part first (take n entries)) w.place_of.ensures))
    ]
