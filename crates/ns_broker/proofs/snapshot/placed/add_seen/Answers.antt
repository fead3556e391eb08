use Rattle.std.proofs.Common.{ap, ◌∙◌}
use Rattle.keyed.specs.Table.{rows}
use Rattle.keyed.proofs.Tables.{rows-added}
use Rattle.ns_types.proofs.Named.{numbers, one_number}
use Rattle.ns_types.proofs.Results.{on_ok}
use Rattle.ns_broker.specs.Seen.{add_seen}
use Rattle.ns_broker.proofs.snapshot.placed.add_seen.Goals as goal

pub returns : goal.returns
returns c = on_ok c.add.result (λ added. ap rows added ∙ rows-added numbers one_number c.args.seen.now c.args.row.now.place _
    ∙ ap (λ shown. add_seen (rows c.args.seen.now) (c.args.row.now.place, shown)) c.in_ok-seen_live.ensures) c.add.ensures.ok
