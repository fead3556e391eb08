use Rattle.std.proofs.Common.{◌≡◌, ◌+◌, ◌-◌, ◌&&◌, length, sym, ◌∙◌}
use Rattle.std.proofs.lemmas.List.Sums.{length-filter}
use Rattle.ns_types.specs.declared.snapshot.OwnAllocation.{OwnAllocation}
use Rattle.ns_types.specs.Placing.Wanted.{is_of, kept}
use Rattle.ns_types.specs.State.Rows.{is_live}
use Rattle.ns_schedule.proofs.wanted.missing.Goals as goal

pub returns : goal.returns
returns c =
    let j = c.args.job.now in
    let g = c.args.group.now in
    let own = c.args.own.now in
    let there : c.kept_count.result ≡ length (kept j own g) =
    c.kept_count.ensures ∙ sym (length-filter (λ (a : OwnAllocation). is_live a.row && is_of j g a) own) in
    c.saturating_sub.ensures ∙ (λ i. g.count - (there i + c.done.ensures i))
