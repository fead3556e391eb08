use Rattle.std.proofs.Common.{ap, filter, not, ◌∙◌, ◌++◌}
use Rattle.ns_types.specs.State.Names.{has_key}
use Rattle.ns_settlement.proofs.commit.lists.commit_list.Goals as goal

pub append-requires : goal.append-requires
append-requires c = c.take_out.ensures.room c.args.change.added c.requires

pub returns : goal.returns
returns c = c.clear_room.ensures ∙ c.append.ensures ∙ ap (λ l. l ++ c.args.change.added)
    (c.take_out.ensures.items ∙ ap (λ taken. filter (λ key. not (has_key taken key)) c.args.list.now.items) c.as_slice.ensures)
