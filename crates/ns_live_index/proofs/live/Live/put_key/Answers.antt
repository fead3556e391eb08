use Rattle.std.proofs.Common.{ap, subst, sym, ◌∙◌}
use Rattle.std.specs.Option.{option_copied}
use Rattle.ns_live_index.specs.Moving.{LeavesInPool}
use Rattle.ns_live_index.proofs.PutLoads.{none_went, put_right, went_from, went_there}
use Rattle.ns_live_index.proofs.Puts.{dropped_right, none_before, room_left, stays_there}
use Rattle.ns_live_index.proofs.live.Live.put_key.Goals as goal

pub returns-then-not-is_live_on-clause-index : goal.returns-then-not-is_live_on-clause-index
returns-then-not-is_live_on-clause-index c row_of right was =
    let before = option_copied c.args.before in
    let after = option_copied c.args.after in
    let row = c.in-Some.row.now in
    let is = ap option_copied c.in-Some.is in
    let goes = sym c.is_live_on.ensures ∙ c.if-not-is_live_on.true in
    put_right row_of _ before after c.args.self.now c.remove.new.self right was
    (dropped_right row_of _ before after c.args.self.now c.add.new.self right was c.add.ensures.added row is c.remove.new.self goes
    c.remove.ensures.dropped) (went_from before after c.args.self.now c.add.new.self c.add.ensures.loads row is c.remove.new.self goes
    (subst (λ size. LeavesInPool row.pool row.node size c.add.new.self c.remove.new.self) c.size_on-size.ensures c.remove.ensures.loads))

pub returns-then-not-is_live_on-clause-room : goal.returns-then-not-is_live_on-clause-room
returns-then-not-is_live_on-clause-room c pool node other apart room =
    room_left c.in-Some.row.now _ _ _ c.remove.ensures.dropped pool node other apart (c.add.ensures.added.room pool node other room)

pub returns-else-not-is_live_on-clause-index : goal.returns-else-not-is_live_on-clause-index
returns-else-not-is_live_on-clause-index c row_of right was =
    let before = option_copied c.args.before in
    let after = option_copied c.args.after in
    let row = c.in-Some.row.now in
    let is = ap option_copied c.in-Some.is in
    let stays = sym c.is_live_on.ensures ∙ c.if-not-is_live_on.false in
    put_right row_of _ before after c.args.self.now c.add.new.self right was
    (stays_there row_of _ before after c.args.self.now c.add.new.self right was c.add.ensures.added row is stays)
    (λ pool node _. went_there before after c.args.self.now c.add.new.self c.add.ensures.loads row is stays pool node)

pub returns-in_default-clause-index : goal.returns-in_default-clause-index
returns-in_default-clause-index c row_of right was =
    let before = option_copied c.args.before in
    let after = option_copied c.args.after in
    let none = ap option_copied c.in_default.is in
    put_right row_of _ before after c.args.self.now c.add.new.self right was
    (none_before row_of _ before after c.args.self.now c.add.new.self right was c.add.ensures.added none)
    (λ pool node _. none_went before after c.args.self.now c.add.new.self c.add.ensures.loads none pool node)
