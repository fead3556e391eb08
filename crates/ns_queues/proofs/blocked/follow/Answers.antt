use Rattle.std.specs.Prelude.{List, filter, length, not}
use Rattle.std.proofs.Common.{ap, arith, sym, ◌∙◌}
use Rattle.ns_blocked.specs.Blocked.{entries_of}
use Rattle.ns_types.specs.State.Names.{Key, has_key}
use Rattle.ns_tables.specs.World.{world_of}
use Rattle.ns_queues.proofs.Waiting.{followed, kept_where_new, not_where_missing, not_where_moved, still_unmoved}
use Rattle.ns_queues.proofs.blocked.follow.Goals as goal

pub returns-then-any_moved-clause-kept : goal.returns-then-any_moved-clause-kept
returns-then-any_moved-clause-kept c = sym (not_where_moved c.args.tables.now c.args.settled.now c.args.list.now c.take_out.new.self c.args.entries
    (c.take_out.ensures.entries ∙ ap (λ (keys : List Key). filter (λ e. not (has_key keys e.key)) (entries_of c.args.list.now)) c.as_slice-taken.ensures)
    c.requires.added (sym c.any_moved.ensures.any ∙ c.if-any_moved.true))

pub returns-then-as_slice-clause-kept : goal.returns-then-as_slice-clause-kept
returns-then-as_slice-clause-kept c = sym (not_where_missing c.args.tables.now c.args.settled.now c.args.list.now c.take_out.new.self c.args.entries
    (c.take_out.ensures.entries ∙ ap (λ (keys : List Key). filter (λ e. not (has_key keys e.key)) (entries_of c.args.list.now)) c.as_slice-taken.ensures)
    c.requires.added (omega (arith, ap length c.as_slice.ensures, ap length c.as_slice-2.ensures, c.if-as_slice.true)))

pub returns-clause-right : goal.returns-clause-right
returns-clause-right c = λ all. followed (world_of c.args.tables.now) c.args.settled.now c.args.list.now c.take_out.new.self
    c.append_new.new.self c.args.entries
    (c.take_out.ensures.entries ∙ ap (λ (keys : List Key). filter (λ e. not (has_key keys e.key)) (entries_of c.args.list.now)) c.as_slice-taken.ensures)
    (c.any_moved.ensures.none c.if-any_moved.false (still_unmoved c.take_out.new.self)) c.requires.added
    (omega (arith, ap length c.as_slice.ensures, ap length c.as_slice-2.ensures, c.if-as_slice.false))
    (c.append_new.ensures.entries all)

pub returns-clause-kept : goal.returns-clause-kept
returns-clause-kept c = c.append_new.ensures.new
    ∙ kept_where_new c.args.tables.now c.args.settled.now c.args.list.now c.take_out.new.self c.args.entries
    (c.take_out.ensures.entries ∙ ap (λ (keys : List Key). filter (λ e. not (has_key keys e.key)) (entries_of c.args.list.now)) c.as_slice-taken.ensures)
    c.requires.added (sym c.any_moved.ensures.any ∙ c.if-any_moved.false)
    (omega (arith, ap length c.as_slice.ensures, ap length c.as_slice-2.ensures, c.if-as_slice.false))
