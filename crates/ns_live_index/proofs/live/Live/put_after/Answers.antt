use Rattle.std.proofs.Common.{subst, sym}
use Rattle.std.specs.Option.{option_copied}
use Rattle.ns_live_index.specs.Shown.{HidesRow}
use Rattle.ns_live_index.proofs.Unmoved.{forgets_hidden, hides_of, hides_still, put_unmoved}
use Rattle.ns_live_index.proofs.live.Live.put_after.Goals as goal

pub returns-then-not-is_beside-clause-shown : goal.returns-then-not-is_beside-clause-shown
returns-then-not-is_beside-clause-shown c row_of was = put_unmoved row_of (c.args.namespace.now, c.args.number) _ _ c.args.self.now c.put_key.new.self
    c.forget_row.new.self (record c.put_key.new.self { shown = c.forget_row-then-not-is_beside.new.self }) was c.put_key.ensures.shown c.forget_row.ensures
    c.forget_row-then-not-is_beside.ensures

pub returns-else-not-is_beside-clause-shown : goal.returns-else-not-is_beside-clause-shown
returns-else-not-is_beside-clause-shown c row_of was = put_unmoved row_of (c.args.namespace.now, c.args.number) _ _ c.args.self.now c.put_key.new.self
    c.forget_row.new.self (record c.put_key.new.self { shown = c.forget_row.new.self }) was c.put_key.ensures.shown c.forget_row.ensures
    (forgets_hidden _ c.forget_row.new.self (c.is_beside.ensures c.if-not-is_beside.false c.forget_row.new.self
    (hides_still (option_copied c.args.last) _ _ _ c.forget_row.ensures
    (subst (HidesRow (option_copied c.args.last)) (sym c.put_key.ensures.shown.0) c.requires.last))))

pub returns-then-not-is_beside-clause-last : goal.returns-then-not-is_beside-clause-last
returns-then-not-is_beside-clause-last c = hides_of _ _ _ c.forget_row-then-not-is_beside.ensures

pub returns-else-not-is_beside-clause-last : goal.returns-else-not-is_beside-clause-last
returns-else-not-is_beside-clause-last c = c.is_beside.ensures c.if-not-is_beside.false c.forget_row.new.self
    (hides_still (option_copied c.args.last) _ _ _ c.forget_row.ensures
    (subst (HidesRow (option_copied c.args.last)) (sym c.put_key.ensures.shown.0) c.requires.last))

pub returns-then-not-is_beside-clause-names : goal.returns-then-not-is_beside-clause-names
returns-then-not-is_beside-clause-names c = c.put_key.ensures.shown.1

pub returns-else-not-is_beside-clause-names : goal.returns-else-not-is_beside-clause-names
returns-else-not-is_beside-clause-names c = c.put_key.ensures.shown.1

pub returns-then-not-is_beside-clause-index : goal.returns-then-not-is_beside-clause-index
returns-then-not-is_beside-clause-index c row_of right was =
    let still = c.put_key.ensures.index row_of right was in
    record { keys = still.keys; loads = still.loads }

pub returns-else-not-is_beside-clause-index : goal.returns-else-not-is_beside-clause-index
returns-else-not-is_beside-clause-index c row_of right was =
    let still = c.put_key.ensures.index row_of right was in
    record { keys = still.keys; loads = still.loads }
