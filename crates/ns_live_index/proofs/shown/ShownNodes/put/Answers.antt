use Rattle.std.specs.Prelude.{false}
use Rattle.std.proofs.Common.{ap, refl, sym, ◌∙◌}
use Rattle.std.specs.Option.{option_copied_mut}
use Rattle.keyed.proofs.Tables.{slot_made}
use Rattle.ns_types.proofs.Named.{names}
use Rattle.ns_live_index.specs.Shown.{shown_so}
use Rattle.ns_live_index.proofs.Showing.{node_written, put_same, put_there, then_same, then_there}
use Rattle.ns_live_index.proofs.shown.ShownNodes.put.Goals as goal
use Rattle.ns_types.proofs.Results.{on_error}

pub set-requires : goal.set-requires
set-requires c = slot_made names _ _ _ c.in_ok-reserve.ensures.ok

pub returns-in_err-reserve-clause-err : goal.returns-in_err-reserve-clause-err
returns-in_err-reserve-clause-err c = on_error c.from_residual-in_err-reserve.result (then_same c.args.self.now c.open.new.self _ c.open.ensures.same
    (put_same c.args.pool.now c.open.new.self _ c.in-Some.nodes.now (sym c.get_mut.ensures.value ∙ ap option_copied_mut c.in-Some.is)
    c.reserve.new.self refl c.in_err-reserve.ensures.err))

pub returns-in_ok-reserve-clause-ok : goal.returns-in_ok-reserve-clause-ok
returns-in_ok-reserve-clause-ok c = then_there c.args.self.now c.open.new.self _ c.args.pool.now c.args.name.now (shown_so c.args.seen) c.open.ensures.same
    (put_there c.args.pool.now c.open.new.self _ c.in-Some.nodes.now (sym c.get_mut.ensures.value ∙ ap option_copied_mut c.in-Some.is)
    c.set.new.self refl c.args.name.now (shown_so c.args.seen)
    (node_written c.in-Some.nodes.now c.reserve.new.self c.set.new.self c.args.name.now
    (record { seen = c.args.seen; is_behind = false }) c.in_ok-reserve.ensures.ok c.set.ensures))
