use Rattle.std.proofs.Common.{ap, subst, sym, ◌∙◌}
use Rattle.std.specs.Option.{option_copied}
use Rattle.ns_live_index.specs.Shown.{ForgetsRow}
use Rattle.ns_live_index.proofs.Unmoved.{dead_hidden, forgets_hidden, live_forgotten, none_hidden}
use Rattle.ns_live_index.proofs.shown.ShownNodes.forget_row.Goals as goal

pub returns-then-is_live : goal.returns-then-is_live
returns-then-is_live c = subst (λ r. ForgetsRow r c.args.self.now c.unshow.new.self) (sym (ap option_copied c.in-Some.is))
    (live_forgotten c.in-Some.row.now c.args.self.now c.unshow.new.self (sym c.is_live.ensures ∙ c.if-is_live.true) c.unshow.ensures)

pub returns-else-is_live : goal.returns-else-is_live
returns-else-is_live c = subst (λ r. ForgetsRow r c.args.self.now c.args.self.now) (sym (ap option_copied c.in-Some.is))
    (forgets_hidden _ c.args.self.now (dead_hidden c.in-Some.row.now c.args.self.now (sym c.is_live.ensures ∙ c.if-is_live.false)))

pub returns-in_default : goal.returns-in_default
returns-in_default c = subst (λ r. ForgetsRow r c.args.self.now c.args.self.now) (sym (ap option_copied c.in_default.is))
    (forgets_hidden _ c.args.self.now (none_hidden c.args.self.now))
