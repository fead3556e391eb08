use Rattle.std.proofs.Common.{◌&&◌, sym, ap, ◌∙◌, false, not, true}
use Rattle.std.specs.Option.{option_copied}
use Rattle.keyed.specs.Levels.{holds_key}
use Rattle.keyed.specs.Table.{row_at}
use Rattle.ns_tables.proofs.Filed.{left_one}
use Rattle.ns_tables.specs.Filing.{name_at, stands_under}
use Rattle.ns_tables.proofs.filing.leave.Goals as goal

pub returns-then-not-stands_under : goal.returns-then-not-stands_under
returns-then-not-stands_under g c key =
    let name_of = g.F.Filing.name_of in
    let own = ap (name_at name_of) (sym c.get.ensures) ∙ sym c.name_at.ensures ∙ ap option_copied c.in-Some.is in
    let apart = ap (stands_under name_of c.in-Some.name.now) (sym c.as_ref.ensures.value) ∙ sym c.stands_under.ensures ∙ c.if-not-stands_under.true in
    c.remove.ensures.held key ∙ ap (λ b. not b && holds_key c.args.numbers.now key)
    (sym (left_one name_of c.args.slot.now.0 (row_at c.args.before.now c.args.slot.now.0) c.args.slot.now.1 c.in-Some.name.now key false own apart))

pub returns-else-not-stands_under : goal.returns-else-not-stands_under
returns-else-not-stands_under g c key =
    let name_of = g.F.Filing.name_of in
    let own = ap (name_at name_of) (sym c.get.ensures) ∙ sym c.name_at.ensures ∙ ap option_copied c.in-Some.is in
    let same = ap (stands_under name_of c.in-Some.name.now) (sym c.as_ref.ensures.value) ∙ sym c.stands_under.ensures ∙ c.if-not-stands_under.false in
    ap (λ b. not b && holds_key c.args.numbers.now key)
    (sym (left_one name_of c.args.slot.now.0 (row_at c.args.before.now c.args.slot.now.0) c.args.slot.now.1 c.in-Some.name.now key true own same))
