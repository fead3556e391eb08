use Rattle.std.proofs.Common.{◌&&◌, ◌||◌, ap, ◌∙◌, not}
use Rattle.std.specs.List.{list_any}
use Rattle.keyed.specs.Levels.{holds_key}
use Rattle.ns_tables.proofs.Filed.{refiled}
use Rattle.ns_tables.specs.Filing.{is_filed, is_left}
use Rattle.ns_tables.proofs.filing.refile.Goals as goal

pub returns : goal.returns
returns g c =
    let name_of = g.F.Filing.name_of in
    refiled name_of c.args.numbers.now c.insert_all.new.numbers c.leave_all.new.numbers c.args.before.now c.args.changes.now c.requires.before
    (λ key. c.insert_all.ensures key
    ∙ ap (λ slots. list_any (λ slot. is_filed name_of slot key) slots || holds_key c.args.numbers.now key) c.as_slice.ensures)
    (λ key. c.leave_all.ensures key
    ∙ ap (λ slots. not (list_any (λ slot. is_left name_of c.args.before.now slot key) slots) && holds_key c.insert_all.new.numbers key) c.as_slice-2.ensures)
