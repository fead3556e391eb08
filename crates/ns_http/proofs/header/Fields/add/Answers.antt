use Rattle.std.proofs.Common.{sym, ◌∙◌}
use Rattle.ns_types.specs.Wire.Http.{eq_ignore_case}
use Rattle.ns_http.proofs.FieldsLemmas.{one_length, one_coding, one_token, one_connection, no_field}
use Rattle.ns_http.proofs.header.Fields.add.Goals as goal

pub returns-then-eq_ignore_case : goal.returns-then-eq_ignore_case
unfolding eq_ignore_case
returns-then-eq_ignore_case c =
    one_length c.args.self.now _ c.args.name.now c.args.value.now
    (sym c.eq_ignore_case.ensures ∙ c.if-eq_ignore_case.true)
    c.and-self.ensures

pub returns-then-eq_ignore_case-2 : goal.returns-then-eq_ignore_case-2
unfolding eq_ignore_case
returns-then-eq_ignore_case-2 c =
    one_coding c.args.self.now _ c.args.name.now c.args.value.now
    (sym c.eq_ignore_case.ensures ∙ c.if-eq_ignore_case.false)
    (sym c.eq_ignore_case-else-eq_ignore_case.ensures ∙ c.if-eq_ignore_case-2.true)
    c.and-self-then-eq_ignore_case-2.ensures

pub returns-then-eq_ignore_case-3 : goal.returns-then-eq_ignore_case-3
unfolding eq_ignore_case
returns-then-eq_ignore_case-3 c =
    one_token c.args.self.now _ c.args.name.now c.args.value.now
    (sym c.eq_ignore_case.ensures ∙ c.if-eq_ignore_case.false)
    (sym c.eq_ignore_case-else-eq_ignore_case.ensures ∙ c.if-eq_ignore_case-2.false)
    (sym c.eq_ignore_case-else-eq_ignore_case-2.ensures ∙ c.if-eq_ignore_case-3.true)
    c.and-self-then-eq_ignore_case-3.ensures

pub returns-then-eq_ignore_case-4 : goal.returns-then-eq_ignore_case-4
unfolding eq_ignore_case
returns-then-eq_ignore_case-4 c =
    one_connection c.args.self.now _ c.args.name.now c.args.value.now
    (sym c.eq_ignore_case.ensures ∙ c.if-eq_ignore_case.false)
    (sym c.eq_ignore_case-else-eq_ignore_case.ensures ∙ c.if-eq_ignore_case-2.false)
    (sym c.eq_ignore_case-else-eq_ignore_case-2.ensures ∙ c.if-eq_ignore_case-3.false)
    (sym c.eq_ignore_case-else-eq_ignore_case-3.ensures ∙ c.if-eq_ignore_case-4.true)
    c.lists_close.ensures

pub returns-else-eq_ignore_case-4 : goal.returns-else-eq_ignore_case-4
unfolding eq_ignore_case
returns-else-eq_ignore_case-4 c =
    no_field c.args.self.now c.args.name.now c.args.value.now
    (sym c.eq_ignore_case.ensures ∙ c.if-eq_ignore_case.false)
    (sym c.eq_ignore_case-else-eq_ignore_case.ensures ∙ c.if-eq_ignore_case-2.false)
    (sym c.eq_ignore_case-else-eq_ignore_case-2.ensures ∙ c.if-eq_ignore_case-3.false)
    (sym c.eq_ignore_case-else-eq_ignore_case-3.ensures ∙ c.if-eq_ignore_case-4.false)
