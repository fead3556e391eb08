use Rattle.std.proofs.Common.{sym, ap, ◌∙◌, length, arith}
use Rattle.ns_types.specs.Access.Rights.{both}
use Rattle.ns_acl.proofs.Counting.{other-more, shorter-more, longer-more, level-more}
use Rattle.ns_acl.proofs.gathering.Gathered.with_rule.Goals as goal

pub returns-then-not-is_match : goal.returns-then-not-is_match
returns-then-not-is_match c = λ before e.
    e ∙ sym (other-more c.args.target.now before c.args.rule.now (sym c.is_exact.ensures ∙ c.if-is_exact.false)
    (sym c.is_match.ensures ∙ c.if-not-is_match.true))

pub returns-then-length-self : goal.returns-then-length-self
returns-then-length-self c = λ before e.
    let size = ap length c.as_str-length.ensures in
    let longest = ap (λ g. g.longest) e in
    e ∙ sym (shorter-more c.args.target.now before c.args.rule.now (sym c.is_exact.ensures ∙ c.if-is_exact.false)
    (sym c.is_match.ensures ∙ c.if-not-is_match.false) (omega arith))

pub returns-then-length-self-2 : goal.returns-then-length-self-2
returns-then-length-self-2 c = λ before e.
    let size = ap length c.as_str-length.ensures in
    let longest = ap (λ g. g.longest) e in
    (λ i. record (e i) { longest = size i; matching = c.args.rule.now.grants })
    ∙ sym (longer-more c.args.target.now before c.args.rule.now (sym c.is_exact.ensures ∙ c.if-is_exact.false)
    (sym c.is_match.ensures ∙ c.if-not-is_match.false) (omega arith))

pub returns : goal.returns
returns c = λ before e.
    let size = ap length c.as_str-length.ensures in
    let longest = ap (λ g. g.longest) e in
    (λ i. record (e i) { matching = (c.both-2.ensures ∙ ap (λ g. both g.matching c.args.rule.now.grants) e) i })
    ∙ sym (level-more c.args.target.now before c.args.rule.now (sym c.is_exact.ensures ∙ c.if-is_exact.false) (sym c.is_match.ensures ∙ c.if-not-is_match.false)
    (omega arith))
