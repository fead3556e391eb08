use Rattle.std.proofs.Common.{List, ℕ, ap, subst, ◌∙◌}
use Rattle.std.specs.Prelude.{OnOk}
use Rattle.json.specs.Print.{escape}
use Rattle.ns_json.specs.JobText.{Continues}
use Rattle.ns_json.proofs.JobTexts.{written_alone}
use Rattle.ns_json.proofs.job_text.push_escaped.Goals as goal

pub returns : goal.returns
returns c =
    let quoted = c.as_str.ensures.value ∙ ap (λ v. v.items) c.from_utf8_unchecked-quoted.ensures.value ∙
    written_alone c.args.text.now _ c.new-writer.result c.string.new.self
    c.into_inner.ensures.items c.in_ok-string.ensures.ok (c.string.ensures.room.0) c.new-writer.ensures.tokens
    (c.new-writer.ensures.before ∙ c.new.ensures.items) in
    subst (λ (t : List ℕ). OnOk c.push.result (Continues c.args.out.now c.push.new.out t))
    (c.without_quotes.ensures (escape c.args.text.now) quoted) c.push.ensures
