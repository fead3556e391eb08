use Rattle.std.proofs.Common.{codes, sym, ◌∙◌}
use Rattle.ns_equality.proofs.Ties.{between}
use Rattle.ns_equality.proofs.documents.same_target.Goals as goal

pub returns-in-Attribute-Attribute : goal.returns-in-Attribute-Attribute
returns-in-Attribute-Attribute c =
    rw (c.in-Attribute-Attribute.is-0, c.in-Attribute-Attribute.is-1)
    (c.same_text.ensures ∙ sym (between (codes "${attr.") (codes "}") c.in-Attribute-Attribute.key c.in-Attribute-Attribute.other))
