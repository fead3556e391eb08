use Rattle.std.proofs.Common.{codes}
use Rattle.ns_json.specs.Registration.{attribute_key}
use Rattle.ns_json.proofs.Texts.{has_prefix, suffix_is}
use Rattle.ns_json.proofs.constraint.attribute_key.Goals as goal

pub returns : goal.returns
unfolding attribute_key
returns c = rw (has_prefix (codes "${attr.") c.args.text.now c.in_ok-strip_prefix.field-0.now c.in_ok-strip_prefix.ensures.cases)
    (suffix_is (codes "}") _ c.strip_suffix.result c.strip_suffix.ensures.cases)
