use Rattle.ns_json.proofs.Texts.{unquoted}
use Rattle.ns_json.proofs.job_text.without_quotes.Goals as goal

pub returns : goal.returns
returns c = λ inner is.
    unquoted c.args.text.now inner _ _ _ _ _ _ c.strip_prefix.ensures.cases c.strip_suffix.ensures.cases c.unwrap_or-rest.ensures c.unwrap_or.ensures is
