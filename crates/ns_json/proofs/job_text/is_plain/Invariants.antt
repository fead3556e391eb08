use Rattle.std.proofs.Common.{◌≡◌, drop}
use Rattle.std.specs.List.{list_all}
use Rattle.json.specs.Run.{is_plain}
use Rattle.ns_json.proofs.job_text.is_plain.Given as goal

-- all bytes are plain if those that are left are
abbrev pub invariant-loop-b : goal.invariant-loop-b
invariant-loop-b l = list_all is_plain l.fn.text ≡ list_all is_plain (drop l.b-index l.fn.text)
