use Rattle.std.proofs.Common.{take, map}
use Rattle.ns_json.specs.Part.{Adds, token_of}
use Rattle.ns_json.proofs.Parts.{added}
use Rattle.ns_json.proofs.part.write_parts.Given as goal

abbrev pub invariant-loop-part : goal.invariant-loop-part
invariant-loop-part l = Adds added l.initial.out l.out (map token_of (take l.part-index l.parts))
