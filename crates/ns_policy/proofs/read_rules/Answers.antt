use Rattle.std.proofs.Common.{◌≡◌, ◌≤◌, length, true, false, sym, ◌∙◌, arith}
use Rattle.ns_policy.specs.Lex.{is_json}
use Rattle.ns_policy.specs.Rules.{Gives, same}
use Rattle.ns_policy.specs.Grammar.{max_lists}
use Rattle.ns_policy.specs.Json.{rules_of}
use Rattle.ns_policy.proofs.Readings.{of_json, of_blocks, reads}
use Rattle.ns_policy.proofs.read_rules.Goals as goal

pub returns-then-is_json : goal.returns-then-is_json
returns-then-is_json c =
    let fits : length c.args.text.now ≤ max_lists = omega (arith, c.as_bytes.ensures.len) in
    let json : is_json c.args.text.now ≡ true = rw (← c.as_bytes.ensures.value) (sym c.is_json.ensures ∙ c.if-is_json.true) in
    let value : Gives same c.read_json.result (rules_of c.args.text.now) = rw (of_json c.args.text.now json) c.read_json.ensures in
    record { value = value; meaning = reads _ _ fits value }

pub returns-else-is_json : goal.returns-else-is_json
returns-else-is_json c =
    let fits : length c.args.text.now ≤ max_lists = omega (arith, c.as_bytes.ensures.len) in
    let other : is_json c.args.text.now ≡ false = rw (← c.as_bytes.ensures.value) (sym c.is_json.ensures ∙ c.if-is_json.false) in
    let value : Gives same c.read_blocks.result (rules_of c.args.text.now) =
    rw (of_blocks c.args.text.now other) (rw (← c.as_bytes-else-is_json.ensures.value) c.read_blocks.ensures) in
    record { value = value; meaning = reads _ _ fits value }
