-- The room that the reply to a write needs, and what a reply shows.
use Rattle.std.specs.Prelude.{◌≡◌, ◌⊎◌, Option, Some, None, Ok, Err}
use Rattle.ns_types.specs.declared.reply.Content.TheVariants as Content
use Rattle.ns_types.specs.declared.step.AdminCommand.TheVariants as AdminCommand
use Rattle.ns_types.specs.declared.step.Step.{Step}
use Rattle.ns_types.specs.Asking.Policies.{made_token}
use Rattle.ns_types.specs.State.Names.{Name}
use Rattle.ns_types.specs.declared.refusal.Refusal.TheVariants.{Memory}
use Rattle.ns_types.specs.declared.reply.Rendered.{Rendered}
use Rattle.ns_types.specs.Steps.{Answer}
use Rattle.ns_types.specs.Wire.Refused.{refused}
use Rattle.ns_json.specs.Replies.{body_of, rendered}

-- the body of the reply to a new token, which is known before the step
abbrev pub room_of : Step → Option Name
room_of (Step.Admin secret (AdminCommand.CreateToken new)) = Some (body_of (Content.Token (made_token new)))
room_of _ = None

-- the answer as bytes; a reply may be refused instead for want of memory
abbrev pub ShowsOrWants : Answer → Rendered → Type 0
ShowsOrWants (Ok told) reply = (reply ≡ rendered (Ok told)) ⊎ (reply ≡ refused Memory)
ShowsOrWants (Err refusal) reply = reply ≡ refused refusal
