-- The room that was taken for a worker's step is enough for a copy of its entry's answer.
use Rattle.std.proofs.Common.{◌≡◌, ℕ, ◌+◌, ◌≤◌, Bool, true, false, if◌then◌else◌, List, [], ◌∷◌, ◌++◌, Some, None, Ok, Err, length, codes}
use Rattle.std.proofs.Common.{ap, refl, sym, subst, ◌∙◌, arith, inl, inr, length-append}
use Rattle.std.specs.Prelude.{◌*◌, option_map, slice_get, sum_by}
use Rattle.std.specs.Option.{option_map_or}
use Rattle.std.proofs.lemmas.Option.{slice_get-get_or, slice_get_past}
use Rattle.std.proofs.Math.Seq.{get_or-append_seam}
use Rattle.json.specs.Print.{escape, escape_byte}
use Rattle.json.specs.Token.{Token}
use Rattle.json.specs.Tree.{room}
use Rattle.serde_json.specs.Data.{Data}
use Rattle.serde_json.specs.Written.{compact_text}
use Rattle.serde_json.proofs.Texts.{print-outline}
use Rattle.ns_types.specs.declared.id.IdKind.TheVariants as IdKind
use Rattle.ns_types.specs.declared.reply.Content.{Content}
use Rattle.ns_types.specs.declared.refusal.Refusal.{Refusal}
use Rattle.ns_types.specs.declared.reply.Rendered.{Rendered}
use Rattle.ns_types.specs.declared.reply.Reply.{Reply}
use Rattle.ns_types.specs.declared.step.Step.{Step}
use Rattle.ns_types.specs.State.Id.{id_text}
use Rattle.ns_types.specs.Steps.{Answer}
use Rattle.ns_types.specs.Wire.Refused.{refused}
use Rattle.ns_types.specs.Wire.Words.{status_text}
use Rattle.ns_types.proofs.Lists.{not_both}
use Rattle.ns_json.specs.Part.{tokens_of}
use Rattle.ns_json.specs.Replies.{Entry, applied_json, body_of, finished_json, one_id, rendered}
use Rattle.ns_json.proofs.Parts.{room-append}
use Rattle.ns_json.proofs.Replies.{length-escaped_id}
use Rattle.ns_replies.specs.Bodies.{id_tokens, nacked_json, text_bytes, text_tokens}
use Rattle.ns_replies.specs.Rooms.{AnswerRoom, HasRoom}
use Rattle.ns_replies.proofs.Writing.{applied_tokens, escaped_follower, escaped_status, finished_room, first_tokens, last_tokens, length-print_from-le}
use Rattle.ns_replies.proofs.Writing.{middle_tokens, nacked_room, one_id_room, room-first, room-ids, room-last, room-middle, room-texts}
use Rattle.ns_work_log.specs.Logs.{History}
use Rattle.ns_work_log.specs.Rendered.{rendered_step}
use Rattle.ns_work_log.proofs.Adding.{Adds}
use Rattle.ns_work_lock.specs.Copying.{FitsItsBytes, entry_answer, is_work}

-- ---- a worker's answer has no more bytes than are taken for it

json_fits : (d : Data) (bytes : ℕ) → room (tokens_of d) ≤ bytes → length (compact_text d) ≤ bytes
json_fits d bytes small = omega (arith, ap length (print-outline d), length-print_from-le false (tokens_of d), small)

id_fits : (n : ℕ) → length (escape (id_text IdKind.Evaluation n)) ≤ 36
id_fits n = omega (arith, length-escaped_id IdKind.Evaluation n)

one_id_fits : (name : List ℕ) (n : ℕ) → text_bytes name ≤ 10 → length (compact_text (one_id name n)) ≤ 54
one_id_fits name n short = json_fits (one_id name n) 54 (one_id_room name (id_text IdKind.Evaluation n) short (id_fits n))

applied_fits : (made : List ℕ) (dropped : List (List ℕ)) → room (tokens_of (applied_json made dropped)) ≤ 36 + length made * 39 + sum_by text_bytes dropped
applied_fits made dropped =
    let one : List Token = first_tokens ++ id_tokens made in
    let two : List Token = one ++ middle_tokens in
    let three : List Token = two ++ text_tokens dropped in
    subst (λ ts. room ts ≤ 36 + length made * 39 + sum_by text_bytes dropped) (applied_tokens made dropped)
    (omega (
      arith,
      room-append three last_tokens,
      room-append two (text_tokens dropped),
      room-append one middle_tokens,
      room-append first_tokens (id_tokens made),
      room-first,
      room-ids made,
      room-middle,
      room-texts dropped,
      room-last,
    ))

pub work_fits : (content : Content) → is_work content ≡ true → FitsItsBytes content
unfolding body_of escape_byte
work_fits (Content.Took n) h = one_id_fits (codes "Took") n (omega arith)
work_fits (Content.Snapped n) h = one_id_fits (codes "Snapped") n (omega arith)
work_fits (Content.Queued n) h = one_id_fits (codes "Queued") n (omega arith)
work_fits (Content.Applied made dropped) h = json_fits (applied_json made dropped) _ (applied_fits made dropped)
work_fits (Content.Finished status follower) h =
    let id : List ℕ = option_map_or (id_text IdKind.Evaluation) follower [] in
    json_fits (finished_json status follower) 76 (finished_room id (status_text status) (escaped_follower follower) (escaped_status status))
work_fits (Content.Nacked status) h = json_fits (nacked_json status) 25 (nacked_room (status_text status) (escaped_status status))
work_fits _ h = not_both h refl

room_fits : (room : AnswerRoom) (content : Content) → is_work content ≡ true → HasRoom room content → length (body_of content) ≤ room.bytes
room_fits room (Content.Took n) is has = omega (arith, work_fits (Content.Took n) refl, has)
room_fits room (Content.Snapped n) is has = omega (arith, work_fits (Content.Snapped n) refl, has)
room_fits room (Content.Queued n) is has = omega (arith, work_fits (Content.Queued n) refl, has)
room_fits room (Content.Applied made dropped) is has = omega (arith, work_fits (Content.Applied made dropped) refl, has)
room_fits room (Content.Finished status follower) is has = omega (arith, work_fits (Content.Finished status follower) refl, has)
room_fits room (Content.Nacked status) is has = omega (arith, work_fits (Content.Nacked status) refl, has)
room_fits room _ is has = not_both is refl

-- so the room is enough for a copy
pub copy_fits : (room : AnswerRoom) (reply : Reply) (shown : Rendered) → is_work reply.content ≡ true → HasRoom room reply.content →
    shown ≡ rendered (Ok reply) → length shown.body ≤ room.bytes
unfolding rendered
copy_fits room reply shown is has same = omega (arith, ap (λ (r : Rendered). length r.body) same, room_fits room reply.content is has)

pub refused_shown : (refusal : Refusal) (shown : Rendered) → shown ≡ rendered (Err refusal) → refused refusal ≡ shown
unfolding rendered
refused_shown refusal shown same = sym same

-- ---- the entry of a step that was made

at_end : {A : Type 0} (xs : List A) (x : A) → slice_get (xs ++ x ∷ []) (length xs) ≡ Some x
at_end xs x =
    slice_get-get_or (xs ++ x ∷ []) (length xs) x (omega (arith, length-append xs (x ∷ []))) ∙ ap Some (get_or-append_seam xs x [] x)

behind : (step : Step) (old : History) (answer : Answer) (new : History) → Adds step old answer new →
    option_map entry_answer (slice_get new.log (length old.log)) ≡ rendered_step answer
behind step old answer new (inl a) =
    ap (λ (log : List Entry). option_map entry_answer (slice_get log (length old.log))) a.1.noted.entry
    ∙ ap (option_map entry_answer) (at_end old.log (step, rendered answer))
    ∙ ap (λ (b : Bool). if b then Some (rendered answer) else None) (sym a.0)
behind step old answer new (inr a) =
    ap (λ (h : History). option_map entry_answer (slice_get h.log (length old.log))) a.1
    ∙ ap (option_map entry_answer) (slice_get_past old.log (length old.log) (omega arith))
    ∙ ap (λ (b : Bool). if b then Some (rendered answer) else None) (sym a.0)

-- the entry is behind those before the call, if the call made a step
pub entry_behind : (step : Step) (old : History) (answer : Answer) (new : History) (place : ℕ) (after : List Entry) → Adds step old answer new →
    place ≡ length old.log → after ≡ new.log → option_map entry_answer (slice_get after place) ≡ rendered_step answer
entry_behind step old answer new place after adds is is' =
    ap (λ (log : List Entry). option_map entry_answer (slice_get log place)) is'
    ∙ ap (λ (n : ℕ). option_map entry_answer (slice_get new.log n)) is ∙ behind step old answer new adds
