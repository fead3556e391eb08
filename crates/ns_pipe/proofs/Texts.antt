-- The text of segments is that of their lines, and is read back.
use Rattle.std.proofs.Common.{◌≡◌, ◌∙◌, ℕ, suc, ◌+◌, ◌^◌, ◌<◌, List, [], ◌∷◌, ◌++◌, length, map, flat_map, get_or, refl, sym, ap, subst}
use Rattle.std.proofs.Common.{arith, append_assoc, length-append}
use Rattle.std.specs.Prelude.{IsTrue, IsUtf8}
use Rattle.std.proofs.Math.Seq.{drop-append-add, get_or-append_seam, take-append_seam}
use Rattle.std.proofs.lemmas.Str.{IsCharBoundary-after_ascii, IsCharBoundary-before_ascii, IsUtf8-drop, IsUtf8-take}
use Rattle.ns_types.specs.declared.name.NameKind.TheVariants as NameKind
use Rattle.ns_types.specs.State.Lists.{Each}
use Rattle.ns_types.specs.State.Name.{is_name}
use Rattle.ns_types.specs.State.Names.{Name}
use Rattle.ns_types.proofs.Elements.{each_append, each_back, each_mapped}
use Rattle.ns_json.specs.Logs.{head_text, line_of, log_text, segment_text}
use Rattle.ns_json.specs.Replies.{Entry}
use Rattle.ns_log.specs.Lines.{entry_text}
use Rattle.ns_log_reader.specs.Lines.{CanStand, IsWritable, LogLine, entries_of, lines_text}
use Rattle.ns_log_reader.proofs.Lines.{opened}
use Rattle.ns_log.specs.Segments.{Follows, Given, joined, text_of, whole_text}
use Rattle.ns_pipe.specs.Laws.{SegmentsAreReadBack}
use Rattle.ns_pipe.specs.Readable.{AreAsRead, IsReadBack, IsTyped}

-- ---- UTF-8, line by line

abbrev IsText : Entry → Type 0
IsText e = IsUtf8 (entry_text e)

-- a line and what comes behind its feed are UTF-8 where both together are
utf8_parts : (line rest : Name) → IsUtf8 (line_of line ++ rest) → IsUtf8 line × IsUtf8 rest
utf8_parts line rest h =
    let all : Name = line ++ 10 ∷ rest in
    let text : IsUtf8 all = subst IsUtf8 (opened line rest) h in
    let long : length all ≡ length line + suc (length rest) = length-append line (10 ∷ rest) in
    let within : length line < length all = omega (arith, long) in
    let feed : get_or all (length line) 0 ≡ 10 = get_or-append_seam line 10 rest 0 in
    let low : get_or all (length line) 0 < 128 = omega (arith, feed) in (
      subst IsUtf8 (take-append_seam line (10 ∷ rest))
          (IsUtf8-take all (length line) text (IsCharBoundary-before_ascii all (length line) within low)),
      subst IsUtf8 (drop-append-add line (10 ∷ rest) 1)
          (IsUtf8-drop all (length line + 1) text (IsCharBoundary-after_ascii all (length line) text within low)),
    )

texts_utf8 : (secret : Name) (start : ℕ) (lines : List LogLine) → IsUtf8 (lines_text secret start lines) → Each IsText (entries_of lines)
texts_utf8 secret start [] h = tt
texts_utf8 secret start (LogLine.head ∷ lines) h =
    texts_utf8 secret start lines (utf8_parts (head_text start secret) (lines_text secret start lines) h).1
texts_utf8 secret start (LogLine.entry e ∷ lines) h =
    let parts = utf8_parts (entry_text e) (lines_text secret (start + 1) lines) h in
    (parts.0, texts_utf8 secret (start + 1) lines parts.1)

-- ---- entries

each_writable : (es : List Entry) → Each IsTyped es → AreAsRead es → Each IsText es → Each IsWritable es
each_writable [] h k l = tt
each_writable (e ∷ es) h k l = (
  record { within = record { good = h.0.good; as_read = k.0; step = h.0.step; answer = h.0.answer }; text = l.0 },
  each_writable es h.1 k.1 l.1,
)

-- ---- the lines of segments

abbrev line : Entry → Name
line e = line_of (entry_text e)

abbrev lines_of : List Entry → List LogLine
lines_of log = map LogLine.entry log

-- behind the first line of all
abbrev behind_first : List Given → List Entry → List LogLine
behind_first [] rest = lines_of rest
behind_first (s ∷ segments) rest = lines_of s.log ++ (LogLine.head ∷ behind_first segments rest)

lines_alone : (secret : Name) (start : ℕ) (log : List Entry) → lines_text secret start (lines_of log) ≡ flat_map line log
lines_alone secret start [] = refl
lines_alone secret start (e ∷ log) = ap (λ t. line e ++ t) (lines_alone secret (start + 1) log)

lines_then : (secret : Name) (start : ℕ) (log : List Entry) (more : List LogLine) →
    lines_text secret start (lines_of log ++ more) ≡ flat_map line log ++ lines_text secret (start + length log) more
lines_then secret start [] more = let same : start ≡ start + 0 = omega arith in ap (λ n. lines_text secret n more) same
lines_then secret start (e ∷ log) more =
    let count : (start + 1) + length log ≡ start + suc (length log) = omega arith in
    ap (λ t. line e ++ t) (lines_then secret (start + 1) log more)
    ∙ sym (append_assoc (line e) (flat_map line log) (lines_text secret ((start + 1) + length log) more))
    ∙ ap (λ n. (line e ++ flat_map line log) ++ lines_text secret n more) count

last_is : (secret : Name) (from : ℕ) (rest : List Entry) → lines_text secret from (LogLine.head ∷ lines_of rest) ≡ segment_text secret from rest
unfolding segment_text
last_is secret from rest = ap (λ t. line_of (head_text from secret) ++ t) (lines_alone secret from rest)

-- a segment, and what comes behind it
next_is : (secret : Name) (from : ℕ) (log : List Entry) (more : List LogLine) (text : Name) → lines_text secret (from + length log) more ≡ text →
    lines_text secret from (LogLine.head ∷ (lines_of log ++ more)) ≡ segment_text secret from log ++ text
unfolding segment_text
next_is secret from log more text is =
    let head : Name = line_of (head_text from secret) in
    ap (λ t. head ++ t) (lines_then secret from log more ∙ ap (λ t. flat_map line log ++ t) is)
    ∙ sym (append_assoc head (flat_map line log) text)

text_is : (secret : Name) (from to : ℕ) (segments : List Given) (rest : List Entry) → Follows from segments to →
    lines_text secret from (LogLine.head ∷ behind_first segments rest) ≡ whole_text secret segments to rest
text_is secret from to [] rest follows = last_is secret from rest ∙ ap (λ n. segment_text secret n rest) follows
text_is secret from to (s ∷ segments) rest follows =
    let behind : Name = whole_text secret segments to rest in
    next_is secret from s.log (LogLine.head ∷ behind_first segments rest) behind
    (text_is secret (from + length s.log) to segments rest follows.1)
    ∙ ap (λ n. segment_text secret n s.log ++ behind) (sym follows.0)
    ∙ sym (append_assoc (segment_text secret s.start s.log) (flat_map (text_of secret) segments) (segment_text secret to rest))

entries_alone : (log : List Entry) → log ≡ entries_of (lines_of log)
entries_alone [] = refl
entries_alone (e ∷ log) = ap (λ es. e ∷ es) (entries_alone log)

entries_then : (log : List Entry) (more : List LogLine) → log ++ entries_of more ≡ entries_of (lines_of log ++ more)
entries_then [] more = refl
entries_then (e ∷ log) more = ap (λ es. e ∷ es) (entries_then log more)

abbrev log_of : Given → List Entry
log_of s = s.log

entries_are : (segments : List Given) (rest : List Entry) → joined segments rest ≡ entries_of (behind_first segments rest)
entries_are [] rest = entries_alone rest
entries_are (s ∷ segments) rest =
    append_assoc s.log (flat_map log_of segments) rest ∙ ap (λ es. s.log ++ es) (entries_are segments rest)
    ∙ entries_then s.log (LogLine.head ∷ behind_first segments rest)

each_front : {A : Type 0} (P : A → Type 0) (xs ys : List A) → Each P (xs ++ ys) → Each P xs
each_front P [] ys h = tt
each_front P (x ∷ xs) ys h = (h.0, each_front P xs ys h.1)

all_stand : (segments : List Given) (rest : List Entry) → Each IsWritable (joined segments rest) → Each CanStand (behind_first segments rest)
all_stand [] rest h = each_mapped CanStand LogLine.entry rest h
all_stand (s ∷ segments) rest h =
    let parts = subst (Each IsWritable) (append_assoc s.log (flat_map log_of segments) rest) h in
    let own = each_mapped CanStand LogLine.entry s.log (each_front IsWritable s.log (joined segments rest) parts) in
    let others = all_stand segments rest (each_back IsWritable s.log (joined segments rest) parts) in
    each_append CanStand (lines_of s.log) (LogLine.head ∷ behind_first segments rest) own (tt, others)

-- ---- logs

pub segments_back : SegmentsAreReadBack
segments_back secret segments rest given named follows few typed read utf8 =
    let lines : List LogLine = behind_first segments rest in
    let text : lines_text secret 0 (LogLine.head ∷ lines) ≡ whole_text secret segments given rest = text_is secret 0 given segments rest follows in
    let same : joined segments rest ≡ entries_of lines = entries_are segments rest in
    let texts : Each IsText (joined segments rest) =
    subst (Each IsText) (sym same) (texts_utf8 secret 0 (LogLine.head ∷ lines) (subst IsUtf8 (sym text) utf8)) in
    record {
      lines = lines;
      has_lines = record {
        is_secret = named;
        writable = all_stand segments rest (each_writable (joined segments rest) typed read texts);
        few = subst (λ (es : List Entry). length es < 2 ^ 64) same few;
        is_text = sym text;
      };
      are_entries = same;
    }

pub one_back : (secret : Name) (es : List Entry) → IsTrue (is_name NameKind.Secret secret) → length es < 2 ^ 64 → Each IsTyped es →
    IsUtf8 (log_text secret es) → AreAsRead es → IsReadBack secret es
one_back secret es named few typed utf8 read = segments_back secret [] es 0 named refl few typed read utf8
