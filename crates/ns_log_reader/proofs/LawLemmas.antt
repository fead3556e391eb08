-- The laws of logs' texts.
use Rattle.std.proofs.Common.{◌≡◌, ◌⊎◌, ℕ, ◌+◌, ◌^◌, ◌<◌, ◌≤◌, List, [], ◌∷◌, ◌++◌, length, true, refl, sym, ap, ap₂, subst, ◌∙◌, arith}
use Rattle.std.proofs.Common.{append_assoc, append-nil, codes, decimal, inl, inr}
use Rattle.std.proofs.lemmas.List.{append_cancel_left}
use Rattle.std.proofs.lemmas.Option.{same_Some}
use Rattle.serde_json.specs.Read.{read}
use Rattle.ns_types.specs.declared.name.NameKind.TheVariants as NameKind
use Rattle.ns_types.specs.State.Lists.{Each}
use Rattle.ns_types.specs.State.Name.{is_name}
use Rattle.ns_types.specs.State.Names.{Name}
use Rattle.ns_json.specs.Logs.{entry_json, head_text, line_of}
use Rattle.ns_json.specs.Replies.{Entry}
use Rattle.ns_documents.proofs.Attributes.{same_Ok}
use Rattle.ns_log_reader.specs.Laws.{OneLog, LogHasNoFault, OneFault}
use Rattle.ns_log.specs.Lines.{BeginsWith, entry_text}
use Rattle.ns_log_reader.specs.Lines.{CanStand, HasBadHead, HasBadLine, HasLines, IsBadAfter, IsWithin, IsWritable, LogLine, entries_of, first_text}
use Rattle.ns_log_reader.specs.Lines.{line_text, lines_text, next}
use Rattle.ns_log_reader.specs.Reading.{entry_in}
use Rattle.ns_log_reader.proofs.Feeds.{Lacks, one_line}
use Rattle.ns_log_reader.proofs.Lines.{behind, count_is, entry_lacks, first_lacks, head_lacks, lines_first, no_entry_head, opened, written_is_read}
use Rattle.ns_log_reader.proofs.Steps.{entry_back}

-- ---- entries

-- two entries with one text are the same
one_entry : (a b : Entry) → IsWithin a → IsWithin b → entry_text a ≡ entry_text b → a ≡ b
one_entry a b v w is =
    let value = same_Some (entry_json a) (entry_json b) (sym (written_is_read a v) ∙ ap read is ∙ written_is_read b w) in
    same_Ok a b (sym (entry_back a v.good v.as_read v.answer) ∙ ap entry_in value ∙ entry_back b w.good w.as_read w.answer)

-- a line and what comes after
line_and_rest : (xs ys rest more : Name) → Lacks xs → Lacks ys → line_of xs ++ rest ≡ line_of ys ++ more → (xs ≡ ys) × (rest ≡ more)
line_and_rest xs ys rest more h k is = one_line xs ys rest more h k (sym (opened xs rest) ∙ is ∙ opened ys more)

entry_and_rest : (a b : Entry) (rest more : Name) → IsWritable a → IsWritable b → line_of (entry_text a) ++ rest ≡ line_of (entry_text b) ++ more →
    (a ≡ b) × (rest ≡ more)
entry_and_rest a b rest more v w is =
    let both = line_and_rest (entry_text a) (entry_text b) rest more (entry_lacks a v.within) (entry_lacks b w.within) is in
    (one_entry a b v.within w.within both.0, both.1)

no_lines : (xs rest : Name) → [] ≡ line_of xs ++ rest → ⊥
no_lines [] rest h = cc
no_lines (x ∷ xs) rest h = cc

-- ---- two lists of lines, and what comes after each

-- the text begins with a line that can stand there
record Begins (secret : Name) (start : ℕ) (text : Name) : Type 0 where
  line : LogLine
  rest : Name
  can_stand : CanStand line
  is_text : text ≡ line_of (line_text secret start line) ++ rest

-- they are the same, or one goes on
abbrev Compared : Name → ℕ → List LogLine → List LogLine → Name → Name → Type 0
Compared secret start ls ms rest more =
    ((ls ≡ ms) × (rest ≡ more)) ⊎ Begins secret (behind start ls) rest ⊎ Begins secret (behind start ms) more

low : (start : ℕ) (ls : List LogLine) → start ≤ behind start ls
low start [] = omega arith
low start (LogLine.head ∷ ls) = low start ls
low start (LogLine.entry e ∷ ls) = let more : start + 1 ≤ behind (start + 1) ls = low (start + 1) ls in omega arith

also : (secret : Name) (start : ℕ) (a b : LogLine) (ls ms : List LogLine) (rest more : Name) → a ≡ b →
    Compared secret (next start a) ls ms rest more → Compared secret start (a ∷ ls) (b ∷ ms) rest more
also secret start a b ls ms rest more is (inl same) = inl (ap₂ (λ x xs. x ∷ xs) is same.0, same.1)
also secret start a b ls ms rest more is (inr (inl begins)) = inr (inl begins)
also secret start a b ls ms rest more is (inr (inr begins)) =
    inr (inr (subst (λ x. Begins secret (behind (next start x) ms) more) is begins))

-- two lines with one text are the same
same_line : (secret : Name) (start : ℕ) (a b : LogLine) (rest more : Name) → is_name NameKind.Secret secret ≡ true → start < 2 ^ 64 →
    CanStand a → CanStand b → line_of (line_text secret start a) ++ rest ≡ line_of (line_text secret start b) ++ more → (a ≡ b) × (rest ≡ more)
same_line secret start LogLine.head LogLine.head rest more h few v w is =
    let lacks = head_lacks start secret few h in
    (refl, (line_and_rest (head_text start secret) (head_text start secret) rest more lacks lacks is).1)
same_line secret start LogLine.head (LogLine.entry f) rest more h few v w is =
    absurd (no_entry_head f start secret
    (sym (line_and_rest (head_text start secret) (entry_text f) rest more (head_lacks start secret few h) (entry_lacks f w.within) is).0))
same_line secret start (LogLine.entry e) LogLine.head rest more h few v w is =
    absurd (no_entry_head e start secret
    (line_and_rest (entry_text e) (head_text start secret) rest more (entry_lacks e v.within) (head_lacks start secret few h) is).0)
same_line secret start (LogLine.entry e) (LogLine.entry f) rest more h few v w is =
    let both = entry_and_rest e f rest more v w is in
    (ap LogLine.entry both.0, both.1)

compared : (secret : Name) (start : ℕ) (ls ms : List LogLine) (rest more : Name) → is_name NameKind.Secret secret ≡ true →
    behind start ls < 2 ^ 64 → Each CanStand ls → Each CanStand ms →
    lines_text secret start ls ++ rest ≡ lines_text secret start ms ++ more → Compared secret start ls ms rest more
compared secret start [] [] rest more h few v w is = inl (refl, is)
compared secret start (a ∷ ls) [] rest more h few v w is = inr (inr (record {
  line = a;
  rest = lines_text secret (next start a) ls ++ rest;
  can_stand = v.0;
  is_text = sym is ∙ lines_first secret start a ls rest;
}))
compared secret start [] (b ∷ ms) rest more h few v w is = inr (inl (record {
  line = b;
  rest = lines_text secret (next start b) ms ++ more;
  can_stand = w.0;
  is_text = is ∙ lines_first secret start b ms more;
}))
compared secret start (a ∷ ls) (b ∷ ms) rest more h few v w is =
    let least : start ≤ behind start (a ∷ ls) = low start (a ∷ ls) in
    let both = same_line secret start a b (lines_text secret (next start a) ls ++ rest) (lines_text secret (next start b) ms ++ more) h (omega arith)
    v.0 w.0 (sym (lines_first secret start a ls rest) ∙ is ∙ lines_first secret start b ms more) in
    also secret start a b ls ms rest more both.0
    (compared secret (next start a) ls ms rest more h few v.1 w.1
    (subst (λ x. lines_text secret (next start a) ls ++ rest ≡ lines_text secret (next start x) ms ++ more) (sym both.0) both.1))

-- nothing begins with no line
begins_none : (secret : Name) (start : ℕ) → Begins secret start [] → ⊥
begins_none secret start b = no_lines (line_text secret start b.line) b.rest b.is_text

begins_bad : (secret : Name) (start : ℕ) (text : Name) → Begins secret start text → HasBadLine secret start text → ⊥
begins_bad secret start text b bad = by b.line b.can_stand (b.rest, b.is_text)
  where
    by : (l : LogLine) → CanStand l → BeginsWith text (line_text secret start l) → ⊥
    by LogLine.head v is = bad.no_head is
    by (LogLine.entry e) v is = bad.no_entry e v is

-- ---- logs

heads : (secret other rest more : Name) → is_name NameKind.Secret secret ≡ true → is_name NameKind.Secret other ≡ true →
    line_of (first_text secret) ++ rest ≡ line_of (first_text other) ++ more → (secret ≡ other) × (rest ≡ more)
heads secret other rest more h k is =
    let both = line_and_rest (first_text secret) (first_text other) rest more (first_lacks secret h) (first_lacks other k) is in
    (append_cancel_left (codes "nsd-log 3 " ++ decimal 0 ++ codes " ") secret other both.0, both.1)

-- the log's text with nothing after
whole : (text secret : Name) (ls : List LogLine) → HasLines text secret ls → text ≡ line_of (first_text secret) ++ (lines_text secret 0 ls ++ [])
whole text secret ls h = h.is_text ∙ ap (λ t. line_of (first_text secret) ++ t) (sym (append-nil (lines_text secret 0 ls)))

part : (text : Name) (n : ℕ) (b : IsBadAfter text n) → text ≡ line_of (first_text b.secret) ++ (lines_text b.secret 0 b.lines ++ b.rest)
part text n b = b.is_text ∙ ap (λ t. t ++ b.rest) b.is_log.is_text ∙ append_assoc (line_of (first_text b.secret)) (lines_text b.secret 0 b.lines) b.rest

few_behind : (ls : List LogLine) → length (entries_of ls) < 2 ^ 64 → behind 0 ls < 2 ^ 64
few_behind ls few = let is : behind 0 ls ≡ length (entries_of ls) = count_is ls in omega arith

bad_behind : (secret rest : Name) (ls : List LogLine) → HasBadLine secret (length (entries_of ls)) rest → HasBadLine secret (behind 0 ls) rest
bad_behind secret rest ls bad = subst (λ k. HasBadLine secret k rest) (sym (count_is ls)) bad

pub one_log : OneLog
one_log text secret other es fs h k =
    let both = heads secret other (lines_text secret 0 h.lines ++ []) (lines_text other 0 k.lines ++ []) h.has_lines.is_secret k.has_lines.is_secret
    (sym (whole text secret h.lines h.has_lines) ∙ whole text other k.lines k.has_lines) in
    let is = subst (λ x. lines_text secret 0 h.lines ++ [] ≡ lines_text x 0 k.lines ++ []) (sym both.0) both.1 in (
      both.0,
      h.are_entries ∙ by (compared secret 0 h.lines k.lines [] [] h.has_lines.is_secret (few_behind h.lines h.has_lines.few)
          h.has_lines.writable k.has_lines.writable is) ∙ sym k.are_entries,
    )
  where
    by : Compared secret 0 h.lines k.lines [] [] → entries_of h.lines ≡ entries_of k.lines
    by (inl same) = ap entries_of same.0
    by (inr (inl begins)) = absurd (begins_none secret (behind 0 h.lines) begins)
    by (inr (inr begins)) = absurd (begins_none secret (behind 0 k.lines) begins)

not_after : (text secret : Name) (ls : List LogLine) (n : ℕ) → HasLines text secret ls → IsBadAfter text n → ⊥
not_after text secret ls n h b = by (compared secret 0 ls b.lines [] b.rest h.is_secret (few_behind ls h.few) h.writable b.is_log.writable is)
  where
    both : (secret ≡ b.secret) × (lines_text secret 0 ls ++ [] ≡ lines_text b.secret 0 b.lines ++ b.rest)
    both = heads secret b.secret (lines_text secret 0 ls ++ []) (lines_text b.secret 0 b.lines ++ b.rest) h.is_secret b.is_log.is_secret
        (sym (whole text secret ls h) ∙ part text n b)

    is : lines_text secret 0 ls ++ [] ≡ lines_text secret 0 b.lines ++ b.rest
    is = subst (λ x. lines_text secret 0 ls ++ [] ≡ lines_text x 0 b.lines ++ b.rest) (sym both.0) both.1

    bad : HasBadLine secret (behind 0 b.lines) b.rest
    bad = bad_behind secret b.rest b.lines (subst (λ x. HasBadLine x (length (entries_of b.lines)) b.rest) (sym both.0) b.is_bad)

    by : Compared secret 0 ls b.lines [] b.rest → ⊥
    by (inl same) = b.is_more (sym same.1)
    by (inr (inl begins)) = begins_none secret (behind 0 ls) begins
    by (inr (inr begins)) = begins_bad secret (behind 0 b.lines) b.rest begins bad

pub log_has_no_fault : LogHasNoFault
log_has_no_fault text secret es n h (inl bad) =
    bad.1 secret h.has_lines.is_secret (lines_text secret 0 h.lines ++ [], whole text secret h.lines h.has_lines)
log_has_no_fault text secret es n h (inr bad) = not_after text secret h.lines n h.has_lines bad

no_head_then : (text : Name) (n : ℕ) → HasBadHead text → IsBadAfter text n → ⊥
no_head_then text n bad b = bad b.secret b.is_log.is_secret (lines_text b.secret 0 b.lines ++ b.rest, part text n b)

both_after : (text : Name) (n m : ℕ) → IsBadAfter text n → IsBadAfter text m → n ≡ m
both_after text n m a b =
    a.is_number ∙ ap (λ k. k + 2) (by (compared a.secret 0 a.lines b.lines a.rest b.rest a.is_log.is_secret (few_behind a.lines a.is_log.few)
    a.is_log.writable b.is_log.writable is)) ∙ sym b.is_number
  where
    both : (a.secret ≡ b.secret) × (lines_text a.secret 0 a.lines ++ a.rest ≡ lines_text b.secret 0 b.lines ++ b.rest)
    both = heads a.secret b.secret (lines_text a.secret 0 a.lines ++ a.rest) (lines_text b.secret 0 b.lines ++ b.rest) a.is_log.is_secret
        b.is_log.is_secret (sym (part text n a) ∙ part text m b)

    is : lines_text a.secret 0 a.lines ++ a.rest ≡ lines_text a.secret 0 b.lines ++ b.rest
    is = subst (λ x. lines_text a.secret 0 a.lines ++ a.rest ≡ lines_text x 0 b.lines ++ b.rest) (sym both.0) both.1

    worse : HasBadLine a.secret (behind 0 b.lines) b.rest
    worse = bad_behind a.secret b.rest b.lines (subst (λ x. HasBadLine x (length (entries_of b.lines)) b.rest) (sym both.0) b.is_bad)

    by : Compared a.secret 0 a.lines b.lines a.rest b.rest → length a.lines ≡ length b.lines
    by (inl same) = ap length same.0
    by (inr (inl begins)) = absurd (begins_bad a.secret (behind 0 a.lines) a.rest begins (bad_behind a.secret a.rest a.lines a.is_bad))
    by (inr (inr begins)) = absurd (begins_bad a.secret (behind 0 b.lines) b.rest begins worse)

pub one_fault : OneFault
one_fault text n m (inl a) (inl b) = a.0 ∙ sym b.0
one_fault text n m (inl a) (inr b) = absurd (no_head_then text m a.1 b)
one_fault text n m (inr a) (inl b) = absurd (no_head_then text n b.1 a)
one_fault text n m (inr a) (inr b) = both_after text n m a b
