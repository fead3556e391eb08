-- The lines of entries, and the first line.
use Rattle.std.proofs.Common.{◌≡◌, ℕ, zero, suc, ◌+◌, ◌-◌, ◌^◌, ◌<◌, ◌≤◌, List, [], ◌∷◌, ◌++◌, length, take, drop, get_or, Bool, true, false, nat_lt}
use Rattle.std.proofs.Common.{Some, None, Ok, Err, refl, sym, ap, subst, ◌∙◌, arith, append_assoc, append-nil, codes, decimal, length-append, length-drop}
use Rattle.std.specs.Prelude.{IsUtf8}
use Rattle.std.specs.List.{position, position_or_len}
use Rattle.std.proofs.lemmas.Bool.{eqb-true, eqb-false, ltb-false}
use Rattle.std.proofs.lemmas.List.{take-append-drop, drop_more}
use Rattle.std.proofs.lemmas.List.Quantifiers.{position-Some}
use Rattle.std.proofs.lemmas.Fmt.{decimal_digit}
use Rattle.std.proofs.lemmas.Option.{none-some, same_Some}
use Rattle.serde_json.specs.Data.{Data}
use Rattle.serde_json.specs.Read.{read}
use Rattle.ns_types.specs.declared.name.NameKind.TheVariants as NameKind
use Rattle.ns_types.specs.State.Lists.{Each}
use Rattle.ns_types.specs.State.Name.{is_name}
use Rattle.ns_types.specs.State.Names.{Name}
use Rattle.ns_json.specs.Logs.{entry_json, head_text, line_of}
use Rattle.ns_json.specs.Replies.{Entry}
use Rattle.ns_documents.proofs.Attributes.{same_Ok}
use Rattle.ns_log.specs.Lines.{BeginsWith, IsLineLen, entry_text}
use Rattle.ns_log_reader.specs.declared.fault.LineFault.TheVariants.{Bad}
use Rattle.ns_log_reader.specs.Lines.{CanStand, HasBadEntry, HasBadHead, IsBadAfter, IsLogOf, IsWithin, LogLine}
use Rattle.ns_log_reader.specs.Lines.{entries_of, first_text, line_text, lines_text, next}
use Rattle.ns_log_reader.specs.Reading.{Read, Gives, same, entry_in, is_feed, BeginsWithLine, ReadsBack, IsNext, IsNoFirst, HasEntries}
use Rattle.ns_log_reader.specs.Reading.{HasSoFar, StopsAfter, opening_text}
use Rattle.ns_log_reader.proofs.Spelled.{read_spelled}
use Rattle.ns_log_reader.proofs.Feeds.{Lacks, decimal_lacks, lacks_both, lacks_by, text_lacks, secret_lacks, one_line}
use Rattle.ns_log_reader.proofs.Steps.{entry_back}
use Rattle.ns_log_reader.proofs.Entries.{entry_spelled}

-- ---- what a line of an entry is read as

pub written_is_read : (e : Entry) → IsWithin e → read (entry_text e) ≡ Some (entry_json e)
written_is_read e w = read_spelled 10 (entry_json e) (omega arith) (entry_spelled e w.good w.step w.answer)

pub entry_lacks : (e : Entry) → IsWithin e → Lacks (entry_text e)
entry_lacks e w = text_lacks 10 (entry_json e) (entry_spelled e w.good w.step w.answer)

-- the value of the line is what the entry is read from
pub value_back : (line : Name) (d : Data) (r : Read Entry) → read line ≡ Some d → Gives same r (entry_in d) → ReadsBack line r
value_back line d r is gives = λ e w text.
    let value : d ≡ entry_json e = same_Some d (entry_json e) (sym is ∙ ap read text ∙ written_is_read e w.within) in
    subst (Gives same r) (ap entry_in value ∙ entry_back e w.within.good w.within.as_read w.within.answer) gives

-- a line with no value is no entry's
pub none_back : (line : Name) → (IsUtf8 line → read line ≡ None) → ReadsBack line (Err Bad)
none_back line none = λ e w text.
    absurd (none-some (entry_json e) (sym (none (subst IsUtf8 (sym text) w.text)) ∙ ap read text ∙ written_is_read e w.within))

-- ---- line feeds

lacks_front : (xs : Name) (i : ℕ) → ((k : ℕ) → k < i → is_feed (get_or xs k 0) ≡ false) → Lacks (take i xs)
lacks_front [] zero h = tt
lacks_front [] (suc i) h = tt
lacks_front (x ∷ xs) zero h = tt
lacks_front (x ∷ xs) (suc i) h = (eqb-false x 10 (h 0 (omega arith)), lacks_front xs i (λ k lt. h (suc k) (omega arith)))

-- the first line, its feed, and what comes after
abbrev Splits : Name → ℕ → Type 0
Splits text i = Lacks (take i text) × (text ≡ take i text ++ 10 ∷ drop (i + 1) text)

splits : (text : Name) (i : ℕ) → Some i ≡ position is_feed text → Splits text i
splits text i is =
    let at = position-Some is_feed text i 0 (sym is) in
    let feed : get_or text i 0 ≡ 10 = eqb-true (get_or text i 0) 10 at.1 in
    let rest : drop i text ≡ get_or text i 0 ∷ drop (i + 1) text = drop_more text i 0 at.0 in
    (lacks_front text i at.2, sym (take-append-drop i text) ∙ ap (λ ys. take i text ++ ys) (rest ∙ ap (λ y. y ∷ drop (i + 1) text) feed))

all_lack : (xs : Name) → length xs ≤ position_or_len is_feed xs → Lacks xs
all_lack [] h = tt
all_lack (x ∷ xs) h = by (is_feed x) refl (all_lack xs)
  where
    by : (b : Bool) → is_feed x ≡ b → (length xs ≤ position_or_len is_feed xs → Lacks xs) → Lacks (x ∷ xs)
    by true e more = let none : suc (length xs) ≤ 0 = rw e at h in absurd (omega arith)
    by false e more = let rest : suc (length xs) ≤ 1 + position_or_len is_feed xs = rw e at h in (eqb-false x 10 e, more (omega arith))

none_lacks : (text : Name) → None ≡ position is_feed text → Lacks text
none_lacks text is = all_lack text (by (nat_lt (position_or_len is_feed text) (length text)) refl)
  where
    by : (b : Bool) → nat_lt (position_or_len is_feed text) (length text) ≡ b → length text ≤ position_or_len is_feed text
    by true e = let bad : None ≡ Some (position_or_len is_feed text) = rw e at is in absurd (let no : ⊥ = cc in no)
    by false e = ltb-false (position_or_len is_feed text) (length text) e

lacks_none : (xs rest : Name) → Lacks (xs ++ 10 ∷ rest) → ⊥
lacks_none [] rest h = h.0 refl
lacks_none (x ∷ xs) rest h = lacks_none xs rest h.1

-- a line and what comes after, with the feed between
pub opened : (line rest : Name) → line_of line ++ rest ≡ line ++ 10 ∷ rest
opened line rest = append_assoc line (10 ∷ []) rest

-- without a feed no line begins the text
pub no_line : (text line : Name) → None ≡ position is_feed text → BeginsWith text line → ⊥
no_line text line none b = lacks_none line b.0 (subst Lacks (b.1 ∙ opened line b.0) (none_lacks text none))

-- the line that the text begins with
pub first_is : (text : Name) (i : ℕ) (line : Name) → Some i ≡ position is_feed text → Lacks line → BeginsWith text line → take i text ≡ line
first_is text i line at lacks b =
    let s = splits text i at in
    (one_line (take i text) line (drop (i + 1) text) b.0 s.0 lacks (sym s.1 ∙ b.1 ∙ opened line b.0)).0

pub first_split : (text : Name) (i : ℕ) → Some i ≡ position is_feed text → text ≡ line_of (take i text) ++ drop (i + 1) text
first_split text i at = (splits text i at).1 ∙ sym (opened (take i text) (drop (i + 1) text))

-- ---- the next entry

pub no_entry : (text : Name) → None ≡ position is_feed text → HasBadEntry text
no_entry text none = λ e w b. no_line text (entry_text e) none b

not_bad : {A : Type 0} (x : A) → ◌≡◌ {A = Read A} (Ok x) (Err Bad) → ⊥
not_bad x h = cc

pub bad_candidate : (text : Name) (i : ℕ) → Some i ≡ position is_feed text → ReadsBack (take i text) (Err Bad) → HasBadEntry text
bad_candidate text i at back = λ e w b. not_bad e (back e w (first_is text i (entry_text e) at (entry_lacks e w.within) b))

pub other_spelling : (text : Name) (i : ℕ) (x : Entry) → Some i ≡ position is_feed text → ReadsBack (take i text) (Ok x) →
    (BeginsWith text (entry_text x) → ⊥) → HasBadEntry text
other_spelling text i x at back other = λ e w b.
    let found : e ≡ x = same_Ok e x (back e w (first_is text i (entry_text e) at (entry_lacks e w.within) b)) in
    other (subst (λ y. BeginsWith text (entry_text y)) found b)

pub is_line : (text : Name) (i len : ℕ) (x : Entry) → Some i ≡ position is_feed text → IsWithin x → IsUtf8 (take i text) →
    IsLineLen text (entry_text x) (Some len) → BeginsWithLine text x len
is_line text i len x at within utf8 h =
    let line = first_is text i (entry_text x) at (entry_lacks x within) (drop len text, h.0) in
    record { writable = record { within = within; text = subst IsUtf8 line utf8 }; is_text = h.0; some = h.1; within = h.2 }

-- ---- the line in front of a segment

pub head_lacks : (start : ℕ) (secret : Name) → start < 2 ^ 64 → is_name NameKind.Secret secret ≡ true → Lacks (head_text start secret)
head_lacks start secret low h =
    let number = lacks_both (codes "nsd-log 3 ") (decimal start) (lacks_by (codes "nsd-log 3 ") refl) (decimal_lacks start low) in
    let front = lacks_both (codes "nsd-log 3 " ++ decimal start) (codes " ") number (lacks_by (codes " ") refl) in
    lacks_both (codes "nsd-log 3 " ++ decimal start ++ codes " ") secret front (secret_lacks secret h)

-- it is no entry's
differ : (xs ys : Name) → 123 ∷ xs ≡ 110 ∷ ys → ⊥
differ xs ys is = let first : ◌≡◌ {A = ℕ} 123 110 = cc in omega (arith, first)

pub no_entry_head : (e : Entry) (start : ℕ) (secret : Name) → entry_text e ≡ head_text start secret → ⊥
unfolding entry_json
no_entry_head e start secret is = differ _ _ is

-- the first line spelled out
pub opening_is : (secret : Name) → opening_text secret ≡ first_text secret
opening_is secret = ap (λ (d : Name). codes "nsd-log 3 " ++ d ++ codes " " ++ secret) (sym (decimal_digit 0 (omega arith)))

pub first_lacks : (secret : Name) → is_name NameKind.Secret secret ≡ true → Lacks (first_text secret)
first_lacks secret h = head_lacks 0 secret (omega arith) h

pub no_head : (text : Name) → None ≡ position is_feed text → HasBadHead text
no_head text none = λ secret h b. no_line text (first_text secret) none b

pub bad_head : (text : Name) (i : ℕ) → Some i ≡ position is_feed text → IsNoFirst (take i text) → HasBadHead text
bad_head text i at bad = λ secret h b. bad secret h (first_is text i (first_text secret) at (first_lacks secret h) b ∙ sym (opening_is secret))

pub good_head : (text secret : Name) (i : ℕ) → Some i ≡ position is_feed text → take i text ≡ opening_text secret →
    text ≡ line_of (first_text secret) ++ drop (i + 1) text
good_head text secret i at is = first_split text i at ∙ ap (λ l. line_of l ++ drop (i + 1) text) (is ∙ opening_is secret)

-- ---- lines

-- one of a log
abbrev pub line : Name → ℕ → LogLine → Name
line secret start l = line_of (line_text secret start l)

-- how many entries come before what follows the lines
abbrev pub behind : ℕ → List LogLine → ℕ
behind start [] = start
behind start (l ∷ ls) = behind (next start l) ls

pub behind_is : (start : ℕ) (ls : List LogLine) → behind start ls ≡ start + length (entries_of ls)
behind_is start [] = omega arith
behind_is start (LogLine.head ∷ ls) = behind_is start ls
behind_is start (LogLine.entry e ∷ ls) = let more : behind (start + 1) ls ≡ (start + 1) + length (entries_of ls) = behind_is (start + 1) ls in omega arith

pub count_is : (ls : List LogLine) → behind 0 ls ≡ length (entries_of ls)
count_is ls = let is : behind 0 ls ≡ 0 + length (entries_of ls) = behind_is 0 ls in omega arith

pub few_entries : (ls : List LogLine) → length (entries_of ls) ≤ length ls
few_entries [] = omega arith
few_entries (LogLine.head ∷ ls) = let more : length (entries_of ls) ≤ length ls = few_entries ls in omega arith
few_entries (LogLine.entry e ∷ ls) = let more : length (entries_of ls) ≤ length ls = few_entries ls in omega arith

-- the first one, and what comes after
pub lines_first : (secret : Name) (start : ℕ) (l : LogLine) (ls : List LogLine) (rest : Name) →
    lines_text secret start (l ∷ ls) ++ rest ≡ line secret start l ++ (lines_text secret (next start l) ls ++ rest)
lines_first secret start l ls rest = append_assoc (line secret start l) (lines_text secret (next start l) ls) rest

-- one more
pub text_more : (secret : Name) (start : ℕ) (ls : List LogLine) (l : LogLine) (rest : Name) →
    lines_text secret start (ls ++ l ∷ []) ++ rest ≡ lines_text secret start ls ++ (line secret (behind start ls) l ++ rest)
text_more secret start [] l rest = lines_first secret start l [] rest
text_more secret start (x ∷ ls) l rest =
    lines_first secret start x (ls ++ l ∷ []) rest ∙ ap (λ t. line secret start x ++ t) (text_more secret (next start x) ls l rest)
    ∙ sym (lines_first secret start x ls (line secret (behind (next start x) ls) l ++ rest))

pub entries_more : (ls : List LogLine) (l : LogLine) → entries_of (ls ++ l ∷ []) ≡ entries_of ls ++ entries_of (l ∷ [])
entries_more [] l = refl
entries_more (LogLine.head ∷ ls) l = entries_more ls l
entries_more (LogLine.entry e ∷ ls) l = ap (λ es. e ∷ es) (entries_more ls l)

pub each_more : (ls : List LogLine) (l : LogLine) → Each CanStand ls → CanStand l → Each CanStand (ls ++ l ∷ [])
each_more [] l h w = (w, tt)
each_more (x ∷ ls) l h w = (h.0, each_more ls l h.1 w)

-- ---- line after line

pub begun : (text secret : Name) → HasSoFar text secret text [] 2
begun text secret = record {
  lines = [];
  before = record { writable = tt; is_text = refl };
  are_entries = refl;
  is_number = refl;
  few = omega arith;
}

pub so_far_more : (text secret rest : Name) (entries entries' : List Entry) (number len : ℕ) (l : LogLine) →
    HasSoFar text secret rest entries number → IsNext rest secret (length entries) l len → entries' ≡ entries ++ entries_of (l ∷ []) →
    HasSoFar text secret (drop len rest) entries' (number + 1)
so_far_more text secret rest entries entries' number len l h n is =
    let at : length entries ≡ behind 0 h.lines = ap length h.are_entries ∙ sym (count_is h.lines) in
    let begins : rest ≡ line secret (behind 0 h.lines) l ++ drop len rest =
    subst (λ k. rest ≡ line secret k l ++ drop len rest) at n.is_text in
    let one : length (h.lines ++ l ∷ []) ≡ length h.lines + 1 = length-append h.lines (l ∷ []) in
    let rest_len : length (drop len rest) ≡ length rest - len = length-drop len rest in
    let number_is : number ≡ length h.lines + 2 = h.is_number in
    let few : length h.lines + length rest ≤ length text = h.few in
    let some : 0 < len = n.some in
    let within : len ≤ length rest = n.within in
    record {
      lines = h.lines ++ l ∷ [];
      before = record {
        writable = each_more h.lines l h.before.writable n.writable;
        is_text =
            h.before.is_text ∙ ap (λ t. lines_text secret 0 h.lines ++ t) begins
            ∙ sym (text_more secret 0 h.lines l (drop len rest));
      };
      are_entries = is ∙ ap (λ es. es ++ entries_of (l ∷ [])) h.are_entries ∙ sym (entries_more h.lines l);
      is_number = omega arith;
      few = omega arith;
    }

-- there are fewer entries than bytes
pub so_far_few : (text secret rest : Name) (entries : List Entry) (number : ℕ) → HasSoFar text secret rest entries number →
    length entries ≤ length text
so_far_few text secret rest entries number h =
    let at : length entries ≡ length (entries_of h.lines) = ap length h.are_entries in
    let low : length (entries_of h.lines) ≤ length h.lines = few_entries h.lines in
    let few : length h.lines + length rest ≤ length text = h.few in
    omega arith

pub so_far_number : (text secret rest : Name) (entries : List Entry) (number : ℕ) → HasSoFar text secret rest entries number →
    number + length rest ≤ length text + 2
so_far_number text secret rest entries number h =
    let number_is : number ≡ length h.lines + 2 = h.is_number in
    let few : length h.lines + length rest ≤ length text = h.few in
    omega arith

pub entry_next : (text secret : Name) (start len : ℕ) (e : Entry) → BeginsWithLine text e len → IsNext text secret start (LogLine.entry e) len
entry_next text secret start len e b = record { writable = b.writable; is_text = b.is_text; some = b.some; within = b.within }

pub head_next : (text secret : Name) (start len : ℕ) → IsLineLen text (head_text start secret) (Some len) →
    IsNext text secret start LogLine.head len
head_next text secret start len h = record { writable = tt; is_text = h.0; some = h.1; within = h.2 }

-- ---- whole logs

pub log_is : (text secret rest : Name) (es : List Entry) → is_name NameKind.Secret secret ≡ true → text ≡ line_of (first_text secret) ++ rest →
    HasEntries rest secret es → IsLogOf text secret es
log_is text secret rest es named is h = record {
  lines = h.lines;
  has_lines = record {
    is_secret = named;
    writable = h.has_lines.writable;
    few = subst (λ (xs : List Entry). length xs < 2 ^ 64) h.are_entries h.few;
    is_text = is ∙ ap (λ r. line_of (first_text secret) ++ r) (h.has_lines.is_text ∙ append-nil (lines_text secret 0 h.lines));
  };
  are_entries = h.are_entries;
}

pub fault_is : (text secret rest : Name) (n : ℕ) → is_name NameKind.Secret secret ≡ true → text ≡ line_of (first_text secret) ++ rest →
    StopsAfter rest secret n → IsBadAfter text n
fault_is text secret rest n named is h = record {
  secret = secret;
  lines = h.lines;
  before = line_of (first_text secret) ++ lines_text secret 0 h.lines;
  rest = h.rest;
  is_log = record { is_secret = named; writable = h.before.writable; few = h.few; is_text = refl };
  is_text =
      is ∙ ap (λ r. line_of (first_text secret) ++ r) h.before.is_text
      ∙ sym (append_assoc (line_of (first_text secret)) (lines_text secret 0 h.lines) h.rest);
  is_number = h.is_number;
  is_more = h.is_more;
  is_bad = h.is_bad;
}
