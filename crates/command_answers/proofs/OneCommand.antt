-- Words ask for one command at most.
-- Idea: a command is read off the first two letters of its name, by which the names differ, and off the rows after it.
use Rattle.std.proofs.Common.{◌≡◌, ◌∙◌, ◌+◌, ◌*◌, ◌==◌, ℕ, List, [], sym, ap, ap₂, refl, slice_index, if◌then◌else◌}
use Rattle.std.specs.Prelude.{Option, Some, None, Bool, true, false, codes}
use Rattle.std.specs.Str.Parse.{digits_value, without_leading_plus}
use Rattle.clap.specs.Words.{Text, Row, one_of, first_of, subcommand_of}
use Rattle.command_library.specs.command_words.Words.{Request, Room, Command, Check, Compile, Verify, Upgrade, Exec, Run, Eval, Trace, Session, Tasks, Derive, Audit, Replay, Library, Gen}
use Rattle.command_library.specs.command_words.Words.{AsksFor, AsksToRun, IsRoom, IsCommand, IsNumberIn, flag_text, command_app, command_name}

-- ---- what is in the rows

abbrev text_in : Option Text → Text
text_in None = []
text_in (Some t) = t

abbrev word : Text → List Row → Text
word id rows = text_in (first_of id rows)

abbrev number_in : Option Text → ℕ
number_in o = digits_value 10 (without_leading_plus (text_in o))

abbrev number : Text → List Row → ℕ
number id rows = number_in (one_of id rows)

abbrev room : List Row → Room
room rows = record { calls = number (codes "calls") rows; frames = number (codes "frames") rows; words = number (codes "words") rows }

abbrev flag_in : Text → Bool
flag_in t = slice_index t 0 == 116

abbrev request : List Row → Request
request rows = record { file = word (codes "FILE") rows; entry = word (codes "ENTRY") rows; room = room rows; gauge = flag_in (text_in (one_of (codes "gauge") rows)) }

word_is : (id : Text) (rows : List Row) (t : Text) → first_of id rows ≡ Some t → t ≡ word id rows
word_is id rows t e = ap text_in (sym e)

number_is : (id : Text) (least most : ℕ) (rows : List Row) (n : ℕ) → IsNumberIn id least most rows n → n ≡ number id rows
number_is id least most rows n h = h.value ∙ ap number_in (sym h.given)

room_is : (rows : List Row) (r : Room) → IsRoom rows r → r ≡ room rows
room_is rows r h =
    let calls = number_is (codes "calls") _ _ rows r.calls h.calls in
    let frames = number_is (codes "frames") _ _ rows r.frames h.frames in
    let words = number_is (codes "words") _ _ rows r.words h.words in
    λ i. record { calls = calls i; frames = frames i; words = words i }

flag_is : (b : Bool) → b ≡ flag_in (flag_text b)
flag_is true = refl
flag_is false = refl

request_is : (rows : List Row) (r : Request) → AsksToRun rows r → r ≡ request rows
request_is rows r h =
    let file = word_is (codes "FILE") rows r.file h.file in
    let entry = word_is (codes "ENTRY") rows r.entry h.entry in
    let rooms = room_is rows r.room h.room in
    let gauge : r.gauge ≡ flag_in (text_in (one_of (codes "gauge") rows)) = flag_is r.gauge ∙ ap (λ o. flag_in (text_in o)) (sym h.gauge) in
    λ i. record { file = file i; entry = entry i; room = rooms i; gauge = gauge i }

-- ---- the command

abbrev letters : Text → ℕ
letters t = slice_index t 0 * 256 + slice_index t 1

abbrev asked : ℕ → List Row → Command
asked k rows =
    if k == 25448 then Check (word (codes "FILE") rows)
    else if k == 25455 then Compile (word (codes "FILE") rows) (word (codes "OUT") rows)
    else if k == 30309 then Verify (word (codes "FILE") rows)
    else if k == 30064 then Upgrade (word (codes "FILE") rows) (word (codes "OUT") rows)
    else if k == 25976 then Exec (request rows)
    else if k == 29301 then Run (request rows)
    else if k == 25974 then Eval (word (codes "FILE") rows) (word (codes "ENTRY") rows) (number (codes "calls") rows) (number (codes "frames") rows)
    else if k == 29810 then Trace (word (codes "FILE") rows) (word (codes "ENTRY") rows) (word (codes "OUT") rows) (room rows)
    else if k == 29541 then Session (word (codes "FILE") rows) (room rows)
    else if k == 29793 then Tasks (word (codes "FILE") rows) (number (codes "SEED") rows) (number (codes "TURNS") rows) (room rows)
    else if k == 25701 then Derive (word (codes "FILE") rows) (word (codes "OUT") rows)
    else if k == 24949 then Audit (word (codes "FILE") rows) (word (codes "PROOF") rows)
    else if k == 29285 then Replay (word (codes "TRACE") rows) (number (codes "STEP") rows)
    else if k == 27753 then Library (word (codes "NAME") rows)
    else Gen (number (codes "SEED") rows) (number (codes "COUNT") rows)

asked_is : (rows : List Row) (c : Command) → AsksFor rows c → c ≡ asked (letters (command_name c)) rows
asked_is rows (Check file) h = ap Check (word_is (codes "FILE") rows file h)
asked_is rows (Compile file out) h = ap₂ Compile (word_is (codes "FILE") rows file h.one) (word_is (codes "OUT") rows out h.two)
asked_is rows (Verify file) h = ap Verify (word_is (codes "FILE") rows file h)
asked_is rows (Upgrade file out) h = ap₂ Upgrade (word_is (codes "FILE") rows file h.one) (word_is (codes "OUT") rows out h.two)
asked_is rows (Exec r) h = ap Exec (request_is rows r h)
asked_is rows (Run r) h = ap Run (request_is rows r h)
asked_is rows (Eval file entry calls frames) h =
    let f = word_is (codes "FILE") rows file h.file in
    let e = word_is (codes "ENTRY") rows entry h.entry in
    let n = number_is (codes "calls") _ _ rows calls h.calls in
    let m = number_is (codes "frames") _ _ rows frames h.frames in
    λ i. Eval (f i) (e i) (n i) (m i)
asked_is rows (Trace file entry out r) h =
    let f = word_is (codes "FILE") rows file h.file in
    let e = word_is (codes "ENTRY") rows entry h.entry in
    let o = word_is (codes "OUT") rows out h.out in
    let q = room_is rows r h.room in
    λ i. Trace (f i) (e i) (o i) (q i)
asked_is rows (Session file r) h = ap₂ Session (word_is (codes "FILE") rows file h.file) (room_is rows r h.room)
asked_is rows (Tasks file seed turns r) h =
    let f = word_is (codes "FILE") rows file h.file in
    let s = number_is (codes "SEED") _ _ rows seed h.seed in
    let t = number_is (codes "TURNS") _ _ rows turns h.turns in
    let q = room_is rows r h.room in
    λ i. Tasks (f i) (s i) (t i) (q i)
asked_is rows (Derive file out) h = ap₂ Derive (word_is (codes "FILE") rows file h.one) (word_is (codes "OUT") rows out h.two)
asked_is rows (Audit file proof) h = ap₂ Audit (word_is (codes "FILE") rows file h.one) (word_is (codes "PROOF") rows proof h.two)
asked_is rows (Replay trace step) h = ap₂ Replay (word_is (codes "TRACE") rows trace h.trace) (number_is (codes "STEP") _ _ rows step h.step)
asked_is rows (Library name) h = ap Library (word_is (codes "NAME") rows name h.name)
asked_is rows (Gen seed count) h = ap₂ Gen (number_is (codes "SEED") _ _ rows seed h.seed) (number_is (codes "COUNT") _ _ rows count h.count)

same_some : {A : Type 0} (o : Option A) (a b : A) → o ≡ Some a → o ≡ Some b → a ≡ b
same_some o a b e f = cc

pub command_once : (words : List Text) (c d : Command) → IsCommand words c → IsCommand words d → c ≡ d
command_once words c d h k =
    let both = same_some (subcommand_of command_app words) (command_name c, h.rows) (command_name d, k.rows) h.command k.command in
    asked_is h.rows c h.asks ∙ ap₂ (λ name rows. asked (letters name) rows) (ap (λ p. p.0) both) (ap (λ p. p.1) both) ∙ sym (asked_is k.rows d k.asks)

abbrev request_of : Command → Request → Request
request_of (Exec r) q = r
request_of c q = q

pub request_once : (words : List Text) (r q : Request) → IsCommand words (Exec r) → IsCommand words (Exec q) → r ≡ q
request_once words r q h k = ap (λ c. request_of c r) (command_once words (Exec r) (Exec q) h k)
