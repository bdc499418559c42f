-- What the functions of a reader read: a byte, a number, a name, a loop, the whole.
use Rattle.std.proofs.Common.{◌≡◌, ◌≢◌, ℕ, zero, suc, ◌+◌, ◌-◌, ◌<◌, ◌≤◌, List, [], ◌∷◌, ◌++◌, length, map, Option, Some, None, Bool, true, false, refl, sym, ap, ◌∙◌, subst, arith}
use Rattle.std.specs.Prelude.{◌==◌, ◌&&◌, not, nat_lt, if◌then◌else◌, Result, Ok, Err, MatchResult}
use Rattle.std.specs.Int.{w32, from_be_bytes, is_in_range}
use Rattle.std.proofs.lemmas.Bool.{lt-ltb, eqb-true, eq-eqb}
use Rattle.std.proofs.lemmas.List.{map-append}
use Rattle.fip_language.specs.Prefix.{IsPlace}
use Rattle.cell_code.specs.declared.code.CodeKind.{CodeKind}
use Rattle.cell_code.specs.declared.code.CodeKind.TheVariants.{Fip, Fbip}
use Rattle.fip_language.specs.declared.Operator.TheVariants as O
use Rattle.cell_code.specs.declared.kind.Kind.{Kind}
use Rattle.cell_code.specs.declared.kind.Label.{Label}
use Rattle.cell_code.specs.declared.code.Instr.{Instr}
use Rattle.cell_code.specs.declared.code.Function.{Function}
use Rattle.cell_code.specs.declared.code.Code.{Code}
use Rattle.code_file.specs.declared.tags.Version.{Version}
use Rattle.code_file.specs.declared.tags.Version.TheVariants.{First, Second}
use Rattle.code_file.specs.declared.error.ReadStop.{ReadStop}
use Rattle.code_file.specs.declared.error.ReadStop.TheVariants as E
use Rattle.cell_code.specs.Plain.{PlainCode, plain}
use Rattle.code_file.specs.Spelling.{is_keyword}
use Rattle.code_file.specs.CodeText.{CodeText, IsFileOf}
use Rattle.code_file.specs.Reading.{Reader, Give, Byte, ◌>>=◌, Answer, Got, Stop, read, and_then, with_front, whole, read_all, Reads, ReadsFile, is_byte, byte, any, two_reader, four_reader, times, length_reader}
use Rattle.code_file.specs.Reading.{may_follow, may_stand, name_on, register_at, register_reader, operator_at, kind_body, credit_reader, instr_body, jump_reader, code_kind_reader, exactly, magic_reader, code_reader}
use Rattle.code_file.proofs.Readers.{read_bind, bind_got, bind_stop, times_got, times_stop, times_done}
use Rattle.code_file.proofs.Whole.{read_text, text_read, read_place}
use Rattle.fip_language.proofs.Facts.{unequal_test_at as differs_at}
pub use Rattle.fip_language.proofs.Facts.{unequal_test as differs}

-- a byte
abbrev judged : Bool → ℕ → List ℕ → Answer ℕ
judged fits b rest = if fits then Got b rest else Stop (suc (length rest))

pub byte_got : (may : ℕ → Bool) (bs : List ℕ) (b : ℕ) (rest : List ℕ) → bs ≡ b ∷ rest → may b ≡ true → read (byte may) bs ≡ Got b rest
unfolding byte
byte_got may bs b rest e h = ap (read (Byte may Give)) e ∙ ap (λ fits. judged fits b rest) h

pub byte_stop : (may : ℕ → Bool) (bs : List ℕ) (b : ℕ) (rest : List ℕ) → bs ≡ b ∷ rest → may b ≡ false → read (byte may) bs ≡ Stop (length bs)
unfolding byte
byte_stop may bs b rest e h = ap (read (Byte may Give)) e ∙ ap (λ fits. judged fits b rest) h ∙ ap (λ bs. Stop (length bs)) (sym e)

pub byte_end : (may : ℕ → Bool) (bs : List ℕ) → length bs ≡ 0 → read (byte may) bs ≡ Stop 0
unfolding byte
byte_end may [] e = refl
byte_end may (b ∷ bs) e = absurd (omega arith)

pub any_fits : (b : ℕ) → b < 256 → is_byte b ≡ true
any_fits b lt = lt-ltb b 256 lt

pub ruleset bytes = (byte_got, byte_stop, byte_end, any_fits)

-- a length
four_got : (a b c d : Bool) (m n wa wb wc wd : ℕ) (bs rest : List ℕ) → (if a then (if b then (if c then (if d then Got m bs else Stop wd) else Stop wc) else Stop wb) else Stop wa) ≡ Got n rest → (a ≡ true) × (b ≡ true) × (c ≡ true) × (d ≡ true) × (m ≡ n) × (bs ≡ rest)
four_got false b c d m n wa wb wc wd bs rest e = cc
four_got true false c d m n wa wb wc wd bs rest e = cc
four_got true true false d m n wa wb wc wd bs rest e = cc
four_got true true true false m n wa wb wc wd bs rest e = cc
four_got true true true true m n wa wb wc wd bs rest e = (refl, refl, refl, refl, cc, cc)

length_on : (a b c d z : Bool) (m wa wb wc wd : ℕ) (bs : List ℕ) → a ≡ true → b ≡ true → c ≡ true → d ≡ true → (if a then (if b then (if c then (if (d && not z) then Got m bs else Stop wd) else Stop wc) else Stop wb) else Stop wa) ≡ (if not z then Got m bs else Stop wd)
length_on false b c d z m wa wb wc wd bs e f g h = cc
length_on true false c d z m wa wb wc wd bs e f g h = cc
length_on true true false d z m wa wb wc wd bs e f g h = cc
length_on true true true false z m wa wb wc wd bs e f g h = cc
length_on true true true true z m wa wb wc wd bs e f g h = refl

length_of : (bs rest : List ℕ) (n : ℕ) → read four_reader bs ≡ Got n rest → read length_reader bs ≡ (if not (n == 0) then Got n rest else Stop (suc (length rest)))
unfolding byte four_reader length_reader
length_of [] rest n e = cc
length_of (a ∷ []) rest n e = let k = short (is_byte a) 0 1 n rest e in absurd k
  where
    short : (a : Bool) (v w n : ℕ) (rest : List ℕ) → (if a then Stop v else Stop w) ≡ Got n rest → ⊥
    short true v w n rest e = cc
    short false v w n rest e = cc
length_of (a ∷ b ∷ []) rest n e = absurd (short (is_byte a) (is_byte b) n rest e)
  where
    short : (a b : Bool) (n : ℕ) (rest : List ℕ) → (if a then (if b then Stop 0 else Stop 1) else Stop 2) ≡ Got n rest → ⊥
    short true true n rest e = cc
    short true false n rest e = cc
    short false b n rest e = cc
length_of (a ∷ b ∷ c ∷ []) rest n e = absurd (short (is_byte a) (is_byte b) (is_byte c) n rest e)
  where
    short : (a b c : Bool) (n : ℕ) (rest : List ℕ) → (if a then (if b then (if c then Stop 0 else Stop 1) else Stop 2) else Stop 3) ≡ Got n rest → ⊥
    short true true true n rest e = cc
    short true true false n rest e = cc
    short true false c n rest e = cc
    short false b c n rest e = cc
length_of (a ∷ b ∷ c ∷ d ∷ bs) rest n e =
    let m = from_be_bytes w32 (a ∷ b ∷ c ∷ d ∷ []) in
    let k = four_got (is_byte a) (is_byte b) (is_byte c) (is_byte d) (from_be_bytes w32 (a ∷ b ∷ c ∷ d ∷ [])) n (suc (suc (suc (suc (length bs))))) (suc (suc (suc (length bs)))) (suc (suc (length bs))) (suc (length bs)) bs rest e in
    length_on (is_byte a) (is_byte b) (is_byte c) (is_byte d) (from_be_bytes w32 (a ∷ b ∷ c ∷ d ∷ []) == 0) (from_be_bytes w32 (a ∷ b ∷ c ∷ d ∷ [])) (suc (suc (suc (suc (length bs))))) (suc (suc (suc (length bs)))) (suc (suc (length bs))) (suc (length bs)) bs k.0 k.1 k.2 k.3
    ∙ ap (λ n. if not (n == 0) then Got n bs else Stop (suc (length bs))) k.4
    ∙ ap (λ bs. if not (n == 0) then Got n bs else Stop (suc (length bs))) k.5

length_short : (a b c d z : Bool) (m wa wb wc wd left : ℕ) (bs : List ℕ) → (if a then (if b then (if c then (if d then Got m bs else Stop wd) else Stop wc) else Stop wb) else Stop wa) ≡ Stop left → (if a then (if b then (if c then (if (d && not z) then Got m bs else Stop wd) else Stop wc) else Stop wb) else Stop wa) ≡ Stop left
length_short false b c d z m wa wb wc wd left bs e = e
length_short true false c d z m wa wb wc wd left bs e = e
length_short true true false d z m wa wb wc wd left bs e = e
length_short true true true false z m wa wb wc wd left bs e = e
length_short true true true true z m wa wb wc wd left bs e = cc

pub length_stop : (bs : List ℕ) (left : ℕ) → read four_reader bs ≡ Stop left → read length_reader bs ≡ Stop left
unfolding byte four_reader length_reader
length_stop [] left e = e
length_stop (a ∷ []) left e = e
length_stop (a ∷ b ∷ []) left e = e
length_stop (a ∷ b ∷ c ∷ []) left e = e
length_stop (a ∷ b ∷ c ∷ d ∷ bs) left e =
    length_short (is_byte a) (is_byte b) (is_byte c) (is_byte d) (from_be_bytes w32 (a ∷ b ∷ c ∷ d ∷ []) == 0) (from_be_bytes w32 (a ∷ b ∷ c ∷ d ∷ [])) (suc (suc (suc (suc (length bs))))) (suc (suc (suc (length bs)))) (suc (suc (length bs))) (suc (length bs)) left bs e

pub length_got : (bs rest : List ℕ) (n : ℕ) → read four_reader bs ≡ Got n rest → n ≢ 0 → read length_reader bs ≡ Got n rest
length_got bs rest n e h = length_of bs rest n e ∙ ap (λ z. if not z then Got n rest else Stop (suc (length rest))) (differs n 0 h)

pub length_none : (bs rest : List ℕ) (n : ℕ) → read four_reader bs ≡ Got n rest → n ≡ 0 → read length_reader bs ≡ Stop (suc (length rest))
length_none bs rest n e h = length_of bs rest n e ∙ ap (λ z. if not z then Got n rest else Stop (suc (length rest))) (eq-eqb n 0 h)

pub ruleset lengths = (length_stop, length_got, length_none)

-- the rest of a constructor's name
pub front_bind : (b : ℕ) (r : Reader (List ℕ)) (bs : List ℕ) → read (r >>= λ ys. Give (b ∷ ys)) bs ≡ with_front (b ∷ []) (read r bs)
front_bind b r bs = read_bind r (λ ys. Give (b ∷ ys)) bs

-- a name of a function
left_same : (l k : ℕ) → ◌≡◌ {A = Answer ℕ} (Stop l) (Stop k) → l ≡ k
left_same l k e = cc

stops : (l k : ℕ) → ◌≡◌ {A = Answer ℕ} (Stop l) (Stop k) → ◌≡◌ {A = Answer (List ℕ)} (Stop l) (Stop k)
stops l k e = ap Stop (left_same l k e)

pub on_stop : (n left : ℕ) (front bs : List ℕ) → read (byte (may_follow front)) bs ≡ Stop left → read (name_on (suc n) front) bs ≡ Stop left
unfolding byte name_on
on_stop zero left front [] e = stops 0 left e
on_stop zero left front (b ∷ bs) e = stopped (may_follow front b) (is_keyword (front ++ b ∷ [])) e
  where
    stopped : (t k : Bool) → (if t then Got b bs else Stop (suc (length bs))) ≡ Stop left → (if (t && not k) then Got (front ++ b ∷ []) bs else Stop (suc (length bs))) ≡ Stop left
    stopped true k e = cc
    stopped false k e = stops (suc (length bs)) left e
on_stop (suc n) left front [] e = stops 0 left e
on_stop (suc n) left front (b ∷ bs) e = stopped (may_follow front b) e
  where
    stopped : (t : Bool) → (if t then Got b bs else Stop (suc (length bs))) ≡ Stop left → (if t then read (name_on (suc n) (front ++ b ∷ [])) bs else Stop (suc (length bs))) ≡ Stop left
    stopped true e = cc
    stopped false e = stops (suc (length bs)) left e

pub on_keyword : (front bs rest : List ℕ) (b : ℕ) → read (byte (may_follow front)) bs ≡ Got b rest → is_keyword (front ++ b ∷ []) ≡ true → read (name_on 1 front) bs ≡ Stop (suc (length rest))
unfolding byte name_on
on_keyword front [] rest b e h = cc
on_keyword front (c ∷ bs) rest b e h = found (may_follow front c) e
  where
    found : (t : Bool) → (if t then Got c bs else Stop (suc (length bs))) ≡ Got b rest → (if (t && not (is_keyword (front ++ c ∷ []))) then Got (front ++ c ∷ []) bs else Stop (suc (length bs))) ≡ Stop (suc (length rest))
    found true e =
        let same : c ≡ b = cc in
        let left : bs ≡ rest = cc in
        ap (λ k. if not k then Got (front ++ c ∷ []) bs else Stop (suc (length bs))) (ap (λ c. is_keyword (front ++ c ∷ [])) same ∙ h) ∙ ap (λ bs. Stop (suc (length bs))) left
    found false e = cc

on_last : (front bs rest : List ℕ) (b : ℕ) → read (byte (may_follow front)) bs ≡ Got b rest → is_keyword (front ++ b ∷ []) ≡ false → read (name_on 1 front) bs ≡ Got (front ++ b ∷ []) rest
unfolding byte name_on
on_last front [] rest b e h = cc
on_last front (c ∷ bs) rest b e h = found (may_follow front c) e
  where
    found : (t : Bool) → (if t then Got c bs else Stop (suc (length bs))) ≡ Got b rest → (if (t && not (is_keyword (front ++ c ∷ []))) then Got (front ++ c ∷ []) bs else Stop (suc (length bs))) ≡ Got (front ++ b ∷ []) rest
    found true e =
        let same : c ≡ b = cc in
        let left : bs ≡ rest = cc in
        ap (λ k. if not k then Got (front ++ c ∷ []) bs else Stop (suc (length bs))) (ap (λ c. is_keyword (front ++ c ∷ [])) same ∙ h)
        ∙ ap (λ c. Got (front ++ c ∷ []) bs) same ∙ ap (λ bs. Got (front ++ b ∷ []) bs) left
    found false e = cc

on_more : (n : ℕ) (front bs rest : List ℕ) (b : ℕ) → read (byte (may_follow front)) bs ≡ Got b rest → read (name_on (suc (suc n)) front) bs ≡ read (name_on (suc n) (front ++ b ∷ [])) rest
unfolding byte name_on
on_more n front [] rest b e = cc
on_more n front (c ∷ bs) rest b e = found (may_follow front c) e
  where
    found : (t : Bool) → (if t then Got c bs else Stop (suc (length bs))) ≡ Got b rest → (if t then read (name_on (suc n) (front ++ c ∷ [])) bs else Stop (suc (length bs))) ≡ read (name_on (suc n) (front ++ b ∷ [])) rest
    found true e =
        let same : c ≡ b = cc in
        let left : bs ≡ rest = cc in
        ap (λ c. read (name_on (suc n) (front ++ c ∷ [])) bs) same ∙ ap (read (name_on (suc n) (front ++ b ∷ []))) left
    found false e = cc

on_end : (front bs : List ℕ) → read (name_on 0 front) bs ≡ Got front bs
unfolding name_on
on_end front bs = refl

-- A byte more of so many of a function's name.
pub name_stops : (n i left : ℕ) (front bs : List ℕ) → i < n → read (byte (may_follow front)) bs ≡ Stop left → read (name_on (n - i) front) bs ≡ Stop left
name_stops n i left front bs lt e =
    let s : n - i ≡ suc (n - (i + 1)) = omega arith in
    ap (λ k. read (name_on k front) bs) s ∙ on_stop (n - (i + 1)) left front bs e

pub name_bad : (n i b : ℕ) (front bs rest : List ℕ) → i + 1 ≡ n → read (byte (may_follow front)) bs ≡ Got b rest → is_keyword (front ++ b ∷ []) ≡ true → read (name_on (n - i) front) bs ≡ Stop (suc (length rest))
name_bad n i b front bs rest l e h =
    let s : n - i ≡ 1 = omega arith in
    ap (λ k. read (name_on k front) bs) s ∙ on_keyword front bs rest b e h

pub name_ends : (n i b : ℕ) (front bs rest : List ℕ) → i + 1 ≡ n → read (byte (may_follow front)) bs ≡ Got b rest → is_keyword (front ++ b ∷ []) ≡ false → read (name_on (n - i) front) bs ≡ read (name_on (n - (i + 1)) (front ++ b ∷ [])) rest
name_ends n i b front bs rest l e h =
    let s : n - i ≡ 1 = omega arith in
    let z : 0 ≡ n - (i + 1) = omega arith in
    ap (λ k. read (name_on k front) bs) s ∙ on_last front bs rest b e h ∙ sym (on_end (front ++ b ∷ []) rest) ∙ ap (λ k. read (name_on k (front ++ b ∷ [])) rest) z

pub name_goes : (n i b : ℕ) (front bs rest : List ℕ) → i < n → i + 1 ≢ n → read (byte (may_follow front)) bs ≡ Got b rest → read (name_on (n - i) front) bs ≡ read (name_on (n - (i + 1)) (front ++ b ∷ [])) rest
name_goes n i b front bs rest lt h e =
    let lt2 : i + 1 < n = below (i + 1) n (omega arith) h in
    let s : n - i ≡ suc (suc (n - (i + 2))) = omega arith in
    let z : suc (n - (i + 2)) ≡ n - (i + 1) = omega arith in
    ap (λ k. read (name_on k front) bs) s ∙ on_more (n - (i + 2)) front bs rest b e ∙ ap (λ k. read (name_on k (front ++ b ∷ [])) rest) z
  where
    below : (j n : ℕ) → j ≤ n → j ≢ n → j < n
    below j n le h = omega (arith, h)

pub name_done : (n i : ℕ) (front bs : List ℕ) → n ≤ i → read (name_on (n - i) front) bs ≡ Got front bs
name_done n i front bs le =
    let z : n - i ≡ 0 = omega arith in
    ap (λ k. read (name_on k front) bs) z ∙ on_end front bs

pub ruleset names = (name_stops, name_bad, name_ends, name_goes, name_done)

-- the same as an error
pub name_err : {X Z : Type 0} → (one : X → ℕ) (many : Z → List ℕ) (n i : ℕ) (front bs next rest : List ℕ) (e : ReadStop) (a : Answer (List ℕ)) → i < n → read (name_on (n - i) front) bs ≡ a → Reads one (Err e) next (read (byte (may_follow front)) bs) → Reads many (Err e) rest a
name_err one many n i front bs next rest E.NoMemory a lt inv h = tt
name_err one many n i front bs next rest (E.Left left) a lt inv h = sym inv ∙ name_stops n i left front bs lt h

-- a register, or none
pub register_none : (bs rest : List ℕ) (r : ℕ) → read two_reader bs ≡ Got r rest → r ≡ 65535 → read register_reader bs ≡ Got None rest
unfolding register_reader
register_none bs rest r e h = bind_got two_reader (λ r. Give (register_at r)) bs r rest e ∙ ap (λ t. Got (if t then None else Some r) rest) (eq-eqb r 65535 h)

pub register_some : (bs rest : List ℕ) (r : ℕ) → read two_reader bs ≡ Got r rest → r ≢ 65535 → read register_reader bs ≡ Got (Some r) rest
unfolding register_reader
register_some bs rest r e h = bind_got two_reader (λ r. Give (register_at r)) bs r rest e ∙ ap (λ t. Got (if t then None else Some r) rest) (differs r 65535 h)

pub register_stop : (bs : List ℕ) (left : ℕ) → read two_reader bs ≡ Stop left → read register_reader bs ≡ Stop left
unfolding register_reader
register_stop bs left e = bind_stop two_reader (λ r. Give (register_at r)) bs left e

pub ruleset registers = (register_none, register_some, register_stop)

-- the kind of a function
pub kind_fip : (bs rest : List ℕ) (b : ℕ) → read (byte (is_in_range 0 1)) bs ≡ Got b rest → b ≡ 0 → read code_kind_reader bs ≡ Got Fip rest
unfolding code_kind_reader
kind_fip bs rest b e h = bind_got (byte (is_in_range 0 1)) (λ b. Give (if b == 0 then Fip else Fbip)) bs b rest e ∙ ap (λ t. Got (if t then Fip else Fbip) rest) (eq-eqb b 0 h)

pub kind_fbip : (bs rest : List ℕ) (b : ℕ) → read (byte (is_in_range 0 1)) bs ≡ Got b rest → b ≢ 0 → read code_kind_reader bs ≡ Got Fbip rest
unfolding code_kind_reader
kind_fbip bs rest b e h = bind_got (byte (is_in_range 0 1)) (λ b. Give (if b == 0 then Fip else Fbip)) bs b rest e ∙ ap (λ t. Got (if t then Fip else Fbip) rest) (differs b 0 h)

pub kind_stop : (bs : List ℕ) (left : ℕ) → read (byte (is_in_range 0 1)) bs ≡ Stop left → read code_kind_reader bs ≡ Stop left
unfolding code_kind_reader
kind_stop bs left e = bind_stop (byte (is_in_range 0 1)) (λ b. Give (if b == 0 then Fip else Fbip)) bs left e

pub ruleset code_kinds = (kind_fip, kind_fbip, kind_stop)

-- choices where the number is none of those before
if_not : {A : Type 0} → (a b : ℕ) (x y : A) → a ≢ b → (if a == b then x else y) ≡ y
if_not a b x y h = ap (λ t. if t then x else y) (differs a b h)

pub kind_last : (tag : ℕ) → tag ≢ 0 → tag ≢ 1 → tag ≢ 2 → tag ≢ 3 → kind_body tag ≡ credit_reader
kind_last tag a b c d = if_not tag 0 _ _ a ∙ if_not tag 1 _ _ b ∙ if_not tag 2 _ _ c ∙ if_not tag 3 _ _ d

pub instr_last : (op : ℕ) → op ≢ 1 → op ≢ 2 → op ≢ 3 → op ≢ 4 → op ≢ 5 → op ≢ 6 → op ≢ 7 → op ≢ 8 → op ≢ 9 → op ≢ 10 → op ≢ 11 → op ≢ 12 → op ≢ 13 → op ≢ 14 → instr_body op ≡ jump_reader
instr_last op a b c d e f g h i j k l m n =
    if_not op 1 _ _ a ∙ if_not op 2 _ _ b ∙ if_not op 3 _ _ c ∙ if_not op 4 _ _ d ∙ if_not op 5 _ _ e ∙ if_not op 6 _ _ f ∙ if_not op 7 _ _ g
    ∙ if_not op 8 _ _ h ∙ if_not op 9 _ _ i ∙ if_not op 10 _ _ j ∙ if_not op 11 _ _ k ∙ if_not op 12 _ _ l ∙ if_not op 13 _ _ m ∙ if_not op 14 _ _ n

pub operator_last : (n : ℕ) → n ≢ 0 → n ≢ 1 → n ≢ 2 → n ≢ 3 → n ≢ 4 → n ≢ 5 → n ≢ 6 → n ≢ 7 → n ≢ 8 → n ≢ 9 → operator_at n ≡ O.GreaterOrEqual
operator_last n a b c d e f g h i j =
    if_not n 0 _ _ a ∙ if_not n 1 _ _ b ∙ if_not n 2 _ _ c ∙ if_not n 3 _ _ d ∙ if_not n 4 _ _ e ∙ if_not n 5 _ _ f ∙ if_not n 6 _ _ g
    ∙ if_not n 7 _ _ h ∙ if_not n 8 _ _ i ∙ if_not n 9 _ _ j

-- loops
pub times_err : {X Y Z : Type 0} → (one : X → Y) (many : Z → List Y) (r : Reader Y) (n i : ℕ) (bs next rest : List ℕ) (xs : List Y) (e : ReadStop) (a : Answer (List Y)) → i < n → with_front xs (read (times (n - i) r) bs) ≡ a → Reads one (Err e) next (read r bs) → Reads many (Err e) rest a
times_err one many r n i bs next rest xs E.NoMemory a lt inv h = tt
times_err one many r n i bs next rest xs (E.Left left) a lt inv h = sym inv ∙ times_stop r n i bs xs left lt h

-- one more
pub times_more : {A : Type 0} → (r : Reader A) (n i : ℕ) (bs rest : List ℕ) (xs ys : List A) (x : A) (a : Answer (List A)) → i < n → ys ≡ xs ++ x ∷ [] → read r bs ≡ Got x rest → with_front xs (read (times (n - i) r) bs) ≡ a → with_front ys (read (times (n - (i + 1)) r) rest) ≡ a
times_more r n i bs rest xs ys x a lt e h inv =
    ap (λ ys. with_front ys (read (times (n - (i + 1)) r) rest)) e ∙ sym (times_got r n i bs rest xs x lt h) ∙ inv

-- the same where they are seen in another form
pub times_more_seen : {X A : Type 0} → (view : X → A) (r : Reader A) (n i : ℕ) (bs rest : List ℕ) (xs ys : List X) (x : X) (a : Answer (List A)) → i < n → ys ≡ xs ++ x ∷ [] → read r bs ≡ Got (view x) rest → with_front (map view xs) (read (times (n - i) r) bs) ≡ a → with_front (map view ys) (read (times (n - (i + 1)) r) rest) ≡ a
times_more_seen view r n i bs rest xs ys x a lt e h inv = times_more r n i bs rest (map view xs) (map view ys) (view x) a lt (ap (map view) e ∙ map-append view xs (x ∷ [])) h inv

-- the end
pub times_all : {A : Type 0} → (r : Reader A) (n i : ℕ) (bs : List ℕ) (xs : List A) (a : Answer (List A)) → n ≤ i → with_front xs (read (times (n - i) r) bs) ≡ a → a ≡ Got xs bs
times_all r n i bs xs a le inv = sym inv ∙ times_done r n i bs xs le

-- the whole
pub whole_got : (bs rest : List ℕ) (v : Version) (c : PlainCode) → read code_reader bs ≡ Got (v, c) rest → length rest ≡ 0 → read_all code_reader bs ≡ Got (v, c) []
whole_got bs [] v c e h = ap (λ a. and_then a whole) e
whole_got bs (b ∷ rest) v c e h = absurd (omega arith)

pub whole_more : (bs rest : List ℕ) (v : Version) (c : PlainCode) → read code_reader bs ≡ Got (v, c) rest → 0 < length rest → read_all code_reader bs ≡ Stop (length rest)
whole_more bs [] v c e h = absurd (omega arith)
whole_more bs (b ∷ rest) v c e h = ap (λ a. and_then a whole) e

pub whole_stop : (bs : List ℕ) (left : ℕ) → read code_reader bs ≡ Stop left → read_all code_reader bs ≡ Stop left
whole_stop bs left e = ap (λ a. and_then a whole) e

pub ruleset wholes = (whole_got, whole_more, whole_stop)

got_same : (p q : Version × PlainCode) (rest more : List ℕ) → ◌≡◌ {A = Answer (Version × PlainCode)} (Got p rest) (Got q more) → p ≡ q
got_same p q rest more e = cc

got_code : (v w : Version) (c d : PlainCode) (rest more : List ℕ) → ◌≡◌ {A = Answer (Version × PlainCode)} (Got (v, c) rest) (Got (w, d) more) → c ≡ d
got_code v w c d rest more e = ap (λ (p : Version × PlainCode). p.1) (got_same (v, c) (w, d) rest more e)

-- What is found is encoded so, and what is encoded so is found.
pub file_text : (bs : List ℕ) (c : Code) → ReadsFile (Ok c) bs → IsFileOf bs (plain c)
file_text bs c h = (h.0, read_text bs [] (h.0, plain c) h.1)

pub file_only : (bs : List ℕ) (c : Code) (v : Version) (d : PlainCode) → ReadsFile (Ok c) bs → CodeText bs v d → plain c ≡ d
file_only bs c v d h t = let k = text_read bs v d t in got_code h.0 v (plain c) d [] k.0 (sym h.1 ∙ k.1)

pub file_stops : {B : Type 0} → (bs : List ℕ) (left : ℕ) (v : Version) (d : PlainCode) → read_all code_reader bs ≡ Stop left → CodeText bs v d → B
file_stops bs left v d e t = let k = text_read bs v d t in let g = sym e ∙ k.1 in cc

pub file_left : (bs : List ℕ) (left : ℕ) (e : ReadStop) → e ≡ E.Left left → ReadsFile (Err e) bs → read_all code_reader bs ≡ Stop left
file_left bs left e k h = subst (λ e. ReadsFile (Err e) bs) k h
