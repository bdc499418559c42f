-- The values of a line, from one parameter to the next, and the call that they are of.
use Rattle.std.proofs.Common.{◌≡◌, ◌∙◌, ◌≤◌, ◌<◌, ℕ, zero, suc, List, [], ◌∷◌, length, drop, get_or, refl, sym, ap, subst, arith}
use Rattle.fip_base.specs.declared.plain.Param.{Param}
use Rattle.fip_language.specs.SoundTable.{AreTypes}
use Rattle.fip_language.specs.Store.{count}
use Rattle.fip_language.specs.Table.{Table}
use Rattle.fip_language.specs.Values.{Value, Values, cells, cells_of_all}
use Rattle.session_lines.specs.session_semantics.Lines.{Symbol, Close, SignText, symbols, skip}
use Rattle.value_text.specs.Loaded.{types_of, wanted}
use Rattle.value_text.specs.declared.counts.Counts.{Counts}
use Rattle.session_lines.specs.declared.scan.Scanner.{Scanner}
use Rattle.session_lines.specs.Scanned.{left}
use Rattle.session_values.specs.Read.{Adds}
use Rattle.task_lines.specs.Reading.{AreAt, Closes, Given, IsAt, IsNext}
use Rattle.session_values.specs.Readable.{AreParams}
use Rattle.session_values.proofs.OneValue.{adds_both}
use Rattle.task_lines.proofs.Next.{left_is}

types_at : (tb : Table) (ks : List ℕ) (i : ℕ) → i < length ks → AreTypes tb ks → get_or ks i 0 ≤ length tb
types_at tb [] i lt h = absurd (omega (arith, lt))
types_at tb (k ∷ ks) zero lt h = h.0
types_at tb (k ∷ ks) (suc i) lt h = types_at tb ks i (omega (arith, lt)) h.1

pub one_param : (tb : Table) (types : List ℕ) (i ty : ℕ) → i < length types → get_or types i 0 ≡ ty → AreParams tb types → AreParams tb (ty ∷ [])
one_param tb types i ty lt is h = record { table = h.table; known = (subst (λ k. k ≤ length tb) is (types_at tb types i lt h.known), tt) }

pub as_many : (ps : List Param) → length (types_of ps) ≡ length ps
as_many [] = refl
as_many (p ∷ ps) = ap suc (as_many ps)

pub type_at : (ps : List Param) (i : ℕ) (d : Param) → i < length ps → get_or (types_of ps) i 0 ≡ (get_or ps i d).ty
type_at [] i d lt = absurd (omega (arith, lt))
type_at (q ∷ ps) zero d lt = refl
type_at (q ∷ ps) (suc i) d lt = type_at ps i d (omega (arith, lt))

-- what was read closes here
pub closes_here : (bytes : List ℕ) (old new : Scanner) → IsAt bytes old → SignText Close (left old) (left new) → skip (left new) ≡ [] → Closes (symbols (drop old.at bytes))
closes_here bytes old new at sign end = (left new, subst (λ cs. SignText Close cs (left new)) (left_is bytes old at) sign, end)

sign_once : (cs a b : List Symbol) → SignText Close cs a → SignText Close cs b → a ≡ b
sign_once cs a b h k = let x : Close ∷ a ≡ Close ∷ b = sym h ∙ k in cc

pub never_ends : (bytes : List ℕ) (old new : Scanner) → IsAt bytes old → SignText Close (left old) (left new) → (skip (left new) ≡ [] → ⊥) → Closes (symbols (drop old.at bytes)) → ⊥
never_ends bytes old new at sign more h =
    let same = sign_once (left old) h.0 (left new) (subst (λ cs. SignText Close cs h.0) (sym (left_is bytes old at)) h.1) sign in
    more (ap skip (sym same) ∙ h.2)

pub never_signed : (bytes : List ℕ) (old : Scanner) → IsAt bytes old → ((rest : List Symbol) → SignText Close (left old) rest → ⊥) → Closes (symbols (drop old.at bytes)) → ⊥
never_signed bytes old at none h = none h.0 (subst (λ cs. SignText Close cs h.0) (sym (left_is bytes old at)) h.1)

pub given_left : (tb : Table) (types bytes : List ℕ) (s : Scanner) (vs : Values) → IsAt bytes s → Given tb types (symbols (drop s.at bytes)) vs → Given tb types (left s) vs
given_left tb types bytes s vs at h = subst (λ cs. Given tb types cs vs) (sym (left_is bytes s at)) h

pub given_here : (tb : Table) (types bytes : List ℕ) (s : Scanner) (vs : Values) → IsAt bytes s → Given tb types (left s) vs → Given tb types (symbols (drop s.at bytes)) vs
given_here tb types bytes s vs at h = subst (λ cs. Given tb types cs vs) (left_is bytes s at) h

-- cells of credits beside those of values
pub adds_wanted : (a b c : Counts) (vs : Values) (credits : List ℕ) → Adds a b (λ k. cells_of_all k vs) → Adds b c (λ k. count k credits) → Adds a c (wanted credits vs)
adds_wanted a b c vs credits h k = adds_both a b c (λ k. cells_of_all k vs) (λ k. count k credits) (wanted credits vs) (λ k. refl) h k

-- what reading all values reports
abbrev pub IsReadAll : Table → List ℕ → List Symbol → List ℕ → Counts → Counts → List ℕ → Type 0
IsReadAll tb types cs bytes before after ps =
    (vs : Values) × Given tb types cs vs × AreAt tb bytes types ps vs × Adds before after (λ k. cells_of_all k vs)

-- what reading the next value reports
abbrev pub IsReadNext : Table → ℕ → ℕ → List ℕ → ℕ → ℕ → ℕ → Counts → Counts → Type 0
IsReadNext tb i ty bytes at p end before after = (v : Value) × IsNext tb i ty bytes at p v end × Adds before after (λ k. cells k v)

-- the scanner goes on in the same bytes
pub moved_to : (bytes : List ℕ) (old new : Scanner) → new.bytes.now ≡ old.bytes.now → (IsAt bytes old → new.at ≤ length bytes) → IsAt bytes old → IsAt bytes new
moved_to bytes old new same within at = record { bytes = same ∙ at.bytes; within = within at }
