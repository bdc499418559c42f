-- What a code file's text says of its code: its ints have 64 bits.
-- The idea: a text put together of pieces is there only where each piece is.
use Rattle.std.proofs.Common.{◌≡◌, ℕ, zero, suc, List, [], ◌∷◌, Option, Some, None, slice_get, true, Bool, refl, sym, ◌∙◌, subst}
use Rattle.std.specs.Prelude.{FitsSigned, ℤ, pos, negsuc, nat_lt, ◌^◌}
use Rattle.std.specs.Int.{w64}
use Rattle.std.proofs.lemmas.Bool.{ltb-true}
use Rattle.std.proofs.lemmas.List.{append-nil}
use Rattle.std.proofs.lemmas.Option.{none-some, same_Some}
use Rattle.command_library.specs.command_tasks.run_loading.cell_code.declared.code.Instr.{Instr}
use Rattle.command_library.specs.command_tasks.run_loading.cell_code.declared.code.Instr.TheVariants as I
use Rattle.command_library.specs.command_tasks.code_file.CodeText.{table_text, functions_text, function_text, instrs_text, instr_text, code_text, IsFileOf}
use Rattle.command_library.specs.code_rules.cell_code.Plain.{PlainFunction, PlainCode}
use Rattle.command_library.specs.command_tasks.code_file.Spelling.{◌+++◌, each, only, mark, two, eight}
use Rattle.command_library.proofs.command_tasks.code_file.Readers.{Front}
use Rattle.command_library.specs.command_tasks.code_file.declared.tags.Version.{Version}
use Rattle.command_library.proofs.command_tasks.code_file.Fields.{front_only}
use Rattle.command_library.proofs.command_tasks.code_file.InstrTexts.{const_is}
use Rattle.command_library.specs.separation.Rows.{FitsLiteral}
use Rattle.command_library.specs.separation.Codes.{HasLiterals}

-- ---- pieces

abbrev IsText : Option (List ℕ) → Type 0
IsText o = (t : List ℕ) × (o ≡ Some t)

left : (a b : Option (List ℕ)) → IsText (a +++ b) → IsText a
unfolding ◌+++◌
left None b (t, e) = absurd (none-some t e)
left (Some s) b h = (s, refl)

right : (a b : Option (List ℕ)) → IsText (a +++ b) → IsText b
unfolding ◌+++◌
right None b (t, e) = absurd (none-some t e)
right (Some s) None (t, e) = absurd (none-some t e)
right (Some s) (Some r) h = (r, refl)

item : {A : Type 0} → (text : A → Option (List ℕ)) (xs : List A) (n : ℕ) (x : A) → IsText (each text xs) → slice_get xs n ≡ Some x → IsText (text x)
unfolding each
item text [] n x h e = absurd (none-some x e)
item text (y ∷ xs) zero x h e = subst (λ x. IsText (text x)) (same_Some y x e) (left (text y) (each text xs) h)
item text (y ∷ xs) (suc n) x h e = item text xs n x (right (text y) (each text xs) h) e

front_of : (o : Option (List ℕ)) → (h : IsText o) → Front o h.0 []
front_of None (t, e) = absurd (none-some t e)
front_of (Some s) (t, e) = sym (same_Some s t e) ∙ sym (append-nil s)

tested : (b : Bool) (o : Option (List ℕ)) → IsText (only b o) → b ≡ true
tested b o h = (front_only b o h.0 [] (front_of (only b o) h)).0

-- ---- ints

int_fits : (z : ℤ) → IsText (eight z) → FitsSigned w64 z
unfolding eight
int_fits (pos n) h = record { sfits = ltb-true n (2 ^ 63) (tested (nat_lt n (2 ^ 63)) _ h) }
int_fits (negsuc n) h = record { sfits = ltb-true n (2 ^ 63) (tested (nat_lt n (2 ^ 63)) _ h) }

literal_fits : (x : Instr) → IsText (instr_text x) → FitsLiteral x
literal_fits (I.Const d v) h = int_fits v (right (two d) (eight v) (right (mark 1) (two d +++ eight v) (subst IsText (const_is d v) h)))
literal_fits (I.Atom d t k) h = tt
literal_fits (I.Move d r) h = tt
literal_fits (I.Arith d o x y line col) h = tt
literal_fits (I.Test r k target) h = tt
literal_fits (I.TestInt r v target) h = tt
literal_fits (I.Peek d r i) h = tt
literal_fits (I.Take r ds) h = tt
literal_fits (I.Put d t k rs) h = tt
literal_fits (I.Drop r) h = tt
literal_fits (I.Free r) h = tt
literal_fits (I.Call g rs ds) h = tt
literal_fits (I.Tail g rs) h = tt
literal_fits (I.Ret rs) h = tt
literal_fits (I.Jump target) h = tt

-- ---- functions

code_parts : (v : Version) (code : PlainCode) → IsText (code_text v code) → IsText (table_text code.types) × IsText (functions_text v code.functions)
unfolding code_text
code_parts v code h =
    let rest = right _ _ (right _ _ h) in
    (left _ _ rest, right _ _ rest)

functions_in : (v : Version) (fs : List PlainFunction) (n : ℕ) (f : PlainFunction) → IsText (functions_text v fs) → slice_get fs n ≡ Some f → IsText (function_text v f)
unfolding functions_text
functions_in v fs n f h e = item (function_text v) fs n f (right _ _ h) e

instrs_of : (v : Version) (f : PlainFunction) → IsText (function_text v f) → IsText (instrs_text f.instrs)
unfolding function_text
instrs_of v f h = left _ _ (right _ _ (right _ _ (right _ _ (right _ _ (right _ _ (right _ _ h))))))

instr_in : (xs : List Instr) (i : ℕ) (x : Instr) → IsText (instrs_text xs) → slice_get xs i ≡ Some x → IsText (instr_text x)
unfolding instrs_text
instr_in xs i x h e = item instr_text xs i x (right _ _ h) e

pub literals : (bytes : List ℕ) (code : PlainCode) → IsFileOf bytes code → HasLiterals code
literals bytes code file n i f x is at =
    literal_fits x (instr_in f.instrs i x (instrs_of file.0 f (functions_in file.0 code.functions n f (code_parts file.0 code (bytes, file.1)).1 is)) at)
