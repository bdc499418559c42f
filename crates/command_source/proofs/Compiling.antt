-- From what was lowered, verified and written to what is said of a code that is made of a source, and of its file.
use Rattle.std.proofs.Common.{◌≡◌, ◌∙◌, ◌<◌, ◌≤◌, Option, Some, None, slice_get, ℕ, zero, suc, arith, List, [], ◌∷◌, map, length, refl, sym, ap, subst, inl, inr}
use Rattle.std.specs.Prelude.{Result, Ok, Err, IfOk, IfErr, IfSome, option_map}
use Rattle.std.proofs.lemmas.Option.{slice_get-map}
use Rattle.cell_code.specs.declared.code.Code.{Code}
use Rattle.cell_code.specs.declared.code.Function.{Function}
use Rattle.cell_code.specs.declared.kind.Label.{Label}
use Rattle.program_front.specs.cell_lower.Limits.{registers, registers_of}
use Rattle.program_front.specs.cell_lower.Sizes.{IsSmall, AreSmall}
use Rattle.machine_correctness.proofs.compiler_correctness.SoundnessWhole.{is_asked}
use Rattle.program_front.specs.cell_lower.LaidProgram.{IsAsked, IsLaidOut}
use Rattle.code_bytes.specs.Operands.{most_operands, HaveFew}
use Rattle.code_bytes.proofs.Whole.{laid_narrow}
use Rattle.machine_correctness.specs.compiler_correctness.code_size.Bounds.{IsWithin, most_for, most_labels}
use Rattle.fip_proof.specs.credit_check.Tallies.{all_needs}
use Rattle.machine_correctness.specs.compiler_correctness.code_size.Places.{places}
use Rattle.program_front.specs.cell_lower.Shape.{header, headers}
use Rattle.cell_code.specs.Plain.{PlainFunction, PlainCode, plain_label, plain_function, plain, all_instrs}
use Rattle.machine_correctness.specs.compiler_correctness.lowering_relation.LoweredBodies.{function_of}
use Rattle.machine_correctness.specs.compiler_correctness.lowering_relation.LoweredFunctions.{AreLowered}
use Rattle.machine_correctness.specs.compiler_correctness.lower_frame.Spelled.{AreSpelt}
use Rattle.machine_correctness.proofs.compiler_correctness.EncodingWhole.{typed_has_file}
use Rattle.machine_correctness.proofs.Entries.{headers_of}
use Rattle.code_file.specs.CodeText.{CodeText}
use Rattle.code_file.specs.declared.tags.Version.TheVariants.{Second}
use Rattle.fip_base.specs.declared.refusal.Refusal.{Refusal}
use Rattle.fip_language.specs.declared.rule.Rule.TheVariants.{E61}
use Rattle.fip_trees.specs.declared.groups.Member.{Member}
use Rattle.fip_trees.specs.Tree.{Instance, Program}
use Rattle.fip_trees.specs.TreeView.{program}
use Rattle.code_verify.specs.Checked.{Checked}
use Rattle.code_verify.specs.code_rules.Breaks.{IsSound}
use Rattle.code_verify.specs.code_rules.StackNumbers.{HasStack}
use Rattle.program_front.specs.tail_groups.Members.{AreMembers}
use Rattle.program_front.specs.source_report.Report.{bare, IsAccepted}
use Rattle.command_outcome.specs.declared.failure.Failure.{Failure}
use Rattle.command_outcome.specs.declared.failure.Failure.TheVariants as F
use Rattle.command_source.specs.Codes.{IsSoundFile, IsUnspelt}
use Rattle.command_source.specs.ProgramCode.{AreNarrow, AreWithin, IsLoweredFrom, IsCodeOfSource, IsEntryOf, IsCompiledFile, HasFile, IsUncompiled, KeepsFromCompile, IsFileOfMade, KeepsFromFile}
use Rattle.command_source.specs.Entries.{Chosen, IsNamed, IsFunctionOf}
use Rattle.command_source.specs.Wanted.{Lawful, IsReady, IsRefusedBy}
use Rattle.command_source.specs.Roots.{IsListing, root_lines}
use Rattle.command_source.specs.declared.files.Compiled.{Compiled}
use Rattle.command_source.specs.declared.known.Front.{Front}
use Rattle.command_source.proofs.CodeFiles.{sound_file}

-- the registers that the groups report are the instance's
pub member_there : (ds : List Instance) (ms : List Member) (i : ℕ) (d : Instance) → length ms ≡ length ds → slice_get ds i ≡ Some d → (m : Member) × (slice_get ms i ≡ Some m)
member_there [] ms i d e f = absurd (cc)
member_there (c ∷ ds) [] i d e f = absurd (omega (arith, e))
member_there (c ∷ ds) (m ∷ ms) zero d e f = (m, refl)
member_there (c ∷ ds) (m ∷ ms) (suc i) d e f = member_there ds ms i d (omega (arith, e)) f

function_there : (fs : List Function) (n : ℕ) (f : PlainFunction) → slice_get (map plain_function fs) n ≡ Some f → (g : Function) × (slice_get fs n ≡ Some g) × (plain_function g ≡ f)
function_there [] n f e = absurd (cc)
function_there (g ∷ fs) zero f e = (g, refl, same_some (plain_function g) f e)
  where
    same_some : (x y : PlainFunction) → Some x ≡ Some y → x ≡ y
    same_some x y h = cc
function_there (g ∷ fs) (suc n) f e = function_there fs n f e

as_many_labels : (ls : List Label) → length (map plain_label ls) ≡ length ls
as_many_labels [] = refl
as_many_labels (l ∷ ls) = ap suc (as_many_labels ls)

within : (p : Program) (ms : List Member) (fs : List Function) → AreMembers p.instances ms → AreSmall p ms fs → AreWithin p (map plain_function fs)
within p ms fs found small i n d f at is there = subst (λ (x : PlainFunction). IsWithin p.types d (length x.instrs) (length x.labels)) g.2 (record {
  few_instructions = subst (λ r. length g.0.instrs.items ≤ most_for r (places p.types d)) counted h.few_instructions;
  few_labels = subst (λ l. l ≤ most_labels p.types d) (sym (as_many_labels g.0.labels.items)) h.few_labels;
})
  where
    g : (g : Function) × (slice_get fs n ≡ Some g) × (plain_function g ≡ f)
    g = function_there fs n f there

    h : IsSmall p.types (registers ms i) d g.0
    h = small i n d g.0 at is g.1

    m : (m : Member) × (slice_get ms i ≡ Some m)
    m = member_there p.instances ms i d found.size at

    counted : registers ms i ≡ Rattle.program_front.specs.tail_groups.Registers.registers d
    counted = ap registers_of m.1 ∙ found.counted i d m.0 at m.1

narrow : (p : Program) (fs : List Function) → ((i n : ℕ) (d : Instance) (g : Function) → slice_get p.instances i ≡ Some d → function_of p.instances i ≡ Some n → slice_get fs n ≡ Some g → HaveFew (most_operands p.instances d) g.instrs.items) → AreNarrow p (map plain_function fs)
narrow p fs h i n d f at is there =
    let g = function_there fs n f there in
    subst (λ (x : PlainFunction). HaveFew (most_operands p.instances d) x.instrs) g.2 (h i n d g.0 at is g.1)

-- what an accepted source's code is laid out as lists few registers
pub lists_few : (source : List ℕ) (p : Program) (code : Code) → IsAccepted source p → (IsAsked p (all_needs p p.instances) → IsLaidOut p (plain code)) → (i n : ℕ) (d : Instance) (g : Function) → slice_get p.instances i ≡ Some d → function_of p.instances i ≡ Some n → slice_get code.functions.items n ≡ Some g → HaveFew (most_operands p.instances d) g.instrs.items
lists_few source p code accepted laid i n d g at number there =
    let out = laid (is_asked source p accepted) in
    laid_narrow (plain code) out.setting p out.laid i n d (plain_function g) at number
    (slice_get-map plain_function code.functions.items n ∙ ap (option_map plain_function) there)

pub headed : (p : Program) (code : Code) (ms : List Member) → AreMembers p.instances ms → code.types ≡ p.types → map header code.functions.items ≡ headers ms p.instances → AreLowered p (all_instrs (plain code)) → AreSmall p ms code.functions.items → ((i n : ℕ) (d : Instance) (g : Function) → slice_get p.instances i ≡ Some d → function_of p.instances i ≡ Some n → slice_get code.functions.items n ≡ Some g → HaveFew (most_operands p.instances d) g.instrs.items) → ((os : List Member) → AreMembers p.instances os → (i n : ℕ) (m : Member) → function_of p.instances i ≡ Some n → slice_get os i ≡ Some m → HasStack (plain code) n m.stack) → IsLoweredFrom p (plain code)
headed p code ms found types functions lowered small few stacks =
    record { types = types; members = ms; found = found; functions = headers_of code.functions.items ∙ functions; lowered = lowered; bounded = within p ms code.functions.items found small; narrow = narrow p code.functions.items few; stacks = λ os f i n m e there. stacks os f i n m e there }

-- the code is verified, and it is the same
pub headed_verified : (p : Program) (code : Code) (o : Result Front Failure) → IsLoweredFrom p (plain code) → IfOk o (λ f. program f.typed.program ≡ p) → IfOk o (λ f. f.verified.code ≡ code) → IfOk o (λ f. IsLoweredFrom (program f.typed.program) (plain f.verified.code))
headed_verified p code (Ok f) h typed same = subst (λ c. IsLoweredFrom (program f.typed.program) (plain c)) (sym same) (subst (λ q. IsLoweredFrom q (plain code)) (sym typed) h)
headed_verified p code (Err f) h typed same = tt

pub code_of_source : (source : List ℕ) (p : Program) (code : Code) → IsAccepted source p → IsLoweredFrom p (plain code) → IsSound (plain code) → HasFile (plain code) → IsCodeOfSource source (plain code)
code_of_source source p code accepted headed sound filed =
    record { program = p; accepted = accepted; lowered = headed; sound = sound; filed = filed }

compiled_file : (source file : List ℕ) (p : Program) (code : Code) → IsAccepted source p → IsLoweredFrom p (plain code) → IsSound (plain code) → CodeText file Second (plain code) → length file ≤ 16777216 → IsCompiledFile source file
compiled_file source file p code accepted headed sound spelt short =
    record { code = plain code; of' = code_of_source source p code accepted headed sound (file, spelt); spelt = spelt; short = short }

-- a code that was lowered has a file
pub has_file : (source : List ℕ) (p : Program) (code : Code) → IsAccepted source p → IsLoweredFrom p (plain code) → AreSpelt code.functions.items → IsSound (plain code) → HasFile (plain code)
has_file source p code accepted headed spelt sound = typed_has_file source p headed.members code accepted.tailed.credited.owned.matched.typed headed.found headed.types (sym (headers_of code.functions.items) ∙ headed.functions) sound spelt

pub filed_verified : (code : Code) (o : Result Front Failure) → HasFile (plain code) → IfOk o (λ f. f.verified.code ≡ code) → IfOk o (λ f. HasFile (plain f.verified.code))
filed_verified code (Ok f) filed same = subst (λ c. HasFile (plain c)) (sym same) filed
filed_verified code (Err f) filed same = tt

uncompiled : (source : List ℕ) (p : Program) (code : Code) (f : Failure) → IsAccepted source p → IsLoweredFrom p (plain code) → IsSound (plain code) → HasFile (plain code) → ((r : Refusal) → ◌≡◌ {A = Failure} f (F.Refused r) → IsUnspelt (plain code)) → IsRefusedBy (λ r. r ≡ bare E61) f → KeepsFromCompile source f
uncompiled source p code (F.Refused r) accepted headed sound filed unspelt h =
    inr ((plain code, code_of_source source p code accepted headed sound filed, filed.0, filed.1, unspelt r refl filed.0 filed.1), h)
uncompiled source p code F.NoMemory accepted headed sound filed unspelt h = inl tt
uncompiled source p code f accepted headed sound filed unspelt h = absurd h

-- ---- the file of just the code that was made

pub made_listed : (source : List ℕ) (p : Program) (ms : List Member) (o : Result Compiled Failure) → IsAccepted source p → AreMembers p.instances ms → IfOk o (λ c. c.text.items ≡ root_lines ms 0 p.instances) → IfOk o (λ c. IsListing source c.text.items)
made_listed source p ms (Ok c) accepted found is = record { program = p; accepted = accepted; members = ms; found = found; is = is }
made_listed source p ms (Err f) accepted found is = tt

pub made_sound : (code : Code) (o : Result Compiled Failure) → IfOk o (λ c. CodeText c.file.items Second (plain code)) → IfOk o (λ c. length c.file.items ≤ 16777216) → IsSound (plain code) → IfOk o (λ c. (d : PlainCode) × IsSoundFile c.file.items d)
made_sound code (Ok c) spelt short sound = sound_file c.file.items code spelt short sound
made_sound code (Err f) spelt short sound = tt

pub made_file : (source : List ℕ) (p : Program) (code : Code) (o : Result Compiled Failure) → IsAccepted source p → IsLoweredFrom p (plain code) → IsSound (plain code) → IfOk o (λ c. CodeText c.file.items Second (plain code)) → IfOk o (λ c. length c.file.items ≤ 16777216) → IfOk o (λ c. IsCompiledFile source c.file.items)
made_file source p code (Ok c) accepted headed sound spelt short = compiled_file source c.file.items p code accepted headed sound spelt short
made_file source p code (Err f) accepted headed sound spelt short = tt

pub made_kept : (source : List ℕ) (p : Program) (code : Code) (o : Result Compiled Failure) → IsAccepted source p → IsLoweredFrom p (plain code) → IsSound (plain code) → HasFile (plain code) → ((r : Refusal) → o ≡ Err (F.Refused r) → IsUnspelt (plain code)) → IfErr o (IsRefusedBy (λ r. r ≡ bare E61)) → IfErr o (KeepsFromCompile source)
made_kept source p code (Ok c) accepted headed sound filed unspelt long = tt
made_kept source p code (Err f) accepted headed sound filed unspelt long = uncompiled source p code f accepted headed sound filed (λ r e. unspelt r (ap Err e)) long

-- and said of the code that is handed out
pub own_file : (v : Checked) (o : Result Compiled Failure) → IfOk o (λ c. CodeText c.file.items Second (plain v.code)) → IfOk o (λ c. length c.file.items ≤ 16777216) → IfOk o (λ c. IsFileOfMade (Some v) c.file.items)
own_file v (Ok c) spelt short = (spelt, short)
own_file v (Err f) spelt short = tt

pub own_unspelt : (source : List ℕ) (v : Checked) (o : Result Compiled Failure) → ((r : Refusal) → o ≡ Err (F.Refused r) → IsUnspelt (plain v.code)) → IfErr o (IsRefusedBy (λ r. r ≡ bare E61)) → IfErr o (IsRefusedBy (KeepsFromFile source (Some v)))
own_unspelt source v (Ok c) unspelt long = tt
own_unspelt source v (Err f) unspelt long = by f (λ r e. unspelt r (ap Err e)) long
  where
    by : (f : Failure) → ((r : Refusal) → ◌≡◌ {A = Failure} f (F.Refused r) → IsUnspelt (plain v.code)) → IsRefusedBy (λ r. r ≡ bare E61) f → IsRefusedBy (KeepsFromFile source (Some v)) f
    by (F.Refused r) unspelt h = unspelt r refl
    by F.NoMemory unspelt h = tt
    by f unspelt h = absurd h

-- a source of such a code breaks no rule
pub uncompiled_ready : (source : List ℕ) → IsUncompiled source → IsReady source Lawful
uncompiled_ready source h = record { program = h.1.program; accepted = h.1.accepted; has = tt }

-- ---- the function that is run

-- a code that was lowered and verified, and its function of a name
pub entry_of : (source name : List ℕ) (p : Program) (code : Code) (o : Result Chosen Failure) → IsAccepted source p → IsLoweredFrom p (plain code) → HasFile (plain code) → IfOk o (λ r. r.checked.code ≡ code) → IfOk o (λ r. IsSound (plain r.checked.code)) → IfOk o (λ r. IsNamed name r.checked.code.functions.items r.entry) → IfOk o (IsEntryOf source name)
entry_of source name p code (Ok r) h lowered filed same sound named =
    record { code = code_of_source source p r.checked.code h (subst (λ c. IsLoweredFrom p (plain c)) (sym same) lowered) sound (subst (λ c. HasFile (plain c)) (sym same) filed); named = named }
entry_of source name p code (Err f) h lowered filed same sound named = tt

pub sound_kept : (code : Code) (o : Result Chosen Failure) → IsSound (plain code) → IfOk o (λ r. r.checked.code ≡ code) → IfOk o (λ r. IsSound (plain r.checked.code))
sound_kept code (Ok r) sound same = subst (λ c. IsSound (plain c)) (sym same) sound
sound_kept code (Err f) sound same = tt

pub named_one : (name : List ℕ) (fs : List Function) (o : Option ℕ) → 0 < length name → IfSome o (λ i. (f : Function) × (slice_get fs i ≡ Some f) × (f.name ≡ name)) → IfSome o (IsNamed name fs)
named_one name fs None some h = tt
named_one name fs (Some i) some h = record { some = some; function = h.0; there = h.1; named = h.2 }

-- a code of a file, and its function of a name
pub chosen_function : (bytes name : List ℕ) (code : Code) (o : Result Chosen Failure) → IsSoundFile bytes (plain code) → IfOk o (λ r. r.checked.code ≡ code) → IfOk o (λ r. IsNamed name r.checked.code.functions.items r.entry) → IfOk o (IsFunctionOf bytes name)
chosen_function bytes name code (Ok r) file same named = record { file = subst (λ c. IsSoundFile bytes (plain c)) (sym same) file; named = named }
chosen_function bytes name code (Err f) file same named = tt
