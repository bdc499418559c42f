-- The file of a code of a source is no longer than the source allows, so no small source is answered E61.
-- Idea: each function's text is as short as its instance's registers, places and width allow, and the functions are those
-- of the instances that aren't plain, in their order.
use Rattle.std.proofs.Common.{◌≡◌, ◌∙◌, ◌<◌, ◌≤◌, ◌+◌, ◌*◌, ℕ, zero, suc, Bool, true, false, ◌&&◌, not, ◌==◌, nat_lt, List, [], ◌∷◌, length, map, Option, Some, None, slice_get, option_map, if◌then◌else◌, refl, sym, ap, subst, arith}
use Rattle.std.proofs.lemmas.Option.{none-some, same_Some, slice_get-map}
use Rattle.command_run.specs.cell_lower.fip_language.declared.FunKind.{FunKind}
use Rattle.command_run.specs.cell_lower.fip_language.declared.FunKind.TheVariants.{Fip, Fbip, Fun}
use Rattle.command_run.specs.cell_lower.fip_language.declared.limits.TheConstants.{MOST_FILE_BYTES}
use Rattle.command_run.specs.cell_lower.fip_language.Table.{Table}
use Rattle.command_run.specs.fip_trees.declared.groups.Member.{Member}
use Rattle.command_run.specs.fip_trees.Tree.{Instance, Program}
use Rattle.command_run.specs.cell_lower.Limits.{is_ruled, registers}
use Rattle.command_run.specs.cell_lower.Shape.{Header, header_of, entry_name, and_if, headers, headers_from}
use Rattle.code_bytes.specs.Bytes.{label_bytes, function_bytes, functions_bytes, table_bytes, most_constructors, most_bytes}
use Rattle.code_bytes.specs.Operands.{most_operands}
use Rattle.code_bytes.proofs.Lengths.{AllHaveFew, IsShort, shorter, together, some_short, LabelsFew, bytes_for, function_short, code_short, maps_few}
use Rattle.command_run.specs.code_file.CodeText.{CodeText, function_text}
use Rattle.command_run.specs.cell_lower.cell_code.Plain.{PlainFunction, PlainCode}
use Rattle.command_run.specs.code_file.Spelling.{each}
use Rattle.command_run.specs.code_file.declared.tags.Version.TheVariants.{Second}
use Rattle.command_run.proofs.separation.Sound.{formed}
use Rattle.command_run.specs.cell_lower.code_size.Bounds.{most_instructions, most_labels}
use Rattle.command_run.proofs.machine_correctness.separation_kinds.Basics.{both}
use Rattle.command_run.specs.lowering_relation.LoweredBodies.{has_function, one_more, if_function, function_of}
use Rattle.command_run.specs.code_rules.Breaks.{IsSound}
use Rattle.command_run.specs.code_rules.Headers.{is_formed, are_good_maps, are_params, are_sizes, are_types}
use Rattle.command_run.specs.code_rules.Limits.{most_credits, most_registers, most_results}
use Rattle.command_run.specs.tail_groups.Members.{AreMembers}
use Rattle.command_run.specs.tail_groups.Registers as G
use Rattle.command_run.specs.source_report.Report.{IsAccepted}
use Rattle.command_run.proofs.source_report.Once.{accepted_once}
use Rattle.command_run.specs.command_source.ProgramCode as C
use Rattle.command_run.proofs.machine_correctness.Entries.{plain_header}
use Rattle.command_run.specs.command_source.ProgramCode.{IsCodeOfSource, IsUncompiled}
use Rattle.command_run.proofs.machine_correctness.Peaks.{header_at, counted_at}

-- ---- one function

name_short : (d : Instance) → length (entry_name d) ≤ length d.name
name_short d = by d.root
  where
    by : (b : Bool) → length (if b then d.name else []) ≤ length d.name
    by true = omega arith
    by false = omega arith

-- the label maps of a function that is formed
good_maps : (c : PlainCode) (f : PlainFunction) → is_formed c f ≡ true → are_good_maps c.types f 0 f.labels ≡ true
good_maps c f e =
    let a = both (not (length f.instrs == 0)) _ e in
    let b = both (not (nat_lt f.registers (length f.params + length f.credits))) _ a.1 in
    let d = both (nat_lt f.registers (suc most_registers)) _ b.1 in
    let g = both (not (length f.results == 0)) _ d.1 in
    let h = both (nat_lt (length f.results) (suc most_results)) _ g.1 in
    let i = both (nat_lt (length f.credits) (suc most_credits)) _ h.1 in
    let j = both (are_params c.types f.params) _ i.1 in
    let k = both (are_sizes f.credits) _ j.1 in
    (both (are_types c.types f.results) (are_good_maps c.types f 0 f.labels) k.1).1

-- what a code of a program says beside its instructions, and how large its functions are
pub record IsSized (p : Program) (code : PlainCode) : Type 0 where
  pub types : code.types ≡ p.types
  pub members : List Member
  pub found : AreMembers p.instances members
  pub functions : map plain_header code.functions ≡ headers members p.instances
  pub within : C.AreWithin p code.functions
  pub narrow : C.AreNarrow p code.functions
  pub sound : IsSound code

module _ (p : Program) (code : PlainCode) (h : IsSized p code) where
  labels_few : (n : ℕ) (f : PlainFunction) → slice_get code.functions n ≡ Some f → LabelsFew (most_constructors p.types) f.labels
  labels_few n f there i l at =
      let good = good_maps code f (formed code n f h.sound there) in
      subst (λ tb. AllHaveFew (most_constructors tb) l.kinds) h.types
      (maps_few code.types f 0 f.labels good i l at)

  each_short : (i n : ℕ) (d : Instance) (f : PlainFunction) → slice_get p.instances i ≡ Some d → function_of p.instances i ≡ Some n → slice_get code.functions n ≡ Some f → IsShort (function_text Second f) (function_bytes p.types (most_constructors p.types) (most_operands p.instances d) d)
  each_short i n d f at number there =
      let ms = h.members in
      let zeroth : 0 + i ≡ i = omega arith in
      let header : plain_header f ≡ header_of (registers ms i) d =
      same_Some (plain_header f) (header_of (registers ms i) d)
      (sym (slice_get-map plain_header code.functions n ∙ ap (option_map plain_header) there) ∙ ap (λ hs. slice_get hs n) h.functions ∙ header_at ms 0 p.instances i n d number at ∙ ap (λ k. Some (header_of (registers ms k) d)) zeroth) in
      let counted : registers ms i ≡ G.registers d = counted_at p.instances ms i d h.found at (slice_get ms i) refl in
      let own : f.registers ≡ G.registers d = ap (λ (q : Header). q.registers) header ∙ counted in
      let name = ap (λ (q : Header). length q.name) header in
      let few_name = name_short d in
      let params = ap (λ (q : Header). length q.signature.params) header in
      let credits = ap (λ (q : Header). length q.signature.credits) header in
      let results = ap (λ (q : Header). length q.signature.results) header in
      let maps = ap (λ r. most_labels p.types d * label_bytes (most_constructors p.types) r) own in
      let within = h.within i n d f at number there in
      shorter (function_text Second f) (bytes_for f (most_instructions p.types d) (most_operands p.instances d) (most_labels p.types d) (most_constructors p.types)) (function_bytes p.types (most_constructors p.types) (most_operands p.instances d) d)
      (omega (arith, name, few_name, params, credits, results, maps))
      (function_short f (most_instructions p.types d) (most_operands p.instances d) (most_labels p.types d) (most_constructors p.types) (h.narrow i n d f at number there) within.few_instructions (labels_few n f there) within.few_labels)

-- ---- all of them

-- each function of these instances is short
abbrev AreShort : Table → ℕ → List Instance → List Instance → List PlainFunction → Type 0
AreShort tb m all ds fs = (j n : ℕ) (d : Instance) (f : PlainFunction) → slice_get ds j ≡ Some d → function_of ds j ≡ Some n → slice_get fs n ≡ Some f → IsShort (function_text Second f) (function_bytes tb m (most_operands all d) d)

module _ (tb : Table) (m : ℕ) (all : List Instance) where
  first_short : (r : ℕ) (d : Instance) (ds : List Instance) (hs : List Header) (fs : List PlainFunction) → has_function d.kind ≡ true → map plain_header fs ≡ header_of r d ∷ hs → ((gs : List PlainFunction) → map plain_header gs ≡ hs → AreShort tb m all ds gs → IsShort (each (function_text Second) gs) (functions_bytes tb m all ds)) → AreShort tb m all (d ∷ ds) fs → IsShort (each (function_text Second) fs) (function_bytes tb m (most_operands all d) d + functions_bytes tb m all ds)
  unfolding each
  first_short r d ds hs [] k e rest h = absurd (let z = ap length e in omega (arith, z))
  first_short r d ds hs (f ∷ fs) k e rest h =
      together (function_text Second f) (each (function_text Second) fs) (function_bytes tb m (most_operands all d) d) (functions_bytes tb m all ds) (h 0 0 d f refl (ap if_function k) refl)
      (rest fs (let z : map plain_header fs ≡ hs = cc in z) (λ j n g q at is there. h (suc j) (suc n) g q at (ap (λ b. one_more b (function_of ds j)) k ∙ ap (one_more true) is) there))

  next_short : (r : ℕ) (d : Instance) (ds : List Instance) (hs : List Header) (fs : List PlainFunction) (k : FunKind) → d.kind ≡ k → map plain_header fs ≡ and_if (is_ruled k) (header_of r d) hs → ((gs : List PlainFunction) → map plain_header gs ≡ hs → AreShort tb m all ds gs → IsShort (each (function_text Second) gs) (functions_bytes tb m all ds)) → AreShort tb m all (d ∷ ds) fs → IsShort (each (function_text Second) fs) ((if has_function k then function_bytes tb m (most_operands all d) d else 0) + functions_bytes tb m all ds)
  next_short r d ds hs fs Fip k e rest h = first_short r d ds hs fs (ap has_function k) e rest h
  next_short r d ds hs fs Fbip k e rest h = first_short r d ds hs fs (ap has_function k) e rest h
  next_short r d ds hs fs Fun k e rest h =
      shorter (each (function_text Second) fs) (functions_bytes tb m all ds) (0 + functions_bytes tb m all ds) (omega arith)
      (rest fs e (λ j n g q at is there. h (suc j) n g q at (ap (λ b. one_more (has_function b) (function_of ds j)) k ∙ ap (one_more false) is) there))

  functions_short : (ms : List Member) (i : ℕ) (ds : List Instance) (fs : List PlainFunction) → map plain_header fs ≡ headers_from ms i ds → AreShort tb m all ds fs → IsShort (each (function_text Second) fs) (functions_bytes tb m all ds)
  unfolding each
  functions_short ms i [] [] e h = some_short [] 0 (omega arith)
  functions_short ms i [] (f ∷ fs) e h = absurd (let z = ap length e in omega (arith, z))
  functions_short ms i (d ∷ ds) fs e h = next_short (registers ms i) d ds (headers_from ms (suc i) ds) fs d.kind refl e (λ gs q k. functions_short ms (suc i) ds gs q k) h

-- ---- the file

pub sized_short : (p : Program) (file : List ℕ) (code : PlainCode) → IsSized p code → CodeText file Second code → length file ≤ most_bytes p
sized_short p file code h spelt =
    let all = functions_short p.types (most_constructors p.types) p.instances h.members 0 p.instances code.functions h.functions (each_short p code h) in
    let long = code_short code (functions_bytes p.types (most_constructors p.types) p.instances p.instances) all file spelt in
    let types = ap table_bytes h.types in
    omega (arith, long, types)

sized : (source : List ℕ) (code : PlainCode) → (h : IsCodeOfSource source code) → IsSized h.program code
sized source code h = record {
  types = h.lowered.types;
  members = h.lowered.members;
  found = h.lowered.found;
  functions = h.lowered.functions;
  within = h.lowered.bounded;
  narrow = h.lowered.narrow;
  sound = h.sound;
}

pub file_short : (source file : List ℕ) (code : PlainCode) (p : Program) → IsCodeOfSource source code → CodeText file Second code → IsAccepted source p → length file ≤ most_bytes p
file_short source file code p h spelt accepted =
    subst (λ (q : Program). length file ≤ most_bytes q) (accepted_once source h.program p h.accepted accepted) (sized_short h.program file code (sized source code h) spelt)

-- E61 is reported of large sources alone
pub uncompiled_large : (source : List ℕ) (p : Program) → IsUncompiled source → IsAccepted source p → MOST_FILE_BYTES < most_bytes p
uncompiled_large source p h accepted =
    let few = file_short source h.2 h.0 p h.1 h.3 accepted in
    let long = h.4 in
    omega (arith, few, long)
