-- A function of sound code that is loaded with arguments of its parameters' types begins, and its cells are those of
-- the arguments and of its credits.
use Rattle.std.proofs.Common.{map, subst, ◌≡◌, ◌+◌, ℕ, true, [], Some, sym, ap, ◌∙◌, arith}
use Rattle.std.proofs.lemmas.Option.{same_Some}
use Rattle.fip_machine.specs.fip_language.Store.{values_of, count}
use Rattle.fip_machine.specs.fip_language.Table.{HaveTypes}
use Rattle.fip_machine.specs.fip_language.Values.{Values, cells_of_all}
use Rattle.fip_machine.specs.cell_code.declared.code.Code.{Code}
use Rattle.compiler_correctness.specs.machine_semantics.Cells.{count_held}
use Rattle.fip_machine.specs.cell_code.Plain.{PlainFunction, PlainCode, plain, function_at}
use Rattle.compiler_correctness.specs.machine_semantics.Runs.{loaded}
use Rattle.compiler_correctness.specs.machine_semantics.States.{State}
use Rattle.compiler_correctness.specs.machine_semantics.Steps.{Kinds}
use Rattle.run_loading.specs.code_rules.Codes.{is_fip}
use Rattle.run_loading.specs.code_rules.StackNumbers.{IsFip}
use Rattle.run_loading.specs.separation.Codes.{AreKinds}
use Rattle.run_loading.specs.separation.Starts.{IsStart}
use Rattle.run_loading.proofs.separation.KindsFound.{kinds_found}
use Rattle.run_loading.proofs.separation.Loading.{loaded_is}
use Rattle.run_loading.specs.tree_refinement.Runs.{BeginsWith}
use Rattle.run_loading.proofs.tree_refinement.Loading.{begins_values, begins_with}
use Rattle.run_loading.proofs.separation_bounds.GivenBack.{start_held}
use Rattle.run_loading.specs.Loading.{first_store, first_words}
use Rattle.run_loading.proofs.Begins.{begins}
use Rattle.machine_correctness.specs.Starts.{IsSoundCode, Begins}

is_loaded : (code : Code) (n : ℕ) (f : PlainFunction) (vs : Values) (frames : ℕ) (s : State) → (b : Begins code n f vs frames s) → loaded (plain code) n s.store b.words frames ≡ Some s
is_loaded code n f vs frames s b = b.loaded

abbrev start : (code : Code) (before waits : Kinds) (n : ℕ) (f : PlainFunction) (vs : Values) (frames : ℕ) (s : State) → IsSoundCode code → AreKinds (plain code) before waits → Begins code n f vs frames s → IsStart (plain code) before waits n [] s
start code before waits n f vs frames s sound kinds b = record {
  sound = sound.sound;
  literals = sound.literals;
  kinds = kinds;
  function = f;
  is = b.is;
  words = b.words;
  given = b.given;
  free = frames;
  loaded = is_loaded code n f vs frames s b;
}

pub starts : (code : Code) (before waits : Kinds) (n : ℕ) (f : PlainFunction) (vs : Values) (frames : ℕ) (s : State) → IsSoundCode code → AreKinds (plain code) before waits → Begins code n f vs frames s → IsStart (plain code) before waits n [] s × BeginsWith (plain code) n s vs
starts code before waits n f vs frames s sound kinds b =
    let t = start code before waits n f vs frames s sound kinds b in
    let some = begins_with (plain code) before waits n [] s t in
    let same : values_of b.given.arguments ≡ some.0 = begins_values (plain code) before waits n [] s t some.0 some.1 in
    (t, subst (λ us. BeginsWith (plain code) n s us) (sym same ∙ b.values) some.1)

pub free_is : (code : Code) (n : ℕ) (f : PlainFunction) (vs : Values) (frames : ℕ) (s : State) → Begins code n f vs frames s → s.free ≡ frames
free_is code n f vs frames s b = ap (λ (u : State). u.free) (loaded_is (plain code) n f s.store b.words frames s b.is (is_loaded code n f vs frames s b))

pub fip : (c : PlainCode) (n : ℕ) (f : PlainFunction) → function_at c n ≡ Some f → is_fip f.kind ≡ true → IsFip c n
fip c n f is k = (f, is, k)

-- the cells of what begins are those of its arguments and of its credits
pub cells_at_start : (c : PlainCode) (before waits : Kinds) (n : ℕ) (f : PlainFunction) (vs : Values) (s : State) (size : ℕ) → IsStart c before waits n [] s → BeginsWith c n s vs → function_at c n ≡ Some f → count_held size s.store ≡ cells_of_all size vs + count size f.credits
cells_at_start c before waits n f vs s size t b is =
    let held = start_held c before waits n [] s size t in
    let same : values_of t.given.arguments ≡ vs = begins_values c before waits n [] s t vs b in
    let own : t.function ≡ f = same_Some t.function f (sym t.is ∙ is) in
    let values : cells_of_all size (values_of t.given.arguments) ≡ cells_of_all size vs = ap (cells_of_all size) same in
    let credits : count size t.function.credits ≡ count size f.credits = ap (λ (g : PlainFunction). count size g.credits) own in
    omega (arith, held, values, credits)

-- ---- a new store

-- what begins rightly begins on its arguments
of_start : (code : Code) (before waits : Kinds) (n : ℕ) (vs : Values) (s : State) → (t : IsStart (plain code) before waits n [] s) → BeginsWith (plain code) n s vs → Begins code n t.function vs t.free s
of_start code before waits n vs s t b = record {
  is = t.is;
  words = t.words;
  given = t.given;
  values = begins_values (plain code) before waits n [] s t vs b;
  loaded = t.loaded;
}

-- the same of the function and the frames that one names
pub begins_of : (code : Code) (before waits : Kinds) (n : ℕ) (f : PlainFunction) (vs : Values) (frames : ℕ) (s : State) → (t : IsStart (plain code) before waits n [] s) → BeginsWith (plain code) n s vs → function_at (plain code) n ≡ Some f → s.free ≡ frames → Begins code n f vs frames s
begins_of code before waits n f vs frames s t b is free =
    let own : t.function ≡ f = same_Some t.function f (sym t.is ∙ is) in
    let has : s.free ≡ t.free = ap (λ (u : State). u.free) (loaded_is (plain code) n t.function s.store t.words t.free s t.is t.loaded) in
    subst (λ g. Begins code n g vs frames s) own (subst (λ m. Begins code n t.function vs m s) (sym has ∙ free) (of_start code before waits n vs s t b))

pub loaded_begins : (code : Code) (n : ℕ) (f : PlainFunction) (vs : Values) (frames : ℕ) (s : State) → IsSoundCode code → function_at (plain code) n ≡ Some f → HaveTypes code.types (map (λ p. p.ty) f.params) vs → loaded (plain code) n (first_store vs f.credits) (first_words vs f.credits) frames ≡ Some s → Begins code n f vs frames s
loaded_begins code n f vs frames s sound is have loads =
    let c = plain code in
    let found = kinds_found c in
    let reads : loaded c n (first_store vs f.credits) (first_words vs f.credits) frames ≡ Some s = loads in
    let x = begins c found.0 found.1 n f vs frames s sound.sound sound.literals found.2 is have reads in
    let own : x.0.function ≡ f = same_Some x.0.function f (sym x.0.is ∙ is) in
    let given : s.free ≡ frames = ap (λ (u : State). u.free) (loaded_is c n f (first_store vs f.credits) (first_words vs f.credits) frames s is reads) in
    let has : s.free ≡ x.0.free = ap (λ (u : State). u.free) (loaded_is c n x.0.function s.store x.0.words x.0.free s x.0.is x.0.loaded) in
    subst (λ g. Begins code n g vs frames s) own
    (subst (λ m. Begins code n x.0.function vs m s) (sym has ∙ given) (of_start code found.0 found.1 n vs s x.0 x.1))
