-- A function that begins beside kept cells begins rightly, on its arguments.
use Rattle.std.proofs.Common.{◌≡◌, ℕ, Some, sym, ap, ◌∙◌, subst}
use Rattle.tree_refinement.specs.fip_language.Store.{values_of}
use Rattle.tree_refinement.specs.fip_language.Values.{Values}
use Rattle.tree_refinement.specs.cell_code.declared.code.Code.{Code}
use Rattle.tree_refinement.specs.cell_code.Plain.{PlainFunction, plain}
use Rattle.tree_refinement.specs.machine_semantics.Runs.{loaded}
use Rattle.tree_refinement.specs.machine_semantics.States.{State}
use Rattle.tree_refinement.specs.machine_semantics.Steps.{Kinds}
use Rattle.tree_refinement.specs.code_rules.Breaks.{IsSound}
use Rattle.tree_refinement.specs.separation.Codes.{HasLiterals, AreKinds}
use Rattle.tree_refinement.specs.separation.Starts.{IsStart}
use Rattle.tree_refinement.proofs.separation.Loading.{loaded_is}
use Rattle.tree_refinement.specs.Runs.{BeginsWith}
use Rattle.tree_refinement.proofs.Loading.{begins_values, begins_with}
use Rattle.session_correctness.specs.Beside.{BeginsBeside}
use Rattle.std.specs.Prelude.{List}

module _ (code : Code) (before waits : Kinds) (n : ℕ) (f : PlainFunction) (vs : Values) (frames : ℕ) (kept : List ℕ) (s : State) (b : BeginsBeside code n f vs frames kept s) where
  pub is_loaded : loaded (plain code) n s.store b.words frames ≡ Some s
  is_loaded = b.loaded

  pub free_is : s.free ≡ frames
  free_is = ap (λ (u : State). u.free) (loaded_is (plain code) n f s.store b.words frames s b.is is_loaded)

  abbrev pub start : IsSound (plain code) → HasLiterals (plain code) → AreKinds (plain code) before waits → IsStart (plain code) before waits n kept s
  start sound literals kinds = record {
    sound = sound;
    literals = literals;
    kinds = kinds;
    function = f;
    is = b.is;
    words = b.words;
    given = b.given;
    free = frames;
    loaded = is_loaded;
  }

  pub begins : IsSound (plain code) → HasLiterals (plain code) → AreKinds (plain code) before waits → BeginsWith (plain code) n s vs
  begins sound literals kinds =
      let t = start sound literals kinds in
      let some = begins_with (plain code) before waits n kept s t in
      let same : values_of b.given.arguments ≡ some.0 = begins_values (plain code) before waits n kept s t some.0 some.1 in
      subst (λ us. BeginsWith (plain code) n s us) (sym same ∙ b.values) some.1
