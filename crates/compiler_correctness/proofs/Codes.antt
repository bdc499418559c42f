-- Sound code has a file where its types, the kinds and names of its functions, and what is in these have texts.
use Rattle.std.proofs.Common.{◌≡◌, ℕ, List, length, map, Some, slice_get, refl, subst, arith}
use Rattle.std.proofs.lemmas.List.{length-map}
use Rattle.lowering_soundness.proofs.fip_language.Words.{map_at}
use Rattle.lowering_soundness.proofs.fip_language.Words.{slice_get-map}
use Rattle.lowering_soundness.specs.cell_code.declared.code.Code.{Code}
use Rattle.lowering_soundness.specs.cell_code.declared.code.Function.{Function}
use Rattle.lowering_soundness.specs.code_rules.Breaks.{IsSound}
use Rattle.lowering_soundness.specs.cell_code.Plain.{plain_function, plain}
use Rattle.derivation_correctness.specs.code_file.declared.tags.Version.TheVariants.{Second}
use Rattle.derivation_correctness.specs.code_file.Spelling.{each, two, function_name_text}
use Rattle.derivation_correctness.specs.code_file.CodeText.{code_kind_text, table_text, function_text, functions_text, code_text, CodeText}
use Rattle.derivation_correctness.specs.lower_frame.Spelled.{IsSpelt, AreSpelt}
use Rattle.compiler_correctness.proofs.EncodingFunctions.{function_spelt}
use Rattle.compiler_correctness.proofs.Tables.{narrow_table, few_functions, sound_formed}
use Rattle.compiler_correctness.proofs.Texts.{joined, each_spelt, two_spelt, bytes_of}

-- a function's kind and name have texts
pub record IsHeadSpelt (f : Function) : Type 0 where
  pub kind : IsSpelt (code_kind_text f.kind)
  pub name : IsSpelt (function_name_text f.name)

module _ (c : Code) (sound : IsSound (plain c)) (types : IsSpelt (table_text c.types)) (heads : (n : ℕ) (f : Function) → slice_get c.functions.items n ≡ Some f → IsHeadSpelt f) (spelt : AreSpelt c.functions.items) where
  function_at : (n : ℕ) (f : Function) → slice_get c.functions.items n ≡ Some f → IsSpelt (function_text Second (plain_function f))
  function_at n f e =
      let head = heads n f e in
      function_spelt (plain c) f (narrow_table (plain c) sound).few_types
      (sound_formed (plain c) n (plain_function f) sound (slice_get-map plain_function c.functions.items n f e))
      head.kind head.name (spelt n f e)

  functions_spelt : IsSpelt (functions_text Second (map plain_function c.functions.items))
  unfolding functions_text
  functions_spelt =
      let fs = map plain_function c.functions.items in
      let here = length-map c.functions.items plain_function in
      let there = length-map c.functions.items plain_function in
      let few = few_functions (plain c) sound in
      joined (two (length fs)) (each (function_text Second) fs) (two_spelt (length fs) (omega (arith, here, there, few)))
      (each_spelt (function_text Second) fs (λ n x e. (
      let at = map_at plain_function c.functions.items n x e in
      subst (λ x. IsSpelt (function_text Second x)) at.2 (function_at n at.0 at.1))))

  code_spelt : IsSpelt (code_text Second (plain c))
  unfolding code_text
  code_spelt = joined _ _ refl (joined _ _ refl (joined (table_text c.types) (functions_text Second (map plain_function c.functions.items)) types functions_spelt))

  pub has_file : (file : List ℕ) × CodeText file Second (plain c)
  has_file = bytes_of (code_text Second (plain c)) code_spelt
