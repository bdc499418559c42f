-- A source whose functions are all plain has a code, which has no functions.
-- The idea: no instance of its program has a header or a function, so what is required of these is required of none;
-- its types are sound and have a text, as those of each accepted source.
use Rattle.std.proofs.Common.{◌≡◌, ◌∙◌, ℕ, zero, suc, Bool, true, false, List, [], ◌∷◌, map, Some, None, slice_get, get_or, is_some, refl, sym, ap}
use Rattle.std.proofs.lemmas.Option.{none-some}
use Rattle.command_answers.specs.command_library.fip_language.declared.FunKind.TheVariants.{Fun}
use Rattle.command_answers.specs.command_library.fip_language.Kinds.{is_ruled}
use Rattle.command_answers.specs.command_library.fip_language.Table.{Table, all_bare, shapes, is_scalar}
use Rattle.worked_examples.specs.fip_trees.declared.groups.Member.{Member}
use Rattle.worked_examples.specs.fip_trees.Tree.{Instance, Program}
use Rattle.worked_examples.specs.cell_lower.Limits.{registers}
use Rattle.worked_examples.specs.cell_lower.Shape.{header_of, headers_from, and_if}
use Rattle.worked_examples.specs.cell_code.Plain.{PlainCode}
use Rattle.worked_examples.specs.code_file.CodeText.{CodeText, code_text, table_text, functions_text}
use Rattle.worked_examples.specs.code_file.Spelling.{◌+++◌, each, two}
use Rattle.worked_examples.specs.code_file.declared.tags.Version.TheVariants.{Second}
use Rattle.worked_examples.specs.lowering_relation.LoweredBodies.{has_function, if_function, one_more, function_of}
use Rattle.worked_examples.specs.lowering_relation.LoweredFunctions.{IsSettingOf}
use Rattle.worked_examples.specs.lowering_relation.LaidFunctions.{AreLaid}
use Rattle.worked_examples.specs.lowering_relation.Values.{Setting}
use Rattle.worked_examples.specs.source_report.Report.{IsTyped, IsAccepted}
use Rattle.command_answers.specs.command_library.code_rules.Breaks.{IsSound}
use Rattle.command_answers.proofs.command_library.command_run.compiler_correctness.SoundnessWhole.{laid_is_sound}
use Rattle.command_answers.proofs.command_library.command_run.compiler_correctness.Tables.{narrow_table}
use Rattle.command_answers.proofs.command_library.command_run.compiler_correctness.Texts.{joined, bytes_of}
use Rattle.command_answers.proofs.command_library.command_run.compiler_correctness.Types.{typed_types_spelt}
use Rattle.command_answers.specs.CodeOf.{IsCodeOf, IsSourceCode}

abbrev ArePlain : List Instance → Type 0
ArePlain ds = (i : ℕ) (d : Instance) → slice_get ds i ≡ Some d → d.kind ≡ Fun

-- ---- no instance has a function or a header

none_more : (b : Bool) → one_more b None ≡ None
none_more true = refl
none_more false = refl

no_function : (ds : List Instance) → ArePlain ds → (g : ℕ) → function_of ds g ≡ None
no_function [] plain g = refl
no_function (d ∷ ds) plain zero = ap (λ k. if_function (has_function k)) (plain 0 d refl)
no_function (d ∷ ds) plain (suc g) =
    ap (one_more (has_function d.kind)) (no_function ds (λ i e is. plain (suc i) e is) g) ∙ none_more (has_function d.kind)

no_headers : (ms : List Member) (i : ℕ) (ds : List Instance) → ArePlain ds → headers_from ms i ds ≡ []
no_headers ms i [] plain = refl
no_headers ms i (d ∷ ds) plain =
    ap (λ k. and_if (is_ruled k) (header_of (registers ms i) d) (headers_from ms (suc i) ds)) (plain 0 d refl)
    ∙ no_headers ms (suc i) ds (λ j e is. plain (suc j) e is)

-- ---- what its functions would share

bare_at : (tb : Table) (t : ℕ) → get_or (map all_bare tb) t true ≡ all_bare (shapes tb t)
bare_at [] t = refl
bare_at (row ∷ rows) zero = refl
bare_at (row ∷ rows) (suc t) = bare_at rows t

scalar_at : (tb : Table) (t : ℕ) → get_or (true ∷ map all_bare tb) t true ≡ is_scalar tb t
scalar_at tb zero = refl
scalar_at tb (suc t) = bare_at tb t

no_functions_spelt : is_some (functions_text Second []) ≡ true
unfolding functions_text each two ◌+++◌
no_functions_spelt = refl

module _ (source : List ℕ) (p : Program) (h : IsAccepted source p) (plain : ArePlain p.instances) where
  abbrev typed : IsTyped source p
  typed = h.tailed.credited.owned.matched.typed

  abbrev setting : Setting
  setting = record { scalar = true ∷ map all_bare p.types; functions = []; instances = p.instances; types = p.types }

  is_setting : IsSettingOf p setting
  is_setting = record { scalar = scalar_at p.types; functions = λ g. sym (no_function p.instances plain g); instances = refl; types = refl }

  abbrev code : PlainCode
  code = record { types = p.types; functions = [] }

  laid : AreLaid code setting p
  laid = record { setting = is_setting; each = λ n f there. absurd (none-some f there) }

  sound : IsSound code
  sound =
      laid_is_sound source p h code setting
      (record { types = refl; members = h.members; found = h.groups; functions = sym (no_headers h.members 0 p.instances plain) })
      laid (λ n f there. absurd (none-some f there))

  file : (bytes : List ℕ) × CodeText bytes Second code
  unfolding code_text
  file =
      bytes_of (code_text Second code)
      (joined _ _ refl (joined _ _ refl (joined (table_text p.types) (functions_text Second []) (typed_types_spelt source p typed (narrow_table code sound)) no_functions_spelt)))

  never : (i n : ℕ) → function_of p.instances i ≡ Some n → ⊥
  never i n is = none-some n (sym (no_function p.instances plain i) ∙ is)

  is_code : IsCodeOf p code
  is_code = record {
    types = refl;
    members = h.members;
    found = h.groups;
    functions = sym (no_headers h.members 0 p.instances plain);
    within = λ i n d f there is at. absurd (never i n is);
    narrow = λ i n d f there is at. absurd (never i n is);
    spelt = file;
    sound = sound;
    stacks = λ ms found i n m is at. absurd (never i n is);
    means = λ before waits kinds i n vs calls frames s l. absurd (never i n l.is);
    peaks = λ before waits kinds i n vs calls frames s l some end last left steps e. absurd (never i n l.is);
  }

  pub plain_code : (code : PlainCode) × IsSourceCode source code
  plain_code = (code, record { program = p; accepted = h; is = is_code })
