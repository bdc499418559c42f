-- From the root that was found, and the answer of its instance, to what the source means.
use Rattle.std.proofs.Common.{◌≡◌, ◌∙◌, ℕ, Bool, true, false, List, [], ◌∷◌, refl, sym, ap, subst, slice_get, if◌then◌else◌, Some}
use Rattle.std.specs.Prelude.{Result, Ok, Err, bytes_eq}
use Rattle.std.specs.declared.vec.Vec.{Vec}
use Rattle.std.specs.declared.alloc.Global.{Global}
use Rattle.std.proofs.lemmas.Option.{none-some, same_Some}
use Rattle.std.proofs.lemmas.Slice.Eq.{bytes_eq-Decides}
use Rattle.fip_language.specs.Meaning.{Run, meaning}
use Rattle.fip_language.specs.SoundTable.{AreTypes, IsSoundTable}
use Rattle.fip_language.specs.Statics.{NoClosed}
use Rattle.fip_language.specs.Values.{Values}
use Rattle.fip_language.specs.ValueText.{SpellsValues}
use Rattle.fip_language.specs.Character.{characters}
use Rattle.fip_language.proofs.Words.{slice_get-map}
use Rattle.fip_base.specs.declared.plain.Param.{Param}
use Rattle.command_source.specs.fip_trees.Tree.{Instance, Program}
use Rattle.command_source.specs.fip_trees.TreeView as V
use Rattle.command_source.specs.fip_trees.declared.program.Instance.{Instance as an_instance}
use Rattle.command_source.specs.fip_trees.declared.program.Program.{Program as a_program}
use Rattle.command_outcome.specs.declared.failure.Failure.{Failure}
use Rattle.command_outcome.specs.declared.failure.Failure.TheVariants as F
use Rattle.plain_eval.specs.instance_semantics.Meaning.{flat_meaning}
use Rattle.value_text.specs.Loaded.{types_of}
use Rattle.value_text.proofs.Typed.{input_typed}
use Rattle.plain_rows.specs.declared.load.Rows.{Rows}
use Rattle.plain_rows.specs.Rows.{AreRows}
use Rattle.command_source.specs.type_safety.Soundness.{IsSoundAnswer, parameter_types}
use Rattle.command_source.specs.source_report.Report.{IsTyped, IsMatched, IsAccepted}
use Rattle.command_source.proofs.source_report.Ready.{typed_formed}
use Rattle.command_source.proofs.static_params.TypeRows.{there_among}
use Rattle.command_source.proofs.source_safety.Accepted.{matched_sound}
use Rattle.command_source.proofs.specialisation_correctness.Meant.{root_meant}
use Rattle.command_source.specs.Entries.{IsRootedIn}
use Rattle.command_source.specs.Roots.{root_named}
use Rattle.command_eval.specs.Arguments.{IsNoText}
use Rattle.command_eval.specs.EvalAnswer.{Entry, Evaluates, Misspelt, Answered, OrNoMemory, Reports}
use Rattle.command_eval.proofs.SoundTypes.{typed_sound}

-- a root of a name has the name
root_by : (name : List ℕ) (ds : List Instance) (d : Instance) → root_named name ds ≡ Some d → (d.root ≡ true) × (d.name ≡ name)
root_by name [] d e = absurd (none-some d e)
root_by name (x ∷ ds) d e = by x.root (bytes_eq x.name name) refl refl (root_by name ds d) e
  where
    by : (b c : Bool) → x.root ≡ b → bytes_eq x.name name ≡ c → (root_named name ds ≡ Some d → (d.root ≡ true) × (d.name ≡ name)) → (if b then (if c then Some x else root_named name ds) else root_named name ds) ≡ Some d → (d.root ≡ true) × (d.name ≡ name)
    by true true r n later e = let same = same_Some x d e in (subst (λ (y : Instance). y.root ≡ true) same r, subst (λ (y : Instance). y.name ≡ name) same ((bytes_eq-Decides x.name name).0 n))
    by true false r n later e = later e
    by false c r n later e = later e

matched_of : (source : List ℕ) (p : Program) → IsAccepted source p → IsMatched source p
matched_of source p h = h.tailed.credited.owned.matched

pub typed_of : (source : List ℕ) (p : Program) → IsAccepted source p → IsTyped source p
typed_of source p h = (matched_of source p h).typed

module _ (source name : List ℕ) (p : Program) (i : ℕ) (h : IsRootedIn source name p i) where
  abbrev pub types : IsTyped source p
  types = typed_of source p h.accepted

  abbrev pub entry : Entry source name
  entry = record { core = types.flat.core; parsed = types.flat.declared.parsed; program = p; accepted = h.accepted; root = h.root; named = h.named }

  pub table_sound : IsSoundTable p.types
  table_sound = typed_sound source p types

  pub parameters_known : AreTypes p.types (parameter_types h.root)
  parameters_known = let formed = typed_formed source p types in (formed.instances h.root (there_among p.instances i h.root h.there)).parameters

  pub answers_soundly : (input : List ℕ) (vs : Values) (calls frames : ℕ) → SpellsValues p.types (parameter_types h.root) input vs → IsSoundAnswer p.types h.root.results (flat_meaning p i vs calls frames).answer
  answers_soundly input vs calls frames spelt = matched_sound source p i h.root vs calls frames (matched_of source p h.accepted) h.there (input_typed p.types (parameter_types h.root) (characters input) vs spelt)

  means : (vs : Values) (calls frames : ℕ) → flat_meaning p i vs calls frames ≡ meaning types.flat.core name NoClosed vs calls frames
  means vs calls frames =
      let root = root_by name p.instances h.root h.named in
      root_meant source p types types.flat.core types.flat.declared.parsed i h.root vs calls frames h.there root.0
      ∙ ap (λ n. meaning types.flat.core n NoClosed vs calls frames) root.1

  module _ (input : List ℕ) (calls frames : ℕ) where
    answered : (vs : Values) (e : Result (List ℕ) Failure) → SpellsValues p.types (parameter_types h.root) input vs → Reports p.types h.root.results calls frames (flat_meaning p i vs calls frames).answer e → Evaluates source name input calls frames e
    answered vs e spelt reports = Answered entry vs e spelt (subst (λ (x : Run). Reports p.types h.root.results calls frames x.answer e) (means vs calls frames) reports)

    pub evaluates : (vs : Values) (o : Result (Vec ℕ Global) Failure) → SpellsValues p.types (parameter_types h.root) input vs → OrNoMemory (Reports p.types h.root.results calls frames (flat_meaning p i vs calls frames).answer) o → OrNoMemory (Evaluates source name input calls frames) o
    evaluates vs (Ok text) spelt reports = answered vs (Ok text.items) spelt reports
    evaluates vs (Err F.NoMemory) spelt reports = tt
    evaluates vs (Err failure) spelt reports = answered vs (Err failure) spelt reports

    pub no_text : (f : Failure) → IsNoText p.types (parameter_types h.root) input f → OrNoMemory (Evaluates source name input calls frames) (Err f)
    no_text (F.BadInput at) place = Misspelt entry at place
    no_text F.NoMemory place = tt
    no_text failure place = absurd place

-- ---- of the instance as it lies in memory

root_is : (p : a_program) (i : ℕ) (d : an_instance) (root : Instance) → slice_get p.instances.items i ≡ Some d → slice_get (V.program p).instances i ≡ Some root → V.instance_of d ≡ root
root_is p i d root e f = same_Some (V.instance_of d) root (sym (slice_get-map V.instance_of p.instances.items i d e) ∙ f)

module _ (source name input : List ℕ) (calls frames : ℕ) (p : a_program) (i : ℕ) (d : an_instance) (params : List Param) (h : IsRootedIn source name (V.program p) i) (there : slice_get p.instances.items i ≡ Some d) (same : params ≡ d.params) where
  types_are : types_of params ≡ parameter_types h.root
  types_are = ap types_of same ∙ ap parameter_types (root_is p i d h.root there h.there)

  pub evaluated_reported : (results : List ℕ) (rows : Rows) (o : Result (Vec ℕ Global) Failure) → results ≡ d.results → (IsSoundTable p.types → AreTypes p.types (types_of params) → (vs : Values) × SpellsValues p.types (types_of params) input vs × AreRows rows vs) → ((vs : Values) → AreRows rows vs → IsSoundAnswer p.types results (flat_meaning (V.program p) i vs calls frames).answer → OrNoMemory (Reports p.types results calls frames (flat_meaning (V.program p) i vs calls frames).answer) o) → OrNoMemory (Evaluates source name input calls frames) o
  evaluated_reported results rows o is given reports =
      let rs : results ≡ h.root.results = is ∙ ap (λ (x : Instance). x.results) (root_is p i d h.root there h.there) in
      let known : AreTypes p.types (types_of params) = subst (AreTypes p.types) (sym types_are) (parameters_known source name (V.program p) i h) in
      let r = given (table_sound source name (V.program p) i h) known in
      let spelt : SpellsValues p.types (parameter_types h.root) input r.0 = subst (λ ks. SpellsValues p.types ks input r.0) types_are r.1 in
      let sound : IsSoundAnswer p.types results (flat_meaning (V.program p) i r.0 calls frames).answer = subst (λ ks. IsSoundAnswer p.types ks (flat_meaning (V.program p) i r.0 calls frames).answer) (sym rs) (answers_soundly source name (V.program p) i h input r.0 calls frames spelt) in
      evaluates source name (V.program p) i h input calls frames r.0 o spelt
      (subst (λ ks. OrNoMemory (Reports p.types ks calls frames (flat_meaning (V.program p) i r.0 calls frames).answer) o) rs (reports r.0 r.2 sound))

  pub no_text_reported : (f : Failure) → (IsSoundTable p.types → AreTypes p.types (types_of params) → IsNoText p.types (types_of params) input f) → OrNoMemory (Evaluates source name input calls frames) (Err f)
  no_text_reported f given =
      let known : AreTypes p.types (types_of params) = subst (AreTypes p.types) (sym types_are) (parameters_known source name (V.program p) i h) in
      no_text source name (V.program p) i h input calls frames f (subst (λ ks. IsNoText p.types ks input f) types_are (given (table_sound source name (V.program p) i h) known))
