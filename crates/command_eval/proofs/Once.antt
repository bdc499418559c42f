-- A source has one entry of a name, and an evaluation ends with one thing at most.
use Rattle.std.proofs.Common.{◌≡◌, ◌∙◌, ℕ, Bool, true, false, List, [], ◌∷◌, sym, ap, subst, inl, inr, if◌then◌else◌, Some}
use Rattle.std.specs.Prelude.{Result, Err, bytes_eq}
use Rattle.std.proofs.lemmas.Option.{none-some, same_Some}
use Rattle.fip_language.specs.Core.{Core}
use Rattle.fip_language.specs.Every.{Among}
use Rattle.fip_language.specs.Meaning.{Answer, Gives, Trap, Out, Deep, Stuck, meaning}
use Rattle.fip_language.specs.Prefix.{IsPlace, Accepted}
use Rattle.fip_language.specs.SoundTable.{AreTypes, IsSoundTable}
use Rattle.fip_language.specs.Statics.{NoClosed}
use Rattle.fip_language.specs.Table.{Table}
use Rattle.fip_language.specs.Values.{Values}
use Rattle.fip_language.specs.ValueText.{SpellsValues}
use Rattle.fip_language.proofs.OnePlace.{IsPlace-unique, IsPlace-not_spelt}
use Rattle.command_source.specs.fip_trees.Tree.{Instance, Program}
use Rattle.command_outcome.specs.declared.failure.Failure.{Failure}
use Rattle.command_outcome.specs.declared.failure.Failure.TheVariants as F
use Rattle.value_text.proofs.Exact.{accepts_text}
use Rattle.value_text.proofs.Tables.{is_table, types_alive}
use Rattle.command_source.specs.type_safety.Soundness.{parameter_types}
use Rattle.command_source.specs.source_report.Report.{IsParsed}
use Rattle.command_source.proofs.source_report.Once.{parsed_once, accepted_once}
use Rattle.command_source.proofs.source_report.Ready.{typed_formed}
use Rattle.command_source.specs.Roots.{root_named}
use Rattle.command_source.specs.Wanted.{Root, IsRoot, IsReady}
use Rattle.command_eval.specs.EvalAnswer.{Entry, Evaluates, Misspelt, Answered, Spells, Reports}
use Rattle.command_eval.proofs.Meant.{typed_of}
use Rattle.command_eval.proofs.SoundTypes.{typed_sound}

-- a root is an instance
root_among : (name : List ℕ) (ds : List Instance) (d : Instance) → root_named name ds ≡ Some d → Among d ds
root_among name [] d e = absurd (none-some d e)
root_among name (x ∷ ds) d e = by x.root (bytes_eq x.name name) (root_among name ds d) e
  where
    by : (b c : Bool) → (root_named name ds ≡ Some d → Among d ds) → (if b then (if c then Some x else root_named name ds) else root_named name ds) ≡ Some d → Among d (x ∷ ds)
    by true true later e = inl (sym (same_Some x d e))
    by true false later e = inr (later e)
    by false c later e = inr (later e)

-- a text has one meaning
pub values_once : (tb : Table) (ks bytes : List ℕ) (vs ws : Values) → IsSoundTable tb → AreTypes tb ks → SpellsValues tb ks bytes vs → SpellsValues tb ks bytes ws → vs ≡ ws
values_once tb ks bytes vs ws sound known h k =
    let a = accepts_text tb (is_table tb sound) ks (types_alive tb sound ks known) bytes vs h in
    let b = accepts_text tb (is_table tb sound) ks (types_alive tb sound ks known) bytes ws k in
    let same : Accepted vs ≡ Accepted ws = sym a ∙ b in
    cc

reports_once : (tb : Table) (results : List ℕ) (calls frames : ℕ) (a : Answer) (d e : Result (List ℕ) Failure) → Reports tb results calls frames a d → Reports tb results calls frames a e → d ≡ e
reports_once tb results calls frames (Gives vs left) d e h k = h ∙ sym k
reports_once tb results calls frames (Trap kind line col) d e h k = h ∙ sym k
reports_once tb results calls frames Out d e h k = h ∙ sym k
reports_once tb results calls frames Deep d e h k = h ∙ sym k
reports_once tb results calls frames Stuck d e h k = absurd h

module _ (source name : List ℕ) where
  module _ (x y : Entry source name) where
    pub one_program : y.program ≡ x.program
    one_program = accepted_once source y.program x.program y.accepted x.accepted

    pub one_root : y.root ≡ x.root
    one_root = same_Some y.root x.root (sym (subst (λ (p : Program). root_named name p.instances ≡ Some y.root) one_program y.named) ∙ x.named)

    pub one_core : y.core ≡ x.core
    one_core = parsed_once source y.core x.core y.parsed x.parsed

    -- what is said of the types of one is said of those of the other
    pub typed_alike : (P : Table → List ℕ → Type 0) → P y.program.types (parameter_types y.root) → P x.program.types (parameter_types x.root)
    typed_alike P h =
        subst (λ (d : Instance). P x.program.types (parameter_types d)) one_root
        (subst (λ (p : Program). P p.types (parameter_types y.root)) one_program h)

    known : AreTypes x.program.types (parameter_types x.root)
    known = let formed = typed_formed source x.program (typed_of source x.program x.accepted) in (formed.instances x.root (root_among name x.program.instances x.root x.named)).parameters

    reported_alike : (calls frames : ℕ) (vs : Values) (e : Result (List ℕ) Failure) → Reports y.program.types y.root.results calls frames (meaning y.core name NoClosed vs calls frames).answer e → Reports x.program.types x.root.results calls frames (meaning x.core name NoClosed vs calls frames).answer e
    reported_alike calls frames vs e h =
        subst (λ (c : Core). Reports x.program.types x.root.results calls frames (meaning c name NoClosed vs calls frames).answer e) one_core
        (subst (λ (d : Instance). Reports x.program.types d.results calls frames (meaning y.core name NoClosed vs calls frames).answer e) one_root
        (subst (λ (p : Program). Reports p.types y.root.results calls frames (meaning y.core name NoClosed vs calls frames).answer e) one_program h))

    pub one_text : (input : List ℕ) (vs ws : Values) → Spells x input vs → Spells y input ws → ws ≡ vs
    one_text input vs ws h k = values_once x.program.types (parameter_types x.root) input ws vs (typed_sound source x.program (typed_of source x.program x.accepted)) known (typed_alike (λ tb ks. SpellsValues tb ks input ws) k) h

  pub evaluated_once : (input : List ℕ) (calls frames : ℕ) (d e : Result (List ℕ) Failure) → Evaluates source name input calls frames d → Evaluates source name input calls frames e → d ≡ e
  evaluated_once input calls frames d e (Misspelt x at h) (Misspelt y to k) =
      ap (λ n. Err (F.BadInput n)) (IsPlace-unique (Spells x) input at to h (typed_alike x y (λ tb ks. IsPlace (SpellsValues tb ks) input to) k))
  evaluated_once input calls frames d e (Misspelt x at h) (Answered y ws f spelt reports) =
      absurd (IsPlace-not_spelt (Spells x) input at ws h (typed_alike x y (λ tb ks. SpellsValues tb ks input ws) spelt))
  evaluated_once input calls frames d e (Answered x vs f spelt reports) (Misspelt y at k) =
      absurd (IsPlace-not_spelt (Spells x) input at vs (typed_alike x y (λ tb ks. IsPlace (SpellsValues tb ks) input at) k) spelt)
  evaluated_once input calls frames d e (Answered x vs f spelt reports) (Answered y ws g other says) =
      let moved = reported_alike x y calls frames ws e says in
      let same = one_text x y input vs ws spelt other in
      reports_once x.program.types x.root.results calls frames (meaning x.core name NoClosed vs calls frames).answer d e reports
      (subst (λ us. Reports x.program.types x.root.results calls frames (meaning x.core name NoClosed us calls frames).answer e) same moved)

  entry_ready : Entry source name → IsReady source (Root name)
  entry_ready x = record { program = x.program; accepted = x.accepted; has = subst IsRoot (sym x.named) tt }

  -- what is evaluated breaks no rule, and has the root
  pub evaluated_ready : (input : List ℕ) (calls frames : ℕ) (e : Result (List ℕ) Failure) → Evaluates source name input calls frames e → IsReady source (Root name)
  evaluated_ready input calls frames e (Misspelt x at h) = entry_ready x
  evaluated_ready input calls frames e (Answered x vs f spelt reports) = entry_ready x
