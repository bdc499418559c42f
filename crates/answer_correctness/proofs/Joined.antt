-- `run` on a file of a code of a source ends as `exec` on the source; and on an upgraded file as on the one before it.
-- The idea: the code has a function of a name just where the source has a root of it that isn't plain.
use Rattle.std.proofs.Common.{◌≡◌, ◌∙◌, ◌<◌, ℕ, true, List, [], length, map, Option, Some, None, slice_get, if◌then◌else◌, inl, inr, refl, sym, ap, subst, arith}
use Rattle.std.specs.Prelude.{Err}
use Rattle.std.proofs.lemmas.Option.{same_Some}
use Rattle.command_answers.specs.fip_outside.Files.{File, file_of}
use Rattle.command_answers.specs.command_library.fip_language.declared.FunKind.TheVariants.{Fun}
use Rattle.command_answers.specs.command_library.fip_language.declared.rule.Rule.TheVariants.{E70}
use Rattle.command_answers.specs.command_library.fip_base.declared.refusal.Refusal.{Refusal}
use Rattle.worked_examples.specs.fip_trees.Tree.{Instance, Program}
use Rattle.worked_examples.specs.cell_lower.Shape.{Header, header_of, headers}
use Rattle.worked_examples.specs.cell_code.Plain.{PlainFunction, PlainCode, function_at}
use Rattle.worked_examples.specs.code_file.declared.tags.Version.TheVariants.{Second}
use Rattle.worked_examples.specs.source_report.Report.{IsAccepted}
use Rattle.command_answers.proofs.command_tasks.source_report.Once.{accepted_not, accepted_once}
use Rattle.command_answers.specs.command_library.command_words.Words.{Request, Exec, Run}
use Rattle.command_answers.specs.command_library.command_outcome.declared.failure.Failure.TheVariants as O
use Rattle.command_answers.proofs.command_library.command_run.machine_correctness.Entries.{plain_header, IsNamed, named}
use Rattle.command_answers.proofs.command_library.command_run.compiler_correctness.Headers.{typed_named}
use Rattle.command_answers.proofs.command_library.command_run.compiler_correctness.SoundTypes.{typed_sound}
use Rattle.command_answers.specs.command_library.command_source.Codes.{IsSoundFile, HasFunction, IsUpgraded, names_one}
use Rattle.command_answers.specs.command_library.command_source.Roots.{root_named}
use Rattle.command_answers.specs.command_library.command_source.Wanted.{Compiled, IsCompiled, IsReady, MissesCode, Refuses, of_entry}
use Rattle.command_answers.proofs.command_library.command_eval.Meant.{typed_of}
use Rattle.command_answers.proofs.command_library.command_run.CodeOnce.{long}
use Rattle.command_answers.proofs.command_library.command_run.Entry.{IsRootAt, root_at, header_at}
use Rattle.compile_correctness.specs.Ends as R
use Rattle.compile_correctness.specs.Ends.{RunEnds, AreAlike}
use Rattle.compile_correctness.proofs.Alike.{ran_function, none_or_one}
use Rattle.compile_correctness.proofs.Files.{code_same, refused_not_sound}
use Rattle.compile_correctness.proofs.Rooted.{ruled_at, root_found, names_there, names_found, function_with, among_at}
use Rattle.compile_correctness.proofs.Upgraded.{upgraded_once}
use Rattle.command_answers.specs.Answer.{OnFound, ComesTo}
use Rattle.command_answers.specs.CodeOf.{IsSourceCode, IsSourceFile}
use Rattle.command_answers.specs.Ends as A
use Rattle.command_answers.specs.Ends.{OnSource, OnCode, RunsFile}
use Rattle.command_answers.specs.Exec.{End}
use Rattle.answer_correctness.specs.Joined.{at_file}
use Rattle.answer_correctness.proofs.MeantRuns.{runs_as_its_source}

-- ---- the functions of a code of a source

module _ (source name : List ℕ) (code : PlainCode) (of' : IsSourceCode source code) where
  abbrev p : Program
  p = of'.program

  pub headed : map plain_header code.functions ≡ headers of'.is.members p.instances
  headed = of'.is.functions

  -- a root that isn't plain has a function of its name
  root_has_function : (d : Instance) → root_named name p.instances ≡ Some d → (d.kind ≡ Fun → ⊥) → names_one name code.functions ≡ true
  root_has_function d e ruled =
      let r = root_at name p.instances d e in
      let x = header_at of'.is.members 0 p.instances r.place d r.there ruled in
      let y = function_with code.functions x.0 (header_of x.1 d) (ap (λ hs. slice_get hs x.0) headed ∙ x.2) in
      let called : (y.0).name ≡ name = ap (λ (q : Header). q.name) y.2 ∙ (ap (λ b. if b then d.name else []) r.root ∙ r.named) in
      let some = (typed_named source p (typed_of source p of'.accepted) d (among_at p.instances r.place d r.there)).0.1 in
      let none : name ≡ [] → ⊥ = λ z. let zero_long : length d.name ≡ 0 = ap length (r.named ∙ z) in absurd (omega (arith, some, zero_long)) in
      names_there name code.functions x.0 y.0 none y.1 called

  -- a function of the name is that of a root that isn't plain
  module _ (n : ℕ) (f : PlainFunction) (there : function_at code n ≡ Some f) (called : f.name ≡ name) (some : name ≡ [] → ⊥) where
    own : IsNamed p code n f
    own = named p of'.is.members code n f of'.is.types headed there (subst (λ x. 0 < length x) (sym called) (long name some))

    instance_same : (d : Instance) → IsRootAt name p.instances d → own.instance ≡ d
    instance_same d r =
        let place : own.place ≡ r.place = (typed_sound source p (typed_of source p of'.accepted)).roots own.place r.place own.instance d own.there r.there own.root r.root (sym own.name ∙ called ∙ sym r.named) in
        same_Some own.instance d (sym own.there ∙ ap (slice_get p.instances) place ∙ r.there)

    not_missed : (r : Refusal) → MissesCode (root_named name p.instances) name r → ⊥
    not_missed r misses = by (root_named name p.instances) refl misses
      where
        by : (o : Option Instance) → root_named name p.instances ≡ o → MissesCode o name r → ⊥
        by None e m = root_found name p.instances own.place own.instance own.there own.root (sym own.name ∙ called) e
        by (Some d) e m = ruled_at p.instances own.place n own.instance own.of'.function own.there (ap (λ (z : Instance). z.kind) (instance_same d (root_at name p.instances d e)) ∙ m.0)

-- ---- its file

file_sound : (source file : List ℕ) (h : IsSourceFile source file) → IsSoundFile file h.code
file_sound source file h = record { short = h.short; spelt = (Second, h.spelt); sound = h.of'.is.sound }

module _ (source file name : List ℕ) (h : IsSourceFile source file) where
  -- where a source has the entry, its file has it
  entry_there : IsReady source (Compiled name) → HasFunction file name
  entry_there ready =
      let same = accepted_once source ready.program (h.of').program ready.accepted (h.of').accepted in
      (h.code, file_sound source file h, by (root_named name (h.of').program.instances) refl (subst (λ (q : Program). IsCompiled (root_named name q.instances)) same ready.has))
    where
      by : (o : Option Instance) → root_named name (h.of').program.instances ≡ o → IsCompiled o → names_one name h.code.functions ≡ true
      by None e k = absurd k
      by (Some d) e k = root_has_function source name h.code h.of' d e k

  -- where it hasn't, its file hasn't
  entry_missing : (q : Program) (r : Refusal) → IsAccepted source q → MissesCode (root_named name q.instances) name r → HasFunction file name → ⊥
  entry_missing q r accepted misses (code, sound, one) =
      let here : code ≡ h.code = code_same file code h.code sound (file_sound source file h) in
      let x = names_found name h.code.functions (subst (λ c. names_one name c.functions ≡ true) here one) in
      let same = accepted_once source q (h.of').program accepted (h.of').accepted in
      not_missed source name h.code h.of' (x.0).number (x.0).function (x.0).there (x.0).called x.1 r (subst (λ (z : Program). MissesCode (root_named name z.instances) name r) same misses)

  -- what a source is refused for that has such a file
  refused_entry : (r : Refusal) → Refuses source (Compiled name) r → (q : Program) × IsAccepted source q × MissesCode (root_named name q.instances) name r
  refused_entry r (inl k) = absurd (accepted_not source (h.of').program k.0 (h.of').accepted k.1)
  refused_entry r (inr k) = k

-- E70 of the entry, or E71 in its place
entry_alike : (name : List ℕ) (o : Option Instance) (r : Refusal) → MissesCode o name r → AreAlike name (Err (O.Refused r)) (Err (O.Refused (of_entry E70 name)))
entry_alike name None r h = inl (ap (λ r. Err (O.Refused r)) h)
entry_alike name (Some d) r h = inr (ap (λ r. Err (O.Refused r)) h.1, refl)

-- ---- both ends

ends_alike : (source file input : List ℕ) (r : Request) (d e : End) → IsSourceFile source file → OnSource source input (Exec r) (Compiled r.entry) d → RunEnds file r.entry input r.room r.gauge e → AreAlike r.entry d e
ends_alike source file input r d e h x (R.RefusedCode f k) = absurd (refused_not_sound file f h.code k (file_sound source file h))
ends_alike source file input r d e h (A.Refused q x) (R.NoFunction code sound none) =
    let m = refused_entry source file r.entry h q x in entry_alike r.entry (root_named r.entry (m.0).instances) q m.2
ends_alike source file input r d e h (A.Refused q x) (R.LongForRun has more) =
    let m = refused_entry source file r.entry h q x in absurd (entry_missing source file r.entry h m.0 q m.1 m.2 has)
ends_alike source file input r d e h (A.Refused q x) (R.Ran f le runs) =
    let m = refused_entry source file r.entry h q x in absurd (entry_missing source file r.entry h m.0 q m.1 m.2 (ran_function file r.entry input r.room r.gauge f runs))
ends_alike source file input r d e h (A.LongInput ready reads more) (R.NoFunction code sound none) = absurd (none_or_one file r.entry code sound none (entry_there source file r.entry h ready))
ends_alike source file input r d e h (A.LongInput ready reads more) (R.LongForRun has also) = inl refl
ends_alike source file input r d e h (A.LongInput ready reads more) (R.Ran f le runs) = absurd (omega (arith, more, le))
ends_alike source file input r d e h (A.Ready g ready taken x) (R.NoFunction code sound none) = absurd (none_or_one file r.entry code sound none (entry_there source file r.entry h ready))
ends_alike source file input r d e h (A.Ready g ready taken x) (R.LongForRun has more) = absurd (let few = taken tt in omega (arith, few, more))
ends_alike source file input r d e h (A.Ready g ready taken x) (R.Ran f le runs) =
    inl (runs_as_its_source source file r.entry input r.room r.gauge (h.of').program h.code g f (h.of').accepted (h.of').is (file_sound source file h) x runs)

-- ---- of the relation

run_end : (bytes input : List ℕ) (r : Request) (e : End) → OnCode bytes input (Run r) e → RunEnds bytes r.entry input r.room r.gauge e
run_end bytes input r e (A.CodeRefused f h) = R.RefusedCode f h
run_end bytes input r e (A.CodeSound g h) = by g h
  where
    by : (g : End) → RunsFile bytes input r g → RunEnds bytes r.entry input r.room r.gauge g
    by g (A.NoFunction code sound none) = R.NoFunction code sound none
    by g (A.LongRun has more) = R.LongForRun has more
    by g (A.Runs o le runs) = R.Ran o le runs

on_code : (files : List File) (bytes input : List ℕ) (r : Request) (e : End) → file_of r.file files ≡ Some bytes → ComesTo files input (Run r) e → RunEnds bytes r.entry input r.room r.gauge e
on_code files bytes input r e there h = run_end bytes input r e (subst (λ o. OnFound files input (Run r) o e) there h)

pub compiled_runs : (files later : List File) (source stored name input : List ℕ) (r : Request) (d e : End) → IsSourceFile source stored → file_of r.file files ≡ Some source → file_of name later ≡ Some stored → ComesTo files input (Exec r) d → ComesTo later input (Run (at_file name r)) e → AreAlike r.entry d e
compiled_runs files later source stored name input r d e h there also x y =
    ends_alike source stored input r d e h (subst (λ o. OnFound files input (Exec r) o d) there x)
    (on_code later stored input (at_file name r) e also y)

pub upgraded_runs : (files later : List File) (bytes stored name input : List ℕ) (r : Request) (d e : End) → IsUpgraded bytes stored → file_of r.file files ≡ Some bytes → file_of name later ≡ Some stored → ComesTo files input (Run r) d → ComesTo later input (Run (at_file name r)) e → d ≡ e
upgraded_runs files later bytes stored name input r d e h there also x y =
    upgraded_once bytes stored r.entry input r.room r.gauge d e h (on_code files bytes input r d there x) (on_code later stored input (at_file name r) e also y)
