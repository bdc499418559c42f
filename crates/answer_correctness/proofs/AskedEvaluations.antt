-- What `eval`, `exec` and `gen` end in, by what an evaluation gives.
-- The idea: a command's end is one of its source once the file is there; a source that has the entry isn't refused; and
-- what is then done ends with one thing.
use Rattle.std.proofs.Common.{◌≡◌, ◌∙◌, ◌≤◌, ℕ, Bool, false, List, Option, Some, length, refl, sym, subst, arith}
use Rattle.std.specs.Prelude.{Ok, Err}
use Rattle.command_answers.specs.fip_outside.Files.{File}
use Rattle.command_answers.specs.command_library.fip_language.declared.FunKind.TheVariants.{Fun}
use Rattle.command_answers.specs.command_library.fip_language.declared.TrapKind.{TrapKind}
use Rattle.command_answers.specs.command_library.fip_language.declared.limits.TheConstants.{MOST_FILE_BYTES}
use Rattle.command_answers.specs.command_library.fip_language.Meaning.{Answer, Gives, Trap}
use Rattle.command_answers.specs.command_library.fip_language.PrintedText.{printed_lines}
use Rattle.command_answers.specs.command_library.fip_language.Values.{Values}
use Rattle.worked_examples.specs.fip_trees.Tree.{Instance}
use Rattle.command_answers.specs.command_library.command_words.Words.{Command, Request, Eval, Exec, Gen}
use Rattle.command_answers.specs.command_library.command_outcome.declared.failure.Failure.TheVariants as F
use Rattle.command_answers.specs.command_library.command_source.Wanted.{Wanted, Root, Compiled, IsRoot, IsCompiled, IsReady}
use Rattle.command_answers.proofs.command_library.command_source.Once.{refused_not_ready}
use Rattle.command_answers.specs.command_library.command_eval.EvalAnswer.{Evaluates, Answered, Reports}
use Rattle.command_answers.proofs.command_library.command_eval.Once.{evaluated_once}
use Rattle.command_answers.specs.command_library.MadeTree.{gen_input}
use Rattle.command_answers.proofs.command_library.Short.{input_short}
use Rattle.command_answers.specs.Answer.{ComesTo, OnFound}
use Rattle.command_answers.specs.Asked.{Asked, answer_of, GivesWith, TrapsWith, Prints, ReportsTrap, Suffices}
use Rattle.command_answers.specs.Drawn.{drawn_text}
use Rattle.command_answers.specs.Ends as A
use Rattle.command_answers.specs.Ends.{Does, OnSource}
use Rattle.command_answers.specs.Exec.{End, Execs}
use Rattle.command_answers.specs.Generating as G
use Rattle.command_answers.specs.Generating.{Generates}
use Rattle.command_answers.proofs.AskedEntry.{entry, means}
use Rattle.command_answers.proofs.AskedRuns.{exec_prints, exec_traps}
use Rattle.answer_correctness.specs.Evaluations.{IsEvaluated, IsExecuted}

-- ---- on the source

-- what is done once a source that has what is required is there, and the input isn't too long
done : (source input : List ℕ) (c : Command) (w : Wanted) (e : End) → IsReady source w → length input ≤ MOST_FILE_BYTES → OnSource source input c w e → Does source input c e
done source input c w _ ready short (A.Refused r h) = absurd (refused_not_ready source w r h ready)
done source input c w _ ready short (A.LongInput again reads more) = absurd (omega (arith, more, short))
done source input c w e ready short (A.Ready _ again taken does) = does

has_root : (o : Option Instance) (d : Instance) → o ≡ Some d → IsRoot o
has_root o d e = subst IsRoot (sym e) tt

has_compiled : (o : Option Instance) (d : Instance) → o ≡ Some d → (d.kind ≡ Fun → ⊥) → IsCompiled o
has_compiled o d e h = subst IsCompiled (sym e) h

rooted : (a : Asked) → IsReady a.source (Root a.name)
rooted a = record { program = a.program; accepted = (a.rooted).accepted; has = has_root _ (a.rooted).root (a.rooted).named }

compiled : (a : Asked) → ((a.rooted).root.kind ≡ Fun → ⊥) → IsReady a.source (Compiled a.name)
compiled a h = record { program = a.program; accepted = (a.rooted).accepted; has = has_compiled _ (a.rooted).root (a.rooted).named h }

-- ---- eval

evaluates : (a : Asked) (files : List File) (file : List ℕ) (calls frames : ℕ) (e : End) → IsEvaluated a files file → ComesTo files a.input (Eval file a.name calls frames) e → Evaluates a.source a.name a.input calls frames e
evaluates a files file calls frames e is h =
    done a.source a.input (Eval file a.name calls frames) (Root a.name) e (rooted a) is.short
    (subst (λ f. OnFound files a.input (Eval file a.name calls frames) f e) is.there h)

reported : (a : Asked) (calls frames : ℕ) (x : Answer) (e f : End) → answer_of a calls frames ≡ x → Reports a.program.types (a.rooted).root.results calls frames x f → Evaluates a.source a.name a.input calls frames e → e ≡ f
reported a calls frames x e f is reports h =
    let meant = sym (means a calls frames) ∙ is in
    evaluated_once a.source a.name a.input calls frames e f h
    (Answered (entry a) a.arguments f a.spelt (subst (λ (y : Answer). Reports a.program.types (a.rooted).root.results calls frames y f) (sym meant) reports))

pub eval_prints : (a : Asked) (files : List File) (file : List ℕ) (calls least frames : ℕ) (vs : Values) (e : End) → IsEvaluated a files file → GivesWith a calls least vs → least ≤ frames → ComesTo files a.input (Eval file a.name calls frames) e → Prints a vs e
eval_prints a files file calls least frames vs e is gives enough h =
    let g = gives frames enough in
    reported a calls frames (Gives vs g.left) e (Ok (printed_lines a.program.types (a.rooted).root.results vs)) g.is refl (evaluates a files file calls frames e is h)

pub eval_traps : (a : Asked) (files : List File) (file : List ℕ) (calls least frames : ℕ) (kind : TrapKind) (line col : ℕ) (e : End) → IsEvaluated a files file → TrapsWith a calls least kind line col → least ≤ frames → ComesTo files a.input (Eval file a.name calls frames) e → ReportsTrap kind line col e
eval_traps a files file calls least frames kind line col e is traps enough h =
    reported a calls frames (Trap kind line col) e (Err (F.Trap kind line col)) (traps frames enough) refl (evaluates a files file calls frames e is h)

-- ---- exec

executes : (a : Asked) (files : List File) (r : Request) (e : End) → IsExecuted a files r → ComesTo files a.input (Exec r) e → Execs a.source a.name a.input r.room false e
executes a files r e is h =
    let ready : IsReady a.source (Compiled r.entry) = subst (λ n. IsReady a.source (Compiled n)) (sym is.named) (compiled a is.compiled) in
    let does : Execs a.source r.entry a.input r.room r.gauge e = done a.source a.input (Exec r) (Compiled r.entry) e ready is.short (subst (λ f. OnFound files a.input (Exec r) f e) is.there h) in
    subst (λ n. Execs a.source n a.input r.room false e) is.named (subst (λ (g : Bool). Execs a.source r.entry a.input r.room g e) is.ungauged does)

pub comes_to_values : (a : Asked) (files : List File) (r : Request) (least : ℕ) (vs : Values) (e : End) → IsExecuted a files r → GivesWith a r.room.calls least vs → Suffices a least r.room → ComesTo files a.input (Exec r) e → Prints a vs e
comes_to_values a files r least vs e is gives enough h = exec_prints a r.room least vs e gives enough (executes a files r e is h)

pub comes_to_a_trap : (a : Asked) (files : List File) (r : Request) (least : ℕ) (kind : TrapKind) (line col : ℕ) (e : End) → IsExecuted a files r → TrapsWith a r.room.calls least kind line col → Suffices a least r.room → ComesTo files a.input (Exec r) e → ReportsTrap kind line col e
comes_to_a_trap a files r least kind line col e is traps enough h = exec_traps a r.room least kind line col e traps enough (executes a files r e is h)

-- ---- gen

reported_of_keys : (seed count : ℕ) (e : End) → length (gen_input seed count) ≤ MOST_FILE_BYTES → Generates seed count e → e ≡ Ok (drawn_text seed count)
reported_of_keys seed count _ short (G.LongInput more) = absurd (omega (arith, more, short))
reported_of_keys seed count _ short (G.Drawn few) = refl

pub gen_reports : (files : List File) (input : List ℕ) (seed count : ℕ) (e : End) → count ≤ 100000 → ComesTo files input (Gen seed count) e → e ≡ Ok (drawn_text seed count)
gen_reports files input seed count e few h = reported_of_keys seed count e (input_short seed count few) h
