-- A code that is made of a source is a code of the source: so what is left, stored, run and traced of it is what the
-- answers say.
use Rattle.std.proofs.Common.{◌≡◌, ◌∙◌, ◌<◌, ℕ, List, Some, length, sym, subst}
use Rattle.std.proofs.lemmas.Option.{same_Some}
use Rattle.command_library.specs.fip_language.declared.limits.TheConstants.{MOST_FILE_BYTES}
use Rattle.command_library.specs.command_words.Words.{Room}
use Rattle.command_library.specs.command_source.Codes.{IsUnspelt}
use Rattle.command_library.specs.command_source.Entries.{Chosen}
use Rattle.command_library.specs.command_source.ProgramCode.{IsCodeOfSource, IsEntryOf, IsCompiledFile, IsUncompiled}
use Rattle.command_library.specs.command_source.Wanted.{Lawful, IsReady}
use Rattle.command_library.specs.command_tasks.code_file.CodeText.{CodeText}
use Rattle.command_library.specs.code_rules.cell_code.Plain.{PlainCode, plain}
use Rattle.command_library.specs.command_tasks.code_file.declared.tags.Version.TheVariants.{Second}
use Rattle.command_library.specs.command_tasks.run_loading.TraceText.{Trace}
use Rattle.command_trace.specs.TraceAnswer.{IsTraceOf}
use Rattle.command_answers.specs.CodeOf.{IsSourceCode, IsSourceEntry, IsSourceFile, HasLongCode, IsSourceTrace}
use Rattle.command_answers.proofs.CodeOf.{code_of}

pub source_code : (source : List ℕ) (code : PlainCode) → IsCodeOfSource source code → IsSourceCode source code
source_code source code h = record { program = h.program; accepted = h.accepted; is = code_of source code h }

pub source_entry : (source name : List ℕ) (r : Chosen) → IsEntryOf source name r → IsSourceEntry source name r
source_entry source name r h = record { code = source_code source (plain r.checked.code) h.code; named = h.named }

pub source_file : (source file : List ℕ) → IsCompiledFile source file → IsSourceFile source file
source_file source file h = record { code = h.code; of' = source_code source h.code h.of'; spelt = h.spelt; short = h.short }

-- a code has one file
one_file : (code : PlainCode) (a b : List ℕ) → CodeText a Second code → CodeText b Second code → a ≡ b
one_file code a b h k = same_Some a b (sym h ∙ k)

pub long_code : (source : List ℕ) → IsUncompiled source → HasLongCode source
long_code source (code, of', file, spelt, more) =
    (code, source_code source code of', λ other text. subst (λ (xs : List ℕ). MOST_FILE_BYTES < length xs) (one_file code file other spelt text) more)

pub source_trace : (source name input : List ℕ) (room : Room) (t : Trace) → IsTraceOf source name input room t → IsSourceTrace source name input room t
source_trace source name input room t h =
    let c = h.code in
    record { code = c.code; of' = source_code source c.code c.of'; number = c.number; function = c.function; there = c.there; named = c.named; some = c.some; traced = h.traced }

-- a source that has a code breaks no rule
pub coded_ready : (source : List ℕ) (code : PlainCode) → IsSourceCode source code → IsReady source Lawful
coded_ready source code h = record { program = h.program; accepted = h.accepted; has = tt }
