-- The file that is compiled of a source, and the one that is upgraded, are those of one sound code.
use Rattle.std.proofs.Common.{◌≡◌, ◌<◌, ◌≤◌, ℕ, List, length, sym, ap, subst, arith}
use Rattle.command_run.proofs.source_report.fip_language.OnePlace.{IsPlace-not_spelt}
use Rattle.command_run.specs.session_semantics.command_outcome.declared.failure.Failure.{Failure}
use Rattle.command_run.specs.code_file.CodeText.{IsFileOf}
use Rattle.command_run.specs.cell_lower.cell_code.Plain.{PlainCode}
use Rattle.command_run.specs.code_file.declared.tags.Version.TheVariants.{Second}
use Rattle.command_run.proofs.code_file.Whole.{one_code}
use Rattle.command_run.specs.code_rules.Breaks.{IsLeast}
use Rattle.command_run.specs.command_source.Codes.{IsSoundFile, RefusesCode, LongFile, BadFile, UnsoundFile, IsUpgraded}
use Rattle.command_run.specs.command_source.ProgramCode.{IsCodeOfSource, IsCompiledFile}

pub code_same : (bytes : List ℕ) (c d : PlainCode) → IsSoundFile bytes c → IsSoundFile bytes d → c ≡ d
code_same bytes c d h k = (one_code bytes h.spelt.0 k.spelt.0 c d h.spelt.1 k.spelt.1).1

pub refused_not_sound : (bytes : List ℕ) (f : Failure) (c : PlainCode) → RefusesCode bytes f → IsSoundFile bytes c → ⊥
refused_not_sound bytes f c (LongFile more) h = let le = h.short in omega (arith, more, le)
refused_not_sound bytes f c (BadFile at le place) h = IsPlace-not_spelt IsFileOf bytes at c place h.spelt
refused_not_sound bytes f c (UnsoundFile code function at rule le spelt least) h =
    let same : code ≡ c = (one_code bytes spelt.0 h.spelt.0 code c spelt.1 h.spelt.1).1 in
    h.sound function at rule (subst (λ c. IsLeast c function at rule) same least).breaks

pub compiled_sound : (source file : List ℕ) (h : IsCompiledFile source file) → IsSoundFile file h.code
compiled_sound source file h = record { short = h.short; spelt = (Second, h.spelt); sound = h.of'.sound }

-- what the file holds is a code of the source
pub compiled_code : (source file : List ℕ) (c : PlainCode) → IsCompiledFile source file → IsSoundFile file c → IsCodeOfSource source c
compiled_code source file c h k = subst (IsCodeOfSource source) (code_same file h.code c (compiled_sound source file h) k) h.of'

pub upgraded_sound : (bytes file : List ℕ) (h : IsUpgraded bytes file) → IsSoundFile file h.code
upgraded_sound bytes file h = record { short = h.short; spelt = (Second, h.spelt); sound = h.of'.sound }

pub upgraded_code : (bytes file : List ℕ) (c : PlainCode) → IsUpgraded bytes file → IsSoundFile bytes c → IsSoundFile file c
upgraded_code bytes file c h k = subst (IsSoundFile file) (code_same bytes h.code c h.of' k) (upgraded_sound bytes file h)
