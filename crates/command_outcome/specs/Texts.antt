-- The texts of the statuses, each ended by LF.
use Rattle.std.specs.Prelude.{ℕ, List, [], ◌∷◌, ◌++◌, codes}
use Rattle.std.specs.Fmt.{decimal}
use Rattle.code_verify.specs.code_rules.declared.rule.SoundRule.{SoundRule}
use Rattle.code_verify.specs.code_rules.declared.rule.SoundRule.TheVariants.{S0, S1, S2, S3, S4, S5, S6, S7, S8, S9}
use Rattle.fip_base.specs.fip_language.declared.TrapKind.{TrapKind}
use Rattle.fip_base.specs.fip_language.declared.TrapKind.TheVariants.{Overflow, DivideByZero}

-- LF
abbrev pub line_end : List ℕ
line_end = 10 ∷ []

abbrev pub not_understood_text : List ℕ
not_understood_text = codes "fp2: words not understood\n"

abbrev pub out_of_calls_text : ℕ → List ℕ
out_of_calls_text calls = codes "out of calls: " ++ (decimal calls ++ line_end)

abbrev pub bad_input_text : ℕ → List ℕ
bad_input_text at = codes "bad input at " ++ (decimal at ++ line_end)

abbrev pub too_small_text : ℕ → ℕ → List ℕ
too_small_text needed given = codes "store too small: "
    ++ (decimal needed ++ (codes " needed, " ++ (decimal given ++ codes " given\n")))

abbrev pub trap_name : TrapKind → List ℕ
trap_name Overflow = codes "Overflow"
trap_name DivideByZero = codes "DivideByZero"

abbrev pub trap_text : TrapKind → ℕ → ℕ → List ℕ
trap_text kind line col = codes "trap " ++ (trap_name kind
    ++ (codes " at " ++ (decimal line ++ (codes ":" ++ (decimal col ++ line_end)))))

abbrev pub out_of_frames_text : ℕ → List ℕ
out_of_frames_text frames = codes "out of frames: " ++ (decimal frames ++ line_end)

abbrev pub bad_code_text : ℕ → List ℕ
bad_code_text at = codes "bad code at " ++ (decimal at ++ line_end)

abbrev pub bad_trace_text : ℕ → List ℕ
bad_trace_text at = codes "bad trace at " ++ (decimal at ++ line_end)

abbrev pub bad_task_text : ℕ → List ℕ
bad_task_text line = codes "bad task " ++ (decimal line ++ line_end)

abbrev pub sound_rule_name : SoundRule → List ℕ
sound_rule_name S0 = codes "S0"
sound_rule_name S1 = codes "S1"
sound_rule_name S2 = codes "S2"
sound_rule_name S3 = codes "S3"
sound_rule_name S4 = codes "S4"
sound_rule_name S5 = codes "S5"
sound_rule_name S6 = codes "S6"
sound_rule_name S7 = codes "S7"
sound_rule_name S8 = codes "S8"
sound_rule_name S9 = codes "S9"

abbrev pub unsound_text : ℕ → ℕ → List ℕ → List ℕ
unsound_text function at rule = codes "unsound function "
    ++ (decimal function ++ (codes " instruction " ++ (decimal at ++ (codes " rule " ++ (rule ++ line_end)))))

abbrev pub no_memory_text : List ℕ
no_memory_text = codes "out of memory\n"

-- a line of the gauge: the lowest and highest number of cells of a size
abbrev pub cells_text : ℕ → ℕ → ℕ → List ℕ
cells_text size low high = codes "cells of "
    ++ (decimal size ++ (codes ": " ++ (decimal low ++ (codes " to " ++ (decimal high ++ line_end)))))

abbrev pub stack_text : ℕ → ℕ → List ℕ
stack_text frames words = codes "stack: " ++ (decimal frames
    ++ (codes " frames, " ++ (decimal words ++ codes " words\n")))

abbrev pub bound_text : ℕ → ℕ → List ℕ
bound_text frames words = codes "bound: " ++ (decimal frames
    ++ (codes " frames, " ++ (decimal words ++ codes " words\n")))

abbrev pub folder_fault_text : List ℕ
folder_fault_text = codes "fault: folder\n"

abbrev pub input_fault_text : List ℕ
input_fault_text = codes "fault: input\n"

abbrev pub out_fault_text : List ℕ
out_fault_text = codes "fault: out\n"

abbrev pub err_fault_text : List ℕ
err_fault_text = codes "fault: err\n"
