-- The statuses and texts of what keeps a command from its result.
use Rattle.std.specs.Prelude.{ℕ, List}
use Rattle.fip_base.specs.Refusal.{refusal_text}
use Rattle.command_outcome.specs.declared.failure.Object.{Object}
use Rattle.command_outcome.specs.declared.failure.Object.TheVariants as O
use Rattle.command_outcome.specs.declared.failure.Failure.{Failure}
use Rattle.command_outcome.specs.declared.failure.Failure.TheVariants as F
use Rattle.command_outcome.specs.Texts.{not_understood_text, bad_code_text, unsound_text, sound_rule_name}
use Rattle.command_outcome.specs.Texts.{bad_trace_text, bad_input_text, bad_task_text}
use Rattle.command_outcome.specs.Texts.{too_small_text, trap_text, out_of_calls_text, out_of_frames_text}
use Rattle.command_outcome.specs.Texts.{no_memory_text}
use Rattle.command_outcome.specs.Texts.{folder_fault_text, input_fault_text, out_fault_text, err_fault_text}

abbrev pub fault_text : Object → List ℕ
fault_text O.Folder = folder_fault_text
fault_text O.Input = input_fault_text
fault_text O.Out = out_fault_text
fault_text O.Err = err_fault_text

abbrev pub failure_text : Failure → List ℕ
failure_text F.NotUnderstood = not_understood_text
failure_text (F.Refused r) = refusal_text r
failure_text (F.BadCode at) = bad_code_text at
failure_text (F.Unsound function at rule) = unsound_text function at (sound_rule_name rule)
failure_text (F.BadTrace at) = bad_trace_text at
failure_text (F.BadInput at) = bad_input_text at
failure_text (F.BadTask line) = bad_task_text line
failure_text (F.TooSmall needed given) = too_small_text needed given
failure_text (F.Trap kind line col) = trap_text kind line col
failure_text (F.OutOfCalls given) = out_of_calls_text given
failure_text (F.OutOfFrames given) = out_of_frames_text given
failure_text (F.Fault object) = fault_text object
failure_text F.NoMemory = no_memory_text

abbrev pub failure_status : Failure → ℕ
failure_status F.NotUnderstood = 2
failure_status (F.Refused r) = 1
failure_status (F.BadCode at) = 8
failure_status (F.Unsound function at rule) = 8
failure_status (F.BadTrace at) = 8
failure_status (F.BadInput at) = 5
failure_status (F.BadTask line) = 5
failure_status (F.TooSmall needed given) = 6
failure_status (F.Trap kind line col) = 3
failure_status (F.OutOfCalls given) = 4
failure_status (F.OutOfFrames given) = 7
failure_status (F.Fault object) = 9
failure_status F.NoMemory = 10
