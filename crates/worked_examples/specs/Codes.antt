-- What is known of the registers of the reversal of a list before each of its six instructions.
use Rattle.std.specs.Prelude.{ℕ, List, [], ◌∷◌}
use Rattle.source_report.specs.cell_code.declared.kind.Kind.{Kind}
use Rattle.source_report.specs.cell_code.declared.kind.Kind.TheVariants.{Gone, Owned}
use Rattle.source_report.specs.cell_code.Plain.{PlainFunction}
use Rattle.source_report.specs.code_rules.Example.{function_of, rev_with, nil_taken, acc_given, cons_taken, cons_put, again}
use Rattle.source_report.specs.code_rules.Example.{cons_known}

-- the function of the reversal
abbrev pub rev : PlainFunction
rev = function_of (2 ∷ []) (rev_with nil_taken acc_given cons_taken cons_put again) cons_known

-- kinds of the first four registers; nothing is known of the other three
abbrev pub four_known : Kind → Kind → Kind → Kind → List Kind
four_known a b c d = a ∷ b ∷ c ∷ d ∷ Gone ∷ Gone ∷ Gone ∷ []

-- an owned list with one of these constructors, and one with any
abbrev pub a_list : List ℕ → Kind
a_list cs = Owned 2 cs

abbrev pub any_list : Kind
any_list = a_list (0 ∷ 1 ∷ [])
