-- The examples of a source without any text. Its code has no functions, and the file of this code is 33 bytes.
use Rattle.std.specs.Prelude.{List, [], ◌∷◌, ◌++◌, ℕ, codes}
use Rattle.command_answers.specs.fip_outside.Files.{File}
use Rattle.worked_examples.specs.cell_code.Plain.{PlainCode}
use Rattle.worked_examples.specs.Empty.{bool_alone}

abbrev pub empty_code : PlainCode
empty_code = record { types = bool_alone; functions = [] }

-- "FP2C", version 2, one type of two constructors, no functions
abbrev pub empty_file : List ℕ
empty_file = codes "FP2C" ++ (0 ∷ 2 ∷ 0 ∷ 1 ∷ 0 ∷ 0 ∷ 0 ∷ 2 ∷ 0 ∷ 0 ∷ 0 ∷ 5 ∷ codes "False"
    ++ (0 ∷ 0 ∷ 0 ∷ 0 ∷ 4 ∷ codes "True" ++ (0 ∷ 0 ∷ 0 ∷ [])))

abbrev pub a_file : List ℕ → List ℕ → File
a_file name bytes = record { name = name; bytes = bytes }
