use Rattle.std.proofs.Common.{◌≡◌, drop}
use Rattle.code_tables.specs.Apart.{none_met, is_some_name, apart, function_names, met_in}
use Rattle.code_tables.proofs.tables.have_own_names.Given as goal

abbrev pub invariant-loop-function : goal.invariant-loop-function
invariant-loop-function l = apart is_some_name (met_in l.names.names) (function_names (drop l.function-index l.functions)) ≡ apart is_some_name none_met (function_names l.functions)
