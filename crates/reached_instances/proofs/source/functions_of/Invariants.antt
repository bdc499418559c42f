use Rattle.std.proofs.Common.{◌≡◌, ◌++◌, drop, map}
use Rattle.fip_base.specs.fip_language.Every.{Every}
use Rattle.fip_base.specs.CoreView.{function}
use Rattle.reached_instances.specs.SourceView.{IsFunctionRight, function_source}
use Rattle.reached_instances.proofs.source.functions_of.Given as goal

abbrev pub invariant-loop-function : goal.invariant-loop-function
invariant-loop-function l = record {
  functions : map function_source l.functions.items ++ map function (drop l.function-index l.function-items) ≡ map function l.function-items;
  right : Every (IsFunctionRight l.decls) l.functions.items;
}
