-- The bytes of the examples, by computation alone.
use Rattle.std.proofs.Common.{◌≡◌, refl}
use Rattle.instance_semantics.specs.Example.{lists, rev}
use Rattle.code_bytes.specs.Bytes.{function_bytes, most_constructors, table_bytes}
use Rattle.code_bytes.specs.Operands.{most_operands}

pub rev_is_narrow : most_operands lists.instances rev ≡ 4
rev_is_narrow = refl

pub lists_are_small : table_bytes lists.types ≡ 48
lists_are_small = refl

pub rev_has_bytes : function_bytes lists.types (most_constructors lists.types) (most_operands lists.instances rev) rev ≡ 167854
rev_has_bytes = refl

pub ruleset computed = (rev_is_narrow, lists_are_small, rev_has_bytes)
