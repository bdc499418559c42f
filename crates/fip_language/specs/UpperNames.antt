-- The names of constructors in a source: they are upper-case names, as Cons and Nil are.
use Rattle.std.specs.Prelude.{◌≡◌, true, List}
use Rattle.fip_language.specs.Core.{DataConstructor, Data}
use Rattle.fip_language.specs.Character.{is_upper_name}
use Rattle.fip_language.specs.Every.{Every}

abbrev pub HasUpperName : DataConstructor → Type 0
HasUpperName k = is_upper_name k.name ≡ true

-- The constructors of these data types have upper-case names.
abbrev pub HaveUpperNames : List Data → Type 0
HaveUpperNames ds = Every (λ (d : Data). Every HasUpperName d.constructors) ds
