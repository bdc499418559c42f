-- What a book finds under a name: what the name holds, as a type and a word, or nothing.
use Rattle.std.specs.Prelude.{ℕ, Option}
use Rattle.std.specs.BTreeMap.{BTreeMap, get_by}
use Rattle.std.specs.Cmp.Lexicographic.{slice_cmp}
use Rattle.std.specs.Ordering.{nat_cmp}
use Rattle.std.specs.declared.alloc.Global.{Global}
use Rattle.std.specs.declared.vec.Vec.{Vec}
use Rattle.fip_language.specs.Core.{Name}
use Rattle.fip_session.specs.declared.book.Held.{Held}

abbrev pub found : BTreeMap (Vec ℕ Global) Held → Name → Option Held
found held name = get_by (λ k. slice_cmp nat_cmp name k.items) held
