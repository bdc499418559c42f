-- Declarations of the examples, each in a program without functions, with the places where they are in its text.
use Rattle.std.specs.Prelude.{[], ◌∷◌, List, codes}
use Rattle.source_report.specs.fip_language.declared.Place.{Place}
use Rattle.source_report.specs.fip_language.Core.{Name, Written, WrittenName, NoWritten, MoreWritten, DataConstructor, Data}
use Rattle.source_report.specs.fip_language.Core.{Core}
use Rattle.source_report.specs.fip_language.Example.{at}

abbrev pub declaring : List Data → Core
declaring ds = record { types = ds; functions = [] }

abbrev pub with_fields : Name → Place → List Written → DataConstructor
with_fields name place fields = record { name = name; place = place; fields = fields }

abbrev pub plain_type : Name → Place → List DataConstructor → Data
plain_type name place ks = record { name = name; place = place; parameters = []; constructors = ks }

-- a name in a field, without brackets
abbrev pub named : Name → Place → Written
named name place = WrittenName name place NoWritten

-- data list[a] { Nil; Cons(a, list[a]) } with this in the place of list[a]
abbrev pub list_with : Written → Core
list_with rest = declaring (record {
  name = codes "list";
  place = at 1 6;
  parameters = record { name = codes "a"; place = at 1 11 } ∷ [];
  constructors = with_fields (codes "Nil") (at 1 16) []
      ∷ with_fields (codes "Cons") (at 1 21) (named (codes "a") (at 1 26) ∷ rest ∷ []) ∷ [];
} ∷ [])

-- list[a]
abbrev pub with_brackets : Written
with_brackets = WrittenName (codes "list") (at 1 29) (MoreWritten (named (codes "a") (at 1 34)) NoWritten)

-- list
abbrev pub without_brackets : Written
without_brackets = named (codes "list") (at 1 29)

-- data inf { Mk(inf) }
abbrev pub endless : Core
endless = declaring (plain_type (codes "inf") (at 1 6)
    (with_fields (codes "Mk") (at 1 12) (named (codes "inf") (at 1 15) ∷ []) ∷ []) ∷ [])

-- data a { X(nat) }
abbrev pub unknown : Core
unknown = declaring (plain_type (codes "a") (at 1 6)
    (with_fields (codes "X") (at 1 10) (named (codes "nat") (at 1 12) ∷ []) ∷ []) ∷ [])

-- data a { X } and data b { Y; X } after it
abbrev pub with_two : Core
with_two = declaring (plain_type (codes "a") (at 1 6) (with_fields (codes "X") (at 1 10) [] ∷ [])
    ∷ plain_type (codes "b") (at 2 6) (with_fields (codes "Y") (at 2 10) [] ∷ with_fields (codes "X") (at 2 13) [] ∷ [])
    ∷ [])
