-- The program of the text `tree`, after it is typed.
use Rattle.std.specs.Prelude.{pos, true, [], ◌∷◌, None, codes}
use Rattle.fip_language.specs.declared.FunKind.TheVariants.{Fip}
use Rattle.fip_language.specs.declared.Operator.TheVariants as O
use Rattle.fip_language.specs.Table.{Table}
use Rattle.fip_trees.specs.Tree.{Literal, Constructor, NoArguments, MoreArguments, ConstructorPattern, NoPatterns}
use Rattle.fip_trees.specs.Tree.{MorePatterns, Give, Operation, Call, Match, Last, Let, NoClauses, MoreClauses, Block}
use Rattle.fip_trees.specs.Tree.{Instance, Program}
use Rattle.library_programs.specs.Parts.{at, bound, var, taken, owned}

abbrev pub increment_body : Block
increment_body =
    Last (Call 1 (codes "down") (at 16 46 729) (MoreArguments (var 0 (codes "t") (at 16 51 734))
    (MoreArguments (Constructor 3 3 0 (codes "Top") (at 16 54 737) NoArguments) NoArguments)))

abbrev pub increment : Instance
increment =
    record {
      name = codes "increment";
      place = (at 16 9 692);
      root = true;
      kind = Fip;
      params = owned 2 ∷ [];
      binders = bound 0 (codes "t") 2 (at 16 19 702) ∷ [];
      credits = [];
      results = 2 ∷ [];
      results_place = None;
      signature_tuples = [];
      variables = 1;
      body = increment_body;
    }

abbrev pub down_body : Block
down_body =
    Last (Match true 2 (at 19 3 795) (var 0 (codes "t") (at 19 10 802)) (ConstructorPattern 2 2 0
    (codes "Leaf") (at 20 5 810) NoPatterns) (Last (Call 2 (codes "up") (at 20 13 818) (MoreArguments
    (Constructor 2 2 0 (codes "Leaf") (at 20 16 821) NoArguments) (MoreArguments (var 1 (codes "w")
    (at 20 22 827)) NoArguments)))) (MoreClauses (ConstructorPattern 2 2 1 (codes "Bin") (at 21 5 835)
    (MorePatterns (taken 2 (codes "l") 2 (at 21 9 839)) (MorePatterns (taken 3 (codes "x") 0 (at 21 12 842))
    (MorePatterns (taken 4 (codes "r") 2 (at 21 15 845)) NoPatterns)))) (Last (Call 1 (codes "down")
    (at 21 21 851) (MoreArguments (var 2 (codes "l") (at 21 26 856)) (MoreArguments (Constructor 3 3 1
    (codes "Left") (at 21 29 859) (MoreArguments (var 1 (codes "w") (at 21 34 864)) (MoreArguments (var 3
    (codes "x") (at 21 37 867)) (MoreArguments (var 4 (codes "r") (at 21 40 870)) NoArguments))))
    NoArguments)))) NoClauses))

abbrev pub down : Instance
down =
    record {
      name = codes "down";
      place = (at 18 9 753);
      root = true;
      kind = Fip;
      params = owned 2 ∷ owned 3 ∷ [];
      binders = bound 0 (codes "t") 2 (at 18 14 758) ∷ bound 1 (codes "w") 3 (at 18 28 772) ∷ [];
      credits = [];
      results = 2 ∷ [];
      results_place = None;
      signature_tuples = [];
      variables = 5;
      body = down_body;
    }

abbrev pub up_body : Block
up_body =
    Last (Match true 3 (at 27 3 943) (var 1 (codes "w") (at 27 10 950)) (ConstructorPattern 3 3 0
    (codes "Top") (at 28 5 958) NoPatterns) (Last (Give (var 0 (codes "t") (at 28 12 965)))) (MoreClauses
    (ConstructorPattern 3 3 1 (codes "Left") (at 29 5 972) (MorePatterns (taken 2 (codes "v") 3
    (at 29 10 977)) (MorePatterns (taken 3 (codes "x") 0 (at 29 13 980)) (MorePatterns (taken 4 (codes "r")
    2 (at 29 16 983)) NoPatterns)))) (Let (bound 5 (codes "y") 0 (at 29 26 993) ∷ []) (Operation O.Add
    (at 29 32 999) (var 3 (codes "x") (at 29 30 997)) (Literal (pos 1) (at 29 34 1001))) (Last (Call 1
    (codes "down") (at 29 37 1004) (MoreArguments (var 4 (codes "r") (at 29 42 1009)) (MoreArguments
    (Constructor 3 3 2 (codes "Right") (at 29 45 1012) (MoreArguments (var 0 (codes "t") (at 29 51 1018))
    (MoreArguments (var 5 (codes "y") (at 29 54 1021)) (MoreArguments (var 2 (codes "v") (at 29 57 1024))
    NoArguments)))) NoArguments))))) (MoreClauses (ConstructorPattern 3 3 2 (codes "Right") (at 30 5 1033)
    (MorePatterns (taken 6 (codes "l") 2 (at 30 11 1039)) (MorePatterns (taken 7 (codes "y") 0
    (at 30 14 1042)) (MorePatterns (taken 8 (codes "v") 3 (at 30 17 1045)) NoPatterns)))) (Last (Call 2
    (codes "up") (at 30 23 1051) (MoreArguments (Constructor 2 2 1 (codes "Bin") (at 30 26 1054)
    (MoreArguments (var 6 (codes "l") (at 30 30 1058)) (MoreArguments (var 7 (codes "y") (at 30 33 1061))
    (MoreArguments (var 0 (codes "t") (at 30 36 1064)) NoArguments)))) (MoreArguments (var 8 (codes "v")
    (at 30 40 1068)) NoArguments)))) NoClauses)))

abbrev pub up : Instance
up =
    record {
      name = codes "up";
      place = (at 26 9 903);
      root = true;
      kind = Fip;
      params = owned 2 ∷ owned 3 ∷ [];
      binders = bound 0 (codes "t") 2 (at 26 12 906) ∷ bound 1 (codes "w") 3 (at 26 26 920) ∷ [];
      credits = [];
      results = 2 ∷ [];
      results_place = None;
      signature_tuples = [];
      variables = 9;
      body = up_body;
    }

abbrev pub tree_types : Table
tree_types =
    (record { name = codes "False"; fields = [] } ∷ record { name = codes "True"; fields = [] } ∷ []) ∷
    (record { name = codes "Leaf"; fields = [] } ∷ record { name = codes "Bin"; fields = 2 ∷ 0 ∷ 2 ∷ [] } ∷
    []) ∷ (record { name = codes "Top"; fields = [] } ∷
    record { name = codes "Left"; fields = 3 ∷ 0 ∷ 2 ∷ [] } ∷
    record { name = codes "Right"; fields = 2 ∷ 0 ∷ 3 ∷ [] } ∷ []) ∷ []

abbrev pub tree_program : Program
tree_program =
    record {
      types = tree_types;
      declaring = 1 ∷ 2 ∷ 3 ∷ [];
      arities = 0 ∷ 1 ∷ 0 ∷ [];
      field_counts = (0 ∷ 0 ∷ []) ∷ (0 ∷ 3 ∷ []) ∷ (0 ∷ 3 ∷ 3 ∷ []) ∷ [];
      instances = increment ∷ down ∷ up ∷ [];
    }
