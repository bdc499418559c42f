-- The program of the text `list`, after it is typed.
use Rattle.std.specs.Prelude.{pos, true, [], ◌∷◌, None, codes}
use Rattle.fip_language.specs.declared.FunKind.TheVariants.{Fip, Fbip}
use Rattle.fip_language.specs.declared.Operator.TheVariants as O
use Rattle.fip_language.specs.Table.{Table}
use Rattle.fip_trees.specs.Tree.{Literal, Constructor, NoArguments, MoreArguments, ConstructorPattern, NoPatterns}
use Rattle.fip_trees.specs.Tree.{MorePatterns, Give, Operation, Call, Match, Last, Let, NoClauses, MoreClauses, Block}
use Rattle.fip_trees.specs.Tree.{Instance, Program}
use Rattle.library_programs.specs.Parts.{at, bound, var, taken, owned}

abbrev pub back_body : Block
back_body =
    Last (Match true 2 (at 13 3 501) (var 0 (codes "xs") (at 13 10 508)) (ConstructorPattern 2 2 0
    (codes "Nil") (at 13 15 513) NoPatterns) (Last (Give (var 1 (codes "acc") (at 13 22 520)))) (MoreClauses
    (ConstructorPattern 2 2 1 (codes "Cons") (at 13 27 525) (MorePatterns (taken 2 (codes "x") 0
    (at 13 32 530)) (MorePatterns (taken 3 (codes "t") 2 (at 13 35 533)) NoPatterns))) (Last (Call 0
    (codes "back") (at 13 41 539) (MoreArguments (var 3 (codes "t") (at 13 46 544)) (MoreArguments
    (Constructor 2 2 1 (codes "Cons") (at 13 49 547) (MoreArguments (var 2 (codes "x") (at 13 54 552))
    (MoreArguments (var 1 (codes "acc") (at 13 57 555)) NoArguments))) NoArguments)))) NoClauses))

abbrev pub back : Instance
back =
    record {
      name = codes "back";
      place = (at 12 9 450);
      root = true;
      kind = Fip;
      params = owned 2 ∷ owned 2 ∷ [];
      binders = bound 0 (codes "xs") 2 (at 12 14 455) ∷ bound 1 (codes "acc") 2 (at 12 29 470) ∷ [];
      credits = [];
      results = 2 ∷ [];
      results_place = None;
      signature_tuples = [];
      variables = 4;
      body = back_body;
    }

abbrev pub reverse_body : Block
reverse_body =
    Last (Call 0 (codes "back") (at 16 45 610) (MoreArguments (var 0 (codes "xs") (at 16 50 615))
    (MoreArguments (Constructor 2 2 0 (codes "Nil") (at 16 54 619) NoArguments) NoArguments)))

abbrev pub reverse : Instance
reverse =
    record {
      name = codes "reverse";
      place = (at 16 9 574);
      root = true;
      kind = Fip;
      params = owned 2 ∷ [];
      binders = bound 0 (codes "xs") 2 (at 16 17 582) ∷ [];
      credits = [];
      results = 2 ∷ [];
      results_place = None;
      signature_tuples = [];
      variables = 1;
      body = reverse_body;
    }

abbrev pub append_body : Block
append_body =
    Let (bound 2 (codes "front") 2 (at 20 7 729) ∷ []) (Call 0 (codes "back") (at 20 15 737) (MoreArguments
    (var 0 (codes "xs") (at 20 20 742)) (MoreArguments (Constructor 2 2 0 (codes "Nil") (at 20 24 746)
    NoArguments) NoArguments))) (Last (Call 0 (codes "back") (at 21 3 754) (MoreArguments (var 2
    (codes "front") (at 21 8 759)) (MoreArguments (var 1 (codes "ys") (at 21 15 766)) NoArguments))))

abbrev pub append : Instance
append =
    record {
      name = codes "append";
      place = (at 19 9 673);
      root = true;
      kind = Fip;
      params = owned 2 ∷ owned 2 ∷ [];
      binders = bound 0 (codes "xs") 2 (at 19 16 680) ∷ bound 1 (codes "ys") 2 (at 19 31 695) ∷ [];
      credits = [];
      results = 2 ∷ [];
      results_place = None;
      signature_tuples = [];
      variables = 3;
      body = append_body;
    }

abbrev pub increment_body : Block
increment_body =
    Last (Call 4 (codes "raise") (at 25 47 859) (MoreArguments (var 0 (codes "xs") (at 25 53 865))
    (MoreArguments (Constructor 2 2 0 (codes "Nil") (at 25 57 869) NoArguments) NoArguments)))

abbrev pub increment : Instance
increment =
    record {
      name = codes "increment";
      place = (at 25 9 821);
      root = true;
      kind = Fip;
      params = owned 2 ∷ [];
      binders = bound 0 (codes "xs") 2 (at 25 19 831) ∷ [];
      credits = [];
      results = 2 ∷ [];
      results_place = None;
      signature_tuples = [];
      variables = 1;
      body = increment_body;
    }

abbrev pub raise_body : Block
raise_body =
    Last (Match true 2 (at 28 3 937) (var 0 (codes "xs") (at 28 10 944)) (ConstructorPattern 2 2 0
    (codes "Nil") (at 29 5 953) NoPatterns) (Last (Call 0 (codes "back") (at 29 12 960) (MoreArguments (var
    1 (codes "acc") (at 29 17 965)) (MoreArguments (Constructor 2 2 0 (codes "Nil") (at 29 22 970)
    NoArguments) NoArguments)))) (MoreClauses (ConstructorPattern 2 2 1 (codes "Cons") (at 30 5 980)
    (MorePatterns (taken 2 (codes "x") 0 (at 30 10 985)) (MorePatterns (taken 3 (codes "t") 2
    (at 30 13 988)) NoPatterns))) (Let (bound 4 (codes "y") 0 (at 30 23 998) ∷ []) (Operation O.Add
    (at 30 29 1004) (var 2 (codes "x") (at 30 27 1002)) (Literal (pos 1) (at 30 31 1006))) (Last (Call 4
    (codes "raise") (at 30 34 1009) (MoreArguments (var 3 (codes "t") (at 30 40 1015)) (MoreArguments
    (Constructor 2 2 1 (codes "Cons") (at 30 43 1018) (MoreArguments (var 4 (codes "y") (at 30 48 1023))
    (MoreArguments (var 1 (codes "acc") (at 30 51 1026)) NoArguments))) NoArguments))))) NoClauses))

abbrev pub raise : Instance
raise =
    record {
      name = codes "raise";
      place = (at 27 9 885);
      root = true;
      kind = Fip;
      params = owned 2 ∷ owned 2 ∷ [];
      binders = bound 0 (codes "xs") 2 (at 27 15 891) ∷ bound 1 (codes "acc") 2 (at 27 30 906) ∷ [];
      credits = [];
      results = 2 ∷ [];
      results_place = None;
      signature_tuples = [];
      variables = 5;
      body = raise_body;
    }

abbrev pub right_body : Block
right_body =
    Last (Match true 3 (at 36 3 1131) (var 0 (codes "z") (at 36 10 1138)) (ConstructorPattern 3 3 0
    (codes "Zip") (at 37 5 1146) (MorePatterns (taken 1 (codes "xs") 2 (at 37 9 1150)) (MorePatterns
    (ConstructorPattern 2 2 1 (codes "Cons") (at 37 13 1154) (MorePatterns (taken 2 (codes "y") 0
    (at 37 18 1159)) (MorePatterns (taken 3 (codes "ys") 2 (at 37 21 1162)) NoPatterns))) NoPatterns)))
    (Last (Give (Constructor 3 3 0 (codes "Zip") (at 37 29 1170) (MoreArguments (Constructor 2 2 1
    (codes "Cons") (at 37 33 1174) (MoreArguments (var 2 (codes "y") (at 37 38 1179)) (MoreArguments (var 1
    (codes "xs") (at 37 41 1182)) NoArguments))) (MoreArguments (var 3 (codes "ys") (at 37 46 1187))
    NoArguments))))) (MoreClauses (ConstructorPattern 3 3 0 (codes "Zip") (at 38 5 1196) (MorePatterns
    (taken 4 (codes "xs") 2 (at 38 9 1200)) (MorePatterns (ConstructorPattern 2 2 0 (codes "Nil")
    (at 38 13 1204) NoPatterns) NoPatterns))) (Last (Give (Constructor 3 3 0 (codes "Zip") (at 38 21 1212)
    (MoreArguments (var 4 (codes "xs") (at 38 25 1216)) (MoreArguments (Constructor 2 2 0 (codes "Nil")
    (at 38 29 1220) NoArguments) NoArguments))))) NoClauses))

abbrev pub right : Instance
right =
    record {
      name = codes "right";
      place = (at 35 9 1102);
      root = true;
      kind = Fip;
      params = owned 3 ∷ [];
      binders = bound 0 (codes "z") 3 (at 35 15 1108) ∷ [];
      credits = [];
      results = 3 ∷ [];
      results_place = None;
      signature_tuples = [];
      variables = 5;
      body = right_body;
    }

abbrev pub plug_body : Block
plug_body =
    Last (Match true 3 (at 45 3 1398) (var 0 (codes "z") (at 45 10 1405)) (ConstructorPattern 3 3 0
    (codes "Zip") (at 45 14 1409) (MorePatterns (taken 1 (codes "xs") 2 (at 45 18 1413)) (MorePatterns
    (taken 2 (codes "ys") 2 (at 45 22 1417)) NoPatterns))) (Last (Call 0 (codes "back") (at 45 29 1424)
    (MoreArguments (var 1 (codes "xs") (at 45 34 1429)) (MoreArguments (var 2 (codes "ys") (at 45 38 1433))
    NoArguments)))) NoClauses)

abbrev pub plug : Instance
plug =
    record {
      name = codes "plug";
      place = (at 44 10 1367);
      root = true;
      kind = Fbip;
      params = owned 3 ∷ [];
      binders = bound 0 (codes "z") 3 (at 44 15 1372) ∷ [];
      credits = [];
      results = 2 ∷ [];
      results_place = None;
      signature_tuples = [];
      variables = 3;
      body = plug_body;
    }

abbrev pub list_types : Table
list_types =
    (record { name = codes "False"; fields = [] } ∷ record { name = codes "True"; fields = [] } ∷ []) ∷
    (record { name = codes "Nil"; fields = [] } ∷ record { name = codes "Cons"; fields = 0 ∷ 2 ∷ [] } ∷ [])
    ∷ (record { name = codes "Zip"; fields = 2 ∷ 2 ∷ [] } ∷ []) ∷ []

abbrev pub list_program : Program
list_program =
    record {
      types = list_types;
      declaring = 1 ∷ 2 ∷ 3 ∷ [];
      arities = 0 ∷ 1 ∷ 0 ∷ [];
      field_counts = (0 ∷ 0 ∷ []) ∷ (0 ∷ 2 ∷ []) ∷ (2 ∷ []) ∷ [];
      instances = back ∷ reverse ∷ append ∷ increment ∷ raise ∷ right ∷ plug ∷ [];
    }
