-- Of the program of the text `rbtree`: insert, search and close.
use Rattle.std.specs.Prelude.{true, false, [], ◌∷◌, Some, None, codes}
use Rattle.fip_language.specs.declared.FunKind.TheVariants.{Fip}
use Rattle.fip_language.specs.declared.Operator.TheVariants as O
use Rattle.fip_trees.specs.Tree.{Constructor, NoArguments, MoreArguments, ConstructorPattern, NoPatterns, MorePatterns}
use Rattle.fip_trees.specs.Tree.{Give, Tuple, Operation, Call, Match, Last, Let, NoClauses, MoreClauses, Block}
use Rattle.fip_trees.specs.Tree.{Instance}
use Rattle.fip_trees.specs.TreeView.{Case}
use Rattle.library_programs.specs.Parts.{at, bound, var, taken, owned}

abbrev pub insert_body : Block
insert_body =
    Last (Call 1 (codes "search") (at 18 58 858) (MoreArguments (var 0 (codes "t") (at 18 65 865))
    (MoreArguments (var 1 (codes "k") (at 18 68 868)) (MoreArguments (var 2 (codes "p") (at 18 71 871))
    (MoreArguments (Constructor 4 6 0 (codes "Top") (at 18 74 874) NoArguments) NoArguments)))))

abbrev pub insert : Instance
insert =
    record {
      name = codes "insert";
      place = (at 18 9 809);
      root = true;
      kind = Fip;
      params = owned 2 ∷ owned 0 ∷ owned 3 ∷ [];
      binders =
          bound 0 (codes "t") 2 (at 18 16 816) ∷ bound 1 (codes "k") 0 (at 18 23 823) ∷ bound 2 (codes "p")
          3 (at 18 31 831) ∷ [];
      credits = [];
      results = 2 ∷ 3 ∷ 1 ∷ [];
      results_place = Some (at 18 40 840);
      signature_tuples = [];
      variables = 3;
      body = insert_body;
    }

abbrev pub search_1_1 : Case
search_1_1 =
    record {
      pattern = ConstructorPattern 3 4 0 (codes "Pad0") (at 23 7 989) NoPatterns;
      body =
          Let (bound 4 (codes "s") 2 (at 23 19 1001) ∷ []) (Call 2 (codes "close") (at 23 23 1005)
          (MoreArguments (Constructor 2 3 0 (codes "Leaf") (at 23 29 1011) NoArguments) (MoreArguments (var
          3 (codes "w") (at 23 35 1017)) NoArguments))) (Last (Tuple (at 23 39 1021) (MoreArguments (var 4
          (codes "s") (at 23 40 1022)) (MoreArguments (Constructor 3 4 0 (codes "Pad0") (at 23 43 1025)
          NoArguments) (MoreArguments (Constructor 1 1 0 (codes "False") (at 23 49 1031) NoArguments)
          NoArguments)))));
    }

abbrev pub search_1_2 : Case
search_1_2 =
    record {
      pattern =
          ConstructorPattern 3 4 1 (codes "Pad4") (at 24 7 1045) (MorePatterns (taken 5 (codes "_") 0
          (at 24 12 1050)) (MorePatterns (taken 6 (codes "_") 0 (at 24 15 1053)) (MorePatterns (taken 7
          (codes "_") 0 (at 24 18 1056)) (MorePatterns (taken 8 (codes "_") 0 (at 24 21 1059))
          NoPatterns))));
      body =
          Let (bound 9 (codes "s") 2 (at 24 31 1069) ∷ []) (Call 3 (codes "grow") (at 24 35 1073)
          (MoreArguments (Constructor 2 3 0 (codes "Leaf") (at 24 40 1078) NoArguments) (MoreArguments (var
          1 (codes "k") (at 24 46 1084)) (MoreArguments (Constructor 2 3 0 (codes "Leaf") (at 24 49 1087)
          NoArguments) (MoreArguments (var 3 (codes "w") (at 24 55 1093)) NoArguments))))) (Last (Tuple
          (at 24 59 1097) (MoreArguments (var 9 (codes "s") (at 24 60 1098)) (MoreArguments (Constructor 3 4
          0 (codes "Pad0") (at 24 63 1101) NoArguments) (MoreArguments (Constructor 1 1 1 (codes "True")
          (at 24 69 1107) NoArguments) NoArguments)))));
    }

abbrev pub search_1 : Case
search_1 =
    record {
      pattern = ConstructorPattern 2 3 0 (codes "Leaf") (at 22 5 964) NoPatterns;
      body =
          Last (Match true 3 (at 22 13 972) (var 2 (codes "p") (at 22 20 979)) search_1_1.pattern
          search_1_1.body (MoreClauses search_1_2.pattern search_1_2.body NoClauses));
    }

abbrev pub search_2_1 : Case
search_2_1 =
    record {
      pattern = ConstructorPattern 1 1 1 (codes "True") (at 27 7 1150) NoPatterns;
      body =
          Last (Call 1 (codes "search") (at 27 18 1161) (MoreArguments (var 11 (codes "l") (at 27 25 1168))
          (MoreArguments (var 1 (codes "k") (at 27 28 1171)) (MoreArguments (var 2 (codes "p")
          (at 27 31 1174)) (MoreArguments (Constructor 4 6 1 (codes "Left") (at 27 34 1177) (MoreArguments
          (var 10 (codes "c") (at 27 39 1182)) (MoreArguments (var 3 (codes "w") (at 27 42 1185))
          (MoreArguments (var 12 (codes "x") (at 27 45 1188)) (MoreArguments (var 13 (codes "r")
          (at 27 48 1191)) NoArguments))))) NoArguments)))));
    }

abbrev pub search_2_2_1 : Case
search_2_2_1 =
    record {
      pattern = ConstructorPattern 1 1 1 (codes "True") (at 28 14 1210) NoPatterns;
      body =
          Last (Call 1 (codes "search") (at 28 25 1221) (MoreArguments (var 13 (codes "r") (at 28 32 1228))
          (MoreArguments (var 1 (codes "k") (at 28 35 1231)) (MoreArguments (var 2 (codes "p")
          (at 28 38 1234)) (MoreArguments (Constructor 4 6 2 (codes "Right") (at 28 41 1237) (MoreArguments
          (var 10 (codes "c") (at 28 47 1243)) (MoreArguments (var 11 (codes "l") (at 28 50 1246))
          (MoreArguments (var 12 (codes "x") (at 28 53 1249)) (MoreArguments (var 3 (codes "w")
          (at 28 56 1252)) NoArguments))))) NoArguments)))));
    }

abbrev pub search_2_2_2 : Case
search_2_2_2 =
    record {
      pattern = ConstructorPattern 1 1 0 (codes "False") (at 28 14 1210) NoPatterns;
      body =
          Let (bound 16 (codes "s") 2 (at 29 18 1275) ∷ []) (Call 2 (codes "close") (at 29 22 1279)
          (MoreArguments (Constructor 2 3 1 (codes "Node") (at 29 28 1285) (MoreArguments (var 10
          (codes "c") (at 29 33 1290)) (MoreArguments (var 11 (codes "l") (at 29 36 1293)) (MoreArguments
          (var 12 (codes "x") (at 29 39 1296)) (MoreArguments (var 13 (codes "r") (at 29 42 1299))
          NoArguments))))) (MoreArguments (var 3 (codes "w") (at 29 46 1303)) NoArguments))) (Last (Tuple
          (at 29 50 1307) (MoreArguments (var 16 (codes "s") (at 29 51 1308)) (MoreArguments (var 2
          (codes "p") (at 29 54 1311)) (MoreArguments (Constructor 1 1 1 (codes "True") (at 29 57 1314)
          NoArguments) NoArguments)))));
    }

abbrev pub search_2_2 : Case
search_2_2 =
    record {
      pattern = ConstructorPattern 1 1 0 (codes "False") (at 27 7 1150) NoPatterns;
      body =
          Let (bound 15 (codes "_") 1 (at 28 19 1215) ∷ []) (Operation O.Greater (at 28 19 1215) (var 1
          (codes "k") (at 28 17 1213)) (var 12 (codes "x") (at 28 21 1217))) (Last (Match false 1
          (at 28 14 1210) (var 15 (codes "_") (at 28 19 1215)) search_2_2_1.pattern search_2_2_1.body
          (MoreClauses search_2_2_2.pattern search_2_2_2.body NoClauses)));
    }

abbrev pub search_2 : Case
search_2 =
    record {
      pattern =
          ConstructorPattern 2 3 1 (codes "Node") (at 26 5 1124) (MorePatterns (taken 10 (codes "c") 5
          (at 26 10 1129)) (MorePatterns (taken 11 (codes "l") 2 (at 26 13 1132)) (MorePatterns (taken 12
          (codes "x") 0 (at 26 16 1135)) (MorePatterns (taken 13 (codes "r") 2 (at 26 19 1138))
          NoPatterns))));
      body =
          Let (bound 14 (codes "_") 1 (at 27 12 1155) ∷ []) (Operation O.Less (at 27 12 1155) (var 1
          (codes "k") (at 27 10 1153)) (var 12 (codes "x") (at 27 14 1157))) (Last (Match false 1
          (at 27 7 1150) (var 14 (codes "_") (at 27 12 1155)) search_2_1.pattern search_2_1.body
          (MoreClauses search_2_2.pattern search_2_2.body NoClauses)));
    }

abbrev pub search_body : Block
search_body =
    Last (Match true 2 (at 21 3 949) (var 0 (codes "t") (at 21 10 956)) search_1.pattern search_1.body
    (MoreClauses search_2.pattern search_2.body NoClauses))

abbrev pub search : Instance
search =
    record {
      name = codes "search";
      place = (at 20 9 890);
      root = true;
      kind = Fip;
      params = owned 2 ∷ owned 0 ∷ owned 3 ∷ owned 4 ∷ [];
      binders =
          bound 0 (codes "t") 2 (at 20 16 897) ∷ bound 1 (codes "k") 0 (at 20 23 904) ∷ bound 2 (codes "p")
          3 (at 20 31 912) ∷ bound 3 (codes "w") 4 (at 20 39 920) ∷ [];
      credits = [];
      results = 2 ∷ 3 ∷ 1 ∷ [];
      results_place = Some (at 20 48 929);
      signature_tuples = [];
      variables = 17;
      body = search_body;
    }

abbrev pub close_body : Block
close_body =
    Last (Match true 4 (at 35 3 1408) (var 1 (codes "w") (at 35 10 1415)) (ConstructorPattern 4 6 0
    (codes "Top") (at 36 5 1423) NoPatterns) (Last (Give (var 0 (codes "t") (at 36 12 1430)))) (MoreClauses
    (ConstructorPattern 4 6 1 (codes "Left") (at 37 5 1437) (MorePatterns (taken 2 (codes "c") 5
    (at 37 10 1442)) (MorePatterns (taken 3 (codes "v") 4 (at 37 13 1445)) (MorePatterns (taken 4
    (codes "x") 0 (at 37 16 1448)) (MorePatterns (taken 5 (codes "r") 2 (at 37 19 1451)) NoPatterns)))))
    (Last (Call 2 (codes "close") (at 37 25 1457) (MoreArguments (Constructor 2 3 1 (codes "Node")
    (at 37 31 1463) (MoreArguments (var 2 (codes "c") (at 37 36 1468)) (MoreArguments (var 0 (codes "t")
    (at 37 39 1471)) (MoreArguments (var 4 (codes "x") (at 37 42 1474)) (MoreArguments (var 5 (codes "r")
    (at 37 45 1477)) NoArguments))))) (MoreArguments (var 3 (codes "v") (at 37 49 1481)) NoArguments))))
    (MoreClauses (ConstructorPattern 4 6 2 (codes "Right") (at 38 5 1489) (MorePatterns (taken 6 (codes "c")
    5 (at 38 11 1495)) (MorePatterns (taken 7 (codes "l") 2 (at 38 14 1498)) (MorePatterns (taken 8
    (codes "x") 0 (at 38 17 1501)) (MorePatterns (taken 9 (codes "v") 4 (at 38 20 1504)) NoPatterns)))))
    (Last (Call 2 (codes "close") (at 38 26 1510) (MoreArguments (Constructor 2 3 1 (codes "Node")
    (at 38 32 1516) (MoreArguments (var 6 (codes "c") (at 38 37 1521)) (MoreArguments (var 7 (codes "l")
    (at 38 40 1524)) (MoreArguments (var 8 (codes "x") (at 38 43 1527)) (MoreArguments (var 0 (codes "t")
    (at 38 46 1530)) NoArguments))))) (MoreArguments (var 9 (codes "v") (at 38 50 1534)) NoArguments))))
    NoClauses)))

abbrev pub close : Instance
close =
    record {
      name = codes "close";
      place = (at 34 9 1379);
      root = true;
      kind = Fip;
      params = owned 2 ∷ owned 4 ∷ [];
      binders = bound 0 (codes "t") 2 (at 34 15 1385) ∷ bound 1 (codes "w") 4 (at 34 22 1392) ∷ [];
      credits = [];
      results = 2 ∷ [];
      results_place = None;
      signature_tuples = [];
      variables = 10;
      body = close_body;
    }
