-- Of the program of the text `finger`: need, full, holds and cons.
use Rattle.std.specs.Prelude.{pos, true, false, [], ◌∷◌, Some, None, codes}
use Rattle.fip_language.specs.declared.FunKind.TheVariants.{Fip}
use Rattle.fip_language.specs.declared.Operator.TheVariants as O
use Rattle.fip_trees.specs.Tree.{Literal, Constructor, NoArguments, MoreArguments, ConstructorPattern, NoPatterns}
use Rattle.fip_trees.specs.Tree.{MorePatterns, Give, Tuple, Operation, Call, Match, Last, Let, NoClauses, MoreClauses}
use Rattle.fip_trees.specs.Tree.{Block, Instance}
use Rattle.fip_trees.specs.TreeView.{Case}
use Rattle.library_programs.specs.Parts.{at, bound, var, taken, owned, borrowed}

abbrev pub need_body : Block
need_body =
    Last (Call 1 (codes "full") (at 21 30 973) (MoreArguments (var 0 (codes "s") (at 21 35 978))
    (MoreArguments (Literal (pos 3) (at 21 38 981)) NoArguments)))

abbrev pub need : Instance
need =
    record {
      name = codes "need";
      place = (at 21 9 952);
      root = true;
      kind = Fip;
      params = borrowed 2 ∷ [];
      binders = bound 0 (codes "s") 2 (at 21 15 958) ∷ [];
      credits = [];
      results = 0 ∷ [];
      results_place = None;
      signature_tuples = [];
      variables = 1;
      body = need_body;
    }

abbrev pub full_body : Block
full_body =
    Last (Match false 2 (at 24 3 1026) (var 0 (codes "s") (at 24 9 1032)) (ConstructorPattern 2 4 2
    (codes "More") (at 25 5 1040) (MorePatterns (ConstructorPattern 3 3 2 (codes "Three") (at 25 10 1045)
    (MorePatterns (taken 2 (codes "_") 5 (at 25 16 1051)) (MorePatterns (taken 3 (codes "_") 5
    (at 25 19 1054)) (MorePatterns (taken 4 (codes "_") 5 (at 25 22 1057)) NoPatterns)))) (MorePatterns
    (taken 5 (codes "q") 2 (at 25 26 1061)) (MorePatterns (taken 6 (codes "_") 3 (at 25 29 1064))
    NoPatterns)))) (Let (bound 7 (codes "_") 0 (at 25 45 1080) ∷ []) (Operation O.Add (at 25 45 1080) (var 1
    (codes "n") (at 25 43 1078)) (Literal (pos 1) (at 25 47 1082))) (Last (Call 1 (codes "full")
    (at 25 35 1070) (MoreArguments (var 5 (codes "q") (at 25 40 1075)) (MoreArguments (var 7 (codes "_")
    (at 25 45 1080)) NoArguments))))) (MoreClauses (taken 8 (codes "_") 2 (at 26 5 1090)) (Last (Give (var 1
    (codes "n") (at 26 10 1095)))) NoClauses))

abbrev pub full : Instance
full =
    record {
      name = codes "full";
      place = (at 23 9 995);
      root = true;
      kind = Fip;
      params = borrowed 2 ∷ owned 0 ∷ [];
      binders = bound 0 (codes "s") 2 (at 23 15 1001) ∷ bound 1 (codes "n") 0 (at 23 23 1009) ∷ [];
      credits = [];
      results = 0 ∷ [];
      results_place = None;
      signature_tuples = [];
      variables = 9;
      body = full_body;
    }

abbrev pub holds_body : Block
holds_body =
    Let (bound 2 (codes "_") 1 (at 32 8 1189) ∷ []) (Operation O.LessOrEqual (at 32 8 1189) (var 1
    (codes "n") (at 32 6 1187)) (Literal (pos 0) (at 32 11 1192))) (Last (Match false 1 (at 32 3 1184) (var
    2 (codes "_") (at 32 8 1189)) (ConstructorPattern 1 1 1 (codes "True") (at 32 3 1184) NoPatterns) (Last
    (Give (Constructor 1 1 1 (codes "True") (at 32 15 1196) NoArguments))) (MoreClauses (ConstructorPattern
    1 1 0 (codes "False") (at 32 3 1184) NoPatterns) (Last (Match false 4 (at 33 10 1212) (var 0 (codes "p")
    (at 33 16 1218)) (ConstructorPattern 4 5 0 (codes "Done") (at 33 20 1222) NoPatterns) (Last (Give
    (Constructor 1 1 0 (codes "False") (at 33 28 1230) NoArguments))) (MoreClauses (ConstructorPattern 4 5 1
    (codes "Pad3") (at 33 35 1237) (MorePatterns (taken 3 (codes "_") 0 (at 33 40 1242)) (MorePatterns
    (taken 4 (codes "_") 0 (at 33 43 1245)) (MorePatterns (taken 5 (codes "q") 4 (at 33 46 1248))
    NoPatterns)))) (Let (bound 6 (codes "_") 0 (at 33 63 1265) ∷ []) (Operation O.Subtract (at 33 63 1265)
    (var 1 (codes "n") (at 33 61 1263)) (Literal (pos 1) (at 33 65 1267))) (Last (Call 2 (codes "holds")
    (at 33 52 1254) (MoreArguments (var 5 (codes "q") (at 33 58 1260)) (MoreArguments (var 6 (codes "_")
    (at 33 63 1265)) NoArguments))))) NoClauses))) NoClauses)))

abbrev pub holds : Instance
holds =
    record {
      name = codes "holds";
      place = (at 31 9 1148);
      root = true;
      kind = Fip;
      params = borrowed 4 ∷ owned 0 ∷ [];
      binders = bound 0 (codes "p") 4 (at 31 16 1155) ∷ bound 1 (codes "n") 0 (at 31 27 1166) ∷ [];
      credits = [];
      results = 1 ∷ [];
      results_place = None;
      signature_tuples = [];
      variables = 7;
      body = holds_body;
    }

abbrev pub cons_1_1 : Case
cons_1_1 =
    record {
      pattern =
          ConstructorPattern 4 5 1 (codes "Pad3") (at 43 7 1542) (MorePatterns (taken 5 (codes "_") 0
          (at 43 12 1547)) (MorePatterns (taken 6 (codes "_") 0 (at 43 15 1550)) (MorePatterns
          (ConstructorPattern 4 5 1 (codes "Pad3") (at 43 18 1553) (MorePatterns (taken 7 (codes "_") 0
          (at 43 23 1558)) (MorePatterns (taken 8 (codes "_") 0 (at 43 26 1561)) (MorePatterns
          (ConstructorPattern 4 5 1 (codes "Pad3") (at 43 29 1564) (MorePatterns (taken 9 (codes "_") 0
          (at 43 34 1569)) (MorePatterns (taken 10 (codes "_") 0 (at 43 37 1572)) (MorePatterns (taken 11
          (codes "q") 4 (at 43 40 1575)) NoPatterns)))) NoPatterns)))) NoPatterns)));
      body =
          Let (bound 12 (codes "t") 2 (at 44 14 1596) ∷ bound 13 (codes "left") 4 (at 44 17 1599) ∷ [])
          (Call 4 (codes "push") (at 44 25 1607) (MoreArguments (Constructor 5 2 0 (codes "Item")
          (at 44 30 1612) (MoreArguments (var 0 (codes "x") (at 44 35 1617)) (MoreArguments (Literal (pos 0)
          (at 44 38 1620)) (MoreArguments (Literal (pos 0) (at 44 41 1623)) NoArguments)))) (MoreArguments
          (var 1 (codes "s") (at 44 45 1627)) (MoreArguments (var 11 (codes "q") (at 44 48 1630))
          (MoreArguments (Constructor 6 6 0 (codes "Top") (at 44 51 1633) NoArguments) NoArguments)))))
          (Last (Tuple (at 45 9 1647) (MoreArguments (var 12 (codes "t") (at 45 10 1648)) (MoreArguments
          (var 13 (codes "left") (at 45 13 1651)) (MoreArguments (Constructor 1 1 1 (codes "True")
          (at 45 19 1657) NoArguments) NoArguments)))));
    }

abbrev pub cons_1_2 : Case
cons_1_2 =
    record {
      pattern = taken 14 (codes "q") 4 (at 46 7 1670);
      body =
          Last (Tuple (at 46 12 1675) (MoreArguments (var 1 (codes "s") (at 46 13 1676)) (MoreArguments (var
          14 (codes "q") (at 46 16 1679)) (MoreArguments (Constructor 1 1 0 (codes "False") (at 46 19 1682)
          NoArguments) NoArguments))));
    }

abbrev pub cons_1 : Case
cons_1 =
    record {
      pattern = ConstructorPattern 1 1 1 (codes "True") (at 41 3 1509) NoPatterns;
      body =
          Last (Match true 4 (at 42 5 1525) (var 2 (codes "p") (at 42 12 1532)) cons_1_1.pattern
          cons_1_1.body (MoreClauses cons_1_2.pattern cons_1_2.body NoClauses));
    }

abbrev pub cons_2 : Case
cons_2 =
    record {
      pattern = ConstructorPattern 1 1 0 (codes "False") (at 41 3 1509) NoPatterns;
      body =
          Last (Tuple (at 48 12 1706) (MoreArguments (var 1 (codes "s") (at 48 13 1707)) (MoreArguments (var
          2 (codes "p") (at 48 16 1710)) (MoreArguments (Constructor 1 1 0 (codes "False") (at 48 19 1713)
          NoArguments) NoArguments))));
    }

abbrev pub cons_body : Block
cons_body =
    Let (bound 3 (codes "n") 0 (at 39 7 1466) ∷ []) (Call 0 (codes "need") (at 39 11 1470) (MoreArguments
    (var 1 (codes "s") (at 39 16 1475)) NoArguments)) (Let (bound 4 (codes "enough") 1 (at 40 7 1485) ∷ [])
    (Call 2 (codes "holds") (at 40 16 1494) (MoreArguments (var 2 (codes "p") (at 40 22 1500))
    (MoreArguments (var 3 (codes "n") (at 40 25 1503)) NoArguments))) (Last (Match false 1 (at 41 3 1509)
    (var 4 (codes "enough") (at 41 6 1512)) cons_1.pattern cons_1.body (MoreClauses cons_2.pattern
    cons_2.body NoClauses))))

abbrev pub cons : Instance
cons =
    record {
      name = codes "cons";
      place = (at 38 9 1405);
      root = true;
      kind = Fip;
      params = owned 0 ∷ owned 2 ∷ owned 4 ∷ [];
      binders =
          bound 0 (codes "x") 0 (at 38 14 1410) ∷ bound 1 (codes "s") 2 (at 38 22 1418) ∷ bound 2
          (codes "p") 4 (at 38 30 1426) ∷ [];
      credits = [];
      results = 2 ∷ 4 ∷ 1 ∷ [];
      results_place = Some (at 38 42 1438);
      signature_tuples = [];
      variables = 15;
      body = cons_body;
    }
