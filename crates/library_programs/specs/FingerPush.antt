-- Of the program of the text `finger`: push and close.
use Rattle.std.specs.Prelude.{pos, true, [], ◌∷◌, Some, None, codes}
use Rattle.fip_language.specs.declared.FunKind.TheVariants.{Fip}
use Rattle.fip_trees.specs.Tree.{Literal, Constructor, NoArguments, MoreArguments, ConstructorPattern, NoPatterns}
use Rattle.fip_trees.specs.Tree.{MorePatterns, Give, Tuple, Call, Match, Last, Let, NoClauses, MoreClauses, Block}
use Rattle.fip_trees.specs.Tree.{Instance}
use Rattle.fip_trees.specs.TreeView.{Case}
use Rattle.library_programs.specs.Parts.{at, bound, var, taken, owned}

abbrev pub push_1 : Case
push_1 =
    record {
      pattern = ConstructorPattern 2 4 0 (codes "Empty") (at 57 5 2128) NoPatterns;
      body =
          Let (bound 4 (codes "t") 2 (at 58 11 2147) ∷ []) (Call 5 (codes "close") (at 58 15 2151)
          (MoreArguments (Constructor 2 4 1 (codes "Unit") (at 58 21 2157) (MoreArguments (var 0 (codes "e")
          (at 58 26 2162)) (MoreArguments (Literal (pos 0) (at 58 29 2165)) (MoreArguments (Literal (pos 0)
          (at 58 32 2168)) NoArguments)))) (MoreArguments (var 3 (codes "w") (at 58 36 2172)) NoArguments)))
          (Last (Tuple (at 59 7 2182) (MoreArguments (var 4 (codes "t") (at 59 8 2183)) (MoreArguments
          (Constructor 4 5 1 (codes "Pad3") (at 59 11 2186) (MoreArguments (Literal (pos 0) (at 59 16 2191))
          (MoreArguments (Literal (pos 0) (at 59 19 2194)) (MoreArguments (var 2 (codes "p")
          (at 59 22 2197)) NoArguments)))) NoArguments))));
    }

abbrev pub push_2 : Case
push_2 =
    record {
      pattern =
          ConstructorPattern 2 4 1 (codes "Unit") (at 60 5 2206) (MorePatterns (taken 5 (codes "a") 5
          (at 60 10 2211)) (MorePatterns (taken 6 (codes "_") 0 (at 60 13 2214)) (MorePatterns (taken 7
          (codes "_") 0 (at 60 16 2217)) NoPatterns)));
      body =
          Let (bound 8 (codes "t") 2 (at 61 11 2233) ∷ []) (Call 5 (codes "close") (at 61 15 2237)
          (MoreArguments (Constructor 2 4 2 (codes "More") (at 61 21 2243) (MoreArguments (Constructor 3 3 0
          (codes "One") (at 61 26 2248) (MoreArguments (var 0 (codes "e") (at 61 30 2252)) (MoreArguments
          (Literal (pos 0) (at 61 33 2255)) (MoreArguments (Literal (pos 0) (at 61 36 2258)) NoArguments))))
          (MoreArguments (Constructor 2 4 0 (codes "Empty") (at 61 40 2262) NoArguments) (MoreArguments
          (Constructor 3 3 0 (codes "One") (at 61 47 2269) (MoreArguments (var 5 (codes "a")
          (at 61 51 2273)) (MoreArguments (Literal (pos 0) (at 61 54 2276)) (MoreArguments (Literal (pos 0)
          (at 61 57 2279)) NoArguments)))) NoArguments)))) (MoreArguments (var 3 (codes "w")
          (at 61 62 2284)) NoArguments))) (Last (Tuple (at 62 7 2294) (MoreArguments (var 8 (codes "t")
          (at 62 8 2295)) (MoreArguments (var 2 (codes "p") (at 62 11 2298)) NoArguments))));
    }

abbrev pub push_3 : Case
push_3 =
    record {
      pattern =
          ConstructorPattern 2 4 2 (codes "More") (at 63 5 2306) (MorePatterns (ConstructorPattern 3 3 0
          (codes "One") (at 63 10 2311) (MorePatterns (taken 9 (codes "a") 5 (at 63 14 2315)) (MorePatterns
          (taken 10 (codes "_") 0 (at 63 17 2318)) (MorePatterns (taken 11 (codes "_") 0 (at 63 20 2321))
          NoPatterns)))) (MorePatterns (taken 12 (codes "q") 2 (at 63 24 2325)) (MorePatterns (taken 13
          (codes "r") 3 (at 63 27 2328)) NoPatterns)));
      body =
          Let (bound 14 (codes "t") 2 (at 64 11 2344) ∷ []) (Call 5 (codes "close") (at 64 15 2348)
          (MoreArguments (Constructor 2 4 2 (codes "More") (at 64 21 2354) (MoreArguments (Constructor 3 3 1
          (codes "Two") (at 64 26 2359) (MoreArguments (var 0 (codes "e") (at 64 30 2363)) (MoreArguments
          (var 9 (codes "a") (at 64 33 2366)) (MoreArguments (Literal (pos 0) (at 64 36 2369))
          NoArguments)))) (MoreArguments (var 12 (codes "q") (at 64 40 2373)) (MoreArguments (var 13
          (codes "r") (at 64 43 2376)) NoArguments)))) (MoreArguments (var 3 (codes "w") (at 64 47 2380))
          NoArguments))) (Last (Tuple (at 65 7 2390) (MoreArguments (var 14 (codes "t") (at 65 8 2391))
          (MoreArguments (Constructor 4 5 1 (codes "Pad3") (at 65 11 2394) (MoreArguments (Literal (pos 0)
          (at 65 16 2399)) (MoreArguments (Literal (pos 0) (at 65 19 2402)) (MoreArguments (Constructor 4 5
          1 (codes "Pad3") (at 65 22 2405) (MoreArguments (Literal (pos 0) (at 65 27 2410)) (MoreArguments
          (Literal (pos 0) (at 65 30 2413)) (MoreArguments (var 2 (codes "p") (at 65 33 2416))
          NoArguments)))) NoArguments)))) NoArguments))));
    }

abbrev pub push_4 : Case
push_4 =
    record {
      pattern =
          ConstructorPattern 2 4 2 (codes "More") (at 66 5 2426) (MorePatterns (ConstructorPattern 3 3 1
          (codes "Two") (at 66 10 2431) (MorePatterns (taken 15 (codes "a") 5 (at 66 14 2435)) (MorePatterns
          (taken 16 (codes "b") 5 (at 66 17 2438)) (MorePatterns (taken 17 (codes "_") 0 (at 66 20 2441))
          NoPatterns)))) (MorePatterns (taken 18 (codes "q") 2 (at 66 24 2445)) (MorePatterns (taken 19
          (codes "r") 3 (at 66 27 2448)) NoPatterns)));
      body =
          Let (bound 20 (codes "t") 2 (at 67 11 2464) ∷ []) (Call 5 (codes "close") (at 67 15 2468)
          (MoreArguments (Constructor 2 4 2 (codes "More") (at 67 21 2474) (MoreArguments (Constructor 3 3 2
          (codes "Three") (at 67 26 2479) (MoreArguments (var 0 (codes "e") (at 67 32 2485)) (MoreArguments
          (var 15 (codes "a") (at 67 35 2488)) (MoreArguments (var 16 (codes "b") (at 67 38 2491))
          NoArguments)))) (MoreArguments (var 18 (codes "q") (at 67 42 2495)) (MoreArguments (var 19
          (codes "r") (at 67 45 2498)) NoArguments)))) (MoreArguments (var 3 (codes "w") (at 67 49 2502))
          NoArguments))) (Last (Tuple (at 68 7 2512) (MoreArguments (var 20 (codes "t") (at 68 8 2513))
          (MoreArguments (Constructor 4 5 1 (codes "Pad3") (at 68 11 2516) (MoreArguments (Literal (pos 0)
          (at 68 16 2521)) (MoreArguments (Literal (pos 0) (at 68 19 2524)) (MoreArguments (Constructor 4 5
          1 (codes "Pad3") (at 68 22 2527) (MoreArguments (Literal (pos 0) (at 68 27 2532)) (MoreArguments
          (Literal (pos 0) (at 68 30 2535)) (MoreArguments (var 2 (codes "p") (at 68 33 2538))
          NoArguments)))) NoArguments)))) NoArguments))));
    }

abbrev pub push_5_1 : Case
push_5_1 =
    record {
      pattern =
          ConstructorPattern 4 5 1 (codes "Pad3") (at 70 7 2595) (MorePatterns (taken 26 (codes "_") 0
          (at 70 12 2600)) (MorePatterns (taken 27 (codes "_") 0 (at 70 15 2603)) (MorePatterns (taken 28
          (codes "o") 4 (at 70 18 2606)) NoPatterns)));
      body =
          Last (Call 4 (codes "push") (at 70 24 2612) (MoreArguments (Constructor 5 2 1 (codes "Pair")
          (at 70 29 2617) (MoreArguments (var 22 (codes "b") (at 70 34 2622)) (MoreArguments (var 23
          (codes "c") (at 70 37 2625)) (MoreArguments (Literal (pos 0) (at 70 40 2628)) NoArguments))))
          (MoreArguments (var 24 (codes "q") (at 70 44 2632)) (MoreArguments (var 28 (codes "o")
          (at 70 47 2635)) (MoreArguments (Constructor 6 6 1 (codes "Around") (at 70 50 2638) (MoreArguments
          (Constructor 3 3 1 (codes "Two") (at 70 57 2645) (MoreArguments (var 0 (codes "e")
          (at 70 61 2649)) (MoreArguments (var 21 (codes "a") (at 70 64 2652)) (MoreArguments (Literal (pos
          0) (at 70 67 2655)) NoArguments)))) (MoreArguments (var 3 (codes "w") (at 70 71 2659))
          (MoreArguments (var 25 (codes "r") (at 70 74 2662)) NoArguments)))) NoArguments)))));
    }

abbrev pub push_5_2 : Case
push_5_2 =
    record {
      pattern = ConstructorPattern 4 5 0 (codes "Done") (at 71 7 2673) NoPatterns;
      body =
          Let (bound 29 (codes "t") 2 (at 72 13 2693) ∷ []) (Call 5 (codes "close") (at 72 17 2697)
          (MoreArguments (Constructor 2 4 2 (codes "More") (at 72 23 2703) (MoreArguments (Constructor 3 3 2
          (codes "Three") (at 72 28 2708) (MoreArguments (var 0 (codes "e") (at 72 34 2714)) (MoreArguments
          (Constructor 5 2 1 (codes "Pair") (at 72 37 2717) (MoreArguments (var 21 (codes "a")
          (at 72 42 2722)) (MoreArguments (var 22 (codes "b") (at 72 45 2725)) (MoreArguments (Literal (pos
          0) (at 72 48 2728)) NoArguments)))) (MoreArguments (var 23 (codes "c") (at 72 52 2732))
          NoArguments)))) (MoreArguments (var 24 (codes "q") (at 72 56 2736)) (MoreArguments (var 25
          (codes "r") (at 72 59 2739)) NoArguments)))) (MoreArguments (var 3 (codes "w") (at 72 63 2743))
          NoArguments))) (Last (Tuple (at 73 9 2755) (MoreArguments (var 29 (codes "t") (at 73 10 2756))
          (MoreArguments (Constructor 4 5 1 (codes "Pad3") (at 73 13 2759) (MoreArguments (Literal (pos 0)
          (at 73 18 2764)) (MoreArguments (Literal (pos 0) (at 73 21 2767)) (MoreArguments (Constructor 4 5
          0 (codes "Done") (at 73 24 2770) NoArguments) NoArguments)))) NoArguments))));
    }

abbrev pub push_5 : Case
push_5 =
    record {
      pattern =
          ConstructorPattern 2 4 2 (codes "More") (at 69 5 2548) (MorePatterns (ConstructorPattern 3 3 2
          (codes "Three") (at 69 10 2553) (MorePatterns (taken 21 (codes "a") 5 (at 69 16 2559))
          (MorePatterns (taken 22 (codes "b") 5 (at 69 19 2562)) (MorePatterns (taken 23 (codes "c") 5
          (at 69 22 2565)) NoPatterns)))) (MorePatterns (taken 24 (codes "q") 2 (at 69 26 2569))
          (MorePatterns (taken 25 (codes "r") 3 (at 69 29 2572)) NoPatterns)));
      body =
          Last (Match true 4 (at 69 35 2578) (var 2 (codes "p") (at 69 42 2585)) push_5_1.pattern
          push_5_1.body (MoreClauses push_5_2.pattern push_5_2.body NoClauses));
    }

abbrev pub push_body : Block
push_body =
    Last (Match true 2 (at 56 3 2113) (var 1 (codes "s") (at 56 10 2120)) push_1.pattern push_1.body
    (MoreClauses push_2.pattern push_2.body (MoreClauses push_3.pattern push_3.body (MoreClauses
    push_4.pattern push_4.body (MoreClauses push_5.pattern push_5.body NoClauses)))))

abbrev pub push : Instance
push =
    record {
      name = codes "push";
      place = (at 55 15 2053);
      root = true;
      kind = Fip;
      params = owned 5 ∷ owned 2 ∷ owned 4 ∷ owned 6 ∷ [];
      binders =
          bound 0 (codes "e") 5 (at 55 20 2058) ∷ bound 1 (codes "s") 2 (at 55 29 2067) ∷ bound 2
          (codes "p") 4 (at 55 37 2075) ∷ bound 3 (codes "w") 6 (at 55 48 2086) ∷ [];
      credits = 3 ∷ 3 ∷ [];
      results = 2 ∷ 4 ∷ [];
      results_place = Some (at 55 57 2095);
      signature_tuples = [];
      variables = 30;
      body = push_body;
    }

abbrev pub close_body : Block
close_body =
    Last (Match true 6 (at 80 3 2874) (var 1 (codes "w") (at 80 10 2881)) (ConstructorPattern 6 6 0
    (codes "Top") (at 81 5 2889) NoPatterns) (Last (Give (var 0 (codes "s") (at 81 12 2896)))) (MoreClauses
    (ConstructorPattern 6 6 1 (codes "Around") (at 82 5 2903) (MorePatterns (taken 2 (codes "front") 3
    (at 82 12 2910)) (MorePatterns (taken 3 (codes "v") 6 (at 82 19 2917)) (MorePatterns (taken 4
    (codes "back") 3 (at 82 22 2920)) NoPatterns)))) (Last (Call 5 (codes "close") (at 82 31 2929)
    (MoreArguments (Constructor 2 4 2 (codes "More") (at 82 37 2935) (MoreArguments (var 2 (codes "front")
    (at 82 42 2940)) (MoreArguments (var 0 (codes "s") (at 82 49 2947)) (MoreArguments (var 4 (codes "back")
    (at 82 52 2950)) NoArguments)))) (MoreArguments (var 3 (codes "v") (at 82 59 2957)) NoArguments))))
    NoClauses))

abbrev pub close : Instance
close =
    record {
      name = codes "close";
      place = (at 79 9 2843);
      root = true;
      kind = Fip;
      params = owned 2 ∷ owned 6 ∷ [];
      binders = bound 0 (codes "s") 2 (at 79 15 2849) ∷ bound 1 (codes "w") 6 (at 79 23 2857) ∷ [];
      credits = [];
      results = 2 ∷ [];
      results_place = None;
      signature_tuples = [];
      variables = 5;
      body = close_body;
    }
