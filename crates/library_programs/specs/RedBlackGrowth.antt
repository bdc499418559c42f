-- Of the program of the text `rbtree`: grow.
use Rattle.std.specs.Prelude.{true, [], ◌∷◌, None, codes}
use Rattle.fip_language.specs.declared.FunKind.TheVariants.{Fip}
use Rattle.fip_trees.specs.Tree.{Constructor, NoArguments, MoreArguments, ConstructorPattern, NoPatterns, MorePatterns}
use Rattle.fip_trees.specs.Tree.{Give, Call, Match, Last, NoClauses, MoreClauses, Block, Instance}
use Rattle.fip_trees.specs.TreeView.{Case}
use Rattle.library_programs.specs.Parts.{at, bound, var, taken, owned}

abbrev pub grow_1 : Case
grow_1 =
    record {
      pattern = ConstructorPattern 4 6 0 (codes "Top") (at 48 5 1931) NoPatterns;
      body =
          Last (Give (Constructor 2 3 1 (codes "Node") (at 48 12 1938) (MoreArguments (Constructor 5 2 1
          (codes "Black") (at 48 17 1943) NoArguments) (MoreArguments (var 0 (codes "l") (at 48 24 1950))
          (MoreArguments (var 1 (codes "k") (at 48 27 1953)) (MoreArguments (var 2 (codes "r")
          (at 48 30 1956)) NoArguments))))));
    }

abbrev pub grow_2 : Case
grow_2 =
    record {
      pattern =
          ConstructorPattern 4 6 1 (codes "Left") (at 49 5 1964) (MorePatterns (ConstructorPattern 5 2 1
          (codes "Black") (at 49 10 1969) NoPatterns) (MorePatterns (taken 4 (codes "v") 4 (at 49 17 1976))
          (MorePatterns (taken 5 (codes "x") 0 (at 49 20 1979)) (MorePatterns (taken 6 (codes "s") 2
          (at 49 23 1982)) NoPatterns))));
      body =
          Last (Call 2 (codes "close") (at 49 29 1988) (MoreArguments (Constructor 2 3 1 (codes "Node")
          (at 49 35 1994) (MoreArguments (Constructor 5 2 1 (codes "Black") (at 49 40 1999) NoArguments)
          (MoreArguments (Constructor 2 3 1 (codes "Node") (at 49 47 2006) (MoreArguments (Constructor 5 2 0
          (codes "Red") (at 49 52 2011) NoArguments) (MoreArguments (var 0 (codes "l") (at 49 57 2016))
          (MoreArguments (var 1 (codes "k") (at 49 60 2019)) (MoreArguments (var 2 (codes "r")
          (at 49 63 2022)) NoArguments))))) (MoreArguments (var 5 (codes "x") (at 49 67 2026))
          (MoreArguments (var 6 (codes "s") (at 49 70 2029)) NoArguments))))) (MoreArguments (var 4
          (codes "v") (at 49 74 2033)) NoArguments)));
    }

abbrev pub grow_3 : Case
grow_3 =
    record {
      pattern =
          ConstructorPattern 4 6 2 (codes "Right") (at 50 5 2041) (MorePatterns (ConstructorPattern 5 2 1
          (codes "Black") (at 50 11 2047) NoPatterns) (MorePatterns (taken 7 (codes "s") 2 (at 50 18 2054))
          (MorePatterns (taken 8 (codes "x") 0 (at 50 21 2057)) (MorePatterns (taken 9 (codes "v") 4
          (at 50 24 2060)) NoPatterns))));
      body =
          Last (Call 2 (codes "close") (at 50 30 2066) (MoreArguments (Constructor 2 3 1 (codes "Node")
          (at 50 36 2072) (MoreArguments (Constructor 5 2 1 (codes "Black") (at 50 41 2077) NoArguments)
          (MoreArguments (var 7 (codes "s") (at 50 48 2084)) (MoreArguments (var 8 (codes "x")
          (at 50 51 2087)) (MoreArguments (Constructor 2 3 1 (codes "Node") (at 50 54 2090) (MoreArguments
          (Constructor 5 2 0 (codes "Red") (at 50 59 2095) NoArguments) (MoreArguments (var 0 (codes "l")
          (at 50 64 2100)) (MoreArguments (var 1 (codes "k") (at 50 67 2103)) (MoreArguments (var 2
          (codes "r") (at 50 70 2106)) NoArguments))))) NoArguments))))) (MoreArguments (var 9 (codes "v")
          (at 50 75 2111)) NoArguments)));
    }

abbrev pub grow_4 : Case
grow_4 =
    record {
      pattern =
          ConstructorPattern 4 6 1 (codes "Left") (at 51 5 2119) (MorePatterns (ConstructorPattern 5 2 0
          (codes "Red") (at 51 10 2124) NoPatterns) (MorePatterns (ConstructorPattern 4 6 0 (codes "Top")
          (at 51 15 2129) NoPatterns) (MorePatterns (taken 10 (codes "x") 0 (at 51 20 2134)) (MorePatterns
          (taken 11 (codes "s") 2 (at 51 23 2137)) NoPatterns))));
      body =
          Last (Give (Constructor 2 3 1 (codes "Node") (at 51 29 2143) (MoreArguments (Constructor 5 2 1
          (codes "Black") (at 51 34 2148) NoArguments) (MoreArguments (Constructor 2 3 1 (codes "Node")
          (at 51 41 2155) (MoreArguments (Constructor 5 2 0 (codes "Red") (at 51 46 2160) NoArguments)
          (MoreArguments (var 0 (codes "l") (at 51 51 2165)) (MoreArguments (var 1 (codes "k")
          (at 51 54 2168)) (MoreArguments (var 2 (codes "r") (at 51 57 2171)) NoArguments)))))
          (MoreArguments (var 10 (codes "x") (at 51 61 2175)) (MoreArguments (var 11 (codes "s")
          (at 51 64 2178)) NoArguments))))));
    }

abbrev pub grow_5 : Case
grow_5 =
    record {
      pattern =
          ConstructorPattern 4 6 2 (codes "Right") (at 52 5 2186) (MorePatterns (ConstructorPattern 5 2 0
          (codes "Red") (at 52 11 2192) NoPatterns) (MorePatterns (taken 12 (codes "s") 2 (at 52 16 2197))
          (MorePatterns (taken 13 (codes "x") 0 (at 52 19 2200)) (MorePatterns (ConstructorPattern 4 6 0
          (codes "Top") (at 52 22 2203) NoPatterns) NoPatterns))));
      body =
          Last (Give (Constructor 2 3 1 (codes "Node") (at 52 30 2211) (MoreArguments (Constructor 5 2 1
          (codes "Black") (at 52 35 2216) NoArguments) (MoreArguments (var 12 (codes "s") (at 52 42 2223))
          (MoreArguments (var 13 (codes "x") (at 52 45 2226)) (MoreArguments (Constructor 2 3 1
          (codes "Node") (at 52 48 2229) (MoreArguments (Constructor 5 2 0 (codes "Red") (at 52 53 2234)
          NoArguments) (MoreArguments (var 0 (codes "l") (at 52 58 2239)) (MoreArguments (var 1 (codes "k")
          (at 52 61 2242)) (MoreArguments (var 2 (codes "r") (at 52 64 2245)) NoArguments)))))
          NoArguments))))));
    }

abbrev pub grow_6 : Case
grow_6 =
    record {
      pattern =
          ConstructorPattern 4 6 1 (codes "Left") (at 53 5 2254) (MorePatterns (ConstructorPattern 5 2 0
          (codes "Red") (at 53 10 2259) NoPatterns) (MorePatterns (ConstructorPattern 4 6 1 (codes "Left")
          (at 53 15 2264) (MorePatterns (taken 14 (codes "_") 5 (at 53 20 2269)) (MorePatterns (taken 15
          (codes "v") 4 (at 53 23 2272)) (MorePatterns (taken 16 (codes "y") 0 (at 53 26 2275))
          (MorePatterns (taken 17 (codes "b") 2 (at 53 29 2278)) NoPatterns))))) (MorePatterns (taken 18
          (codes "x") 0 (at 53 33 2282)) (MorePatterns (taken 19 (codes "a") 2 (at 53 36 2285))
          NoPatterns))));
      body =
          Last (Call 3 (codes "grow") (at 53 42 2291) (MoreArguments (Constructor 2 3 1 (codes "Node")
          (at 53 47 2296) (MoreArguments (Constructor 5 2 1 (codes "Black") (at 53 52 2301) NoArguments)
          (MoreArguments (var 0 (codes "l") (at 53 59 2308)) (MoreArguments (var 1 (codes "k")
          (at 53 62 2311)) (MoreArguments (var 2 (codes "r") (at 53 65 2314)) NoArguments)))))
          (MoreArguments (var 18 (codes "x") (at 53 69 2318)) (MoreArguments (Constructor 2 3 1
          (codes "Node") (at 53 72 2321) (MoreArguments (Constructor 5 2 1 (codes "Black") (at 53 77 2326)
          NoArguments) (MoreArguments (var 19 (codes "a") (at 53 84 2333)) (MoreArguments (var 16
          (codes "y") (at 53 87 2336)) (MoreArguments (var 17 (codes "b") (at 53 90 2339)) NoArguments)))))
          (MoreArguments (var 15 (codes "v") (at 53 94 2343)) NoArguments)))));
    }

abbrev pub grow_7 : Case
grow_7 =
    record {
      pattern =
          ConstructorPattern 4 6 2 (codes "Right") (at 54 5 2351) (MorePatterns (ConstructorPattern 5 2 0
          (codes "Red") (at 54 11 2357) NoPatterns) (MorePatterns (taken 20 (codes "b") 2 (at 54 16 2362))
          (MorePatterns (taken 21 (codes "x") 0 (at 54 19 2365)) (MorePatterns (ConstructorPattern 4 6 1
          (codes "Left") (at 54 22 2368) (MorePatterns (taken 22 (codes "_") 5 (at 54 27 2373))
          (MorePatterns (taken 23 (codes "v") 4 (at 54 30 2376)) (MorePatterns (taken 24 (codes "y") 0
          (at 54 33 2379)) (MorePatterns (taken 25 (codes "a") 2 (at 54 36 2382)) NoPatterns)))))
          NoPatterns))));
      body =
          Last (Call 3 (codes "grow") (at 54 43 2389) (MoreArguments (Constructor 2 3 1 (codes "Node")
          (at 54 48 2394) (MoreArguments (Constructor 5 2 1 (codes "Black") (at 54 53 2399) NoArguments)
          (MoreArguments (var 20 (codes "b") (at 54 60 2406)) (MoreArguments (var 21 (codes "x")
          (at 54 63 2409)) (MoreArguments (var 0 (codes "l") (at 54 66 2412)) NoArguments)))))
          (MoreArguments (var 1 (codes "k") (at 54 70 2416)) (MoreArguments (Constructor 2 3 1
          (codes "Node") (at 54 73 2419) (MoreArguments (Constructor 5 2 1 (codes "Black") (at 54 78 2424)
          NoArguments) (MoreArguments (var 2 (codes "r") (at 54 85 2431)) (MoreArguments (var 24 (codes "y")
          (at 54 88 2434)) (MoreArguments (var 25 (codes "a") (at 54 91 2437)) NoArguments)))))
          (MoreArguments (var 23 (codes "v") (at 54 95 2441)) NoArguments)))));
    }

abbrev pub grow_8 : Case
grow_8 =
    record {
      pattern =
          ConstructorPattern 4 6 1 (codes "Left") (at 55 5 2449) (MorePatterns (ConstructorPattern 5 2 0
          (codes "Red") (at 55 10 2454) NoPatterns) (MorePatterns (ConstructorPattern 4 6 2 (codes "Right")
          (at 55 15 2459) (MorePatterns (taken 26 (codes "_") 5 (at 55 21 2465)) (MorePatterns (taken 27
          (codes "a") 2 (at 55 24 2468)) (MorePatterns (taken 28 (codes "y") 0 (at 55 27 2471))
          (MorePatterns (taken 29 (codes "v") 4 (at 55 30 2474)) NoPatterns))))) (MorePatterns (taken 30
          (codes "x") 0 (at 55 34 2478)) (MorePatterns (taken 31 (codes "b") 2 (at 55 37 2481))
          NoPatterns))));
      body =
          Last (Call 3 (codes "grow") (at 55 43 2487) (MoreArguments (Constructor 2 3 1 (codes "Node")
          (at 55 48 2492) (MoreArguments (Constructor 5 2 1 (codes "Black") (at 55 53 2497) NoArguments)
          (MoreArguments (var 27 (codes "a") (at 55 60 2504)) (MoreArguments (var 28 (codes "y")
          (at 55 63 2507)) (MoreArguments (var 0 (codes "l") (at 55 66 2510)) NoArguments)))))
          (MoreArguments (var 1 (codes "k") (at 55 70 2514)) (MoreArguments (Constructor 2 3 1
          (codes "Node") (at 55 73 2517) (MoreArguments (Constructor 5 2 1 (codes "Black") (at 55 78 2522)
          NoArguments) (MoreArguments (var 2 (codes "r") (at 55 85 2529)) (MoreArguments (var 30 (codes "x")
          (at 55 88 2532)) (MoreArguments (var 31 (codes "b") (at 55 91 2535)) NoArguments)))))
          (MoreArguments (var 29 (codes "v") (at 55 95 2539)) NoArguments)))));
    }

abbrev pub grow_9 : Case
grow_9 =
    record {
      pattern =
          ConstructorPattern 4 6 2 (codes "Right") (at 56 5 2547) (MorePatterns (ConstructorPattern 5 2 0
          (codes "Red") (at 56 11 2553) NoPatterns) (MorePatterns (taken 32 (codes "b") 2 (at 56 16 2558))
          (MorePatterns (taken 33 (codes "x") 0 (at 56 19 2561)) (MorePatterns (ConstructorPattern 4 6 2
          (codes "Right") (at 56 22 2564) (MorePatterns (taken 34 (codes "_") 5 (at 56 28 2570))
          (MorePatterns (taken 35 (codes "a") 2 (at 56 31 2573)) (MorePatterns (taken 36 (codes "y") 0
          (at 56 34 2576)) (MorePatterns (taken 37 (codes "v") 4 (at 56 37 2579)) NoPatterns)))))
          NoPatterns))));
      body =
          Last (Call 3 (codes "grow") (at 56 44 2586) (MoreArguments (Constructor 2 3 1 (codes "Node")
          (at 56 49 2591) (MoreArguments (Constructor 5 2 1 (codes "Black") (at 56 54 2596) NoArguments)
          (MoreArguments (var 35 (codes "a") (at 56 61 2603)) (MoreArguments (var 36 (codes "y")
          (at 56 64 2606)) (MoreArguments (var 32 (codes "b") (at 56 67 2609)) NoArguments)))))
          (MoreArguments (var 33 (codes "x") (at 56 71 2613)) (MoreArguments (Constructor 2 3 1
          (codes "Node") (at 56 74 2616) (MoreArguments (Constructor 5 2 1 (codes "Black") (at 56 79 2621)
          NoArguments) (MoreArguments (var 0 (codes "l") (at 56 86 2628)) (MoreArguments (var 1 (codes "k")
          (at 56 89 2631)) (MoreArguments (var 2 (codes "r") (at 56 92 2634)) NoArguments)))))
          (MoreArguments (var 37 (codes "v") (at 56 96 2638)) NoArguments)))));
    }

abbrev pub grow_body : Block
grow_body =
    Last (Match true 4 (at 47 3 1916) (var 3 (codes "w") (at 47 10 1923)) grow_1.pattern grow_1.body
    (MoreClauses grow_2.pattern grow_2.body (MoreClauses grow_3.pattern grow_3.body (MoreClauses
    grow_4.pattern grow_4.body (MoreClauses grow_5.pattern grow_5.body (MoreClauses grow_6.pattern
    grow_6.body (MoreClauses grow_7.pattern grow_7.body (MoreClauses grow_8.pattern grow_8.body (MoreClauses
    grow_9.pattern grow_9.body NoClauses)))))))))

abbrev pub grow : Instance
grow =
    record {
      name = codes "grow";
      place = (at 46 12 1873);
      root = true;
      kind = Fip;
      params = owned 2 ∷ owned 0 ∷ owned 2 ∷ owned 4 ∷ [];
      binders =
          bound 0 (codes "l") 2 (at 46 17 1878) ∷ bound 1 (codes "k") 0 (at 46 24 1885) ∷ bound 2
          (codes "r") 2 (at 46 32 1893) ∷ bound 3 (codes "w") 4 (at 46 39 1900) ∷ [];
      credits = 4 ∷ [];
      results = 2 ∷ [];
      results_place = None;
      signature_tuples = [];
      variables = 38;
      body = grow_body;
    }
