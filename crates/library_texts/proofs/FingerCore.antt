-- The core form of the text `finger`, written out, for the proof that its program is the one that is written out.
use Rattle.std.specs.Prelude.{pos, true, false, [], ◌∷◌, codes}
use Rattle.source_report.specs.fip_language.declared.FunKind.TheVariants.{Fip}
use Rattle.source_report.specs.fip_language.declared.Operator.TheVariants as O
use Rattle.source_report.specs.fip_language.Core.{WrittenInt, WrittenName, NoWritten, OneResult, TupleResult, Literal, Constructor, NoArguments, MoreArguments, BinderPattern, ConstructorPattern, NoPatterns, MorePatterns, Give, Tuple, Operation, Call, Match, Last, Let, NoClauses, MoreClauses, Block, Function, Data, Core}
use Rattle.library_programs.specs.Parts.{at}
use Rattle.library_texts.proofs.CoreParts.{bound, var}

abbrev need_body : Block
need_body = Last (Call (codes "full") (at 21 30 973) NoWritten (MoreArguments (var 0 (codes "s") (at 21 35 978)) (MoreArguments (Literal (pos 3) (at 21 38 981)) NoArguments)))

abbrev need : Function
need = record { kind = Fip; credits = []; name = codes "need"; place = (at 21 9 952); statics = []; parameters = (record { lent = true; binder = bound 0 (codes "s") (at 21 15 958); type = WrittenName (codes "seq") (at 21 18 961) NoWritten } ∷ []); result = OneResult (WrittenInt (at 21 24 967)); body = need_body }

abbrev full_body : Block
full_body = Last (Match false (at 24 3 1026) (var 0 (codes "s") (at 24 9 1032)) (MoreClauses (ConstructorPattern (codes "More") (at 25 5 1040) (MorePatterns (ConstructorPattern (codes "Three") (at 25 10 1045) (MorePatterns (BinderPattern (bound 2 (codes "_") (at 25 16 1051))) (MorePatterns (BinderPattern (bound 3 (codes "_") (at 25 19 1054))) (MorePatterns (BinderPattern (bound 4 (codes "_") (at 25 22 1057))) NoPatterns)))) (MorePatterns (BinderPattern (bound 5 (codes "q") (at 25 26 1061))) (MorePatterns (BinderPattern (bound 6 (codes "_") (at 25 29 1064))) NoPatterns)))) (Let (bound 7 (codes "_") (at 25 45 1080) ∷ []) (Operation O.Add (at 25 45 1080) (var 1 (codes "n") (at 25 43 1078)) (Literal (pos 1) (at 25 47 1082))) (Last (Call (codes "full") (at 25 35 1070) NoWritten (MoreArguments (var 5 (codes "q") (at 25 40 1075)) (MoreArguments (var 7 (codes "_") (at 25 45 1080)) NoArguments))))) (MoreClauses (BinderPattern (bound 8 (codes "_") (at 26 5 1090))) (Last (Give (var 1 (codes "n") (at 26 10 1095)))) NoClauses)))

abbrev full : Function
full = record { kind = Fip; credits = []; name = codes "full"; place = (at 23 9 995); statics = []; parameters = (record { lent = true; binder = bound 0 (codes "s") (at 23 15 1001); type = WrittenName (codes "seq") (at 23 18 1004) NoWritten } ∷ record { lent = false; binder = bound 1 (codes "n") (at 23 23 1009); type = WrittenInt (at 23 26 1012) } ∷ []); result = OneResult (WrittenInt (at 23 32 1018)); body = full_body }

abbrev holds_body : Block
holds_body = Let (bound 2 (codes "_") (at 32 8 1189) ∷ []) (Operation O.LessOrEqual (at 32 8 1189) (var 1 (codes "n") (at 32 6 1187)) (Literal (pos 0) (at 32 11 1192))) (Last (Match false (at 32 3 1184) (var 2 (codes "_") (at 32 8 1189)) (MoreClauses (ConstructorPattern (codes "True") (at 32 3 1184) NoPatterns) (Last (Give (Constructor (codes "True") (at 32 15 1196) NoArguments))) (MoreClauses (ConstructorPattern (codes "False") (at 32 3 1184) NoPatterns) (Last (Match false (at 33 10 1212) (var 0 (codes "p") (at 33 16 1218)) (MoreClauses (ConstructorPattern (codes "Done") (at 33 20 1222) NoPatterns) (Last (Give (Constructor (codes "False") (at 33 28 1230) NoArguments))) (MoreClauses (ConstructorPattern (codes "Pad3") (at 33 35 1237) (MorePatterns (BinderPattern (bound 3 (codes "_") (at 33 40 1242))) (MorePatterns (BinderPattern (bound 4 (codes "_") (at 33 43 1245))) (MorePatterns (BinderPattern (bound 5 (codes "q") (at 33 46 1248))) NoPatterns)))) (Let (bound 6 (codes "_") (at 33 63 1265) ∷ []) (Operation O.Subtract (at 33 63 1265) (var 1 (codes "n") (at 33 61 1263)) (Literal (pos 1) (at 33 65 1267))) (Last (Call (codes "holds") (at 33 52 1254) NoWritten (MoreArguments (var 5 (codes "q") (at 33 58 1260)) (MoreArguments (var 6 (codes "_") (at 33 63 1265)) NoArguments))))) NoClauses)))) NoClauses))))

abbrev holds : Function
holds = record { kind = Fip; credits = []; name = codes "holds"; place = (at 31 9 1148); statics = []; parameters = (record { lent = true; binder = bound 0 (codes "p") (at 31 16 1155); type = WrittenName (codes "spares") (at 31 19 1158) NoWritten } ∷ record { lent = false; binder = bound 1 (codes "n") (at 31 27 1166); type = WrittenInt (at 31 30 1169) } ∷ []); result = OneResult (WrittenName (codes "bool") (at 31 36 1175) NoWritten); body = holds_body }

abbrev cons_body : Block
cons_body = Let (bound 3 (codes "n") (at 39 7 1466) ∷ []) (Call (codes "need") (at 39 11 1470) NoWritten (MoreArguments (var 1 (codes "s") (at 39 16 1475)) NoArguments)) (Let (bound 4 (codes "enough") (at 40 7 1485) ∷ []) (Call (codes "holds") (at 40 16 1494) NoWritten (MoreArguments (var 2 (codes "p") (at 40 22 1500)) (MoreArguments (var 3 (codes "n") (at 40 25 1503)) NoArguments))) (Last (Match false (at 41 3 1509) (var 4 (codes "enough") (at 41 6 1512)) (MoreClauses (ConstructorPattern (codes "True") (at 41 3 1509) NoPatterns) (Last (Match true (at 42 5 1525) (var 2 (codes "p") (at 42 12 1532)) (MoreClauses (ConstructorPattern (codes "Pad3") (at 43 7 1542) (MorePatterns (BinderPattern (bound 5 (codes "_") (at 43 12 1547))) (MorePatterns (BinderPattern (bound 6 (codes "_") (at 43 15 1550))) (MorePatterns (ConstructorPattern (codes "Pad3") (at 43 18 1553) (MorePatterns (BinderPattern (bound 7 (codes "_") (at 43 23 1558))) (MorePatterns (BinderPattern (bound 8 (codes "_") (at 43 26 1561))) (MorePatterns (ConstructorPattern (codes "Pad3") (at 43 29 1564) (MorePatterns (BinderPattern (bound 9 (codes "_") (at 43 34 1569))) (MorePatterns (BinderPattern (bound 10 (codes "_") (at 43 37 1572))) (MorePatterns (BinderPattern (bound 11 (codes "q") (at 43 40 1575))) NoPatterns)))) NoPatterns)))) NoPatterns)))) (Let (bound 12 (codes "t") (at 44 14 1596) ∷ bound 13 (codes "left") (at 44 17 1599) ∷ []) (Call (codes "push") (at 44 25 1607) NoWritten (MoreArguments (Constructor (codes "Item") (at 44 30 1612) (MoreArguments (var 0 (codes "x") (at 44 35 1617)) (MoreArguments (Literal (pos 0) (at 44 38 1620)) (MoreArguments (Literal (pos 0) (at 44 41 1623)) NoArguments)))) (MoreArguments (var 1 (codes "s") (at 44 45 1627)) (MoreArguments (var 11 (codes "q") (at 44 48 1630)) (MoreArguments (Constructor (codes "Top") (at 44 51 1633) NoArguments) NoArguments))))) (Last (Tuple (at 45 9 1647) (MoreArguments (var 12 (codes "t") (at 45 10 1648)) (MoreArguments (var 13 (codes "left") (at 45 13 1651)) (MoreArguments (Constructor (codes "True") (at 45 19 1657) NoArguments) NoArguments)))))) (MoreClauses (BinderPattern (bound 14 (codes "q") (at 46 7 1670))) (Last (Tuple (at 46 12 1675) (MoreArguments (var 1 (codes "s") (at 46 13 1676)) (MoreArguments (var 14 (codes "q") (at 46 16 1679)) (MoreArguments (Constructor (codes "False") (at 46 19 1682) NoArguments) NoArguments))))) NoClauses)))) (MoreClauses (ConstructorPattern (codes "False") (at 41 3 1509) NoPatterns) (Last (Tuple (at 48 12 1706) (MoreArguments (var 1 (codes "s") (at 48 13 1707)) (MoreArguments (var 2 (codes "p") (at 48 16 1710)) (MoreArguments (Constructor (codes "False") (at 48 19 1713) NoArguments) NoArguments))))) NoClauses)))))

abbrev cons : Function
cons = record { kind = Fip; credits = []; name = codes "cons"; place = (at 38 9 1405); statics = []; parameters = (record { lent = false; binder = bound 0 (codes "x") (at 38 14 1410); type = WrittenInt (at 38 17 1413) } ∷ record { lent = false; binder = bound 1 (codes "s") (at 38 22 1418); type = WrittenName (codes "seq") (at 38 25 1421) NoWritten } ∷ record { lent = false; binder = bound 2 (codes "p") (at 38 30 1426); type = WrittenName (codes "spares") (at 38 33 1429) NoWritten } ∷ []); result = TupleResult (at 38 42 1438) (WrittenName (codes "seq") (at 38 43 1439) NoWritten ∷ WrittenName (codes "spares") (at 38 48 1444) NoWritten ∷ WrittenName (codes "bool") (at 38 56 1452) NoWritten ∷ []); body = cons_body }

abbrev push_body : Block
push_body = Last (Match true (at 56 3 2113) (var 1 (codes "s") (at 56 10 2120)) (MoreClauses (ConstructorPattern (codes "Empty") (at 57 5 2128) NoPatterns) (Let (bound 4 (codes "t") (at 58 11 2147) ∷ []) (Call (codes "close") (at 58 15 2151) NoWritten (MoreArguments (Constructor (codes "Unit") (at 58 21 2157) (MoreArguments (var 0 (codes "e") (at 58 26 2162)) (MoreArguments (Literal (pos 0) (at 58 29 2165)) (MoreArguments (Literal (pos 0) (at 58 32 2168)) NoArguments)))) (MoreArguments (var 3 (codes "w") (at 58 36 2172)) NoArguments))) (Last (Tuple (at 59 7 2182) (MoreArguments (var 4 (codes "t") (at 59 8 2183)) (MoreArguments (Constructor (codes "Pad3") (at 59 11 2186) (MoreArguments (Literal (pos 0) (at 59 16 2191)) (MoreArguments (Literal (pos 0) (at 59 19 2194)) (MoreArguments (var 2 (codes "p") (at 59 22 2197)) NoArguments)))) NoArguments))))) (MoreClauses (ConstructorPattern (codes "Unit") (at 60 5 2206) (MorePatterns (BinderPattern (bound 5 (codes "a") (at 60 10 2211))) (MorePatterns (BinderPattern (bound 6 (codes "_") (at 60 13 2214))) (MorePatterns (BinderPattern (bound 7 (codes "_") (at 60 16 2217))) NoPatterns)))) (Let (bound 8 (codes "t") (at 61 11 2233) ∷ []) (Call (codes "close") (at 61 15 2237) NoWritten (MoreArguments (Constructor (codes "More") (at 61 21 2243) (MoreArguments (Constructor (codes "One") (at 61 26 2248) (MoreArguments (var 0 (codes "e") (at 61 30 2252)) (MoreArguments (Literal (pos 0) (at 61 33 2255)) (MoreArguments (Literal (pos 0) (at 61 36 2258)) NoArguments)))) (MoreArguments (Constructor (codes "Empty") (at 61 40 2262) NoArguments) (MoreArguments (Constructor (codes "One") (at 61 47 2269) (MoreArguments (var 5 (codes "a") (at 61 51 2273)) (MoreArguments (Literal (pos 0) (at 61 54 2276)) (MoreArguments (Literal (pos 0) (at 61 57 2279)) NoArguments)))) NoArguments)))) (MoreArguments (var 3 (codes "w") (at 61 62 2284)) NoArguments))) (Last (Tuple (at 62 7 2294) (MoreArguments (var 8 (codes "t") (at 62 8 2295)) (MoreArguments (var 2 (codes "p") (at 62 11 2298)) NoArguments))))) (MoreClauses (ConstructorPattern (codes "More") (at 63 5 2306) (MorePatterns (ConstructorPattern (codes "One") (at 63 10 2311) (MorePatterns (BinderPattern (bound 9 (codes "a") (at 63 14 2315))) (MorePatterns (BinderPattern (bound 10 (codes "_") (at 63 17 2318))) (MorePatterns (BinderPattern (bound 11 (codes "_") (at 63 20 2321))) NoPatterns)))) (MorePatterns (BinderPattern (bound 12 (codes "q") (at 63 24 2325))) (MorePatterns (BinderPattern (bound 13 (codes "r") (at 63 27 2328))) NoPatterns)))) (Let (bound 14 (codes "t") (at 64 11 2344) ∷ []) (Call (codes "close") (at 64 15 2348) NoWritten (MoreArguments (Constructor (codes "More") (at 64 21 2354) (MoreArguments (Constructor (codes "Two") (at 64 26 2359) (MoreArguments (var 0 (codes "e") (at 64 30 2363)) (MoreArguments (var 9 (codes "a") (at 64 33 2366)) (MoreArguments (Literal (pos 0) (at 64 36 2369)) NoArguments)))) (MoreArguments (var 12 (codes "q") (at 64 40 2373)) (MoreArguments (var 13 (codes "r") (at 64 43 2376)) NoArguments)))) (MoreArguments (var 3 (codes "w") (at 64 47 2380)) NoArguments))) (Last (Tuple (at 65 7 2390) (MoreArguments (var 14 (codes "t") (at 65 8 2391)) (MoreArguments (Constructor (codes "Pad3") (at 65 11 2394) (MoreArguments (Literal (pos 0) (at 65 16 2399)) (MoreArguments (Literal (pos 0) (at 65 19 2402)) (MoreArguments (Constructor (codes "Pad3") (at 65 22 2405) (MoreArguments (Literal (pos 0) (at 65 27 2410)) (MoreArguments (Literal (pos 0) (at 65 30 2413)) (MoreArguments (var 2 (codes "p") (at 65 33 2416)) NoArguments)))) NoArguments)))) NoArguments))))) (MoreClauses (ConstructorPattern (codes "More") (at 66 5 2426) (MorePatterns (ConstructorPattern (codes "Two") (at 66 10 2431) (MorePatterns (BinderPattern (bound 15 (codes "a") (at 66 14 2435))) (MorePatterns (BinderPattern (bound 16 (codes "b") (at 66 17 2438))) (MorePatterns (BinderPattern (bound 17 (codes "_") (at 66 20 2441))) NoPatterns)))) (MorePatterns (BinderPattern (bound 18 (codes "q") (at 66 24 2445))) (MorePatterns (BinderPattern (bound 19 (codes "r") (at 66 27 2448))) NoPatterns)))) (Let (bound 20 (codes "t") (at 67 11 2464) ∷ []) (Call (codes "close") (at 67 15 2468) NoWritten (MoreArguments (Constructor (codes "More") (at 67 21 2474) (MoreArguments (Constructor (codes "Three") (at 67 26 2479) (MoreArguments (var 0 (codes "e") (at 67 32 2485)) (MoreArguments (var 15 (codes "a") (at 67 35 2488)) (MoreArguments (var 16 (codes "b") (at 67 38 2491)) NoArguments)))) (MoreArguments (var 18 (codes "q") (at 67 42 2495)) (MoreArguments (var 19 (codes "r") (at 67 45 2498)) NoArguments)))) (MoreArguments (var 3 (codes "w") (at 67 49 2502)) NoArguments))) (Last (Tuple (at 68 7 2512) (MoreArguments (var 20 (codes "t") (at 68 8 2513)) (MoreArguments (Constructor (codes "Pad3") (at 68 11 2516) (MoreArguments (Literal (pos 0) (at 68 16 2521)) (MoreArguments (Literal (pos 0) (at 68 19 2524)) (MoreArguments (Constructor (codes "Pad3") (at 68 22 2527) (MoreArguments (Literal (pos 0) (at 68 27 2532)) (MoreArguments (Literal (pos 0) (at 68 30 2535)) (MoreArguments (var 2 (codes "p") (at 68 33 2538)) NoArguments)))) NoArguments)))) NoArguments))))) (MoreClauses (ConstructorPattern (codes "More") (at 69 5 2548) (MorePatterns (ConstructorPattern (codes "Three") (at 69 10 2553) (MorePatterns (BinderPattern (bound 21 (codes "a") (at 69 16 2559))) (MorePatterns (BinderPattern (bound 22 (codes "b") (at 69 19 2562))) (MorePatterns (BinderPattern (bound 23 (codes "c") (at 69 22 2565))) NoPatterns)))) (MorePatterns (BinderPattern (bound 24 (codes "q") (at 69 26 2569))) (MorePatterns (BinderPattern (bound 25 (codes "r") (at 69 29 2572))) NoPatterns)))) (Last (Match true (at 69 35 2578) (var 2 (codes "p") (at 69 42 2585)) (MoreClauses (ConstructorPattern (codes "Pad3") (at 70 7 2595) (MorePatterns (BinderPattern (bound 26 (codes "_") (at 70 12 2600))) (MorePatterns (BinderPattern (bound 27 (codes "_") (at 70 15 2603))) (MorePatterns (BinderPattern (bound 28 (codes "o") (at 70 18 2606))) NoPatterns)))) (Last (Call (codes "push") (at 70 24 2612) NoWritten (MoreArguments (Constructor (codes "Pair") (at 70 29 2617) (MoreArguments (var 22 (codes "b") (at 70 34 2622)) (MoreArguments (var 23 (codes "c") (at 70 37 2625)) (MoreArguments (Literal (pos 0) (at 70 40 2628)) NoArguments)))) (MoreArguments (var 24 (codes "q") (at 70 44 2632)) (MoreArguments (var 28 (codes "o") (at 70 47 2635)) (MoreArguments (Constructor (codes "Around") (at 70 50 2638) (MoreArguments (Constructor (codes "Two") (at 70 57 2645) (MoreArguments (var 0 (codes "e") (at 70 61 2649)) (MoreArguments (var 21 (codes "a") (at 70 64 2652)) (MoreArguments (Literal (pos 0) (at 70 67 2655)) NoArguments)))) (MoreArguments (var 3 (codes "w") (at 70 71 2659)) (MoreArguments (var 25 (codes "r") (at 70 74 2662)) NoArguments)))) NoArguments)))))) (MoreClauses (ConstructorPattern (codes "Done") (at 71 7 2673) NoPatterns) (Let (bound 29 (codes "t") (at 72 13 2693) ∷ []) (Call (codes "close") (at 72 17 2697) NoWritten (MoreArguments (Constructor (codes "More") (at 72 23 2703) (MoreArguments (Constructor (codes "Three") (at 72 28 2708) (MoreArguments (var 0 (codes "e") (at 72 34 2714)) (MoreArguments (Constructor (codes "Pair") (at 72 37 2717) (MoreArguments (var 21 (codes "a") (at 72 42 2722)) (MoreArguments (var 22 (codes "b") (at 72 45 2725)) (MoreArguments (Literal (pos 0) (at 72 48 2728)) NoArguments)))) (MoreArguments (var 23 (codes "c") (at 72 52 2732)) NoArguments)))) (MoreArguments (var 24 (codes "q") (at 72 56 2736)) (MoreArguments (var 25 (codes "r") (at 72 59 2739)) NoArguments)))) (MoreArguments (var 3 (codes "w") (at 72 63 2743)) NoArguments))) (Last (Tuple (at 73 9 2755) (MoreArguments (var 29 (codes "t") (at 73 10 2756)) (MoreArguments (Constructor (codes "Pad3") (at 73 13 2759) (MoreArguments (Literal (pos 0) (at 73 18 2764)) (MoreArguments (Literal (pos 0) (at 73 21 2767)) (MoreArguments (Constructor (codes "Done") (at 73 24 2770) NoArguments) NoArguments)))) NoArguments))))) NoClauses)))) NoClauses))))))

abbrev push : Function
push = record { kind = Fip; credits = (record { place = (at 55 5 2043); size_place = (at 55 6 2044); size = 3 } ∷ record { place = (at 55 8 2046); size_place = (at 55 9 2047); size = 3 } ∷ []); name = codes "push"; place = (at 55 15 2053); statics = []; parameters = (record { lent = false; binder = bound 0 (codes "e") (at 55 20 2058); type = WrittenName (codes "elem") (at 55 23 2061) NoWritten } ∷ record { lent = false; binder = bound 1 (codes "s") (at 55 29 2067); type = WrittenName (codes "seq") (at 55 32 2070) NoWritten } ∷ record { lent = false; binder = bound 2 (codes "p") (at 55 37 2075); type = WrittenName (codes "spares") (at 55 40 2078) NoWritten } ∷ record { lent = false; binder = bound 3 (codes "w") (at 55 48 2086); type = WrittenName (codes "way") (at 55 51 2089) NoWritten } ∷ []); result = TupleResult (at 55 57 2095) (WrittenName (codes "seq") (at 55 58 2096) NoWritten ∷ WrittenName (codes "spares") (at 55 63 2101) NoWritten ∷ []); body = push_body }

abbrev close_body : Block
close_body = Last (Match true (at 80 3 2874) (var 1 (codes "w") (at 80 10 2881)) (MoreClauses (ConstructorPattern (codes "Top") (at 81 5 2889) NoPatterns) (Last (Give (var 0 (codes "s") (at 81 12 2896)))) (MoreClauses (ConstructorPattern (codes "Around") (at 82 5 2903) (MorePatterns (BinderPattern (bound 2 (codes "front") (at 82 12 2910))) (MorePatterns (BinderPattern (bound 3 (codes "v") (at 82 19 2917))) (MorePatterns (BinderPattern (bound 4 (codes "back") (at 82 22 2920))) NoPatterns)))) (Last (Call (codes "close") (at 82 31 2929) NoWritten (MoreArguments (Constructor (codes "More") (at 82 37 2935) (MoreArguments (var 2 (codes "front") (at 82 42 2940)) (MoreArguments (var 0 (codes "s") (at 82 49 2947)) (MoreArguments (var 4 (codes "back") (at 82 52 2950)) NoArguments)))) (MoreArguments (var 3 (codes "v") (at 82 59 2957)) NoArguments)))) NoClauses)))

abbrev close : Function
close = record { kind = Fip; credits = []; name = codes "close"; place = (at 79 9 2843); statics = []; parameters = (record { lent = false; binder = bound 0 (codes "s") (at 79 15 2849); type = WrittenName (codes "seq") (at 79 18 2852) NoWritten } ∷ record { lent = false; binder = bound 1 (codes "w") (at 79 23 2857); type = WrittenName (codes "way") (at 79 26 2860) NoWritten } ∷ []); result = OneResult (WrittenName (codes "seq") (at 79 32 2866) NoWritten); body = close_body }

abbrev data_elem : Data
data_elem = record { name = codes "elem"; place = (at 8 6 331); parameters = []; constructors = (record { name = codes "Item"; place = (at 8 13 338); fields = (WrittenInt (at 8 18 343) ∷ WrittenInt (at 8 23 348) ∷ WrittenInt (at 8 28 353) ∷ []) } ∷ record { name = codes "Pair"; place = (at 8 34 359); fields = (WrittenName (codes "elem") (at 8 39 364) NoWritten ∷ WrittenName (codes "elem") (at 8 45 370) NoWritten ∷ WrittenInt (at 8 51 376) ∷ []) } ∷ record { name = codes "Triple"; place = (at 8 57 382); fields = (WrittenName (codes "elem") (at 8 64 389) NoWritten ∷ WrittenName (codes "elem") (at 8 70 395) NoWritten ∷ WrittenName (codes "elem") (at 8 76 401) NoWritten ∷ []) } ∷ []) }

abbrev data_some : Data
data_some = record { name = codes "some"; place = (at 9 6 414); parameters = []; constructors = (record { name = codes "One"; place = (at 9 13 421); fields = (WrittenName (codes "elem") (at 9 17 425) NoWritten ∷ WrittenInt (at 9 23 431) ∷ WrittenInt (at 9 28 436) ∷ []) } ∷ record { name = codes "Two"; place = (at 9 34 442); fields = (WrittenName (codes "elem") (at 9 38 446) NoWritten ∷ WrittenName (codes "elem") (at 9 44 452) NoWritten ∷ WrittenInt (at 9 50 458) ∷ []) } ∷ record { name = codes "Three"; place = (at 9 56 464); fields = (WrittenName (codes "elem") (at 9 62 470) NoWritten ∷ WrittenName (codes "elem") (at 9 68 476) NoWritten ∷ WrittenName (codes "elem") (at 9 74 482) NoWritten ∷ []) } ∷ []) }

abbrev data_seq : Data
data_seq = record { name = codes "seq"; place = (at 10 6 495); parameters = []; constructors = (record { name = codes "Empty"; place = (at 10 12 501); fields = [] } ∷ record { name = codes "Unit"; place = (at 10 19 508); fields = (WrittenName (codes "elem") (at 10 24 513) NoWritten ∷ WrittenInt (at 10 30 519) ∷ WrittenInt (at 10 35 524) ∷ []) } ∷ record { name = codes "More"; place = (at 10 41 530); fields = (WrittenName (codes "some") (at 10 46 535) NoWritten ∷ WrittenName (codes "seq") (at 10 52 541) NoWritten ∷ WrittenName (codes "some") (at 10 57 546) NoWritten ∷ []) } ∷ []) }

abbrev data_spares : Data
data_spares = record { name = codes "spares"; place = (at 13 6 593); parameters = []; constructors = (record { name = codes "Done"; place = (at 13 15 602); fields = [] } ∷ record { name = codes "Pad3"; place = (at 13 21 608); fields = (WrittenInt (at 13 26 613) ∷ WrittenInt (at 13 31 618) ∷ WrittenName (codes "spares") (at 13 36 623) NoWritten ∷ []) } ∷ []) }

abbrev data_way : Data
data_way = record { name = codes "way"; place = (at 16 6 721); parameters = []; constructors = (record { name = codes "Top"; place = (at 16 12 727); fields = [] } ∷ record { name = codes "Around"; place = (at 16 17 732); fields = (WrittenName (codes "some") (at 16 24 739) NoWritten ∷ WrittenName (codes "way") (at 16 30 745) NoWritten ∷ WrittenName (codes "some") (at 16 35 750) NoWritten ∷ []) } ∷ []) }

abbrev pub finger_core : Core
finger_core = record { types = (data_elem ∷ data_some ∷ data_seq ∷ data_spares ∷ data_way ∷ []); functions = (need ∷ full ∷ holds ∷ cons ∷ push ∷ close ∷ []) }
