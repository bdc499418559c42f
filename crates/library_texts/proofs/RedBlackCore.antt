-- The core form of the text `rbtree`, written out, for the proof that its program is the one that is written out.
use Rattle.std.specs.Prelude.{true, false, [], ◌∷◌, codes}
use Rattle.source_report.specs.fip_language.declared.FunKind.TheVariants.{Fip, Fbip}
use Rattle.source_report.specs.fip_language.declared.Operator.TheVariants as O
use Rattle.source_report.specs.fip_language.Core.{WrittenInt, WrittenName, NoWritten, MoreWritten, OneResult, TupleResult, Constructor, NoArguments, MoreArguments, BinderPattern, ConstructorPattern, NoPatterns, MorePatterns, Give, Tuple, Operation, Call, Match, Last, Let, NoClauses, MoreClauses, Block, Function, Data, Core}
use Rattle.library_programs.specs.Parts.{at}
use Rattle.library_texts.proofs.CoreParts.{bound, var}

abbrev insert_body : Block
insert_body = Last (Call (codes "search") (at 18 58 858) NoWritten (MoreArguments (var 0 (codes "t") (at 18 65 865)) (MoreArguments (var 1 (codes "k") (at 18 68 868)) (MoreArguments (var 2 (codes "p") (at 18 71 871)) (MoreArguments (Constructor (codes "Top") (at 18 74 874) NoArguments) NoArguments)))))

abbrev insert : Function
insert = record { kind = Fip; credits = []; name = codes "insert"; place = (at 18 9 809); statics = []; parameters = (record { lent = false; binder = bound 0 (codes "t") (at 18 16 816); type = WrittenName (codes "rb") (at 18 19 819) NoWritten } ∷ record { lent = false; binder = bound 1 (codes "k") (at 18 23 823); type = WrittenInt (at 18 26 826) } ∷ record { lent = false; binder = bound 2 (codes "p") (at 18 31 831); type = WrittenName (codes "pad") (at 18 34 834) NoWritten } ∷ []); result = TupleResult (at 18 40 840) (WrittenName (codes "rb") (at 18 41 841) NoWritten ∷ WrittenName (codes "pad") (at 18 45 845) NoWritten ∷ WrittenName (codes "bool") (at 18 50 850) NoWritten ∷ []); body = insert_body }

abbrev search_body : Block
search_body = Last (Match true (at 21 3 949) (var 0 (codes "t") (at 21 10 956)) (MoreClauses (ConstructorPattern (codes "Leaf") (at 22 5 964) NoPatterns) (Last (Match true (at 22 13 972) (var 2 (codes "p") (at 22 20 979)) (MoreClauses (ConstructorPattern (codes "Pad0") (at 23 7 989) NoPatterns) (Let (bound 4 (codes "s") (at 23 19 1001) ∷ []) (Call (codes "close") (at 23 23 1005) NoWritten (MoreArguments (Constructor (codes "Leaf") (at 23 29 1011) NoArguments) (MoreArguments (var 3 (codes "w") (at 23 35 1017)) NoArguments))) (Last (Tuple (at 23 39 1021) (MoreArguments (var 4 (codes "s") (at 23 40 1022)) (MoreArguments (Constructor (codes "Pad0") (at 23 43 1025) NoArguments) (MoreArguments (Constructor (codes "False") (at 23 49 1031) NoArguments) NoArguments)))))) (MoreClauses (ConstructorPattern (codes "Pad4") (at 24 7 1045) (MorePatterns (BinderPattern (bound 5 (codes "_") (at 24 12 1050))) (MorePatterns (BinderPattern (bound 6 (codes "_") (at 24 15 1053))) (MorePatterns (BinderPattern (bound 7 (codes "_") (at 24 18 1056))) (MorePatterns (BinderPattern (bound 8 (codes "_") (at 24 21 1059))) NoPatterns))))) (Let (bound 9 (codes "s") (at 24 31 1069) ∷ []) (Call (codes "grow") (at 24 35 1073) NoWritten (MoreArguments (Constructor (codes "Leaf") (at 24 40 1078) NoArguments) (MoreArguments (var 1 (codes "k") (at 24 46 1084)) (MoreArguments (Constructor (codes "Leaf") (at 24 49 1087) NoArguments) (MoreArguments (var 3 (codes "w") (at 24 55 1093)) NoArguments))))) (Last (Tuple (at 24 59 1097) (MoreArguments (var 9 (codes "s") (at 24 60 1098)) (MoreArguments (Constructor (codes "Pad0") (at 24 63 1101) NoArguments) (MoreArguments (Constructor (codes "True") (at 24 69 1107) NoArguments) NoArguments)))))) NoClauses)))) (MoreClauses (ConstructorPattern (codes "Node") (at 26 5 1124) (MorePatterns (BinderPattern (bound 10 (codes "c") (at 26 10 1129))) (MorePatterns (BinderPattern (bound 11 (codes "l") (at 26 13 1132))) (MorePatterns (BinderPattern (bound 12 (codes "x") (at 26 16 1135))) (MorePatterns (BinderPattern (bound 13 (codes "r") (at 26 19 1138))) NoPatterns))))) (Let (bound 14 (codes "_") (at 27 12 1155) ∷ []) (Operation O.Less (at 27 12 1155) (var 1 (codes "k") (at 27 10 1153)) (var 12 (codes "x") (at 27 14 1157))) (Last (Match false (at 27 7 1150) (var 14 (codes "_") (at 27 12 1155)) (MoreClauses (ConstructorPattern (codes "True") (at 27 7 1150) NoPatterns) (Last (Call (codes "search") (at 27 18 1161) NoWritten (MoreArguments (var 11 (codes "l") (at 27 25 1168)) (MoreArguments (var 1 (codes "k") (at 27 28 1171)) (MoreArguments (var 2 (codes "p") (at 27 31 1174)) (MoreArguments (Constructor (codes "Left") (at 27 34 1177) (MoreArguments (var 10 (codes "c") (at 27 39 1182)) (MoreArguments (var 3 (codes "w") (at 27 42 1185)) (MoreArguments (var 12 (codes "x") (at 27 45 1188)) (MoreArguments (var 13 (codes "r") (at 27 48 1191)) NoArguments))))) NoArguments)))))) (MoreClauses (ConstructorPattern (codes "False") (at 27 7 1150) NoPatterns) (Let (bound 15 (codes "_") (at 28 19 1215) ∷ []) (Operation O.Greater (at 28 19 1215) (var 1 (codes "k") (at 28 17 1213)) (var 12 (codes "x") (at 28 21 1217))) (Last (Match false (at 28 14 1210) (var 15 (codes "_") (at 28 19 1215)) (MoreClauses (ConstructorPattern (codes "True") (at 28 14 1210) NoPatterns) (Last (Call (codes "search") (at 28 25 1221) NoWritten (MoreArguments (var 13 (codes "r") (at 28 32 1228)) (MoreArguments (var 1 (codes "k") (at 28 35 1231)) (MoreArguments (var 2 (codes "p") (at 28 38 1234)) (MoreArguments (Constructor (codes "Right") (at 28 41 1237) (MoreArguments (var 10 (codes "c") (at 28 47 1243)) (MoreArguments (var 11 (codes "l") (at 28 50 1246)) (MoreArguments (var 12 (codes "x") (at 28 53 1249)) (MoreArguments (var 3 (codes "w") (at 28 56 1252)) NoArguments))))) NoArguments)))))) (MoreClauses (ConstructorPattern (codes "False") (at 28 14 1210) NoPatterns) (Let (bound 16 (codes "s") (at 29 18 1275) ∷ []) (Call (codes "close") (at 29 22 1279) NoWritten (MoreArguments (Constructor (codes "Node") (at 29 28 1285) (MoreArguments (var 10 (codes "c") (at 29 33 1290)) (MoreArguments (var 11 (codes "l") (at 29 36 1293)) (MoreArguments (var 12 (codes "x") (at 29 39 1296)) (MoreArguments (var 13 (codes "r") (at 29 42 1299)) NoArguments))))) (MoreArguments (var 3 (codes "w") (at 29 46 1303)) NoArguments))) (Last (Tuple (at 29 50 1307) (MoreArguments (var 16 (codes "s") (at 29 51 1308)) (MoreArguments (var 2 (codes "p") (at 29 54 1311)) (MoreArguments (Constructor (codes "True") (at 29 57 1314) NoArguments) NoArguments)))))) NoClauses))))) NoClauses))))) NoClauses)))

abbrev search : Function
search = record { kind = Fip; credits = []; name = codes "search"; place = (at 20 9 890); statics = []; parameters = (record { lent = false; binder = bound 0 (codes "t") (at 20 16 897); type = WrittenName (codes "rb") (at 20 19 900) NoWritten } ∷ record { lent = false; binder = bound 1 (codes "k") (at 20 23 904); type = WrittenInt (at 20 26 907) } ∷ record { lent = false; binder = bound 2 (codes "p") (at 20 31 912); type = WrittenName (codes "pad") (at 20 34 915) NoWritten } ∷ record { lent = false; binder = bound 3 (codes "w") (at 20 39 920); type = WrittenName (codes "way") (at 20 42 923) NoWritten } ∷ []); result = TupleResult (at 20 48 929) (WrittenName (codes "rb") (at 20 49 930) NoWritten ∷ WrittenName (codes "pad") (at 20 53 934) NoWritten ∷ WrittenName (codes "bool") (at 20 58 939) NoWritten ∷ []); body = search_body }

abbrev close_body : Block
close_body = Last (Match true (at 35 3 1408) (var 1 (codes "w") (at 35 10 1415)) (MoreClauses (ConstructorPattern (codes "Top") (at 36 5 1423) NoPatterns) (Last (Give (var 0 (codes "t") (at 36 12 1430)))) (MoreClauses (ConstructorPattern (codes "Left") (at 37 5 1437) (MorePatterns (BinderPattern (bound 2 (codes "c") (at 37 10 1442))) (MorePatterns (BinderPattern (bound 3 (codes "v") (at 37 13 1445))) (MorePatterns (BinderPattern (bound 4 (codes "x") (at 37 16 1448))) (MorePatterns (BinderPattern (bound 5 (codes "r") (at 37 19 1451))) NoPatterns))))) (Last (Call (codes "close") (at 37 25 1457) NoWritten (MoreArguments (Constructor (codes "Node") (at 37 31 1463) (MoreArguments (var 2 (codes "c") (at 37 36 1468)) (MoreArguments (var 0 (codes "t") (at 37 39 1471)) (MoreArguments (var 4 (codes "x") (at 37 42 1474)) (MoreArguments (var 5 (codes "r") (at 37 45 1477)) NoArguments))))) (MoreArguments (var 3 (codes "v") (at 37 49 1481)) NoArguments)))) (MoreClauses (ConstructorPattern (codes "Right") (at 38 5 1489) (MorePatterns (BinderPattern (bound 6 (codes "c") (at 38 11 1495))) (MorePatterns (BinderPattern (bound 7 (codes "l") (at 38 14 1498))) (MorePatterns (BinderPattern (bound 8 (codes "x") (at 38 17 1501))) (MorePatterns (BinderPattern (bound 9 (codes "v") (at 38 20 1504))) NoPatterns))))) (Last (Call (codes "close") (at 38 26 1510) NoWritten (MoreArguments (Constructor (codes "Node") (at 38 32 1516) (MoreArguments (var 6 (codes "c") (at 38 37 1521)) (MoreArguments (var 7 (codes "l") (at 38 40 1524)) (MoreArguments (var 8 (codes "x") (at 38 43 1527)) (MoreArguments (var 0 (codes "t") (at 38 46 1530)) NoArguments))))) (MoreArguments (var 9 (codes "v") (at 38 50 1534)) NoArguments)))) NoClauses))))

abbrev close : Function
close = record { kind = Fip; credits = []; name = codes "close"; place = (at 34 9 1379); statics = []; parameters = (record { lent = false; binder = bound 0 (codes "t") (at 34 15 1385); type = WrittenName (codes "rb") (at 34 18 1388) NoWritten } ∷ record { lent = false; binder = bound 1 (codes "w") (at 34 22 1392); type = WrittenName (codes "way") (at 34 25 1395) NoWritten } ∷ []); result = OneResult (WrittenName (codes "rb") (at 34 31 1401) NoWritten); body = close_body }

abbrev grow_body : Block
grow_body = Last (Match true (at 47 3 1916) (var 3 (codes "w") (at 47 10 1923)) (MoreClauses (ConstructorPattern (codes "Top") (at 48 5 1931) NoPatterns) (Last (Give (Constructor (codes "Node") (at 48 12 1938) (MoreArguments (Constructor (codes "Black") (at 48 17 1943) NoArguments) (MoreArguments (var 0 (codes "l") (at 48 24 1950)) (MoreArguments (var 1 (codes "k") (at 48 27 1953)) (MoreArguments (var 2 (codes "r") (at 48 30 1956)) NoArguments))))))) (MoreClauses (ConstructorPattern (codes "Left") (at 49 5 1964) (MorePatterns (ConstructorPattern (codes "Black") (at 49 10 1969) NoPatterns) (MorePatterns (BinderPattern (bound 4 (codes "v") (at 49 17 1976))) (MorePatterns (BinderPattern (bound 5 (codes "x") (at 49 20 1979))) (MorePatterns (BinderPattern (bound 6 (codes "s") (at 49 23 1982))) NoPatterns))))) (Last (Call (codes "close") (at 49 29 1988) NoWritten (MoreArguments (Constructor (codes "Node") (at 49 35 1994) (MoreArguments (Constructor (codes "Black") (at 49 40 1999) NoArguments) (MoreArguments (Constructor (codes "Node") (at 49 47 2006) (MoreArguments (Constructor (codes "Red") (at 49 52 2011) NoArguments) (MoreArguments (var 0 (codes "l") (at 49 57 2016)) (MoreArguments (var 1 (codes "k") (at 49 60 2019)) (MoreArguments (var 2 (codes "r") (at 49 63 2022)) NoArguments))))) (MoreArguments (var 5 (codes "x") (at 49 67 2026)) (MoreArguments (var 6 (codes "s") (at 49 70 2029)) NoArguments))))) (MoreArguments (var 4 (codes "v") (at 49 74 2033)) NoArguments)))) (MoreClauses (ConstructorPattern (codes "Right") (at 50 5 2041) (MorePatterns (ConstructorPattern (codes "Black") (at 50 11 2047) NoPatterns) (MorePatterns (BinderPattern (bound 7 (codes "s") (at 50 18 2054))) (MorePatterns (BinderPattern (bound 8 (codes "x") (at 50 21 2057))) (MorePatterns (BinderPattern (bound 9 (codes "v") (at 50 24 2060))) NoPatterns))))) (Last (Call (codes "close") (at 50 30 2066) NoWritten (MoreArguments (Constructor (codes "Node") (at 50 36 2072) (MoreArguments (Constructor (codes "Black") (at 50 41 2077) NoArguments) (MoreArguments (var 7 (codes "s") (at 50 48 2084)) (MoreArguments (var 8 (codes "x") (at 50 51 2087)) (MoreArguments (Constructor (codes "Node") (at 50 54 2090) (MoreArguments (Constructor (codes "Red") (at 50 59 2095) NoArguments) (MoreArguments (var 0 (codes "l") (at 50 64 2100)) (MoreArguments (var 1 (codes "k") (at 50 67 2103)) (MoreArguments (var 2 (codes "r") (at 50 70 2106)) NoArguments))))) NoArguments))))) (MoreArguments (var 9 (codes "v") (at 50 75 2111)) NoArguments)))) (MoreClauses (ConstructorPattern (codes "Left") (at 51 5 2119) (MorePatterns (ConstructorPattern (codes "Red") (at 51 10 2124) NoPatterns) (MorePatterns (ConstructorPattern (codes "Top") (at 51 15 2129) NoPatterns) (MorePatterns (BinderPattern (bound 10 (codes "x") (at 51 20 2134))) (MorePatterns (BinderPattern (bound 11 (codes "s") (at 51 23 2137))) NoPatterns))))) (Last (Give (Constructor (codes "Node") (at 51 29 2143) (MoreArguments (Constructor (codes "Black") (at 51 34 2148) NoArguments) (MoreArguments (Constructor (codes "Node") (at 51 41 2155) (MoreArguments (Constructor (codes "Red") (at 51 46 2160) NoArguments) (MoreArguments (var 0 (codes "l") (at 51 51 2165)) (MoreArguments (var 1 (codes "k") (at 51 54 2168)) (MoreArguments (var 2 (codes "r") (at 51 57 2171)) NoArguments))))) (MoreArguments (var 10 (codes "x") (at 51 61 2175)) (MoreArguments (var 11 (codes "s") (at 51 64 2178)) NoArguments))))))) (MoreClauses (ConstructorPattern (codes "Right") (at 52 5 2186) (MorePatterns (ConstructorPattern (codes "Red") (at 52 11 2192) NoPatterns) (MorePatterns (BinderPattern (bound 12 (codes "s") (at 52 16 2197))) (MorePatterns (BinderPattern (bound 13 (codes "x") (at 52 19 2200))) (MorePatterns (ConstructorPattern (codes "Top") (at 52 22 2203) NoPatterns) NoPatterns))))) (Last (Give (Constructor (codes "Node") (at 52 30 2211) (MoreArguments (Constructor (codes "Black") (at 52 35 2216) NoArguments) (MoreArguments (var 12 (codes "s") (at 52 42 2223)) (MoreArguments (var 13 (codes "x") (at 52 45 2226)) (MoreArguments (Constructor (codes "Node") (at 52 48 2229) (MoreArguments (Constructor (codes "Red") (at 52 53 2234) NoArguments) (MoreArguments (var 0 (codes "l") (at 52 58 2239)) (MoreArguments (var 1 (codes "k") (at 52 61 2242)) (MoreArguments (var 2 (codes "r") (at 52 64 2245)) NoArguments))))) NoArguments))))))) (MoreClauses (ConstructorPattern (codes "Left") (at 53 5 2254) (MorePatterns (ConstructorPattern (codes "Red") (at 53 10 2259) NoPatterns) (MorePatterns (ConstructorPattern (codes "Left") (at 53 15 2264) (MorePatterns (BinderPattern (bound 14 (codes "_") (at 53 20 2269))) (MorePatterns (BinderPattern (bound 15 (codes "v") (at 53 23 2272))) (MorePatterns (BinderPattern (bound 16 (codes "y") (at 53 26 2275))) (MorePatterns (BinderPattern (bound 17 (codes "b") (at 53 29 2278))) NoPatterns))))) (MorePatterns (BinderPattern (bound 18 (codes "x") (at 53 33 2282))) (MorePatterns (BinderPattern (bound 19 (codes "a") (at 53 36 2285))) NoPatterns))))) (Last (Call (codes "grow") (at 53 42 2291) NoWritten (MoreArguments (Constructor (codes "Node") (at 53 47 2296) (MoreArguments (Constructor (codes "Black") (at 53 52 2301) NoArguments) (MoreArguments (var 0 (codes "l") (at 53 59 2308)) (MoreArguments (var 1 (codes "k") (at 53 62 2311)) (MoreArguments (var 2 (codes "r") (at 53 65 2314)) NoArguments))))) (MoreArguments (var 18 (codes "x") (at 53 69 2318)) (MoreArguments (Constructor (codes "Node") (at 53 72 2321) (MoreArguments (Constructor (codes "Black") (at 53 77 2326) NoArguments) (MoreArguments (var 19 (codes "a") (at 53 84 2333)) (MoreArguments (var 16 (codes "y") (at 53 87 2336)) (MoreArguments (var 17 (codes "b") (at 53 90 2339)) NoArguments))))) (MoreArguments (var 15 (codes "v") (at 53 94 2343)) NoArguments)))))) (MoreClauses (ConstructorPattern (codes "Right") (at 54 5 2351) (MorePatterns (ConstructorPattern (codes "Red") (at 54 11 2357) NoPatterns) (MorePatterns (BinderPattern (bound 20 (codes "b") (at 54 16 2362))) (MorePatterns (BinderPattern (bound 21 (codes "x") (at 54 19 2365))) (MorePatterns (ConstructorPattern (codes "Left") (at 54 22 2368) (MorePatterns (BinderPattern (bound 22 (codes "_") (at 54 27 2373))) (MorePatterns (BinderPattern (bound 23 (codes "v") (at 54 30 2376))) (MorePatterns (BinderPattern (bound 24 (codes "y") (at 54 33 2379))) (MorePatterns (BinderPattern (bound 25 (codes "a") (at 54 36 2382))) NoPatterns))))) NoPatterns))))) (Last (Call (codes "grow") (at 54 43 2389) NoWritten (MoreArguments (Constructor (codes "Node") (at 54 48 2394) (MoreArguments (Constructor (codes "Black") (at 54 53 2399) NoArguments) (MoreArguments (var 20 (codes "b") (at 54 60 2406)) (MoreArguments (var 21 (codes "x") (at 54 63 2409)) (MoreArguments (var 0 (codes "l") (at 54 66 2412)) NoArguments))))) (MoreArguments (var 1 (codes "k") (at 54 70 2416)) (MoreArguments (Constructor (codes "Node") (at 54 73 2419) (MoreArguments (Constructor (codes "Black") (at 54 78 2424) NoArguments) (MoreArguments (var 2 (codes "r") (at 54 85 2431)) (MoreArguments (var 24 (codes "y") (at 54 88 2434)) (MoreArguments (var 25 (codes "a") (at 54 91 2437)) NoArguments))))) (MoreArguments (var 23 (codes "v") (at 54 95 2441)) NoArguments)))))) (MoreClauses (ConstructorPattern (codes "Left") (at 55 5 2449) (MorePatterns (ConstructorPattern (codes "Red") (at 55 10 2454) NoPatterns) (MorePatterns (ConstructorPattern (codes "Right") (at 55 15 2459) (MorePatterns (BinderPattern (bound 26 (codes "_") (at 55 21 2465))) (MorePatterns (BinderPattern (bound 27 (codes "a") (at 55 24 2468))) (MorePatterns (BinderPattern (bound 28 (codes "y") (at 55 27 2471))) (MorePatterns (BinderPattern (bound 29 (codes "v") (at 55 30 2474))) NoPatterns))))) (MorePatterns (BinderPattern (bound 30 (codes "x") (at 55 34 2478))) (MorePatterns (BinderPattern (bound 31 (codes "b") (at 55 37 2481))) NoPatterns))))) (Last (Call (codes "grow") (at 55 43 2487) NoWritten (MoreArguments (Constructor (codes "Node") (at 55 48 2492) (MoreArguments (Constructor (codes "Black") (at 55 53 2497) NoArguments) (MoreArguments (var 27 (codes "a") (at 55 60 2504)) (MoreArguments (var 28 (codes "y") (at 55 63 2507)) (MoreArguments (var 0 (codes "l") (at 55 66 2510)) NoArguments))))) (MoreArguments (var 1 (codes "k") (at 55 70 2514)) (MoreArguments (Constructor (codes "Node") (at 55 73 2517) (MoreArguments (Constructor (codes "Black") (at 55 78 2522) NoArguments) (MoreArguments (var 2 (codes "r") (at 55 85 2529)) (MoreArguments (var 30 (codes "x") (at 55 88 2532)) (MoreArguments (var 31 (codes "b") (at 55 91 2535)) NoArguments))))) (MoreArguments (var 29 (codes "v") (at 55 95 2539)) NoArguments)))))) (MoreClauses (ConstructorPattern (codes "Right") (at 56 5 2547) (MorePatterns (ConstructorPattern (codes "Red") (at 56 11 2553) NoPatterns) (MorePatterns (BinderPattern (bound 32 (codes "b") (at 56 16 2558))) (MorePatterns (BinderPattern (bound 33 (codes "x") (at 56 19 2561))) (MorePatterns (ConstructorPattern (codes "Right") (at 56 22 2564) (MorePatterns (BinderPattern (bound 34 (codes "_") (at 56 28 2570))) (MorePatterns (BinderPattern (bound 35 (codes "a") (at 56 31 2573))) (MorePatterns (BinderPattern (bound 36 (codes "y") (at 56 34 2576))) (MorePatterns (BinderPattern (bound 37 (codes "v") (at 56 37 2579))) NoPatterns))))) NoPatterns))))) (Last (Call (codes "grow") (at 56 44 2586) NoWritten (MoreArguments (Constructor (codes "Node") (at 56 49 2591) (MoreArguments (Constructor (codes "Black") (at 56 54 2596) NoArguments) (MoreArguments (var 35 (codes "a") (at 56 61 2603)) (MoreArguments (var 36 (codes "y") (at 56 64 2606)) (MoreArguments (var 32 (codes "b") (at 56 67 2609)) NoArguments))))) (MoreArguments (var 33 (codes "x") (at 56 71 2613)) (MoreArguments (Constructor (codes "Node") (at 56 74 2616) (MoreArguments (Constructor (codes "Black") (at 56 79 2621) NoArguments) (MoreArguments (var 0 (codes "l") (at 56 86 2628)) (MoreArguments (var 1 (codes "k") (at 56 89 2631)) (MoreArguments (var 2 (codes "r") (at 56 92 2634)) NoArguments))))) (MoreArguments (var 37 (codes "v") (at 56 96 2638)) NoArguments)))))) NoClauses))))))))))

abbrev grow : Function
grow = record { kind = Fip; credits = (record { place = (at 46 5 1866); size_place = (at 46 6 1867); size = 4 } ∷ []); name = codes "grow"; place = (at 46 12 1873); statics = []; parameters = (record { lent = false; binder = bound 0 (codes "l") (at 46 17 1878); type = WrittenName (codes "rb") (at 46 20 1881) NoWritten } ∷ record { lent = false; binder = bound 1 (codes "k") (at 46 24 1885); type = WrittenInt (at 46 27 1888) } ∷ record { lent = false; binder = bound 2 (codes "r") (at 46 32 1893); type = WrittenName (codes "rb") (at 46 35 1896) NoWritten } ∷ record { lent = false; binder = bound 3 (codes "w") (at 46 39 1900); type = WrittenName (codes "way") (at 46 42 1903) NoWritten } ∷ []); result = OneResult (WrittenName (codes "rb") (at 46 48 1909) NoWritten); body = grow_body }

abbrev member_body : Block
member_body = Last (Match false (at 62 3 2748) (var 0 (codes "t") (at 62 9 2754)) (MoreClauses (ConstructorPattern (codes "Leaf") (at 63 5 2762) NoPatterns) (Last (Give (Constructor (codes "False") (at 63 13 2770) NoArguments))) (MoreClauses (ConstructorPattern (codes "Node") (at 64 5 2781) (MorePatterns (BinderPattern (bound 2 (codes "_") (at 64 10 2786))) (MorePatterns (BinderPattern (bound 3 (codes "l") (at 64 13 2789))) (MorePatterns (BinderPattern (bound 4 (codes "x") (at 64 16 2792))) (MorePatterns (BinderPattern (bound 5 (codes "r") (at 64 19 2795))) NoPatterns))))) (Let (bound 6 (codes "_") (at 65 12 2812) ∷ []) (Operation O.Less (at 65 12 2812) (var 1 (codes "k") (at 65 10 2810)) (var 4 (codes "x") (at 65 14 2814))) (Last (Match false (at 65 7 2807) (var 6 (codes "_") (at 65 12 2812)) (MoreClauses (ConstructorPattern (codes "True") (at 65 7 2807) NoPatterns) (Last (Call (codes "member") (at 65 18 2818) NoWritten (MoreArguments (var 3 (codes "l") (at 65 25 2825)) (MoreArguments (var 1 (codes "k") (at 65 28 2828)) NoArguments)))) (MoreClauses (ConstructorPattern (codes "False") (at 65 7 2807) NoPatterns) (Let (bound 7 (codes "_") (at 65 45 2845) ∷ []) (Operation O.Greater (at 65 45 2845) (var 1 (codes "k") (at 65 43 2843)) (var 4 (codes "x") (at 65 47 2847))) (Last (Match false (at 65 40 2840) (var 7 (codes "_") (at 65 45 2845)) (MoreClauses (ConstructorPattern (codes "True") (at 65 40 2840) NoPatterns) (Last (Call (codes "member") (at 65 51 2851) NoWritten (MoreArguments (var 5 (codes "r") (at 65 58 2858)) (MoreArguments (var 1 (codes "k") (at 65 61 2861)) NoArguments)))) (MoreClauses (ConstructorPattern (codes "False") (at 65 40 2840) NoPatterns) (Last (Give (Constructor (codes "True") (at 65 73 2873) NoArguments))) NoClauses))))) NoClauses))))) NoClauses)))

abbrev member : Function
member = record { kind = Fip; credits = []; name = codes "member"; place = (at 61 9 2715); statics = []; parameters = (record { lent = true; binder = bound 0 (codes "t") (at 61 17 2723); type = WrittenName (codes "rb") (at 61 20 2726) NoWritten } ∷ record { lent = false; binder = bound 1 (codes "k") (at 61 24 2730); type = WrittenInt (at 61 27 2733) } ∷ []); result = OneResult (WrittenName (codes "bool") (at 61 33 2739) NoWritten); body = member_body }

abbrev build_body : Block
build_body = Last (Match true (at 72 3 3105) (var 0 (codes "keys") (at 72 10 3112)) (MoreClauses (ConstructorPattern (codes "Nil") (at 73 5 3123) NoPatterns) (Last (Give (var 2 (codes "t") (at 73 12 3130)))) (MoreClauses (ConstructorPattern (codes "Cons") (at 74 5 3137) (MorePatterns (BinderPattern (bound 3 (codes "k") (at 74 10 3142))) (MorePatterns (BinderPattern (bound 4 (codes "ks") (at 74 13 3145))) NoPatterns))) (Last (Match true (at 74 20 3152) (var 1 (codes "pads") (at 74 27 3159)) (MoreClauses (ConstructorPattern (codes "Nil") (at 75 7 3172) NoPatterns) (Last (Give (var 2 (codes "t") (at 75 14 3179)))) (MoreClauses (ConstructorPattern (codes "Cons") (at 76 7 3188) (MorePatterns (BinderPattern (bound 5 (codes "p") (at 76 12 3193))) (MorePatterns (BinderPattern (bound 6 (codes "ps") (at 76 15 3196))) NoPatterns))) (Let (bound 7 (codes "s") (at 76 27 3208) ∷ bound 8 (codes "_") (at 76 30 3211) ∷ bound 9 (codes "_") (at 76 33 3214) ∷ []) (Call (codes "insert") (at 76 38 3219) NoWritten (MoreArguments (var 2 (codes "t") (at 76 45 3226)) (MoreArguments (var 3 (codes "k") (at 76 48 3229)) (MoreArguments (var 5 (codes "p") (at 76 51 3232)) NoArguments)))) (Last (Call (codes "build") (at 76 55 3236) NoWritten (MoreArguments (var 4 (codes "ks") (at 76 61 3242)) (MoreArguments (var 6 (codes "ps") (at 76 65 3246)) (MoreArguments (var 7 (codes "s") (at 76 69 3250)) NoArguments)))))) NoClauses)))) NoClauses)))

abbrev build : Function
build = record { kind = Fbip; credits = []; name = codes "build"; place = (at 71 10 3050); statics = []; parameters = (record { lent = false; binder = bound 0 (codes "keys") (at 71 16 3056); type = WrittenName (codes "list") (at 71 22 3062) (MoreWritten (WrittenInt (at 71 27 3067)) NoWritten) } ∷ record { lent = false; binder = bound 1 (codes "pads") (at 71 33 3073); type = WrittenName (codes "list") (at 71 39 3079) (MoreWritten (WrittenName (codes "pad") (at 71 44 3084) NoWritten) NoWritten) } ∷ record { lent = false; binder = bound 2 (codes "t") (at 71 50 3090); type = WrittenName (codes "rb") (at 71 53 3093) NoWritten } ∷ []); result = OneResult (WrittenName (codes "rb") (at 71 58 3098) NoWritten); body = build_body }

abbrev data_color : Data
data_color = record { name = codes "color"; place = (at 7 6 293); parameters = []; constructors = (record { name = codes "Red"; place = (at 7 14 301); fields = [] } ∷ record { name = codes "Black"; place = (at 7 19 306); fields = [] } ∷ []) }

abbrev data_rb : Data
data_rb = record { name = codes "rb"; place = (at 8 6 319); parameters = []; constructors = (record { name = codes "Leaf"; place = (at 8 11 324); fields = [] } ∷ record { name = codes "Node"; place = (at 8 17 330); fields = (WrittenName (codes "color") (at 8 22 335) NoWritten ∷ WrittenName (codes "rb") (at 8 29 342) NoWritten ∷ WrittenInt (at 8 33 346) ∷ WrittenName (codes "rb") (at 8 38 351) NoWritten ∷ []) } ∷ []) }

abbrev data_pad : Data
data_pad = record { name = codes "pad"; place = (at 9 6 362); parameters = []; constructors = (record { name = codes "Pad0"; place = (at 9 12 368); fields = [] } ∷ record { name = codes "Pad4"; place = (at 9 18 374); fields = (WrittenInt (at 9 23 379) ∷ WrittenInt (at 9 28 384) ∷ WrittenInt (at 9 33 389) ∷ WrittenInt (at 9 38 394) ∷ []) } ∷ []) }

abbrev data_list : Data
data_list = record { name = codes "list"; place = (at 10 6 406); parameters = (record { name = codes "a"; place = (at 10 11 411) } ∷ []); constructors = (record { name = codes "Nil"; place = (at 10 16 416); fields = [] } ∷ record { name = codes "Cons"; place = (at 10 21 421); fields = (WrittenName (codes "a") (at 10 26 426) NoWritten ∷ WrittenName (codes "list") (at 10 29 429) (MoreWritten (WrittenName (codes "a") (at 10 34 434) NoWritten) NoWritten) ∷ []) } ∷ []) }

abbrev data_way : Data
data_way = record { name = codes "way"; place = (at 13 6 522); parameters = []; constructors = (record { name = codes "Top"; place = (at 13 12 528); fields = [] } ∷ record { name = codes "Left"; place = (at 13 17 533); fields = (WrittenName (codes "color") (at 13 22 538) NoWritten ∷ WrittenName (codes "way") (at 13 29 545) NoWritten ∷ WrittenInt (at 13 34 550) ∷ WrittenName (codes "rb") (at 13 39 555) NoWritten ∷ []) } ∷ record { name = codes "Right"; place = (at 13 44 560); fields = (WrittenName (codes "color") (at 13 50 566) NoWritten ∷ WrittenName (codes "rb") (at 13 57 573) NoWritten ∷ WrittenInt (at 13 61 577) ∷ WrittenName (codes "way") (at 13 66 582) NoWritten ∷ []) } ∷ []) }

abbrev pub rbtree_core : Core
rbtree_core = record { types = (data_color ∷ data_rb ∷ data_pad ∷ data_list ∷ data_way ∷ []); functions = (insert ∷ search ∷ close ∷ grow ∷ member ∷ build ∷ []) }
